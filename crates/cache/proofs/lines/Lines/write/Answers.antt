use Rattle.std.proofs.Common.{◌≡◌, length, refl, arith, rules}
use Rattle.cache.proofs.Passing.{write_none}
use Rattle.cache.proofs.lines.Lines.write.Goals as goal

pub returns-then-is_empty : goal.returns-then-is_empty
returns-then-is_empty g c =
    let s = c.args.self.now in
    let d = c.write_inside.ensures in
    let z : length c.args.bytes.now ≡ 0 = search rules in
    let p = write_none s.slots s.lines (g.S.Storage.means s.below) (g.S.Storage.means c.write_inside.new.s) c.requires.in_order d.in_order
    c.args.offset c.args.bytes.now c.write_inside.result z d.does in
    record { in_order = p.0; does = p.1; did = record { none = λ _. (d.did, refl); some = λ some. absurd (omega arith) } }
