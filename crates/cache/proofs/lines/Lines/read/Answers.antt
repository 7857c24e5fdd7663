use Rattle.std.proofs.Common.{◌≡◌, length, refl, arith, rules}
use Rattle.cache.proofs.Passing.{read_none}
use Rattle.cache.proofs.lines.Lines.read.Goals as goal

pub returns-then-is_empty : goal.returns-then-is_empty
returns-then-is_empty g c =
    let s = c.args.self.now in
    let d = c.read_inside.ensures in
    let z : length c.args.buf.now ≡ 0 = search rules in
    let p = read_none s.slots s.lines (g.S.Storage.means s.below) (g.S.Storage.means c.read_inside.new.s) c.requires.in_order d.in_order
    c.args.offset c.args.buf.now c.read_inside.new.buf c.read_inside.result z (omega arith) d.does in
    record { in_order = p.0; does = p.1; did = record { none = λ _. (d.did, refl); some = λ some. absurd (omega arith) } }
