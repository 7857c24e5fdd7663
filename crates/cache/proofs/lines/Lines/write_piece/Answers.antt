use Rattle.std.proofs.Common.{ℕ, ◌/◌, ◌%◌, Ok, subst}
use Rattle.cache.specs.Steps.{Takes, Puts}
use Rattle.cache.proofs.lines.Lines.write_piece.Goals as goal

pub returns-clause-did : goal.returns-clause-did
returns-clause-did g c =
    let s = c.args.self.now in
    let e = c.hold.new.self in
    let d = c.in_ok-i.ensures in
    let at = c.args.at in (
      e,
      subst (λ (x : ℕ). Takes g.S.Storage.did g.S.Storage.means s (at / 512) (Ok x) e) d.does.1.0 d.did,
      subst (λ (x : ℕ). Puts e x (at / 512) (at % 512) c.args.bytes.now c.put.new.self) d.does.1.0 c.put.ensures.did,
    )
