use Rattle.std.proofs.Common.{◌≡◌, ap, ◌∙◌, arith}
use Rattle.ring.specs.Ring.{place}
use Rattle.ring.specs.Steps.{end_place}
use Rattle.ring.proofs.Heads.{end_in, end_there}
use Rattle.ring.proofs.head.Head.end_place.Goals as goal

pub place_of-requires : goal.place_of-requires
place_of-requires c = let h = c.args.self in omega (arith, end_in h 0 (omega (arith, h.room)), c.end.ensures)

pub invariant_of-result : goal.invariant_of-result
invariant_of-result c =
    let h = c.args.self in
    let at : c.place_of.result ≡ end_place 16 h.header h.used = c.place_of.ensures ∙ ap (place 16 h.header.ring) c.end.ensures in
    record { from = omega (arith, end_there h); to = omega (arith, end_there h) }
