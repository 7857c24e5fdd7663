use Rattle.std.proofs.Common.{arith}
use Rattle.ring.specs.Walking.{position}
use Rattle.ring.proofs.Places.{place_in}
use Rattle.ring.proofs.Walks.{walk_in}
use Rattle.ring.proofs.walk.Walk.next_place.Goals as goal

pub invariant_of-result : goal.invariant_of-result
invariant_of-result c =
    let k = c.args.self.now in
    let i = walk_in k (omega (arith, c.requires)) in
    let p = place_in 16 k.header.ring (position k) i.0 i.1 in
    record { from = omega (arith, p, c.place.ensures); to = omega (arith, p, c.place.ensures) }
