use Rattle.std.proofs.Common.{◌+◌, arith}
use Rattle.ring.proofs.Places.{place_cases}
use Rattle.ring.proofs.place.Place.behind.Goals.{then-n-room, else-n-room}
use Rattle.ring.proofs.place.Place.behind.Goals as goal

pub returns-clause-at : goal.returns-clause-at
returns-clause-at c =
    let p = c.args.self in
    elim c.if-n-room.branch [
      | then-n-room w ↦ omega (arith, place_cases 16 p.ring (p.at + c.args.n))
      | else-n-room w ↦ omega (arith, place_cases 16 p.ring (p.at + c.args.n))
    ]
