use Rattle.std.proofs.Common.{inl, inr, arith}
use Rattle.std.proofs.lemmas.Bool.{cases_lt}
use Rattle.ring.proofs.Walks.{walk_sound}
use Rattle.ring.proofs.walk.Walk.place.Goals as goal

pub place_of-requires : goal.place_of-requires
place_of-requires c =
    let k = c.args.self.now in
    elim (cases_lt 0 k.header.count) [
      | inl some ↦ omega (arith, k.room, k.least, (walk_sound k).from some)
      | inr none ↦ omega (arith, k.room, k.least, (walk_sound k).empty (omega arith))
    ]
