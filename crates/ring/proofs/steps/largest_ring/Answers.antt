use Rattle.std.proofs.Common.{◌∙◌, arith, rules}
use Rattle.std.proofs.lemmas.Nat.{one_shl}
use Rattle.ring.proofs.RingLengths.{within_clamped}
use Rattle.ring.proofs.steps.largest_ring.Goals as goal

pub returns : goal.returns
returns c =
    one_shl c.ilog2.result 64 (omega arith) ∙ within_clamped c.ilog2.result c.args.size c.clamp-room.result (search rules) c.ilog2.ensures.power_le c.ilog2.ensures.next_power_gt
