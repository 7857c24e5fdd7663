use Rattle.std.proofs.Common.{arith}
use Rattle.ring.proofs.Walks.{walk_most}
use Rattle.ring.proofs.walk.Walk.has_room.Goals as goal

pub overflow_add-result : goal.overflow_add-result
overflow_add-result c = omega (arith, walk_most c.args.self.now)
