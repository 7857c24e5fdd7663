use Rattle.std.proofs.Common.{arith}
use Rattle.ring.proofs.Heads.{head_start, head_most}
use Rattle.ring.proofs.head.Head.end.Goals as goal

pub overflow_add-result : goal.overflow_add-result
overflow_add-result c = let h = c.args.self in omega (arith, head_start h, head_most h, h.room, c.start.ensures)
