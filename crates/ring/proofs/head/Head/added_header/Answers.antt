use Rattle.std.proofs.Common.{arith}
use Rattle.ring.proofs.Heads.{head_start, head_most}
use Rattle.ring.proofs.head.Head.added_header.Goals as goal

pub overflow_cast-result : goal.overflow_cast-result
overflow_cast-result c = let h = c.args.self in omega (arith, c.start.ensures, head_start h, head_most h)
