use Rattle.std.proofs.Common.{arith}
use Rattle.ring.proofs.Keeping.{start_cases}
use Rattle.ring.proofs.head.Head.start.Goals as goal

pub returns-then-self-eq0 : goal.returns-then-self-eq0
returns-then-self-eq0 c = omega (arith, start_cases 16 c.args.self.header)

pub returns-else-self-eq0 : goal.returns-else-self-eq0
returns-else-self-eq0 c = omega (arith, start_cases 16 c.args.self.header)
