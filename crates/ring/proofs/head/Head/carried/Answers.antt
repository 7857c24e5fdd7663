use Rattle.std.proofs.Common.{arith}
use Rattle.ring.proofs.Growing.{carried_cases}
use Rattle.ring.proofs.head.Head.carried.Goals.{else-self-gt0-via-then-self-gt0+else-end-self, else-self-gt0-via-else-self-gt0}
use Rattle.ring.proofs.head.Head.carried.Goals as goal

pub returns-then-end-self : goal.returns-then-end-self
returns-then-end-self c = let h = c.args.self in omega (arith, carried_cases 16 h.header h.used)

pub returns-else-self-gt0 : goal.returns-else-self-gt0
returns-else-self-gt0 c =
    let h = c.args.self in
    elim c.else-self-gt0.branch [
      | else-self-gt0-via-then-self-gt0+else-end-self w ↦ omega (arith, carried_cases 16 h.header h.used)
      | else-self-gt0-via-else-self-gt0 w ↦ omega (arith, carried_cases 16 h.header h.used)
    ]
