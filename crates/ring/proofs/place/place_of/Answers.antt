use Rattle.std.proofs.Common.{arith}
use Rattle.ring.proofs.Places.{place_cases}
use Rattle.ring.proofs.place.place_of.Goals as goal

pub returns-then-position-ring : goal.returns-then-position-ring
returns-then-position-ring c = omega (arith, place_cases 16 c.args.ring c.args.position)

pub returns-else-position-ring : goal.returns-else-position-ring
returns-else-position-ring c = omega (arith, place_cases 16 c.args.ring c.args.position)
