use Rattle.std.proofs.Common.{length, arith, rules}
use Rattle.std.proofs.lemmas.Slice.{between_to_end}
use Rattle.ring.specs.Bytes.{at, number}
use Rattle.ring.proofs.header.take_number.Goals as goal

pub returns : goal.returns
unfolding at number
returns c = (search rules, omega arith, between_to_end c.args.bytes.now 4 (length c.args.bytes.now) (omega arith))
