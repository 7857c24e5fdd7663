use Rattle.std.proofs.Common.{ap, ◌∙◌, nat_eq, ℕ}
use Rattle.ring.proofs.RingLengths.{doubled_largest}
use Rattle.ring.proofs.header.is_ring_length.Goals as goal

pub returns : goal.returns
returns c = ap (λ (n : ℕ). nat_eq n c.args.ring) c.largest_ring.ensures ∙ doubled_largest c.args.ring
