use Rattle.std.proofs.Common.{rules}
use Rattle.ring.specs.Headers.{sound}
use Rattle.ring.proofs.header.Header.is_sound.Goals as goal

pub returns-then-self-size : goal.returns-then-self-size
unfolding sound
returns-then-self-size c = search rules

pub returns-else-self-size : goal.returns-else-self-size
unfolding sound
returns-else-self-size c = search rules
