use Rattle.ring.proofs.Lawful.{reading_means, card_means}
use Rattle.ring.proofs.law.reading_law.Goals as goal

pub returns : goal.returns
returns c = record { reading = reading_means; card = card_means }
