-- The faults of a layer.
use Rattle.std.proofs.Common.{ℕ, List, [], ◌∷◌, refl, ap}
use Rattle.storage.specs.declared.refusal.LayerFault.{LayerFault}
use Rattle.storage.specs.declared.refusal.Link.{Link}
use Rattle.storage.specs.declared.refusal.Refusal.TheVariants.{Gone}
use Rattle.storage.specs.Layers.{Carries}
use Rattle.storage.specs.Refusals.{Step, step, told, Tells}

abbrev pub own : Link → List Step
own l = step l ∷ []

abbrev pub carried : {G : Type 0} → (G → List Step) → LayerFault G → List Step
carried links f = step f.link ∷ links f.below

pub tells_gone : {G : Type 0} (name : List ℕ) (links : G → List Step) (o : ℕ) (f : G) (g : LayerFault G) → Carries name o f g →
    Tells 2 name o (told own (carried links) (Gone g))
tells_gone name links o f g c = record { numbered = refl; below = links g.below; chained = ap (λ (s : Step). s ∷ links g.below) c.named }
