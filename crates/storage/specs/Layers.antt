-- What a layer answers, from what the storage below answered to the call that it made.
--   Inside x           the answer x is not OUTSIDE
--   lowered r          the answer that the result r of a call within the size stands for
--   OnRange m z o n r  r declines just a range of n bytes at o that passes the size z, with the OUTSIDE
--                      of the layer m
--   Declined m o r     r is the OUTSIDE of the layer m itself, called with the offset o
--   Carries m o f g    the fault g of the layer m, called with the offset o, holds f whole
--   Lifted m o x r     the layer's answer r is the answer x from below, its fault carried
--   Lifts m o r x      the same of the result r of a call within the size
use Rattle.std.specs.Prelude.{◌≡◌, ℕ, ◌+◌, ◌<◌, ◌≤◌, List, Ok, Err, Result}
use Rattle.storage.specs.declared.refusal.LayerFault.{LayerFault}
use Rattle.storage.specs.declared.refusal.Link.{Link}
use Rattle.storage.specs.declared.refusal.Refusal.TheVariants.{Outside, Gone}
use Rattle.storage.specs.Refusals.{Answer, step}

abbrev pub Inside : {O G : Type 0} → Answer O G → Type 0
Inside (Ok _) = Unit {0}
Inside (Err (Outside f)) = ⊥
Inside (Err (Gone f)) = Unit {0}

abbrev pub lowered : {A O G : Type 0} → Result A G → Answer O G
lowered (Ok a) = Ok tt
lowered (Err f) = Err (Gone f)

abbrev pub OnRange : {G : Type 0} → List ℕ → ℕ → ℕ → ℕ → Answer Link G → Type 0
OnRange name size o n (Ok _) = o + n ≤ size
OnRange name size o n (Err (Outside l)) = (size < o + n) × (step l ≡ record { name = name; offset = o })
OnRange name size o n (Err (Gone f)) = ⊥

abbrev pub Declined : {G : Type 0} → List ℕ → ℕ → Answer Link G → Type 0
Declined name o (Ok _) = ⊥
Declined name o (Err (Outside l)) = step l ≡ record { name = name; offset = o }
Declined name o (Err (Gone f)) = ⊥

pub record Carries {F : Type 0} (name : List ℕ) (o : ℕ) (f : F) (g : LayerFault F) : Type 0 where
  pub named : step g.link ≡ record { name = name; offset = o }
  pub whole : g.below ≡ f

abbrev pub Lifted : {O G : Type 0} → List ℕ → ℕ → Answer O G → Answer Link (LayerFault G) → Type 0
Lifted name o (Ok _) (Ok _) = Unit {0}
Lifted name o (Ok _) (Err e) = ⊥
Lifted name o (Err (Outside f)) r = ⊥
Lifted name o (Err (Gone f)) (Ok _) = ⊥
Lifted name o (Err (Gone f)) (Err (Outside g)) = ⊥
Lifted name o (Err (Gone f)) (Err (Gone g)) = Carries name o f g

abbrev pub Lifts : {G : Type 0} → List ℕ → ℕ → Result (Unit {0}) G → Answer Link (LayerFault G) → Type 0
Lifts name o r x = Lifted {O = Unit {0}} name o (lowered r) x
