-- The calls that were made on a storage, one after another.
--   Through did cs s s'       the calls cs led from s to s', and each of them was served
--   Stopped did cs c f s s'   the calls cs were served, and then the call c was answered GONE with the fault f
--   Made did cs r s s'        what led from s to s' with the result r: just the calls cs, in this order, all
--                             served, or as far as one that was answered GONE with the fault in r
--   Asked did P n r s s'      what led from s to s' with the result r: at most n calls, each of them one of P;
--                             all were served, or all but the last, which was answered GONE with the fault in r
use Rattle.std.specs.Prelude.{◌≡◌, ℕ, ◌<◌, ◌≤◌, ◌⊎◌, List, [], ◌∷◌, length, Ok, Err, Result}
use Rattle.std.specs.List.{AllByRecursion}
use Rattle.storage.specs.declared.refusal.Refusal.TheVariants.{Gone}
use Rattle.storage.specs.Refusals.{Answer}
use Rattle.storage.specs.Calls.{Call}

module _ {S O G : Type 0} (did : S → Call → Answer O G → S → Type 0) where
  abbrev pub Through : List Call → S → S → Type 0
  Through [] s s' = s' ≡ s
  Through (c ∷ cs) s s' = (t : S) × (did s c (Ok tt) t) × (Through cs t s')

  abbrev pub Stopped : List Call → Call → G → S → S → Type 0
  Stopped cs c f s s' = (t : S) × (Through cs s t) × (did t c (Err (Gone f)) s')

  abbrev pub Made : {A : Type 0} → List Call → Result A G → S → S → Type 0
  Made cs (Ok a) s s' = Through cs s s'
  Made [] (Err f) s s' = ⊥
  Made (c ∷ cs) (Err f) s s' = did s c (Err (Gone f)) s' ⊎ ((t : S) × (did s c (Ok tt) t) × (Made {A = Unit {0}} cs (Err f) t s'))

module _ {S O G : Type 0} (did : S → Call → Answer O G → S → Type 0) (P : Call → Type 0) where
  abbrev pub Asked : {A : Type 0} → ℕ → Result A G → S → S → Type 0
  Asked n (Ok a) s s' = (cs : List Call) × (AllByRecursion P cs) × (length cs ≤ n) × (Through did cs s s')
  Asked n (Err f) s s' = (cs : List Call) × (c : Call) × (AllByRecursion P cs) × (P c) × (length cs < n) × (Stopped did cs c f s s')
