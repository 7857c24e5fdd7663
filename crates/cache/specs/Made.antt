-- Making a cache, and what a cut leaves of it.
--   Blank z         no line is held
--   Made f s n r    a cache of n lines over s, with no line held, and in order; or s back, where n is
--                   not 1 to 16
use Rattle.std.specs.Prelude.{◌≡◌, ℕ, ◌≤◌, false, List, Ok, Err, Result}
use Rattle.storage.specs.declared.refusal.BadMount.{BadMount}
use Rattle.storage.specs.Meaning.{Meaning}
use Rattle.cache.specs.declared.slot.Slot.{Slot}
use Rattle.cache.specs.declared.line.Line.TheVariants.{Empty}
use Rattle.cache.specs.declared.cache.Cache.{Cache}
use Rattle.cache.specs.Lines.{line}
use Rattle.cache.specs.Cached.{means_of}

abbrev pub Blank : List Slot → Type 0
Blank slots = (i : ℕ) → line slots i ≡ Empty

abbrev pub FewLines : ℕ → Type 0
FewLines n = (1 ≤ n) × (n ≤ 16)

pub record MadeOver {S : Type 0} (f : S → Meaning) (s : S) (n : ℕ) (c : Cache S) : Type 0 where
  pub few : FewLines n
  pub below : c.inner.below ≡ s
  pub lines : c.inner.lines ≡ n
  pub empty : Blank c.inner.slots
  pub untold : c.gone ≡ false
  pub in_order : (means_of f c).in_order
  pub visible : (means_of f c).visible ≡ (f s).visible

abbrev pub Made : {S : Type 0} → (S → Meaning) → S → ℕ → Result (Cache S) (BadMount S) → Type 0
Made f s n (Ok c) = MadeOver f s n c
Made f s n (Err e) = (FewLines n → ⊥) × (e.given ≡ s)
