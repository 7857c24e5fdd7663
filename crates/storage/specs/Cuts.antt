-- What a power cut leaves.
--   CutDone c m m'   the next mount shows the content c, one that might stand; it is then the
--                    only one, and the storage lives
--   OnCut            what a cut with these choice bytes did; a refused one left all as it was
use Rattle.std.specs.Prelude.{◌≡◌, ℕ, ◌<◌, List, length, Ok, Err, Result}
use Rattle.storage.specs.declared.life.Life.{Life}
use Rattle.storage.specs.declared.life.Life.TheVariants.{Endless}
use Rattle.storage.specs.declared.refusal.BadMount.{BadMount}
use Rattle.storage.specs.Meaning.{Meaning, Fresh}

pub record CutDone (content : List ℕ) (m m' : Meaning) : Type 0 where
  pub might : m.stands content
  pub fresh : Fresh content m'
  pub size : m'.size ≡ m.size

module _ {S : Type 0} (means : S → Meaning) (life : S → Life) (keeps : S → List ℕ → List ℕ) (choices : List ℕ) (s s' : S) where
  abbrev pub OnCut : Result (Unit {0}) (BadMount (Unit {0})) → Type 0
  OnCut (Ok _) = (0 < length choices) × CutDone (keeps s choices) (means s) (means s') × (life s' ≡ Endless)
  OnCut (Err e) = (length choices ≡ 0) × (s' ≡ s)
