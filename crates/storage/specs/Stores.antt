-- A write that is synced at once.
--   OnStore         what it did, by the meaning before and after it
--   StoreCalls      which calls it made: a write and, unless that was declined, a sync; its
--                   answer is that of the last one, whole
--   OldOrNew        each content that may stand shows the bytes as they were, or the write whole
--   WholeCell o n   a range of n bytes at o is one cell
use Rattle.std.specs.Prelude.{◌≡◌, ℕ, ◌+◌, ◌%◌, ◌≤◌, false, ◌⊎◌, List, length, is_ok, Ok, Err}
use Rattle.storage.specs.declared.refusal.Refusal.TheVariants.{Outside, Gone}
use Rattle.storage.specs.Sizes.{cell_width}
use Rattle.storage.specs.Cells.{laid}
use Rattle.storage.specs.Refusals.{Answer}
use Rattle.storage.specs.Meaning.{Meaning, Only}
use Rattle.storage.specs.Calls.{Call, Writing, Syncing, Served, Past, WriteEnded}

pub record StoreDone (o : ℕ) (bytes : List ℕ) (m m' : Meaning) : Type 0 where
  pub fits : o + length bytes ≤ m.size
  pub served : Served m m'
  pub visible : m'.visible ≡ laid o bytes m.visible
  pub only : Only m'.visible m'

abbrev pub OnStore : {O G : Type 0} → ℕ → List ℕ → Meaning → Meaning → Answer O G → Type 0
OnStore o bytes m m' (Ok _) = StoreDone o bytes m m'
OnStore o bytes m m' (Err (Outside f)) = Past o (length bytes) m m'
OnStore o bytes m m' (Err (Gone f)) = WriteEnded o bytes m m'

abbrev pub StoreCalls : {S O G : Type 0} → (S → Call → Answer O G → S → Type 0) → ℕ → List ℕ → S → Answer O G → S → Type 0
StoreCalls did o bytes s r s' =
    ((is_ok r ≡ false) × (did s (Writing o bytes) r s')) ⊎
    ((x : _) × (did s (Writing o bytes) (Ok tt) x) × (did x Syncing r s'))

abbrev pub OldOrNew : ℕ → List ℕ → List ℕ → Meaning → Type 0
OldOrNew o bytes old m = (s : List ℕ) → m.stands s → (s ≡ old) ⊎ (s ≡ laid o bytes old)

pub record WholeCell (o n : ℕ) : Type 0 where
  pub aligned : o % cell_width ≡ 0
  pub wide : n ≡ cell_width
