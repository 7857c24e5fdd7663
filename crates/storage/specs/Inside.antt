-- Calls within the size, and the steps that show nothing.
--   Still m m'      a step that shows nothing: the visible bytes stay, no more may stand, and one
--                   that is gone already is as it was
--   Lost m m'       a step at which the storage turned GONE: no more may stand
--   OnStep Q m m' r a step that was answered r: still and Q, or lost
--   OnReadInside, OnWriteInside, OnSyncInside   what a call within the size that was answered r did,
--                   m before it and m' after it; it is served or GONE, never OUTSIDE
use Rattle.std.specs.Prelude.{◌≡◌, ℕ, false, List, Ok, Err, Result}
use Rattle.storage.specs.Meaning.{Meaning, Within, Same}
use Rattle.storage.specs.Calls.{Ended, ReadDone, ReadEnded, WriteDone, WriteEnded, SyncDone, SyncEnded}

pub record Still (m m' : Meaning) : Type 0 where
  pub size : m'.size ≡ m.size
  pub lives : m'.lives ≡ m.lives
  pub visible : m'.visible ≡ m.visible
  pub stands : Within m' m
  pub already : m.lives ≡ false → Same m m'

pub record Lost (m m' : Meaning) : Type 0 where
  pub ended : Ended m m'
  pub stands : Within m' m

abbrev pub OnStep : {A G : Type 0} → (A → Type 0) → Meaning → Meaning → Result A G → Type 0
OnStep Q m m' (Ok a) = Still m m' × Q a
OnStep Q m m' (Err f) = Lost m m'

abbrev pub OnReadInside : {G : Type 0} → ℕ → List ℕ → List ℕ → Meaning → Meaning → Result (Unit {0}) G → Type 0
OnReadInside o old new m m' (Ok _) = ReadDone o new m m'
OnReadInside o old new m m' (Err f) = ReadEnded o old new m m'

abbrev pub OnWriteInside : {G : Type 0} → ℕ → List ℕ → Meaning → Meaning → Result (Unit {0}) G → Type 0
OnWriteInside o bytes m m' (Ok _) = WriteDone o bytes m m'
OnWriteInside o bytes m m' (Err f) = WriteEnded o bytes m m'

abbrev pub OnSyncInside : {G : Type 0} → Meaning → Meaning → Result (Unit {0}) G → Type 0
OnSyncInside m m' (Ok _) = SyncDone m m'
OnSyncInside m m' (Err f) = SyncEnded m m'
