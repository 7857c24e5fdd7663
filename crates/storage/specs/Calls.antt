-- What each call does to what a storage means.
--   Call         a call: a read of n bytes at an offset, a write of bytes at an offset, a sync
--   offset_of c  the offset that the call c was made with; 0 of a sync
--   Arrives      all that may stand afterwards comes from the write partly arriving on
--                something that might have stood before
--   Past         OUTSIDE: the range passes the size, and nothing changes
--   Ended        GONE: it does not live any more; one that did not live before is as it was
--   OnRead, OnWrite, OnSync   what a call that was answered r did, m before it and m' after it;
--                name is the storage's, and tells what its refusals say
use Rattle.std.specs.Prelude.{◌≡◌, ℕ, ◌+◌, ◌<◌, ◌≤◌, true, false, List, length, replicate, Ok, Err}
use Rattle.storage.specs.declared.refusal.Refusal.{Refusal}
use Rattle.storage.specs.declared.refusal.Refusal.TheVariants.{Outside, Gone}
use Rattle.storage.specs.Sizes.{cell_width}
use Rattle.storage.specs.Cells.{laid, part, Partly}
use Rattle.storage.specs.Refusals.{Answer, Told, Tells}
use Rattle.storage.specs.Meaning.{Meaning, Within, Same, Only}

pub data Call : Type 0 where
  Reading : ℕ → ℕ → Call
  Writing : ℕ → List ℕ → Call
  Syncing : Call

abbrev pub offset_of : Call → ℕ
offset_of (Reading o n) = o
offset_of (Writing o bytes) = o
offset_of Syncing = 0

abbrev pub Arrives : ℕ → List ℕ → Meaning → Meaning → Type 0
Arrives o bytes m m' = (s : List ℕ) → m'.stands s → (t : List ℕ) × (m.stands t) × (Partly cell_width o bytes t s)

-- a call that was served
pub record Served (m m' : Meaning) : Type 0 where
  pub lived : m.lives ≡ true
  pub lives : m'.lives ≡ true
  pub size : m'.size ≡ m.size

pub record ReadDone (o : ℕ) (buf : List ℕ) (m m' : Meaning) : Type 0 where
  pub fits : o + length buf ≤ m.size
  pub served : Served m m'
  pub visible : m'.visible ≡ m.visible
  pub stands : Within m' m
  pub got : buf ≡ part o (length buf) m.visible

pub record WriteDone (o : ℕ) (bytes : List ℕ) (m m' : Meaning) : Type 0 where
  pub fits : o + length bytes ≤ m.size
  pub served : Served m m'
  pub visible : m'.visible ≡ laid o bytes m.visible
  pub stands : Arrives o bytes m m'

pub record SyncDone (m m' : Meaning) : Type 0 where
  pub served : Served m m'
  pub visible : m'.visible ≡ m.visible
  pub only : Only m.visible m'

pub record Past (o n : ℕ) (m m' : Meaning) : Type 0 where
  pub past : m.size < o + n
  pub same : Same m m'

pub record Ended (m m' : Meaning) : Type 0 where
  pub size : m'.size ≡ m.size
  pub dead : m'.lives ≡ false
  pub already : m.lives ≡ false → Same m m'

pub record ReadEnded (o : ℕ) (old new : List ℕ) (m m' : Meaning) : Type 0 where
  pub fits : o + length old ≤ m.size
  pub ended : Ended m m'
  pub stands : Within m' m
  pub zeroed : new ≡ replicate (length old) 0

pub record WriteEnded (o : ℕ) (bytes : List ℕ) (m m' : Meaning) : Type 0 where
  pub fits : o + length bytes ≤ m.size
  pub ended : Ended m m'
  pub stands : Arrives o bytes m m'

pub record SyncEnded (m m' : Meaning) : Type 0 where
  pub ended : Ended m m'
  pub stands : Within m' m

module _ {O G : Type 0} (tells : Refusal O G → Told) (name : List ℕ) where
  abbrev pub OnRead : ℕ → List ℕ → List ℕ → Meaning → Meaning → Answer O G → Type 0
  OnRead o old new m m' (Ok _) = ReadDone o new m m'
  OnRead o old new m m' (Err (Outside f)) = Tells 1 name o (tells (Outside f)) × Past o (length old) m m' × (new ≡ old)
  OnRead o old new m m' (Err (Gone f)) = Tells 2 name o (tells (Gone f)) × ReadEnded o old new m m'

  abbrev pub OnWrite : ℕ → List ℕ → Meaning → Meaning → Answer O G → Type 0
  OnWrite o bytes m m' (Ok _) = WriteDone o bytes m m'
  OnWrite o bytes m m' (Err (Outside f)) = Tells 1 name o (tells (Outside f)) × Past o (length bytes) m m'
  OnWrite o bytes m m' (Err (Gone f)) = Tells 2 name o (tells (Gone f)) × WriteEnded o bytes m m'

  abbrev pub OnSync : Meaning → Meaning → Answer O G → Type 0
  OnSync m m' (Ok _) = SyncDone m m'
  OnSync m m' (Err (Outside f)) = ⊥
  OnSync m m' (Err (Gone f)) = Tells 2 name 0 (tells (Gone f)) × SyncEnded m m'
