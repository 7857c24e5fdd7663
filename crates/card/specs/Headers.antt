-- The header of a card, read and written.
--   OnHeader   the header was read
--   OnPut      a header was written and settled; if the storage turned GONE meanwhile, whatever may
--              stand is something that might have stood, with the old header cell or the new one
use Rattle.std.specs.Prelude.{◌≡◌, ℕ, ◌⊎◌, List, Ok, Err, Result}
use Rattle.storage.specs.Cells.{laid}
use Rattle.storage.specs.Meaning.{Meaning}
use Rattle.storage.specs.Calls.{Ended}
use Rattle.storage.specs.Inside.{OnStep}
use Rattle.storage.specs.Stores.{StoreDone}
use Rattle.ring.specs.declared.header.Header.{Header}
use Rattle.ring.specs.Headers.{header_of}

abbrev pub OnHeader : {G : Type 0} → Meaning → Meaning → Result Header G → Type 0
OnHeader m m' r = OnStep (λ h. h ≡ header_of m.visible) m m' r

pub record PutEnded (cell : List ℕ) (m m' : Meaning) : Type 0 where
  pub ended : Ended m m'
  pub stands : (s : List ℕ) → m'.stands s → (t : List ℕ) × (m.stands t) × ((s ≡ t) ⊎ (s ≡ laid 0 cell t))

abbrev pub OnPut : {G : Type 0} → List ℕ → Meaning → Meaning → Result (Unit {0}) G → Type 0
OnPut cell m m' (Ok _) = StoreDone 0 cell m m'
OnPut cell m m' (Err f) = PutEnded cell m m'
