-- A longer ring.
--   GrowCall h g c        c is a call that copies behind the ring, the write of the header of the ring of
--                         length g, or a sync
--   OnGrow rs g h m m' x  the ring of the records rs has the length g, or the storage turned GONE meanwhile;
--                         the records stay
use Rattle.std.specs.Prelude.{◌≡◌, ℕ, ◌⊎◌, List, Ok, Err, Result}
use Rattle.storage.specs.Meaning.{Meaning}
use Rattle.storage.specs.Calls.{Call, Writing, Syncing}
use Rattle.ring.specs.declared.head.Head.{Head}
use Rattle.ring.specs.declared.header.Header.{Header}
use Rattle.ring.specs.Layout.{header_width}
use Rattle.ring.specs.Headers.{cell}
use Rattle.ring.specs.Steps.{grown_header, grown}
use Rattle.card.specs.Held.{Done, Fell}
use Rattle.adding.specs.Copies.{CopyCall}

abbrev pub GrowCall : Header → ℕ → Call → Type 0
GrowCall h g c = CopyCall h.ring c ⊎ ((c ≡ Writing 0 (cell (grown_header header_width h g))) ⊎ (c ≡ Syncing))

abbrev pub OnGrow : {G : Type 0} → List (List ℕ) → ℕ → Head → Meaning → Meaning → Result Head G → Type 0
OnGrow rs g h m m' (Ok h') = Done (grown header_width h.header h.used g m.visible) h' rs m m' ×
    (h'.header ≡ grown_header header_width h.header g) × (h'.used ≡ h.used)
OnGrow rs g h m m' (Err f) = Fell rs rs m m'
