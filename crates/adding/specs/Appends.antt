-- A record behind the last one, where the ring has room for it.
--   append_calls h u r     the calls: those of the element, then one write of the header and a sync
--   OnAppend rs r h m m' x the record r was added to the records rs, or the storage turned GONE meanwhile
use Rattle.std.specs.Prelude.{ℕ, List, [], ◌∷◌, ◌++◌, Ok, Err, Result}
use Rattle.storage.specs.Meaning.{Meaning}
use Rattle.storage.specs.Calls.{Call, Writing, Syncing}
use Rattle.ring.specs.declared.head.Head.{Head}
use Rattle.ring.specs.declared.header.Header.{Header}
use Rattle.ring.specs.Layout.{header_width}
use Rattle.ring.specs.Headers.{cell}
use Rattle.ring.specs.Steps.{added_header, added}
use Rattle.card.specs.Held.{Done, Fell}
use Rattle.adding.specs.Elements.{element_calls}

abbrev pub append_calls : Header → ℕ → List ℕ → List Call
append_calls h u r = element_calls h u r ++ (Writing 0 (cell (added_header header_width h u)) ∷ Syncing ∷ [])

abbrev pub OnAppend : {G : Type 0} → List (List ℕ) → List ℕ → Head → Meaning → Meaning → Result Head G → Type 0
OnAppend rs r h m m' (Ok h') = Done (added header_width h.header h.used r m.visible) h' (rs ++ (r ∷ [])) m m'
OnAppend rs r h m m' (Err f) = Fell rs (rs ++ (r ∷ [])) m m'
