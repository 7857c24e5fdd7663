-- An element behind the last one.
--   element_calls h u r   the calls that write the element of the record r: the pieces of its length field,
--                         those of its bytes, and a sync
--   OnElement             the element was written and settled; if the storage turned GONE meanwhile, only
--                         bytes at its places may have changed
use Rattle.std.specs.Prelude.{◌≡◌, ℕ, ◌+◌, List, [], ◌∷◌, ◌++◌, length, Ok, Err, Result}
use Rattle.storage.specs.Meaning.{Meaning, Only}
use Rattle.storage.specs.Calls.{Call, Syncing, Served}
use Rattle.ring.specs.declared.header.Header.{Header}
use Rattle.ring.specs.Layout.{header_width}
use Rattle.ring.specs.Bytes.{four}
use Rattle.ring.specs.Ring.{place}
use Rattle.ring.specs.Steps.{end_position, end_place, with_element}
use Rattle.adding.specs.Writes.{pieces, Apart, Cut}

abbrev pub element_calls : Header → ℕ → List ℕ → List Call
element_calls h u r =
    pieces h.ring (end_place header_width h u) (four (length r)) ++
    (pieces h.ring (place header_width h.ring (end_position header_width h u + 4)) r ++ (Syncing ∷ []))

pub record Placed (h : Header) (u : ℕ) (r : List ℕ) (m m' : Meaning) : Type 0 where
  pub served : Served m m'
  pub visible : m'.visible ≡ with_element header_width h u r m.visible
  pub only : Only m'.visible m'

abbrev pub OnElement : {G : Type 0} → Header → ℕ → List ℕ → Meaning → Meaning → Result (Unit {0}) G → Type 0
OnElement h u r m m' (Ok _) = Placed h u r m m'
OnElement h u r m m' (Err f) = Cut (Apart h.ring (end_position header_width h u) (4 + length r)) m m'
