-- Adding a record.
--   need u r            the bytes in use once the record r is added
--   longer h u r        the length of the ring that holds it, by doubling
--   added_card h u r b  the card b with the record r: in its ring if that has room, else in the longer one
--   AddCalls            the calls of an add that is not refused: those of the element and its header, and
--                       before them those of a growth if the ring is too short
--   Fits                the record is short enough, and the card has room for it
--   OnFit               the record r was added to the records rs, or the storage turned GONE meanwhile
--   OnAdd               what an add with the result x did: TOO LONG first, then FULL, then GONE
--   OnAddCalls          which calls it made: none if it was refused without one
use Rattle.std.specs.Prelude.{◌≡◌, ℕ, ◌+◌, ◌<◌, ◌≤◌, Bool, true, false, cond, ◌⊎◌, List, [], ◌∷◌, ◌++◌, length, Ok, Err, Result, nat_le}
use Rattle.storage.specs.Refusals.{Answer}
use Rattle.storage.specs.Meaning.{Meaning}
use Rattle.storage.specs.Calls.{Call}
use Rattle.storage.specs.Traces.{Made, Asked}
use Rattle.ring.specs.declared.head.Head.{Head}
use Rattle.ring.specs.declared.header.Header.{Header}
use Rattle.ring.specs.Layout.{header_width, longest_added}
use Rattle.ring.specs.Steps.{carried, grown_header, grown, grown_length, largest_ring, added}
use Rattle.card.specs.Held.{Done, Fell}
use Rattle.adding.specs.declared.refusal.AddRefusal.{AddRefusal}
use Rattle.adding.specs.declared.refusal.AddRefusal.TheVariants.{TooLong, Full, Gone}
use Rattle.adding.specs.Copies.{copies}
use Rattle.adding.specs.Grows.{GrowCall}
use Rattle.adding.specs.Appends.{append_calls}

abbrev pub need : ℕ → List ℕ → ℕ
need u r = u + (4 + length r)

abbrev pub longer : Header → ℕ → List ℕ → ℕ
longer h u r = grown_length h.ring (need u r)

abbrev pub added_card : Header → ℕ → List ℕ → List ℕ → List ℕ
added_card h u r b =
    cond (nat_le (need u r) h.ring) (added header_width h u r b)
    (added header_width (grown_header header_width h (longer h u r)) u r (grown header_width h u (longer h u r) b))

module _ {S O G : Type 0} (did : S → Call → Answer O G → S → Type 0) (h : Header) (u : ℕ) (r : List ℕ) where
  abbrev pub Grows : {A : Type 0} → Result A G → S → S → Type 0
  Grows x s t = Asked did (GrowCall h (longer h u r)) (copies (carried header_width h u) + 3) x s t

  -- the growth was GONE, or the rest followed it
  abbrev pub GrowsFirst : {A : Type 0} → Result A G → S → S → Type 0
  GrowsFirst (Ok a) s s' = (t : S) × (Grows {A = Unit {0}} (Ok tt) s t) × (Made did {A = Unit {0}} (append_calls (grown_header header_width h (longer h u r)) u r) (Ok tt) t s')
  GrowsFirst (Err f) s s' = Grows {A = Unit {0}} (Err f) s s' ⊎
      ((t : S) × (Grows {A = Unit {0}} (Ok tt) s t) × (Made did {A = Unit {0}} (append_calls (grown_header header_width h (longer h u r)) u r) (Err f) t s'))

  abbrev pub AddCallsBy : {A : Type 0} → Bool → Result A G → S → S → Type 0
  AddCallsBy true x s s' = Made did (append_calls h u r) x s s'
  AddCallsBy false x s s' = GrowsFirst x s s'

  abbrev pub AddCalls : {A : Type 0} → Result A G → S → S → Type 0
  AddCalls x s s' = AddCallsBy (nat_le (need u r) h.ring) x s s'

  abbrev pub OnAddCalls : S → S → Result Head (AddRefusal G) → Type 0
  OnAddCalls s s' (Ok h') = AddCalls {A = Unit {0}} (Ok tt) s s'
  OnAddCalls s s' (Err (TooLong n)) = s' ≡ s
  OnAddCalls s s' (Err (Full n)) = s' ≡ s
  OnAddCalls s s' (Err (Gone f)) = AddCalls {A = Unit {0}} (Err f) s s'

abbrev pub OnFit : {G : Type 0} → List (List ℕ) → List ℕ → Head → Meaning → Meaning → Result Head G → Type 0
OnFit rs r h m m' (Ok h') = Done (added_card h.header h.used r m.visible) h' (rs ++ (r ∷ [])) m m'
OnFit rs r h m m' (Err f) = Fell rs (rs ++ (r ∷ [])) m m'

pub record Fits (r : List ℕ) (h : Head) : Type 0 where
  pub short : length r ≤ longest_added
  pub room : need h.used r ≤ largest_ring h.size

abbrev pub OnAdd : {G : Type 0} → List (List ℕ) → List ℕ → Head → Meaning → Meaning → Result Head (AddRefusal G) → Type 0
OnAdd rs r h m m' (Ok h') = Fits r h × Done (added_card h.header h.used r m.visible) h' (rs ++ (r ∷ [])) m m'
OnAdd rs r h m m' (Err (TooLong n)) = (longest_added < length r) × (n ≡ length r)
OnAdd rs r h m m' (Err (Full n)) = (length r ≤ longest_added) × (largest_ring h.size < need h.used r) × (n ≡ 4 + length r)
OnAdd rs r h m m' (Err (Gone f)) = Fits r h × Fell rs (rs ++ (r ∷ [])) m m'
