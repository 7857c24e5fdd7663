-- What opening declines.
--   number e     the number of the refusal e
--   finding e    what was found on the card, unless its storage was gone
--   answered r   what the storage answered, by the result r of an opening: the fault if it was gone
--   GoneMapped P e e'   the refusal e' is e, with a fault that P relates to its fault
use Rattle.std.specs.Prelude.{◌≡◌, ℕ, Some, None, Ok, Err, Option, Result}
use Rattle.ring.specs.Reading as reading
use Rattle.card.specs.declared.refusal.OpenRefusal.{OpenRefusal}
use Rattle.card.specs.declared.refusal.OpenRefusal.TheVariants.{Gone, NotAQueue, BrokenRecord}

abbrev pub number : {F : Type 0} → OpenRefusal F → ℕ
number (Gone f) = 2
number NotAQueue = 4
number (BrokenRecord p) = 5

abbrev pub finding : {F : Type 0} → OpenRefusal F → Option reading.Found
finding (Gone f) = None
finding NotAQueue = Some reading.NotAQueue
finding (BrokenRecord p) = Some (reading.BrokenRecord p)

abbrev pub GoneMapped : {F G : Type 0} → (F → G → Type 0) → OpenRefusal F → OpenRefusal G → Type 0
GoneMapped {G = G} P (Gone f) e = (g : G) × P f g × (e ≡ Gone g)
GoneMapped P NotAQueue e = e ≡ NotAQueue
GoneMapped P (BrokenRecord p) e = e ≡ BrokenRecord p

abbrev pub answered : {A F : Type 0} → Result A (OpenRefusal F) → Result (Unit {0}) F
answered (Ok a) = Ok tt
answered (Err (Gone f)) = Err f
answered (Err NotAQueue) = Ok tt
answered (Err (BrokenRecord p)) = Ok tt
