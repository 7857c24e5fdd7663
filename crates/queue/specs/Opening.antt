-- What opening gives.
--   Named e e'     the refusal e' is e, with the name of the call in its fault, which is kept whole
--   told r         what the storage answered: the fault of GONE, or else all calls were served
--   OnOpen m m' r  what an opening with the result r did and found, m before it and m' after it: exactly
--                  what the reading of the visible bytes says
use Rattle.std.specs.Prelude.{◌≡◌, Ok, Err, Result}
use Rattle.storage.specs.Meaning.{Meaning}
use Rattle.storage.specs.Inside.{Still, Lost}
use Rattle.ring.specs.Reading as reading
use Rattle.card.specs.declared.refusal.OpenRefusal.{OpenRefusal}
use Rattle.card.specs.declared.refusal.OpenRefusal.TheVariants.{Gone, NotAQueue, BrokenRecord}
use Rattle.card.specs.Surveys.{Shows}
use Rattle.queue.specs.declared.fault.QueueCall.TheVariants.{Open}
use Rattle.queue.specs.declared.fault.QueueFault.{QueueFault}
use Rattle.queue.specs.declared.queue.HandedBack.{HandedBack}
use Rattle.queue.specs.declared.queue.Queue.{Queue}

abbrev pub Named : {G : Type 0} → OpenRefusal G → OpenRefusal (QueueFault G) → Type 0
Named (Gone f) e = e ≡ Gone (record { call = Open; below = f })
Named NotAQueue e = e ≡ NotAQueue
Named (BrokenRecord p) e = e ≡ BrokenRecord p

abbrev pub fault_of : {G : Type 0} → OpenRefusal (QueueFault G) → Result (Unit {0}) G
fault_of (Gone f) = Err f.below
fault_of NotAQueue = Ok tt
fault_of (BrokenRecord p) = Ok tt

abbrev pub OnRefused : {G : Type 0} → Meaning → Meaning → OpenRefusal (QueueFault G) → Type 0
OnRefused m m' (Gone f) = Lost m m' × (f.call ≡ Open)
OnRefused m m' NotAQueue = Still m m' × (reading.reading_of m.visible ≡ reading.NotAQueue)
OnRefused m m' (BrokenRecord p) = Still m m' × (reading.reading_of m.visible ≡ reading.BrokenRecord p)

module _ {S G : Type 0} where
  abbrev pub told : Result (Queue S) (HandedBack (OpenRefusal (QueueFault G)) S) → Result (Unit {0}) G
  told (Ok q) = Ok tt
  told (Err u) = fault_of u.why

  abbrev pub OnOpen : Meaning → Meaning → Result (Queue S) (HandedBack (OpenRefusal (QueueFault G)) S) → Type 0
  OnOpen m m' (Ok q) = Still m m' × Shows q.head m.visible
  OnOpen m m' (Err u) = OnRefused m m' u.why
