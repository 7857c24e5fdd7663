-- What formatting gives.
--   heard r          what the storage answered: the fault of GONE, or else all calls were served
--   OnFormat m m' r  what a formatting with the result r did, m before it and m' after it
use Rattle.std.specs.Prelude.{◌≡◌, Ok, Err, Result}
use Rattle.storage.specs.Meaning.{Meaning}
use Rattle.ring.specs.Headers.{cell}
use Rattle.ring.specs.Steps.{empty_header}
use Rattle.card.specs.Headers.{PutEnded}
use Rattle.card.specs.Erasing.{Erased}
use Rattle.queue.specs.declared.fault.QueueCall.TheVariants.{Format}
use Rattle.queue.specs.declared.fault.QueueFault.{QueueFault}
use Rattle.queue.specs.declared.queue.HandedBack.{HandedBack}
use Rattle.queue.specs.declared.queue.Queue.{Queue}

module _ {S G : Type 0} where
  abbrev pub heard : Result (Queue S) (HandedBack (QueueFault G) S) → Result (Unit {0}) G
  heard (Ok q) = Ok tt
  heard (Err u) = Err u.why.below

  abbrev pub OnFormat : Meaning → Meaning → Result (Queue S) (HandedBack (QueueFault G) S) → Type 0
  OnFormat m m' (Ok q) = Erased q.head m m'
  OnFormat m m' (Err u) = PutEnded (cell empty_header) m m' × (u.why.call ≡ Format)
