-- A storage that a queue takes.
--   kept r         the storage that the result r of a call holds, in the queue or handed back
--   Handed s x r   the result r is the queue over the storage s with the head x, or hands s back with
--                  the reason x
use Rattle.std.specs.Prelude.{◌≡◌, Ok, Err, Result}
use Rattle.ring.specs.declared.head.Head.{Head}
use Rattle.queue.specs.declared.queue.HandedBack.{HandedBack}
use Rattle.queue.specs.declared.queue.Queue.{Queue}

module _ {S E : Type 0} where
  abbrev pub kept : Result (Queue S) (HandedBack E S) → S
  kept (Ok q) = q.storage
  kept (Err u) = u.storage

  abbrev pub Handed : S → Result Head E → Result (Queue S) (HandedBack E S) → Type 0
  Handed s (Ok h) r = r ≡ Ok (record { storage = s; head = h })
  Handed s (Err e) r = r ≡ Err (record { why = e; storage = s })
