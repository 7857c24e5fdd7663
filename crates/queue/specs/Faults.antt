-- What a queue adds to the fault of its storage.
--   spelled c   the letters of the call c
use Rattle.std.specs.Prelude.{ℕ, List, codes}
use Rattle.queue.specs.declared.fault.QueueCall.{QueueCall}
use Rattle.queue.specs.declared.fault.QueueCall.TheVariants.{Open, Format}

abbrev pub spelled : QueueCall → List ℕ
spelled Open = codes "open"
spelled Format = codes "format"
