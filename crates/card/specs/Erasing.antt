-- The card of the empty queue.
--   OnErase m m' r   the header of the empty queue was written and settled, and the head is its head; or
--                    the storage turned GONE meanwhile
use Rattle.std.specs.Prelude.{◌≡◌, [], Ok, Err, Result}
use Rattle.storage.specs.Meaning.{Meaning, Only}
use Rattle.storage.specs.Calls.{Served}
use Rattle.ring.specs.declared.head.Head.{Head}
use Rattle.ring.specs.Layout.{header_width}
use Rattle.ring.specs.Headers.{cell}
use Rattle.ring.specs.Reading.{Records, reading_of}
use Rattle.ring.specs.Steps.{empty_header, cleared}
use Rattle.card.specs.Headers.{PutEnded}

pub record Erased (h : Head) (m m' : Meaning) : Type 0 where
  pub served : Served m m'
  pub visible : m'.visible ≡ cleared m.visible
  pub only : Only m'.visible m'
  pub reads : reading_of m'.visible ≡ Records []
  pub size_is : h.size ≡ m.size
  pub header_is : h.header ≡ empty_header
  pub used_is : h.used ≡ header_width

abbrev pub OnErase : {G : Type 0} → Meaning → Meaning → Result Head G → Type 0
OnErase m m' (Ok h) = Erased h m m'
OnErase m m' (Err f) = PutEnded (cell empty_header) m m'
