-- What the bytes of a card say, read from its storage.
--   ring_bytes k m     the bytes along the ring that the storage shows
--   reads_next k       how many reads the next element takes at most: none where the ring has no room
--                      even for its length field
--   OnNext k k' m m' r the next element was passed, or is broken
--   OnWalk k m m' r    all elements were passed, or one is broken; k has passed none
--   Shows h b          the head h is that of the card b, which reads as a list
--   OnSurvey m m' r    the head was found, or what the card says instead
--   reads_of c z r     how many reads of length fields an opening with the result r took at most, on a card
--                      of z bytes whose header counts c elements
use Rattle.std.specs.Prelude.{◌≡◌, ℕ, ◌+◌, ◌-◌, ◌*◌, ◌/◌, cond, List, length, Ok, Err, Result, nat_le}
use Rattle.storage.specs.Meaning.{Meaning}
use Rattle.storage.specs.Inside.{Still, Lost}
use Rattle.ring.specs.declared.head.Head.{Head}
use Rattle.ring.specs.declared.walk.Walk.{Walk}
use Rattle.ring.specs.Layout.{header_width}
use Rattle.ring.specs.Bytes.{number, stretch}
use Rattle.ring.specs.Ring.{along, taken, used}
use Rattle.ring.specs.Headers.{header_of}
use Rattle.ring.specs.Reading as reading
use Rattle.ring.specs.Walking.{position, rest}
use Rattle.card.specs.declared.refusal.OpenRefusal.{OpenRefusal}
use Rattle.card.specs.declared.refusal.OpenRefusal.TheVariants.{Gone, NotAQueue, BrokenRecord}

abbrev pub ring_bytes : Walk → Meaning → ℕ → ℕ
ring_bytes k m = along header_width k.header.ring m.visible

abbrev pub reads_next : Walk → ℕ
reads_next k = cond (nat_le (k.used + 4) k.header.ring) 2 0

pub record Nexted (f : ℕ → ℕ) (k k' : Walk) : Type 0 where
  pub found : rest f k ≡ reading.before (stretch f (position k + 4) (number f (position k))) (rest f k')
  pub size_stays : k'.size ≡ k.size
  pub header_stays : k'.header ≡ k.header
  pub passed_is : k'.passed ≡ k.passed + 1
  pub used_is : k'.used ≡ k.used + (4 + number f (position k))

module _ {G : Type 0} where
  abbrev pub OnNext : Walk → Walk → Meaning → Meaning → Result (Unit {0}) (OpenRefusal G) → Type 0
  OnNext k k' m m' (Ok _) = Still m m' × Nexted (ring_bytes k m) k k'
  OnNext k k' m m' (Err (Gone f)) = Lost m m'
  OnNext k k' m m' (Err NotAQueue) = ⊥
  OnNext k k' m m' (Err (BrokenRecord p)) = Still m m' × (rest (ring_bytes k m) k ≡ reading.BrokenRecord p)

pub record Walked (f : ℕ → ℕ) (k k' : Walk) : Type 0 where
  pub rs : List (List ℕ)
  pub found : rest f k ≡ reading.Records rs
  pub size_stays : k'.size ≡ k.size
  pub header_stays : k'.header ≡ k.header
  pub used_is : k'.used ≡ k.used + taken rs
  pub passed_is : k'.passed ≡ k'.header.count

module _ {G : Type 0} where
  abbrev pub OnWalk : Walk → Meaning → Meaning → Result Walk (OpenRefusal G) → Type 0
  OnWalk k m m' (Ok k') = Still m m' × Walked (ring_bytes k m) k k'
  OnWalk k m m' (Err (Gone f)) = Lost m m'
  OnWalk k m m' (Err NotAQueue) = ⊥
  OnWalk k m m' (Err (BrokenRecord p)) = Still m m' × (rest (ring_bytes k m) k ≡ reading.BrokenRecord p)

pub record Shows (h : Head) (b : List ℕ) : Type 0 where
  pub rs : List (List ℕ)
  pub reads : reading.reading_of b ≡ reading.Records rs
  pub size_is : h.size ≡ length b
  pub header_is : h.header ≡ header_of b
  pub used_is : h.used ≡ used header_width rs

module _ {G : Type 0} where
  abbrev pub OnSurvey : Meaning → Meaning → Result Head (OpenRefusal G) → Type 0
  OnSurvey m m' (Ok h) = Still m m' × Shows h m.visible
  OnSurvey m m' (Err (Gone f)) = Lost m m'
  OnSurvey m m' (Err NotAQueue) = Still m m' × (reading.reading_of m.visible ≡ reading.NotAQueue)
  OnSurvey m m' (Err (BrokenRecord p)) = Still m m' × (reading.reading_of m.visible ≡ reading.BrokenRecord p)

abbrev pub reads_of : {A F : Type 0} → ℕ → ℕ → Result A F → ℕ
reads_of count size (Ok a) = 2 * count
reads_of count size (Err e) = (size - header_width) / 2
