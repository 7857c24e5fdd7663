-- What the bytes of a card say.
--   Found           a list of records; NOT A QUEUE; BROKEN RECORD, with its place
--   breaks          an element of n bytes that can't be: too long, past the ring with what is used
--                   before it, or the last one, which isn't at the place that the header says
--   walk            what the elements from position p on are: so many of them, with so much used before
--   reading         what a card of this size says, by its header h and its bytes f along the ring
--   reading_of b    what the card b says, in the layout with the header of 16 bytes
use Rattle.std.specs.Prelude.{ℕ, zero, suc, ◌+◌, Bool, cond, not, ◌&&◌, ◌||◌, List, [], ◌∷◌, length, ◌==◌, nat_lt}
use Rattle.ring.specs.declared.header.Header.{Header}
use Rattle.ring.specs.Layout.{header_width, longest_read}
use Rattle.ring.specs.Bytes.{number, stretch}
use Rattle.ring.specs.Ring.{place, along}
use Rattle.ring.specs.Headers.{header_of, sound}

pub data Found : Type 0 where
  Records : List (List ℕ) → Found
  NotAQueue : Found
  BrokenRecord : ℕ → Found

-- a record before what is found behind it
abbrev pub before : List ℕ → Found → Found
before r (Records rs) = Records (r ∷ rs)
before r NotAQueue = NotAQueue
before r (BrokenRecord p) = BrokenRecord p

module _ (most g last : ℕ) where
  -- `left` elements are to come behind this one
  abbrev pub breaks : ℕ → ℕ → ℕ → ℕ → Bool
  breaks left n p used = nat_lt most n || (nat_lt g (used + (4 + n)) || (left == 0 && not (p == last)))

module _ (w most g last : ℕ) (f : ℕ → ℕ) where
  unfoldable pub walk : ℕ → ℕ → ℕ → Found
  walk zero p used = Records []
  walk (suc left) p used =
      cond (breaks most g last left (number f p) (place w g p) used) (BrokenRecord (place w g p))
      (before (stretch f (p + 4) (number f p)) (walk left (p + (4 + number f p)) (used + (4 + number f p))))

unfoldable pub reading : ℕ → ℕ → ℕ → Header → (ℕ → ℕ) → Found
reading w most size h f =
    cond (sound w size h.ring h.count h.first h.last) (walk w most h.ring h.last f h.count h.first w) NotAQueue

abbrev pub reading_of : List ℕ → Found
reading_of b = reading header_width longest_read (length b) (header_of b) (along header_width (header_of b).ring b)
