-- The bytes that each completed call leaves on a card, and what they read as. w is the width of
-- the header, h the header of the card b, and u how many bytes are in use with the header.
--   laid_along w g p bytes b   b with these bytes from place p of its ring of length g on; those that
--                    reach past the ring's end go on behind the header
--   start w h        where the first element is, or will be
--   end_position     the position behind the last element, counted on past the ring's end
--   end_place        its place on the card
--   added_header     the header with one element more, which begins at the end
--   with_element     b with the length field and the bytes of the record r at the end
--   added            and with the header that counts it
--   removed_header   the header without the first n of the records rs
--   removed          b with that header: the elements stay where they are
--   empty_header     the header of the shortest ring without elements
--   cleared          b with that header
--   carried          how many bytes behind the header are of elements that came round the ring's end
--   copied           b with these bytes behind the ring, where they lie in a longer one
--   grown_header     the header of the ring of length g': the last element has moved if it came round
--   grown            b with the copy and that header
--   grown_length g need   g, doubled until it is at least `need`
--   largest_ring size     the largest ring within `size` bytes
--   Outside w g p n k     byte k of a card is at none of the n positions from p on
--   Keeps w b c rs   the card c has the header and the elements of b, which reads as rs
--   Reads P          P of each card b and the records rs that it reads as
--   Largest size g   g is the largest ring length within `size`
--   Grown size g need r   r is what a ring of length g grows to on a card of `size` bytes to hold `need`
-- The laws say what each of these cards reads as, what may change while the list stays, and which
-- lengths a ring takes.
use Rattle.std.specs.Prelude.{◌≡◌, ℕ, zero, suc, ◌+◌, ◌-◌, ◌*◌, ◌<◌, ◌≤◌, cond, List, [], ◌∷◌, ◌++◌, length, take, drop, ◌==◌, ◌≢◌, nat_le, nat_lt, slice_index}
use Rattle.storage.specs.Cells.{laid, part}
use Rattle.ring.specs.declared.header.Header.{Header}
use Rattle.ring.specs.Layout.{header_width, least_ring, doublings, longest_read}
use Rattle.ring.specs.Bytes.{four}
use Rattle.ring.specs.Ring.{place, taken, used}
use Rattle.ring.specs.Headers.{header_of, cell, RingLength}
use Rattle.ring.specs.Reading.{Records, reading_of}

unfoldable pub laid_along : ℕ → ℕ → ℕ → List ℕ → List ℕ → List ℕ
laid_along w g p bytes b =
    cond (nat_le (p + length bytes) g) (laid p bytes b) (laid w (drop (g - p) bytes) (laid p (take (g - p) bytes) b))

unfoldable pub start : ℕ → Header → ℕ
start w h = cond (h.count == 0) w h.first

abbrev pub end_position : ℕ → Header → ℕ → ℕ
end_position w h u = start w h + (u - w)

abbrev pub end_place : ℕ → Header → ℕ → ℕ
end_place w h u = place w h.ring (end_position w h u)

abbrev pub added_header : ℕ → Header → ℕ → Header
added_header w h u = record { ring = h.ring; count = h.count + 1; first = start w h; last = end_place w h u }

unfoldable pub with_element : ℕ → Header → ℕ → List ℕ → List ℕ → List ℕ
with_element w h u r b =
    laid_along w h.ring (place w h.ring (end_position w h u + 4)) r (laid_along w h.ring (end_place w h u) (four (length r)) b)

unfoldable pub added : ℕ → Header → ℕ → List ℕ → List ℕ → List ℕ
added w h u r b = laid 0 (cell (added_header w h u)) (with_element w h u r b)

abbrev pub removed_header : ℕ → Header → List (List ℕ) → ℕ → Header
removed_header w h rs n = record { ring = h.ring; count = h.count - n; first = place w h.ring (h.first + taken (take n rs)); last = h.last }

unfoldable pub removed : ℕ → Header → List (List ℕ) → ℕ → List ℕ → List ℕ
removed w h rs n b = laid 0 (cell (removed_header w h rs n)) b

abbrev pub empty_header : Header
empty_header = record { ring = least_ring; count = 0; first = 0; last = 0 }

unfoldable pub cleared : List ℕ → List ℕ
cleared b = laid 0 (cell empty_header) b

-- the elements came round the end if what is behind the last of them is not behind the first
unfoldable pub carried : ℕ → Header → ℕ → ℕ
carried w h u = cond (h.count == 0) 0 (cond (nat_le (end_place w h u) h.first) (end_place w h u - w) 0)

unfoldable pub copied : ℕ → Header → ℕ → List ℕ → List ℕ
copied w h u b = laid h.ring (part w (carried w h u) b) b

abbrev pub grown_header : ℕ → Header → ℕ → Header
grown_header w h g' = record { ring = g'; count = h.count; first = h.first; last = cond (nat_lt h.last h.first) (h.ring + h.last - w) h.last }

unfoldable pub grown : ℕ → Header → ℕ → ℕ → List ℕ → List ℕ
grown w h u g' b = laid 0 (cell (grown_header w h g')) (copied w h u b)

-- up to k doublings
unfoldable pub doubled_to : ℕ → ℕ → ℕ → ℕ
doubled_to zero g need = g
doubled_to (suc k) g need = cond (nat_le need g) g (doubled_to k (2 * g) need)

abbrev pub grown_length : ℕ → ℕ → ℕ
grown_length g need = doubled_to doublings g need

unfoldable pub doubled_within : ℕ → ℕ → ℕ → ℕ
doubled_within zero g size = g
doubled_within (suc k) g size = cond (nat_le (2 * g) size) (doubled_within k (2 * g) size) g

abbrev pub largest_ring : ℕ → ℕ
largest_ring size = doubled_within doublings least_ring size

abbrev pub Outside : ℕ → ℕ → ℕ → ℕ → ℕ → Type 0
Outside w g p n k = (i : ℕ) → i < n → k ≢ place w g (p + i)

pub record Keeps (w : ℕ) (b c : List ℕ) (rs : List (List ℕ)) : Type 0 where
  pub long : length c ≡ length b
  pub header : (i : ℕ) → i < header_width → slice_index c i ≡ slice_index b i
  pub bytes : (q : ℕ) → (header_of b).first ≤ q → q < (header_of b).first + taken rs →
      slice_index c (place w (header_of b).ring q) ≡ slice_index b (place w (header_of b).ring q)

abbrev pub Reads : (List ℕ → List (List ℕ) → Type 0) → Type 0
Reads P = (b : List ℕ) (rs : List (List ℕ)) → length b ≤ 16777216 → reading_of b ≡ Records rs → P b rs

-- an add, where the record has room
abbrev pub AddLaw : Type 0
AddLaw = Reads (λ b rs. (r : List ℕ) → length r ≤ longest_read → used header_width rs + (4 + length r) ≤ (header_of b).ring →
    reading_of (added header_width (header_of b) (used header_width rs) r b) ≡ Records (rs ++ (r ∷ [])))

-- a removal of some records, and not of all: that is a clear
abbrev pub RemoveLaw : Type 0
RemoveLaw = Reads (λ b rs. (n : ℕ) → n < length rs → reading_of (removed header_width (header_of b) rs n b) ≡ Records (drop n rs))

-- a clear, of any card
abbrev pub ClearLaw : Type 0
ClearLaw = (b : List ℕ) → least_ring ≤ length b → length b ≤ 16777216 → reading_of (cleared b) ≡ Records []

-- a growth to a ring that is twice as long at least
abbrev pub GrowLaw : Type 0
GrowLaw = Reads (λ b rs. (g' : ℕ) → RingLength g' → g' ≤ length b → (header_of b).ring + (header_of b).ring ≤ g' →
    reading_of (grown header_width (header_of b) (used header_width rs) g' b) ≡ Records rs)

-- the list is in the header and the bytes of the elements, and nowhere else
abbrev pub KeepLaw : Type 0
KeepLaw = Reads (λ b rs. (c : List ℕ) → Keeps header_width b c rs → reading_of c ≡ Records rs)

-- n bytes from the end on are free, if the ring has room for them: a write there may arrive in part
abbrev pub FreeLaw : Type 0
FreeLaw = Reads (λ b rs. (n : ℕ) (c : List ℕ) → used header_width rs + n ≤ (header_of b).ring → length c ≡ length b →
    ((k : ℕ) → Outside header_width (header_of b).ring (end_position header_width (header_of b) (used header_width rs)) n k → slice_index c k ≡ slice_index b k) →
    reading_of c ≡ Records rs)

-- and so is all behind the ring, where a growth copies to
abbrev pub BehindLaw : Type 0
BehindLaw = Reads (λ b rs. (c : List ℕ) → length c ≡ length b → ((k : ℕ) → k < (header_of b).ring → slice_index c k ≡ slice_index b k) → reading_of c ≡ Records rs)

pub record Largest (size g : ℕ) : Type 0 where
  pub ring : RingLength g
  pub least : least_ring ≤ g
  pub fits : g ≤ size
  pub largest : (r : ℕ) → RingLength r → r ≤ size → r ≤ g

abbrev pub LargestLaw : Type 0
LargestLaw = (size : ℕ) → least_ring ≤ size → size ≤ 16777216 → Largest size (largest_ring size)

pub record Grown (size g need r : ℕ) : Type 0 where
  pub ring : RingLength r
  pub holds : need ≤ r
  pub fits : r ≤ largest_ring size
  pub stays : need ≤ g → r ≡ g
  pub doubles : g < need → g + g ≤ r
  pub least : g < need → (s : ℕ) → RingLength s → need ≤ s → r ≤ s

abbrev pub GrownLaw : Type 0
GrownLaw = (size g need : ℕ) → size ≤ 16777216 → RingLength g → g ≤ size → need ≤ largest_ring size → Grown size g need (grown_length g need)
