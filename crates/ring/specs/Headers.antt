-- The header of a card: four numbers in its first cell.
--   header_of b     the numbers in the header of the card b
--   cell h          the header's bytes
--   doubled k g r   r is g, or g doubled up to k times
--   in_ring w g p   p is a position of the ring
--   placed          where the first and the last element may be: nowhere if there is none
--   sound           whether a card of this size may have these numbers
--   RingLength g    g is the shortest ring's length times a power of two
--   SoundHeader     a card of this size may have these numbers
use Rattle.std.specs.Prelude.{◌≡◌, ℕ, zero, suc, ◌*◌, ◌^◌, ◌<◌, ◌≤◌, Bool, cond, ◌&&◌, ◌||◌, List, ◌++◌, ◌==◌, nat_le, nat_lt}
use Rattle.ring.specs.declared.header.Header.{Header}
use Rattle.ring.specs.Layout.{least_ring, doublings}
use Rattle.ring.specs.Bytes.{at, number, four}

unfoldable pub header_of : List ℕ → Header
header_of b = record { ring = number (at b) 0; count = number (at b) 4; first = number (at b) 8; last = number (at b) 12 }

unfoldable pub cell : Header → List ℕ
cell h = four h.ring ++ (four h.count ++ (four h.first ++ four h.last))

unfoldable pub doubled : ℕ → ℕ → ℕ → Bool
doubled zero g r = r == g
doubled (suc k) g r = r == g || doubled k (2 * g) r

abbrev pub in_ring : ℕ → ℕ → ℕ → Bool
in_ring w g p = nat_le w p && nat_lt p g

abbrev pub placed : ℕ → ℕ → ℕ → ℕ → ℕ → Bool
placed w g count first last = cond (count == 0) (first == 0 && last == 0) (in_ring w g first && in_ring w g last)

unfoldable pub sound : ℕ → ℕ → ℕ → ℕ → ℕ → ℕ → Bool
sound w size g count first last = (doubled doublings least_ring g && nat_le g size) && placed w g count first last

abbrev pub RingLength : ℕ → Type 0
RingLength g = (k : ℕ) × (g ≡ least_ring * 2 ^ k)

pub record SoundHeader (w size g count first last : ℕ) : Type 0 where
  pub ring : RingLength g
  pub fits : g ≤ size
  pub empty : count ≡ 0 → (first ≡ 0) × (last ≡ 0)
  pub from : 0 < count → (w ≤ first) × (first < g)
  pub to : 0 < count → (w ≤ last) × (last < g)
