-- What may stand on a device that keeps its bytes twice, the durable ones and the visible ones.
--   Standing w d v t s   each cell of s, w bytes wide, is the visible one of v, or the durable
--                        one of d in which each byte that t marks as torn may be anything
--   in_part w o n k      the byte k is covered by a write of n bytes at o, and its cell is not
--                        covered whole
--   InPart               the same, as a fact
--   marked w o n t       the marks t after such a write: the bytes covered in part are torn too
--   unmarked t           no byte of t is torn
use Rattle.std.specs.Prelude.{◌≡◌, ℕ, ◌+◌, ◌*◌, ◌/◌, ◌<◌, ◌≤◌, Bool, false, ◌&&◌, ◌||◌, ◌⊎◌, List, map, length, replicate, nat_le, nat_lt, slice_index, slice_index_or}
use Rattle.std.specs.List.{range_with_len}
use Rattle.storage.specs.Cells.{InCell}

pub record Standing (w : ℕ) (durable visible : List ℕ) (torn : List Bool) (s : List ℕ) : Type 0 where
  pub long : length s ≡ length durable
  pub cells : (j : ℕ) →
      InCell w j (λ k. slice_index s k ≡ slice_index visible k) ⊎
      InCell w j (λ k. slice_index_or torn k false ≡ false → slice_index s k ≡ slice_index durable k)

abbrev pub in_part : ℕ → ℕ → ℕ → ℕ → Bool
in_part w o n k = (nat_le o k && nat_lt k (o + n)) && (nat_lt (w * (k / w)) o || nat_lt (o + n) (w * (k / w) + w))

pub record InPart (w o n k : ℕ) : Type 0 where
  pub from : o ≤ k
  pub to : k < o + n
  pub cut : (w * (k / w) < o) ⊎ (o + n < w * (k / w) + w)

unfoldable pub marked : ℕ → ℕ → ℕ → List Bool → List Bool
marked w o n t = map (λ k. in_part w o n k || slice_index_or t k false) (range_with_len 0 (length t))

abbrev pub unmarked : List Bool → List Bool
unmarked t = replicate (length t) false
