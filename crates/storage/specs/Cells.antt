-- Bytes, cells, and what a write leaves that did not arrive in full.
--   laid o new old      `old` with the bytes `new` in the place of those from offset o on
--   part o n s          the n bytes of s from offset o on
--   InCell w j P        P of each byte of cell j, where a cell is w bytes wide
--   Partly w o b s t    the write of b at o partly arrives on the content s, and gives t
use Rattle.std.specs.Prelude.{◌≡◌, ℕ, ◌+◌, ◌-◌, ◌*◌, ◌/◌, ◌<◌, ◌≤◌, ◌⊎◌, List, ◌++◌, length, take, drop, slice_index}
use Rattle.std.proofs.Common.{arith, length-take, length-drop}

abbrev pub laid : ℕ → List ℕ → List ℕ → List ℕ
laid o new old = take o old ++ (new ++ drop (o + length new) old)

abbrev pub part : ℕ → ℕ → List ℕ → List ℕ
part o n s = take n (drop o s)

pub length_part : (o n : ℕ) (s : List ℕ) → o + n ≤ length s → length (part o n s) ≡ n
length_part o n s h = simp (length-take, length-drop) (omega arith)

abbrev pub InCell : ℕ → ℕ → (ℕ → Type 0) → Type 0
InCell w j P = (k : ℕ) → k / w ≡ j → P k

-- Nothing is said of the covered bytes of a cell that is covered in part: they may be anything.
pub record Partly (w o : ℕ) (bytes old new : List ℕ) : Type 0 where
  pub long : length new ≡ length old
  pub apart : (k : ℕ) → (k < o) ⊎ (o + length bytes ≤ k) → slice_index new k ≡ slice_index old k
  pub whole : (j : ℕ) → o ≤ w * j → w * j + w ≤ o + length bytes →
      InCell w j (λ k. slice_index new k ≡ slice_index old k) ⊎ InCell w j (λ k. slice_index new k ≡ slice_index bytes (k - o))
