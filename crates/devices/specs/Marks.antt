-- Marks in lent memory.
--   Torn a e t t'   t' is t with the bytes from a up to e marked
use Rattle.std.specs.Prelude.{◌≡◌, ℕ, ◌<◌, ◌≤◌, Bool, true, false, ◌⊎◌, List, length, slice_index_or}

pub record Torn (a e : ℕ) (t t' : List Bool) : Type 0 where
  pub long : length t' ≡ length t
  pub within : (k : ℕ) → a ≤ k → k < e → slice_index_or t' k false ≡ true
  pub apart : (k : ℕ) → (k < a) ⊎ (e ≤ k) → slice_index_or t' k false ≡ slice_index_or t k false
