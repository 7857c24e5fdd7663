-- What the rules of a kind of device have to keep, so that it is a storage.
use Rattle.std.specs.Prelude.{◌≡◌, ℕ, ◌+◌, ◌*◌, ◌<◌, ◌≤◌, Bool, true, false, ◌⊎◌, List, length, slice_index_or}
use Rattle.storage.specs.Sizes.{cell_width}
use Rattle.storage.specs.Standing.{InPart}
use Rattle.devices.specs.Devices.{Kind}

pub record Rules (K : Kind) : Type 0 where
  -- a cut decides by whole cells
  pub cells : ℕ
  pub unit_is : K.unit ≡ cell_width * cells
  -- only bytes that a write covers in part are newly torn
  pub marks_long : (o n : ℕ) (t : List Bool) → length (K.marks o n t) ≡ length t
  pub marks_new : (o n : ℕ) (t : List Bool) (k : ℕ) → o + n ≤ length t →
      slice_index_or (K.marks o n t) k false ≡ true → slice_index_or t k false ≡ false → InPart cell_width o n k
  -- the front that arrives of a broken write is a part of it, and cuts no cell
  pub front_within : (o n l : ℕ) → l < K.steps o n → K.front o l ≤ n
  pub front_uncut : (o l j : ℕ) → o ≤ cell_width * j → (cell_width * j + cell_width ≤ o + K.front o l) ⊎ (o + K.front o l ≤ cell_width * j)
  -- a choice leaves the visible byte, whichever it is, or the durable one unless it is torn
  pub pick_one : (c : ℕ) → ((d v : ℕ) (t : Bool) → K.pick c d v t ≡ v) ⊎ ((d v : ℕ) → K.pick c d v false ≡ d)
