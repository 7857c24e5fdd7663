-- The image: a write takes one step, and nothing of it arrives where none is left. A byte is
-- torn once a write since the last sync covered it but not its whole cell.
--   image           the rules of its kind
--   image_name      the name in its faults
--   marks_of m n    the torn marks that its lent memory m holds, how many bytes n it has whatever
use Rattle.std.specs.Prelude.{ℕ, ◌%◌, Bool, cond, List, codes, ◌==◌}
use Rattle.storage.specs.Sizes.{cell_width}
use Rattle.storage.specs.Standing.{marked}
use Rattle.devices.specs.declared.image.TornMarks.{TornMarks}
use Rattle.devices.specs.Devices.{Kind}

-- choice mod 3: the durable byte, the visible one, or the durable one unless it is torn
abbrev pub image_pick : ℕ → ℕ → ℕ → Bool → ℕ
image_pick c d v t = cond (c % 3 == 0) d (cond (c % 3 == 1) v (cond t c d))

abbrev pub image : Kind
image = record { unit = cell_width; steps = λ o n. 1; marks = marked cell_width; front = λ o l. 0; pick = image_pick }

abbrev pub image_name : List ℕ
image_name = codes "image"

abbrev pub marks_of : TornMarks → ℕ → List Bool
marks_of m n = m.torn.now
