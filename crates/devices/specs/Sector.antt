-- The sector device: it programs each sector that a write touches, in rising order, for one
-- step each. Where the life ends, the sectors programmed before are kept.
--   sector           the rules of its kind
--   sector_name      the name in its faults
--   upto o l         how many bytes from o on lie within the first l sectors that it touches
--   no_marks m n     the torn marks of a device of n bytes: none is set, and none is kept
use Rattle.std.specs.Prelude.{ℕ, ◌+◌, ◌-◌, ◌*◌, ◌/◌, ◌%◌, Bool, false, cond, List, replicate, codes, ◌==◌}
use Rattle.storage.specs.Sizes.{sector_width}
use Rattle.storage.specs.Sectors.{touched}
use Rattle.devices.specs.declared.sector.Sectors.{Sectors}
use Rattle.devices.specs.Devices.{Kind}

abbrev pub upto : ℕ → ℕ → ℕ
upto o l = sector_width * (o / sector_width + l) - o

-- an even choice leaves the durable byte, an odd one the visible byte
abbrev pub sector_pick : ℕ → ℕ → ℕ → Bool → ℕ
sector_pick c d v t = cond (c % 2 == 0) d v

abbrev pub sector : Kind
sector = record { unit = sector_width; steps = touched; marks = λ o n t. t; front = upto; pick = sector_pick }

abbrev pub sector_name : List ℕ
sector_name = codes "sector"

abbrev pub no_marks : Sectors → ℕ → List Bool
no_marks m n = replicate n false
