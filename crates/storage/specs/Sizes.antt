-- The numbers that every storage shares.
--   cell_width     bytes that arrive together or not at all, where a write covers them all
--   sector_width   bytes of a sector
--   SizeRule n     n is a size that a storage may have
use Rattle.std.specs.Prelude.{◌≡◌, ℕ, ◌%◌, ◌≤◌}

abbrev pub cell_width : ℕ
cell_width = 16

abbrev pub sector_width : ℕ
sector_width = 512

pub record SizeRule (n : ℕ) : Type 0 where
  pub sectors : n % sector_width ≡ 0
  pub least : 4096 ≤ n
  pub most : n ≤ 16777216
