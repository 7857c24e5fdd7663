-- The numbers of the layout. The other definitions take them as arguments.
--   header_width    bytes of the header; the positions of the ring begin behind it
--   least_ring      the length of the shortest ring
--   doublings       how often that can be doubled within the largest card
--   longest_read    the longest record that a reading accepts
--   longest_added   the longest record that an add accepts
use Rattle.std.specs.Prelude.{ℕ}

abbrev pub header_width : ℕ
header_width = 16

abbrev pub least_ring : ℕ
least_ring = 4096

abbrev pub doublings : ℕ
doublings = 12

abbrev pub longest_read : ℕ
longest_read = 65535

abbrev pub longest_added : ℕ
longest_added = 65535
