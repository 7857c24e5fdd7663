-- Cards of 8,192 bytes, worked out by hand, and what they say.
--   Row        the four numbers of a header, its bytes, the bytes behind it, and what the card says;
--              the rest of the card is zeros
--   card x     the card of a row
--   Right x    the header's bytes are those of its numbers, and the card reads as the row says
--   rings      the rows
use Rattle.std.specs.Prelude.{◌≡◌, ℕ, ◌-◌, List, [], ◌∷◌, ◌++◌, length, replicate}
use Rattle.std.specs.List.{AllByRecursion}
use Rattle.ring.specs.declared.header.Header.{Header}
use Rattle.ring.specs.Headers.{cell}
use Rattle.ring.specs.Reading.{Found, Records, NotAQueue, BrokenRecord, reading_of}

pub record Row : Type 0 where
  pub numbers : Header
  pub bytes : List ℕ
  pub behind : List ℕ
  pub says : Found

abbrev pub card : Row → List ℕ
card x = x.bytes ++ (x.behind ++ replicate (8176 - length x.behind) 0)

pub record Right (x : Row) : Type 0 where
  pub header : cell x.numbers ≡ x.bytes
  pub reads : reading_of (card x) ≡ x.says

abbrev header : ℕ → ℕ → ℕ → ℕ → Header
header g n p q = record { ring = g; count = n; first = p; last = q }

abbrev formatted : Row
formatted = record { numbers = header 4096 0 0 0; bytes = 0 ∷ 0 ∷ 0x10 ∷ 0 ∷ replicate 12 0; behind = []; says = Records [] }

-- one record that fills the ring
abbrev pub full : Row
full = record { numbers = header 4096 1 16 16; bytes = 0 ∷ 0 ∷ 0x10 ∷ 0 ∷ 0 ∷ 0 ∷ 0 ∷ 1 ∷ 0 ∷ 0 ∷ 0 ∷ 0x10 ∷ 0 ∷ 0 ∷ 0 ∷ 0x10 ∷ []; behind = 0 ∷ 0 ∷ 0x0f ∷ 0xec ∷ []; says = Records (replicate 4076 0 ∷ []) }

-- 66 69 and 2a 2a 2a, from position 16 on
abbrev two_elements : List ℕ
two_elements = 0 ∷ 0 ∷ 0 ∷ 2 ∷ 0x66 ∷ 0x69 ∷ 0 ∷ 0 ∷ 0 ∷ 3 ∷ 0x2a ∷ 0x2a ∷ 0x2a ∷ []

abbrev pub rings : List Row
rings =
    formatted
    -- an empty queue has no first element
    ∷ record { numbers = header 4096 0 16 0; bytes = 0 ∷ 0 ∷ 0x10 ∷ 0 ∷ 0 ∷ 0 ∷ 0 ∷ 0 ∷ 0 ∷ 0 ∷ 0 ∷ 0x10 ∷ 0 ∷ 0 ∷ 0 ∷ 0 ∷ []; behind = []; says = NotAQueue }
    -- positions begin at 16
    ∷ record { numbers = header 4096 1 15 15; bytes = 0 ∷ 0 ∷ 0x10 ∷ 0 ∷ 0 ∷ 0 ∷ 0 ∷ 1 ∷ 0 ∷ 0 ∷ 0 ∷ 0x0f ∷ 0 ∷ 0 ∷ 0 ∷ 0x0f ∷ []; behind = []; says = NotAQueue }
    -- a ring is 4,096 bytes times a power of two long
    ∷ record { numbers = header 6144 0 0 0; bytes = 0 ∷ 0 ∷ 0x18 ∷ 0 ∷ replicate 12 0; behind = []; says = NotAQueue }
    -- a record that fills the ring, and one that is a byte too long for it
    ∷ full
    ∷ record { numbers = header 4096 1 16 16; bytes = 0 ∷ 0 ∷ 0x10 ∷ 0 ∷ 0 ∷ 0 ∷ 0 ∷ 1 ∷ 0 ∷ 0 ∷ 0 ∷ 0x10 ∷ 0 ∷ 0 ∷ 0 ∷ 0x10 ∷ []; behind = 0 ∷ 0 ∷ 0x0f ∷ 0xed ∷ []; says = BrokenRecord 16 }
    ∷ record { numbers = header 4096 2 16 22; bytes = 0 ∷ 0 ∷ 0x10 ∷ 0 ∷ 0 ∷ 0 ∷ 0 ∷ 2 ∷ 0 ∷ 0 ∷ 0 ∷ 0x10 ∷ 0 ∷ 0 ∷ 0 ∷ 0x16 ∷ []; behind = two_elements; says = Records ((0x66 ∷ 0x69 ∷ []) ∷ (0x2a ∷ 0x2a ∷ 0x2a ∷ []) ∷ []) }
    -- the second element is not where the header says that the last one is
    ∷ record { numbers = header 4096 2 16 16; bytes = 0 ∷ 0 ∷ 0x10 ∷ 0 ∷ 0 ∷ 0 ∷ 0 ∷ 2 ∷ 0 ∷ 0 ∷ 0 ∷ 0x10 ∷ 0 ∷ 0 ∷ 0 ∷ 0x10 ∷ []; behind = two_elements; says = BrokenRecord 22 }
    -- an element at 4,094, the last two bytes of the ring: its length field goes on at 16
    ∷ record { numbers = header 4096 1 4094 4094; bytes = 0 ∷ 0 ∷ 0x10 ∷ 0 ∷ 0 ∷ 0 ∷ 0 ∷ 1 ∷ 0 ∷ 0 ∷ 0x0f ∷ 0xfe ∷ 0 ∷ 0 ∷ 0x0f ∷ 0xfe ∷ []; behind = 0 ∷ 2 ∷ 0x66 ∷ 0x69 ∷ []; says = Records ((0x66 ∷ 0x69 ∷ []) ∷ []) }
    -- a ring that is longer than the card
    ∷ record { numbers = header 16384 0 0 0; bytes = 0 ∷ 0 ∷ 0x40 ∷ 0 ∷ replicate 12 0; behind = []; says = NotAQueue }
    -- a record of 65,536 bytes
    ∷ record { numbers = header 8192 1 16 16; bytes = 0 ∷ 0 ∷ 0x20 ∷ 0 ∷ 0 ∷ 0 ∷ 0 ∷ 1 ∷ 0 ∷ 0 ∷ 0 ∷ 0x10 ∷ 0 ∷ 0 ∷ 0 ∷ 0x10 ∷ []; behind = 0 ∷ 1 ∷ 0 ∷ 0 ∷ []; says = BrokenRecord 16 }
    ∷ []

abbrev pub RingsAreRight : Type 0
RingsAreRight = AllByRecursion Right rings
