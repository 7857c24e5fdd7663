-- The ring on a card, and the elements along it. A header is w bytes wide, a ring g bytes long.
--   place w g q      where on the card position q is: q counts on past the ring's end, where
--                    byte g is byte w again
--   along w g b q    the byte at position q of the ring on the card b
--   encoding r       the element of a record: its length, then its bytes
--   encodings rs     the elements of records, one after another
--   taken rs         how many bytes these take
--   used w rs        how many with the header
use Rattle.std.specs.Prelude.{ℕ, ◌+◌, ◌-◌, cond, List, [], ◌∷◌, ◌++◌, length, nat_lt}
use Rattle.ring.specs.Bytes.{at, four}

unfoldable pub place : ℕ → ℕ → ℕ → ℕ
place w g q = cond (nat_lt q g) q (q + w - g)

unfoldable pub along : ℕ → ℕ → List ℕ → ℕ → ℕ
along w g b q = at b (place w g q)

abbrev pub encoding : List ℕ → List ℕ
encoding r = four (length r) ++ r

abbrev pub encodings : List (List ℕ) → List ℕ
encodings [] = []
encodings (r ∷ rs) = encoding r ++ encodings rs

abbrev pub taken : List (List ℕ) → ℕ
taken [] = 0
taken (r ∷ rs) = 4 + length r + taken rs

abbrev pub used : ℕ → List (List ℕ) → ℕ
used w rs = w + taken rs
