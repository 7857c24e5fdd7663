-- Bytes as a function of the position, and numbers among them.
--   at b q           the byte of the list b at q
--   number f p       the big-endian 32-bit number at p
--   four n           the four bytes of a number, big-endian
--   stretch f p n    the n bytes from p on
use Rattle.std.specs.Prelude.{ℕ, zero, suc, ◌+◌, ◌*◌, ◌/◌, ◌%◌, List, [], ◌∷◌, slice_index}

unfoldable pub at : List ℕ → ℕ → ℕ
at b q = slice_index b q

unfoldable pub number : (ℕ → ℕ) → ℕ → ℕ
number f p = ((f p * 256 + f (p + 1)) * 256 + f (p + 2)) * 256 + f (p + 3)

unfoldable pub four : ℕ → List ℕ
four n = n / 16777216 % 256 ∷ n / 65536 % 256 ∷ n / 256 % 256 ∷ n % 256 ∷ []

unfoldable pub stretch : (ℕ → ℕ) → ℕ → ℕ → List ℕ
stretch f p zero = []
stretch f p (suc n) = f p ∷ stretch f (p + 1) n
