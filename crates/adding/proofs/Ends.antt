-- The places of the bytes behind the last element.
use Rattle.std.proofs.Common.{◌≡◌, ℕ, ◌+◌, ◌≤◌, ◌∙◌, arith}
use Rattle.ring.specs.Ring.{place}
use Rattle.ring.proofs.Places.{place_cases}
use Rattle.adding.specs.Writes.{Apart}

-- what is apart from n bytes from a position on is apart from those from its place on
pub place_apart : (g p n j m k : ℕ) → j + m ≤ n → 16 ≤ p → p + n + 16 ≤ g + g → Apart g p n k → Apart g (place 16 g (p + j)) m k
place_apart g p n j m k le low high a i l e =
    let same : place 16 g (place 16 g (p + j) + i) ≡ place 16 g (p + (j + i)) = omega (arith, place_cases 16 g (p + j), place_cases 16 g (p + (j + i)), place_cases 16 g (place 16 g (p + j) + i)) in
    a (j + i) (omega arith) (e ∙ same)
