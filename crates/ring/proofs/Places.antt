-- Positions of the ring, as places on the card.
use Rattle.std.proofs.Common.{◌≡◌, ℕ, ◌+◌, ◌-◌, ◌<◌, ◌≤◌, ltb, ◌⊎◌, inl, inr, arith}
use Rattle.std.proofs.lemmas.Bool.{cases_lt, lt-ltb, le-ltb, cond-true, cond-false}
use Rattle.ring.specs.Ring.{place}

pub place_cases : (w g q : ℕ) → ((q < g) × (place w g q ≡ q)) ⊎ ((g ≤ q) × (place w g q ≡ q + w - g))
unfolding place
place_cases w g q = elim (cases_lt q g) [
  | inl l ↦ inl (l, cond-true (ltb q g) q (q + w - g) (lt-ltb q g l))
  | inr l ↦ inr (l, cond-false (ltb q g) q (q + w - g) (le-ltb q g l))
]

-- a position that counts on at most once round the ring lies in it
pub place_in : (w g q : ℕ) → w ≤ q → q + w < g + g → (w ≤ place w g q) × (place w g q < g)
place_in w g q a b = (omega (arith, place_cases w g q), omega (arith, place_cases w g q))
