-- Ring lengths by doubling.
use Rattle.std.proofs.Common.{◌≡◌, ℕ, zero, suc, ◌+◌, ◌*◌, ◌^◌, ◌≤◌, true, eqb, sym, ap, ◌∙◌, inl, inr, mul_assoc, mul_comm, pow-suc, mul-one, add-one, arith}
use native.Mathlib.Nat.{pow-succ'}
use Rattle.std.proofs.lemmas.Bool.{eq-eqb, eqb-true, or_left, or_right, or_cases}
use Rattle.ring.specs.Headers.{doubled}

pub power_on : (r i : ℕ) → r ≡ 4096 * 2 ^ i → r * 2 ≡ 4096 * 2 ^ (i + 1)
power_on r i e = rw (e, add-one, pow-suc 2 i) (mul_assoc 4096 (2 ^ i) 2)

pub doubled_power : (k g r : ℕ) → doubled k g r ≡ true → (j : ℕ) × (j ≤ k) × (r ≡ g * 2 ^ j)
unfolding doubled
doubled_power zero g r e = (0, omega arith, eqb-true r g e ∙ sym (mul-one g))
doubled_power (suc k) g r e = elim (or_cases (eqb r g) (doubled k (2 * g) r) e) [
  | inl here ↦ (0, omega arith, eqb-true r g here ∙ sym (mul-one g))
  | inr on ↦
      let x : (j : ℕ) × (j ≤ k) × (r ≡ 2 * g * 2 ^ j) = doubled_power k (2 * g) r on in
      (suc x.0, omega (arith, x.1), x.2 ∙ ap (λ (z : ℕ). z * 2 ^ x.0) (mul_comm 2 g) ∙ mul_assoc g 2 (2 ^ x.0) ∙ ap (λ (z : ℕ). g * z) (sym (pow-succ' 2 x.0)))
]

pub power_doubled : (k g r j : ℕ) → j ≤ k → r ≡ g * 2 ^ j → doubled k g r ≡ true
unfolding doubled
power_doubled zero g r zero l e = eq-eqb r g (e ∙ mul-one g)
power_doubled zero g r (suc j) l e = absurd (omega arith)
power_doubled (suc k) g r zero l e = or_left (eqb r g) (doubled k (2 * g) r) (eq-eqb r g (e ∙ mul-one g))
power_doubled (suc k) g r (suc j) l e =
    or_right (eqb r g) (doubled k (2 * g) r) (power_doubled k (2 * g) r j (omega arith)
    (e ∙ ap (λ (z : ℕ). g * z) (pow-succ' 2 j) ∙ sym (mul_assoc g 2 (2 ^ j)) ∙ ap (λ (z : ℕ). z * 2 ^ j) (mul_comm g 2)))
