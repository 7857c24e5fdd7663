-- Which ring a card has room for, and which one a growth takes.
use Rattle.std.proofs.Common.{◌≡◌, ℕ, zero, suc, ◌+◌, ◌-◌, ◌*◌, ◌^◌, ◌<◌, ◌≤◌, leb, eqb, sym, refl, ap, ◌∙◌, subst, inl, inr, ◌⊎◌, not-suc-le-zero, mul_assoc, mul_comm, mul-one, pow-suc, pow_pos, pow-add, arith, pow_mono, max, min, Option, Some, None, MatchOption, unwrap_or, ◌%◌}
use native.Mathlib.Nat.{pow-succ'}
use Rattle.std.proofs.lemmas.Nat.{shl_whole}
use Rattle.std.proofs.lemmas.Bool.{cases_lt, cases_Bool, both_ways, le-leb, lt-leb, eq-eqb, ne_eqb, cond-true, cond-false}
use Rattle.ring.specs.Headers.{RingLength, doubled}
use Rattle.ring.specs.Steps.{doubled_to, doubled_within, largest_ring, grown_length, Largest, LargestLaw, GrownLaw}
use Rattle.ring.proofs.Doubling.{power_on, doubled_power, power_doubled}
use Rattle.ring.proofs.Standing.{ring_least}

pub ring_double : (g : ℕ) → RingLength g → RingLength (2 * g)
ring_double g r = (r.0 + 1, mul_comm 2 g ∙ power_on g r.0 r.1)

-- a longer ring is twice as long at least
pub ring_next : (g s : ℕ) → RingLength g → RingLength s → g < s → 2 * g ≤ s
ring_next g s r t l = elim (cases_lt r.0 t.0) [
  | inl x ↦ omega (arith, power_on g r.0 r.1, t.1, pow_mono {i = r.0 + 1} {j = t.0} (omega arith))
  | inr x ↦ absurd (omega (arith, r.1, t.1, pow_mono {i = t.0} {j = r.0} x))
]

-- one doubling of k
doubling : (g k : ℕ) → g * 2 ^ suc k ≡ 2 * g * 2 ^ k
doubling g k = ap (λ (z : ℕ). g * z) (pow-succ' 2 k) ∙ sym (mul_assoc g 2 (2 ^ k)) ∙ ap (λ (z : ℕ). z * 2 ^ k) (mul_comm g 2)

pub to_stays : (k g need : ℕ) → need ≤ g → doubled_to k g need ≡ g
unfolding doubled_to
to_stays zero g need l = refl
to_stays (suc k) g need l = cond-true (leb need g) g (doubled_to k (2 * g) need) (le-leb need g l)

pub to_on : (k g need : ℕ) → g < need → doubled_to (suc k) g need ≡ doubled_to k (2 * g) need
unfolding doubled_to
to_on k g need l = cond-false (leb need g) g (doubled_to k (2 * g) need) (lt-leb need g l)

pub within_stays : (k g size : ℕ) → size < 2 * g → doubled_within k g size ≡ g
unfolding doubled_within
within_stays zero g size l = refl
within_stays (suc k) g size l = cond-false (leb (2 * g) size) (doubled_within k (2 * g) size) g (lt-leb (2 * g) size l)

pub within_on : (k g size : ℕ) → 2 * g ≤ size → doubled_within (suc k) g size ≡ doubled_within k (2 * g) size
unfolding doubled_within
within_on k g size l = cond-true (leb (2 * g) size) (doubled_within k (2 * g) size) g (le-leb (2 * g) size l)

largest_here : (g size : ℕ) → RingLength g → g ≤ size → size < 2 * g → Largest size g
largest_here g size r fits l = record {
  ring = r;
  least = ring_least g r;
  fits = fits;
  largest = λ s t x. elim (cases_lt g s) [ inl y ↦ absurd (omega (arith, ring_next g s r t y)) | inr y ↦ y ];
}

within_largest : (k g size : ℕ) → RingLength g → g ≤ size → size ≤ g * 2 ^ k → Largest size (doubled_within k g size)
within_largest zero g size r fits most =
    let l : size < 2 * g = omega (arith, mul-one g, ring_least g r) in
    subst (Largest size) (sym (within_stays zero g size l)) (largest_here g size r fits l)
within_largest (suc k) g size r fits most = elim (cases_lt size (2 * g)) [
  | inl l ↦ subst (Largest size) (sym (within_stays (suc k) g size l)) (largest_here g size r fits l)
  | inr l ↦ subst (Largest size) (sym (within_on k g size l)) (within_largest k (2 * g) size (ring_double g r) l (omega (arith, doubling g k)))
]

pub largest_law : LargestLaw
largest_law size long small = within_largest 12 4096 size (0, refl) long (omega arith)

-- r is the least ring length that holds `need`, from g on
record Reaches (g need r : ℕ) : Type 0 where
  ring : RingLength r
  holds : need ≤ r
  least : (s : ℕ) → RingLength s → need ≤ s → g ≤ s → r ≤ s

reaches_here : (k g need : ℕ) → RingLength g → need ≤ g → Reaches g need (doubled_to k g need)
reaches_here k g need r l = subst (Reaches g need) (sym (to_stays k g need l)) (record { ring = r; holds = l; least = λ s t x y. y })

to_reaches : (k g need : ℕ) → RingLength g → need ≤ g * 2 ^ k → Reaches g need (doubled_to k g need)
to_reaches zero g need r most = reaches_here zero g need r (omega (arith, mul-one g))
to_reaches (suc k) g need r most = elim (cases_lt g need) [
  | inl l ↦
      let i = to_reaches k (2 * g) need (ring_double g r) (omega (arith, doubling g k)) in
      subst (Reaches g need) (sym (to_on k g need l)) (record {
        ring = i.ring;
        holds = i.holds;
        least = λ s t x y. i.least s t x (ring_next g s r t (omega arith));
      })
  | inr l ↦ reaches_here (suc k) g need r l
]

pub grown_law : GrownLaw
grown_law size g need small r fits room =
    let top = largest_law size (omega (arith, ring_least g r)) small in
    let i = to_reaches 12 g need r (omega (arith, ring_least g r, top.fits)) in
    record {
      ring = i.ring;
      holds = i.holds;
      fits = i.least (largest_ring size) top.ring room (top.largest g r fits);
      stays = λ l. to_stays 12 g need l;
      doubles = λ l. omega (arith, ring_next g (grown_length g need) r i.ring (omega (arith, i.holds)));
      least = λ l s t x. i.least s t x (omega arith);
    }

-- doubled j times: each shorter length is too short, and this one holds it or is the last
pub to_power : (k j g need : ℕ) → j ≤ k → ((i : ℕ) → i < j → g * 2 ^ i < need) → (need ≤ g * 2 ^ j) ⊎ (j ≡ k) → doubled_to k g need ≡ g * 2 ^ j
unfolding doubled_to
to_power zero zero g need l before here = sym (mul-one g)
to_power zero (suc j) g need l before here = absurd (not-suc-le-zero l)
to_power (suc k) zero g need l before here = elim here [
  | inl h ↦ to_stays (suc k) g need (omega (arith, mul-one g)) ∙ sym (mul-one g)
  | inr e ↦ absurd (omega arith)
]
to_power (suc k) (suc j) g need l before here =
    let on : (i : ℕ) → i < j → 2 * g * 2 ^ i < need = λ i x. omega (arith, doubling g i, before (suc i) (omega arith)) in
    let there : (need ≤ 2 * g * 2 ^ j) ⊎ (j ≡ k) = elim here [ inl h ↦ inl (omega (arith, doubling g j)) | inr e ↦ inr (omega arith) ] in
    to_on k g need (omega (arith, mul-one g, before 0 (omega arith))) ∙ to_power k j (2 * g) need (omega arith) on there ∙ sym (doubling g j)

-- doubled j times: each length up to there is within the size, and the next one is not or this is the last
pub within_power : (k j g size : ℕ) → j ≤ k → ((i : ℕ) → i < j → 2 * (g * 2 ^ i) ≤ size) → (size < 2 * (g * 2 ^ j)) ⊎ (j ≡ k) → doubled_within k g size ≡ g * 2 ^ j
unfolding doubled_within
within_power zero zero g size l before here = sym (mul-one g)
within_power zero (suc j) g size l before here = absurd (not-suc-le-zero l)
within_power (suc k) zero g size l before here = elim here [
  | inl h ↦ within_stays (suc k) g size (omega (arith, mul-one g)) ∙ sym (mul-one g)
  | inr e ↦ absurd (omega arith)
]
within_power (suc k) (suc j) g size l before here =
    let on : (i : ℕ) → i < j → 2 * (2 * g * 2 ^ i) ≤ size = λ i x. omega (arith, doubling g i, before (suc i) (omega arith)) in
    let there : (size < 2 * (2 * g * 2 ^ j)) ⊎ (j ≡ k) = elim here [ inl h ↦ inl (omega (arith, doubling g j)) | inr e ↦ inr (omega arith) ] in
    within_on k g size (omega (arith, mul-one g, before 0 (omega arith))) ∙ within_power k j (2 * g) size (omega arith) on there ∙ sym (doubling g j)

-- the largest length within a size is the first one, doubled some times
within_some : (k g size : ℕ) → (j : ℕ) × (j ≤ k) × (doubled_within k g size ≡ g * 2 ^ j)
unfolding doubled_within
within_some zero g size = (0, omega arith, sym (mul-one g))
within_some (suc k) g size = elim (cases_lt size (2 * g)) [
  | inl l ↦ (0, omega arith, within_stays (suc k) g size l ∙ sym (mul-one g))
  | inr l ↦
      let i : (j : ℕ) × (j ≤ k) × (doubled_within k (2 * g) size ≡ 2 * g * 2 ^ j) = within_some k (2 * g) size in
      (suc i.0, omega (arith, i.1), within_on k g size l ∙ i.2 ∙ sym (doubling g i.0))
]

-- a length is a ring's exactly if it is the largest one within itself
pub doubled_largest : (r : ℕ) → eqb (largest_ring r) r ≡ doubled 12 4096 r
doubled_largest r = elim (cases_Bool (doubled 12 4096 r)) [
  | inl is ↦
      let x = doubled_power 12 4096 r is in
      let before : (i : ℕ) → i < x.0 → 2 * (4096 * 2 ^ i) ≤ r = λ i l. omega (arith, x.2, pow-suc 2 i, pow_mono {i = suc i} {j = x.0} l) in
      eq-eqb (largest_ring r) r (within_power 12 x.0 4096 r x.1 before (inl (omega (arith, x.2, pow_pos x.0))) ∙ sym x.2) ∙ sym is
  | inr isnt ↦
      let x = within_some 12 4096 r in
      ne_eqb (largest_ring r) r (λ e. both_ways (doubled 12 4096 r) isnt (power_doubled 12 4096 r x.0 x.1 (sym e ∙ x.2))) ∙ sym isnt
]

-- the largest ring as a power of two, the largest within the size where that is a ring's
pub within_clamped : (e size c : ℕ) → c ≡ max 4096 (min size 16777216) → 2 ^ e ≤ c → c < 2 * 2 ^ e → 2 ^ e ≡ largest_ring size
within_clamped e size c is low high =
    let least : 12 ≤ e = elim (cases_lt e 12) [ inl l ↦ absurd (omega (arith, pow_mono {i = e} {j = 11} (omega arith))) | inr l ↦ l ] in
    let most : e ≤ 24 = elim (cases_lt 24 e) [ inl l ↦ absurd (omega (arith, pow_mono {i = 25} {j = e} l)) | inr l ↦ l ] in
    let split : 2 ^ e ≡ 4096 * 2 ^ (e - 12) = ap (λ (n : ℕ). 2 ^ n) (omega arith) ∙ pow-add 2 12 (e - 12) in
    let before : (i : ℕ) → i < e - 12 → 2 * (4096 * 2 ^ i) ≤ size = λ i l. omega (arith, split, pow-suc 2 i, pow_mono {i = suc i} {j = e - 12} l) in
    let there : (size < 2 * (4096 * 2 ^ (e - 12))) ⊎ (e - 12 ≡ 12) = elim (cases_lt e 24) [ inl l ↦ inl (omega (arith, split, pow-suc 2 e, pow_mono {i = suc e} {j = 24} l)) | inr l ↦ inr (omega arith) ] in
    split ∙ sym (within_power 12 (e - 12) 4096 size (omega arith) before there)

-- a ring's length, doubled up to twelve times, fits in 64 bits
shift_whole : (g k : ℕ) → g < 2 ^ 32 → k ≤ 12 → g * 2 ^ k % 2 ^ 64 ≡ g * 2 ^ k
shift_whole g k l m = shl_whole g 32 k 64 l (omega arith)

pub to_found : (g need : ℕ) (o : Option ℕ) → g < 2 ^ 32 → MatchOption o ((k : ℕ) → 0 ≤ k → k < 12 → g * 2 ^ k % 2 ^ 64 < need)
    (λ i. (0 ≤ i) × (i < 12) × (need ≤ g * 2 ^ i % 2 ^ 64) × ((k : ℕ) → 0 ≤ k → k < i → g * 2 ^ k % 2 ^ 64 < need)) →
    (unwrap_or o 12 ≤ 12) × (g * 2 ^ unwrap_or o 12 % 2 ^ 64 ≡ grown_length g need)
to_found g need None l m = (
  omega arith,
  shift_whole g 12 l (omega arith) ∙ sym (to_power 12 12 g need (omega arith) (λ i x. omega (arith, shift_whole g i l (omega arith), m i (omega arith) x)) (inr refl)),
)
to_found g need (Some j) l m = (
  omega (arith, m.1),
  shift_whole g j l (omega (arith, m.1))
      ∙ sym (to_power 12 j g need (omega (arith, m.1)) (λ i x. omega (arith, m.1, shift_whole g i l (omega (arith, m.1)), m.3 i (omega arith) x)) (inl (omega (arith, shift_whole g j l (omega (arith, m.1)), m.2)))),
)
