-- Sectors, one after another: how many are touched, how far they reach, and what life is left.
use Rattle.std.proofs.Common.{◌≡◌, ℕ, ◌+◌, ◌-◌, ◌%◌, ◌<◌, ◌≤◌, true, false, sym, refl, ap, ◌∙◌, inl, inr, arith}
use Rattle.std.proofs.lemmas.Bool.{cases_lt, leb-true, leb-false, le-leb, lt-leb, both_ways}
use Rattle.storage.specs.declared.life.Life.{Life}
use Rattle.storage.specs.declared.life.Life.TheVariants.{Endless, Left}
use Rattle.storage.specs.Lives.{lessened, enough}
use Rattle.devices.specs.Devices.{left}
use Rattle.storage.specs.Sectors.{touched}
use Rattle.storage.proofs.Sectors.{Even, touched_some, touched_none, touched_more, touched_less}
use Rattle.devices.specs.Sector.{upto}

-- the sectors that whole fronts touch reach just as far
pub upto_touched : (o n : ℕ) → Even o n → upto o (touched o n) ≡ n
upto_touched o n (inl z) = omega (arith, touched_none o n z)
upto_touched o n (inr a) = elim (cases_lt 0 n) [
  | inl q ↦ omega (arith, touched_some o n q)
  | inr q ↦ omega (arith, touched_none o n (omega arith))
]

pub life_more : (t : ℕ) (l : Life) → enough t l ≡ true → enough 1 (lessened t l) ≡ true → (enough (t + 1) l ≡ true) × (lessened 1 (lessened t l) ≡ lessened (t + 1) l)
life_more t Endless e f = (refl, refl)
life_more t (Left l) e f =
    let a = leb-true t l e in let b = leb-true 1 (l - t) f in
    (le-leb (t + 1) l (omega arith), ap Left (omega arith))

-- where the life ends after t steps, it had just t, and suffices for no more
pub life_out : (t : ℕ) (l : Life) → enough t l ≡ true → enough 1 (lessened t l) ≡ false → (left l ≡ t) × (lessened t l ≡ Left 0) × ((n : ℕ) → t < n → enough n l ≡ false)
life_out t Endless e f = absurd (both_ways true f refl)
life_out t (Left l) e f =
    let a = leb-true t l e in let b = leb-false 1 (l - t) f in
    (omega arith, ap Left (omega arith), λ n h. lt-leb n l (omega arith))

-- the life after one sector more
pub sector_more : (o n m : ℕ) (l l₁ l₂ : Life) → Even o n → 0 < m → m ≤ 512 - (o + n) % 512 →
    enough (touched o n) l ≡ true → l₁ ≡ lessened (touched o n) l → enough 1 l₁ ≡ true → l₂ ≡ lessened 1 l₁ →
    (enough (touched o (n + m)) l ≡ true) × (l₂ ≡ lessened (touched o (n + m)) l)
sector_more o n m l l₁ l₂ e p h en is one then =
    let t = touched_more o n m e p h in
    let x = life_more (touched o n) l en (rw is at one) in
    (rw t x.0, then ∙ ap (λ (k : Life). lessened 1 k) is ∙ x.1 ∙ ap (λ (k : ℕ). lessened k l) (sym t))

-- where no life is left for one sector more
pub sector_out : (o n m : ℕ) (l l₁ : Life) → Even o n → n < m → enough (touched o n) l ≡ true → l₁ ≡ lessened (touched o n) l → enough 1 l₁ ≡ false →
    (enough (touched o m) l ≡ false) × (l₁ ≡ Left 0) × (upto o (left l) ≡ n)
sector_out o n m l l₁ e lt en is out =
    let x = life_out (touched o n) l en (rw is at out) in
    (x.2 (touched o m) (touched_less o n m e lt), is ∙ x.1, ap (λ (k : ℕ). upto o k) x.0 ∙ upto_touched o n e)
