-- Bytes laid along the ring, in one piece and in two.
use Rattle.std.proofs.Common.{◌≡◌, ℕ, ◌+◌, ◌-◌, ◌<◌, ◌≤◌, ◌⊎◌, List, [], length, take, drop, Ok, Err, Result, sym, ap, ◌∙◌, subst, inl, inr, arith, length-drop, length-take}
use Rattle.storage.specs.Cells.{laid}
use Rattle.storage.specs.Meaning.{Meaning}
use Rattle.storage.proofs.Lists.{laid_none}
use Rattle.storage.specs.Calls.{Call, WriteDone}
use Rattle.storage.specs.Inside.{OnWriteInside}
use Rattle.storage.specs.Refusals.{Answer}
use Rattle.storage.specs.Traces.{Made}
use Rattle.ring.specs.declared.place.Place.{Place}
use Rattle.ring.specs.Ring.{place}
use Rattle.ring.specs.Steps.{laid_along}
use Rattle.ring.proofs.Places.{place_cases}
use Rattle.ring.proofs.Laying.{laid_whole, laid_round, outside_piece}
use Rattle.adding.specs.Writes.{pieces, Apart, OnLay}
use Rattle.adding.proofs.Going.{went_went, went_cut, write_went, write_cut}

-- the pieces of n bytes from p on, and what is apart from these
front_apart : (g p n m k : ℕ) → m ≤ n → p + m ≤ g → 16 ≤ p → p < g → Apart g p n k → (k < p) ⊎ (p + m ≤ k)
front_apart g p n m k le fits low high a =
    let here : place 16 g (p + 0) ≡ p = omega (arith, place_cases 16 g (p + 0)) in
    let x = outside_piece 16 g p n 0 m k (omega arith) (omega arith) a in
    elim x [ inl l ↦ inl (omega arith) | inr l ↦ inr (omega arith) ]

back_apart : (g p n k : ℕ) → g - p ≤ n → 16 + n ≤ g → 16 ≤ p → p < g → Apart g p n k → (k < 16) ⊎ (16 + (n - (g - p)) ≤ k)
back_apart g p n k cross once low high a =
    let here : place 16 g (p + (g - p)) ≡ 16 = omega (arith, place_cases 16 g (p + (g - p))) in
    let x = outside_piece 16 g p n (g - p) (n - (g - p)) k (omega arith) (omega arith) a in
    elim x [ inl l ↦ inl (omega arith) | inr l ↦ inr (omega arith) ]

module _ (g p : ℕ) (bytes : List ℕ) (low : 16 ≤ p) (high : p < g) where
  abbrev P : ℕ → Type 0
  P = Apart g p (length bytes)

  pub lay_one : {G : Type 0} (m m' : Meaning) (r : Result (Unit {0}) G) → p + length bytes ≤ g → OnWriteInside p bytes m m' r → OnLay g p bytes m m' r
  lay_one m m' (Ok _) fits d = (
    write_went P p bytes m m' (λ k a. front_apart g p (length bytes) (length bytes) k (omega arith) fits low high a) d,
    d.visible ∙ sym (laid_whole 16 g p bytes m.visible fits),
  )
  lay_one m m' (Err f) fits d = write_cut P p bytes m m' (λ k a. front_apart g p (length bytes) (length bytes) k (omega arith) fits low high a) d

  module _ (cross : g < p + length bytes) (once : 16 + length bytes ≤ g) where
    front : length (take (g - p) bytes) ≡ g - p
    front = length-take (g - p) bytes ∙ omega arith

    back : length (drop (g - p) bytes) ≡ length bytes - (g - p)
    back = length-drop (g - p) bytes

    front_out : (k : ℕ) → P k → (k < p) ⊎ (p + length (take (g - p) bytes) ≤ k)
    front_out k a = elim (front_apart g p (length bytes) (g - p) k (omega arith) (omega arith) low high a) [ inl l ↦ inl l | inr l ↦ inr (omega (arith, front)) ]

    back_out : (k : ℕ) → P k → (k < 16) ⊎ (16 + length (drop (g - p) bytes) ≤ k)
    back_out k a = elim (back_apart g p (length bytes) k (omega arith) once low high a) [ inl l ↦ inl l | inr l ↦ inr (omega (arith, back)) ]

    pub lay_front : {G : Type 0} (m m' : Meaning) (f : G) → OnWriteInside {G = G} p (take (g - p) bytes) m m' (Err f) → OnLay {G = G} g p bytes m m' (Err f)
    lay_front m m' f d = write_cut P p (take (g - p) bytes) m m' front_out d

    pub lay_two : {G : Type 0} (m m₁ m₂ : Meaning) (r : Result (Unit {0}) G) → WriteDone p (take (g - p) bytes) m m₁ → OnWriteInside 16 (drop (g - p) bytes) m₁ m₂ r → OnLay g p bytes m m₂ r
    lay_two m m₁ m₂ (Ok _) d w = (
      went_went P m m₁ m₂ (write_went P p (take (g - p) bytes) m m₁ front_out d) (write_went P 16 (drop (g - p) bytes) m₁ m₂ back_out w),
      w.visible ∙ ap (laid 16 (drop (g - p) bytes)) d.visible ∙ sym (laid_round 16 g p bytes m.visible cross),
    )
    lay_two m m₁ m₂ (Err f) d w = went_cut P m m₁ m₂ (write_went P p (take (g - p) bytes) m m₁ front_out d) (write_cut P 16 (drop (g - p) bytes) m₁ m₂ back_out w)

-- no bytes
pub lay_none : (g p : ℕ) (bytes b : List ℕ) → p < g → bytes ≡ [] → laid_along 16 g p bytes b ≡ b
lay_none g p bytes b high e =
    let none : p + length bytes ≤ g = omega (arith, ap length e) in
    laid_whole 16 g p bytes b none ∙ ap (λ (x : List ℕ). laid p x b) e ∙ laid_none p b

-- what was laid, by equal places and bytes
pub lay_at : {G : Type 0} (p : Place) (g q : ℕ) (a b : List ℕ) (m m' : Meaning) (r : Result (Unit {0}) G) → p.ring ≡ g → p.at ≡ q → a ≡ b → OnLay p.ring p.at a m m' r → OnLay g q b m m' r
lay_at p g q a b m m' r z e f d = subst (λ (x : List ℕ). OnLay g q x m m' r) f (subst (λ (k : ℕ). OnLay g k a m m' r) e (subst (λ (n : ℕ). OnLay n p.at a m m' r) z d))

pub pieces_at : {S O G : Type 0} (did : S → Call → Answer O G → S → Type 0) (p : Place) (g q : ℕ) (a b : List ℕ) (s t : S) (r : Result (Unit {0}) G) → p.ring ≡ g → p.at ≡ q → a ≡ b →
    Made did (pieces p.ring p.at a) r s t → Made did (pieces g q b) r s t
pieces_at did p g q a b s t r z e f d =
    subst (λ (x : List ℕ). Made did (pieces g q x) r s t) f
    (subst (λ (k : ℕ). Made did (pieces g k a) r s t) e (subst (λ (n : ℕ). Made did (pieces n p.at a) r s t) z d))
