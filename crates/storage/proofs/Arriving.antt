-- A write that partly arrives, and what may stand after it on a device that keeps its bytes twice.
use Rattle.std.proofs.Common.{◌≡◌, ℕ, ◌+◌, ◌-◌, ◌*◌, ◌/◌, ◌<◌, ◌≤◌, Bool, true, false, cond, not, ◌&&◌, ◌⊎◌, List, ◌++◌, map, length, get_or, take, sym, refl, ap, ◌∙◌, subst, inl, inr, arith, length-take}
use native.Mathlib.Nat.{div-div-eq-div-mul}
use Rattle.std.specs.List.{range_with_len}
use Rattle.std.proofs.lemmas.List.{get_or_past, get_or-take, get_or_append_left, get_or-append_right, length-append, take_all, ext_get_or}
use Rattle.std.proofs.lemmas.List.FromFn.{length-map-range_with_len}
use Rattle.std.proofs.lemmas.Bool.{cases_Bool, and_parts, not-true, both_ways, cond-true, cond-false}
use Rattle.storage.specs.Cells.{laid, InCell, Partly}
use Rattle.storage.specs.Standing.{Standing, InPart}
use Rattle.storage.proofs.Lists.{laid_apart, laid_within, length_laid, made_at, cell_from, cell_to}

-- nothing of a write need arrive
pub partly_none : (w o : ℕ) (b s : List ℕ) → Partly w o b s s
partly_none w o b s = record { long = refl; apart = λ k out. refl; whole = λ j lo hi. inl (λ k kj. refl) }

-- a front of it may arrive alone, if that cuts no cell which the write covers whole
pub partly_front : (w o n : ℕ) (b s : List ℕ) → 0 < w → n ≤ length b → o + length b ≤ length s →
    ((j : ℕ) → o ≤ w * j → w * j + w ≤ o + length b → (w * j + w ≤ o + n) ⊎ (o + n ≤ w * j)) → Partly w o b s (laid o (take n b) s)
partly_front w o n b s pos le fits uncut =
    let lt : length (take n b) ≡ n = length-take n b ∙ omega arith in
    let in_all : o + length (take n b) ≤ length s = omega arith in
    record {
      long = length_laid o (take n b) s in_all;
      apart = λ k out. laid_apart o (take n b) s k in_all (elim out [ inl x ↦ inl x | inr x ↦ inr (omega arith) ]);
      whole = λ j lo hi. elim (uncut j lo hi) [
        | inl in-front ↦ inr (λ k kj. let a = cell_from w j k pos kj in let z = cell_to w j k pos kj in
            laid_within o (take n b) s k in_all (omega arith) (omega arith) ∙ get_or-take n b (k - o) 0 (omega arith))
        | inr behind ↦ inl (λ k kj. let a = cell_from w j k pos kj in laid_apart o (take n b) s k in_all (inr (omega arith)))
      ];
    }

-- and so may all of it
pub partly_all : (w o : ℕ) (b s : List ℕ) → 0 < w → o + length b ≤ length s → Partly w o b s (laid o b s)
partly_all w o b s pos fits =
    subst (λ (x : List ℕ). Partly w o b s (laid o x s)) (take_all (length b) b (omega arith))
    (partly_front w o (length b) b s pos (omega arith) fits (λ j lo hi. inl hi))

-- a write that arrives in two pieces, the first of which cuts no cell that both cover whole
pub partly_join : (w o : ℕ) (a c t u s : List ℕ) → 0 < w →
    ((j : ℕ) → o ≤ w * j → w * j + w ≤ o + (length a + length c) → (w * j + w ≤ o + length a) ⊎ (o + length a ≤ w * j)) →
    Partly w o a t u → Partly w (o + length a) c u s → Partly w o (a ++ c) t s
partly_join w o a c t u s pos uncut p q =
    let l = length-append a c in
    record {
      long = q.long ∙ p.long;
      apart = λ k out. elim out [
        | inl x ↦ q.apart k (inl (omega arith)) ∙ p.apart k (inl x)
        | inr x ↦ q.apart k (inr (omega arith)) ∙ p.apart k (inr (omega arith))
      ];
      whole = λ j lo hi. elim (uncut j lo (omega arith)) [
        | inl first ↦ elim (p.whole j lo first) [
          | inl f ↦ inl (λ k kj. let z = cell_to w j k pos kj in q.apart k (inl (omega arith)) ∙ f k kj)
          | inr f ↦ inr (λ k kj. let y = cell_from w j k pos kj in let z = cell_to w j k pos kj in
              q.apart k (inl (omega arith)) ∙ f k kj ∙ sym (get_or_append_left a c 0 (k - o) (omega arith)))
        ]
        | inr second ↦ elim (q.whole j second (omega arith)) [
          | inl f ↦ inl (λ k kj. let y = cell_from w j k pos kj in f k kj ∙ p.apart k (inr (omega arith)))
          | inr f ↦ inr (λ k kj. let y = cell_from w j k pos kj in
              f k kj ∙ sym (get_or-append_right a c (length a) (k - o) 0 refl (omega arith) ∙ ap (λ (x : ℕ). get_or c x 0) (omega arith)))
        ]
      ];
    }

-- once the durable and the visible bytes agree and none is torn, they alone may stand
pub settled : (w : ℕ) (d v : List ℕ) (t : List Bool) (s : List ℕ) → d ≡ v → ((k : ℕ) → get_or t k false ≡ false) → Standing w d v t s → s ≡ v
settled w d v t s e clean h =
    ext_get_or 0 s v (h.long ∙ ap length e)
    (λ k l. elim (h.cells (k / w)) [ inl f ↦ f k refl | inr f ↦ f k refl (clean k) ∙ ap (λ (x : List ℕ). get_or x k 0) e ])

abbrev is_left : {A B : Type 0} → A ⊎ B → Bool
is_left (inl a) = true
is_left (inr b) = false

from_left : {A B : Type 0} (x : A ⊎ B) → is_left x ≡ true → A
from_left (inl a) e = a
from_left (inr b) e = absurd (both_ways false refl e)

from_right : {A B : Type 0} (x : A ⊎ B) → is_left x ≡ false → B
from_right (inl a) e = absurd (both_ways true e refl)
from_right (inr b) e = b

-- The visible bytes took a write partly or in full, and only bytes that it covers in part were
-- marked. Then all that may stand came from the write partly arriving on what might have stood.
-- Contents stand by units of q cells.
module _ (w q o : ℕ) (b d v v' : List ℕ) (t t' : List Bool) (s : List ℕ)
    (lv : length v ≡ length d) (p : Partly w o b v v')
    (new : (k : ℕ) → get_or t' k false ≡ true → get_or t k false ≡ false → InPart w o (length b) k)
    (h : Standing (w * q) d v' t' s) where
  abbrev side : ℕ → Bool
  side j = is_left (h.cells j)

  abbrev newly : ℕ → Bool
  newly k = get_or t' k false && not (get_or t k false)

  newly_in_part : (k : ℕ) → newly k ≡ true → InPart w o (length b) k
  newly_in_part k e = let x = and_parts (get_or t' k false) (not (get_or t k false)) e in new k x.0 (not-true (get_or t k false) x.1)

  -- a byte that the write covers with its whole cell, or not at all, is not newly torn
  old_mark : (k : ℕ) → (InPart w o (length b) k → ⊥) → newly k ≡ false
  old_mark k no_part = elim (cases_Bool (newly k)) [ inl e ↦ absurd (no_part (newly_in_part k e)) | inr e ↦ e ]

  abbrev byte_of : Bool → ℕ → ℕ
  byte_of true k = get_or v k 0
  byte_of false k = cond (newly k) (get_or d k 0) (get_or s k 0)

  past_of : (x : Bool) (k : ℕ) → length d ≤ k → byte_of x k ≡ 0
  past_of true k l = get_or_past v k 0 (omega arith)
  past_of false k l = elim (cases_Bool (newly k)) [
    | inl e ↦ cond-true (newly k) _ _ e ∙ get_or_past d k 0 l
    | inr e ↦ cond-false (newly k) _ _ e ∙ get_or_past s k 0 (omega (arith, h.long))
  ]

  abbrev before : List ℕ
  before = map (λ k. byte_of (side (k / (w * q))) k) (range_with_len 0 (length d))

  at : (j : ℕ) (x : Bool) → side j ≡ x → (k : ℕ) → k / (w * q) ≡ j → get_or before k 0 ≡ byte_of x k
  at j x e k kj =
      made_at (λ k. byte_of (side (k / (w * q))) k) 0 (length d) k (past_of (side (k / (w * q))) k)
      ∙ ap (λ (y : Bool). byte_of y k) (ap (λ (i : ℕ). side i) kj ∙ e)

  cells_of : (j : ℕ) (x : Bool) → side j ≡ x →
      InCell (w * q) j (λ k. get_or before k 0 ≡ get_or v k 0) ⊎ InCell (w * q) j (λ k. get_or t k false ≡ false → get_or before k 0 ≡ get_or d k 0)
  cells_of j true e = inl (λ k kj. at j true e k kj)
  cells_of j false e = inr (λ k kj clean. at j false e k kj ∙ elim (cases_Bool (get_or t' k false)) [
    | inl torn ↦ cond-true (newly k) _ _ (rw (torn, clean))
    | inr kept ↦ cond-false (newly k) _ _ (rw kept) ∙ from_right (h.cells j) e k kj kept
  ])

  apart_of : (k : ℕ) (x : Bool) → side (k / (w * q)) ≡ x → (k < o) ⊎ (o + length b ≤ k) → get_or s k 0 ≡ get_or before k 0
  apart_of k true e out = from_left (h.cells (k / (w * q))) e k refl ∙ p.apart k out ∙ sym (at (k / (w * q)) true e k refl)
  apart_of k false e out =
      sym (at (k / (w * q)) false e k refl ∙ cond-false (newly k) _ _ (old_mark k (λ i. elim out [ inl x ↦ omega (arith, i.from) | inr x ↦ omega (arith, i.to) ])))

  whole_of : (j : ℕ) (x : Bool) → side (j / q) ≡ x → o ≤ w * j → w * j + w ≤ o + length b →
      InCell w j (λ k. get_or s k 0 ≡ get_or before k 0) ⊎ InCell w j (λ k. get_or s k 0 ≡ get_or b (k - o) 0)
  whole_of j true e lo hi =
      let unit : (k : ℕ) → k / w ≡ j → k / (w * q) ≡ j / q = λ k kj. sym (div-div-eq-div-mul k w q) ∙ ap (λ (i : ℕ). i / q) kj in
      elim (p.whole j lo hi) [
        | inl f ↦ inl (λ k kj. from_left (h.cells (j / q)) e k (unit k kj) ∙ f k kj ∙ sym (at (j / q) true e k (unit k kj)))
        | inr f ↦ inr (λ k kj. from_left (h.cells (j / q)) e k (unit k kj) ∙ f k kj)
      ]
  whole_of j false e lo hi =
      let unit : (k : ℕ) → k / w ≡ j → k / (w * q) ≡ j / q = λ k kj. sym (div-div-eq-div-mul k w q) ∙ ap (λ (i : ℕ). i / q) kj in
      inl (λ k kj. let start : w * (k / w) ≡ w * j = ap (λ (i : ℕ). w * i) kj in
      sym (at (j / q) false e k (unit k kj) ∙ cond-false (newly k) _ _ (old_mark k (λ i. elim i.cut [ inl x ↦ omega arith | inr x ↦ omega arith ]))))

  pub arrives : (u : List ℕ) × (Standing (w * q) d v t u) × (Partly w o b u s)
  arrives = (
    before,
    record { long = length-map-range_with_len (λ k. byte_of (side (k / (w * q))) k) 0 (length d); cells = λ j. cells_of j (side j) refl },
    record {
      long = h.long ∙ sym (length-map-range_with_len (λ k. byte_of (side (k / (w * q))) k) 0 (length d));
      apart = λ k out. apart_of k (side (k / (w * q))) refl out;
      whole = λ j lo hi. whole_of j (side (j / q)) refl lo hi;
    },
  )
