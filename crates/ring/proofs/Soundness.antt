-- What it means that a header is sound.
use Rattle.std.proofs.Common.{◌≡◌, ℕ, ◌<◌, ◌≤◌, Bool, true, ◌&&◌, eqb, ltb, leb, sym, refl, ◌∙◌, inl, inr, arith, pow_pos, pow_mono}
use lib.Pow.{pow-lt}
use Rattle.std.proofs.lemmas.Bool.{and_parts, and_from, leb-true, ltb-true, eqb-true, le-leb, lt-ltb, eq-eqb, ne_eqb, cond-true, cond-false, cases_eq, cases_lt}
use Rattle.ring.specs.Headers.{doubled, in_ring, placed, sound, SoundHeader}
use Rattle.ring.proofs.Doubling.{doubled_power, power_doubled}

pub ring_in : (w g p : ℕ) → in_ring w g p ≡ true → (w ≤ p) × (p < g)
ring_in w g p e = let x = and_parts (leb w p) (ltb p g) e in (leb-true w p x.0, ltb-true p g x.1)

pub in_ring_true : (w g p : ℕ) → w ≤ p → p < g → in_ring w g p ≡ true
in_ring_true w g p a b = and_from (leb w p) (ltb p g) (le-leb w p a) (lt-ltb p g b)

module _ (w size g count first last : ℕ) where
  abbrev empties : Bool
  empties = eqb first 0 && eqb last 0

  abbrev within : Bool
  within = in_ring w g first && in_ring w g last

  parts : sound w size g count first last ≡ true → ((doubled 12 4096 g ≡ true) × (leb g size ≡ true)) × (placed w g count first last ≡ true)
  unfolding sound
  parts e =
      let x = and_parts (doubled 12 4096 g && leb g size) (placed w g count first last) e in
      (and_parts (doubled 12 4096 g) (leb g size) x.0, x.1)

  pub sound_means : sound w size g count first last ≡ true → SoundHeader w size g count first last
  sound_means e =
      let x = parts e in
      let r = doubled_power 12 4096 g x.0.0 in
      let inside : 0 < count → (in_ring w g first ≡ true) × (in_ring w g last ≡ true) = λ some.
      and_parts (in_ring w g first) (in_ring w g last) (sym (cond-false (eqb count 0) empties within (ne_eqb count 0 (λ z. omega arith))) ∙ x.1) in
      record {
        ring = (r.0, r.2);
        fits = leb-true g size x.0.1;
        empty = λ z.
            let y = and_parts (eqb first 0) (eqb last 0) (sym (cond-true (eqb count 0) empties within (eq-eqb count 0 z)) ∙ x.1) in
            (eqb-true first 0 y.0, eqb-true last 0 y.1);
        from = λ some. ring_in w g first (inside some).0;
        to = λ some. ring_in w g last (inside some).1;
      }

  pub sound_least : sound w size g count first last ≡ true → 4096 ≤ g
  sound_least e = let r = doubled_power 12 4096 g (parts e).0.0 in omega (arith, r.2, pow_pos r.0)

  pub sound_most : sound w size g count first last ≡ true → g ≤ 16777216
  sound_most e = let r = doubled_power 12 4096 g (parts e).0.0 in omega (arith, r.2, pow_mono {i = r.0} {j = 12} r.1)

  pub means_sound : size ≤ 16777216 → SoundHeader w size g count first last → sound w size g count first last ≡ true
  unfolding sound
  means_sound most h =
      let few : h.ring.0 ≤ 12 = elim (cases_lt 12 h.ring.0) [ inl l ↦ omega (arith, h.ring.1, h.fits, pow-lt {i = 12} {j = h.ring.0} l) | inr l ↦ l ] in
      and_from (doubled 12 4096 g && leb g size) (placed w g count first last)
      (and_from (doubled 12 4096 g) (leb g size) (power_doubled 12 4096 g h.ring.0 few h.ring.1) (le-leb g size h.fits))
      (elim (cases_eq count 0) [
        | inl z ↦ cond-true (eqb count 0) empties within (eq-eqb count 0 z)
            ∙ and_from (eqb first 0) (eqb last 0) (eq-eqb first 0 (h.empty z).0) (eq-eqb last 0 (h.empty z).1)
        | inr n ↦ let some : 0 < count = omega arith in
            cond-false (eqb count 0) empties within (ne_eqb count 0 n)
            ∙ and_from (in_ring w g first) (in_ring w g last) (in_ring_true w g first (h.from some).0 (h.from some).1) (in_ring_true w g last (h.to some).0 (h.to some).1)
      ])

-- the header of the empty queue is sound on every card
pub empty_sound : (w size : ℕ) → 4096 ≤ size → size ≤ 16777216 → sound w size 4096 0 0 0 ≡ true
empty_sound w size least most =
    means_sound w size 4096 0 0 0 most (record { ring = (0, refl); fits = least; empty = λ _. (refl, refl); from = λ some. absurd (omega arith); to = λ some. absurd (omega arith) })
