-- The bounds of a walk, and what is left of the reading as it goes on.
use Rattle.std.proofs.Common.{◌≡◌, ℕ, suc, ◌+◌, ◌-◌, ◌<◌, ◌≤◌, [], sym, ap, ◌∙◌, inl, inr, arith}
use Rattle.ring.specs.declared.header.Header.{Header}
use Rattle.ring.specs.declared.walk.Walk.{Walk}
use Rattle.ring.specs.Bytes.{number, stretch}
use Rattle.ring.specs.Ring.{place}
use Rattle.ring.specs.Headers.{SoundHeader}
use Rattle.ring.specs.Reading.{Records, BrokenRecord, before, breaks, walk}
use Rattle.ring.specs.Walking.{position, left, rest, Passed, Broken}
use Rattle.ring.proofs.Soundness.{sound_means, sound_most}
use Rattle.ring.proofs.Walked.{broken_from, walk_none, walk_on, walk_ends}

pub walk_sound : (k : Walk) → SoundHeader 16 k.size k.header.ring k.header.count k.header.first k.header.last
walk_sound k = sound_means 16 k.size k.header.ring k.header.count k.header.first k.header.last k.sound

pub walk_most : (k : Walk) → k.header.ring ≤ 16777216
walk_most k = sound_most 16 k.size k.header.ring k.header.count k.header.first k.header.last k.sound

-- while elements are to come, the next position counts on at most once round the ring
pub walk_in : (k : Walk) → 0 < left k → (16 ≤ position k) × (position k + 16 < k.header.ring + k.header.ring)
walk_in k more =
    let s = (walk_sound k).from (omega arith) in
    (omega (arith, s, k.least), omega (arith, s, k.least, k.room))

-- no element is left
pub rest_none : (f : ℕ → ℕ) (k : Walk) → left k ≡ 0 → rest f k ≡ Records []
rest_none f k z =
    ap (λ (n : ℕ). walk 16 65535 k.header.ring k.header.last f n (position k) k.used) z
    ∙ walk_none 16 65535 k.header.ring k.header.last f (position k) k.used

module _ (f : ℕ → ℕ) (k : Walk) (more : 0 < left k) where
  one_more : left k ≡ suc (left k - 1)
  one_more = omega arith

  step : rest f k ≡ walk 16 65535 k.header.ring k.header.last f (suc (left k - 1)) (position k) k.used
  step = ap (λ (n : ℕ). walk 16 65535 k.header.ring k.header.last f n (position k) k.used) one_more

  -- the next element is broken
  pub rest_broken : (n p : ℕ) (k' : Walk) → n ≡ number f (position k) → Broken n p k k' → rest f k ≡ BrokenRecord p
  rest_broken n p k' e b = elim b.broken [
    | inl z ↦ absurd (omega arith)
    | inr t ↦
        let g = k.header.ring in
        let here = place 16 g (position k) in
        step ∙ walk_ends 16 65535 g k.header.last f (left k - 1) (position k) k.used
        (ap (λ (x : ℕ). breaks 65535 g k.header.last (left k - 1) x here k.used) (sym e) ∙ t)
        ∙ ap BrokenRecord (sym b.there)
  ]

  -- or has no room even for a length field
  pub rest_full : k.header.ring < k.used + 4 → rest f k ≡ BrokenRecord (place 16 k.header.ring (position k))
  rest_full l =
      step ∙ walk_ends 16 65535 k.header.ring k.header.last f (left k - 1) (position k) k.used
      (broken_from 65535 k.header.ring k.header.last (left k - 1) (number f (position k)) (place 16 k.header.ring (position k)) k.used (inr (inl (omega arith))))

  -- or was passed
  pub rest_passed : (n : ℕ) (k' : Walk) → n ≡ number f (position k) → Passed n k k' → rest f k ≡ before (stretch f (position k + 4) n) (rest f k')
  rest_passed n k' e p =
      let h = k.header in
      let at = position k in
      let whole = ap (λ (x : ℕ). breaks 65535 h.ring h.last (left k - 1) x (place 16 h.ring at) k.used) (sym e) ∙ p.whole in
      let eh = p.header_stays in
      let fewer : left k - 1 ≡ left k' = omega (arith, p.passed_is, ap (λ (x : Header). x.count) eh) in
      let on : at + (4 + n) ≡ position k' = omega (arith, p.used_is, ap (λ (x : Header). x.first) eh, k.least) in
      step ∙ walk_on 16 65535 h.ring h.last f (left k - 1) at k.used whole
      ∙ ap (λ (x : ℕ). before (stretch f (at + 4) x) (walk 16 65535 h.ring h.last f (left k - 1) (at + (4 + x)) (k.used + (4 + x)))) (sym e)
      ∙ ap (λ (x : ℕ). before (stretch f (at + 4) n) (walk 16 65535 h.ring h.last f x (at + (4 + n)) (k.used + (4 + n)))) fewer
      ∙ ap (λ (x : ℕ). before (stretch f (at + 4) n) (walk 16 65535 h.ring h.last f (left k') x (k.used + (4 + n)))) on
      ∙ ap (λ (x : ℕ). before (stretch f (at + 4) n) (walk 16 65535 h.ring h.last f (left k') (position k') x)) (sym p.used_is)
      ∙ ap (λ (x : Header). before (stretch f (at + 4) n) (walk 16 65535 x.ring x.last f (left k') (position k') k'.used)) (sym eh)
