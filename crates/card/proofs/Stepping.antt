-- The next element of a walk, from the length that was read.
use Rattle.std.proofs.Common.{◌≡◌, ℕ, ◌+◌, ◌-◌, ◌*◌, ◌/◌, ◌<◌, ◌≤◌, true, false, leb, List, Ok, Err, Result, ap, ◌∙◌, subst, inl, inr, arith}
use Rattle.std.proofs.lemmas.Bool.{cases_Bool, cond-true, cond-false, leb-true}
use Rattle.storage.specs.Meaning.{Meaning}
use Rattle.storage.specs.Inside.{Still, OnStep}
use Rattle.ring.specs.declared.place.Place.{Place}
use Rattle.ring.specs.declared.walk.Walk.{Walk}
use Rattle.ring.specs.Bytes.{number, stretch}
use Rattle.ring.specs.Ring.{place, along}
use Rattle.ring.specs.Reading.{before}
use Rattle.ring.specs.Walking.{position, rest, Passed}
use Rattle.ring.proofs.Stretches.{number_place}
use Rattle.ring.proofs.Walks.{walk_in, walk_sound, rest_passed}
use Rattle.card.specs.Surveys.{reads_next, Nexted}

pub two_reads : (k : Walk) → leb (k.used + 4) k.header.ring ≡ true → reads_next k ≡ 2
two_reads k e = cond-true (leb (k.used + 4) k.header.ring) 2 0 e

pub no_reads : (k : Walk) → leb (k.used + 4) k.header.ring ≡ false → reads_next k ≡ 0
no_reads k e = cond-false (leb (k.used + 4) k.header.ring) 2 0 e

-- a step that was answered x
pub step_ok : {A G : Type 0} (Q : A → Type 0) (m m' : Meaning) (r : Result A G) (x : A) → OnStep Q m m' r → r ≡ Ok x → Still m m' × Q x
step_ok Q m m' (Ok y) x d is = let same : y ≡ x = cc in (d.0, subst Q same d.1)
step_ok Q m m' (Err f) x d is = cc

-- the length field, read at the place of the next element
pub length_read : (k : Walk) (p : Place) (b : List ℕ) (n : ℕ) → k.passed < k.header.count → leb (k.used + 4) k.header.ring ≡ true → p.ring ≡ k.header.ring → p.at ≡ place 16 k.header.ring (position k) →
    n ≡ number (along 16 p.ring b) p.at → n ≡ number (along 16 k.header.ring b) (position k)
length_read k p b n more room er e is =
    let g = k.header.ring in
    let i = walk_in k (omega arith) in
    let r = leb-true (k.used + 4) g room in
    let s = (walk_sound k).from (omega arith) in
    is ∙ ap (λ (z : ℕ). number (along 16 z b) p.at) er ∙ ap (number (along 16 g b)) e ∙ number_place 16 g b (position k) i.0 (omega (arith, k.least))

pub nexted : (f : ℕ → ℕ) (k k' : Walk) (n : ℕ) → n ≡ number f (position k) → Passed n k k' → Nexted f k k'
nexted f k k' n e p = record {
  found = rest_passed f k p.more n k' e p ∙ ap (λ (x : ℕ). before (stretch f (position k + 4) x) (rest f k')) e;
  size_stays = p.size_stays;
  header_stays = p.header_stays;
  passed_is = p.passed_is;
  used_is = p.used_is ∙ ap (λ (x : ℕ). k.used + (4 + x)) e;
}

pub at_most_two : (k : Walk) → reads_next k ≤ 2
at_most_two k = elim (cases_Bool (leb (k.used + 4) k.header.ring)) [ inl e ↦ omega (arith, two_reads k e) | inr e ↦ omega (arith, no_reads k e) ]

-- each element has a length field, so the reads are bounded by the card's size
pub room_for_reads : (k : Walk) → 2 * k.passed + reads_next k ≤ (k.size - 16) / 2
room_for_reads k =
    let fits = (walk_sound k).fits in
    elim (cases_Bool (leb (k.used + 4) k.header.ring)) [
      | inl e ↦ omega (arith, two_reads k e, leb-true (k.used + 4) k.header.ring e, k.least)
      | inr e ↦ omega (arith, no_reads k e, k.least, k.room)
    ]
