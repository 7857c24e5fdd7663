-- The kinds of device keep what their rules have to keep.
--   image_rules    those of the image do
--   sector_rules   those of the sector device do
use Rattle.std.proofs.Common.{◌≡◌, ℕ, zero, suc, ◌+◌, ◌*◌, ◌/◌, ◌%◌, ◌<◌, ◌≤◌, Bool, false, eqb, ◌⊎◌, get_or, refl, inl, inr, not-suc-le-zero, arith}
use Rattle.std.proofs.lemmas.Bool.{cases_lt, cases_Bool, both_ways}
use Rattle.storage.proofs.Marks.{length_marked, newly_marked}
use Rattle.devices.specs.Rules.{Rules}
use Rattle.devices.specs.Image.{image, image_pick}
use Rattle.storage.specs.Sectors.{touched}
use Rattle.devices.specs.Sector.{sector, sector_pick, upto}

image_pick_one : (c : ℕ) → ((d v : ℕ) (t : Bool) → image_pick c d v t ≡ v) ⊎ ((d v : ℕ) → image_pick c d v false ≡ d)
image_pick_one c =
    elim (cases_Bool (eqb (c % 3) 0)) [
      | inl e ↦ inr (λ d v. rw e)
      | inr e ↦ elim (cases_Bool (eqb (c % 3) 1)) [ inl f ↦ inl (λ d v t. rw (e, f)) | inr f ↦ inr (λ d v. rw (e, f)) ]
    ]

pub image_rules : Rules image
image_rules = record {
  cells = 1;
  unit_is = refl;
  marks_long = λ o n t. length_marked 16 o n t;
  marks_new = λ o n t k fits. newly_marked 16 o n t k fits;
  front_within = λ o n l h. omega arith;
  front_uncut = λ o l j h. inr (omega arith);
  pick_one = image_pick_one;
}

sector_pick_one : (c : ℕ) → ((d v : ℕ) (t : Bool) → sector_pick c d v t ≡ v) ⊎ ((d v : ℕ) → sector_pick c d v false ≡ d)
sector_pick_one c = elim (cases_Bool (eqb (c % 2) 0)) [ inl e ↦ inr (λ d v. rw e) | inr e ↦ inl (λ d v t. rw e) ]

upto_within : (o n l : ℕ) → l < touched o n → upto o l ≤ n
upto_within o zero l h = absurd (not-suc-le-zero h)
upto_within o (suc n) l h = omega arith

upto_uncut : (o l j : ℕ) → o ≤ 16 * j → (16 * j + 16 ≤ o + upto o l) ⊎ (o + upto o l ≤ 16 * j)
upto_uncut o l j h = elim (cases_lt (16 * j) (512 * (o / 512 + l))) [ inl x ↦ inl (omega arith) | inr x ↦ inr (omega arith) ]

pub sector_rules : Rules sector
sector_rules = record {
  cells = 32;
  unit_is = refl;
  marks_long = λ o n t. refl;
  marks_new = λ o n t k fits torn clean. absurd (both_ways (get_or t k false) clean torn);
  front_within = upto_within;
  front_uncut = upto_uncut;
  pick_one = sector_pick_one;
}
