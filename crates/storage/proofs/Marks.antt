-- The bytes that a write covers in part, and the marks that it leaves.
use Rattle.std.proofs.Common.{◌≡◌, ℕ, ◌+◌, ◌*◌, ◌/◌, ◌≤◌, Bool, true, false, ◌&&◌, ◌||◌, ltb, leb, List, length, get_or, replicate, ◌∙◌, inl, inr, arith}
use Rattle.std.proofs.lemmas.List.{get_or_past, get_or-replicate, length-replicate}
use Rattle.std.proofs.lemmas.List.FromFn.{length-map-range_with_len}
use Rattle.std.proofs.lemmas.Bool.{cases_lt, cases_Bool, and_parts, and_from, or_cases, or_left, or_right, leb-true, ltb-true, le-leb, lt-ltb, both_ways}
use Rattle.storage.specs.Standing.{in_part, InPart, marked, unmarked}
use Rattle.storage.proofs.Lists.{made_at}

pub in_part_holds : (w o n k : ℕ) → in_part w o n k ≡ true → InPart w o n k
in_part_holds w o n k e =
    let s = w * (k / w) in
    let p = and_parts (leb o k && ltb k (o + n)) (ltb s o || ltb (o + n) (s + w)) e in
    let q = and_parts (leb o k) (ltb k (o + n)) p.0 in
    record {
      from = leb-true o k q.0;
      to = ltb-true k (o + n) q.1;
      cut = elim (or_cases (ltb s o) (ltb (o + n) (s + w)) p.1) [ inl x ↦ inl (ltb-true s o x) | inr x ↦ inr (ltb-true (o + n) (s + w) x) ];
    }

pub in_part_from : (w o n k : ℕ) → InPart w o n k → in_part w o n k ≡ true
in_part_from w o n k i =
    let s = w * (k / w) in
    and_from (leb o k && ltb k (o + n)) (ltb s o || ltb (o + n) (s + w))
    (and_from (leb o k) (ltb k (o + n)) (le-leb o k i.from) (lt-ltb k (o + n) i.to))
    (elim i.cut [ inl x ↦ or_left (ltb s o) (ltb (o + n) (s + w)) (lt-ltb s o x) | inr x ↦ or_right (ltb s o) (ltb (o + n) (s + w)) (lt-ltb (o + n) (s + w) x) ])

pub length_marked : (w o n : ℕ) (t : List Bool) → length (marked w o n t) ≡ length t
unfolding marked
length_marked w o n t = length-map-range_with_len (λ k. in_part w o n k || get_or t k false) 0 (length t)

pub get_or_marked : (w o n : ℕ) (t : List Bool) (k : ℕ) → o + n ≤ length t → get_or (marked w o n t) k false ≡ (in_part w o n k || get_or t k false)
unfolding marked
get_or_marked w o n t k fits =
    made_at (λ k. in_part w o n k || get_or t k false) false (length t) k (λ past. elim (cases_Bool (in_part w o n k)) [
      | inl e ↦ let i = in_part_holds w o n k e in absurd (omega (arith, i.to))
      | inr e ↦ rw e (get_or_past t k false past)
    ])

-- only bytes that are covered in part are newly torn
pub newly_marked : (w o n : ℕ) (t : List Bool) (k : ℕ) → o + n ≤ length t → get_or (marked w o n t) k false ≡ true → get_or t k false ≡ false → InPart w o n k
newly_marked w o n t k fits e clean =
    elim (cases_Bool (in_part w o n k)) [
      | inl p ↦ in_part_holds w o n k p
      | inr p ↦ absurd (both_ways (get_or (marked w o n t) k false) (get_or_marked w o n t k fits ∙ rw (p, clean)) e)
    ]

pub length_unmarked : (t : List Bool) → length (unmarked t) ≡ length t
length_unmarked t = length-replicate (length t) false

-- no byte is torn, past the end too
pub get_or_none : (n k : ℕ) → get_or (replicate n false) k false ≡ false
get_or_none n k = elim (cases_lt k n) [
  | inl l ↦ get_or-replicate n k false false l
  | inr l ↦ get_or_past (replicate n false) k false (omega (arith, length-replicate n false))
]

pub get_or_unmarked : (t : List Bool) (k : ℕ) → get_or (unmarked t) k false ≡ false
get_or_unmarked t k = get_or_none (length t) k
