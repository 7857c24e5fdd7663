-- Two ranges of marks, at both ends of a write, are the marks of the write.
use Rattle.std.proofs.lemmas.List.{ext_get_or}
use Rattle.std.proofs.Common.{◌≡◌, ℕ, ◌+◌, ◌*◌, ◌/◌, ◌≤◌, min, max, Bool, true, false, List, length, get_or, sym, ◌∙◌, inl, inr, arith}
use Rattle.std.proofs.lemmas.Bool.{cases_lt, cases_Bool, both_ways}
use Rattle.storage.specs.Standing.{in_part, InPart, marked}
use Rattle.storage.proofs.Marks.{in_part_holds, in_part_from, length_marked, get_or_marked}
use Rattle.devices.specs.Marks.{Torn}

module _ (o n : ℕ) (t t₁ t₂ : List Bool) (fits : o + n ≤ length t)
    (head : Torn o (min (o + n) ((o + 15) / 16 * 16)) t t₁) (tail : Torn (max o ((o + n) / 16 * 16)) (o + n) t₁ t₂) where
  -- past the first range a byte is as after the second
  in_tail : (k : ℕ) → InPart 16 o n k → get_or t₂ k false ≡ true
  in_tail k i =
      let lo = i.from in let hi = i.to in
      elim (cases_lt k (max o ((o + n) / 16 * 16))) [
        | inr x ↦ tail.within k x hi
        | inl x ↦ tail.apart k (inl x) ∙ head.within k lo (elim i.cut [ inl y ↦ omega arith | inr y ↦ omega arith ])
      ]

  apart_of : (k : ℕ) → (InPart 16 o n k → ⊥) → get_or t₂ k false ≡ get_or t k false
  apart_of k no_part =
      elim (cases_lt k o) [
        | inl x ↦ tail.apart k (inl (omega arith)) ∙ head.apart k (inl x)
        | inr x ↦ elim (cases_lt k (o + n)) [
          | inr y ↦ tail.apart k (inr y) ∙ head.apart k (inr (omega arith))
          | inl y ↦ elim (cases_lt (16 * (k / 16)) o) [
            | inl z ↦ absurd (no_part (record { from = x; to = y; cut = inl z }))
            | inr z ↦ elim (cases_lt (o + n) (16 * (k / 16) + 16)) [
              | inl u ↦ absurd (no_part (record { from = x; to = y; cut = inr u }))
              | inr u ↦ tail.apart k (inl (omega arith)) ∙ head.apart k (inr (omega arith))
            ]
          ]
        ]
      ]

  pub marks_made : t₂ ≡ marked 16 o n t
  marks_made =
      ext_get_or false t₂ (marked 16 o n t) (tail.long ∙ head.long ∙ sym (length_marked 16 o n t))
      (λ k l. elim (cases_Bool (in_part 16 o n k)) [
        | inl e ↦ in_tail k (in_part_holds 16 o n k e) ∙ sym (get_or_marked 16 o n t k fits ∙ rw e)
        | inr e ↦ apart_of k (λ i. both_ways (in_part 16 o n k) e (in_part_from 16 o n k i)) ∙ sym (get_or_marked 16 o n t k fits ∙ rw e)
      ])
