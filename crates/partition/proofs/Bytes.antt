-- The bytes of a part: reading them, laying bytes over them, and what arrives of a write.
use Rattle.std.proofs.Common.{◌≡◌, ℕ, ◌+◌, ◌/◌, ◌%◌, ◌<◌, ◌≤◌, ◌⊎◌, List, length, get_or, sym, ap, ◌∙◌, inl, inr, arith, length-drop, length-take}
use Rattle.std.proofs.lemmas.List.{get_or_past, ext_get_or}
use Rattle.std.proofs.lemmas.Bool.{cases_lt}
use Rattle.storage.specs.Cells.{laid, part, length_part, Partly}
use Rattle.storage.proofs.Lists.{part_at, laid_apart, laid_within, length_laid}
use Rattle.partition.specs.Parts.{Agree}

past : (b n : ℕ) (s : List ℕ) (k : ℕ) → b + n ≤ length s → n ≤ k → get_or (part b n s) k 0 ≡ 0
past b n s k fits l = get_or_past (part b n s) k 0 (omega (arith, length_part b n s fits))

-- a part of a part is a part of the whole
pub part_part : (b n o c : ℕ) (s : List ℕ) → b + n ≤ length s → o + c ≤ n → part (b + o) c s ≡ part o c (part b n s)
part_part b n o c s fits h =
    ext_get_or 0 (part (b + o) c s) (part o c (part b n s)) (simp (length-take, length-drop) (omega arith))
    (λ k l. let lt : k < c = omega (arith, simp length-take at l) in
    part_at (b + o) c s k lt ∙ ap (λ (i : ℕ). get_or s i 0) (omega arith) ∙ sym (part_at o c (part b n s) k lt ∙ part_at b n s (o + k) (omega arith)))

pub part_laid : (b n o : ℕ) (bytes s : List ℕ) → b + n ≤ length s → o + length bytes ≤ n → part b n (laid (b + o) bytes s) ≡ laid o bytes (part b n s)
part_laid b n o bytes s fits h =
    let all : b + o + length bytes ≤ length s = omega arith in
    let long = length_laid (b + o) bytes s all in
    let lp = length_part b n s fits in
    let ll = length_part b n (laid (b + o) bytes s) (omega arith) in
    let here : o + length bytes ≤ length (part b n s) = omega arith in
    ext_get_or 0 (part b n (laid (b + o) bytes s)) (laid o bytes (part b n s)) (ll ∙ sym (length_laid o bytes (part b n s) here ∙ lp))
    (λ k l. let kn : k < n = omega arith in part_at b n (laid (b + o) bytes s) k kn ∙ elim (cases_lt k o) [
      | inl x ↦ laid_apart (b + o) bytes s (b + k) all (inl (omega arith)) ∙ sym (laid_apart o bytes (part b n s) k here (inl x) ∙ part_at b n s k kn)
      | inr x ↦ elim (cases_lt k (o + length bytes)) [
        | inl y ↦ laid_within (b + o) bytes s (b + k) all (omega arith) (omega arith) ∙ ap (λ (i : ℕ). get_or bytes i 0) (omega arith)
            ∙ sym (laid_within o bytes (part b n s) k here x y)
        | inr y ↦ laid_apart (b + o) bytes s (b + k) all (inr (omega arith)) ∙ sym (laid_apart o bytes (part b n s) k here (inr y) ∙ part_at b n s k kn)
      ]
    ])

-- a part begins at a cell, so its cells are cells below
pub part_partly : (b n o : ℕ) (bytes u t : List ℕ) → b % 512 ≡ 0 → b + n ≤ length u → o + length bytes ≤ n → Partly 16 (b + o) bytes u t → Partly 16 o bytes (part b n u) (part b n t)
part_partly b n o bytes u t aligned fits h p =
    let there : b + n ≤ length t = omega (arith, p.long) in
    record {
      long = length_part b n t there ∙ sym (length_part b n u fits);
      apart = λ k out. elim (cases_lt k n) [
        | inl l ↦ part_at b n t k l ∙ p.apart (b + k) (elim out [ inl x ↦ inl (omega arith) | inr x ↦ inr (omega arith) ]) ∙ sym (part_at b n u k l)
        | inr l ↦ past b n t k there l ∙ sym (past b n u k fits l)
      ];
      whole = λ j lo hi. elim (p.whole (b / 16 + j) (omega arith) (omega arith)) [
        | inl f ↦ inl (λ k kj. part_at b n t k (omega arith) ∙ f (b + k) (omega arith) ∙ sym (part_at b n u k (omega arith)))
        | inr f ↦ inr (λ k kj. part_at b n t k (omega arith) ∙ f (b + k) (omega arith) ∙ ap (λ (i : ℕ). get_or bytes i 0) (omega arith))
      ];
    }

-- a write within the part leaves what is outside it
pub agree_same : (b n : ℕ) (t s : List ℕ) → s ≡ t → Agree b n t s
agree_same b n t s e = record { long = ap length e; apart = λ k _. ap (λ (x : List ℕ). get_or x k 0) e }

wider : (b n o c k : ℕ) → o + c ≤ n → (k < b) ⊎ (b + n ≤ k) → (k < b + o) ⊎ (b + o + c ≤ k)
wider b n o c k h (inl x) = inl (omega arith)
wider b n o c k h (inr x) = inr (omega arith)

pub agree_laid : (b n o : ℕ) (bytes s : List ℕ) → b + n ≤ length s → o + length bytes ≤ n → Agree b n s (laid (b + o) bytes s)
agree_laid b n o bytes s fits h =
    let all : b + o + length bytes ≤ length s = omega arith in
    record { long = length_laid (b + o) bytes s all; apart = λ k out. laid_apart (b + o) bytes s k all (wider b n o (length bytes) k h out) }

pub agree_partly : (b n o : ℕ) (bytes u t : List ℕ) → o + length bytes ≤ n → Partly 16 (b + o) bytes u t → Agree b n u t
agree_partly b n o bytes u t h p = record { long = p.long; apart = λ k out. p.apart k (wider b n o (length bytes) k h out) }
