-- Bytes that are laid over others, and lists by their elements.
use Rattle.std.proofs.Common.{◌≡◌, ℕ, ◌+◌, ◌-◌, ◌*◌, ◌/◌, ◌<◌, ◌≤◌, ◌⊎◌, List, [], ◌++◌, map, length, get_or, drop, sym, ap, ◌∙◌, inl, inr, add-zero, mul-add, arith, rules}
use native.Mathlib.Nat.{mul-div-le, lt-mul-div-succ}
use Rattle.std.proofs.lemmas.List.{get_or_past, get_or_append_left, get_or-append_right, get_or-take, get_or-drop, length-append, take-append-drop, places, ext_get_or}
use Rattle.std.proofs.lemmas.List.FromFn.{get_or-map-range_with_len, length-map-range_with_len}
use Rattle.std.proofs.lemmas.Bool.{cases_lt}
use Rattle.std.specs.List.{range_with_len}
use Rattle.storage.specs.Cells.{laid, part}

pub laid_apart : (o : ℕ) (b v : List ℕ) (k : ℕ) → o + length b ≤ length v → (k < o) ⊎ (o + length b ≤ k) → get_or (laid o b v) k 0 ≡ get_or v k 0
laid_apart o b v k fits (inl h) = search (rules, places)
laid_apart o b v k fits (inr h) = search (rules, places)

pub laid_within : (o : ℕ) (b v : List ℕ) (k : ℕ) → o + length b ≤ length v → o ≤ k → k < o + length b → get_or (laid o b v) k 0 ≡ get_or b (k - o) 0
laid_within o b v k fits l h = search (rules, places)

pub length_laid : (o : ℕ) (b v : List ℕ) → o + length b ≤ length v → length (laid o b v) ≡ length v
length_laid o b v fits = search (rules, places)

pub laid_none : (o : ℕ) (v : List ℕ) → laid o [] v ≡ v
laid_none o v = rw add-zero (take-append-drop o v)

-- a range that is laid in two pieces
pub laid_laid : (o n : ℕ) (a c v : List ℕ) → length a ≡ n → o + n + length c ≤ length v → laid (o + n) c (laid o a v) ≡ laid o (a ++ c) v
laid_laid o n a c v la fits =
    let lac = length-append a c in
    let first : o + length a ≤ length v = omega arith in
    let one = length_laid o a v first in
    let second : o + n + length c ≤ length (laid o a v) = omega arith in
    let both : o + length (a ++ c) ≤ length v = omega arith in
    ext_get_or 0 (laid (o + n) c (laid o a v)) (laid o (a ++ c) v)
    (length_laid (o + n) c (laid o a v) second ∙ one ∙ sym (length_laid o (a ++ c) v both))
    (λ k l. elim (cases_lt k o) [
      | inl x ↦ laid_apart (o + n) c (laid o a v) k second (inl (omega arith)) ∙ laid_apart o a v k first (inl x) ∙ sym (laid_apart o (a ++ c) v k both (inl x))
      | inr x ↦ elim (cases_lt k (o + n)) [
        | inl y ↦ laid_apart (o + n) c (laid o a v) k second (inl y) ∙ laid_within o a v k first x (omega arith)
            ∙ sym (laid_within o (a ++ c) v k both x (omega arith) ∙ get_or_append_left a c 0 (k - o) (omega arith))
        | inr y ↦ elim (cases_lt k (o + n + length c)) [
          | inl z ↦ laid_within (o + n) c (laid o a v) k second y z ∙ ap (λ (i : ℕ). get_or c i 0) (omega arith)
              ∙ sym (laid_within o (a ++ c) v k both x (omega arith) ∙ get_or-append_right a c n (k - o) 0 la (omega arith))
          | inr z ↦ laid_apart (o + n) c (laid o a v) k second (inr z) ∙ laid_apart o a v k first (inr (omega arith)) ∙ sym (laid_apart o (a ++ c) v k both (inr (omega arith)))
        ]
      ]
    ])

pub part_at : (o n : ℕ) (s : List ℕ) (k : ℕ) → k < n → get_or (part o n s) k 0 ≡ get_or s (o + k) 0
part_at o n s k l = get_or-take n (drop o s) k 0 l ∙ get_or-drop o s k 0

-- a list that is made from a function of the index, and past its end the default
pub made_at : {X : Type 0} (f : ℕ → X) (d : X) (n k : ℕ) → (n ≤ k → f k ≡ d) → get_or (map f (range_with_len 0 n)) k d ≡ f k
made_at f d n k past = elim (cases_lt k n) [
  | inl l ↦ get_or-map-range_with_len f 0 n k k d l (omega arith)
  | inr l ↦ get_or_past (map f (range_with_len 0 n)) k d (omega (arith, length-map-range_with_len f 0 n)) ∙ sym (past l)
]

-- where the byte k lies in cell j
pub cell_from : (w j k : ℕ) → 0 < w → k / w ≡ j → w * j ≤ k
cell_from w j k p e = rw (← e) (mul-div-le k w)

pub cell_to : (w j k : ℕ) → 0 < w → k / w ≡ j → k < w * j + w
cell_to w j k p e = rw (← e) (let h = lt-mul-div-succ k p in omega (arith, h, mul-add w (k / w) 1))
