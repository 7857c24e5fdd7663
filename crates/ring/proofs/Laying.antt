-- Bytes that are laid along the ring: how long the card is then, and each of its bytes.
use Rattle.std.proofs.Common.{◌≡◌, ℕ, ◌+◌, ◌-◌, ◌<◌, ◌≤◌, leb, ◌⊎◌, List, length, get_or, take, drop, ap, ◌∙◌, inl, inr, arith, length-drop, length-take}
use Rattle.std.proofs.lemmas.List.{get_or-take, get_or-drop}
use Rattle.std.proofs.lemmas.Bool.{cases_lt, le-leb, lt-leb, cond-true, cond-false}
use Rattle.storage.specs.Cells.{laid}
use Rattle.storage.proofs.Lists.{laid_apart, laid_within, length_laid}
use Rattle.ring.specs.Bytes.{at}
use Rattle.ring.specs.Ring.{place, along}
use Rattle.ring.specs.Steps.{laid_along, Outside}
use Rattle.ring.proofs.Places.{place_cases, place_in}

-- in one piece
pub laid_whole : (w g p : ℕ) (bytes b : List ℕ) → p + length bytes ≤ g → laid_along w g p bytes b ≡ laid p bytes b
unfolding laid_along
laid_whole w g p bytes b l = cond-true (leb (p + length bytes) g) _ _ (le-leb (p + length bytes) g l)

-- or in two
pub laid_round : (w g p : ℕ) (bytes b : List ℕ) → g < p + length bytes → laid_along w g p bytes b ≡ laid w (drop (g - p) bytes) (laid p (take (g - p) bytes) b)
unfolding laid_along
laid_round w g p bytes b l = cond-false (leb (p + length bytes) g) _ _ (lt-leb (p + length bytes) g l)

-- m of n bytes from position e on, in one piece: what is outside of them all is apart from it
pub outside_piece : (w g e n j m k : ℕ) → j + m ≤ n → place w g (e + j) + m ≤ g → Outside w g e n k → (k < place w g (e + j)) ⊎ (place w g (e + j) + m ≤ k)
outside_piece w g e n j m k within whole out = elim (cases_lt k (place w g (e + j))) [
  | inl l ↦ inl l
  | inr l ↦ elim (cases_lt k (place w g (e + j) + m)) [
    | inl l' ↦
        let i : ℕ = k - place w g (e + j) in
        absurd (out (j + i) (omega arith) (omega (arith, place_cases w g (e + j), place_cases w g (e + (j + i)))))
    | inr l' ↦ inr l'
  ]
]

-- bytes from position e on, which counts on past the ring's end g, and which the ring of the card b has place for
pub record Along (w g e : ℕ) (bytes b : List ℕ) : Type 0 where
  pub low : w ≤ e
  pub near : e + w < g + g
  pub far : e + length bytes + w ≤ g + g
  pub once : w + length bytes ≤ g
  pub there : g ≤ length b

module _ (w g e : ℕ) (bytes b : List ℕ) (a : Along w g e bytes b) where
  abbrev p : ℕ
  p = place w g e

  abbrev two : List ℕ
  two = laid p (take (g - p) bytes) b

  inside : (w ≤ p) × (p < g)
  inside = place_in w g e a.low a.near

  front : g < p + length bytes → length (take (g - p) bytes) ≡ g - p
  front l = length-take (g - p) bytes ∙ omega arith

  length_two : g < p + length bytes → length two ≡ length b
  length_two l = length_laid p (take (g - p) bytes) b (omega (arith, front l, inside, a.there))

  rest_fits : g < p + length bytes → w + length (drop (g - p) bytes) ≤ length two
  rest_fits l = omega (arith, length_two l, length-drop (g - p) bytes, a.once, a.there)

  pub length_along : length (laid_along w g p bytes b) ≡ length b
  length_along = elim (cases_lt g (p + length bytes)) [
    | inl l ↦ ap length (laid_round w g p bytes b l) ∙ length_laid w (drop (g - p) bytes) two (rest_fits l) ∙ length_two l
    | inr l ↦ ap length (laid_whole w g p bytes b l) ∙ length_laid p bytes b (omega (arith, a.there))
  ]

  pub laid_outside : (k : ℕ) → Outside w g e (length bytes) k → get_or (laid_along w g p bytes b) k 0 ≡ get_or b k 0
  laid_outside k out = elim (cases_lt g (p + length bytes)) [
    | inl l ↦
        let c = place_cases w g e in
        let c' = place_cases w g (e + (g - p)) in
        let z = place_cases w g (e + 0) in
        let n = length-drop (g - p) bytes in
        let second = outside_piece w g e (length bytes) (g - p) (length bytes - (g - p)) k (omega arith) (omega (arith, a.once, a.far, inside)) out in
        let first = outside_piece w g e (length bytes) 0 (g - p) k (omega arith) (omega (arith, inside)) out in
        ap (λ (s : List ℕ). get_or s k 0) (laid_round w g p bytes b l)
        ∙ laid_apart w (drop (g - p) bytes) two k (rest_fits l) (apart (omega (arith, a.far, inside)))
        ∙ laid_apart p (take (g - p) bytes) b k (omega (arith, front l, inside, a.there)) (apart (omega (arith, front l)))
    | inr l ↦
        let z = place_cases w g (e + 0) in
        let c = place_cases w g e in
        let piece = outside_piece w g e (length bytes) 0 (length bytes) k (omega arith) (omega arith) out in
        ap (λ (s : List ℕ). get_or s k 0) (laid_whole w g p bytes b l)
        ∙ laid_apart p bytes b k (omega (arith, a.there)) (apart (omega arith))
  ]
    where
      apart : {c d m n : ℕ} → (d ≤ c → m ≤ n) → (c < d) ⊎ (m ≤ n)
      apart {c} {d} f = elim (cases_lt c d) [ inl x ↦ inl x | inr x ↦ inr (f x) ]

  pub laid_inside : (i : ℕ) → i < length bytes → along w g (laid_along w g p bytes b) (e + i) ≡ get_or bytes i 0
  unfolding along at
  laid_inside i h =
      let k = place w g (e + i) in
      let c = place_cases w g e in
      let c' = place_cases w g (e + i) in
      elim (cases_lt g (p + length bytes)) [
        | inl l ↦
            ap (λ (s : List ℕ). get_or s k 0) (laid_round w g p bytes b l) ∙ elim (cases_lt i (g - p)) [
              | inl x ↦
                  laid_apart w (drop (g - p) bytes) two k (rest_fits l) (inr (omega (arith, length-drop (g - p) bytes, a.once, a.far, inside)))
                  ∙ laid_within p (take (g - p) bytes) b k (omega (arith, front l, inside, a.there)) (omega (arith, inside)) (omega (arith, front l, a.far, inside))
                  ∙ get_or-take (g - p) bytes (k - p) 0 (omega (arith, inside)) ∙ ap (λ (j : ℕ). get_or bytes j 0) (omega (arith, inside))
              | inr x ↦
                  laid_within w (drop (g - p) bytes) two k (rest_fits l) (omega (arith, a.far, inside)) (omega (arith, length-drop (g - p) bytes, a.far, inside))
                  ∙ get_or-drop (g - p) bytes (k - w) 0 ∙ ap (λ (j : ℕ). get_or bytes j 0) (omega (arith, a.far, inside))
            ]
        | inr l ↦
            ap (λ (s : List ℕ). get_or s k 0) (laid_whole w g p bytes b l)
            ∙ laid_within p bytes b k (omega (arith, a.there)) (omega (arith, inside)) (omega (arith, inside)) ∙ ap (λ (j : ℕ). get_or bytes j 0) (omega (arith, inside))
      ]

-- n bytes from position e on, which the ring has room for behind those from s up to e: the earlier ones are outside
pub used_outside : (w g s e n q : ℕ) → w ≤ s → s < g → e + n + w ≤ s + g → s ≤ q → q < e → Outside w g e n (place w g q)
used_outside w g s e n q low high room from to i l x = omega (arith, place_cases w g q, place_cases w g (e + i))

-- and so is the header
pub header_outside : (w g s e n k : ℕ) → w ≤ s → s < g → s ≤ e → e + n + w ≤ s + g → k < w → Outside w g e n k
header_outside w g s e n k low high from room l i x y = omega (arith, place_cases w g (e + i))

-- what is outside of bytes is outside of a part of them
pub outside_part : (w g e n j m k : ℕ) → j + m ≤ n → Outside w g e n k → Outside w g (e + j) m k
outside_part w g e n j m k within out i l x = out (j + i) (omega arith) (x ∙ ap (place w g) (omega arith))

-- bytes that are laid behind those from s on leave these as they are
pub laid_kept : (w g e : ℕ) (bytes b : List ℕ) → Along w g e bytes b → (s q : ℕ) → w ≤ s → s < g → e + length bytes + w ≤ s + g → s ≤ q → q < e →
    along w g (laid_along w g (place w g e) bytes b) q ≡ along w g b q
unfolding along at
laid_kept w g e bytes b a s q low high room from to = laid_outside w g e bytes b a (place w g q) (used_outside w g s e (length bytes) q low high room from to)
