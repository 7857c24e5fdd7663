-- Stretches of bytes.
use Rattle.std.proofs.Common.{◌≡◌, ℕ, zero, suc, ◌+◌, ◌-◌, ◌<◌, ◌≤◌, List, [], ◌∷◌, ◌++◌, length, get_or, take, drop, replicate, sym, refl, ap, ◌∙◌, subst, arith}
use Rattle.std.proofs.lemmas.List.{length-take, length-drop, get_or-take, get_or-drop}
use Rattle.ring.specs.Bytes.{at, number, stretch}
use Rattle.ring.specs.Ring.{place, along}
use Rattle.ring.proofs.Numbers.{number_same}
use Rattle.ring.proofs.Places.{place_cases}

pub length_stretch : (f : ℕ → ℕ) (p n : ℕ) → length (stretch f p n) ≡ n
unfolding stretch
length_stretch f p zero = refl
length_stretch f p (suc n) = ap suc (length_stretch f (p + 1) n)

pub stretch_add : (f : ℕ → ℕ) (p j k : ℕ) → stretch f p (j + k) ≡ stretch f p j ++ stretch f (p + j) k
unfolding stretch
stretch_add f p zero k = ap (λ (n : ℕ). stretch f p n) (omega arith) ∙ ap (λ (q : ℕ). stretch f q k) (omega arith)
stretch_add f p (suc j) k =
    let e : suc j + k ≡ suc (j + k) = omega arith in
    let i : stretch f (p + 1) (j + k) ≡ stretch f (p + 1) j ++ stretch f (p + 1 + j) k = stretch_add f (p + 1) j k in
    let q : p + 1 + j ≡ p + suc j = omega arith in
    rw (e, i, q) refl

-- a stretch of one byte, over and over
pub stretch_constant : (f : ℕ → ℕ) (p n x : ℕ) → ((q : ℕ) → p ≤ q → q < p + n → f q ≡ x) → stretch f p n ≡ replicate n x
unfolding stretch
stretch_constant f p zero x h = refl
stretch_constant f p (suc n) x h =
    let a : f p ≡ x = h p (omega arith) (omega arith) in
    let b : stretch f (p + 1) n ≡ replicate n x = stretch_constant f (p + 1) n x (λ q l m. h q (omega arith) (omega arith)) in
    cc

-- a stretch by its bytes
pub stretch_is : (f : ℕ → ℕ) (p : ℕ) (r : List ℕ) → ((i : ℕ) → i < length r → f (p + i) ≡ get_or r i 0) → stretch f p (length r) ≡ r
unfolding stretch
stretch_is f p [] h = refl
stretch_is f p (x ∷ r) h =
    let a : f p ≡ x = ap f (omega arith) ∙ h 0 (omega arith) in
    let b : stretch f (p + 1) (length r) ≡ r = stretch_is f (p + 1) r (λ i l. ap f (omega arith) ∙ h (suc i) (omega arith)) in
    cc

-- up to the ring's end, a stretch of the ring is a part of the card
pub stretch_part : (w g : ℕ) (b : List ℕ) (p k : ℕ) → p + k ≤ g → g ≤ length b → stretch (along w g b) p k ≡ take k (drop p b)
unfolding along at
stretch_part w g b p k l m =
    let n : length (take k (drop p b)) ≡ k = simp (length-take, length-drop) (omega arith) in
    subst (λ (j : ℕ). stretch (along w g b) p j ≡ take k (drop p b)) n
    (stretch_is (along w g b) p (take k (drop p b)) (λ i x.
    let here : place w g (p + i) ≡ p + i = omega (arith, place_cases w g (p + i)) in
    ap (λ (q : ℕ). get_or b q 0) here ∙ sym (get_or-take k (drop p b) i 0 (omega arith) ∙ get_or-drop p b i 0)))

-- from the ring's end on, it is a part that begins behind the header
pub stretch_start : (w g : ℕ) (b : List ℕ) (k : ℕ) → w + k ≤ g → g ≤ length b → stretch (along w g b) g k ≡ take k (drop w b)
unfolding along at
stretch_start w g b k l m =
    let n : length (take k (drop w b)) ≡ k = simp (length-take, length-drop) (omega arith) in
    subst (λ (j : ℕ). stretch (along w g b) g j ≡ take k (drop w b)) n
    (stretch_is (along w g b) g (take k (drop w b)) (λ i x.
    let here : place w g (g + i) ≡ w + i = omega (arith, place_cases w g (g + i)) in
    ap (λ (q : ℕ). get_or b q 0) here ∙ sym (get_or-take k (drop w b) i 0 (omega arith) ∙ get_or-drop w b i 0)))

-- a stretch that crosses the ring's end is two parts
pub stretch_two : (w g : ℕ) (b : List ℕ) (p n : ℕ) → p ≤ g → g - p ≤ n → w + n ≤ g → g ≤ length b →
    take (g - p) (drop p b) ++ take (n - (g - p)) (drop w b) ≡ stretch (along w g b) p n
stretch_two w g b p n a l o m =
    let whole : (g - p) + (n - (g - p)) ≡ n = omega arith in
    let end : p + (g - p) ≡ g = omega arith in
    sym (
    ap (stretch (along w g b) p) (sym whole)
    ∙ stretch_add (along w g b) p (g - p) (n - (g - p))
    ∙ ap (λ (x : List ℕ). x ++ stretch (along w g b) (p + (g - p)) (n - (g - p))) (stretch_part w g b p (g - p) (omega arith) m)
    ∙ ap (λ (q : ℕ). take (g - p) (drop p b) ++ stretch (along w g b) q (n - (g - p))) end
    ∙ ap (λ (x : List ℕ). take (g - p) (drop p b) ++ x) (stretch_start w g b (n - (g - p)) (omega arith) m)
    )

-- the ring comes round: bytes behind the place of a position are those behind the position
pub along_place : (w g : ℕ) (b : List ℕ) (q i : ℕ) → w ≤ q → q + i + w < g + g → along w g b (place w g q + i) ≡ along w g b (q + i)
unfolding along
along_place w g b q i l m =
    let same : place w g (place w g q + i) ≡ place w g (q + i) = omega (arith, place_cases w g q, place_cases w g (q + i), place_cases w g (place w g q + i)) in
    ap (at b) same

pub number_place : (w g : ℕ) (b : List ℕ) (q : ℕ) → w ≤ q → q + 3 + w < g + g → number (along w g b) (place w g q) ≡ number (along w g b) q
number_place w g b q l m = number_same (along w g b) (along w g b) (place w g q) q (λ i x. along_place w g b q i l (omega arith))
