-- Numbers of four bytes.
use Rattle.std.proofs.Common.{◌≡◌, ℕ, ◌+◌, ◌<◌, List, [], ◌∷◌, get_or, drop, ap, ◌∙◌, arith}
use Rattle.std.proofs.lemmas.List.{get_or-drop}
use Rattle.ring.specs.declared.header.Header.{Header}
use Rattle.ring.specs.Bytes.{at, number, four}
use Rattle.ring.specs.Headers.{cell, header_of}

-- bytes that agree at four places make one number
pub number_same : (f g : ℕ → ℕ) (p q : ℕ) → ((i : ℕ) → i < 4 → f (p + i) ≡ g (q + i)) → number f p ≡ number g q
unfolding number
number_same f g p q h =
    let a : f p ≡ g q = ap f (omega arith) ∙ h 0 (omega arith) ∙ ap g (omega arith) in
    let b : f (p + 1) ≡ g (q + 1) = h 1 (omega arith) in
    let c : f (p + 2) ≡ g (q + 2) = h 2 (omega arith) in
    let d : f (p + 3) ≡ g (q + 3) = h 3 (omega arith) in
    cc

-- the number in front of a rest is the one behind what was taken off
pub number_drop : (k p : ℕ) (b s : List ℕ) → s ≡ drop k b → number (at s) p ≡ number (at b) (k + p)
unfolding at
number_drop k p b s e =
    number_same (at s) (at b) p (k + p) (λ i l. ap (λ (x : List ℕ). get_or x (p + i) 0) e ∙ get_or-drop k b (p + i) 0 ∙ ap (λ (j : ℕ). get_or b j 0) (omega arith))

-- a cell from the bytes of its four numbers, as a pattern names them
pub cell_from : (h : Header) {a b c d : List ℕ} → a ≡ four h.ring → b ≡ four h.count → c ≡ four h.first → d ≡ four h.last →
    get_or a 0 0 ∷ get_or a 1 0 ∷ get_or a 2 0 ∷ get_or a 3 0 ∷ get_or b 0 0 ∷ get_or b 1 0 ∷ get_or b 2 0 ∷ get_or b 3 0 ∷
    get_or c 0 0 ∷ get_or c 1 0 ∷ get_or c 2 0 ∷ get_or c 3 0 ∷ get_or d 0 0 ∷ get_or d 1 0 ∷ get_or d 2 0 ∷ get_or d 3 0 ∷ [] ≡ cell h
unfolding four cell
cell_from h ea eb ec ed = rw (ea, eb, ec, ed)

-- the header is in the first 16 bytes
pub header_same : (a b : List ℕ) → ((i : ℕ) → i < 16 → get_or a i 0 ≡ get_or b i 0) → header_of a ≡ header_of b
unfolding header_of at
header_same a b h =
    let ring = number_same (at a) (at b) 0 0 (λ i l. h (0 + i) (omega arith)) in
    let count = number_same (at a) (at b) 4 4 (λ i l. h (4 + i) (omega arith)) in
    let first = number_same (at a) (at b) 8 8 (λ i l. h (8 + i) (omega arith)) in
    let last = number_same (at a) (at b) 12 12 (λ i l. h (12 + i) (omega arith)) in
    λ i. record { ring = ring i; count = count i; first = first i; last = last i }
