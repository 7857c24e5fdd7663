-- Elements along the ring: read one by one, and as their encodings one after another.
--   Elements most f p rs   the elements from position p on are the records rs: each says its length,
--                          and its bytes follow
use Rattle.std.proofs.Common.{◌≡◌, ℕ, ◌+◌, ◌*◌, ◌/◌, ◌%◌, ◌^◌, ◌<◌, ◌≤◌, List, [], ◌∷◌, ◌++◌, length, take, drop, sym, refl, ap, ◌∙◌, arith}
use native.Mathlib.Nat.{div-div-eq-div-mul}
use Rattle.std.proofs.lemmas.List.{take_at, drop_at, length-append, take-append-drop}
use Rattle.std.specs.List.{AllByRecursion}
use Rattle.ring.specs.Bytes.{number, four, stretch}
use Rattle.ring.specs.Ring.{encoding, encodings, taken}
use Rattle.ring.proofs.Stretches.{length_stretch, stretch_add}

abbrev pub Elements : ℕ → (ℕ → ℕ) → ℕ → List (List ℕ) → Type 0
Elements most f p [] = Unit {0}
Elements most f p (r ∷ rs) = (number f p ≡ length r) × (stretch f (p + 4) (length r) ≡ r) × (length r ≤ most) × Elements most f (p + (4 + length r)) rs

pub length_four : (n : ℕ) → length (four n) ≡ 4
unfolding four
length_four n = refl

-- the upper bytes of a number, by dividing one byte at a time
upper : (n : ℕ) → (n / 65536 ≡ n / 256 / 256) × (n / 16777216 ≡ n / 256 / 256 / 256)
upper n = (
  sym (div-div-eq-div-mul n 256 256),
  sym (ap (λ (k : ℕ). k / 256) (div-div-eq-div-mul n 256 256) ∙ div-div-eq-div-mul n 65536 256),
)

joins : (n a b c d : ℕ) → n < 2 ^ 32 → a ≡ n / 256 / 256 / 256 % 256 → b ≡ n / 256 / 256 % 256 → c ≡ n / 256 % 256 → d ≡ n % 256 → ((a * 256 + b) * 256 + c) * 256 + d ≡ n
joins n a b c d l ea eb ec ed = omega arith

-- four bytes are a number's if they make it
pub four_number : (f : ℕ → ℕ) (p n : ℕ) → n < 2 ^ 32 → stretch f p 4 ≡ four n → number f p ≡ n
unfolding stretch four number
four_number f p n l e =
    let a : f p ≡ n / 16777216 % 256 = cc in
    let b : f (p + 1) ≡ n / 65536 % 256 = cc in
    let c : f (p + 1 + 1) ≡ n / 256 % 256 = cc in
    let d : f (p + 1 + 1 + 1) ≡ n % 256 = cc in
    let q2 : p + 2 ≡ p + 1 + 1 = omega arith in
    let q3 : p + 3 ≡ p + 1 + 1 + 1 = omega arith in
    let u = upper n in
    joins n (f p) (f (p + 1)) (f (p + 2)) (f (p + 3)) l
    (a ∙ ap (λ (k : ℕ). k % 256) u.1) (b ∙ ap (λ (k : ℕ). k % 256) u.0) (ap f q2 ∙ c) (ap f q3 ∙ d)

number_four : (f : ℕ → ℕ) (p n : ℕ) → ((q : ℕ) → f q < 256) → number f p ≡ n → stretch f p 4 ≡ four n
unfolding stretch four number
number_four f p n l e =
    let x0 = l p in let x1 = l (p + 1) in let x2 = l (p + 2) in let x3 = l (p + 3) in
    let u = upper n in
    let a : f p ≡ n / 16777216 % 256 = omega arith in
    let b : f (p + 1) ≡ n / 65536 % 256 = omega arith in
    let c : f (p + 2) ≡ n / 256 % 256 = omega arith in
    let d : f (p + 3) ≡ n % 256 = omega arith in
    let c' : f (p + 1 + 1) ≡ n / 256 % 256 = ap f (omega arith) ∙ c in
    let d' : f (p + 1 + 1 + 1) ≡ n % 256 = ap f (omega arith) ∙ d in
    cc

seam : (a b c d : List ℕ) → length a ≡ length c → a ++ b ≡ c ++ d → (a ≡ c) × (b ≡ d)
seam a b c d n e = (
  sym (take_at a b (length a) refl) ∙ ap (take (length a)) e ∙ take_at c d (length a) (sym n),
  sym (drop_at a b (length a) refl) ∙ ap (drop (length a)) e ∙ drop_at c d (length a) (sym n),
)

element_parts : (f : ℕ → ℕ) (p n k : ℕ) → stretch f p (4 + n + k) ≡ (stretch f p 4 ++ stretch f (p + 4) n) ++ stretch f (p + (4 + n)) k
element_parts f p n k = stretch_add f p (4 + n) k ∙ ap (λ (x : List ℕ). x ++ stretch f (p + (4 + n)) k) (stretch_add f p 4 n)

module _ (most : ℕ) (f : ℕ → ℕ) where
  abbrev Short : List (List ℕ) → Type 0
  Short rs = AllByRecursion (λ (r : List ℕ). length r ≤ most) rs

  pub elements_short : (p : ℕ) (rs : List (List ℕ)) → Elements most f p rs → Short rs
  elements_short p [] e = tt
  elements_short p (r ∷ rs) e = (e.2, elements_short (p + (4 + length r)) rs e.3)

  pub flat_elements : (p : ℕ) (rs : List (List ℕ)) → most < 2 ^ 32 → Short rs → stretch f p (taken rs) ≡ encodings rs → Elements most f p rs
  flat_elements p [] m s e = tt
  flat_elements p (r ∷ rs) m s e =
      let t : (stretch f p 4 ++ stretch f (p + 4) (length r)) ++ stretch f (p + (4 + length r)) (taken rs) ≡ encoding r ++ encodings rs = sym (element_parts f p (length r) (taken rs)) ∙ e in
      let n0 = length_four (length r) in
      let n1 = length_stretch f p 4 in
      let n2 = length_stretch f (p + 4) (length r) in
      let x = seam (stretch f p 4 ++ stretch f (p + 4) (length r)) (stretch f (p + (4 + length r)) (taken rs)) (encoding r) (encodings rs) (simp length-append (omega arith)) t in
      let y = seam (stretch f p 4) (stretch f (p + 4) (length r)) (four (length r)) r (omega arith) x.0 in
      (four_number f p (length r) (omega (arith, s.0)) y.0, y.1, s.0, flat_elements (p + (4 + length r)) rs m s.1 x.1)

  pub elements_flat : (p : ℕ) (rs : List (List ℕ)) → ((q : ℕ) → f q < 256) → Elements most f p rs → stretch f p (taken rs) ≡ encodings rs
  unfolding stretch
  elements_flat p [] l e = refl
  elements_flat p (r ∷ rs) l e =
      let a : stretch f p 4 ≡ four (length r) = number_four f p (length r) l e.0 in
      let b : stretch f (p + 4) (length r) ≡ r = e.1 in
      let c : stretch f (p + (4 + length r)) (taken rs) ≡ encodings rs = elements_flat (p + (4 + length r)) rs l e.3 in
      let d = element_parts f p (length r) (taken rs) in
      cc

pub taken_append : (rs ss : List (List ℕ)) → taken (rs ++ ss) ≡ taken rs + taken ss
taken_append [] ss = omega arith
taken_append (r ∷ rs) ss = omega (arith, taken_append rs ss)

-- the elements behind the first n
pub taken_parts : (n : ℕ) (rs : List (List ℕ)) → taken (take n rs) + taken (drop n rs) ≡ taken rs
taken_parts n rs = omega (arith, ap taken (take-append-drop n rs), taken_append (take n rs) (drop n rs))

-- an element takes four bytes at least
pub taken_counts : (rs : List (List ℕ)) → 4 * length rs ≤ taken rs
taken_counts [] = omega arith
taken_counts (r ∷ rs) = omega (arith, taken_counts rs)
