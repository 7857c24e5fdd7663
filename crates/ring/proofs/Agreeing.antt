-- Elements among bytes that agree, and parts of a list of elements.
--   Agree f p g q n   the n bytes of f from p on are those of g from q on
use Rattle.std.proofs.Common.{◌≡◌, ℕ, zero, suc, ◌+◌, ◌<◌, ◌≤◌, List, [], ◌∷◌, ◌++◌, length, get_or, take, sym, refl, ap, ◌∙◌, subst, arith}
use Rattle.ring.specs.Bytes.{number, stretch}
use Rattle.ring.specs.Ring.{taken}
use Rattle.ring.proofs.Numbers.{number_same}
use Rattle.ring.proofs.Elements.{Elements}

abbrev pub Agree : (ℕ → ℕ) → ℕ → (ℕ → ℕ) → ℕ → ℕ → Type 0
Agree f p g q n = (i j : ℕ) → p ≤ i → i < p + n → i + q ≡ j + p → f i ≡ g j

pub agree_number : (f g : ℕ → ℕ) (p q : ℕ) → Agree f p g q 4 → number f p ≡ number g q
agree_number f g p q a = number_same f g p q (λ i l. a (p + i) (q + i) (omega arith) (omega arith) (omega arith))

pub agree_stretch : (f g : ℕ → ℕ) (p q n : ℕ) → Agree f p g q n → stretch f p n ≡ stretch g q n
unfolding stretch
agree_stretch f g p q zero a = refl
agree_stretch f g p q (suc n) a =
    let here : f p ≡ g q = a p q (omega arith) (omega arith) (omega arith) in
    let on : stretch f (p + 1) n ≡ stretch g (q + 1) n = agree_stretch f g (p + 1) (q + 1) n (λ i j x y z. a i j (omega arith) (omega arith) (omega arith)) in
    cc

pub agree_elements : (most : ℕ) (f g : ℕ → ℕ) (p q : ℕ) (rs : List (List ℕ)) → Agree f p g q (taken rs) → Elements most f p rs → Elements most g q rs
agree_elements most f g p q [] a e = tt
agree_elements most f g p q (r ∷ rs) a e = (
  sym (agree_number f g p q (λ i j x y z. a i j (omega arith) (omega arith) (omega arith))) ∙ e.0,
  sym (agree_stretch f g (p + 4) (q + 4) (length r) (λ i j x y z. a i j (omega arith) (omega arith) (omega arith))) ∙ e.1,
  e.2,
  agree_elements most f g (p + (4 + length r)) (q + (4 + length r)) rs (λ i j x y z. a i j (omega arith) (omega arith) (omega arith)) e.3,
)

-- bytes that agree at the same positions
pub same_elements : (most : ℕ) (f g : ℕ → ℕ) (p : ℕ) (rs : List (List ℕ)) → ((q : ℕ) → p ≤ q → q < p + taken rs → f q ≡ g q) → Elements most f p rs → Elements most g p rs
same_elements most f g p rs a e = agree_elements most f g p p rs (λ i j x y z. a i x y ∙ ap g (omega arith)) e

module _ (most : ℕ) (f : ℕ → ℕ) where
  elements_at : (p q : ℕ) (rs : List (List ℕ)) → p ≡ q → Elements most f p rs → Elements most f q rs
  elements_at p q rs e x = subst (λ (n : ℕ). Elements most f n rs) e x

  pub elements_join : (p : ℕ) (rs ss : List (List ℕ)) → Elements most f p rs → Elements most f (p + taken rs) ss → Elements most f p (rs ++ ss)
  elements_join p [] ss a b = elements_at (p + 0) p ss (omega arith) b
  elements_join p (r ∷ rs) ss a b =
      (a.0, a.1, a.2, elements_join (p + (4 + length r)) rs ss a.3 (elements_at (p + taken (r ∷ rs)) (p + (4 + length r) + taken rs) ss (omega arith) b))

  pub elements_behind : (p : ℕ) (rs ss : List (List ℕ)) → Elements most f p (rs ++ ss) → Elements most f (p + taken rs) ss
  elements_behind p [] ss a = elements_at p (p + 0) ss (omega arith) a
  elements_behind p (r ∷ rs) ss a =
      elements_at (p + (4 + length r) + taken rs) (p + taken (r ∷ rs)) ss (omega arith) (elements_behind (p + (4 + length r)) rs ss a.3)

  -- the element of record i
  pub element : (p : ℕ) (rs : List (List ℕ)) (i : ℕ) → i < length rs → Elements most f p rs →
      (number f (p + taken (take i rs)) ≡ length (get_or rs i [])) × (stretch f (p + taken (take i rs) + 4) (length (get_or rs i [])) ≡ get_or rs i []) × (length (get_or rs i []) ≤ most)
  element p [] i l e = absurd (omega arith)
  element p (r ∷ rs) zero l e = (ap (number f) (omega arith) ∙ e.0, ap (λ (q : ℕ). stretch f q (length r)) (omega arith) ∙ e.1, e.2)
  element p (r ∷ rs) (suc i) l e =
      let t = element (p + (4 + length r)) rs i (omega arith) e.3 in
      (ap (number f) (omega arith) ∙ t.0, ap (λ (q : ℕ). stretch f q (length (get_or rs i []))) (omega arith) ∙ t.1, t.2)
