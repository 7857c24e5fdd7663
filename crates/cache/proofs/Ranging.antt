-- A range, piece by piece.
use Rattle.std.proofs.Math.Seq.{take-add}
use Rattle.std.proofs.Common.{◌≡◌, ℕ, ◌+◌, ◌-◌, ◌*◌, ◌/◌, ◌%◌, ◌≤◌, min, ◌⊎◌, List, ◌++◌, length, take, drop, sym, ap, ◌∙◌, subst, inl, inr, add-one, arith, length-take}
use Rattle.std.proofs.lemmas.List.{drop-drop, take-append-drop}
use Rattle.std.proofs.lemmas.Bool.{cases_lt}
use Rattle.storage.specs.Cells.{laid, part, Partly}
use Rattle.storage.specs.Sectors.{touched}
use Rattle.storage.specs.Meaning.{Meaning}
use Rattle.storage.specs.Calls.{Arrives}
use Rattle.storage.proofs.Arriving.{partly_none, partly_join}
use Rattle.storage.proofs.Sectors.{Even, touched_some, touched_none, piece_more}
use Rattle.cache.specs.Chains.{Walk, begins, piece}

-- the sector that comes next
pub sector_next : (o done : ℕ) → Even o done → o / 512 + touched o done ≡ (o + done) / 512
sector_next o done (inl z) = omega (arith, touched_none o done z)
sector_next o done (inr a) = elim (cases_lt 0 done) [
  | inl q ↦ omega (arith, touched_some o done q)
  | inr q ↦ omega (arith, touched_none o done (omega arith))
]

pub begins_next : (o done : ℕ) → Even o done → begins o ((o + done) / 512) ≡ o + done
begins_next o done (inl z) = omega arith
begins_next o done (inr a) = omega arith

pub walk_more : {C : Type 0} (step : ℕ → C → C → Type 0) (c : C) (a k k' s : ℕ) (e d : C) → k' ≡ k + 1 → a + k ≡ s → Walk step c a k e → step s e d → Walk step c a k' d
walk_more step c a k k' s e d more at w st =
    subst (λ (z : ℕ). Walk step c a z d) (sym (more ∙ add-one k)) (e, w, subst (λ (z : ℕ). step z e d) (sym at) st)

-- the bytes of the next piece
pub piece_next : (o done m : ℕ) (b : List ℕ) → Even o done → m ≡ min (512 - (o + done) % 512) (length b - done) →
    piece o b ((o + done) / 512) ≡ take m (drop done b)
piece_next o done m b e is =
    let at = begins_next o done e in
    ap (λ (x : ℕ). take (min (512 - x % 512) (length b - (x - o))) (drop (x - o) b)) at
    ∙ ap (λ (x : ℕ). take (min (512 - (o + done) % 512) (length b - x)) (drop x b)) (omega arith)
    ∙ ap (λ (x : ℕ). take x (drop done b)) (sym is)

-- the bytes after one piece more
pub bytes_more : (o n m : ℕ) (b v : List ℕ) → n + m ≤ length b → o + length b ≤ length v → laid (o + n) (take m (drop n b)) (laid o (take n b) v) ≡ laid o (take (n + m) b) v
bytes_more o n m b v le fits = ap (λ (k : ℕ). laid (o + n) (take k (drop n b)) (laid o (take n b) v)) (omega arith) ∙ piece_more o n m b v le fits

pub part_more : (o n m : ℕ) (v : List ℕ) → part o n v ++ part (o + n) m v ≡ part o (n + m) v
part_more o n m v = ap (λ (x : List ℕ). take n (drop o v) ++ take m x) (sym (drop-drop n o v)) ∙ sym (take-add n m (drop o v))

-- a piece that arrives behind what arrived before
module _ (o n : ℕ) (b : List ℕ) (m₀ m₁ m₂ : Meaning) (le : n ≤ length b) (even : Even o n) (before : Arrives o (take n b) m₀ m₁) where
  front_long : length (take n b) ≡ n
  front_long = length-take n b ∙ omega arith

  uncut : (c : List ℕ) (j : ℕ) → o ≤ 16 * j → 16 * j + 16 ≤ o + (length (take n b) + length c) → (16 * j + 16 ≤ o + length (take n b)) ⊎ (o + length (take n b) ≤ 16 * j)
  uncut c j lo hi = at even
    where
      at : Even o n → (16 * j + 16 ≤ o + length (take n b)) ⊎ (o + length (take n b) ≤ 16 * j)
      at (inl z) = inr (omega (arith, front_long))
      at (inr a) = elim (cases_lt (16 * j) (o + n)) [ inl x ↦ inl (omega (arith, front_long)) | inr x ↦ inr (omega (arith, front_long)) ]

  join : (c t u s : List ℕ) → Partly 16 o (take n b) t u → Partly 16 (o + n) c u s → Partly 16 o (take n b ++ c) t s
  join c t u s p q = partly_join 16 o (take n b) c t u s (omega arith) (uncut c) p (subst (λ (x : ℕ). Partly 16 x c u s) (ap (λ (x : ℕ). o + x) (sym front_long)) q)

  pub arrives_more : (m : ℕ) → n + m ≤ length b → Arrives (o + n) (take m (drop n b)) m₁ m₂ → Arrives o (take (n + m) b) m₀ m₂
  arrives_more m fits next s h =
      let y = next s h in
      let x = before y.0 y.1 in
      (x.0, x.1, subst (λ (z : List ℕ). Partly 16 o z x.0 s) (sym (take-add n m b)) (join (take m (drop n b)) x.0 y.0 s x.2 y.2))

  -- where no more of it arrives
  pub arrives_part : ((s : List ℕ) → m₂.stands s → m₁.stands s) → Arrives o b m₀ m₂
  arrives_part fewer s h =
      let x = before s (fewer s h) in
      (x.0, x.1, subst (λ (z : List ℕ). Partly 16 o z x.0 s) (take-append-drop n b) (join (drop n b) x.0 s s x.2 (partly_none 16 (o + n) (drop n b) s)))
