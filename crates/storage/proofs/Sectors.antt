-- Sectors, one after another: how many are touched, and what is written piece by piece.
use Rattle.std.proofs.Common.{◌≡◌, ℕ, zero, suc, ◌+◌, ◌-◌, ◌/◌, ◌%◌, ◌<◌, ◌≤◌, min, ◌⊎◌, List, length, take, drop, sym, ap, ◌∙◌, inl, inr, not-suc-le-zero, arith, length-drop, length-take}
use Rattle.std.proofs.Math.Seq.{take-add}
use Rattle.std.proofs.lemmas.Bool.{cases_lt}
use Rattle.storage.specs.Cells.{laid}
use Rattle.storage.specs.Sectors.{touched, Next}
use Rattle.storage.specs.declared.piece.Piece.{Piece}
use Rattle.storage.specs.declared.piece.Pieces.{Pieces}
use Rattle.storage.proofs.Lists.{laid_laid}

-- n bytes at o end with a sector, or there are none
abbrev pub Even : ℕ → ℕ → Type 0
Even o n = (n ≡ 0) ⊎ ((o + n) % 512 ≡ 0)

pub touched_some : (o n : ℕ) → 0 < n → touched o n ≡ (o + n - 1) / 512 + 1 - o / 512
touched_some o zero h = absurd (not-suc-le-zero h)
touched_some o (suc n) h = omega arith

pub touched_none : (o n : ℕ) → n ≡ 0 → touched o n ≡ 0
touched_none o n z = ap (λ (k : ℕ). touched o k) z

-- one more sector
pub touched_more : (o n m : ℕ) → Even o n → 0 < m → m ≤ 512 - (o + n) % 512 → touched o (n + m) ≡ touched o n + 1
touched_more o n m (inl z) p h = omega (arith, touched_some o (n + m) (omega arith), touched_none o n z)
touched_more o n m (inr a) p h = elim (cases_lt 0 n) [
  | inl q ↦ omega (arith, touched_some o (n + m) (omega arith), touched_some o n q)
  | inr q ↦ omega (arith, touched_some o (n + m) (omega arith), touched_none o n (omega arith))
]

-- what is still to be written touches one sector more
pub touched_less : (o n m : ℕ) → Even o n → n < m → touched o n < touched o m
touched_less o n m (inl z) h = omega (arith, touched_some o m (omega arith), touched_none o n z)
touched_less o n m (inr a) h = elim (cases_lt 0 n) [
  | inl q ↦ omega (arith, touched_some o m (omega arith), touched_some o n q)
  | inr q ↦ omega (arith, touched_some o m (omega arith), touched_none o n (omega arith))
]

-- a piece ends with its sector, or with the write
pub even_more : (o n rest : ℕ) → Even o n → 0 < rest → (Even o (n + min (512 - (o + n) % 512) rest)) ⊎ (n + min (512 - (o + n) % 512) rest ≡ n + rest)
even_more o n rest e p = elim (cases_lt rest (512 - (o + n) % 512)) [ inl x ↦ inr (omega arith) | inr x ↦ inl (inr (omega arith)) ]

-- while bytes are left, those that are done end with a sector
pub evenly : (o done n : ℕ) → done < n → Even o done ⊎ (done ≡ n) → Even o done
evenly o done n lt (inl e) = e
evenly o done n lt (inr e) = absurd (omega arith)

-- where the piece that comes next ends
pub next_end : (o n : ℕ) (s : Pieces) (p : Piece) (t : Pieces) → Next s p t → s.offset ≡ o → s.count ≡ n → p.to ≡ s.done + min (512 - (o + s.done) % 512) (n - s.done)
next_end o n s p t x from all = x.to ∙ ap (λ (k : ℕ). s.done + min (512 - (k + s.done) % 512) (s.count - s.done)) from ∙ ap (λ (k : ℕ). s.done + min (512 - (o + s.done) % 512) (k - s.done)) all

-- the bytes after one piece more, as the code takes it out of the write
pub piece_more : (o n m : ℕ) (b v : List ℕ) → n + m ≤ length b → o + length b ≤ length v →
    laid (o + n) (take (n + m - n) (drop n b)) (laid o (take n b) v) ≡ laid o (take (n + m) b) v
piece_more o n m b v le fits =
    let size : n + m - n ≡ m = omega arith in
    let front : length (take n b) ≡ n = length-take n b ∙ omega arith in
    let more : length (take m (drop n b)) ≡ m = length-take m (drop n b) ∙ omega (arith, length-drop n b) in
    ap (λ (k : ℕ). laid (o + n) (take k (drop n b)) (laid o (take n b) v)) size
    ∙ laid_laid o n (take n b) (take m (drop n b)) v front (omega arith)
    ∙ ap (λ (x : List ℕ). laid o x v) (sym (take-add n m b))
