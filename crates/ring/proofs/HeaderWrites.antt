-- Writes of a header.
use Rattle.std.proofs.Common.{◌≡◌, ℕ, ◌^◌, ◌<◌, ◌≤◌, List, length, get_or, refl, inr, arith}
use Rattle.storage.specs.Cells.{laid}
use Rattle.storage.proofs.Lists.{laid_apart, length_laid}
use Rattle.ring.specs.declared.header.Header.{Header}
use Rattle.ring.specs.Bytes.{at, four, stretch}
use Rattle.ring.specs.Ring.{place, along}
use Rattle.ring.specs.Headers.{header_of, cell}
use Rattle.ring.proofs.Elements.{four_number}

-- the numbers of a header are numbers of four bytes
pub record Sayable (h : Header) : Type 0 where
  pub ring : h.ring < 2 ^ 32
  pub count : h.count < 2 ^ 32
  pub first : h.first < 2 ^ 32
  pub last : h.last < 2 ^ 32

pub length_cell : (h : Header) → length (cell h) ≡ 16
unfolding cell four
length_cell h = refl

pub length_header : (h : Header) (b : List ℕ) → 16 ≤ length b → length (laid 0 (cell h) b) ≡ length b
length_header h b l = length_laid 0 (cell h) b (omega (arith, length_cell h))

-- the header reads back
pub header_laid : (h : Header) (b : List ℕ) → Sayable h → header_of (laid 0 (cell h) b) ≡ h
unfolding header_of cell at four stretch
header_laid h b s =
    let c : List ℕ = laid 0 (cell h) b in
    let ring = four_number (at c) 0 h.ring s.ring refl in
    let count = four_number (at c) 4 h.count s.count refl in
    let first = four_number (at c) 8 h.first s.first refl in
    let last = four_number (at c) 12 h.last s.last refl in
    λ i. record { ring = ring i; count = count i; first = first i; last = last i }

pub header_apart : (h : Header) (b : List ℕ) (k : ℕ) → 16 ≤ length b → 16 ≤ k → get_or (laid 0 (cell h) b) k 0 ≡ get_or b k 0
header_apart h b k l m = laid_apart 0 (cell h) b k (omega (arith, length_cell h)) (inr (omega (arith, length_cell h)))

-- and the ring stays as it is
pub header_along : (w g : ℕ) (h : Header) (b : List ℕ) (q : ℕ) → 16 ≤ length b → 16 ≤ place w g q → along w g (laid 0 (cell h) b) q ≡ along w g b q
unfolding along at
header_along w g h b q l m = header_apart h b (place w g q) l m
