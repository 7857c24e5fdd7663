-- Reads of the ring in one piece and in two.
use Rattle.std.proofs.Common.{◌≡◌, ℕ, ◌+◌, ◌-◌, ◌*◌, ◌<◌, ◌≤◌, List, ◌++◌, length, get_or, Ok, Err, Result, is_err, false, sym, ap, ◌∙◌, arith, rules}
use borrow.Rule.Slice.PartMut.{put_mid}
use Rattle.std.proofs.lemmas.Slice.{overwrites}
use Rattle.std.proofs.lemmas.Bool.{true≢false}
use Rattle.storage.specs.Cells.{part}
use Rattle.storage.specs.Meaning.{Meaning, Lawful}
use Rattle.storage.specs.Calls.{ReadDone}
use Rattle.storage.specs.Inside.{OnReadInside}
use Rattle.storage.proofs.Answering.{still_read, lost_read, still_still, still_lost}
use Rattle.ring.specs.Bytes.{number, stretch}
use Rattle.ring.proofs.Stretches.{stretch_part, stretch_two}
use Rattle.card.specs.Reads.{OnTwo, OnAlong}

-- what a buffer holds after its front and then the rest were filled
pub filled : (n : ℕ) (a rest b : List ℕ) → length a ≡ n → length b ≡ length (a ++ rest) - n → put_mid n (length (a ++ rest) - n) (a ++ rest) b ≡ a ++ b
filled n a rest b ea eb = search (rules, overwrites)

module _ {G : Type 0} where
  pub one_piece : (g p : ℕ) (old new : List ℕ) (m m' : Meaning) (r : Result (Unit {0}) G) → Lawful m → g ≤ m.size → length new ≡ length old → p + length old ≤ g →
      OnReadInside p old new m m' r → OnAlong g p old new m m' r
  one_piece g p old new m m' (Ok _) law z e fits d =
      (still_read p new m m' d, d.got ∙ ap (λ (k : ℕ). part p k m.visible) e ∙ sym (stretch_part 16 g m.visible p (length old) fits (omega (arith, law.long))))
  one_piece g p old new m m' (Err f) law z e fits d = (lost_read p old new m m' d, d.zeroed)

  pub two_pieces : (o n : ℕ) (old a back b new : List ℕ) (m m₁ m₂ : Meaning) (r : Result (Unit {0}) G) → length a ≡ n → length back ≡ length old - n → length b ≡ length back → new ≡ a ++ b →
      ReadDone o a m m₁ → OnReadInside 16 back b m₁ m₂ r → OnTwo o n old new m m₂ r
  two_pieces o n old a back b new m m₁ m₂ (Ok _) ea eb ec e d w =
      let first : a ≡ part o n m.visible = d.got ∙ ap (λ (k : ℕ). part o k m.visible) ea in
      let second : b ≡ part 16 (length old - n) m.visible = w.got ∙ ap (λ (k : ℕ). part 16 k m₁.visible) (ec ∙ eb) ∙ ap (λ (x : List ℕ). part 16 (length old - n) x) d.visible in
      (still_still m m₁ m₂ (still_read o a m m₁ d) (still_read 16 b m₁ m₂ w), e ∙ ap (λ (x : List ℕ). x ++ b) first ∙ ap (λ (x : List ℕ). part o n m.visible ++ x) second)
  two_pieces o n old a back b new m m₁ m₂ (Err f) ea eb ec e d w = still_lost m m₁ m₂ (still_read o a m m₁ d) (lost_read 16 back b m₁ m₂ w)

pub around : (G : Type 0) (g p room : ℕ) (old new : List ℕ) (m m' : Meaning) (r : Result (Unit {0}) G) → is_err r ≡ false → room ≡ g - p → Lawful m → g ≤ m.size → p < g → g - p ≤ length old → 16 + length old ≤ g →
    OnTwo {G = G} p room old new m m' r → OnAlong {G = G} g p old new m m' r
around G g p room old new m m' (Ok _) served e law z l n o d = (
  d.0,
  d.1 ∙ ap (λ (k : ℕ). part p k m.visible ++ part 16 (length old - k) m.visible) e ∙ stretch_two 16 g m.visible p (length old) (omega arith) n o (omega (arith, law.long)),
)
around G g p room old new m m' (Err f) served e law z l n o d = absurd (true≢false served)

-- four bytes that were read make the number there
pub number_read : (f : ℕ → ℕ) (p n : ℕ) (buf : List ℕ) → buf ≡ stretch f p 4 → n ≡ get_or buf 0 0 * 16777216 + get_or buf 1 0 * 65536 + get_or buf 2 0 * 256 + get_or buf 3 0 → n ≡ number f p
unfolding stretch number
number_read f p n buf e is =
    let a : get_or buf 0 0 ≡ f p = ap (λ (x : List ℕ). get_or x 0 0) e in
    let b : get_or buf 1 0 ≡ f (p + 1) = ap (λ (x : List ℕ). get_or x 1 0) e in
    let c : get_or buf 2 0 ≡ f (p + 2) = ap (λ (x : List ℕ). get_or x 2 0) e ∙ ap f two in
    let d : get_or buf 3 0 ≡ f (p + 3) = ap (λ (x : List ℕ). get_or x 3 0) e ∙ ap f three in
    omega arith
  where
    two : p + 1 + 1 ≡ p + 2
    two = omega arith

    three : p + 1 + 1 + 1 ≡ p + 3
    three = omega arith
