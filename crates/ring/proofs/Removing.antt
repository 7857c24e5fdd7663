-- A removal, and a clear: a write of the header.
use Rattle.std.proofs.Common.{◌≡◌, ℕ, ◌+◌, ◌-◌, ◌<◌, ◌≤◌, List, [], length, get_or, take, drop, sym, refl, ap, ◌∙◌, subst, arith, length-drop, take-add}
use Rattle.std.proofs.lemmas.List.{take-append-drop}
use Rattle.ring.specs.declared.header.Header.{Header}
use Rattle.ring.specs.Bytes.{at}
use Rattle.ring.specs.Ring.{place, along, taken}
use Rattle.ring.specs.Headers.{header_of}
use Rattle.ring.specs.Steps.{removed_header, removed, empty_header, cleared, RemoveLaw, ClearLaw}
use Rattle.ring.proofs.Places.{place_cases, place_in}
use Rattle.ring.proofs.Elements.{Elements, taken_append, taken_parts, taken_counts}
use Rattle.ring.proofs.Agreeing.{agree_elements, same_elements, elements_behind}
use Rattle.ring.proofs.HeaderWrites.{Sayable, header_laid, length_header, header_along}
use Rattle.ring.proofs.Standing.{CardStands, card_stands, card_reads, ring_least}
use Rattle.ring.proofs.Keeping.{stands_from}

-- the ring comes round: what is at a position past its end is at the place of that too
pub elements_round : (w g most p : ℕ) (b : List ℕ) (rs : List (List ℕ)) → w ≤ p → p + w < g + g → p + taken rs + w ≤ g + g →
    Elements most (along w g b) p rs → Elements most (along w g b) (place w g p) rs
unfolding along at
elements_round w g most p b rs low near far e =
    agree_elements most (along w g b) (along w g b) p (place w g p) rs
    (λ i j x y z. ap (λ (k : ℕ). get_or b k 0) (omega (arith, place_cases w g i, place_cases w g j, place_cases w g p))) e

-- all but the last of the records, by those that are removed and those that stay
front_parts : (n : ℕ) (rs : List (List ℕ)) → n < length rs →
    taken (take (length rs - 1) rs) ≡ taken (take n rs) + taken (take (length (drop n rs) - 1) (drop n rs))
front_parts n rs less =
    let m : ℕ = length (drop n rs) - 1 in
    let same : length rs - 1 ≡ n + m = omega (arith, length-drop n rs) in
    ap (λ (k : ℕ). taken (take k rs)) same ∙ ap taken (take-add n m rs) ∙ taken_append (take n rs) (take m (drop n rs))

module _ (w most : ℕ) (b : List ℕ) (rs : List (List ℕ)) (n : ℕ) (wide : 16 ≤ w) (small : length b ≤ 16777216) (stands : CardStands w most b rs) (less : n < length rs) where
  abbrev h : Header
  h = header_of b

  abbrev g : ℕ
  g = h.ring

  -- the position of the first record that stays
  abbrev next : ℕ
  next = h.first + taken (take n rs)

  abbrev after : Header
  after = removed_header w h rs n

  begins : (w ≤ h.first) × (h.first < g)
  begins = stands.sound.from (omega (arith, stands.counted))

  -- its element has four bytes at least, so that it begins in the ring
  next_in : (w ≤ next) × (next + w < g + g)
  next_in =
      let t = taken_parts n rs in
      let four = taken_counts (drop n rs) in
      (omega (arith, begins), omega (arith, begins, stands.room, length-drop n rs))

  long : 16 ≤ length b
  long = omega (arith, ring_least g stands.sound.ring, stands.sound.fits)

  sayable_header : Sayable after
  sayable_header =
      let fits = stands.sound.fits in
      record {
        ring = omega arith;
        count = omega (arith, stands.counted, taken_counts rs, stands.room);
        first = omega (arith, place_in w g next next_in.0 next_in.1);
        last = omega (arith, stands.sound.to (omega (arith, stands.counted)));
      }

  pub header_removed : header_of (removed w h rs n b) ≡ after
  unfolding removed
  header_removed = header_laid after b sayable_header

  pub length_removed : length (removed w h rs n b) ≡ length b
  unfolding removed
  length_removed = length_header after b long

  staying : Elements most (along w g b) (place w g next) (drop n rs)
  staying =
      let whole = subst (λ (x : List (List ℕ)). Elements most (along w g b) h.first x) (sym (take-append-drop n rs)) stands.elements in
      elements_round w g most next b (drop n rs) next_in.0 next_in.1 (omega (arith, begins, stands.room, taken_parts n rs))
      (elements_behind most (along w g b) h.first (take n rs) (drop n rs) whole)

  ends : h.last ≡ place w g (place w g next + taken (take (length (drop n rs) - 1) (drop n rs)))
  ends =
      let m = length (drop n rs) - 1 in
      let k = length-drop n rs in
      let last_is = stands.ends (omega arith) in
      let front = front_parts n rs less in
      let t = taken_parts (length rs - 1) rs in
      let c = place_cases w g next in
      let c' = place_cases w g (h.first + taken (take (length rs - 1) rs)) in
      let c'' = place_cases w g (place w g next + taken (take m (drop n rs))) in
      omega (arith, begins, stands.room)

  pub removed_stands : CardStands w most (removed w h rs n b) (drop n rs)
  unfolding removed
  removed_stands =
      let k = length-drop n rs in
      let t = taken_parts n rs in
      let i = place_in w g next next_in.0 next_in.1 in
      stands_from w most (length b) after (removed w h rs n b) (drop n rs) length_removed header_removed (record {
        sound = record {
          ring = stands.sound.ring;
          fits = stands.sound.fits;
          empty = λ z. absurd (omega (arith, stands.counted));
          from = λ _. i;
          to = λ _. stands.sound.to (omega (arith, stands.counted));
        };
        counted = omega (arith, stands.counted);
        room = omega (arith, stands.room);
        ends = λ _. ends;
        elements = same_elements most (along w g b) (along w g (removed w h rs n b)) (place w g next) (drop n rs)
            (λ q x y. sym (header_along w g after b q long (omega (arith, i, stands.room, place_cases w g q)))) staying;
      })

pub remove_law : RemoveLaw
remove_law b rs small e n less =
    let s = card_stands b rs e in
    card_reads (removed 16 (header_of b) rs n b) (drop n rs)
    (omega (arith, length_removed 16 65535 b rs n (omega arith) small s less))
    (removed_stands 16 65535 b rs n (omega arith) small s less)

pub header_cleared : (b : List ℕ) → header_of (cleared b) ≡ empty_header
unfolding cleared
header_cleared b = header_laid empty_header b (record { ring = omega arith; count = omega arith; first = omega arith; last = omega arith })

pub length_cleared : (b : List ℕ) → 16 ≤ length b → length (cleared b) ≡ length b
unfolding cleared
length_cleared b long = length_header empty_header b long

pub cleared_stands : (w most : ℕ) (b : List ℕ) → w ≤ 4096 → 4096 ≤ length b → CardStands w most (cleared b) []
cleared_stands w most b narrow long =
    stands_from w most (length b) empty_header (cleared b) [] (length_cleared b (omega arith)) (header_cleared b) (record {
      sound = record { ring = (0, refl); fits = long; empty = λ _. (refl, refl); from = λ some. absurd (omega arith); to = λ some. absurd (omega arith) };
      counted = refl;
      room = omega arith;
      ends = λ some. absurd (omega arith);
      elements = tt;
    })

pub clear_law : ClearLaw
clear_law b long small = card_reads (cleared b) [] (omega (arith, length_cleared b (omega arith))) (cleared_stands 16 65535 b (omega arith) long)
