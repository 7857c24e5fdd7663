-- An add: the element behind the others, then the header.
use Rattle.std.proofs.Common.{◌≡◌, ℕ, ◌+◌, ◌-◌, ◌^◌, ◌<◌, ◌≤◌, List, [], ◌∷◌, ◌++◌, length, get_or, take, sym, ap, ◌∙◌, arith}
use Rattle.std.proofs.lemmas.List.{take_at, length_push}
use Rattle.ring.specs.declared.header.Header.{Header}
use Rattle.ring.specs.Bytes.{number, four, stretch}
use Rattle.ring.specs.Ring.{place, along, taken, used}
use Rattle.ring.specs.Headers.{header_of}
use Rattle.ring.specs.Steps.{start, end_position, laid_along, added_header, with_element, added, Outside, AddLaw}
use Rattle.ring.proofs.Places.{place_cases, place_in}
use Rattle.ring.proofs.Stretches.{stretch_is}
use Rattle.ring.proofs.Elements.{Elements, length_four, four_number, taken_append, taken_counts}
use Rattle.ring.proofs.Agreeing.{same_elements, elements_join}
use Rattle.ring.proofs.Laying.{Along, length_along, laid_inside, laid_outside, laid_kept, outside_part}
use Rattle.ring.proofs.HeaderWrites.{Sayable, header_laid, length_header, header_along}
use Rattle.ring.proofs.Standing.{CardStands, card_stands, card_reads, ring_least}
use Rattle.ring.proofs.Keeping.{stands_from, start_in, start_elements, stands_free}

module _ (w most : ℕ) (b : List ℕ) (rs : List (List ℕ)) (r : List ℕ) (wide : 16 ≤ w) (narrow : w < 4096) (stands : CardStands w most b rs) (room : used w rs + (4 + length r) ≤ (header_of b).ring) where
  abbrev h : Header
  h = header_of b

  abbrev g : ℕ
  g = h.ring

  abbrev from : ℕ
  from = start w h

  abbrev end : ℕ
  end = end_position w h (used w rs)

  abbrev one : List ℕ
  one = laid_along w g (place w g end) (four (length r)) b

  abbrev two : List ℕ
  two = with_element w h (used w rs) r b

  abbrev longer : List (List ℕ)
  longer = rs ++ (r ∷ [])

  begins : (w ≤ from) × (from < g)
  begins = start_in w most b rs wide narrow stands

  field_along : Along w g end (four (length r)) b
  field_along = record {
    low = omega (arith, begins);
    near = omega (arith, begins);
    far = omega (arith, begins, length_four (length r));
    once = omega (arith, length_four (length r));
    there = stands.sound.fits;
  }

  length_one : length one ≡ length b
  length_one = length_along w g end (four (length r)) b field_along

  record_along : Along w g (end + 4) r one
  record_along = record {
    low = omega (arith, begins);
    near = omega (arith, begins);
    far = omega (arith, begins);
    once = omega arith;
    there = omega (arith, stands.sound.fits, length_one);
  }

  pub length_with_element : length two ≡ length b
  unfolding with_element
  length_with_element = length_along w g (end + 4) r one record_along ∙ length_one

  pub with_element_outside : (k : ℕ) → Outside w g end (4 + length r) k → get_or two k 0 ≡ get_or b k 0
  unfolding with_element
  with_element_outside k out =
      laid_outside w g (end + 4) r one record_along k (outside_part w g end (4 + length r) 4 (length r) k (omega arith) out)
      ∙ laid_outside w g end (four (length r)) b field_along k (λ i l e. out i (omega (arith, length_four (length r))) e)

  -- without the header, the list stays
  pub with_element_stands : CardStands w most two rs
  with_element_stands = stands_free w most b rs wide narrow stands (4 + length r) two room length_with_element with_element_outside

  kept : (q : ℕ) → from ≤ q → q < from + taken rs → along w g two q ≡ along w g b q
  unfolding with_element
  kept q x y =
      laid_kept w g (end + 4) r one record_along from q begins.0 begins.1 (omega arith) x (omega arith)
      ∙ laid_kept w g end (four (length r)) b field_along from q begins.0 begins.1 (omega (arith, length_four (length r))) x (omega arith)

  field : (i : ℕ) → i < 4 → along w g two (end + i) ≡ get_or (four (length r)) i 0
  unfolding with_element
  field i l =
      laid_kept w g (end + 4) r one record_along from (end + i) begins.0 begins.1 (omega arith) (omega arith) (omega arith)
      ∙ laid_inside w g end (four (length r)) b field_along i (omega (arith, length_four (length r)))

  field_is : stretch (along w g two) end 4 ≡ four (length r)
  field_is = ap (stretch (along w g two) end) (sym (length_four (length r))) ∙ stretch_is (along w g two) end (four (length r)) (λ i l. field i (omega (arith, length_four (length r))))

  record_is : stretch (along w g two) (end + 4) (length r) ≡ r
  unfolding with_element
  record_is = stretch_is (along w g two) (end + 4) r (λ i l. laid_inside w g (end + 4) r one record_along i l)

  new_elements : most < 2 ^ 32 → length r ≤ most → Elements most (along w g two) from longer
  new_elements sayable short =
      let behind : end ≡ from + taken rs = omega arith in
      elements_join most (along w g two) from rs (r ∷ [])
      (same_elements most (along w g b) (along w g two) from rs (λ q x y. sym (kept q x y)) (start_elements w most b rs wide narrow stands)) (
        ap (number (along w g two)) (sym behind) ∙ four_number (along w g two) end (length r) (omega arith) field_is,
        ap (λ (p : ℕ). stretch (along w g two) (p + 4) (length r)) (sym behind) ∙ record_is,
        short,
        tt,
      )

  module _ (small : length b ≤ 16777216) where
    sayable_header : Sayable (added_header w h (used w rs))
    sayable_header =
        let fits = stands.sound.fits in
        record {
          ring = omega arith;
          count = omega (arith, stands.counted, taken_counts rs);
          first = omega (arith, begins);
          last = omega (arith, place_cases w g end, begins);
        }

    long : 16 ≤ length two
    long = omega (arith, length_with_element, ring_least g stands.sound.ring, stands.sound.fits)

    pub header_added : header_of (added w h (used w rs) r b) ≡ added_header w h (used w rs)
    unfolding added
    header_added = header_laid (added_header w h (used w rs)) two sayable_header

    pub length_added : length (added w h (used w rs) r b) ≡ length b
    unfolding added
    length_added = length_header (added_header w h (used w rs)) two long ∙ length_with_element

    pub added_stands : most < 2 ^ 32 → length r ≤ most → CardStands w most (added w h (used w rs) r b) longer
    unfolding added
    added_stands sayable short =
        let t : taken longer ≡ taken rs + (4 + length r + 0) = taken_append rs (r ∷ []) in
        let n : length longer ≡ length rs + 1 = length_push rs r in
        let back : take (length longer - 1) longer ≡ rs = take_at rs (r ∷ []) (length longer - 1) (omega arith) in
        let last-in = place_in w g end (omega (arith, begins)) (omega (arith, begins)) in
        stands_from w most (length b) (added_header w h (used w rs)) (added w h (used w rs) r b) longer length_added header_added (record {
          sound = record {
            ring = stands.sound.ring;
            fits = stands.sound.fits;
            empty = λ z. absurd (omega arith);
            from = λ _. begins;
            to = λ _. last-in;
          };
          counted = omega (arith, stands.counted);
          room = omega arith;
          ends = λ _. ap (place w g) (omega (arith, ap taken back));
          elements = same_elements most (along w g two) (along w g (added w h (used w rs) r b)) from longer
              (λ q x y. sym (header_along w g (added_header w h (used w rs)) two q long (omega (arith, begins, place_cases w g q))))
              (new_elements sayable short);
        })

pub add_law : AddLaw
add_law b rs small e r short room =
    let s = card_stands b rs e in
    card_reads (added 16 (header_of b) (used 16 rs) r b) (rs ++ (r ∷ []))
    (omega (arith, length_added 16 65535 b rs r (omega arith) (omega arith) s room small))
    (added_stands 16 65535 b rs r (omega arith) (omega arith) s room small (omega arith) short)
