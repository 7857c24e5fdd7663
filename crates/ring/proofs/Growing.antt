-- A growth: what came round the ring's end is copied behind it, then the header is written.
use Rattle.std.proofs.Common.{◌≡◌, ℕ, ◌+◌, ◌-◌, ◌<◌, ◌≤◌, cond, eqb, ltb, leb, ◌⊎◌, List, length, get_or, take, drop, sym, ap, ◌∙◌, inl, inr, arith, length-drop}
use Rattle.std.proofs.lemmas.Bool.{cases_lt, cases_eq, eq-eqb, ne_eqb, le-leb, lt-leb, lt-ltb, le-ltb, cond-true, cond-false}
use Rattle.storage.specs.Cells.{part, length_part}
use Rattle.storage.proofs.Lists.{laid_apart, laid_within, length_laid, part_at}
use Rattle.ring.specs.declared.header.Header.{Header}
use Rattle.ring.specs.Bytes.{at}
use Rattle.ring.specs.Ring.{place, along, taken, used}
use Rattle.ring.specs.Headers.{header_of, RingLength}
use Rattle.ring.specs.Steps.{start, end_place, carried, copied, grown_header, grown, GrowLaw}
use Rattle.ring.proofs.Places.{place_cases}
use Rattle.ring.proofs.Elements.{taken_parts, taken_counts}
use Rattle.ring.proofs.Agreeing.{same_elements}
use Rattle.ring.proofs.HeaderWrites.{Sayable, header_laid, length_header, header_along}
use Rattle.ring.proofs.Standing.{CardStands, card_stands, card_reads, ring_least}
use Rattle.ring.proofs.Keeping.{stands_from, start_cases, some_taken, stands_behind}

pub carried_cases : (w : ℕ) (h : Header) (u : ℕ) →
    ((h.count ≡ 0) × (carried w h u ≡ 0)) ⊎ (((0 < h.count) × (end_place w h u ≤ h.first) × (carried w h u ≡ end_place w h u - w)) ⊎ ((0 < h.count) × (h.first < end_place w h u) × (carried w h u ≡ 0)))
unfolding carried
carried_cases w h u =
    let e = end_place w h u in
    let round : ℕ = cond (leb e h.first) (e - w) 0 in
    elim (cases_eq h.count 0) [
      | inl z ↦ inl (z, cond-true (eqb h.count 0) 0 round (eq-eqb h.count 0 z))
      | inr n ↦
          let some : carried w h u ≡ round = cond-false (eqb h.count 0) 0 round (ne_eqb h.count 0 n) in
          inr (elim (cases_lt h.first e) [
            | inl l ↦ inr (omega arith, l, some ∙ cond-false (leb e h.first) (e - w) 0 (lt-leb e h.first l))
            | inr l ↦ inl (omega arith, l, some ∙ cond-true (leb e h.first) (e - w) 0 (le-leb e h.first l))
          ])
    ]

-- where a growth says that the last element is
pub grown_last : (w : ℕ) (h : Header) (g' : ℕ) →
    ((h.last < h.first) × ((grown_header w h g').last ≡ h.ring + h.last - w)) ⊎ ((h.first ≤ h.last) × ((grown_header w h g').last ≡ h.last))
grown_last w h g' = elim (cases_lt h.last h.first) [
  | inl l ↦ inl (l, cond-true (ltb h.last h.first) (h.ring + h.last - w) h.last (lt-ltb h.last h.first l))
  | inr l ↦ inr (l, cond-false (ltb h.last h.first) (h.ring + h.last - w) h.last (le-ltb h.last h.first l))
]

module _ (w most : ℕ) (b : List ℕ) (rs : List (List ℕ)) (g' : ℕ) (wide : 16 ≤ w) (narrow : w < 4096) (stands : CardStands w most b rs) (fits : g' ≤ length b) (twice : (header_of b).ring + (header_of b).ring ≤ g') where
  abbrev h : Header
  h = header_of b

  abbrev g : ℕ
  g = h.ring

  abbrev moving : ℕ
  moving = carried w h (used w rs)

  abbrev copy : List ℕ
  copy = part w moving b

  abbrev full : List ℕ
  full = copied w h (used w rs) b

  abbrev after : Header
  after = grown_header w h g'

  least : 4096 ≤ g
  least = ring_least g stands.sound.ring

  -- where elements go on past the end, the copy has all of that
  pub carried_is : 0 < length rs → g ≤ h.first + taken rs → moving ≡ h.first + taken rs - g
  carried_is some round =
      let i = stands.sound.from (omega (arith, stands.counted)) in
      let c = start_cases w h in
      let c' = place_cases w g (start w h + (used w rs - w)) in
      omega (arith, carried_cases w h (used w rs), stands.counted, stands.room)

  pub carried_within : w + moving ≤ g
  carried_within = elim (carried_cases w h (used w rs)) [
    | inl a ↦ omega (arith, least)
    | inr (inl a) ↦ omega (arith, least, stands.sound.from a.0)
    | inr (inr a) ↦ omega (arith, least)
  ]

  length_copy : length copy ≡ moving
  length_copy = length_part w moving b (omega (arith, carried_within, least))

  copy_fits : g + length copy ≤ length b
  copy_fits = omega (arith, length_copy, carried_within)

  pub length_copied : length full ≡ length b
  unfolding copied
  length_copied = length_laid g copy b copy_fits

  -- without the header, the list stays
  pub copied_stands : CardStands w most full rs
  unfolding copied
  copied_stands = stands_behind w most b rs wide narrow stands full length_copied (λ k l. laid_apart g copy b k copy_fits (inl l))

  begins : 0 < length rs → (w ≤ h.first) × (h.first < g)
  begins some = stands.sound.from (omega (arith, stands.counted))

  moved : 0 < length rs → (q : ℕ) → h.first ≤ q → q < h.first + taken rs → along w g b q ≡ along w g' full q
  unfolding along at copied
  moved some q x y =
      let i = begins some in
      let here : place w g' q ≡ q = omega (arith, place_cases w g' q, stands.room) in
      sym (ap (λ (k : ℕ). get_or full k 0) here ∙ elim (cases_lt q g) [
        | inl l ↦ laid_apart g copy b q copy_fits (inl l) ∙ ap (λ (k : ℕ). get_or b k 0) (omega (arith, place_cases w g q))
        | inr l ↦
            let all = carried_is some (omega arith) in
            laid_within g copy b q copy_fits l (omega (arith, length_copy))
            ∙ part_at w moving b (q - g) (omega arith) ∙ ap (λ (k : ℕ). get_or b k 0) (omega (arith, place_cases w g q))
      ])

  last_is : 0 < length rs → (after.last ≡ place w g' (h.first + taken (take (length rs - 1) rs))) × (w ≤ after.last) × (after.last < g')
  last_is some =
      let i = begins some in
      let t : ℕ = taken (take (length rs - 1) rs) in
      let there = stands.ends some in
      let parts = taken_parts (length rs - 1) rs in
      let four = taken_counts (drop (length rs - 1) rs) in
      let one = length-drop (length rs - 1) rs in
      let c = place_cases w g (h.first + t) in
      let c' = place_cases w g' (h.first + t) in
      let l = grown_last w h g' in
      (omega (arith, stands.room), omega (arith, stands.room), omega (arith, stands.room))

  long : 16 ≤ length full
  long = omega (arith, length_copied, least)

  module _ (small : length b ≤ 16777216) where
    sayable_header : Sayable after
    sayable_header = elim (cases_eq (length rs) 0) [
      | inl z ↦
          let e = stands.sound.empty (omega (arith, stands.counted)) in
          record { ring = omega arith; count = omega (arith, stands.counted); first = omega (arith, e); last = omega (arith, e, grown_last w h g') }
      | inr n ↦
          let i = begins (omega arith) in
          record { ring = omega arith; count = omega (arith, stands.counted, taken_counts rs, stands.room); first = omega (arith, i); last = omega (arith, last_is (omega arith)) }
    ]

    pub header_grown : header_of (grown w h (used w rs) g' b) ≡ after
    unfolding grown
    header_grown = header_laid after full sayable_header

    pub length_grown : length (grown w h (used w rs) g' b) ≡ length b
    unfolding grown
    length_grown = length_header after full long ∙ length_copied

    pub grown_stands : RingLength g' → CardStands w most (grown w h (used w rs) g' b) rs
    unfolding grown
    grown_stands ring =
        stands_from w most (length b) after (grown w h (used w rs) g' b) rs length_grown header_grown (record {
          sound = record {
            ring = ring;
            fits = fits;
            empty = λ z. let e = stands.sound.empty z in (e.0, omega (arith, e, grown_last w h g'));
            from = λ some. let i = begins (omega (arith, stands.counted)) in (i.0, omega (arith, i));
            to = λ some. let l = last_is (omega (arith, stands.counted)) in (l.1, l.2);
          };
          counted = stands.counted;
          room = omega (arith, stands.room);
          ends = λ some. (last_is some).0;
          elements = same_elements most (along w g b) (along w g' (grown w h (used w rs) g' b)) h.first rs
              (λ q x y.
              let some = some_taken rs (omega arith) in
              let i = begins some in
              moved some q x y ∙ sym (header_along w g' after full q long (omega (arith, i, stands.room, place_cases w g' q))))
              stands.elements;
        })

pub grow_law : GrowLaw
grow_law b rs small e g' ring fits twice =
    let s = card_stands b rs e in
    card_reads (grown 16 (header_of b) (used 16 rs) g' b) rs
    (omega (arith, length_grown 16 65535 b rs g' (omega arith) (omega arith) s fits twice small))
    (grown_stands 16 65535 b rs g' (omega arith) (omega arith) s fits twice small ring)
