-- What may change on a card while its list stays.
use Rattle.std.proofs.Common.{◌≡◌, ℕ, ◌+◌, ◌<◌, ◌≤◌, eqb, ◌⊎◌, List, [], ◌∷◌, length, get_or, sym, subst, inl, inr, arith}
use Rattle.std.proofs.lemmas.Bool.{cases_eq, eq-eqb, ne_eqb, cond-true, cond-false}
use Rattle.ring.specs.declared.header.Header.{Header}
use Rattle.ring.specs.Bytes.{at}
use Rattle.ring.specs.Ring.{place, along, taken, used}
use Rattle.ring.specs.Headers.{header_of}
use Rattle.ring.specs.Steps.{start, end_position, Outside, Keeps, KeepLaw, FreeLaw, BehindLaw}
use Rattle.ring.proofs.Places.{place_in}
use Rattle.ring.proofs.Numbers.{header_same}
use Rattle.ring.proofs.Standing.{Stands, CardStands, card_stands, card_reads, ring_least}
use Rattle.ring.proofs.Elements.{Elements}
use Rattle.ring.proofs.Agreeing.{same_elements}
use Rattle.ring.proofs.Laying.{used_outside, header_outside}

-- a card by its length and its header
pub stands_from : (w most size : ℕ) (h : Header) (b : List ℕ) (rs : List (List ℕ)) → length b ≡ size → header_of b ≡ h → Stands w most size h (along w h.ring b) rs → CardStands w most b rs
stands_from w most size h b rs n e s =
    subst (λ (x : Header). Stands w most (length b) x (along w x.ring b) rs) (sym e) (subst (λ (k : ℕ). Stands w most k h (along w h.ring b) rs) (sym n) s)

pub stands_keep : (w most : ℕ) (b c : List ℕ) (rs : List (List ℕ)) → CardStands w most b rs → Keeps w b c rs → CardStands w most c rs
unfolding along at
stands_keep w most b c rs s k =
    let h = header_of b in
    stands_from w most (length b) h c rs k.long (header_same c b k.header) (record {
      sound = s.sound;
      counted = s.counted;
      room = s.room;
      ends = s.ends;
      elements = same_elements most (along w h.ring b) (along w h.ring c) h.first rs (λ q x y. sym (k.bytes q x y)) s.elements;
    })

pub start_cases : (w : ℕ) (h : Header) → ((h.count ≡ 0) × (start w h ≡ w)) ⊎ ((0 < h.count) × (start w h ≡ h.first))
unfolding start
start_cases w h = elim (cases_eq h.count 0) [
  | inl z ↦ inl (z, cond-true (eqb h.count 0) w h.first (eq-eqb h.count 0 z))
  | inr n ↦ inr (omega arith, cond-false (eqb h.count 0) w h.first (ne_eqb h.count 0 n))
]

pub some_taken : (rs : List (List ℕ)) → 0 < taken rs → 0 < length rs
some_taken [] l = absurd (omega arith)
some_taken (r ∷ rs) l = omega arith

no_elements : (most : ℕ) (f : ℕ → ℕ) (p : ℕ) (rs : List (List ℕ)) → length rs ≡ 0 → Elements most f p rs
no_elements most f p [] z = tt
no_elements most f p (r ∷ rs) z = absurd (omega arith)

module _ (w most : ℕ) (b : List ℕ) (rs : List (List ℕ)) (wide : 16 ≤ w) (narrow : w < 4096) (s : CardStands w most b rs) where
  abbrev h : Header
  h = header_of b

  pub start_in : (w ≤ start w h) × (start w h < h.ring)
  start_in =
      let l = ring_least h.ring s.sound.ring in
      elim (start_cases w h) [
        | inl a ↦ (omega arith, omega arith)
        | inr a ↦ let i = s.sound.from a.0 in (omega (arith, i), omega (arith, i))
      ]

  pub start_elements : Elements most (along w h.ring b) (start w h) rs
  start_elements = elim (start_cases w h) [
    | inl a ↦ no_elements most (along w h.ring b) (start w h) rs (omega (arith, s.counted))
    | inr a ↦ subst (λ (p : ℕ). Elements most (along w h.ring b) p rs) (sym a.1) s.elements
  ]

  -- where a position of an element is, the ring has elements, from the first on
  some_start : (q : ℕ) → h.first ≤ q → q < h.first + taken rs → (start w h ≡ h.first) × (w ≤ q) × (q + w < h.ring + h.ring)
  some_start q x y =
      let some = some_taken rs (omega arith) in
      let i = s.sound.from (omega (arith, s.counted)) in
      (omega (arith, start_cases w h, s.counted), omega (arith, i), omega (arith, i, s.room))

  pub stands_behind : (c : List ℕ) → length c ≡ length b → ((k : ℕ) → k < h.ring → get_or c k 0 ≡ get_or b k 0) → CardStands w most c rs
  stands_behind c n same = stands_keep w most b c rs s (record {
    long = n;
    header = λ i l. same i (omega (arith, ring_least h.ring s.sound.ring));
    bytes = λ q x y. let i = some_start q x y in same (place w h.ring q) (place_in w h.ring q i.1 i.2).1;
  })

  pub stands_free : (n : ℕ) (c : List ℕ) → used w rs + n ≤ h.ring → length c ≡ length b →
      ((k : ℕ) → Outside w h.ring (end_position w h (used w rs)) n k → get_or c k 0 ≡ get_or b k 0) → CardStands w most c rs
  stands_free n c room long same =
      let e = end_position w h (used w rs) in
      let i = start_in in
      stands_keep w most b c rs s (record {
        long = long;
        header = λ k l. same k (header_outside w h.ring (start w h) e n k i.0 i.1 (omega arith) (omega arith) (omega arith));
        bytes = λ q x y.
            let j = some_start q x y in
            same (place w h.ring q) (used_outside w h.ring (start w h) e n q i.0 i.1 (omega arith) (omega (arith, j)) (omega (arith, j)));
      })

pub keep_law : KeepLaw
keep_law b rs small e c k = card_reads c rs (omega (arith, k.long)) (stands_keep 16 65535 b c rs (card_stands b rs e) k)

pub free_law : FreeLaw
free_law b rs small e n c room long same = card_reads c rs (omega arith) (stands_free 16 65535 b rs (omega arith) (omega arith) (card_stands b rs e) n c room long same)

pub behind_law : BehindLaw
behind_law b rs small e c long same = card_reads c rs (omega arith) (stands_behind 16 65535 b rs (omega arith) (omega arith) (card_stands b rs e) c long same)
