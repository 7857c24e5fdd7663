-- A record added where the ring has room, from the element and the header.
use Rattle.std.proofs.Common.{◌≡◌, ℕ, ◌+◌, ◌≤◌, true, List, [], ◌∷◌, ◌++◌, length, get_or, sym, ap, ◌∙◌, subst, inl, inr, arith}
use Rattle.std.proofs.lemmas.Bool.{both_ways}
use Rattle.storage.specs.Cells.{laid}
use Rattle.storage.specs.Meaning.{Meaning, Lawful}
use Rattle.storage.specs.Stores.{StoreDone}
use Rattle.ring.specs.declared.head.Head.{Head}
use Rattle.ring.specs.declared.header.Header.{Header}
use Rattle.ring.specs.Ring.{used}
use Rattle.ring.specs.Headers.{header_of, cell, sound}
use Rattle.ring.specs.Reading.{Records, reading_of}
use Rattle.ring.specs.Steps.{end_position, end_place, start, added_header, with_element, added, Outside}
use Rattle.ring.proofs.Elements.{taken_append}
use Rattle.ring.proofs.Places.{place_in}
use Rattle.ring.proofs.Soundness.{means_sound}
use Rattle.ring.proofs.Standing.{CardStands, card_stands, card_reads}
use Rattle.ring.proofs.Keeping.{free_law}
use Rattle.ring.proofs.Adding.{add_law, header_added, with_element_stands, length_with_element}
use Rattle.card.specs.Headers.{PutEnded}
use Rattle.card.specs.Held.{Held, Done, Fell}
use Rattle.adding.specs.Writes.{Cut}
use Rattle.adding.specs.Elements.{Placed}
use Rattle.ring.proofs.Heads.{head_sound, head_start, end_in}

-- the head with one record more keeps the bounds
pub added_sound : (h : Head) (n : ℕ) → h.size ≤ 16777216 → h.used + (4 + n) ≤ h.header.ring →
    sound 16 h.size h.header.ring (h.header.count + 1) (start 16 h.header) (end_place 16 h.header h.used) ≡ true
added_sound h n small room =
    let s = head_sound h in
    let f = head_start h in
    let e = end_in h (4 + n) room in
    let p = place_in 16 h.header.ring (end_position 16 h.header h.used) e.0 (omega arith) in
    means_sound 16 h.size h.header.ring (h.header.count + 1) (start 16 h.header) (end_place 16 h.header h.used) small (record {
      ring = s.ring;
      fits = s.fits;
      empty = λ z. absurd (omega arith);
      from = λ _. f;
      to = λ _. p;
    })

module _ (h : Head) (rs : List (List ℕ)) (r : List ℕ) (m : Meaning) (held : Held h rs m) (law : Lawful m) (short : length r ≤ 65535) (room : h.used + (4 + length r) ≤ h.header.ring) where
  abbrev b : List ℕ
  b = m.visible

  small : length b ≤ 16777216
  small = omega (arith, law.long, law.sized.most)

  abbrev longer : List (List ℕ)
  longer = rs ++ (r ∷ [])

  module _ (lives : m.lives ≡ true) where
    reads : reading_of b ≡ Records rs
    reads = held.reads lives

    head_is : h.header ≡ header_of b
    head_is = held.header_is lives

    room_is : used 16 rs + (4 + length r) ≤ (header_of b).ring
    room_is = omega (arith, held.used_is, ap (λ (x : Header). x.ring) head_is)

    -- what the steps leave, by the header and the bytes in use that the card has
    by_head : {X : Type 0} (F : Header → ℕ → X) → F h.header h.used ≡ F (header_of b) (used 16 rs)
    by_head F = ap (λ (x : Header). F x h.used) head_is ∙ ap (F (header_of b)) held.used_is

    stands : CardStands 16 65535 b rs
    stands = card_stands b rs reads

    pub reads_added : reading_of (added 16 h.header h.used r b) ≡ Records longer
    reads_added = ap reading_of (by_head (λ x u. added 16 x u r b)) ∙ add_law b rs small reads r short room_is

    pub reads_element : reading_of (with_element 16 h.header h.used r b) ≡ Records rs
    reads_element =
        ap reading_of (by_head (λ x u. with_element 16 x u r b))
        ∙ card_reads (with_element 16 (header_of b) (used 16 rs) r b) rs
        (omega (arith, length_with_element 16 65535 b rs r (omega arith) (omega arith) stands room_is))
        (with_element_stands 16 65535 b rs r (omega arith) (omega arith) stands room_is)

    pub header_is_added : header_of (added 16 h.header h.used r b) ≡ added_header 16 h.header h.used
    header_is_added =
        ap header_of (by_head (λ x u. added 16 x u r b))
        ∙ header_added 16 65535 b rs r (omega arith) (omega arith) stands room_is small
        ∙ sym (by_head (λ x u. added_header 16 x u))

    -- bytes at the places of the element don't matter
    pub reads_free : (c : List ℕ) → length c ≡ length b → ((k : ℕ) → Outside 16 h.header.ring (end_position 16 h.header h.used) (4 + length r) k → get_or c k 0 ≡ get_or b k 0) → reading_of c ≡ Records rs
    reads_free c long out =
        free_law b rs small reads (4 + length r) c room_is long
        (λ k o. out k (subst (λ (u : ℕ). Outside 16 h.header.ring (end_position 16 h.header u) (4 + length r) k) (sym held.used_is)
        (subst (λ (x : Header). Outside 16 x.ring (end_position 16 x (used 16 rs)) (4 + length r) k) (sym head_is) o)))

  pub element_fell : (m₁ : Meaning) → Cut (Outside 16 h.header.ring (end_position 16 h.header h.used) (4 + length r)) m m₁ → Fell rs longer m m₁
  element_fell m₁ c = record {
    ended = c.ended;
    each = λ lives s st.
        let x = c.stands s st in
        let t = held.only lives x.0 x.1 in
        inl (reads_free lives s (x.2.long ∙ ap length t) (λ k o. x.2.bytes k o ∙ ap (λ (y : List ℕ). get_or y k 0) t));
  }

  module _ (m₁ m₂ : Meaning) (placed : Placed h.header h.used r m m₁) where
    abbrev header_cell : List ℕ
    header_cell = cell (added_header 16 h.header h.used)

    laid_is : laid 0 header_cell m₁.visible ≡ added 16 h.header h.used r b
    unfolding added
    laid_is = ap (laid 0 header_cell) placed.visible

    pub header_fell : PutEnded header_cell m₁ m₂ → Fell rs longer m m₂
    header_fell p = record {
      ended = record { size = p.ended.size ∙ placed.served.size; dead = p.ended.dead; already = λ d. absurd (both_ways m.lives d placed.served.lived) };
      each = λ lives s st.
          let x = p.stands s st in
          let t = placed.only x.0 x.1 in
          elim x.2 [
            | inl e ↦ inl (ap reading_of (e ∙ t ∙ placed.visible) ∙ reads_element lives)
            | inr e ↦ inr (ap reading_of (e ∙ ap (laid 0 header_cell) t ∙ laid_is) ∙ reads_added lives)
          ];
    }

    pub appended : (h' : Head) → h'.size ≡ h.size → h'.header ≡ added_header 16 h.header h.used → h'.used ≡ h.used + (4 + length r) → StoreDone 0 header_cell m₁ m₂ →
        Done (added 16 h.header h.used r b) h' longer m m₂
    appended h' es eh eu d =
        let lives = placed.served.lived in
        let v : m₂.visible ≡ added 16 h.header h.used r b = d.visible ∙ laid_is in
        record {
          served = record { lived = lives; lives = d.served.lives; size = d.served.size ∙ placed.served.size };
          visible = v;
          only = d.only;
          reads = ap reading_of v ∙ reads_added lives;
          size_is = es ∙ held.size_is;
          header_is = eh ∙ sym (header_is_added lives) ∙ ap header_of (sym v);
          used_is = omega (arith, eu, held.used_is, taken_append rs (r ∷ []));
        }
