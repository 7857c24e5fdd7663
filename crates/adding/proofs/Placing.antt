-- An element written in its two parts, and settled.
use Rattle.std.proofs.Common.{◌≡◌, ℕ, ◌+◌, ◌≤◌, List, length, Ok, Err, Result, sym, ap, ◌∙◌, subst, add-zero, arith}
use Rattle.storage.specs.Meaning.{Meaning}
use Rattle.storage.specs.Inside.{OnSyncInside}
use Rattle.ring.specs.declared.head.Head.{Head}
use Rattle.ring.specs.Bytes.{four}
use Rattle.ring.specs.Ring.{place}
use Rattle.ring.specs.Steps.{end_position, laid_along, with_element}
use Rattle.ring.proofs.Elements.{length_four}
use Rattle.adding.specs.Writes.{Apart, Went, Cut, OnLay}
use Rattle.adding.specs.Elements.{OnElement}
use Rattle.adding.proofs.Going.{went_went, went_cut, went_fewer, cut_fewer, sync_cut}
use Rattle.ring.proofs.Heads.{end_in}
use Rattle.adding.proofs.Ends.{place_apart}

module _ (h : Head) (r : List ℕ) (room : h.used + (4 + length r) ≤ h.header.ring) where
  abbrev g : ℕ
  g = h.header.ring

  abbrev end : ℕ
  end = end_position 16 h.header h.used

  abbrev P : ℕ → Type 0
  P = Apart g end (4 + length r)

  far : end + (4 + length r) + 16 ≤ g + g
  far = omega (arith, end_in h (4 + length r) room)

  low : 16 ≤ end
  low = (end_in h (4 + length r) room).0

  field_apart : (k : ℕ) → P k → Apart g (place 16 g end) (length (four (length r))) k
  field_apart k a =
      subst (λ (n : ℕ). Apart g (place 16 g end) n k) (sym (length_four (length r)))
      (subst (λ (p : ℕ). Apart g (place 16 g p) 4 k) (add-zero end) (place_apart g end (4 + length r) 0 4 k (omega arith) low far a))

  bytes_apart : (k : ℕ) → P k → Apart g (place 16 g (end + 4)) (length r) k
  bytes_apart k a = place_apart g end (4 + length r) 4 (length r) k (omega arith) low far a

  pub field_cut : {G : Type 0} (m m₁ : Meaning) (f : G) → OnLay {G = G} g (place 16 g end) (four (length r)) m m₁ (Err f) → Cut P m m₁
  field_cut m m₁ f d = cut_fewer (Apart g (place 16 g end) (length (four (length r)))) P m m₁ field_apart d

  module _ (m m₁ m₂ : Meaning) (field : Went (Apart g (place 16 g end) (length (four (length r)))) m m₁) where
    field_went : Went P m m₁
    field_went = went_fewer (Apart g (place 16 g end) (length (four (length r)))) P m m₁ field_apart field

    pub bytes_cut : {G : Type 0} (f : G) → OnLay {G = G} g (place 16 g (end + 4)) r m₁ m₂ (Err f) → Cut P m m₂
    bytes_cut f d = went_cut P m m₁ m₂ field_went (cut_fewer (Apart g (place 16 g (end + 4)) (length r)) P m₁ m₂ bytes_apart d)

    pub element_synced : {G : Type 0} (m₃ : Meaning) (x : Result (Unit {0}) G) → m₁.visible ≡ laid_along 16 g (place 16 g end) (four (length r)) m.visible →
        Went (Apart g (place 16 g (end + 4)) (length r)) m₁ m₂ → m₂.visible ≡ laid_along 16 g (place 16 g (end + 4)) r m₁.visible → OnSyncInside m₂ m₃ x → OnElement h.header h.used r m m₃ x
    unfolding with_element
    element_synced m₃ (Ok _) v₁ bytes v₂ y =
        let w = went_fewer (Apart g (place 16 g (end + 4)) (length r)) P m₁ m₂ bytes_apart bytes in
        record {
          served = record { lived = sym field.lives ∙ sym w.lives ∙ y.served.lived; lives = y.served.lives; size = y.served.size ∙ w.size ∙ field.size };
          visible = y.visible ∙ v₂ ∙ ap (laid_along 16 g (place 16 g (end + 4)) r) v₁;
          only = λ s st. y.only s st ∙ sym y.visible;
        }
    element_synced m₃ (Err f) v₁ bytes v₂ y =
        went_cut P m m₂ m₃ (went_went P m m₁ m₂ field_went (went_fewer (Apart g (place 16 g (end + 4)) (length r)) P m₁ m₂ bytes_apart bytes)) (sync_cut P m₂ m₃ y)
