-- What a reading that finds a list says, with the elements one by one.
--   Stands rs   the header is sound and counts the records rs, which have room, and whose elements
--               are along the ring; it says where the last of them begins
use Rattle.std.proofs.Common.{◌≡◌, ℕ, ◌+◌, ◌-◌, ◌<◌, ◌≤◌, Bool, true, false, List, length, take, sym, ap, ◌∙◌, inl, inr, arith, pow_pos}
use Rattle.std.proofs.lemmas.Bool.{cases_Bool, cond-true, cond-false}
use Rattle.ring.specs.declared.header.Header.{Header}
use Rattle.ring.specs.Ring.{place, along, taken, used}
use Rattle.ring.specs.Headers.{header_of, sound, SoundHeader, RingLength}
use Rattle.ring.specs.Reading.{Found, Records, NotAQueue, walk, reading, reading_of}
use Rattle.ring.proofs.Soundness.{sound_means, means_sound, sound_least}
use Rattle.ring.proofs.Elements.{Elements}
use Rattle.ring.proofs.Walked.{walk_finds, finds_walk}

module _ (w most size : ℕ) (h : Header) (f : ℕ → ℕ) where
  pub record Stands (rs : List (List ℕ)) : Type 0 where
    pub sound : SoundHeader w size h.ring h.count h.first h.last
    pub counted : h.count ≡ length rs
    pub room : used w rs ≤ h.ring
    pub ends : 0 < length rs → h.last ≡ place w h.ring (h.first + taken (take (length rs - 1) rs))
    pub elements : Elements most f h.first rs

  abbrev pub good : Bool
  good = sound w size h.ring h.count h.first h.last

  abbrev pub walked : Found
  walked = walk w most h.ring h.last f h.count h.first w

  pub read_sound : good ≡ true → reading w most size h f ≡ walked
  unfolding reading
  read_sound e = cond-true good walked NotAQueue e

  pub read_unsound : good ≡ false → reading w most size h f ≡ NotAQueue
  unfolding reading
  read_unsound e = cond-false good walked NotAQueue e

  pub read_found : (x : Found) → (x ≡ NotAQueue → ⊥) → reading w most size h f ≡ x → (good ≡ true) × (walked ≡ x)
  read_found x n e = elim (cases_Bool good) [
    | inl s ↦ (s, sym (read_sound s) ∙ e)
    | inr s ↦ absurd (n (sym e ∙ read_unsound s))
  ]

  pub good_means : good ≡ true → SoundHeader w size h.ring h.count h.first h.last
  good_means s = sound_means w size h.ring h.count h.first h.last s

  pub good_width : w ≤ 4096 → good ≡ true → w ≤ h.ring
  good_width narrow s = omega (arith, sound_least w size h.ring h.count h.first h.last s)

  pub read_good : size ≤ 16777216 → SoundHeader w size h.ring h.count h.first h.last → reading w most size h f ≡ walked
  read_good small s = read_sound (means_sound w size h.ring h.count h.first h.last small s)

  pub read_stands : (rs : List (List ℕ)) → w ≤ 4096 → reading w most size h f ≡ Records rs → Stands rs
  read_stands rs narrow e =
      let x = read_found (Records rs) (λ z. let y : ◌≡◌ {A = ℕ} 0 1 = cc in omega arith) e in
      let i = walk_finds w most h.ring h.last f h.count h.first w rs (good_width narrow x.0) x.1 in
      record {
        sound = good_means x.0;
        counted = sym i.many;
        room = i.room;
        ends = λ some. sym (i.ends (omega (arith, i.many))) ∙ ap (λ (k : ℕ). place w h.ring (h.first + taken (take (k - 1) rs))) (sym i.many);
        elements = i.elements;
      }

  pub stands_read : (rs : List (List ℕ)) → size ≤ 16777216 → Stands rs → reading w most size h f ≡ Records rs
  stands_read rs small s =
      read_good small s.sound ∙ finds_walk w most h.ring h.last f h.count h.first w rs (record {
        many = sym s.counted;
        room = s.room;
        ends = λ some. ap (λ (k : ℕ). place w h.ring (h.first + taken (take (k - 1) rs))) s.counted ∙ sym (s.ends (omega (arith, s.counted)));
        elements = s.elements;
      })

-- the same of a card
abbrev pub CardStands : ℕ → ℕ → List ℕ → List (List ℕ) → Type 0
CardStands w most b rs = Stands w most (length b) (header_of b) (along w (header_of b).ring b) rs

pub card_stands : (b : List ℕ) (rs : List (List ℕ)) → reading_of b ≡ Records rs → CardStands 16 65535 b rs
card_stands b rs e = read_stands 16 65535 (length b) (header_of b) (along 16 (header_of b).ring b) rs (omega arith) e

pub card_reads : (b : List ℕ) (rs : List (List ℕ)) → length b ≤ 16777216 → CardStands 16 65535 b rs → reading_of b ≡ Records rs
card_reads b rs small s = stands_read 16 65535 (length b) (header_of b) (along 16 (header_of b).ring b) rs small s

pub ring_least : (g : ℕ) → RingLength g → 4096 ≤ g
ring_least g r = omega (arith, r.1, pow_pos r.0)
