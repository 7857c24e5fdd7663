-- The law of a reading.
use Rattle.std.proofs.Common.{◌≡◌, ℕ, ◌+◌, ◌^◌, ◌<◌, ◌≤◌, List, length, sym, ◌∙◌, inl, inr, arith}
use Rattle.std.proofs.lemmas.Bool.{cases_Bool}
use Rattle.ring.specs.declared.header.Header.{Header}
use Rattle.ring.specs.Bytes.{at}
use Rattle.ring.specs.Ring.{place, along, taken}
use Rattle.ring.specs.Reading.{Records, BrokenRecord, reading}
use Rattle.ring.specs.Holding.{Lies, Holds, BreaksAt, ReadingLaw, ReadingMeans, CardMeans}
use Rattle.ring.proofs.Elements.{Elements, elements_short, flat_elements, elements_flat}
use Rattle.ring.proofs.Walked.{walk_stops, stops_walk, walk_queue}
use Rattle.ring.proofs.Standing.{good, read_unsound, read_found, good_means, good_width, read_good, read_stands, stands_read}

module _ (w most size : ℕ) (h : Header) (f : ℕ → ℕ) (narrow : w ≤ 4096) (sayable : most < 2 ^ 32) (small : size ≤ 16777216) (bytes : (q : ℕ) → f q < 256) where
  lies_from : (rs : List (List ℕ)) → w + taken rs ≤ h.ring → Elements most f h.first rs → Lies w most size h f rs
  lies_from rs room e = record { short = elements_short most f h.first rs e; room = room; bytes = elements_flat most f h.first rs bytes e }

  elements_of : (rs : List (List ℕ)) → Lies w most size h f rs → Elements most f h.first rs
  elements_of rs l = flat_elements most f h.first rs sayable l.short l.bytes

  list_held : (rs : List (List ℕ)) → reading w most size h f ≡ Records rs → Holds w most size h f rs
  list_held rs e =
      let s = read_stands w most size h f rs narrow e in
      record { sound = s.sound; counted = s.counted; lies = lies_from rs s.room s.elements; ends = s.ends }

  held_list : (rs : List (List ℕ)) → Holds w most size h f rs → reading w most size h f ≡ Records rs
  held_list rs l =
      stands_read w most size h f rs small (record { sound = l.sound; counted = l.counted; room = l.lies.room; ends = l.ends; elements = elements_of rs l.lies })

  broken_breaks : (p : ℕ) → reading w most size h f ≡ BrokenRecord p → BreaksAt w most size h f p
  broken_breaks p e =
      let x = read_found w most size h f (BrokenRecord p) (λ z. let y : ◌≡◌ {A = ℕ} 0 1 = cc in omega arith) e in
      let i = walk_stops w most h.ring h.last f h.count h.first w p (good_width w most size h f narrow x.0) x.1 in
      record {
        sound = good_means w most size h f x.0;
        rs = i.rs;
        lies = lies_from i.rs i.room i.elements;
        fewer = i.fewer;
        there = i.there;
        why = i.why;
      }

  breaks_broken : (p : ℕ) → BreaksAt w most size h f p → reading w most size h f ≡ BrokenRecord p
  breaks_broken p b =
      read_good w most size h f small b.sound ∙ stops_walk w most h.ring h.last f h.count h.first w p (record {
        rs = b.rs;
        elements = elements_of b.rs b.lies;
        room = b.lies.room;
        fewer = b.fewer;
        there = b.there;
        why = b.why;
      })

  pub law : ReadingLaw w most size h f
  law = record {
    list_held = list_held;
    held_list = held_list;
    one_list = λ rs ss a b. let x = held_list rs a in let y = held_list ss b in cc;
    not_sound = λ e s. walk_queue w most h.ring h.last f h.count h.first w (sym (read_good w most size h f small s) ∙ e);
    sound_not = λ n. elim (cases_Bool (good w most size h f)) [ inl s ↦ absurd (n (good_means w most size h f s)) | inr s ↦ read_unsound w most size h f s ];
    broken_breaks = broken_breaks;
    breaks_broken = breaks_broken;
  }

pub reading_means : ReadingMeans
reading_means w most size h f narrow sayable small bytes = law w most size h f narrow sayable small bytes

pub card_means : CardMeans
unfolding along at
card_means b small bytes = law 16 65535 (length b) _ _ (omega arith) (omega arith) small (λ q. bytes (place 16 _ q))
