-- What a reading finds, in words of the layout: h is the header of a card of `size` bytes, and f
-- its bytes along the ring.
--   Lies rs         the ring holds, from the first position on, the elements of the records rs, one
--                   after another; each is short enough, and they have room in the ring
--   Holds rs        the header is sound, counts the records rs, which lie there, and says where the
--                   last of them begins
--   BreaksAt p      the header is sound, and behind some records that lie there, fewer than it
--                   counts, the place p has no element: its length is too large or too much for the
--                   room that is left, or it would be the last one and the header says another place
--   ReadingLaw      a reading finds a list exactly where the ring holds it, NOT A QUEUE exactly where
--                   the header is not sound, and BROKEN RECORD exactly where the ring breaks
use Rattle.std.specs.Prelude.{◌≡◌, ℕ, ◌+◌, ◌-◌, ◌^◌, ◌<◌, ◌≤◌, ◌⊎◌, List, length, take, ◌≢◌, slice_index}
use Rattle.std.specs.List.{AllByRecursion}
use Rattle.ring.specs.declared.header.Header.{Header}
use Rattle.ring.specs.Layout.{header_width, least_ring, longest_read}
use Rattle.ring.specs.Bytes.{number, stretch}
use Rattle.ring.specs.Ring.{place, along, encodings, taken, used}
use Rattle.ring.specs.Headers.{header_of, SoundHeader}
use Rattle.ring.specs.Reading.{Records, NotAQueue, BrokenRecord, reading}

module _ (w most size : ℕ) (h : Header) (f : ℕ → ℕ) where
  abbrev pub Sound : Type 0
  Sound = SoundHeader w size h.ring h.count h.first h.last

  pub record Lies (rs : List (List ℕ)) : Type 0 where
    pub short : AllByRecursion (λ r. length r ≤ most) rs
    pub room : used w rs ≤ h.ring
    pub bytes : stretch f h.first (taken rs) ≡ encodings rs

  pub record Holds (rs : List (List ℕ)) : Type 0 where
    pub sound : Sound
    pub counted : h.count ≡ length rs
    pub lies : Lies rs
    pub ends : 0 < length rs → h.last ≡ place w h.ring (h.first + taken (take (length rs - 1) rs))

  pub record BreaksAt (p : ℕ) : Type 0 where
    pub sound : Sound
    pub rs : List (List ℕ)
    pub lies : Lies rs
    pub fewer : length rs < h.count
    pub there : p ≡ place w h.ring (h.first + taken rs)
    pub why : (most < number f (h.first + taken rs)) ⊎
        ((h.ring < used w rs + (4 + number f (h.first + taken rs))) ⊎ ((length rs + 1 ≡ h.count) × (p ≢ h.last)))

  pub record ReadingLaw : Type 0 where
    pub list_held : (rs : List (List ℕ)) → reading w most size h f ≡ Records rs → Holds rs
    pub held_list : (rs : List (List ℕ)) → Holds rs → reading w most size h f ≡ Records rs
    pub one_list : (rs ss : List (List ℕ)) → Holds rs → Holds ss → rs ≡ ss
    pub not_sound : reading w most size h f ≡ NotAQueue → Sound → ⊥
    pub sound_not : (Sound → ⊥) → reading w most size h f ≡ NotAQueue
    pub broken_breaks : (p : ℕ) → reading w most size h f ≡ BrokenRecord p → BreaksAt p
    pub breaks_broken : (p : ℕ) → BreaksAt p → reading w most size h f ≡ BrokenRecord p

-- the law for every width of the header, and every bound on a record's length that a length field can say
abbrev pub ReadingMeans : Type 0
ReadingMeans = (w most size : ℕ) (h : Header) (f : ℕ → ℕ) → w ≤ least_ring → most < 2 ^ 32 → size ≤ 16777216 → ((q : ℕ) → f q < 256) → ReadingLaw w most size h f

-- the law for cards
abbrev pub CardMeans : Type 0
CardMeans = (b : List ℕ) → length b ≤ 16777216 → ((i : ℕ) → slice_index b i < 256) →
    ReadingLaw header_width longest_read (length b) (header_of b) (along header_width (header_of b).ring b)
