-- A walk along the elements, one after another.
--   position k     the position behind the elements that k has passed, counted on past the ring's end
--   left k         how many elements are to come
--   Begun z h k    a walk by the header h of a card of z bytes, with no element passed
--   rest f k       what a reading finds from there on
--   OnPass n k k' r   what passing an element of n bytes did: it took its bytes, or it is broken at
--                  its place and nothing changed
use Rattle.std.specs.Prelude.{◌≡◌, ℕ, ◌+◌, ◌-◌, ◌<◌, true, false, ◌⊎◌, Ok, Err, Result}
use Rattle.ring.specs.declared.header.Header.{Header}
use Rattle.ring.specs.declared.walk.Walk.{Walk}
use Rattle.ring.specs.declared.walk.BrokenRecord.{BrokenRecord}
use Rattle.ring.specs.Layout.{header_width, longest_read}
use Rattle.ring.specs.Ring.{place}
use Rattle.ring.specs.Reading.{Found, breaks, walk}

abbrev pub position : Walk → ℕ
position k = k.header.first + k.used - header_width

abbrev pub left : Walk → ℕ
left k = k.header.count - k.passed

pub record Begun (size : ℕ) (h : Header) (k : Walk) : Type 0 where
  pub size_is : k.size ≡ size
  pub header_is : k.header ≡ h
  pub none_passed : k.passed ≡ 0
  pub used_is : k.used ≡ header_width

pub record Passed (n : ℕ) (k k' : Walk) : Type 0 where
  pub more : 0 < left k
  pub whole : breaks longest_read k.header.ring k.header.last (left k - 1) n (place header_width k.header.ring (position k)) k.used ≡ false
  pub size_stays : k'.size ≡ k.size
  pub header_stays : k'.header ≡ k.header
  pub passed_is : k'.passed ≡ k.passed + 1
  pub used_is : k'.used ≡ k.used + (4 + n)

pub record Broken (n p : ℕ) (k k' : Walk) : Type 0 where
  pub broken : (left k ≡ 0) ⊎ (breaks longest_read k.header.ring k.header.last (left k - 1) n (place header_width k.header.ring (position k)) k.used ≡ true)
  pub there : p ≡ place header_width k.header.ring (position k)
  pub same : k' ≡ k

abbrev pub OnPass : ℕ → Walk → Walk → Result (Unit {0}) BrokenRecord → Type 0
OnPass n k k' (Ok _) = Passed n k k'
OnPass n k k' (Err e) = Broken n e.at k k'

-- what the elements to come are, by the bytes f along the ring
abbrev pub rest : (ℕ → ℕ) → Walk → Found
rest f k = walk header_width longest_read k.header.ring k.header.last f (left k) (position k) k.used
