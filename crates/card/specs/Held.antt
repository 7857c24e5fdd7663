-- A queue's head, its records, and the storage that they are on.
--   Held h rs m     h is the head of a queue of the records rs. While the storage lives its visible bytes
--                   read as rs under h's header, and they alone may stand
--   Done b h rs m m'   a call is completed: the storage shows the bytes b, which alone may stand, and h is
--                   the head of the records rs that they read as
--   Fell rs new m m'   the storage turned GONE, or was gone, on the way from the records rs to the records
--                   new: whatever may stand reads as the one list or the other
use Rattle.std.specs.Prelude.{◌≡◌, ℕ, true, ◌⊎◌, List, length}
use Rattle.storage.specs.Meaning.{Meaning, Only}
use Rattle.storage.specs.Calls.{Served, Ended}
use Rattle.ring.specs.declared.head.Head.{Head}
use Rattle.ring.specs.Layout.{header_width}
use Rattle.ring.specs.Ring.{used}
use Rattle.ring.specs.Headers.{header_of}
use Rattle.ring.specs.Reading.{Records, reading_of}

pub record Held (h : Head) (rs : List (List ℕ)) (m : Meaning) : Type 0 where
  pub in_order : m.in_order
  pub size_is : h.size ≡ m.size
  pub counted : h.header.count ≡ length rs
  pub used_is : h.used ≡ used header_width rs
  pub reads : m.lives ≡ true → reading_of m.visible ≡ Records rs
  pub header_is : m.lives ≡ true → h.header ≡ header_of m.visible
  pub only : m.lives ≡ true → Only m.visible m

pub record Done (b : List ℕ) (h : Head) (rs : List (List ℕ)) (m m' : Meaning) : Type 0 where
  pub served : Served m m'
  pub visible : m'.visible ≡ b
  pub only : Only m'.visible m'
  pub reads : reading_of m'.visible ≡ Records rs
  pub size_is : h.size ≡ m.size
  pub header_is : h.header ≡ header_of m'.visible
  pub used_is : h.used ≡ used header_width rs

pub record Fell (rs new : List (List ℕ)) (m m' : Meaning) : Type 0 where
  pub ended : Ended m m'
  pub each : m.lives ≡ true → (s : List ℕ) → m'.stands s → (reading_of s ≡ Records rs) ⊎ (reading_of s ≡ Records new)
