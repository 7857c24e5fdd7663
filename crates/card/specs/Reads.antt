-- Reads along the ring.
--   ReadsUpTo n c   the call c is a read of at most n bytes
--   OnTwo           a buffer was filled in two pieces, the second from the ring's start on
--   OnAlong         a buffer was filled from position p of the ring on; it is zeroed if the storage is gone
--   OnNumber        the number at position p of the ring was read
use Rattle.std.specs.Prelude.{◌≡◌, ℕ, ◌-◌, ◌≤◌, List, ◌++◌, length, replicate, Ok, Err, Result}
use Rattle.storage.specs.Cells.{part}
use Rattle.storage.specs.Meaning.{Meaning}
use Rattle.storage.specs.Calls.{Call, Reading, Writing, Syncing}
use Rattle.storage.specs.Inside.{Still, Lost, OnStep}
use Rattle.ring.specs.Layout.{header_width}
use Rattle.ring.specs.Bytes.{number, stretch}
use Rattle.ring.specs.Ring.{along}

abbrev pub ReadsUpTo : ℕ → Call → Type 0
ReadsUpTo n (Reading o k) = k ≤ n
ReadsUpTo n (Writing o b) = ⊥
ReadsUpTo n Syncing = ⊥

module _ {G : Type 0} where
  abbrev pub OnTwo : ℕ → ℕ → List ℕ → List ℕ → Meaning → Meaning → Result (Unit {0}) G → Type 0
  OnTwo at room old new m m' r = OnStep (λ _. new ≡ part at room m.visible ++ part header_width (length old - room) m.visible) m m' r

  abbrev pub OnAlong : ℕ → ℕ → List ℕ → List ℕ → Meaning → Meaning → Result (Unit {0}) G → Type 0
  OnAlong g p old new m m' (Ok _) = Still m m' × (new ≡ stretch (along header_width g m.visible) p (length old))
  OnAlong g p old new m m' (Err f) = Lost m m' × (new ≡ replicate (length old) 0)

  abbrev pub OnNumber : ℕ → ℕ → Meaning → Meaning → Result ℕ G → Type 0
  OnNumber g p m m' r = OnStep (λ n. n ≡ number (along header_width g m.visible) p) m m' r
