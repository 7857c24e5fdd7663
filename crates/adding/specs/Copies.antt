-- The bytes that came round the ring's end, copied behind the ring.
--   piece          how many bytes are copied at a time at most
--   copies n       how many calls copy n bytes at most: a read and a write for each piece
--   CopyCall to c  c is a read of a piece, or a write of one at or behind the offset to
--   Before to k    byte k lies before the offset to
--   OnCopy         n bytes were copied; the bytes before the offset to stay, in all that may stand too
use Rattle.std.specs.Prelude.{◌≡◌, ℕ, ◌+◌, ◌*◌, ◌/◌, ◌<◌, ◌≤◌, length, Ok, Err, Result}
use Rattle.storage.specs.Cells.{laid, part}
use Rattle.storage.specs.Meaning.{Meaning}
use Rattle.storage.specs.Calls.{Call, Reading, Writing, Syncing}
use Rattle.adding.specs.Writes.{Went, Cut}

abbrev pub piece : ℕ
piece = 512

abbrev pub copies : ℕ → ℕ
copies n = 2 * ((n + 511) / piece)

abbrev pub CopyCall : ℕ → Call → Type 0
CopyCall to (Reading o n) = n ≤ piece
CopyCall to (Writing o b) = (to ≤ o) × (length b ≤ piece)
CopyCall to Syncing = ⊥

abbrev pub Before : ℕ → ℕ → Type 0
Before to k = k < to

abbrev pub OnCopy : {G : Type 0} → ℕ → ℕ → ℕ → Meaning → Meaning → Result (Unit {0}) G → Type 0
OnCopy from to n m m' (Ok _) = Went (Before to) m m' × (m'.visible ≡ laid to (part from n m.visible) m.visible)
OnCopy from to n m m' (Err f) = Cut (Before to) m m'
