-- Which sectors the lines of a cache hold after a call on a range, and when it leaves the storage below alone.
--   Touches o n s   the sector s has a byte of the n bytes at o
--   HeldIn c s      the lines c hold the sector s
--   Holding         what a read or write of n bytes at o, of which there are some, led to from c:
--     quiet           where every sector that it touches was held, the storage below is untouched
--     stays           a sector is held until a call takes another one into its line
--     took            of the sectors that were touched the last of each line is held
use Rattle.std.specs.Prelude.{◌≡◌, ℕ, ◌+◌, ◌*◌, ◌%◌, ◌<◌, ◌≤◌, Bool, true}
use Rattle.cache.specs.declared.lines.Lines.{Lines}
use Rattle.cache.specs.Lines.{held, line}

abbrev pub Touches : ℕ → ℕ → ℕ → Type 0
Touches o n s = (s * 512 < o + n) × (o < s * 512 + 512)

abbrev pub HeldIn : {S : Type 0} → Lines S → ℕ → Type 0
HeldIn c s = held (line c.slots (s % c.lines)) s ≡ true

pub record Holding {S : Type 0} (o n : ℕ) (ok : Bool) (c d : Lines S) : Type 0 where
  pub quiet : ((s : ℕ) → Touches o n s → HeldIn c s) → d.below ≡ c.below
  pub stays : ok ≡ true → (s : ℕ) → HeldIn c s → ((q : ℕ) → Touches o n q → q % c.lines ≡ s % c.lines → q ≡ s) → HeldIn d s
  pub took : ok ≡ true → (s : ℕ) → Touches o n s → ((q : ℕ) → Touches o n q → q % c.lines ≡ s % c.lines → q ≤ s) → HeldIn d s
