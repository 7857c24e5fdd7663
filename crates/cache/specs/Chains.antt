-- A call on a range, sector by sector in rising order.
--   Walk step c a k d   k steps, at a, a + 1 and so on, led from c to d
--   ReadStep, WriteStep   what a call does at one sector: it is taken; a write then puts its bytes there
--   Ranges              a call on n bytes at o: a step at each sector that it touches, the lowest first,
--                       or as far as one that was answered GONE
--   Accesses            a read or write on lines: one of no bytes is handed down as it is, else it goes
--                       sector by sector
use Rattle.std.specs.Prelude.{◌≡◌, ℕ, zero, suc, ◌+◌, ◌-◌, ◌*◌, ◌/◌, ◌%◌, ◌<◌, min, max, List, length, Ok, Err, Result}
use Rattle.storage.specs.Cells.{part}
use Rattle.storage.specs.Sectors.{touched}
use Rattle.storage.specs.Refusals.{Answer}
use Rattle.storage.specs.Meaning.{Meaning}
use Rattle.storage.specs.Calls.{Call, WriteDone}
use Rattle.storage.specs.Inside.{Lost}
use Rattle.cache.specs.declared.lines.Lines.{Lines}
use Rattle.cache.specs.Steps.{Takes, Puts}
use Rattle.cache.specs.Syncs.{Passes}

abbrev pub Walk : {C : Type 0} → (ℕ → C → C → Type 0) → C → ℕ → ℕ → C → Type 0
Walk step c a zero d = d ≡ c
Walk step c a (suc k) d = (e : _) × (Walk step c a k e) × (step (a + k) e d)

-- where a range begins in the sector s, and its bytes there
abbrev pub begins : ℕ → ℕ → ℕ
begins o s = max o (s * 512)

abbrev pub piece : ℕ → List ℕ → ℕ → List ℕ
piece o b s = part (begins o s - o) (min (512 - begins o s % 512) (length b - (begins o s - o))) b

module _ {S O G : Type 0} (R : S → Call → Answer O G → S → Type 0) (f : S → Meaning) where
  -- the sector s is taken, or is not
  abbrev pub Took : Lines S → ℕ → Result (Unit {0}) G → Lines S → Type 0
  Took c s (Ok _) d = Takes R f c s (Ok (s % c.lines)) d
  Took c s (Err e) d = Takes R f c s (Err e) d

  abbrev pub ReadStep : ℕ → Lines S → Lines S → Type 0
  ReadStep s c d = Took c s (Ok tt) d

  -- bytes at an offset go into their sector, once it is taken
  abbrev pub Writes : ℕ → List ℕ → Lines S → Result (Unit {0}) G → Lines S → Type 0
  Writes at b c (Ok _) d = (e : Lines S) × (Took c (at / 512) (Ok tt) e) × (Puts e (at / 512 % c.lines) (at / 512) (at % 512) b d)
  Writes at b c (Err x) d = Took c (at / 512) (Err x) d

  abbrev pub WriteStep : ℕ → List ℕ → ℕ → Lines S → Lines S → Type 0
  WriteStep o b s c d = Writes (begins o s) (piece o b s) c (Ok tt) d

  abbrev pub Ranges : (ℕ → Lines S → Lines S → Type 0) → Lines S → ℕ → ℕ → Result (Unit {0}) G → Lines S → Type 0
  Ranges step c o n (Ok _) d = Walk step c (o / 512) (touched o n) d
  Ranges step c o n (Err x) d = (k : ℕ) × (e : Lines S) × (k < touched o n) × (Walk step c (o / 512) k e) × (Took e (o / 512 + k) (Err x) d)

  pub record Accesses (call : Call) (move : ℕ → Lines S → Lines S → Type 0) (o n : ℕ) (c : Lines S) (r : Result (Unit {0}) G) (d : Lines S) : Type 0 where
    pub none : n ≡ 0 → Passes R call c r d
    pub some : 0 < n → Ranges move c o n r d

-- what putting bytes at an offset did
abbrev pub OnPut : {G : Type 0} → Type 0 → ℕ → List ℕ → Meaning → Meaning → Result (Unit {0}) G → Type 0
OnPut Q at b m m' (Ok _) = WriteDone at b m m' × Q
OnPut Q at b m m' (Err f) = Lost m m'
