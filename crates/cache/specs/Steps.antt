-- The steps of a call on the lines of a cache, and what each does.
--   Puts c i s skip b d   the bytes b go into line i, which waits as the sector s to be written down
--   Evicts R c i r d   line i of c has nothing more to write down in d: it went down whole if it
--                   was dirty; R says which call the storage below was asked
--   Fetches R f c i s r d   line i takes the sector s, by one read below
--   Takes R f c s r d  the sector s is held in d: nothing at all if it was; else its line goes
--                   down if it is dirty, and then takes the sector
use Rattle.std.specs.Prelude.{◌≡◌, ℕ, ◌*◌, ◌%◌, Bool, true, false, ◌⊎◌, List, Ok, Err, Result}
use Rattle.storage.specs.declared.refusal.Refusal.TheVariants.{Gone}
use Rattle.storage.specs.Cells.{laid, part}
use Rattle.storage.specs.Refusals.{Answer}
use Rattle.storage.specs.Meaning.{Meaning}
use Rattle.storage.specs.Calls.{Call, Reading, Writing}
use Rattle.cache.specs.declared.line.Line.{Line}
use Rattle.cache.specs.declared.line.Line.TheVariants.{Empty, Clean, Dirty}
use Rattle.cache.specs.declared.lines.Lines.{Lines}
use Rattle.cache.specs.Lines.{held, line, content, stored}

abbrev pub Puts : {S : Type 0} → Lines S → ℕ → ℕ → ℕ → List ℕ → Lines S → Type 0
Puts c i s skip b d = d ≡ record { below = c.below; slots = stored c.slots i (Dirty s) (laid skip b (content c.slots i)); lines = c.lines }

module _ {S O G : Type 0} (R : S → Call → Answer O G → S → Type 0) where
  -- line i is written down to the sector h
  abbrev pub Downs : Lines S → ℕ → ℕ → Answer O G → S → Type 0
  Downs c i h x b = R c.below (Writing (h * 512) (content c.slots i)) x b

  abbrev pub EvictsLine : Line → Lines S → ℕ → Result (Unit {0}) G → Lines S → Type 0
  EvictsLine Empty c i r d = (r ≡ Ok tt) × (d ≡ c)
  EvictsLine (Clean h) c i r d = (r ≡ Ok tt) × (d ≡ c)
  EvictsLine (Dirty h) c i (Ok _) d = Downs c i h (Ok tt) d.below ×
      (d ≡ record { below = d.below; slots = stored c.slots i (Clean h) (content c.slots i); lines = c.lines })
  EvictsLine (Dirty h) c i (Err f) d = Downs c i h (Err (Gone f)) d.below ×
      (d ≡ record { below = d.below; slots = c.slots; lines = c.lines })

  abbrev pub Evicts : Lines S → ℕ → Result (Unit {0}) G → Lines S → Type 0
  Evicts c i r d = EvictsLine (line c.slots i) c i r d

  module _ (f : S → Meaning) where
    -- one that was answered GONE leaves the line with whatever bytes
    abbrev pub Fetches : Lines S → ℕ → ℕ → Result (Unit {0}) G → Lines S → Type 0
    Fetches c i s (Ok _) d = R c.below (Reading (s * 512) 512) (Ok tt) d.below ×
        (d ≡ record { below = d.below; slots = stored c.slots i (Clean s) (part (s * 512) 512 (f c.below).visible); lines = c.lines })
    Fetches c i s (Err e) d = R c.below (Reading (s * 512) 512) (Err (Gone e)) d.below ×
        (d ≡ record { below = d.below; slots = stored c.slots i (line c.slots i) (content d.slots i); lines = c.lines })

    abbrev pub Misses : Lines S → ℕ → Result ℕ G → Lines S → Type 0
    Misses c s (Ok i) d = (i ≡ s % c.lines) × ((e : Lines S) × (Evicts c i (Ok tt) e) × (Fetches e i s (Ok tt) d))
    Misses c s (Err f) d = Evicts c (s % c.lines) (Err f) d ⊎
        ((e : Lines S) × (Evicts c (s % c.lines) (Ok tt) e) × (Fetches e (s % c.lines) s (Err f) d))

    abbrev pub TakesBy : Bool → Lines S → ℕ → Result ℕ G → Lines S → Type 0
    TakesBy true c s r d = (r ≡ Ok (s % c.lines)) × (d ≡ c)
    TakesBy false c s r d = Misses c s r d

    abbrev pub Takes : Lines S → ℕ → Result ℕ G → Lines S → Type 0
    Takes c s r d = TakesBy (held (line c.slots (s % c.lines)) s) c s r d
