-- A cache's sync, and the calls that it hands on.
--   lowest z n           the lowest of the sectors that wait in the first n lines, if any
--   OnLowest             the lowest sector that waits in one of the first n lines, if any
--   AllClean z n         none of the first n lines waits
--   Passes R call c r d  the call was handed down as it is: nothing else changed
--   Sinks R c hs d       the lines of the sectors hs, which are listed last first, went down in rising
--                        order, and led from c to d
--   Flushes              all that waits went down in rising order, or as far as a line answered GONE
--   Syncs                a sync of lines: all that waits goes down, and then the sync
--   Settles              a sync: told GONE it is handed down, else it is one of the lines; the cache
--                        is told GONE, if that is the answer
use Rattle.std.specs.Prelude.{◌≡◌, ℕ, ◌%◌, ◌<◌, ◌≤◌, true, false, ◌⊎◌, List, [], ◌∷◌, Some, None, Ok, Err, Option, Result, ◌||◌, is_err, min, filter_map, take}
use Rattle.std.specs.List.{reduce}
use Rattle.storage.specs.Layers.{lowered}
use Rattle.storage.specs.Refusals.{Answer}
use Rattle.storage.specs.Calls.{Call, Syncing}
use Rattle.cache.specs.declared.line.Line.TheVariants.{Dirty}
use Rattle.cache.specs.declared.slot.Slot.{Slot}
use Rattle.cache.specs.declared.lines.Lines.{Lines}
use Rattle.cache.specs.declared.cache.Cache.{Cache}
use Rattle.cache.specs.Lines.{dirty, waiting, line}
use Rattle.cache.specs.Steps.{Evicts}

abbrev pub lowest : List Slot → ℕ → Option ℕ
lowest slots n = reduce min (filter_map (λ (x : Slot). waiting x.line) (take n slots))

abbrev pub AllClean : List Slot → ℕ → Type 0
AllClean slots n = (i : ℕ) → i < n → dirty (line slots i) ≡ false

pub record Lowest (slots : List Slot) (n h : ℕ) : Type 0 where
  pub at : ℕ
  pub low : at < n
  pub waits : line slots at ≡ Dirty h
  pub least : (j q : ℕ) → j < n → line slots j ≡ Dirty q → h ≤ q

abbrev pub OnLowest : List Slot → ℕ → Option ℕ → Type 0
OnLowest slots n None = AllClean slots n
OnLowest slots n (Some h) = Lowest slots n h

-- h is above the last of the sectors hs
abbrev pub Above : List ℕ → ℕ → Type 0
Above [] h = Unit {0}
Above (g ∷ hs) h = g < h

module _ {S O G : Type 0} (R : S → Call → Answer O G → S → Type 0) where
  abbrev pub Passes : Call → Lines S → Result (Unit {0}) G → Lines S → Type 0
  Passes call c r d = R c.below call (lowered r) d.below × (d ≡ record { below = d.below; slots = c.slots; lines = c.lines })

  abbrev pub Sinks : Lines S → List ℕ → Lines S → Type 0
  Sinks c [] d = d ≡ c
  Sinks c (h ∷ hs) d = (e : Lines S) × (Sinks c hs e) × (Above hs h) × (line e.slots (h % e.lines) ≡ Dirty h) × (Evicts R e (h % e.lines) (Ok tt) d)

  abbrev pub Flushes : Lines S → Result (Unit {0}) G → Lines S → Type 0
  Flushes c (Ok _) d = ((hs : List ℕ) × Sinks c hs d) × AllClean d.slots d.lines
  Flushes c (Err f) d = (hs : List ℕ) × (h : ℕ) × (e : Lines S) × (Sinks c hs e) × (Above hs h) × (line e.slots (h % e.lines) ≡ Dirty h) × (Evicts R e (h % e.lines) (Err f) d)

  abbrev pub Syncs : Lines S → Result (Unit {0}) G → Lines S → Type 0
  Syncs c r d = ((f : G) × (r ≡ Err f) × (Flushes c (Err f) d)) ⊎ ((e : Lines S) × (Flushes c (Ok tt) e) × (Passes Syncing e r d))

  pub record Settles (c : Cache S) (r : Result (Unit {0}) G) (d : Cache S) : Type 0 where
    pub told : c.gone ≡ true → Passes Syncing c.inner r d.inner
    pub flushed : c.gone ≡ false → Syncs c.inner r d.inner
    pub flag : d.gone ≡ (c.gone || is_err r)
