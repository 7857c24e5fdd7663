use Rattle.std.proofs.Common.{◌≡◌, ℕ, ◌<◌, List, count_by}
use Rattle.storage.specs.Inside.{Still}
use Rattle.cache.specs.declared.line.Line.TheVariants.{Dirty}
use Rattle.cache.specs.declared.slot.Slot.{Slot}
use Rattle.cache.specs.Lines.{dirty, line}
use Rattle.cache.specs.Cached.{lines_mean}
use Rattle.cache.specs.Syncs.{Sinks, Above}
use Rattle.cache.proofs.lines.Lines.flush.Given as goal

-- some sectors went down in rising order, and what still waits lies above them
abbrev pub invariant-loop-h : goal.invariant-loop-h
invariant-loop-h g l =
    (lines_mean g.S.Storage.means l.self).in_order ×
    (l.self.lines ≡ l.initial.self.lines) ×
    (Still (lines_mean g.S.Storage.means l.initial.self) (lines_mean g.S.Storage.means l.self)) ×
    ((hs : List ℕ) × (Sinks g.S.Storage.did l.initial.self hs l.self) × ((j q : ℕ) → j < l.self.lines → line l.self.slots j ≡ Dirty q → Above hs q))

abbrev pub decreases-loop-h : goal.decreases-loop-h
decreases-loop-h g l = count_by (λ (x : Slot). dirty x.line) l.self.slots
