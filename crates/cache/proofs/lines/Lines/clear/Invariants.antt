use Rattle.std.proofs.Common.{◌≡◌, ℕ, ◌<◌, ◌≤◌, length}
use Rattle.cache.specs.Lines.{slot, emptied}
use Rattle.cache.proofs.lines.Lines.clear.Given as goal

-- the slots before the index are emptied
abbrev pub invariant-loop-slot : goal.invariant-loop-slot
invariant-loop-slot g l =
    (length l.slot-items ≡ length l.fn.self.slots) ×
    ((k : ℕ) → k < l.slot-index → slot l.slot-items k ≡ emptied (slot l.fn.self.slots k)) ×
    ((k : ℕ) → l.slot-index ≤ k → slot l.slot-items k ≡ slot l.fn.self.slots k)
