use Rattle.std.proofs.Common.{◌≡◌, ℕ, ◌<◌, ◌≤◌, length, get_or}
use Rattle.devices.specs.Devices.{picked}
use Rattle.devices.specs.Mounts.{holds}
use Rattle.devices.proofs.device.Device.remount.Given as goal

-- below k each visible byte is the picked one, and from k on all is as it was
abbrev pub invariant-loop-k : goal.invariant-loop-k
invariant-loop-k g l =
    let h = holds g.M.Medium.torn l.initial.self in
    (l.self.copies.durable ≡ l.initial.self.copies.durable) ×
    (l.self.medium ≡ l.initial.self.medium) ×
    (length l.self.copies.visible.now ≡ length h.visible) ×
    ((j : ℕ) → j < l.k → get_or l.self.copies.visible.now j 0 ≡ picked g.M.Medium.rules h l.choices j) ×
    ((j : ℕ) → l.k ≤ j → get_or l.self.copies.visible.now j 0 ≡ get_or h.visible j 0)
