use Rattle.std.proofs.Common.{Ok, rules}
use Rattle.devices.specs.Mounts.{holds}
use Rattle.devices.proofs.Calls.{on_sync}
use Rattle.devices.proofs.device.DeviceStorage.sync.Goals as goal

-- The state after the call is taken from the goal, and not named, so that an edit of the code is held
-- against what the call promises and not against names.
pub returns-clause-does : goal.returns-clause-does
returns-clause-does g c = (on_sync g.M.Medium.rules g.met.M.Medium.keeps_rules g.M.Medium.name (holds g.M.Medium.torn c.args.self.now) c.requires _ (Ok tt) (search rules)).1
