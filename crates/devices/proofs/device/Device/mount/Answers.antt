use Rattle.std.proofs.Common.{◌≡◌, length, refl, rules}
use Rattle.devices.proofs.Cutting.{mounted}
use Rattle.devices.proofs.Doing.{same_held}
use Rattle.devices.proofs.device.Device.mount.Goals as goal

-- The state after the mount is taken from the goal, and not named, so that an edit of the code is held
-- against what the mount promises and not against names.
pub returns : goal.returns
returns g c =
    let d = c.args.parts.durable.now in
    let t = g.M.Medium.torn c.args.parts.medium (length d) in
    let long : length t ≡ length d = search rules in
    mounted g.M.Medium.rules d c.args.parts.visible.now t _ (record { sized = search rules; visible = search rules; torn = long }) (same_held refl (search rules) (search (rules, long)) refl refl)
