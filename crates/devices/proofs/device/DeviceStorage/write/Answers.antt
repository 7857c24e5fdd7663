use Rattle.std.proofs.Common.{rules}
use Rattle.storage.specs.Calls.{Writing}
use Rattle.devices.specs.Devices.{Did, held}
use Rattle.devices.specs.Mounts.{holds}
use Rattle.devices.proofs.Calls.{on_write}
use Rattle.devices.proofs.device.DeviceStorage.write.Goals as goal

pub returns-clause-does : goal.returns-clause-does
returns-clause-does g c =
    let h = holds g.M.Medium.torn c.args.self.now in
    let h' = held g.M.Medium.torn c.program.new.copies c.program.new.power c.program.new.self in
    let o = c.args.offset in
    let b = c.args.bytes.now in
    let d : Did g.M.Medium.rules g.M.Medium.name h (Writing o b) c.map_err.result h' = search rules in
    (on_write g.M.Medium.rules g.met.M.Medium.keeps_rules g.M.Medium.name h c.requires o b h' c.map_err.result d).1
