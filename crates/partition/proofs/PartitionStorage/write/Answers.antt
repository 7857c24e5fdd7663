use Rattle.std.proofs.Common.{◌+◌, ◌≤◌, length, rules}
use Rattle.storage.specs.Calls.{Writing}
use Rattle.partition.proofs.Calls.{on_write, did_below}
use Rattle.partition.proofs.PartitionStorage.write.Goals as goal

pub returns : goal.returns
returns g c =
    let m = g.S.Storage.means in
    let p = c.args.self.now in
    let o = c.args.offset in
    let b = c.args.bytes.now in
    let x = c.write_inside-answer.result in
    let l = g.met.S.Storage.lawful p.below c.requires.below in
    let u = c.lift.ensures in
    let fits : o + length b ≤ p.size = search rules in
    let y = on_write g.S.Gone.Chain.links p.base p.size (m p.below) (m c.write_inside-answer.new.s) l c.requires c.write_inside-answer.ensures.in_order o b x c.lift.result fits c.write_inside-answer.ensures.does u in
    record {
      in_order = y.in_order;
      does = y.does;
      did = did_below m g.S.Storage.did p c.write_inside-answer.new.s (Writing o b) x c.lift.result fits c.write_inside-answer.ensures.did u y.frame;
    }
