use Rattle.std.proofs.Common.{arith}
use Rattle.storage.specs.Calls.{Syncing}
use Rattle.partition.proofs.Calls.{on_sync, did_below}
use Rattle.partition.proofs.PartitionStorage.sync.Goals as goal

pub returns : goal.returns
returns g c =
    let m = g.S.Storage.means in
    let p = c.args.self.now in
    let x = c.sync_inside-answer.result in
    let l = g.met.S.Storage.lawful p.below c.requires.below in
    let u = c.lift.ensures in
    let y = on_sync g.S.Gone.Chain.links p.base p.size (m p.below) (m c.sync_inside-answer.new.s) l c.requires c.sync_inside-answer.ensures.in_order x c.lift.result c.sync_inside-answer.ensures.does u in
    record {
      in_order = y.in_order;
      does = y.does;
      did = did_below m g.S.Storage.did p c.sync_inside-answer.new.s Syncing x c.lift.result (omega arith) c.sync_inside-answer.ensures.did u y.frame;
    }
