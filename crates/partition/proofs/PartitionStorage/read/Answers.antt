use Rattle.std.proofs.Common.{◌≡◌, ◌+◌, ◌≤◌, length, rules}
use Rattle.storage.specs.Calls.{Reading}
use Rattle.partition.proofs.Calls.{on_read, did_below}
use Rattle.partition.proofs.PartitionStorage.read.Goals as goal

pub returns : goal.returns
returns g c =
    let m = g.S.Storage.means in
    let p = c.args.self.now in
    let o = c.args.offset in
    let old = c.args.buf.now in
    let new = c.read_inside-answer.new.buf in
    let x = c.read_inside-answer.result in
    let l = g.met.S.Storage.lawful p.below c.requires.below in
    let u = c.lift.ensures in
    let fits : o + length old ≤ p.size = search rules in
    let long : length new ≡ length old = search rules in
    let y = on_read g.S.Gone.Chain.links p.base p.size (m p.below) (m c.read_inside-answer.new.s) l c.requires c.read_inside-answer.ensures.in_order o old new x c.lift.result fits long c.read_inside-answer.ensures.does u in
    record {
      in_order = y.in_order;
      does = y.does;
      did = did_below m g.S.Storage.did p c.read_inside-answer.new.s (Reading o (length old)) x c.lift.result fits c.read_inside-answer.ensures.did u y.frame;
    }
