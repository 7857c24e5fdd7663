use Rattle.std.proofs.Common.{refl, inr}
use Rattle.storage.proofs.Answering.{still_sync}
use Rattle.cache.specs.Cached.{lines_mean}
use Rattle.cache.proofs.Passing.{sync_clean}
use Rattle.cache.proofs.lines.Lines.settle.Goals as goal

pub returns : goal.returns
returns g c =
    let f = lines_mean g.S.Storage.means in
    let e = c.flush.new.self in
    let a = c.in_ok-flush.ensures in
    let b = c.sync_inside.ensures in
    let p = sync_clean e.slots e.lines (g.S.Storage.means e.below) (g.S.Storage.means c.sync_inside.new.s) a.in_order b.in_order a.did.1 c.sync_inside.result b.does in
    record {
      in_order = p.0;
      does = still_sync (f c.args.self.now) (f e) _ c.sync_inside.result a.does.0 p.1;
      did = inr (e, a.did, (b.did, refl));
    }
