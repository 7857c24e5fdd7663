use Rattle.std.proofs.Common.{rules}
use Rattle.storage.proofs.Storing.{declined, synced, old_or_new}
use Rattle.storage.proofs.client.store.Goals as goal

pub returns-in_err-write-clause-cell : goal.returns-in_err-write-clause-cell
returns-in_err-write-clause-cell g c =
    let m = g.S.Storage.means in
    old_or_new _ _ (m c.args.s.now) (m c.write.new.self) c.from_residual.result (g.met.S.Storage.lawful c.args.s.now c.requires) (search (rules, declined))

pub returns-clause-cell : goal.returns-clause-cell
returns-clause-cell g c =
    let m = g.S.Storage.means in
    old_or_new _ _ (m c.args.s.now) (m c.sync.new.self) c.sync.result (g.met.S.Storage.lawful c.args.s.now c.requires) (search (rules, synced))
