use Rattle.std.proofs.Common.{rules}
use Rattle.cache.proofs.Means.{put}
use Rattle.cache.proofs.lines.Lines.put.Goals as goal

pub returns : goal.returns
returns g c =
    let s = c.args.self.now in
    let r = c.requires in
    let p = put s.slots s.lines (g.S.Storage.means s.below) r.in_order (g.met.S.Storage.lawful s.below r.in_order.below)
    c.args.i c.args.s r.home r.fits r.holds c.args.skip c.args.bytes.now r.short c.put.new.self c.put.ensures in
    record { in_order = p.0; does = p.1; did = search rules }
