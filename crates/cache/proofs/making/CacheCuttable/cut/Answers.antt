use Rattle.std.proofs.Common.{map, refl, ◌∙◌}
use Rattle.std.proofs.lemmas.List.{length-map}
use Rattle.cache.specs.Lines.{emptied}
use Rattle.cache.proofs.Fresh.{emptied_all, emptied_bytes, cut_over}
use Rattle.cache.proofs.making.CacheCuttable.cut.Goals as goal

pub returns : goal.returns
returns g c =
    let f = g.S.Storage.means in
    let s = c.args.self.now in
    let e = c.in_ok-cut.ensures in
    let left = g.S.Cuttable.keeps s.inner.below c.args.choices.now in
    let p = cut_over s.inner.slots (map emptied s.inner.slots) s.inner.lines s.gone (f s.inner.below) (f c.cut.new.self) left c.requires
    (emptied_all s.inner.slots) (length-map s.inner.slots emptied ∙ c.requires.slots_long) (emptied_bytes s.inner.slots c.requires.slots_long c.requires.bytes_long) e.does.1 in
    rw c.clear.ensures (record { in_order = p.0; does = (e.does.0, p.1, e.does.2); cuts = (e.cuts, emptied_all s.inner.slots, refl) })
