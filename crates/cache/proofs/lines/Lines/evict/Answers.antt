use Rattle.std.proofs.Common.{◌<◌, length, set, refl, ap, arith}
use Rattle.std.proofs.lemmas.List.{set-get_or}
use Rattle.std.proofs.lemmas.Result.{err_from_is_err_and}
use Rattle.cache.specs.Lines.{slot, dirty}
use Rattle.cache.proofs.Seeing.{new_line, length_stored}
use Rattle.cache.proofs.Means.{down_within, down_done, down_lost}
use Rattle.cache.proofs.lines.Lines.evict.Goals as goal

pub write_to-requires : goal.write_to-requires
write_to-requires g c =
    let s = c.args.self.now in
    let i-o = c.requires.in_order in
    record {
      in_order = i-o.below;
      fits = down_within s.slots s.lines (g.S.Storage.means s.below) (g.S.Storage.means s.below) i-o (g.met.S.Storage.lawful s.below i-o.below) c.args.i c.in-Dirty.h c.requires.line c.in-Dirty.is;
    }

pub returns-in_err-write_to-clause-does : goal.returns-in_err-write_to-clause-does
returns-in_err-write_to-clause-does g c =
    let s = c.args.self.now in
    let i-o = c.requires.in_order in
    let d = c.in_err-write_to.ensures in
    let p = err_from_is_err_and c.from_residual.result c.from_residual.ensures.1 in
    let q = down_lost s.slots s.lines (g.S.Storage.means s.below) (g.S.Storage.means c.write_to.new.below) i-o (g.met.S.Storage.lawful s.below i-o.below)
    c.args.i c.in-Dirty.h c.requires.line c.in-Dirty.is d.in_order d.does in
    rw p.1 (simp set-get_or q.1)

pub returns : goal.returns
returns g c =
    let s = c.args.self.now in
    let i-o = c.requires.in_order in
    let d = c.in_ok-write_to.ensures in
    let p = down_done s.slots s.lines (g.S.Storage.means s.below) (g.S.Storage.means c.write_to.new.below) i-o (g.met.S.Storage.lawful s.below i-o.below)
    c.args.i c.in-Dirty.h c.requires.line c.in-Dirty.is d.in_order d.does in
    let now = set s.slots c.args.i (slot s.slots c.args.i) in
    let low : c.args.i < length now = omega (arith, i-o.few_lines, i-o.slots_long, c.requires.line, length_stored s.slots c.args.i (slot s.slots c.args.i)) in
    record {
      in_order = simp set-get_or p.0;
      does = (simp set-get_or p.1, (ap dirty (new_line now c.args.i _ low), refl));
      did = rw c.in-Dirty.is (simp set-get_or (d.did, refl));
    }
