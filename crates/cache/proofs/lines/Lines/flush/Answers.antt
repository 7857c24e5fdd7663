use Rattle.std.proofs.Common.{◌≡◌, ℕ, ◌%◌, ◌<◌, List, [], ◌∷◌, length, count_by, None, Ok, sym, refl, ap, ◌∙◌, subst, arith, rules}
use Rattle.std.proofs.lemmas.Result.{err_from_is_err_and}
use Rattle.storage.proofs.Answering.{still_self, still_still, still_lost}
use Rattle.cache.specs.declared.line.Line.{Line}
use Rattle.cache.specs.declared.line.Line.TheVariants.{Clean}
use Rattle.cache.specs.declared.slot.Slot.{Slot}
use Rattle.cache.specs.Lines.{dirty, line, content, stored}
use Rattle.cache.specs.Cached.{lines_mean}
use Rattle.cache.specs.Steps.{EvictsLine}
use Rattle.cache.proofs.Sinking.{on_lowest, low_home, waiting_less, above_next}
use Rattle.cache.proofs.lines.Lines.flush.Goals as goal

pub loop-h-init : goal.loop-h-init
loop-h-init g c = (c.requires.in_order, refl, still_self (lines_mean g.S.Storage.means c.args.self.now), ([], refl, λ j q l e. tt))

pub returns-in_err-evict : goal.returns-in_err-evict
returns-in_err-evict g c =
    let f = lines_mean g.S.Storage.means in
    let w = c.loop-h.self in
    let i = c.loop-h.invariant in
    let h = c.in-Some.h in
    let d = c.in_err-evict.ensures in
    let p = low_home w.slots w.lines (g.S.Storage.means w.below) h i.0 c.in-Some.ensures in
    let r = err_from_is_err_and c.from_residual.result c.from_residual.ensures.1 in
    rw (r.1, r.2) (record {
      in_order = d.in_order;
      does = still_lost (f c.args.self.now) (f w) (f c.evict.new.self) i.2 d.does;
      did = (i.3.0, h, w, i.3.1, i.3.2 (h % w.lines) h p.1 p.2, p.2, d.did);
    })

-- the line of the lowest went down, and is clean now
went_down : (g : _) (c : goal.In_ok-evict g) → c.evict.new.self.slots ≡ stored c.loop-h.self.slots (c.in-Some.h % c.loop-h.self.lines) (Clean c.in-Some.h) (content c.loop-h.self.slots (c.in-Some.h % c.loop-h.self.lines))
went_down g c =
    let w = c.loop-h.self in
    let h = c.in-Some.h in
    let p = low_home w.slots w.lines (g.S.Storage.means w.below) h c.loop-h.invariant.0 c.in-Some.ensures in
    let d = subst (λ (l : Line). EvictsLine g.S.Storage.did l w (h % w.lines) (Ok tt) c.evict.new.self) p.2 c.in_ok-evict.ensures.did in
    ap (λ (x : _). x.slots) d.1

pub loop-h-smaller : goal.loop-h-smaller
loop-h-smaller g c =
    let w = c.loop-h.self in
    let i = c.loop-h.invariant in
    let h = c.in-Some.h in
    let p = low_home w.slots w.lines (g.S.Storage.means w.below) h i.0 c.in-Some.ensures in
    let less = waiting_less w.slots (h % w.lines) h h (content w.slots (h % w.lines)) (omega (arith, p.1, i.0.few_lines, i.0.slots_long)) p.2 in
    let same = ap (λ (x : List Slot). count_by (λ (z : Slot). dirty z.line) x) (went_down g c) in
    omega arith

pub loop-h-preserved : goal.loop-h-preserved
loop-h-preserved g c =
    let f = lines_mean g.S.Storage.means in
    let w = c.loop-h.self in
    let z = c.evict.new.self in
    let i = c.loop-h.invariant in
    let h = c.in-Some.h in
    let low = c.in-Some.ensures in
    let d = c.in_ok-evict.ensures in
    let p = low_home w.slots w.lines (g.S.Storage.means w.below) h i.0 low in
    let wide : h % w.lines < length w.slots = omega (arith, p.1, i.0.few_lines, i.0.slots_long) in (
      d.in_order,
      d.does.1.1 ∙ i.1,
      still_still (f c.args.self.now) (f w) (f z) i.2 d.does.0,
      (
        h ∷ i.3.0,
        (w, i.3.1, i.3.2 (h % w.lines) h p.1 p.2, p.2, d.did),
        λ j q l e. above_next w.slots w.lines (g.S.Storage.means w.below).visible (h % w.lines) h (content w.slots (h % w.lines)) (i.0.kept p.0) low i.0.slots_long i.0.few_lines p.1 wide p.2
            j q (subst (λ (n : ℕ). j < n) d.does.1.1 l) (ap (λ (x : List Slot). line x j) (sym (went_down g c)) ∙ e),
      ),
    )

pub returns : goal.returns
returns g c =
    let w = c.loop-h.self in
    let i = c.loop-h.invariant in
    record {
      in_order = i.0;
      does = (i.2, i.1);
      did = ((i.3.0, i.3.1), on_lowest w.slots w.lines None i.0.slots_long i.0.few_lines (search rules));
    }
