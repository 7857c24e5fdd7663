use Rattle.std.proofs.Common.{◌≡◌, ℕ, ◌+◌, ◌≤◌, length, sym, subst, arith}
use Rattle.std.proofs.lemmas.Result.{err_from_is_err_and}
use Rattle.adding.proofs.Copying.{Copied, copied_step, copied_cut, copied_calls}
use Rattle.adding.proofs.copy.copy_out.Goals.{else-loop-done-test, then-loop-done-test+in_ok-copy_piece+else-n-done-gt512}
use Rattle.adding.proofs.copy.copy_out.Goals as goal

pub loop-done-preserved : goal.loop-done-preserved
loop-done-preserved g c =
    let means = g.S.Storage.means in
    let did = g.S.Storage.did in
    let s = c.args.s.now in
    let u = c.copy_piece.new.s in
    let d = c.in_ok-copy_piece.ensures in
    let fits : c.args.ring + c.args.n ≤ length (means s).visible = omega (arith, c.requires.target, (g.met.S.Storage.lawful s c.requires.in_order).long) in
    subst (λ (k : ℕ). Copied means did c.args.ring c.args.n k s u) (omega (arith, c.min-k.ensures))
    (copied_step means did c.args.ring c.args.n c.loop-done.done c.min-k.result s c.loop-done.s u c.loop-done.invariant c.requires.source fits c.loop-done-test.true c.min-k.ensures d.in_order d.does.0 d.does.1 d.calls)

pub returns-in_err-copy_piece : goal.returns-in_err-copy_piece
returns-in_err-copy_piece g c =
    let means = g.S.Storage.means in
    let did = g.S.Storage.did in
    let s = c.args.s.now in
    let t = c.loop-done.s in
    let u = c.copy_piece.new.s in
    let i = c.loop-done.invariant in
    let f = c.in_err-copy_piece.field-0.0 in
    let d = c.in_err-copy_piece.ensures in
    let fits : c.args.ring + c.args.n ≤ length (means s).visible = omega (arith, c.requires.target, (g.met.S.Storage.lawful s c.requires.in_order).long) in
    let p = err_from_is_err_and c.from_residual.result c.from_residual.ensures.1 in
    rw (p.1, p.2) (record {
      in_order = d.in_order;
      does = copied_cut means did c.args.ring c.args.n c.loop-done.done c.min-k.result s t u i c.requires.source fits c.loop-done-test.true c.min-k.ensures d.does;
      calls = copied_calls means did c.args.ring c.args.n c.loop-done.done c.min-k.result s t u i c.requires.source fits c.loop-done-test.true c.min-k.ensures f d.calls;
    })

pub returns : goal.returns
returns g c =
    let means = g.S.Storage.means in
    let s = c.args.s.now in
    let t = c.loop-done-test.s in
    let did = g.S.Storage.did in
    let i = c.loop-done.invariant in
    let fits : c.args.ring + c.args.n ≤ length (means s).visible = omega (arith, c.requires.target, (g.met.S.Storage.lawful s c.requires.in_order).long) in
    let all : Copied means did c.args.ring c.args.n c.args.n s t = elim c.loop-done-test.branch [
      | else-loop-done-test w ↦
          subst (λ (k : ℕ). Copied means did c.args.ring c.args.n k s t) (omega (arith, i.upto)) (subst (Copied means did c.args.ring c.args.n c.loop-done.done s) (sym w.s-is) i)
      | then-loop-done-test+in_ok-copy_piece+else-n-done-gt512 w ↦
          let d = w.in_ok-copy_piece.ensures in
          let k : c.loop-done.done + w.min-k.result ≡ c.args.n = omega (arith, w.min-k.ensures) in
          subst (λ (k : ℕ). Copied means did c.args.ring c.args.n k s t) k (subst (Copied means did c.args.ring c.args.n (c.loop-done.done + w.min-k.result) s) (sym w.s-is)
          (copied_step means did c.args.ring c.args.n c.loop-done.done w.min-k.result s c.loop-done.s w.copy_piece.new.s i c.requires.source fits w.loop-done-test.true w.min-k.ensures d.in_order d.does.0 d.does.1 d.calls))
    ] in
    record { in_order = all.order; does = (all.went, all.visible); calls = all.calls }
