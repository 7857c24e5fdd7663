use Rattle.std.proofs.Common.{ap, arith}
use Rattle.std.proofs.lemmas.Result.{err_from_is_err_and}
use Rattle.ring.specs.declared.header.Header.{Header}
use Rattle.card.proofs.Reaching.{reach_more, reach_declined, reach_calls, reach_end}
use Rattle.card.proofs.survey.walk_through.Goals as goal

pub loop-preserved : goal.loop-preserved
loop-preserved g c =
    let d = c.in_ok-pass_next.ensures in
    record {
      turn = omega (arith, d.does.1.passed_is);
      reach = reach_more g.S.Storage.means g.S.Storage.did c.args.s.now c.loop.s c.pass_next.new.s c.args.walk c.loop.walk c.pass_next.new.walk c.loop.invariant.reach
          d.in_order d.does.0 d.does.1 d.calls;
    }

pub returns-in_err-pass_next : goal.returns-in_err-pass_next
returns-in_err-pass_next g c =
    let means = g.S.Storage.means in
    let did = g.S.Storage.did in
    let s = c.args.s.now in
    let t = c.loop.s in
    let u = c.pass_next.new.s in
    let k = c.args.walk in
    let e = c.in_err-pass_next.field-0.0 in
    let d = c.in_err-pass_next.ensures in
    let p = err_from_is_err_and c.from_residual.result c.from_residual.ensures.1 in
    rw (p.1, p.2) (record {
      in_order = d.in_order;
      does = reach_declined means did s t u k c.loop.walk c.pass_next.new.walk c.loop.invariant.reach e d.does;
      calls = reach_calls means did s t u k c.loop.walk c.pass_next.new.walk c.loop.invariant.reach e d.calls;
    })

pub returns-clause-does : goal.returns-clause-does
returns-clause-does g c =
    let k = c.args.walk in
    let k' = c.loop.walk in
    let r = c.loop.invariant.reach in
    (r.still, reach_end g.S.Storage.means g.S.Storage.did c.args.s.now c.loop.s k k' r (omega (arith, ap (λ (h : Header). h.count) r.header_stays)))
