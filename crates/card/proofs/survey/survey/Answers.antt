use Rattle.std.proofs.Common.{rules, None, ◌≡◌, ℕ, ◌+◌, ◌-◌, ◌*◌, ◌/◌, length, Ok, Err, Result, sym, refl, ap, ◌∙◌, subst, arith}
use Rattle.std.proofs.lemmas.Result.{err_from_is_err_and}
use Rattle.std.proofs.lemmas.Option.{MatchOption-at_some, MatchOption-at_none}
use Rattle.storage.specs.Traces.{Asked}
use Rattle.storage.proofs.Answering.{still_still}
use Rattle.ring.specs.declared.head.Head.{Head}
use Rattle.ring.specs.declared.header.Header.{Header}
use Rattle.ring.specs.declared.walk.Walk.{Walk}
use Rattle.ring.specs.Headers.{header_of}
use Rattle.ring.specs.Walking.{Begun}
use Rattle.card.specs.Reads.{ReadsUpTo}
use Rattle.card.specs.declared.refusal.OpenRefusal.TheVariants.{NotAQueue}
use Rattle.card.specs.Refusals.{answered}
use Rattle.card.proofs.Reaching.{same_answer}
use Rattle.card.proofs.Stepping.{step_ok}
use Rattle.card.proofs.Surveying.{not_a_queue, declined, shown, header_then}
use Rattle.card.proofs.survey.survey.Goals as goal

pub returns-in_err-walk-clause-does : goal.returns-in_err-walk-clause-does
returns-in_err-walk-clause-does g c =
    let m = g.S.Storage.means in
    let s = c.args.s.now in
    let t = c.read_header.new.s in
    let h = c.in_ok-header.header in
    let d = step_ok (λ h. h ≡ header_of (m s).visible) (m s) (m t) c.read_header.result h c.read_header.ensures.does (search rules) in
    let size : c.size.result ≡ length (m s).visible = c.size.ensures ∙ d.0.size ∙ sym (g.met.S.Storage.lawful s c.requires).long in
    let none : c.begin.result ≡ None = grind arith in
    let why : c.in_err-walk.field-0.0 ≡ NotAQueue = grind arith in
    let unsound = MatchOption-at_none _ (λ k. Begun c.size.result h k) none c.begin.ensures in
    let e = err_from_is_err_and c.from_residual-in_err-walk.result c.from_residual-in_err-walk.ensures.1 in
    rw (e.1, e.2, why) (d.0, not_a_queue (m s).visible c.size.result h d.1 size unsound)

pub returns-in_err-walk-2 : goal.returns-in_err-walk-2
returns-in_err-walk-2 g c =
    let m = g.S.Storage.means in
    let did = g.S.Storage.did in
    let s = c.args.s.now in
    let t = c.read_header.new.s in
    let u = c.walk_through.new.s in
    let is : c.read_header.result ≡ Ok c.in_ok-header.header = search rules in
    let h = step_ok (λ h. h ≡ header_of (m s).visible) (m s) (m t) c.read_header.result c.in_ok-header.header c.read_header.ensures.does is in
    let calls = subst (λ (r : Result Header _). Asked did (ReadsUpTo 16) 1 r s t) is c.read_header.ensures.calls in
    let b = MatchOption-at_some _ (λ k. Begun c.size.result c.in_ok-header.header k) c.in_ok-walk.walk c.in_ok-walk.ensures.ok_part c.begin.ensures in
    let k = c.in_ok-walk.walk in
    let e = c.in_err-walk-2.field-0.0 in
    let d = c.in_err-walk-2.ensures in
    let size : k.size ≡ (m s).size = b.size_is ∙ c.size.ensures ∙ h.0.size in
    let long : k.size ≡ length (m s).visible = size ∙ sym (g.met.S.Storage.lawful s c.requires).long in
    let p = err_from_is_err_and c.from_residual-in_err-walk-2.result c.from_residual-in_err-walk-2.ensures.1 in
    rw (p.1, p.2) (record {
      in_order = d.in_order;
      does = declined (m s) (m t) (m u) k h.0 (b.header_is ∙ h.1) long b.none_passed b.used_is e d.does;
      calls = subst (λ (x : Result (Unit {0}) _). Asked did (ReadsUpTo 16) {A = Unit {0}} (1 + ((m s).size - 16) / 2) x s u) (same_answer Walk Head e)
          (subst (λ (n : ℕ). Asked did (ReadsUpTo 16) {A = Unit {0}} (1 + (n - 16) / 2) (answered {A = Walk} (Err e)) s u) size
          (header_then did ((k.size - 16) / 2) c.in_ok-header.header (answered {A = Walk} (Err e)) s t u calls d.calls));
    })

pub returns : goal.returns
returns g c =
    let m = g.S.Storage.means in
    let did = g.S.Storage.did in
    let s = c.args.s.now in
    let t = c.read_header.new.s in
    let u = c.walk_through.new.s in
    let is : c.read_header.result ≡ Ok c.in_ok-header.header = search rules in
    let h = step_ok (λ h. h ≡ header_of (m s).visible) (m s) (m t) c.read_header.result c.in_ok-header.header c.read_header.ensures.does is in
    let calls = subst (λ (r : Result Header _). Asked did (ReadsUpTo 16) 1 r s t) is c.read_header.ensures.calls in
    let b = MatchOption-at_some _ (λ k. Begun c.size.result c.in_ok-header.header k) c.in_ok-walk.walk c.in_ok-walk.ensures.ok_part c.begin.ensures in
    let k = c.in_ok-walk.walk in
    let d = c.in_ok-walk-2.ensures in
    let long : k.size ≡ length (m s).visible = b.size_is ∙ c.size.ensures ∙ h.0.size ∙ sym (g.met.S.Storage.lawful s c.requires).long in
    let head = b.header_is ∙ h.1 in
    record {
      in_order = d.in_order;
      does = (
        still_still (m s) (m t) (m u) h.0 d.does.0,
        shown (m s) (m t) (m u) k h.0 head long b.none_passed b.used_is _ c.in_ok-walk-2.walk refl refl refl d.does.1,
      );
      calls = subst (λ (n : ℕ). Asked did (ReadsUpTo 16) {A = Unit {0}} (1 + 2 * n) (Ok tt) s u) (ap (λ (x : Header). x.count) head)
          (header_then did (2 * k.header.count) c.in_ok-header.header (Ok tt) s t u calls d.calls);
    }
