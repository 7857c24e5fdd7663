use Rattle.std.proofs.Common.{◌≡◌, ℕ, ◌+◌, ◌<◌, ◌≤◌, List, length, Ok, Err, sym, ap, ◌∙◌, subst, arith}
use Rattle.std.proofs.lemmas.Result.{err_from_is_err_and}
use Rattle.storage.specs.Traces.{Made, Asked}
use Rattle.ring.specs.declared.head.Head.{Head}
use Rattle.ring.specs.declared.header.Header.{Header}
use Rattle.ring.specs.Headers.{RingLength}
use Rattle.ring.specs.Steps.{carried, grown_length, grown_header}
use Rattle.card.specs.Held.{Held}
use Rattle.adding.specs.Copies.{copies}
use Rattle.adding.specs.Grows.{GrowCall, OnGrow}
use Rattle.adding.specs.Appends.{append_calls}
use Rattle.adding.specs.Adds.{need, longer}
use Rattle.adding.proofs.Fitting.{head_grown, largest_fits, stopped_calls, append_after}
use Rattle.adding.proofs.add.add_fitting.Goals as goal

-- the length that the code works out, as the contract has it
same_length : (h : Head) (b : List ℕ) (n : ℕ) → n ≡ grown_length h.header.ring (h.used + 4 + length b) → n ≡ longer h.header h.used b
same_length h b n e =
    let sum : h.used + 4 + length b ≡ need h.used b = omega arith in
    e ∙ ap (grown_length h.header.ring) sum

pub overflow_cast-grown_length : goal.overflow_cast-grown_length
overflow_cast-grown_length g c =
    let h = c.args.head in
    let b = c.args.bytes.now in
    let law = g.met.S.Storage.lawful c.args.s.now c.requires.held.1.in_order in
    let small : h.size ≤ 16777216 = omega (arith, c.requires.held.1.size_is, law.sized.most) in
    omega (arith, (head_grown h b small c.requires.room).fits, largest_fits h small, same_length h b c.grown_length.result c.grown_length.ensures)

pub grow-requires : goal.grow-requires
grow-requires g c =
    let h = c.args.head in
    let b = c.args.bytes.now in
    let law = g.met.S.Storage.lawful c.args.s.now c.requires.held.1.in_order in
    let small : h.size ≤ 16777216 = omega (arith, c.requires.held.1.size_is, law.sized.most) in
    let e = same_length h b c.grown_length.result c.grown_length.ensures in
    let k = head_grown h b small c.requires.room in
    record {
      held = c.requires.held;
      length = subst RingLength (sym e) k.ring;
      twice = omega (arith, k.doubles (omega arith), e);
      fits = omega (arith, k.fits, largest_fits h small, e);
    }

pub returns-in_err-head-clause-calls : goal.returns-in_err-head-clause-calls
returns-in_err-head-clause-calls g c =
    let m = g.S.Storage.means in
    let did = g.S.Storage.did in
    let h = c.args.head in
    let b = c.args.bytes.now in
    let s = c.args.s.now in
    let t = c.grow.new.s in
    let short : h.header.ring < need h.used b = omega arith in
    let e = same_length h b c.grown_length.result c.grown_length.ensures in
    let f = c.in_err-head.field-0.0 in
    let d = c.in_err-head.ensures in
    let calls = subst (λ (n : ℕ). Asked did (GrowCall h.header n) {A = Unit {0}} (copies (carried 16 h.header h.used) + 3) (Err f) s t) e d.calls in
    let p = err_from_is_err_and c.from_residual.result c.from_residual.ensures.1 in
    rw (p.1, p.2) (stopped_calls did h.header h.used b short Head f s t calls)

pub append-requires-2-clause-room : goal.append-requires-2-clause-room
append-requires-2-clause-room g c =
    let h = c.args.head in
    let b = c.args.bytes.now in
    let s = c.args.s.now in
    let law = g.met.S.Storage.lawful s c.requires.held.1.in_order in
    let small : h.size ≤ 16777216 = omega (arith, c.requires.held.1.size_is, law.sized.most) in
    let e = same_length h b c.grown_length.result c.grown_length.ensures in
    let x = c.in_ok-head.ensures.does c.requires.held.0 c.requires.held.1 in
    omega (arith, (head_grown h b small c.requires.room).holds, e, x.2, ap (λ (y : Header). y.ring) x.1)

pub returns-clause-calls : goal.returns-clause-calls
returns-clause-calls g c =
    let m = g.S.Storage.means in
    let did = g.S.Storage.did in
    let h = c.args.head in
    let b = c.args.bytes.now in
    let s = c.args.s.now in
    let t = c.grow.new.s in
    let v = c.append-2.new.s in
    let r = c.append-2.result in
    let h₁ = c.in_ok-head.head in
    let short : h.header.ring < need h.used b = omega arith in
    let e = same_length h b c.grown_length.result c.grown_length.ensures in
    let d = c.in_ok-head.ensures in
    let grew : (rs : List (List ℕ)) → Held h rs (m s) → OnGrow {G = Unit {0}} rs (longer h.header h.used b) h (m s) (m t) (Ok h₁) = λ rs held. subst (λ (n : ℕ). OnGrow {G = Unit {0}} rs n h (m s) (m t) (Ok h₁)) e (d.does rs held) in
    let y = grew c.requires.held.0 c.requires.held.1 in
    let grow-calls = subst (λ (n : ℕ). Asked did (GrowCall h.header n) {A = Unit {0}} (copies (carried 16 h.header h.used) + 3) (Ok tt) s t) e d.calls in
    let calls = subst (λ (u : ℕ). Made did (append_calls (grown_header 16 h.header (longer h.header h.used b)) u b) r t v) y.2
    (subst (λ (q : Header). Made did (append_calls q h₁.used b) r t v) y.1 c.append-2.ensures.calls) in
    append_after did h.header h.used b short r s t v grow-calls calls
