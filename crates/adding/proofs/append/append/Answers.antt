use Rattle.std.proofs.Common.{◌≡◌, ◌≤◌, true, [], ◌∷◌, length, Err, sym, refl, ap, subst, arith}
use Rattle.std.proofs.lemmas.Result.{err_from_is_err_and}
use Rattle.storage.specs.Calls.{Writing, Syncing}
use Rattle.storage.specs.Traces.{Made}
use Rattle.storage.specs.Stores.{StoreDone}
use Rattle.storage.proofs.Traces.{made_behind, made_front}
use Rattle.ring.specs.declared.head.Head.{Head}
use Rattle.ring.specs.declared.header.Header.{Header}
use Rattle.ring.specs.Headers.{cell, sound}
use Rattle.card.specs.Headers.{PutEnded}
use Rattle.adding.specs.Elements.{element_calls}
use Rattle.adding.proofs.Appending.{added_sound, element_fell, header_fell, appended}
use Rattle.adding.proofs.append.append.Goals as goal

pub returns-in_err-put_element : goal.returns-in_err-put_element
returns-in_err-put_element g c =
    let m = g.S.Storage.means in
    let did = g.S.Storage.did in
    let h = c.args.head in
    let b = c.args.bytes.now in
    let s = c.args.s.now in
    let t = c.put_element.new.s in
    let f = c.in_err-put_element.field-0.0 in
    let d = c.in_err-put_element.ensures in
    let p = err_from_is_err_and c.from_residual.result c.from_residual.ensures.1 in
    rw (p.1, p.2) (record {
      in_order = d.in_order;
      does = λ rs held. element_fell h rs b (m s) held (g.met.S.Storage.lawful s held.in_order) c.requires.short c.requires.room (m t) d.does;
      calls = made_front did (Unit {0}) _ (element_calls h.header h.used b) _ f s t d.calls;
    })

pub returns-in_err-put_header : goal.returns-in_err-put_header
returns-in_err-put_header g c =
    let m = g.S.Storage.means in
    let did = g.S.Storage.did in
    let h = c.args.head in
    let b = c.args.bytes.now in
    let s = c.args.s.now in
    let t = c.put_element.new.s in
    let u = c.put_header.new.s in
    let e = c.added_header-header.ensures in
    let x = c.in_ok-put_element.ensures in
    let f = c.in_err-put_header.field-0.0 in
    let d = c.in_err-put_header.ensures in
    let p = err_from_is_err_and c.from_residual-in_err-put_header.result c.from_residual-in_err-put_header.ensures.1 in
    rw (p.1, p.2) (record {
      in_order = d.in_order;
      does = λ rs held. header_fell h rs b (m s) held (g.met.S.Storage.lawful s held.in_order) c.requires.short c.requires.room (m t) (m u) x.does (subst (λ (y : Header). PutEnded (cell y) (m t) (m u)) e d.does);
      calls = made_behind did {A = Unit {0}} {B = Head} (element_calls h.header h.used b) _ tt (Err f) s t u x.calls
          (subst (λ (y : Header). Made did {A = Head} (Writing 0 (cell y) ∷ Syncing ∷ []) (Err f) t u) e d.calls);
    })

pub invariant_of-result : goal.invariant_of-result
invariant_of-result g c =
    let h = c.args.head in
    let e = c.added_header-header.ensures in
    let law = g.met.S.Storage.lawful c.args.s.now c.requires.held.1.in_order in
    let n = length c.args.bytes.now in
    let small : h.size ≤ 16777216 = omega (arith, c.requires.held.1.size_is, law.sized.most) in record {
      sound = subst (λ (y : Header). sound 16 h.size y.ring y.count y.first y.last ≡ true) (sym e) (added_sound h n small c.requires.room);
      room = omega (arith, c.requires.room, ap (λ (y : Header). y.ring) e);
      least = omega (arith, h.least, ap (λ (y : Header). y.count) e);
      bare = λ z. absurd (omega (arith, ap (λ (y : Header). y.count) e));
    }

pub returns-clause-does : goal.returns-clause-does
returns-clause-does g c =
    let m = g.S.Storage.means in
    let did = g.S.Storage.did in
    let h = c.args.head in
    let b = c.args.bytes.now in
    let s = c.args.s.now in
    let t = c.put_element.new.s in
    let u = c.put_header.new.s in
    let e = c.added_header-header.ensures in
    let x = c.in_ok-put_element.ensures in
    let d = c.in_ok-put_header.ensures in
    λ rs held. appended h rs b (m s) held (g.met.S.Storage.lawful s held.in_order) c.requires.short c.requires.room (m t) (m u) x.does _ refl e (omega arith)
    (subst (λ (y : Header). StoreDone 0 (cell y) (m t) (m u)) e d.does)
