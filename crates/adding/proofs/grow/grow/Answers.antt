use Rattle.std.proofs.Common.{◌≡◌, ℕ, ◌≤◌, true, [], ◌∷◌, Ok, Err, sym, refl, ap, subst, arith}
use Rattle.std.proofs.lemmas.Result.{err_from_is_err_and}
use Rattle.storage.specs.Calls.{Writing, Syncing}
use Rattle.storage.specs.Traces.{Made, Asked}
use Rattle.storage.specs.Stores.{StoreDone}
use Rattle.ring.specs.declared.head.Head.{Head}
use Rattle.ring.specs.declared.header.Header.{Header}
use Rattle.ring.specs.Headers.{cell, sound}
use Rattle.ring.specs.Steps.{carried}
use Rattle.card.specs.Headers.{PutEnded}
use Rattle.adding.specs.Copies.{copies, CopyCall, OnCopy}
use Rattle.adding.proofs.Growing.{head_carried, grown_sound, copy_fell, sync_fell, header_fell, grew, copy_calls, sync_calls, header_calls}
use Rattle.adding.proofs.grow.grow.Goals as goal

pub copy_out-requires : goal.copy_out-requires
copy_out-requires g c =
    let h = c.args.head in
    let k = head_carried h in
    record {
      in_order = c.requires.held.1.in_order;
      source = omega (arith, c.carried.ensures);
      target = omega (arith, c.carried.ensures, c.requires.twice, c.requires.fits, c.requires.held.1.size_is);
    }

pub returns-in_err-copy_out : goal.returns-in_err-copy_out
returns-in_err-copy_out g c =
    let m = g.S.Storage.means in
    let did = g.S.Storage.did in
    let h = c.args.head in
    let s = c.args.s.now in
    let t = c.copy_out.new.s in
    let f = c.in_err-copy_out.field-0.0 in
    let d = c.in_err-copy_out.ensures in
    let calls = subst (λ (n : ℕ). Asked did (CopyCall h.header.ring) {A = Unit {0}} (copies n) (Err f) s t) c.carried.ensures d.calls in
    let p = err_from_is_err_and c.from_residual.result c.from_residual.ensures.1 in
    rw (p.1, p.2) (record {
      in_order = d.in_order;
      does = λ rs held. copy_fell h rs c.args.ring (m s) held (g.met.S.Storage.lawful s held.in_order) c.requires.length c.requires.twice c.requires.fits (m t) d.does;
      calls = copy_calls did h.header c.args.ring (copies (carried 16 h.header h.used)) Head f s t calls;
    })

pub returns-in_err-sync_inside : goal.returns-in_err-sync_inside
returns-in_err-sync_inside g c =
    let m = g.S.Storage.means in
    let did = g.S.Storage.did in
    let h = c.args.head in
    let s = c.args.s.now in
    let t = c.copy_out.new.s in
    let u = c.sync_inside.new.s in
    let x = c.in_ok-copy_out.ensures in
    let f = c.in_err-sync_inside.field-0.0 in
    let d = c.in_err-sync_inside.ensures in
    let calls = subst (λ (n : ℕ). Asked did (CopyCall h.header.ring) {A = Unit {0}} (copies n) (Ok tt) s t) c.carried.ensures x.calls in
    let copy = subst (λ (n : ℕ). OnCopy {G = Unit {0}} 16 h.header.ring n (m s) (m t) (Ok tt)) c.carried.ensures x.does in
    let p = err_from_is_err_and c.from_residual-in_err-sync_inside.result c.from_residual-in_err-sync_inside.ensures.1 in
    rw (p.1, p.2) (record {
      in_order = d.in_order;
      does = λ rs held. sync_fell h rs c.args.ring (m s) held (g.met.S.Storage.lawful s held.in_order) c.requires.length c.requires.twice c.requires.fits (m t) (m u) copy.0 copy.1 d.does;
      calls = sync_calls did h.header c.args.ring (copies (carried 16 h.header h.used)) Head f s t u calls d.did;
    })

pub returns-in_err-put_header : goal.returns-in_err-put_header
returns-in_err-put_header g c =
    let m = g.S.Storage.means in
    let did = g.S.Storage.did in
    let h = c.args.head in
    let s = c.args.s.now in
    let t = c.copy_out.new.s in
    let u = c.sync_inside.new.s in
    let v = c.put_header.new.s in
    let e = c.grown_header-header.ensures in
    let x = c.in_ok-copy_out.ensures in
    let y = c.in_ok-sync_inside.ensures in
    let f = c.in_err-put_header.field-0.0 in
    let d = c.in_err-put_header.ensures in
    let calls = subst (λ (n : ℕ). Asked did (CopyCall h.header.ring) {A = Unit {0}} (copies n) (Ok tt) s t) c.carried.ensures x.calls in
    let copy = subst (λ (n : ℕ). OnCopy {G = Unit {0}} 16 h.header.ring n (m s) (m t) (Ok tt)) c.carried.ensures x.does in
    let p = err_from_is_err_and c.from_residual-in_err-put_header.result c.from_residual-in_err-put_header.ensures.1 in
    rw (p.1, p.2) (record {
      in_order = d.in_order;
      does = λ rs held. header_fell h rs c.args.ring (m s) held (g.met.S.Storage.lawful s held.in_order) c.requires.length c.requires.twice c.requires.fits (m t) (m u) copy.0 copy.1 (m v) y.does
          (subst (λ (q : Header). PutEnded (cell q) (m u) (m v)) e d.does);
      calls = header_calls did h.header c.args.ring (copies (carried 16 h.header h.used)) {A = Head} (Err f) s t u v calls y.did
          (subst (λ (q : Header). Made did {A = Head} (Writing 0 (cell q) ∷ Syncing ∷ []) (Err f) u v) e d.calls);
    })

pub invariant_of-result : goal.invariant_of-result
invariant_of-result g c =
    let h = c.args.head in
    let e = c.grown_header-header.ensures in
    let law = g.met.S.Storage.lawful c.args.s.now c.requires.held.1.in_order in
    let small : h.size ≤ 16777216 = omega (arith, c.requires.held.1.size_is, law.sized.most) in record {
      sound = subst (λ (q : Header). sound 16 h.size q.ring q.count q.first q.last ≡ true) (sym e) (grown_sound h c.args.ring small c.requires.length c.requires.twice c.requires.fits);
      room = omega (arith, c.requires.twice, h.room, ap (λ (q : Header). q.ring) e);
      least = omega (arith, h.least, ap (λ (q : Header). q.count) e);
      bare = λ z. h.bare (omega (arith, ap (λ (q : Header). q.count) e));
    }

pub returns : goal.returns
returns g c =
    let m = g.S.Storage.means in
    let did = g.S.Storage.did in
    let h = c.args.head in
    let s = c.args.s.now in
    let t = c.copy_out.new.s in
    let u = c.sync_inside.new.s in
    let v = c.put_header.new.s in
    let e = c.grown_header-header.ensures in
    let x = c.in_ok-copy_out.ensures in
    let y = c.in_ok-sync_inside.ensures in
    let d = c.in_ok-put_header.ensures in
    let calls = subst (λ (n : ℕ). Asked did (CopyCall h.header.ring) {A = Unit {0}} (copies n) (Ok tt) s t) c.carried.ensures x.calls in
    let copy = subst (λ (n : ℕ). OnCopy {G = Unit {0}} 16 h.header.ring n (m s) (m t) (Ok tt)) c.carried.ensures x.does in
    record {
      in_order = d.in_order;
      does = λ rs held. (
        grew h rs c.args.ring (m s) held (g.met.S.Storage.lawful s held.in_order) c.requires.length c.requires.twice c.requires.fits (m t) (m u) copy.0 copy.1 (m v) y.does _ refl e refl
            (subst (λ (q : Header). StoreDone 0 (cell q) (m u) (m v)) e d.does),
        e,
        refl,
      );
      calls = header_calls did h.header c.args.ring (copies (carried 16 h.header h.used)) {A = Unit {0}} (Ok tt) s t u v calls y.did
          (subst (λ (q : Header). Made did {A = Unit {0}} (Writing 0 (cell q) ∷ Syncing ∷ []) (Ok tt) u v) e d.calls);
    }
