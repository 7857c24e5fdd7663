use Rattle.std.proofs.Common.{◌≡◌, ℕ, ◌+◌, [], ◌∷◌, length, Ok, Err, refl, ap, ◌∙◌, arith}
use Rattle.std.proofs.lemmas.Result.{err_from_is_err_and}
use Rattle.storage.specs.Calls.{Syncing}
use Rattle.storage.proofs.Traces.{made_one, made_behind, made_front}
use Rattle.ring.specs.Bytes.{four}
use Rattle.ring.specs.Ring.{place}
use Rattle.ring.specs.Steps.{end_position}
use Rattle.adding.specs.Writes.{pieces}
use Rattle.ring.proofs.Heads.{head_sound, behind_end}
use Rattle.adding.proofs.Laying.{lay_at, pieces_at}
use Rattle.adding.proofs.Placing.{field_cut, bytes_cut, element_synced}
use Rattle.adding.proofs.element.put_element.Goals as goal

pub write_along-requires-clause-ring : goal.write_along-requires-clause-ring
write_along-requires-clause-ring g c = omega (arith, (head_sound c.args.head).fits, c.requires.sized, c.end_place-end.ensures.ring)

pub write_along-requires-2-clause-ring : goal.write_along-requires-2-clause-ring
write_along-requires-2-clause-ring g c =
    omega (arith, (head_sound c.args.head).fits, c.requires.sized, c.in_ok-write_along.ensures.does.0.size, c.end_place-end.ensures.ring, c.behind.ensures.ring)

pub returns-in_err-write_along : goal.returns-in_err-write_along
unfolding four
returns-in_err-write_along g c =
    let m = g.S.Storage.means in
    let did = g.S.Storage.did in
    let h = c.args.head in
    let b = c.args.bytes.now in
    let s = c.args.s.now in
    let t = c.write_along.new.s in
    let ring = h.header.ring in
    let at = place 16 ring (end_position 16 h.header h.used) in
    let e = c.end_place-end.ensures in
    let f = c.in_err-write_along.field-0.0 in
    let d = c.in_err-write_along.ensures in
    let field = c.to_be_bytes-field.ensures in
    let p = err_from_is_err_and c.from_residual.result c.from_residual.ensures.1 in
    rw (p.1, p.2) (record {
      in_order = d.in_order;
      does = field_cut h b c.requires.room (m s) (m t) f (lay_at c.end_place-end.result ring at c.to_be_bytes-field.result (four (length b)) (m s) (m t) (Err f) e.ring e.at field d.does);
      calls = made_front did (Unit {0}) (Unit {0}) (pieces ring at (four (length b))) _ f s t (pieces_at did c.end_place-end.result ring at c.to_be_bytes-field.result (four (length b)) s t (Err f) e.ring e.at field d.calls);
    })

pub returns-in_err-write_along-2 : goal.returns-in_err-write_along-2
unfolding four
returns-in_err-write_along-2 g c =
    let m = g.S.Storage.means in
    let did = g.S.Storage.did in
    let h = c.args.head in
    let b = c.args.bytes.now in
    let s = c.args.s.now in
    let t = c.write_along.new.s in
    let u = c.write_along-2.new.s in
    let ring = h.header.ring in
    let end = end_position 16 h.header h.used in
    let at = place 16 ring end in
    let behind = place 16 ring (end + 4) in
    let e = c.end_place-end.ensures in
    let there : c.behind.result.at ≡ behind = c.behind.ensures.at ∙ ap (λ (z : ℕ). place 16 z (c.end_place-end.result.at + 4)) e.ring ∙ ap (λ (q : ℕ). place 16 ring (q + 4)) e.at ∙ behind_end h 4 (omega (arith, c.requires.room)) in
    let far : c.behind.result.ring ≡ ring = c.behind.ensures.ring ∙ e.ring in
    let field = c.to_be_bytes-field.ensures in
    let f = c.in_err-write_along-2.field-0.0 in
    let x = c.in_ok-write_along.ensures in
    let d = c.in_err-write_along-2.ensures in
    let first = lay_at {G = Unit {0}} c.end_place-end.result ring at c.to_be_bytes-field.result (four (length b)) (m s) (m t) (Ok tt) e.ring e.at field x.does in
    let p = err_from_is_err_and c.from_residual-in_err-write_along-2.result c.from_residual-in_err-write_along-2.ensures.1 in
    rw (p.1, p.2) (record {
      in_order = d.in_order;
      does = bytes_cut h b c.requires.room (m s) (m t) (m u) first.0 f (lay_at c.behind.result ring behind b b (m t) (m u) (Err f) far there refl d.does);
      calls = made_behind did {A = Unit {0}} {B = Unit {0}} (pieces ring at (four (length b))) _ tt (Err f) s t u
          (pieces_at did c.end_place-end.result ring at c.to_be_bytes-field.result (four (length b)) s t (Ok tt) e.ring e.at field x.calls)
          (made_front did (Unit {0}) (Unit {0}) (pieces ring behind b) (Syncing ∷ []) f t u (pieces_at did c.behind.result ring behind b b t u (Err f) far there refl d.calls));
    })

pub returns : goal.returns
unfolding four
returns g c =
    let m = g.S.Storage.means in
    let did = g.S.Storage.did in
    let h = c.args.head in
    let b = c.args.bytes.now in
    let s = c.args.s.now in
    let t = c.write_along.new.s in
    let u = c.write_along-2.new.s in
    let v = c.sync_inside.new.s in
    let r = c.sync_inside.result in
    let ring = h.header.ring in
    let end = end_position 16 h.header h.used in
    let at = place 16 ring end in
    let behind = place 16 ring (end + 4) in
    let e = c.end_place-end.ensures in
    let there : c.behind.result.at ≡ behind = c.behind.ensures.at ∙ ap (λ (z : ℕ). place 16 z (c.end_place-end.result.at + 4)) e.ring ∙ ap (λ (q : ℕ). place 16 ring (q + 4)) e.at ∙ behind_end h 4 (omega (arith, c.requires.room)) in
    let far : c.behind.result.ring ≡ ring = c.behind.ensures.ring ∙ e.ring in
    let field = c.to_be_bytes-field.ensures in
    let x = c.in_ok-write_along.ensures in
    let y = c.in_ok-write_along-2.ensures in
    let first = lay_at {G = Unit {0}} c.end_place-end.result ring at c.to_be_bytes-field.result (four (length b)) (m s) (m t) (Ok tt) e.ring e.at field x.does in
    let second = lay_at {G = Unit {0}} c.behind.result ring behind b b (m t) (m u) (Ok tt) far there refl y.does in
    record {
      in_order = c.sync_inside.ensures.in_order;
      does = element_synced h b c.requires.room (m s) (m t) (m u) first.0 (m v) r first.1 second.0 second.1 c.sync_inside.ensures.does;
      calls = made_behind did {A = Unit {0}} (pieces ring at (four (length b))) _ tt r s t v
          (pieces_at did c.end_place-end.result ring at c.to_be_bytes-field.result (four (length b)) s t (Ok tt) e.ring e.at field x.calls)
          (made_behind did {A = Unit {0}} (pieces ring behind b) (Syncing ∷ []) tt r t u v (pieces_at did c.behind.result ring behind b b t u (Ok tt) far there refl y.calls) (made_one did Syncing r u v c.sync_inside.ensures.did));
    }
