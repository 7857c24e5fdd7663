use Rattle.std.proofs.Common.{◌≡◌, ℕ, List, length, Err, ap, ◌∙◌, subst}
use Rattle.std.proofs.lemmas.Result.{err_from_is_err_and}
use Rattle.card.specs.Headers.{OnPut}
use Rattle.ring.proofs.HeaderWrites.{length_cell}
use Rattle.card.proofs.Putting.{put_ended, put_synced}
use Rattle.card.proofs.header.put_header.Goals as goal

pub returns-in_err-write_inside-clause-does : goal.returns-in_err-write_inside-clause-does
returns-in_err-write_inside-clause-does g c =
    let m = g.S.Storage.means in
    let s = c.args.s.now in
    let t = c.write_inside.new.s in
    let x = c.cell.result in
    let e = c.cell.ensures in
    let d = c.in_err-write_inside.ensures in
    let long : length x ≡ 16 = ap length e ∙ length_cell c.args.header in
    let p = err_from_is_err_and c.from_residual.result c.from_residual.ensures.1 in
    let f = c.in_err-write_inside.field-0.0 in
    rw p.1 (subst (λ (y : List ℕ). OnPut y (m s) (m t) (Err f)) e (put_ended x (m s) (m t) (g.met.S.Storage.lawful s c.requires) long d.does))

pub returns-clause-does : goal.returns-clause-does
returns-clause-does g c =
    let m = g.S.Storage.means in
    let did = g.S.Storage.did in
    let s = c.args.s.now in
    let t = c.write_inside.new.s in
    let u = c.sync_inside.new.s in
    let x = c.cell.result in
    let e = c.cell.ensures in
    let d = c.in_ok-write_inside.ensures in
    let r = c.sync_inside.result in
    let long : length x ≡ 16 = ap length e ∙ length_cell c.args.header in
    subst (λ (y : List ℕ). OnPut y (m s) (m u) r) e (put_synced x (m s) (m t) (m u) r (g.met.S.Storage.lawful s c.requires) long d.does c.sync_inside.ensures.does)
