use Rattle.std.proofs.Common.{◌≡◌, length, Ok, Err, arith}
use Rattle.std.proofs.lemmas.Result.{err_from_is_err_and}
use Rattle.storage.specs.Calls.{Reading, Writing}
use Rattle.storage.proofs.Traces.{asked_one, asked_then, asked_wider}
use Rattle.adding.specs.Copies.{CopyCall}
use Rattle.adding.proofs.copy.copy_through.Goals as goal

pub returns-in_err-read_inside-clause-calls : goal.returns-in_err-read_inside-clause-calls
returns-in_err-read_inside-clause-calls g c =
    let m = g.S.Storage.means in
    let did = g.S.Storage.did in
    let s = c.args.s.now in
    let t = c.read_inside.new.s in
    let old = c.args.buf.now in
    let to = c.args.to in
    let f = c.in_err-read_inside.field-0.0 in
    let d = c.in_err-read_inside.ensures in
    let p = err_from_is_err_and c.from_residual.result c.from_residual.ensures.1 in
    rw (p.1, p.2) (asked_wider did (CopyCall to) {A = Unit {0}} 1 2 (Err f) s t (omega arith) (asked_one did (CopyCall to) {A = Unit {0}} (Reading c.args.from (length old)) (Err f) s t c.requires.few d.did))

pub returns-clause-calls : goal.returns-clause-calls
returns-clause-calls g c =
    let m = g.S.Storage.means in
    let did = g.S.Storage.did in
    let s = c.args.s.now in
    let t = c.read_inside.new.s in
    let u = c.write_inside.new.s in
    let old = c.args.buf.now in
    let buf = c.read_inside.new.buf in
    let to = c.args.to in
    let r = c.write_inside.result in
    let d = c.in_ok-read_inside.ensures in
    let long : length buf ≡ length old = omega arith in
    asked_then did (CopyCall to) {A = Unit {0}} 1 1 tt r s t u
    (asked_one did (CopyCall to) {A = Unit {0}} (Reading c.args.from (length old)) (Ok tt) s t c.requires.few d.did)
    (asked_one did (CopyCall to) (Writing to buf) r t u (omega arith, omega (arith, c.requires.few)) c.write_inside.ensures.did)
