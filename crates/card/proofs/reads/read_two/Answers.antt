use Rattle.std.proofs.Common.{◌≡◌, ◌-◌, ◌≤◌, ◌++◌, length, take, drop, Ok, Err, arith, length-append, length-drop, length-take}
use Rattle.std.proofs.lemmas.Result.{err_from_is_err_and}
use Rattle.storage.specs.Calls.{Reading}
use Rattle.storage.proofs.Traces.{asked_one, asked_then, asked_wider}
use Rattle.card.specs.Reads.{ReadsUpTo}
use Rattle.card.proofs.Pieces.{two_pieces, filled}
use Rattle.card.proofs.reads.read_two.Goals as goal

pub returns-in_err-read_inside-clause-calls : goal.returns-in_err-read_inside-clause-calls
returns-in_err-read_inside-clause-calls g c =
    let did = g.S.Storage.did in
    let m = g.S.Storage.means in
    let s = c.args.s.now in
    let t = c.read_inside.new.s in
    let buf = c.args.buf.now in
    let n = c.args.room in
    let e = c.in_err-read_inside.field-0.0 in
    let d = c.in_err-read_inside.ensures in
    let p = err_from_is_err_and c.from_residual.result c.from_residual.ensures.1 in
    let fits : length (take (n - 0) buf) ≤ length buf = omega (arith, length-take (n - 0) buf) in
    rw (p.1, p.2) (asked_wider did (ReadsUpTo (length buf)) {A = Unit {0}} 1 2 (Err e) s t (omega arith) (asked_one did (ReadsUpTo (length buf)) {A = Unit {0}} (Reading c.args.at (length (take (n - 0) buf))) (Err e) s t fits d.did))

pub returns : goal.returns
returns g c =
    let did = g.S.Storage.did in
    let m = g.S.Storage.means in
    let s = c.args.s.now in
    let t = c.read_inside.new.s in
    let u = c.read_inside-2.new.s in
    let buf = c.args.buf.now in
    let n = c.args.room in
    let front = c.read_inside.new.buf in
    let rest = drop (n - 0) buf in
    let back = c.read_inside-2.new.buf in
    let d = c.in_ok-read_inside.ensures in
    let lf : length front ≡ n = omega (arith, length-take (n - 0) buf) in
    let lr = length-drop (n - 0) buf in
    let all = length-append front rest in
    let back-old = take (length (front ++ rest) - n) (drop n (front ++ rest)) in
    let lo : length back-old ≡ length buf - n = omega (arith, length-take (length (front ++ rest) - n) (drop n (front ++ rest)), length-drop n (front ++ rest)) in
    let lb : length back ≡ length back-old = omega arith in
    let r = c.read_inside-2.result in
    let P = ReadsUpTo (length buf) in
    record {
      in_order = c.read_inside-2.ensures.in_order;
      does = two_pieces c.args.at n buf front back-old back _ (m s) (m t) (m u) r lf lo lb (filled n front rest back lf (omega arith)) d.does c.read_inside-2.ensures.does;
      calls = asked_then did P {A = Unit {0}} 1 1 tt r s t u
          (asked_one did P {A = Unit {0}} (Reading c.args.at (length (take (n - 0) buf))) (Ok tt) s t (omega (arith, length-take (n - 0) buf)) d.did)
          (asked_one did P (Reading 16 (length back-old)) r t u (omega arith) c.read_inside-2.ensures.did);
    }
