use Rattle.std.proofs.Common.{◌≡◌, sym, ap, ◌∙◌, arith, rules}
use Rattle.std.proofs.lemmas.Bool.{leb-false}
use Rattle.std.proofs.lemmas.Result.{err_from_is_err_and}
use Rattle.storage.proofs.Answering.{still_self}
use Rattle.ring.specs.Bytes.{number}
use Rattle.ring.specs.Ring.{along}
use Rattle.ring.specs.Reading.{BrokenRecord}
use Rattle.ring.proofs.Walks.{walk_sound, rest_full, rest_broken}
use Rattle.card.specs.Surveys.{ring_bytes}
use Rattle.card.proofs.Stepping.{step_ok, length_read, nexted}
use Rattle.card.proofs.survey.pass_next.Goals as goal

pub returns-then-not-has_room-clause-does : goal.returns-then-not-has_room-clause-does
returns-then-not-has_room-clause-does g c =
    let m = g.S.Storage.means in
    let s = c.args.s.now in
    let k = c.args.walk.now in
    (still_self (m s), rest_full (ring_bytes k (m s)) k (omega arith) (leb-false _ _ (sym c.if-not-has_room.ensures)) ∙ ap BrokenRecord (sym c.next_place-place.ensures.at))

pub read_number-requires-clause-ring : goal.read_number-requires-clause-ring
read_number-requires-clause-ring g c = omega (arith, (walk_sound c.args.walk.now).fits, c.requires.sized, c.next_place-place.ensures.ring)

pub returns-in_err-pass-clause-does : goal.returns-in_err-pass-clause-does
returns-in_err-pass-clause-does g c =
    let m = g.S.Storage.means in
    let s = c.args.s.now in
    let t = c.read_number.new.s in
    let k = c.args.walk.now in
    let at = c.next_place-place.ensures in
    let p = c.next_place-place.result in
    let d = step_ok (λ n. n ≡ number (along 16 p.ring (m s).visible) p.at) (m s) (m t) c.read_number.result c.in_ok-n.n c.read_number.ensures.does (search rules) in
    let n = length_read k p (m s).visible c.in_ok-n.n c.requires.more (sym c.if-not-has_room.ensures) at.ring at.at d.1 in
    let e = err_from_is_err_and c.from_residual-in_err-pass.result c.from_residual-in_err-pass.ensures.1 in
    rw (e.1, e.2) (d.0, rest_broken (ring_bytes k (m s)) k (omega arith) c.in_ok-n.n _ c.pass.new.self n c.in_err-pass.ensures)

pub returns-clause-does : goal.returns-clause-does
returns-clause-does g c =
    let m = g.S.Storage.means in
    let s = c.args.s.now in
    let t = c.read_number.new.s in
    let k = c.args.walk.now in
    let at = c.next_place-place.ensures in
    let p = c.next_place-place.result in
    let d = step_ok (λ n. n ≡ number (along 16 p.ring (m s).visible) p.at) (m s) (m t) c.read_number.result c.in_ok-n.n c.read_number.ensures.does (search rules) in
    let n = length_read k p (m s).visible c.in_ok-n.n c.requires.more (sym c.if-not-has_room.ensures) at.ring at.at d.1 in
    (d.0, nexted (ring_bytes k (m s)) k c.pass.new.self c.in_ok-n.n n c.in_ok-pass.ensures)
