use Rattle.std.proofs.Common.{◌≡◌, ℕ, ◌+◌, ◌-◌, ◌<◌, ◌≤◌, List, [], length, take, drop, Err, sym, ap, ◌∙◌, subst, arith}
use Rattle.std.proofs.lemmas.List.{nil_from_length, take_rest}
use Rattle.std.proofs.lemmas.Bool.{eqb-true}
use Rattle.std.proofs.lemmas.Result.{err_from_is_err_and}
use Rattle.storage.specs.Calls.{WriteDone}
use Rattle.storage.specs.Inside.{OnWriteInside}
use Rattle.adding.specs.Writes.{Apart}
use Rattle.adding.proofs.Going.{went_self}
use Rattle.adding.proofs.Laying.{lay_none, lay_one, lay_front, lay_two}
use Rattle.adding.proofs.writes.write_along.Goals as goal

pub returns-then-is_empty-clause-does : goal.returns-then-is_empty-clause-does
returns-then-is_empty-clause-does g c =
    let m = g.S.Storage.means in
    let s = c.args.s.now in
    let b = c.args.bytes.now in
    let none : b ≡ [] = nil_from_length b (eqb-true (length b) 0 (sym c.if-is_empty.ensures)) in
    (went_self (Apart c.args.place.ring c.args.place.at (length b)) (m s), sym (lay_none c.args.place.ring c.args.place.at b (m s).visible c.args.place.to none))

pub returns-then-bytes-room-clause-does : goal.returns-then-bytes-room-clause-does
returns-then-bytes-room-clause-does g c =
    let m = g.S.Storage.means in
    let s = c.args.s.now in
    let t = c.write_inside.new.s in
    let b = c.args.bytes.now in
    let r = c.write_inside.result in
    let ring = c.args.place.ring in
    let at = c.args.place.at in
    let fits : at + length b ≤ ring = omega arith in
    lay_one ring at b c.args.place.from c.args.place.to (m s) (m t) r fits c.write_inside.ensures.does

pub returns-in_err-write_inside-clause-does : goal.returns-in_err-write_inside-clause-does
returns-in_err-write_inside-clause-does g c =
    let m = g.S.Storage.means in
    let s = c.args.s.now in
    let t = c.write_inside-2.new.s in
    let b = c.args.bytes.now in
    let ring = c.args.place.ring in
    let at = c.args.place.at in
    let cross : ring < at + length b = omega arith in
    let e = c.in_err-write_inside.field-0.0 in
    let zero : c.room-room.result - 0 ≡ ring - at = omega (arith, c.room-room.ensures) in
    let d = c.in_err-write_inside.ensures in
    let p = err_from_is_err_and c.from_residual.result c.from_residual.ensures.1 in
    rw p.1 (lay_front ring at b c.args.place.from c.args.place.to cross c.requires.once (m s) (m t) e (subst (λ (k : ℕ). OnWriteInside at (take k b) (m s) (m t) (Err e)) zero d.does))

pub returns-clause-does : goal.returns-clause-does
returns-clause-does g c =
    let m = g.S.Storage.means in
    let s = c.args.s.now in
    let t = c.write_inside-2.new.s in
    let u = c.write_inside-3.new.s in
    let b = c.args.bytes.now in
    let ring = c.args.place.ring in
    let at = c.args.place.at in
    let n = ring - at in
    let r = c.write_inside-3.result in
    let cross : ring < at + length b = omega arith in
    let zero : c.room-room.result - 0 ≡ n = omega (arith, c.room-room.ensures) in
    let rest : _ ≡ drop n b = take_rest b c.room-room.result ∙ ap (λ (k : ℕ). drop k b) c.room-room.ensures in
    let d = c.in_ok-write_inside.ensures in
    let front : WriteDone at (take n b) (m s) (m t) = subst (λ (k : ℕ). WriteDone at (take k b) (m s) (m t)) zero d.does in
    let back : OnWriteInside 16 (drop n b) (m t) (m u) r = subst (λ (x : List ℕ). OnWriteInside 16 x (m t) (m u) r) rest c.write_inside-3.ensures.does in
    lay_two ring at b c.args.place.from c.args.place.to cross c.requires.once (m s) (m t) (m u) r front back
