use Rattle.std.proofs.Common.{◌≡◌, length, sym, ◌∙◌, arith}
use Rattle.std.proofs.lemmas.List.{nil_from_length}
use Rattle.std.proofs.lemmas.Bool.{eqb-true}
use Rattle.storage.specs.Calls.{Reading}
use Rattle.storage.proofs.Answering.{still_self}
use Rattle.storage.proofs.Traces.{asked_one, asked_wider}
use Rattle.ring.specs.Bytes.{stretch}
use Rattle.ring.specs.Ring.{along}
use Rattle.ring.proofs.Stretches.{length_stretch}
use Rattle.card.specs.Reads.{ReadsUpTo}
use Rattle.card.proofs.Pieces.{one_piece, around}
use Rattle.card.proofs.reads.read_along.Goals as goal

pub returns-then-is_empty-clause-does : goal.returns-then-is_empty-clause-does
returns-then-is_empty-clause-does g c =
    let s = c.args.s.now in
    let buf = c.args.buf.now in
    let none : length buf ≡ 0 = eqb-true (length buf) 0 (sym c.if-is_empty.ensures) in
    let f = along 16 c.args.place.ring (g.S.Storage.means s).visible in
    (still_self (g.S.Storage.means s), nil_from_length buf none ∙ sym (nil_from_length (stretch f c.args.place.at (length buf)) (length_stretch f c.args.place.at (length buf) ∙ none)))

pub returns-else-is_err-clause-does : goal.returns-else-is_err-clause-does
returns-else-is_err-clause-does g c =
    let m = g.S.Storage.means in
    let s = c.args.s.now in
    let p = c.args.place in
    around g.row.S-Gone.Denot p.ring p.at c.room-room.result c.args.buf.now c.read_two-read.new.buf (m s) (m c.read_two-read.new.s) c.read_two-read.result (sym c.if-is_err.ensures.value) c.room-room.ensures (g.met.S.Storage.lawful s c.requires.in_order) c.requires.ring p.to (omega arith) c.requires.once c.read_two-read.ensures.does

pub returns-then-buf-room : goal.returns-then-buf-room
returns-then-buf-room g c =
    let did = g.S.Storage.did in
    let m = g.S.Storage.means in
    let s = c.args.s.now in
    let t = c.read_inside.new.s in
    let buf = c.args.buf.now in
    let r = c.read_inside.result in
    record {
      in_order = c.read_inside.ensures.in_order;
      does = one_piece c.args.place.ring c.args.place.at buf c.read_inside.new.buf (m s) (m t) r (g.met.S.Storage.lawful s c.requires.in_order) c.requires.ring (omega arith) (omega arith) c.read_inside.ensures.does;
      calls = asked_wider did (ReadsUpTo (length buf)) 1 2 r s t (omega arith) (asked_one did (ReadsUpTo (length buf)) (Reading c.args.place.at (length buf)) r s t (omega arith) c.read_inside.ensures.did);
    }
