use Rattle.std.proofs.Common.{◌≡◌, ◌≤◌, ℕ, List, length, get_or, Ok, Err, ap, ◌∙◌, zero-add, arith}
use Rattle.std.proofs.lemmas.Result.{err_from_is_err_and}
use Rattle.std.proofs.lemmas.Option.{MatchOption-at_some}
use Rattle.storage.specs.Cells.{part}
use Rattle.storage.specs.Calls.{Reading}
use Rattle.storage.proofs.Lists.{part_at}
use Rattle.storage.proofs.Answering.{still_read}
use Rattle.storage.proofs.Traces.{asked_one}
use Rattle.ring.specs.declared.header.Header.{Header}
use Rattle.ring.specs.Headers.{header_of}
use Rattle.ring.proofs.Numbers.{header_same}
use Rattle.card.specs.Reads.{ReadsUpTo}
use Rattle.card.proofs.header.read_header.Goals as goal

pub returns-in_err-read_inside-clause-calls : goal.returns-in_err-read_inside-clause-calls
returns-in_err-read_inside-clause-calls g c =
    let m = g.S.Storage.means in
    let s = c.args.s.now in
    let t = c.read_inside.new.s in
    let d = c.in_err-read_inside.ensures in
    let p = err_from_is_err_and c.from_residual.result c.from_residual.ensures.1 in
    rw (p.1, p.2) (asked_one g.S.Storage.did (ReadsUpTo 16) {A = Header} (Reading 0 16) (Err c.in_err-read_inside.field-0.0) s t (omega arith) d.did)

pub returns : goal.returns
returns g c =
    let m = g.S.Storage.means in
    let s = c.args.s.now in
    let t = c.read_inside.new.s in
    let cell = c.read_inside.new.buf in
    let d = c.in_ok-read_inside.ensures in
    let b = (m s).visible in
    let long : length cell ≡ 16 = omega arith in
    let h = MatchOption-at_some _ (λ h. (16 ≤ length cell) × (h ≡ header_of cell)) c.unwrap.result c.unwrap.ensures c.parse.ensures in
    record {
      in_order = d.in_order;
      does = (
        still_read 0 cell (m s) (m t) d.does,
        h.1 ∙ header_same cell b (λ i l. ap (λ (x : List ℕ). get_or x i 0) (d.does.got ∙ ap (λ (k : ℕ). part 0 k b) long) ∙ part_at 0 16 b i l ∙ ap (λ (k : ℕ). get_or b k 0) (zero-add i)),
      );
      calls = asked_one g.S.Storage.did (ReadsUpTo 16) {A = Header} (Reading 0 16) (Ok c.unwrap.result) s t (omega arith) d.did;
    }
