use Rattle.std.proofs.Common.{◌≡◌, length, drop, ap, ◌∙◌, arith, length-drop, drop-drop}
use Rattle.ring.specs.Headers.{header_of}
use Rattle.ring.proofs.Numbers.{number_drop}
use Rattle.ring.proofs.header.Header.parse.Goals as goal

pub returns-in_err-last : goal.returns-in_err-last
returns-in_err-last c =
    let b = c.args.bytes.now in
    let two = c.in_ok-count.ensures.2 ∙ ap (drop 4) c.in_ok-ring.ensures.2 ∙ drop-drop 4 4 b in
    let three : c.in_ok-first.rest.now ≡ drop 12 b = c.in_ok-first.ensures.2 ∙ ap (drop 4) two ∙ drop-drop 4 8 b in
    rw c.from_residual-in_err-last.ensures (omega (arith, ap length three, length-drop 12 b, c.in_err-last.ensures))

pub returns : goal.returns
unfolding header_of
returns c =
    let b = c.args.bytes.now in
    let e1 = c.in_ok-ring.ensures in
    let e2 = c.in_ok-count.ensures in
    let e3 = c.in_ok-first.ensures in
    let e4 = c.in_ok-last.ensures in
    let two : c.in_ok-count.rest.now ≡ drop 8 b = e2.2 ∙ ap (drop 4) e1.2 ∙ drop-drop 4 4 b in
    let three : c.in_ok-first.rest.now ≡ drop 12 b = e3.2 ∙ ap (drop 4) two ∙ drop-drop 4 8 b in
    let count = e2.1 ∙ number_drop 4 0 b _ e1.2 in
    let first = e3.1 ∙ number_drop 8 0 b _ two in
    let last = e4.1 ∙ number_drop 12 0 b _ three in
    (omega (arith, ap length three, length-drop 12 b, e4.0), λ i. record { ring = e1.1 i; count = count i; first = first i; last = last i })
