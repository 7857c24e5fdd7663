use Rattle.std.proofs.Common.{ℕ, ◌≤◌, ◌<◌, ◌*◌, ◌^◌, ◌%◌, arith, rules, ap, ◌∙◌}
use Rattle.std.proofs.lemmas.Iterator.{first_from_Range}
use borrow.Author.Tests.{tests}
use Rattle.ring.proofs.RingLengths.{to_found}
use Rattle.ring.proofs.steps.grown_length.Goals as goal

pub overflow_shl-result : goal.overflow_shl-result
overflow_shl-result c =
    let f = first_from_Range _ _ _ _ (λ i. c.args.need ≤ c.args.ring * 2 ^ i % 2 ^ 64) (λ i. c.args.ring * 2 ^ i % 2 ^ 64 < c.args.need) c.find-doublings.ensures.ran (λ x q k. search (rules, tests)) (λ x q k. search (rules, tests)) in
    omega (arith, c.unwrap_or.ensures, (to_found c.args.ring c.args.need c.find-doublings.result (omega arith) f).0)

pub returns : goal.returns
returns c =
    let f = first_from_Range _ _ _ _ (λ i. c.args.need ≤ c.args.ring * 2 ^ i % 2 ^ 64) (λ i. c.args.ring * 2 ^ i % 2 ^ 64 < c.args.need) c.find-doublings.ensures.ran (λ x q k. search (rules, tests)) (λ x q k. search (rules, tests)) in
    ap (λ (n : ℕ). c.args.ring * 2 ^ n % 2 ^ 64) c.unwrap_or.ensures ∙ (to_found c.args.ring c.args.need c.find-doublings.result (omega arith) f).1
