use Rattle.std.proofs.Common.{◌≡◌, Ok, Err, rules}
use Rattle.std.proofs.lemmas.Result.{MatchResult-weaker}
use Rattle.adding.specs.declared.refusal.AddRefusal.TheVariants.{Gone}
use Rattle.adding.proofs.Fitting.{told_calls}
use Rattle.adding.proofs.add.add.Goals as goal

pub returns-clause-calls : goal.returns-clause-calls
returns-clause-calls g c =
    let r = c.map_err.result in
    let h = c.args.head in
    told_calls g.S.Storage.did h.header h.used c.args.bytes.now c.args.s.now c.add_fitting.new.s c.add_fitting.result r
    (MatchResult-weaker c.add_fitting.result {P' = λ a. r ≡ Ok a} {Q' = λ f. r ≡ Err (Gone f)} c.map_err.ensures.cases (λ a p. p) (λ f p. search rules)) c.add_fitting.ensures.calls
