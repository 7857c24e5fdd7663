use Rattle.std.proofs.Common.{refl}
use Rattle.std.proofs.lemmas.Bool.{both_ways}
use Rattle.cache.proofs.cache.Cache.settle.Goals as goal

pub returns-clause-did : goal.returns-clause-did
returns-clause-did g c = rw (c.told.ensures.same, c.told.ensures.flag) (record {
  told = λ t. absurd (both_ways c.args.self.now.gone c.if-self.false t);
  flushed = λ _. c.settle-answer.ensures.did;
  flag = refl;
})
