use Rattle.std.proofs.Common.{◌+◌, ◌≤◌, Bool, length, sym, subst, arith, rules}
use Rattle.cache.specs.Chains.{WriteStep}
use Rattle.cache.specs.Holding.{Holding}
use Rattle.cache.proofs.Holding.{holding, lifted_ok, write_step, begins_there}
use Rattle.cache.proofs.storing.CacheStorage.write.Goals as goal

pub returns-clause-did : goal.returns-clause-did
returns-clause-did g c =
    let s = c.args.self.now.inner in
    let e = c.write_inside.new.self.inner in
    let r = c.write_inside.result in
    let d = c.write_inside.ensures.did in
    let n = length c.args.bytes.now in
    let fits : c.args.offset + n ≤ (g.S.Storage.means s.below).size = search rules in
    record {
      past = λ past. absurd (omega arith);
      within = λ _. (r, d, c.lift.ensures);
      holding = λ _ untold some.
          subst (λ (b : Bool). Holding c.args.offset n b s e) (sym (lifted_ok c.args.offset r c.lift.result c.lift.ensures))
          (holding g.S.Storage.did g.S.Storage.means (WriteStep g.S.Storage.did g.S.Storage.means c.args.offset c.args.bytes.now) c.args.offset n some (λ q e z lo. write_step g.S.Storage.did g.S.Storage.means c.args.offset c.args.bytes.now q e z (begins_there c.args.offset q lo))
          s c.requires.some_lines (omega (arith, c.requires.few_lines, c.requires.slots_long)) r e (d.some untold some));
    }
