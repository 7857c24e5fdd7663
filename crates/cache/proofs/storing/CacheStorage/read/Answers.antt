use Rattle.std.proofs.Common.{◌+◌, ◌≤◌, Bool, length, sym, subst, arith, rules}
use Rattle.cache.specs.Chains.{ReadStep}
use Rattle.cache.specs.Holding.{Holding}
use Rattle.cache.proofs.Holding.{holding, lifted_ok, read_step}
use Rattle.cache.proofs.storing.CacheStorage.read.Goals as goal

pub returns-clause-did : goal.returns-clause-did
returns-clause-did g c =
    let s = c.args.self.now.inner in
    let e = c.read_inside.new.self.inner in
    let r = c.read_inside.result in
    let d = c.read_inside.ensures.did in
    let n = length c.args.buf.now in
    let fits : c.args.offset + n ≤ (g.S.Storage.means s.below).size = search rules in
    record {
      past = λ past. absurd (omega arith);
      within = λ _. (r, d, c.lift.ensures);
      holding = λ _ untold some.
          subst (λ (b : Bool). Holding c.args.offset n b s e) (sym (lifted_ok c.args.offset r c.lift.result c.lift.ensures))
          (holding g.S.Storage.did g.S.Storage.means (ReadStep g.S.Storage.did g.S.Storage.means) c.args.offset n some (λ q e z lo. read_step g.S.Storage.did g.S.Storage.means q e z)
          s c.requires.some_lines (omega (arith, c.requires.few_lines, c.requires.slots_long)) r e (d.some untold some));
    }
