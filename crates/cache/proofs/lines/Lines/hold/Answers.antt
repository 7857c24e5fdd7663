use Rattle.std.proofs.Common.{◌≡◌, ◌%◌, Bool, false, Ok, Err, sym, refl, subst, inr, rules}
use Rattle.std.proofs.lemmas.Result.{err_from_is_err_and}
use Rattle.cache.specs.Lines.{held, line}
use Rattle.cache.specs.Steps.{TakesBy}
use Rattle.cache.proofs.lines.Lines.hold.Goals as goal

pub returns-in_err-fetch-clause-did : goal.returns-in_err-fetch-clause-did
returns-in_err-fetch-clause-did g c =
    let s = c.args.self.now in
    let missed : held (line s.slots (c.args.s % s.lines)) c.args.s ≡ false = search rules in
    let p = err_from_is_err_and c.from_residual-in_err-fetch.result c.from_residual-in_err-fetch.ensures.1 in
    rw (p.1, p.2) (subst (λ (h : Bool). TakesBy g.S.Storage.did g.S.Storage.means h s c.args.s (Err c.in_err-fetch.field-0.0) c.fetch.new.self) (sym missed)
    (inr (c.evict.new.self, c.in_ok-evict.ensures.did, c.in_err-fetch.ensures.did)))

pub returns-clause-did : goal.returns-clause-did
returns-clause-did g c =
    let s = c.args.self.now in
    let missed : held (line s.slots (c.args.s % s.lines)) c.args.s ≡ false = search rules in
    subst (λ (h : Bool). TakesBy g.S.Storage.did g.S.Storage.means h s c.args.s (Ok (c.args.s % s.lines)) c.fetch.new.self) (sym missed)
    (refl, (c.evict.new.self, c.in_ok-evict.ensures.did, c.in_ok-fetch.ensures.did))
