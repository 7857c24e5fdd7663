use Rattle.std.proofs.Common.{◌≡◌, ℕ, List, [], sym, refl, ◌∙◌, subst, arith}
use Rattle.ring.specs.Reading.{Records, reading_of}
use Rattle.ring.specs.Steps.{cleared}
use Rattle.ring.proofs.Soundness.{empty_sound}
use Rattle.ring.proofs.Removing.{clear_law}
use Rattle.card.proofs.erase.erase.Goals as goal

pub invariant_of-result : goal.invariant_of-result
invariant_of-result g c =
    let law = g.met.S.Storage.lawful c.args.s.now c.requires in
    let same : c.size.result ≡ (g.S.Storage.means c.args.s.now).size = c.size.ensures ∙ c.in_ok-put_header.ensures.does.served.size in
    record {
      sound = empty_sound 16 c.size.result (omega (arith, law.sized.least)) (omega (arith, law.sized.most));
      room = omega arith;
      least = omega arith;
      bare = λ _. refl;
    }

pub returns-clause-does : goal.returns-clause-does
unfolding cleared
returns-clause-does g c =
    let m = g.S.Storage.means c.args.s.now in
    let law = g.met.S.Storage.lawful c.args.s.now c.requires in
    let d = c.in_ok-put_header.ensures in
    let reads : reading_of (cleared m.visible) ≡ Records [] = clear_law m.visible (omega (arith, law.long, law.sized.least)) (omega (arith, law.long, law.sized.most)) in
    record {
      served = d.does.served;
      visible = d.does.visible;
      only = d.does.only;
      reads = subst (λ (b : List ℕ). reading_of b ≡ Records []) (sym d.does.visible) reads;
      size_is = c.size.ensures ∙ d.does.served.size;
      header_is = refl;
      used_is = refl;
    }
