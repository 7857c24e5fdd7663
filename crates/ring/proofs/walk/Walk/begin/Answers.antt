use Rattle.std.proofs.Common.{sym, refl, arith}
use Rattle.ring.proofs.Soundness.{sound_least}
use Rattle.ring.proofs.walk.Walk.begin.Goals as goal

pub invariant_of-result : goal.invariant_of-result
invariant_of-result c =
    let h = c.args.header in
    let s = sym c.if-not-is_sound.ensures in
    record {
      sound = s;
      few = omega arith;
      room = omega (arith, sound_least 16 c.args.size h.ring h.count h.first h.last s);
      least = omega arith;
      bare = λ _. refl;
    }
