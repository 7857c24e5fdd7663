use Rattle.std.proofs.Common.{◌-◌}
use Rattle.adding.proofs.Copying.{Copied}
use Rattle.adding.proofs.copy.copy_out.Given as goal

abbrev pub invariant-loop-done : goal.invariant-loop-done
invariant-loop-done g l = Copied g.S.Storage.means g.S.Storage.did l.ring l.n l.done l.fn.s l.s

abbrev pub decreases-loop-done : goal.decreases-loop-done
decreases-loop-done g l = l.n - l.done
