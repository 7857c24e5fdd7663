use Rattle.std.proofs.Common.{◌≡◌}
use Rattle.card.proofs.Reaching.{Reach}
use Rattle.card.proofs.survey.walk_through.Given as goal

abbrev pub invariant-loop : goal.invariant-loop
invariant-loop g l = record {
  turn : l.walk.passed ≡ l.counter;
  reach : Reach g.S.Storage.means g.S.Storage.did l.fn.s l.s l.fn.walk l.walk;
}
