use Rattle.ring.proofs.Adding.{add_law}
use Rattle.ring.proofs.Removing.{remove_law, clear_law}
use Rattle.ring.proofs.Growing.{grow_law}
use Rattle.ring.proofs.Keeping.{keep_law, free_law, behind_law}
use Rattle.ring.proofs.RingLengths.{largest_law, grown_law}
use Rattle.ring.proofs.steps.step_laws.Goals as goal

pub returns : goal.returns
returns c = record {
  add = add_law;
  remove = remove_law;
  clear = clear_law;
  grow = grow_law;
  keep = keep_law;
  free = free_law;
  behind = behind_law;
  largest = largest_law;
  grown = grown_law;
}
