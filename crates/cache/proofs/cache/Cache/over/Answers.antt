use Rattle.std.proofs.Common.{ℕ, ◌<◌, ◌≤◌, List, replicate, refl, rules}
use Rattle.std.proofs.lemmas.List.{length-replicate}
use Rattle.cache.specs.declared.line.Line.TheVariants.{Empty}
use Rattle.cache.specs.declared.slot.Slot.{Slot}
use Rattle.cache.proofs.Fresh.{all_empty, all_bytes, fresh_order, fresh_visible}
use Rattle.cache.proofs.cache.Cache.over.Goals as goal

pub returns : goal.returns
returns g c =
    let n = c.args.lines in
    let m = g.S.Storage.means c.args.below in
    let some : 0 < n = search rules in
    let few : n ≤ 16 = search rules in
    let b : List ℕ = replicate 512 0 in
    let slots : List Slot = replicate 16 (record { line = Empty; bytes = b }) in
    let long = all_bytes 16 b (length-replicate {A = ℕ} 512 0) in
    record {
      few = (some, few);
      below = refl;
      lines = refl;
      empty = all_empty 16 b;
      untold = refl;
      in_order = fresh_order slots n m (all_empty 16 b) refl long some few c.requires;
      visible = fresh_visible slots n m (all_empty 16 b) refl long some few c.requires;
    }
