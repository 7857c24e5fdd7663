-- A partition: a part of the storage below, as a storage of its own.
--   partition_name      the name in its faults
--   means_of            what a partition means, from what the storage below means
--   Over s b n p        p is the part of n bytes from offset b on of s, which it fits, and in order
--   OnOver              what a mount gave: a partition of the storage exactly where the part fits
--                       it, or else that storage back
--   MadeBelow           the call was made below, moved to the part, and the answer is the one
--                       from below, its fault carried whole
--   PartDid             what a partition did: a range past its size it refused itself and changed
--                       nothing; any other call it made below; outside the part nothing changed
--   Sets                the life was set below, and the partition covers what it covered
use Rattle.std.specs.Prelude.{◌≡◌, ℕ, ◌<◌, ◌≤◌, List, Ok, Err, codes, Result}
use Rattle.storage.specs.declared.refusal.BadMount.{BadMount}
use Rattle.storage.specs.declared.refusal.LayerFault.{LayerFault}
use Rattle.storage.specs.declared.refusal.Link.{Link}
use Rattle.storage.specs.Cells.{part}
use Rattle.storage.specs.Refusals.{Answer}
use Rattle.storage.specs.Meaning.{Meaning}
use Rattle.storage.specs.Calls.{Call, offset_of}
use Rattle.storage.specs.Layers.{Declined, Lifted}
use Rattle.partition.specs.declared.Partition.{Partition}
use Rattle.partition.specs.Parts.{Fits, Frame, part_means, moved, end_of}

abbrev pub partition_name : List ℕ
partition_name = codes "partition"

abbrev pub means_of : {S : Type 0} → (S → Meaning) → Partition S → Meaning
means_of means p = part_means p.base p.size (means p.below)

pub record Over {S : Type 0} (means : S → Meaning) (s : S) (b n : ℕ) (p : Partition S) : Type 0 where
  pub fits : Fits b n (means s)
  pub made : p ≡ record { below = s; base = b; size = n }
  pub in_order : (means_of means p).in_order
  pub visible : (means_of means p).visible ≡ part b n (means s).visible

abbrev pub OnOver : {S : Type 0} → (S → Meaning) → S → ℕ → ℕ → Result (Partition S) (BadMount S) → Type 0
OnOver means s b n (Ok p) = Over means s b n p
OnOver means s b n (Err e) = (Fits b n (means s) → ⊥) × (e.given ≡ s)

module _ {S O G : Type 0} (means : S → Meaning) (did : S → Call → Answer O G → S → Type 0) (p : Partition S) (call : Call) (r : Answer Link (LayerFault G)) (q : Partition S) where
  pub record MadeBelow : Type 0 where
    pub answer : Answer O G
    pub made : did p.below (moved p.base call) answer q.below
    pub lifted : Lifted partition_name (offset_of call) answer r

  pub record PartDid : Type 0 where
    pub base : q.base ≡ p.base
    pub size : q.size ≡ p.size
    pub outside : p.size < end_of call → (q ≡ p) × Declined partition_name (offset_of call) r
    pub inside : end_of call ≤ p.size → MadeBelow
    pub frame : Frame p.base p.size (means p.below) (means q.below)

pub record Sets {S : Type 0} (sets : S → ℕ → S → Type 0) (p : Partition S) (n : ℕ) (q : Partition S) : Type 0 where
  pub base : q.base ≡ p.base
  pub size : q.size ≡ p.size
  pub below : sets p.below n q.below
