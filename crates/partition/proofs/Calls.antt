-- What a call on a part does, from what the call below did.
use Rattle.std.proofs.Common.{◌≡◌, ℕ, ◌+◌, ◌≤◌, true, List, length, Ok, Err, Result, sym, refl, ap, ◌∙◌, subst, arith}
use Rattle.std.proofs.lemmas.Bool.{both_ways}
use Rattle.storage.specs.declared.refusal.LayerFault.{LayerFault}
use Rattle.storage.specs.declared.refusal.Link.{Link}
use Rattle.storage.specs.declared.refusal.Refusal.{Refusal}
use Rattle.storage.specs.declared.refusal.Refusal.TheVariants.{Outside, Gone}
use Rattle.storage.specs.Cells.{laid, part, Partly}
use Rattle.storage.specs.Refusals.{Answer, Step, Told, told}
use Rattle.storage.specs.Meaning.{Meaning, Lawful, Within, Same}
use Rattle.storage.specs.Calls.{Call, offset_of, Arrives, Served, Ended, OnRead, OnWrite, OnSync}
use Rattle.storage.specs.Inside.{OnReadInside, OnWriteInside, OnSyncInside}
use Rattle.storage.specs.Layers.{Lifted, Lifts, lowered}
use Rattle.storage.proofs.Layers.{own, carried, tells_gone}
use Rattle.partition.specs.declared.Partition.{Partition}
use Rattle.partition.specs.Parts.{PartInOrder, part_means, moved, end_of, Agree, Frame}
use Rattle.partition.specs.Partitions.{partition_name, PartDid}
use Rattle.partition.proofs.Bytes.{part_part, part_laid, part_partly, agree_same, agree_laid, agree_partly}

pub still : (b n : ℕ) (m m' : Meaning) → PartInOrder b n m → m'.in_order → m'.size ≡ m.size → PartInOrder b n m'
still b n m m' i o e = record {
  below = o;
  fits = record { aligned = i.fits.aligned; sized = i.fits.sized; ends = omega (arith, i.fits.ends) };
}

module _ (b n : ℕ) (m m' : Meaning) where
  within : Within m' m → Within (part_means b n m') (part_means b n m)
  within w s h = (h.0, w h.0 h.1, h.2)

  served : Served m m' → Served (part_means b n m) (part_means b n m')
  served d = record { lived = d.lived; lives = d.lives; size = refl }

  kept : Same m m' → Same (part_means b n m) (part_means b n m')
  kept d = record {
    size = refl;
    visible = ap (part b n) d.visible;
    lives = d.lives;
    fewer = within d.fewer;
    more = λ s h. (h.0, d.more h.0 h.1, h.2);
  }

  ended : Ended m m' → Ended (part_means b n m) (part_means b n m')
  ended d = record { size = refl; dead = d.dead; already = λ e. kept (d.already e) }

  -- a call that writes nothing
  quiet : (m'.lives ≡ true → m'.visible ≡ m.visible) → Within m' m → Frame b n m m'
  quiet v w = record {
    visible = λ e. agree_same b n m.visible m'.visible (v e);
    stands = λ s h. (s, w s h, agree_same b n s s refl);
  }

  module _ (l : Lawful m) (i : PartInOrder b n m) (o : ℕ) (bytes : List ℕ) (fits : o + length bytes ≤ n) where
    arrives : Arrives (b + o) bytes m m' → Arrives o bytes (part_means b n m) (part_means b n m')
    arrives f s h =
        let x = f h.0 h.1 in (
          part b n x.0,
          (x.0, x.1, refl),
          subst (λ (y : List ℕ). Partly 16 o bytes (part b n x.0) y) (sym h.2)
              (part_partly b n o bytes x.0 h.0 i.fits.aligned (omega (arith, i.fits.ends, l.each x.0 x.1)) fits x.2),
        )

    -- a write within the part
    apart : (m'.lives ≡ true → m'.visible ≡ laid (b + o) bytes m.visible) → Arrives (b + o) bytes m m' → Frame b n m m'
    apart v f = record {
      visible = λ e. subst (λ (y : List ℕ). Agree b n m.visible y) (sym (v e)) (agree_laid b n o bytes m.visible (omega (arith, i.fits.ends, l.long)) fits);
      stands = λ s h. let x = f s h in (x.0, x.1, agree_partly b n o bytes x.0 s fits x.2);
    }

dead_shows : (m m' : Meaning) (v : List ℕ) → Ended m m' → m'.lives ≡ true → m'.visible ≡ v
dead_shows m m' v d e = absurd (both_ways m'.lives d.dead e)

-- by a call below: the part is in order still, the call did what it has to do, and the frame stays
pub record Passed (b n : ℕ) (m m' : Meaning) (Does : Type 0) : Type 0 where
  pub in_order : PartInOrder b n m'
  pub does : Does
  pub frame : Frame b n m m'

module _ {G : Type 0} (links : G → List Step) (b n : ℕ) (m m' : Meaning) (l : Lawful m) (i : PartInOrder b n m) (still-in-order : m'.in_order) where
  abbrev tells_up : Refusal Link (LayerFault G) → Told
  tells_up = told own (carried links)

  pub on_read : (o : ℕ) (old new : List ℕ) (r : Result (Unit {0}) G) (x : Answer Link (LayerFault G)) → o + length old ≤ n → length new ≡ length old →
      OnReadInside (b + o) old new m m' r → Lifts partition_name o r x →
      Passed b n m m' (OnRead tells_up partition_name o old new (part_means b n m) (part_means b n m') x)
  on_read o old new (Ok _) (Ok _) fits long d u = record {
    in_order = still b n m m' i still-in-order d.served.size;
    does = record {
      fits = omega arith;
      served = served b n m m' d.served;
      visible = ap (part b n) d.visible;
      stands = within b n m m' d.stands;
      got = d.got ∙ part_part b n o (length new) m.visible (omega (arith, i.fits.ends, l.long)) (omega arith);
    };
    frame = quiet b n m m' (λ _. d.visible) d.stands;
  }
  on_read o old new (Ok _) (Err e) fits long d u = absurd u
  on_read o old new (Err f) (Ok _) fits long d u = absurd u
  on_read o old new (Err f) (Err (Outside g)) fits long d u = absurd u
  on_read o old new (Err f) (Err (Gone g)) fits long d u = record {
    in_order = still b n m m' i still-in-order d.ended.size;
    does = (
      tells_gone partition_name links o f g u,
      record { fits = fits; ended = ended b n m m' d.ended; stands = within b n m m' d.stands; zeroed = d.zeroed },
    );
    frame = quiet b n m m' (dead_shows m m' m.visible d.ended) d.stands;
  }

  pub on_write : (o : ℕ) (bytes : List ℕ) (r : Result (Unit {0}) G) (x : Answer Link (LayerFault G)) → o + length bytes ≤ n →
      OnWriteInside (b + o) bytes m m' r → Lifts partition_name o r x →
      Passed b n m m' (OnWrite tells_up partition_name o bytes (part_means b n m) (part_means b n m') x)
  on_write o bytes (Ok _) (Ok _) fits d u = record {
    in_order = still b n m m' i still-in-order d.served.size;
    does = record {
      fits = fits;
      served = served b n m m' d.served;
      visible = ap (part b n) d.visible ∙ part_laid b n o bytes m.visible (omega (arith, i.fits.ends, l.long)) fits;
      stands = arrives b n m m' l i o bytes fits d.stands;
    };
    frame = apart b n m m' l i o bytes fits (λ _. d.visible) d.stands;
  }
  on_write o bytes (Ok _) (Err e) fits d u = absurd u
  on_write o bytes (Err f) (Ok _) fits d u = absurd u
  on_write o bytes (Err f) (Err (Outside g)) fits d u = absurd u
  on_write o bytes (Err f) (Err (Gone g)) fits d u = record {
    in_order = still b n m m' i still-in-order d.ended.size;
    does = (
      tells_gone partition_name links o f g u,
      record { fits = fits; ended = ended b n m m' d.ended; stands = arrives b n m m' l i o bytes fits d.stands },
    );
    frame = apart b n m m' l i o bytes fits (dead_shows m m' (laid (b + o) bytes m.visible) d.ended) d.stands;
  }

  -- what stands after a sync that was served are the visible bytes, which might have stood before
  pub on_sync : (r : Result (Unit {0}) G) (x : Answer Link (LayerFault G)) → OnSyncInside m m' r → Lifts partition_name 0 r x →
      Passed b n m m' (OnSync tells_up partition_name (part_means b n m) (part_means b n m') x)
  on_sync (Ok _) (Ok _) d u = record {
    in_order = still b n m m' i still-in-order d.served.size;
    does = record {
      served = served b n m m' d.served;
      visible = ap (part b n) d.visible;
      only = λ s h. h.2 ∙ ap (part b n) (d.only h.0 h.1);
    };
    frame = quiet b n m m' (λ _. d.visible) (λ s h. subst m.stands (sym (d.only s h)) (l.shown d.served.lived));
  }
  on_sync (Ok _) (Err e) d u = absurd u
  on_sync (Err f) (Ok _) d u = absurd u
  on_sync (Err f) (Err (Outside g)) d u = absurd u
  on_sync (Err f) (Err (Gone g)) d u = record {
    in_order = still b n m m' i still-in-order d.ended.size;
    does = (tells_gone partition_name links 0 f g u, record { ended = ended b n m m' d.ended; stands = within b n m m' d.stands });
    frame = quiet b n m m' (dead_shows m m' m.visible d.ended) d.stands;
  }

-- what the refusal of a range would have held makes no difference
lifted_any : (O P : Type 0) {G : Type 0} (name : List ℕ) (o : ℕ) (r : Result (Unit {0}) G) (x : Answer Link (LayerFault G)) → Lifted {O = P} name o (lowered r) x → Lifted {O = O} name o (lowered r) x
lifted_any O P name o (Ok _) (Ok _) u = u
lifted_any O P name o (Ok _) (Err e) u = u
lifted_any O P name o (Err f) (Ok _) u = u
lifted_any O P name o (Err f) (Err (Outside g)) u = u
lifted_any O P name o (Err f) (Err (Gone g)) u = u

-- a call within the part, which was made below
pub did_below : {S O G : Type 0} (means : S → Meaning) (did : S → Call → Answer O G → S → Type 0) (p : Partition S) (s' : S) (call : Call) (r : Result (Unit {0}) G) (x : Answer Link (LayerFault G)) →
    end_of call ≤ p.size → did p.below (moved p.base call) (lowered r) s' → Lifts partition_name (offset_of call) r x → Frame p.base p.size (means p.below) (means s') →
    PartDid means did p call x (record { below = s'; base = p.base; size = p.size })
did_below {O = O} means did p s' call r x fits d u f = record { base = refl; size = refl; outside = λ h. absurd (omega arith); inside = λ _. record { answer = lowered r; made = d; lifted = lifted_any O (Unit {0}) partition_name (offset_of call) r x u }; frame = f }
