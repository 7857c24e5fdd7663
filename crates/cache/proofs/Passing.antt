-- Calls that a cache hands down as they are.
use Rattle.std.proofs.Common.{◌≡◌, ℕ, Bool, true, false, List, [], length, Ok, Err, Result, is_err, sym, refl, ap, ◌∙◌, subst, inl, inr}
use Rattle.std.proofs.lemmas.List.{nil_from_length}
use Rattle.std.proofs.lemmas.Bool.{cases_Bool, both_ways}
use Rattle.storage.specs.Cells.{laid, part}
use Rattle.storage.specs.Standing.{Standing}
use Rattle.storage.specs.Meaning.{Meaning, Within}
use Rattle.storage.specs.Calls.{Served, Ended, ReadDone, WriteDone, SyncDone}
use Rattle.storage.specs.Inside.{Lost, OnReadInside, OnWriteInside, OnSyncInside}
use Rattle.storage.proofs.Answering.{arrives_nothing}
use Rattle.storage.proofs.Arriving.{partly_none, settled}
use Rattle.storage.proofs.Lists.{laid_none}
use Rattle.cache.specs.declared.slot.Slot.{Slot}
use Rattle.cache.specs.Lines.{seen, Kept}
use Rattle.cache.specs.Cached.{InOrder, cache_means}
use Rattle.cache.specs.Syncs.{AllClean}
use Rattle.cache.proofs.Means.{over_alive, from_alive, over_dead, from_dead, over_below}
use Rattle.cache.proofs.Seeing.{seen_below}

module _ (slots : List Slot) (n : ℕ) (gone : Bool) (m m' : Meaning) (i-o : InOrder slots n gone m) (ok : m'.in_order) where
  abbrev was : Meaning
  was = cache_means slots n gone m

  abbrev now : Meaning
  now = cache_means slots n gone m'

  -- the storage below turned GONE, or was gone
  pass_lost : Ended m m' → Within m' m → InOrder slots n true m' × Lost was now
  pass_lost e fewer = (
    record {
      below = ok;
      slots_long = i-o.slots_long;
      bytes_long = i-o.bytes_long;
      some_lines = i-o.some_lines;
      few_lines = i-o.few_lines;
      told = λ _. e.dead;
      untold = λ _ g. absurd (both_ways true g refl);
      kept = λ l. absurd (both_ways m'.lives e.dead l);
    },
    record {
      ended = record {
        size = e.size;
        dead = e.dead;
        already = λ d. let s = e.already d in record {
          size = s.size;
          visible = ap (λ (x : List ℕ). seen slots n x) s.visible;
          lives = s.lives;
          fewer = λ x h. over_dead m.lives (seen slots n m.visible) m.stands x d (s.fewer x (from_dead m'.lives (seen slots n m'.visible) m'.stands x e.dead h));
          more = λ x h. over_dead m'.lives (seen slots n m'.visible) m'.stands x e.dead (s.more x (from_dead m.lives (seen slots n m.visible) m.stands x d h));
        };
      };
      stands = λ s h. over_below m.lives (seen slots n m.visible) m.stands s (fewer s (from_dead m'.lives (seen slots n m'.visible) m'.stands s e.dead h));
    },
  )

  -- one that was served was not told
  untold_of : m.lives ≡ true → gone ≡ false
  untold_of l = elim (cases_Bool gone) [ inl g ↦ absurd (both_ways m.lives (i-o.told g) l) | inr g ↦ g ]

  -- nothing visible changed below
  pass_order : Served m m' → m'.visible ≡ m.visible → InOrder slots n gone m'
  pass_order s v = record {
    below = ok;
    slots_long = i-o.slots_long;
    bytes_long = i-o.bytes_long;
    some_lines = i-o.some_lines;
    few_lines = i-o.few_lines;
    told = λ g. absurd (both_ways gone (untold_of s.lived) g);
    untold = λ d. absurd (both_ways m'.lives d s.lives);
    kept = λ _. subst (λ (x : List ℕ). Kept slots n x) (sym v) (i-o.kept s.lived);
  }

  pass_stands : Served m m' → m'.visible ≡ m.visible → Within m' m → Within now was
  pass_stands s v fewer x h =
      let y = from_alive m'.lives (seen slots n m'.visible) m'.stands x s.lives h in
      over_alive m.lives (seen slots n m.visible) m.stands x s.lived
      (y.0, fewer y.0 y.1, subst (λ (z : List ℕ). Standing 16 y.0 z [] x) (ap (λ (w : List ℕ). seen slots n w) v) y.2)

  read_passed : (o : ℕ) (new : List ℕ) → length new ≡ 0 → ReadDone o new m m' → ReadDone o new was now
  read_passed o new z d = record {
    fits = d.fits;
    served = record { lived = d.served.lived; lives = d.served.lives; size = d.served.size };
    visible = ap (λ (w : List ℕ). seen slots n w) d.visible;
    stands = pass_stands d.served d.visible d.stands;
    got = nil_from_length new z ∙ ap (λ (k : ℕ). part o k (seen slots n m.visible)) (sym z);
  }

  write_order : (o : ℕ) (b : List ℕ) → length b ≡ 0 → WriteDone o b m m' → m'.visible ≡ m.visible
  write_order o b z d = d.visible ∙ ap (λ (x : List ℕ). laid o x m.visible) (nil_from_length b z) ∙ laid_none o m.visible

  write_passed : (o : ℕ) (b : List ℕ) → length b ≡ 0 → WriteDone o b m m' → WriteDone o b was now
  write_passed o b z d =
      let v = write_order o b z d in
      record {
        fits = d.fits;
        served = record { lived = d.served.lived; lives = d.served.lives; size = d.served.size };
        visible = ap (λ (w : List ℕ). seen slots n w) v ∙ sym (ap (λ (x : List ℕ). laid o x (seen slots n m.visible)) (nil_from_length b z) ∙ laid_none o (seen slots n m.visible));
        stands = λ s h. (s, pass_stands d.served v (arrives_nothing o b m m' z d.stands) s h, partly_none 16 o b s);
      }

  -- once nothing waits, a sync below settles what the cache shows
  sync_passed : AllClean slots n → SyncDone m m' → SyncDone was now
  sync_passed clean d =
      let lived = d.served.lived in
      let shown : seen slots n m.visible ≡ m.visible = seen_below slots n m.visible (i-o.kept lived) i-o.some_lines clean in
      let after : seen slots n m'.visible ≡ seen slots n m.visible = ap (λ (w : List ℕ). seen slots n w) d.visible in
      record {
        served = record { lived = lived; lives = d.served.lives; size = d.served.size };
        visible = after;
        only = λ s h.
            let y = from_alive m'.lives (seen slots n m'.visible) m'.stands s d.served.lives h in
            settled 16 y.0 (seen slots n m.visible) [] s (d.only y.0 y.1 ∙ sym shown) (λ k. refl) (subst (λ (z : List ℕ). Standing 16 y.0 z [] s) after y.2);
      }

-- what lines that were not told make of an answer from below
module _ {G : Type 0} (slots : List Slot) (n : ℕ) (m m' : Meaning) (i-o : InOrder slots n false m) (ok : m'.in_order) where
  pub read_none : (o : ℕ) (old new : List ℕ) (r : Result (Unit {0}) G) → length old ≡ 0 → length new ≡ 0 → OnReadInside o old new m m' r →
      InOrder slots n (is_err r) m' × OnReadInside o old new (cache_means slots n false m) (cache_means slots n false m') r
  read_none o old new (Ok _) y z d = (pass_order slots n false m m' i-o ok d.served d.visible, read_passed slots n false m m' i-o ok o new z d)
  read_none o old new (Err f) y z d =
      let p = pass_lost slots n false m m' i-o ok d.ended d.stands in
      (p.0, record { fits = d.fits; ended = p.1.ended; stands = p.1.stands; zeroed = d.zeroed })

  pub write_none : (o : ℕ) (b : List ℕ) (r : Result (Unit {0}) G) → length b ≡ 0 → OnWriteInside o b m m' r →
      InOrder slots n (is_err r) m' × OnWriteInside o b (cache_means slots n false m) (cache_means slots n false m') r
  write_none o b (Ok _) z d = (
    pass_order slots n false m m' i-o ok d.served (write_order slots n false m m' i-o ok o b z d),
    write_passed slots n false m m' i-o ok o b z d,
  )
  write_none o b (Err f) z d =
      let p = pass_lost slots n false m m' i-o ok d.ended (arrives_nothing o b m m' z d.stands) in
      (p.0, record { fits = d.fits; ended = p.1.ended; stands = λ s h. (s, p.1.stands s h, partly_none 16 o b s) })

  pub sync_clean : AllClean slots n → (r : Result (Unit {0}) G) → OnSyncInside m m' r →
      InOrder slots n (is_err r) m' × OnSyncInside (cache_means slots n false m) (cache_means slots n false m') r
  sync_clean clean (Ok _) d = (pass_order slots n false m m' i-o ok d.served d.visible, sync_passed slots n false m m' i-o ok clean d)
  sync_clean clean (Err f) d =
      let p = pass_lost slots n false m m' i-o ok d.ended d.stands in
      (p.0, record { ended = p.1.ended; stands = p.1.stands })
