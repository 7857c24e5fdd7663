-- A header that is written and settled.
use Rattle.std.proofs.Common.{◌≡◌, ℕ, ◌⊎◌, List, length, Ok, Err, Result, sym, refl, ◌∙◌, arith}
use Rattle.std.proofs.lemmas.Bool.{both_ways}
use Rattle.storage.specs.Cells.{laid}
use Rattle.storage.specs.Meaning.{Meaning, Lawful}
use Rattle.storage.specs.Calls.{Arrives, WriteDone, WriteEnded}
use Rattle.storage.specs.Inside.{OnSyncInside}
use Rattle.storage.proofs.Storing.{whole_cell}
use Rattle.card.specs.Headers.{PutEnded, OnPut}

-- the header's cell arrives or does not
old_or_new : (c : List ℕ) (m m' : Meaning) → Lawful m → length c ≡ 16 → Arrives 0 c m m' →
    (s : List ℕ) → m'.stands s → (t : List ℕ) × (m.stands t) × ((s ≡ t) ⊎ (s ≡ laid 0 c t))
old_or_new c m m' law wide a s h =
    let x = a s h in
    (x.0, x.1, whole_cell 0 c x.0 s (record { aligned = refl; wide = wide }) (omega (arith, law.each x.0 x.1, law.sized.least)) x.2)

pub put_ended : (c : List ℕ) (m m' : Meaning) → Lawful m → length c ≡ 16 → WriteEnded 0 c m m' → PutEnded c m m'
put_ended c m m' law wide w = record { ended = w.ended; stands = old_or_new c m m' law wide w.stands }

pub put_synced : {G : Type 0} (c : List ℕ) (m m₁ m₂ : Meaning) (r : Result (Unit {0}) G) → Lawful m → length c ≡ 16 → WriteDone 0 c m m₁ → OnSyncInside m₁ m₂ r → OnPut c m m₂ r
put_synced c m m₁ m₂ (Ok _) law wide w y = record {
  fits = w.fits;
  served = record { lived = w.served.lived; lives = y.served.lives; size = y.served.size ∙ w.served.size };
  visible = y.visible ∙ w.visible;
  only = λ t h. y.only t h ∙ sym y.visible;
}
put_synced c m m₁ m₂ (Err f) law wide w y = record {
  ended = record {
    size = y.ended.size ∙ w.served.size;
    dead = y.ended.dead;
    already = λ e. absurd (both_ways m.lives e w.served.lived);
  };
  stands = λ s h. old_or_new c m m₁ law wide w.stands s (y.stands s h);
}
