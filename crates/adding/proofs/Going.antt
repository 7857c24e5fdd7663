-- Calls that leave some bytes alone, one after another.
use Rattle.std.proofs.Common.{ℕ, ◌+◌, ◌<◌, ◌≤◌, ◌⊎◌, List, length, sym, refl, ◌∙◌}
use Rattle.std.proofs.lemmas.Bool.{both_ways}
use Rattle.storage.specs.Meaning.{Meaning}
use Rattle.storage.specs.Calls.{Arrives, WriteDone, WriteEnded, SyncEnded}
use Rattle.storage.proofs.Answering.{same_self, same_trans}
use Rattle.adding.specs.Writes.{Agrees, Near, Went, Cut}

pub agrees_self : (P : ℕ → Type 0) (s : List ℕ) → Agrees P s s
agrees_self P s = record { long = refl; bytes = λ k p. refl }

near_near : (P : ℕ → Type 0) (m m₁ m₂ : Meaning) → Near P m m₁ → Near P m₁ m₂ → Near P m m₂
near_near P m m₁ m₂ a b s h =
    let y = b s h in
    let x = a y.0 y.1 in
    (x.0, x.1, record { long = y.2.long ∙ x.2.long; bytes = λ k p. y.2.bytes k p ∙ x.2.bytes k p })

pub went_self : (P : ℕ → Type 0) (m : Meaning) → Went P m m
went_self P m = record { size = refl; lives = refl; already = λ _. same_self m; stands = λ s h. (s, h, agrees_self P s) }

pub went_went : (P : ℕ → Type 0) (m m₁ m₂ : Meaning) → Went P m m₁ → Went P m₁ m₂ → Went P m m₂
went_went P m m₁ m₂ a b = record {
  size = b.size ∙ a.size;
  lives = b.lives ∙ a.lives;
  already = λ d. same_trans m m₁ m₂ (a.already d) (b.already (a.lives ∙ d));
  stands = near_near P m m₁ m₂ a.stands b.stands;
}

pub went_cut : (P : ℕ → Type 0) (m m₁ m₂ : Meaning) → Went P m m₁ → Cut P m₁ m₂ → Cut P m m₂
went_cut P m m₁ m₂ a b = record {
  ended = record { size = b.ended.size ∙ a.size; dead = b.ended.dead; already = λ d. same_trans m m₁ m₂ (a.already d) (b.ended.already (a.lives ∙ d)) };
  stands = near_near P m m₁ m₂ a.stands b.stands;
}

-- fewer bytes are left alone
near_fewer : (P Q : ℕ → Type 0) (m m' : Meaning) → ((k : ℕ) → Q k → P k) → Near P m m' → Near Q m m'
near_fewer P Q m m' f n s h = let x = n s h in (x.0, x.1, record { long = x.2.long; bytes = λ k q. x.2.bytes k (f k q) })

pub went_fewer : (P Q : ℕ → Type 0) (m m' : Meaning) → ((k : ℕ) → Q k → P k) → Went P m m' → Went Q m m'
went_fewer P Q m m' f w = record { size = w.size; lives = w.lives; already = w.already; stands = near_fewer P Q m m' f w.stands }

pub cut_fewer : (P Q : ℕ → Type 0) (m m' : Meaning) → ((k : ℕ) → Q k → P k) → Cut P m m' → Cut Q m m'
cut_fewer P Q m m' f c = record { ended = c.ended; stands = near_fewer P Q m m' f c.stands }

-- a write leaves the bytes before and behind it alone
module _ (P : ℕ → Type 0) (o : ℕ) (b : List ℕ) (m m' : Meaning) (out : (k : ℕ) → P k → (k < o) ⊎ (o + length b ≤ k)) where
  arrives_near : Arrives o b m m' → Near P m m'
  arrives_near a s h = let x = a s h in (x.0, x.1, record { long = x.2.long; bytes = λ k p. x.2.apart k (out k p) })

  pub write_went : WriteDone o b m m' → Went P m m'
  write_went d = record {
    size = d.served.size;
    lives = d.served.lives ∙ sym d.served.lived;
    already = λ e. absurd (both_ways m.lives e d.served.lived);
    stands = arrives_near d.stands;
  }

  pub write_cut : WriteEnded o b m m' → Cut P m m'
  write_cut d = record { ended = d.ended; stands = arrives_near d.stands }

-- a sync that was GONE leaves all bytes alone
pub sync_cut : (P : ℕ → Type 0) (m m' : Meaning) → SyncEnded m m' → Cut P m m'
sync_cut P m m' d = record { ended = d.ended; stands = λ s h. (s, d.stands s h, agrees_self P s) }
