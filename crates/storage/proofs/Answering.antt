-- Calls within the size by their answers, and steps one after another, by the meaning alone.
use Rattle.std.proofs.lemmas.List.{ext_get_or}
use Rattle.std.proofs.Common.{◌≡◌, ℕ, List, length, Ok, Err, Result, sym, refl, ap, ◌∙◌, subst, inl, inr, arith}
use Rattle.std.proofs.lemmas.Bool.{cases_lt, both_ways}
use Rattle.storage.specs.Cells.{laid}
use Rattle.storage.specs.Meaning.{Meaning, Within, Same}
use Rattle.storage.specs.Calls.{Arrives, ReadDone, ReadEnded, WriteDone}
use Rattle.storage.specs.Inside.{Still, Lost, OnSyncInside}

pub same_self : (m : Meaning) → Same m m
same_self m = record { size = refl; visible = refl; lives = refl; fewer = λ s h. h; more = λ s h. h }

pub same_trans : (m m₁ m₂ : Meaning) → Same m m₁ → Same m₁ m₂ → Same m m₂
same_trans m m₁ m₂ a b = record {
  size = b.size ∙ a.size;
  visible = b.visible ∙ a.visible;
  lives = b.lives ∙ a.lives;
  fewer = λ s h. a.fewer s (b.fewer s h);
  more = λ s h. b.more s (a.more s h);
}

pub still_self : (m : Meaning) → Still m m
still_self m = record { size = refl; lives = refl; visible = refl; stands = λ s h. h; already = λ _. same_self m }

-- a served read is still
pub still_read : (o : ℕ) (b : List ℕ) (m m' : Meaning) → ReadDone o b m m' → Still m m'
still_read o b m m' d = record {
  size = d.served.size;
  lives = d.served.lives ∙ sym d.served.lived;
  visible = d.visible;
  stands = d.stands;
  already = λ e. absurd (both_ways m.lives e d.served.lived);
}

-- a read at which the storage turned GONE
pub lost_read : (o : ℕ) (old new : List ℕ) (m m' : Meaning) → ReadEnded o old new m m' → Lost m m'
lost_read o old new m m' d = record { ended = d.ended; stands = d.stands }

-- what follows a still step
pub still_still : (m m₁ m₂ : Meaning) → Still m m₁ → Still m₁ m₂ → Still m m₂
still_still m m₁ m₂ a b = record {
  size = b.size ∙ a.size;
  lives = b.lives ∙ a.lives;
  visible = b.visible ∙ a.visible;
  stands = λ s h. a.stands s (b.stands s h);
  already = λ d. same_trans m m₁ m₂ (a.already d) (b.already (a.lives ∙ d));
}

pub still_lost : (m m₁ m₂ : Meaning) → Still m m₁ → Lost m₁ m₂ → Lost m m₂
still_lost m m₁ m₂ a b = record {
  ended = record { size = b.ended.size ∙ a.size; dead = b.ended.dead; already = λ d. same_trans m m₁ m₂ (a.already d) (b.ended.already (a.lives ∙ d)) };
  stands = λ s h. a.stands s (b.stands s h);
}

pub still_write : (o : ℕ) (b : List ℕ) (m m₁ m₂ : Meaning) → Still m m₁ → WriteDone o b m₁ m₂ → WriteDone o b m m₂
still_write o b m m₁ m₂ a w = record {
  fits = omega (arith, w.fits, a.size);
  served = record { lived = sym a.lives ∙ w.served.lived; lives = w.served.lives; size = w.served.size ∙ a.size };
  visible = w.visible ∙ ap (λ (x : List ℕ). laid o b x) a.visible;
  stands = λ s h. let x = w.stands s h in (x.0, a.stands x.0 x.1, x.2);
}

pub still_sync : {G : Type 0} (m m₁ m₂ : Meaning) (r : Result (Unit {0}) G) → Still m m₁ → OnSyncInside m₁ m₂ r → OnSyncInside m m₂ r
still_sync m m₁ m₂ (Ok _) a d = record {
  served = record { lived = sym a.lives ∙ d.served.lived; lives = d.served.lives; size = d.served.size ∙ a.size };
  visible = d.visible ∙ a.visible;
  only = λ s h. d.only s h ∙ a.visible;
}
still_sync m m₁ m₂ (Err f) a d =
    let l = still_lost m m₁ m₂ a (record { ended = d.ended; stands = d.stands }) in
    record { ended = l.ended; stands = l.stands }

-- a write of no bytes leaves what might have stood
pub arrives_nothing : (o : ℕ) (b : List ℕ) (m m' : Meaning) → length b ≡ 0 → Arrives o b m m' → Within m' m
arrives_nothing o b m m' z a s h =
    let x = a s h in
    let q : s ≡ x.0 = ext_get_or 0 s x.0 x.2.long (λ k l. x.2.apart k (elim (cases_lt k o) [ inl y ↦ inl y | inr y ↦ inr (omega arith) ])) in
    subst (λ (y : List ℕ). m.stands y) (sym q) x.1
