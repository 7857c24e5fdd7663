-- A write and a sync, by the meaning alone.
use Rattle.std.proofs.lemmas.List.{ext_get_or}
use Rattle.std.proofs.Common.{◌≡◌, ℕ, ◌+◌, ◌/◌, ◌≤◌, ◌⊎◌, List, length, Ok, Err, sym, ◌∙◌, subst, inl, inr, arith}
use Rattle.std.proofs.lemmas.Bool.{cases_lt}
use Rattle.storage.specs.declared.refusal.Refusal.{Refusal}
use Rattle.storage.specs.declared.refusal.Refusal.TheVariants.{Outside, Gone}
use Rattle.storage.specs.Cells.{laid, Partly}
use Rattle.storage.specs.Refusals.{Answer, Told}
use Rattle.storage.specs.Meaning.{Meaning, Lawful, Only}
use Rattle.storage.specs.Calls.{WriteDone, OnWrite, OnSync}
use Rattle.storage.specs.Stores.{OnStore, OldOrNew, WholeCell}
use Rattle.storage.proofs.Lists.{laid_apart, laid_within, length_laid}

module _ {O G : Type 0} (tells : Refusal O G → Told) (name : List ℕ) (o : ℕ) (b : List ℕ) (m : Meaning) where
  pub declined : (m₁ : Meaning) (e : Refusal O G) → OnWrite tells name o b m m₁ (Err e) → OnStore {O = O} {G = G} o b m m₁ (Err e)
  declined m₁ (Outside f) w = w.1
  declined m₁ (Gone f) w = w.1

  pub synced : (m₁ m₂ : Meaning) (r : Answer O G) → WriteDone o b m m₁ → OnSync tells name m₁ m₂ r → OnStore o b m m₂ r
  synced m₁ m₂ (Ok _) w y = record {
    fits = w.fits;
    served = record { lived = w.served.lived; lives = y.served.lives; size = y.served.size ∙ w.served.size };
    visible = y.visible ∙ w.visible;
    only = λ t h. y.only t h ∙ sym y.visible;
  }
  synced m₁ m₂ (Err (Outside f)) w y = absurd y
  synced m₁ m₂ (Err (Gone f)) w y = record {
    fits = w.fits;
    ended = record {
      size = y.1.ended.size ∙ w.served.size;
      dead = y.1.ended.dead;
      already = λ e. let z : ◌≡◌ {A = ℕ} 0 1 = cc (e, w.served.lived) in absurd (omega arith);
    };
    stands = λ s h. w.stands s (y.1.stands s h);
  }

-- a whole cell arrives or does not
pub whole_cell : (o : ℕ) (b v s : List ℕ) → WholeCell o (length b) → o + length b ≤ length v → Partly 16 o b v s → (s ≡ v) ⊎ (s ≡ laid o b v)
whole_cell o b v s c fits p =
    let n = c.wide in let a = c.aligned in
    elim (p.whole (o / 16) (omega arith) (omega arith)) [
      | inl old ↦ inl (ext_get_or 0 s v p.long (λ k l. elim (cases_lt k o) [
        | inl x ↦ p.apart k (inl x)
        | inr x ↦ elim (cases_lt k (o + length b)) [ inl y ↦ old k (omega arith) | inr y ↦ p.apart k (inr y) ]
      ]))
      | inr new ↦ inr (ext_get_or 0 s (laid o b v) (p.long ∙ sym (length_laid o b v fits)) (λ k l. elim (cases_lt k o) [
        | inl x ↦ p.apart k (inl x) ∙ sym (laid_apart o b v k fits (inl x))
        | inr x ↦ elim (cases_lt k (o + length b)) [
          | inl y ↦ new k (omega arith) ∙ sym (laid_within o b v k fits x y)
          | inr y ↦ p.apart k (inr y) ∙ sym (laid_apart o b v k fits (inr y))
        ]
      ]))
    ]

pub old_or_new : {O G : Type 0} (o : ℕ) (b : List ℕ) (m m' : Meaning) (r : Answer O G) → Lawful m → OnStore o b m m' r →
    WholeCell o (length b) → Only m.visible m → OldOrNew o b m.visible m'
old_or_new o b m m' (Ok _) l d c only s h = inr (d.only s h ∙ d.visible)
old_or_new o b m m' (Err (Outside f)) l d c only s h = inl (only s (d.same.fewer s h))
old_or_new o b m m' (Err (Gone f)) l d c only s h =
    let x = d.stands s h in
    whole_cell o b m.visible s c (omega (arith, d.fits, l.long)) (subst (λ (t : List ℕ). Partly 16 o b t s) (only x.0 x.1) x.2)
