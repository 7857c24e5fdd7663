-- A cache with no line held.
use Rattle.std.proofs.Common.{◌≡◌, ℕ, zero, suc, ◌<◌, ◌≤◌, Bool, false, List, [], ◌∷◌, map, length, replicate, refl, ap, ◌∙◌, subst, arith}
use Rattle.std.proofs.lemmas.Bool.{both_ways}
use Rattle.std.proofs.lemmas.List.{get_or-map, get_or-replicate}
use Rattle.storage.specs.Standing.{Standing}
use Rattle.storage.specs.Meaning.{Meaning}
use Rattle.storage.specs.Cuts.{CutDone}
use Rattle.storage.proofs.Arriving.{settled}
use Rattle.cache.specs.declared.line.Line.TheVariants.{Empty}
use Rattle.cache.specs.declared.slot.Slot.{Slot}
use Rattle.cache.specs.Lines.{content, emptied, seen}
use Rattle.cache.specs.Cached.{InOrder, cache_means}
use Rattle.cache.specs.Made.{Blank}
use Rattle.cache.proofs.Means.{empties, seen_empty, from_alive, over_below}

pub all_empty : (k : ℕ) (b : List ℕ) → Blank (replicate k (record { line = Empty; bytes = b }))
all_empty zero b i = refl
all_empty (suc k) b zero = refl
all_empty (suc k) b (suc i) = all_empty k b i

pub all_bytes : (k : ℕ) (b : List ℕ) → length b ≡ 512 → (i : ℕ) → i < k → length (content (replicate k (record { line = Empty; bytes = b })) i) ≡ 512
all_bytes k b long i low = ap (λ (x : Slot). length x.bytes) (get_or-replicate k i (record { line = Empty; bytes = b }) (record { line = Empty; bytes = [] }) low) ∙ long

pub emptied_all : (slots : List Slot) → Blank (map emptied slots)
emptied_all [] i = refl
emptied_all (x ∷ xs) zero = refl
emptied_all (x ∷ xs) (suc i) = emptied_all xs i

pub emptied_bytes : (slots : List Slot) → length slots ≡ 16 → ((i : ℕ) → i < 16 → length (content slots i) ≡ 512) → (i : ℕ) → i < 16 → length (content (map emptied slots) i) ≡ 512
emptied_bytes slots wide long i low =
    ap (λ (x : Slot). length x.bytes) (get_or-map emptied slots i (record { line = Empty; bytes = [] }) (record { line = Empty; bytes = [] }) (omega arith)) ∙ long i low

module _ (slots : List Slot) (n : ℕ) (m : Meaning) (none : Blank slots) (wide : length slots ≡ 16) (long : (i : ℕ) → i < 16 → length (content slots i) ≡ 512) (some : 0 < n) (few : n ≤ 16) (ok : m.in_order) where
  pub fresh_order : InOrder slots n false m
  fresh_order = record {
    below = ok;
    slots_long = wide;
    bytes_long = long;
    some_lines = some;
    few_lines = few;
    told = λ g. absurd (both_ways false refl g);
    untold = λ _ _. none;
    kept = λ _. empties slots none n m.visible;
  }

  pub fresh_visible : seen slots n m.visible ≡ m.visible
  fresh_visible = seen_empty slots none n m.visible some

-- a cut below, under a cache that has dropped its lines
pub cut_over : (slots slots' : List Slot) (n : ℕ) (gone : Bool) (m m' : Meaning) (left : List ℕ) → InOrder slots n gone m →
    Blank slots' → length slots' ≡ 16 → ((i : ℕ) → i < 16 → length (content slots' i) ≡ 512) →
    CutDone left m m' → InOrder slots' n false m' × CutDone left (cache_means slots n gone m) (cache_means slots' n false m')
cut_over slots slots' n gone m m' left i-o none wide long c =
    let f = c.fresh in
    let o = fresh_order slots' n m' none wide long i-o.some_lines i-o.few_lines f.in_order in
    let v = fresh_visible slots' n m' none wide long i-o.some_lines i-o.few_lines f.in_order in (
      o,
      record {
        might = over_below m.lives (seen slots n m.visible) m.stands left c.might;
        fresh = record {
          in_order = o;
          visible = v ∙ f.visible;
          only = λ s h.
              let y = from_alive m'.lives (seen slots' n m'.visible) m'.stands s f.lives h in
              settled 16 y.0 left [] s (f.only y.0 y.1) (λ k. refl) (subst (λ (z : List ℕ). Standing 16 y.0 z [] s) (v ∙ f.visible) y.2);
          lives = f.lives;
        };
        size = c.size;
      },
    )
