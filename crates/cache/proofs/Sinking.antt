-- The lines that wait, the lowest sector first.
use Rattle.std.proofs.Common.{◌≡◌, ℕ, zero, suc, ◌+◌, ◌%◌, ◌<◌, ◌≤◌, min, true, false, List, [], ◌∷◌, ◌++◌, cond, length, set, take, filter_map, count_by, Some, None, Option, sym, refl, ap, ◌∙◌, subst, inl, inr, add-one, arith}
use Rattle.std.specs.List.{reduce, cons_option}
use Rattle.std.proofs.lemmas.Bool.{cases_lt, cases_eq, both_ways, eq-eqb}
use Rattle.std.proofs.lemmas.List.{append-nil, take_more}
use Rattle.std.proofs.lemmas.List.Elements.{filter_map-append}
use Rattle.std.proofs.lemmas.List.Sums.{fold-append, sum_by-set}
use Rattle.cache.specs.declared.line.Line.{Line}
use Rattle.cache.specs.declared.line.Line.TheVariants.{Empty, Clean, Dirty}
use Rattle.cache.specs.declared.slot.Slot.{Slot}
use Rattle.storage.specs.Meaning.{Meaning}
use Rattle.cache.specs.Cached.{InOrder}
use Rattle.cache.specs.Lines.{held, dirty, waiting, line, stored, Kept}
use Rattle.cache.proofs.Seeing.{new_line, old_line}
use Rattle.cache.proofs.Means.{lives_holding}
use Rattle.cache.specs.Syncs.{lowest, AllClean, Lowest, OnLowest}

dirty_dirty : (a b : ℕ) → Dirty a ≡ Dirty b → a ≡ b
dirty_dirty a b e = cc

undirty : (l : Line) (q : ℕ) → l ≡ Dirty q → dirty l ≡ false → ⊥
undirty l q e d = both_ways true (ap dirty (sym e) ∙ d) refl

not_waiting : (l : Line) → waiting l ≡ None → dirty l ≡ false
not_waiting Empty e = refl
not_waiting (Clean h) e = refl
not_waiting (Dirty h) e = cc

waiting_as : (l : Line) (h : ℕ) → waiting l ≡ Some h → l ≡ Dirty h
waiting_as Empty h e = cc
waiting_as (Clean k) h e = cc
waiting_as (Dirty k) h e = cc

module _ (slots : List Slot) (n : ℕ) where
  clean_more : AllClean slots n → dirty (line slots n) ≡ false → AllClean slots (n + 1)
  clean_more a c i h = elim (cases_lt i n) [ inl l ↦ a i l | inr l ↦ ap (λ (x : ℕ). dirty (line slots x)) (omega arith) ∙ c ]

  -- a line that does not wait changes nothing
  low_same : (h : ℕ) → Lowest slots n h → dirty (line slots n) ≡ false → Lowest slots (n + 1) h
  low_same h w c = record {
    at = w.at;
    low = omega (arith, w.low);
    waits = w.waits;
    least = λ j q l e. elim (cases_lt j n) [
      | inl x ↦ w.least j q x e
      | inr x ↦ absurd (undirty (line slots j) q e (ap (λ (y : ℕ). dirty (line slots y)) (omega arith) ∙ c))
    ];
  }

  low_first : (h : ℕ) → AllClean slots n → line slots n ≡ Dirty h → Lowest slots (n + 1) h
  low_first h a e = record {
    at = n;
    low = omega arith;
    waits = e;
    least = λ j q l f. elim (cases_lt j n) [
      | inl x ↦ absurd (undirty (line slots j) q f (a j x))
      | inr x ↦ let same = dirty_dirty h q (sym e ∙ ap (λ (y : ℕ). line slots y) (omega arith) ∙ f) in omega arith
    ];
  }

  low_min : (k h : ℕ) → Lowest slots n k → line slots n ≡ Dirty h → Lowest slots (n + 1) (min k h)
  low_min k h w e =
      let least : (j q : ℕ) → j < n + 1 → line slots j ≡ Dirty q → min k h ≤ q = λ j q l f. elim (cases_lt j n) [
        | inl x ↦ omega (arith, w.least j q x f)
        | inr x ↦ let same = dirty_dirty h q (sym e ∙ ap (λ (y : ℕ). line slots y) (omega arith) ∙ f) in omega arith
      ] in
      elim (cases_lt k h) [
        | inl x ↦ record { at = w.at; low = omega (arith, w.low); waits = w.waits ∙ ap Dirty (omega arith); least = least }
        | inr x ↦ record { at = n; low = omega arith; waits = e ∙ ap Dirty (omega arith); least = least }
      ]

  low_more : (xs : List ℕ) (o : Option ℕ) → waiting (line slots n) ≡ o → OnLowest slots n (reduce min xs) → OnLowest slots (n + 1) (reduce min (xs ++ cons_option o []))
  low_more [] None e w = clean_more w (not_waiting (line slots n) e)
  low_more [] (Some h) e w = low_first h w (waiting_as (line slots n) h e)
  low_more (x ∷ xs) None e w = subst (λ (ys : List ℕ). OnLowest slots (n + 1) (reduce min (x ∷ ys))) (sym (append-nil xs)) (low_same _ w (not_waiting (line slots n) e))
  low_more (x ∷ xs) (Some h) e w = subst (λ (k : ℕ). Lowest slots (n + 1) k) (sym (fold-append min x xs (h ∷ []))) (low_min _ h w (waiting_as (line slots n) h e))

lowest_is : (slots : List Slot) (n : ℕ) → n ≤ length slots → OnLowest slots n (lowest slots n)
lowest_is slots zero le = λ i l. absurd (omega arith)
lowest_is slots (suc n) le =
    let waits = λ (z : List Slot). filter_map (λ (x : Slot). waiting x.line) z in
    let more : waits (take (n + 1) slots) ≡ waits (take n slots) ++ cons_option (waiting (line slots n)) [] =
    ap waits (take_more slots n (record { line = Empty; bytes = [] }) (omega arith)) ∙ filter_map-append (λ (x : Slot). waiting x.line) (take n slots) _ in
    subst (λ (k : ℕ). OnLowest slots k (lowest slots k)) (add-one n)
    (subst (λ (ys : List ℕ). OnLowest slots (n + 1) (reduce min ys)) (sym more) (low_more slots n (waits (take n slots)) (waiting (line slots n)) refl (lowest_is slots n (omega arith))))

pub on_lowest : (slots : List Slot) (n : ℕ) (o : Option ℕ) → length slots ≡ 16 → n ≤ 16 → o ≡ lowest slots n → OnLowest slots n o
on_lowest slots n o wide few e = subst (λ (x : Option ℕ). OnLowest slots n x) (sym e) (lowest_is slots n (omega arith))

-- fewer lines wait once one that waited is clean
pub waiting_less : (slots : List Slot) (i h q : ℕ) (b : List ℕ) → i < length slots → line slots i ≡ Dirty q →
    count_by (λ (x : Slot). dirty x.line) (stored slots i (Clean h) b) < count_by (λ (x : Slot). dirty x.line) slots
waiting_less slots i h q b low e =
    let count = λ (z : List Slot). count_by (λ (x : Slot). dirty x.line) z in
    let less : count (stored slots i (Clean h) b) + cond (dirty (line slots i)) 1 0 ≡ count slots + 0 =
    sum_by-set (λ (x : Slot). cond (dirty x.line) 1 0) slots i (record { line = Clean h; bytes = b }) (record { line = Empty; bytes = [] }) low in
    let one : ◌≡◌ {A = ℕ} (cond (dirty (line slots i)) 1 0) 1 = ap (λ (l : Line). cond (dirty l) 1 0) e in
    omega arith

-- what waits after the lowest went down lies above it
pub above_next : (slots : List Slot) (n : ℕ) (xs : List ℕ) (i h : ℕ) (b : List ℕ) → Kept slots n xs → Some h ≡ lowest slots n → length slots ≡ 16 → n ≤ 16 → i < n → i < length slots → line slots i ≡ Dirty h →
    (j q : ℕ) → j < n → line (stored slots i (Clean h) b) j ≡ Dirty q → h < q
above_next slots n xs i h b kept lowest long few il wide is j q jl e =
    let low = on_lowest slots n (Some h) long few lowest in
    let x : Slot = record { line = Clean h; bytes = b } in
    elim (cases_eq j i) [
      | inl p ↦ absurd (undirty (line (set slots i x) j) q e (ap dirty (ap (λ (k : ℕ). line (set slots i x) k) p ∙ new_line slots i x wide)))
      | inr p ↦ let old = sym (old_line slots i x j p) ∙ e in
          let at_j = kept.home j q jl (ap (λ (l : Line). held l q) old ∙ eq-eqb q q refl) in
          let at_i = kept.home i h il (ap (λ (l : Line). held l h) is ∙ eq-eqb h h refl) in
          let ne : h ≡ q → ⊥ = λ s. p (sym at_j ∙ ap (λ (k : ℕ). k % n) (sym s) ∙ at_i) in
          omega (arith, low.least j q jl old)
    ]

-- the lowest waits in its own line, and the cache lives
pub low_home : (slots : List Slot) (n : ℕ) (m : Meaning) (h : ℕ) → InOrder slots n false m → Some h ≡ lowest slots n → (m.lives ≡ true) × (h % n < n) × (line slots (h % n) ≡ Dirty h)
low_home slots n m h i-o e =
    let low = on_lowest slots n (Some h) i-o.slots_long i-o.few_lines e in
    let holds : held (line slots low.at) h ≡ true = ap (λ (l : Line). held l h) low.waits ∙ eq-eqb h h refl in
    let lives = lives_holding slots n m i-o low.at h holds in
    let home = (i-o.kept lives).home low.at h low.low holds in
    (lives, omega (arith, low.low), ap (λ (x : ℕ). line slots x) home ∙ low.waits)
