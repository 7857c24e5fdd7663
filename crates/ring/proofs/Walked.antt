-- How a walk ends, and what it has found then.
--   Finds n p u rs   the n elements from position p on are the records rs, with u bytes in use before
--   Stops n p u q    behind some records from p on, fewer than n, the place q has no element
use Rattle.std.proofs.Common.{◌≡◌, ℕ, zero, suc, ◌+◌, ◌-◌, ◌<◌, ◌≤◌, true, false, not, ◌&&◌, ◌||◌, eqb, ltb, ◌⊎◌, List, [], ◌∷◌, ◌++◌, length, take, sym, refl, ap, ◌∙◌, subst, inl, inr, arith}
use Rattle.std.proofs.lemmas.Bool.{cases_Bool, both_ways, or_cases, or_parts, or_from, or_left, or_right, and_parts, and_from, and_cases, and_left, and_right, ltb-true, ltb-false, lt-ltb, le-ltb, eqb-true, eqb-false, eq-eqb, ne_eqb, not-true, not-false, not_from_true, not_from_false, cond-true, cond-false}
use Rattle.ring.specs.Bytes.{number, stretch}
use Rattle.ring.specs.Ring.{place, taken}
use Rattle.ring.specs.Reading.{Found, Records, NotAQueue, BrokenRecord, before, breaks, walk}
use Rattle.ring.proofs.Stretches.{length_stretch}
use Rattle.ring.proofs.Elements.{Elements}

pub before_records : (r : List ℕ) (x : Found) (rs : List (List ℕ)) → before r x ≡ Records rs → (ss : List (List ℕ)) × (x ≡ Records ss) × (rs ≡ r ∷ ss)
before_records r (Records ss) rs e = (ss, refl, cc)
before_records r NotAQueue rs e = let z : ◌≡◌ {A = ℕ} 0 1 = cc in absurd (omega arith)
before_records r (BrokenRecord p) rs e = let z : ◌≡◌ {A = ℕ} 0 1 = cc in absurd (omega arith)

pub before_broken : (r : List ℕ) (x : Found) (q : ℕ) → before r x ≡ BrokenRecord q → x ≡ BrokenRecord q
before_broken r (Records ss) q e = let z : ◌≡◌ {A = ℕ} 0 1 = cc in absurd (omega arith)
before_broken r NotAQueue q e = e
before_broken r (BrokenRecord p) q e = e

before_not : (r : List ℕ) (x : Found) → before r x ≡ NotAQueue → x ≡ NotAQueue
before_not r (Records ss) e = let z : ◌≡◌ {A = ℕ} 0 1 = cc in absurd (omega arith)
before_not r NotAQueue e = e
before_not r (BrokenRecord p) e = e

-- all but the last of some records
front_more : (n : ℕ) (r : List ℕ) (rs : List (List ℕ)) → taken (take (suc (suc n) - 1) (r ∷ rs)) ≡ 4 + length r + taken (take (suc n - 1) rs)
front_more n r rs =
    let a : suc (suc n) - 1 ≡ suc n = omega arith in
    let b : n ≡ suc n - 1 = omega arith in
    ap (λ (k : ℕ). taken (take k (r ∷ rs))) a ∙ ap (λ (k : ℕ). 4 + length r + taken (take k rs)) b

module _ (most g last : ℕ) where
  -- an element that is not broken
  pub whole_parts : (left n p u : ℕ) → breaks most g last left n p u ≡ false → (n ≤ most) × (u + (4 + n) ≤ g) × (left ≡ 0 → p ≡ last)
  whole_parts left n p u e =
      let x = or_parts (ltb most n) (ltb g (u + (4 + n)) || (eqb left 0 && not (eqb p last))) e in
      let y = or_parts (ltb g (u + (4 + n))) (eqb left 0 && not (eqb p last)) x.1 in (
        ltb-false most n x.0,
        ltb-false g (u + (4 + n)) y.0,
        λ z. elim (and_cases (eqb left 0) (not (eqb p last)) y.1) [
          | inl a ↦ absurd (both_ways (eqb left 0) a (eq-eqb left 0 z))
          | inr a ↦ eqb-true p last (not-false (eqb p last) a)
        ],
      )

  pub whole_from : (left n p u : ℕ) → n ≤ most → u + (4 + n) ≤ g → (left ≡ 0 → p ≡ last) → breaks most g last left n p u ≡ false
  whole_from left n p u a b c =
      or_from (ltb most n) (ltb g (u + (4 + n)) || (eqb left 0 && not (eqb p last))) (le-ltb most n a)
      (or_from (ltb g (u + (4 + n))) (eqb left 0 && not (eqb p last)) (le-ltb g (u + (4 + n)) b)
      (elim (cases_Bool (eqb left 0)) [
        | inl z ↦ and_right (eqb left 0) (not (eqb p last)) (not_from_true (eqb p last) (eq-eqb p last (c (eqb-true left 0 z))))
        | inr z ↦ and_left (eqb left 0) (not (eqb p last)) z
      ]))

  pub broken_parts : (left n p u : ℕ) → breaks most g last left n p u ≡ true → (most < n) ⊎ ((g < u + (4 + n)) ⊎ ((left ≡ 0) × (p ≡ last → ⊥)))
  broken_parts left n p u e = elim (or_cases (ltb most n) (ltb g (u + (4 + n)) || (eqb left 0 && not (eqb p last))) e) [
    | inl a ↦ inl (ltb-true most n a)
    | inr a ↦ elim (or_cases (ltb g (u + (4 + n))) (eqb left 0 && not (eqb p last)) a) [
      | inl b ↦ inr (inl (ltb-true g (u + (4 + n)) b))
      | inr b ↦ let x = and_parts (eqb left 0) (not (eqb p last)) b in inr (inr (eqb-true left 0 x.0, eqb-false p last (not-true (eqb p last) x.1)))
    ]
  ]

  pub broken_from : (left n p u : ℕ) → (most < n) ⊎ ((g < u + (4 + n)) ⊎ ((left ≡ 0) × (p ≡ last → ⊥))) → breaks most g last left n p u ≡ true
  broken_from left n p u (inl a) = or_left (ltb most n) (ltb g (u + (4 + n)) || (eqb left 0 && not (eqb p last))) (lt-ltb most n a)
  broken_from left n p u (inr (inl a)) =
      or_right (ltb most n) (ltb g (u + (4 + n)) || (eqb left 0 && not (eqb p last))) (or_left (ltb g (u + (4 + n))) (eqb left 0 && not (eqb p last)) (lt-ltb g (u + (4 + n)) a))
  broken_from left n p u (inr (inr a)) =
      or_right (ltb most n) (ltb g (u + (4 + n)) || (eqb left 0 && not (eqb p last))) (or_right (ltb g (u + (4 + n))) (eqb left 0 && not (eqb p last))
      (and_from (eqb left 0) (not (eqb p last)) (eq-eqb left 0 a.0) (not_from_false (eqb p last) (ne_eqb p last a.1))))

module _ (w most g last : ℕ) (f : ℕ → ℕ) where
  pub record Finds (n p u : ℕ) (rs : List (List ℕ)) : Type 0 where
    pub many : length rs ≡ n
    pub room : u + taken rs ≤ g
    pub ends : 0 < n → place w g (p + taken (take (n - 1) rs)) ≡ last
    pub elements : Elements most f p rs

  pub record Stops (n p u q : ℕ) : Type 0 where
    pub rs : List (List ℕ)
    pub elements : Elements most f p rs
    pub room : u + taken rs ≤ g
    pub fewer : length rs < n
    pub there : q ≡ place w g (p + taken rs)
    pub why : (most < number f (p + taken rs)) ⊎ ((g < u + taken rs + (4 + number f (p + taken rs))) ⊎ ((length rs + 1 ≡ n) × (q ≡ last → ⊥)))

  pub walk_none : (p u : ℕ) → walk w most g last f 0 p u ≡ Records []
  unfolding walk
  walk_none p u = refl

  -- the walk goes on behind a whole element
  pub walk_on : (left p u : ℕ) → breaks most g last left (number f p) (place w g p) u ≡ false →
      walk w most g last f (suc left) p u ≡ before (stretch f (p + 4) (number f p)) (walk w most g last f left (p + (4 + number f p)) (u + (4 + number f p)))
  unfolding walk
  walk_on left p u e = cond-false (breaks most g last left (number f p) (place w g p) u) _ _ e

  -- and ends at a broken one
  pub walk_ends : (left p u : ℕ) → breaks most g last left (number f p) (place w g p) u ≡ true → walk w most g last f (suc left) p u ≡ BrokenRecord (place w g p)
  unfolding walk
  walk_ends left p u e = cond-true (breaks most g last left (number f p) (place w g p) u) _ _ e

  -- the element at p, before others
  first_element : (p : ℕ) (rs : List (List ℕ)) → number f p ≤ most → Elements most f (p + (4 + number f p)) rs → Elements most f p (stretch f (p + 4) (number f p) ∷ rs)
  first_element p rs s e =
      let n : length (stretch f (p + 4) (number f p)) ≡ number f p = length_stretch f (p + 4) (number f p) in
      (sym n, ap (stretch f (p + 4)) n, omega arith, subst (λ (k : ℕ). Elements most f (p + (4 + k)) rs) (sym n) e)

  pub walk_finds : (n p u : ℕ) (rs : List (List ℕ)) → u ≤ g → walk w most g last f n p u ≡ Records rs → Finds n p u rs
  walk_finds zero p u rs l e =
      let is : Records [] ≡ Records rs = sym (walk_none p u) ∙ e in
      let same : [] ≡ rs = cc in
      subst (λ (x : List (List ℕ)). Finds zero p u x) same (record { many = refl; room = omega arith; ends = λ s. absurd (omega arith); elements = tt })
  walk_finds (suc n) p u rs l e = elim (cases_Bool (breaks most g last n (number f p) (place w g p) u)) [
    | inl b ↦ let x = sym (walk_ends n p u b) ∙ e in let z : ◌≡◌ {A = ℕ} 0 1 = cc in absurd (omega arith)
    | inr b ↦
        let parts = whole_parts most g last n (number f p) (place w g p) u b in
        let r = stretch f (p + 4) (number f p) in
        let nr : length r ≡ number f p = length_stretch f (p + 4) (number f p) in
        let x = before_records r (walk w most g last f n (p + (4 + number f p)) (u + (4 + number f p))) rs (sym (walk_on n p u b) ∙ e) in
        let i = walk_finds n (p + (4 + number f p)) (u + (4 + number f p)) x.0 parts.1 x.1 in
        subst (λ (y : List (List ℕ)). Finds (suc n) p u y) (sym x.2) (record {
          many = ap suc i.many;
          room = omega (arith, i.room);
          ends = λ _. ends_behind n p r x.0 nr parts.2 i.ends;
          elements = first_element p x.0 parts.0 i.elements;
        })
  ]
    where
      ends_behind : (n p : ℕ) (r : List ℕ) (ss : List (List ℕ)) → length r ≡ number f p → (n ≡ 0 → place w g p ≡ last) → (0 < n → place w g (p + (4 + number f p) + taken (take (n - 1) ss)) ≡ last) →
          place w g (p + taken (take (suc n - 1) (r ∷ ss))) ≡ last
      ends_behind zero p r ss nr here on = ap (place w g) (omega arith) ∙ here refl
      ends_behind (suc n) p r ss nr here on = ap (place w g) (omega (arith, front_more n r ss)) ∙ on (omega arith)

  pub finds_walk : (n p u : ℕ) (rs : List (List ℕ)) → Finds n p u rs → walk w most g last f n p u ≡ Records rs
  finds_walk zero p u [] i = walk_none p u
  finds_walk zero p u (r ∷ rs) i = absurd (omega (arith, i.many))
  finds_walk (suc n) p u [] i = absurd (omega (arith, i.many))
  finds_walk (suc n) p u (r ∷ rs) i =
      let e = i.elements in
      let b : breaks most g last n (number f p) (place w g p) u ≡ false =
      whole_from most g last n (number f p) (place w g p) u (omega (arith, e.0, e.2)) (omega (arith, e.0, i.room))
      (λ z. ap (place w g) (only n p z) ∙ i.ends (omega arith)) in
      let on = finds_walk n (p + (4 + length r)) (u + (4 + length r)) rs (record {
        many = omega (arith, i.many);
        room = omega (arith, i.room);
        ends = λ s. ap (place w g) (behind n p s) ∙ i.ends (omega arith);
        elements = e.3;
      }) in
      walk_on n p u b ∙ ap (λ (k : ℕ). before (stretch f (p + 4) k) (walk w most g last f n (p + (4 + k)) (u + (4 + k)))) e.0
      ∙ ap (before (stretch f (p + 4) (length r))) on ∙ ap (λ (x : List ℕ). Records (x ∷ rs)) e.1
    where
      only : (n p : ℕ) → n ≡ 0 → p ≡ p + taken (take (suc n - 1) (r ∷ rs))
      only zero p z = omega arith
      only (suc n) p z = absurd (omega arith)

      behind : (n p : ℕ) → 0 < n → p + (4 + length r) + taken (take (n - 1) rs) ≡ p + taken (take (suc n - 1) (r ∷ rs))
      behind zero p s = absurd (omega arith)
      behind (suc n) p s = omega (arith, front_more n r rs)

  pub walk_stops : (n p u q : ℕ) → u ≤ g → walk w most g last f n p u ≡ BrokenRecord q → Stops n p u q
  walk_stops zero p u q l e = let x = sym (walk_none p u) ∙ e in let z : ◌≡◌ {A = ℕ} 0 1 = cc in absurd (omega arith)
  walk_stops (suc n) p u q l e = elim (cases_Bool (breaks most g last n (number f p) (place w g p) u)) [
    | inl b ↦
        let x = sym (walk_ends n p u b) ∙ e in
        let there : q ≡ place w g p = cc in
        let none : p ≡ p + taken [] = omega arith in
        record {
          rs = [];
          elements = tt;
          room = omega arith;
          fewer = omega arith;
          there = there ∙ ap (place w g) none;
          why = elim (broken_parts most g last n (number f p) (place w g p) u b) [
            | inl a ↦ inl (omega (arith, ap (number f) none))
            | inr a ↦ inr (elim a [ inl y ↦ inl (omega (arith, ap (number f) none)) | inr y ↦ inr (omega (arith, y.0), λ z. y.1 (sym there ∙ z)) ])
          ];
        }
    | inr b ↦
        let parts = whole_parts most g last n (number f p) (place w g p) u b in
        let r = stretch f (p + 4) (number f p) in
        let nr : length r ≡ number f p = length_stretch f (p + 4) (number f p) in
        let x = before_broken r (walk w most g last f n (p + (4 + number f p)) (u + (4 + number f p))) q (sym (walk_on n p u b) ∙ e) in
        let i = walk_stops n (p + (4 + number f p)) (u + (4 + number f p)) q parts.1 x in
        let on : p + (4 + number f p) + taken i.rs ≡ p + taken (r ∷ i.rs) = omega arith in
        record {
          rs = r ∷ i.rs;
          elements = first_element p i.rs parts.0 i.elements;
          room = omega (arith, i.room);
          fewer = omega (arith, i.fewer);
          there = i.there ∙ ap (place w g) on;
          why = elim i.why [
            | inl a ↦ inl (omega (arith, ap (number f) on))
            | inr a ↦ inr (elim a [ inl y ↦ inl (omega (arith, ap (number f) on)) | inr y ↦ inr (omega (arith, y.0), y.1) ])
          ];
        }
  ]

  pub stops_walk : (n p u q : ℕ) → Stops n p u q → walk w most g last f n p u ≡ BrokenRecord q
  stops_walk n p u q i = go n p u i.rs i.elements i.room i.fewer i.there i.why
    where
      go : (n p u : ℕ) (rs : List (List ℕ)) → Elements most f p rs → u + taken rs ≤ g → length rs < n → q ≡ place w g (p + taken rs) →
          (most < number f (p + taken rs)) ⊎ ((g < u + taken rs + (4 + number f (p + taken rs))) ⊎ ((length rs + 1 ≡ n) × (q ≡ last → ⊥))) →
          walk w most g last f n p u ≡ BrokenRecord q
      go zero p u rs e room fewer there why = absurd (omega arith)
      go (suc n) p u [] e room fewer there why =
          let none : p + taken [] ≡ p = omega arith in
          let here : q ≡ place w g p = there ∙ ap (place w g) none in
          walk_ends n p u (broken_from most g last n (number f p) (place w g p) u (elim why [
            | inl a ↦ inl (omega (arith, ap (number f) none))
            | inr a ↦ inr (elim a [ inl y ↦ inl (omega (arith, ap (number f) none)) | inr y ↦ inr (omega (arith, y.0), λ z. y.1 (here ∙ z)) ])
          ])) ∙ ap BrokenRecord (sym here)
      go (suc n) p u (r ∷ rs) e room fewer there why =
          let b : breaks most g last n (number f p) (place w g p) u ≡ false =
          whole_from most g last n (number f p) (place w g p) u (omega (arith, e.0, e.2)) (omega (arith, e.0)) (λ z. absurd (omega arith)) in
          let on : p + taken (r ∷ rs) ≡ p + (4 + length r) + taken rs = omega arith in
          walk_on n p u b ∙ ap (λ (k : ℕ). before (stretch f (p + 4) k) (walk w most g last f n (p + (4 + k)) (u + (4 + k)))) e.0
          ∙ ap (before (stretch f (p + 4) (length r))) (go n (p + (4 + length r)) (u + (4 + length r)) rs e.3 (omega arith) (omega arith) (there ∙ ap (place w g) on)
          (elim why [
            | inl a ↦ inl (omega (arith, ap (number f) on))
            | inr a ↦ inr (elim a [ inl y ↦ inl (omega (arith, ap (number f) on)) | inr y ↦ inr (omega (arith, y.0), y.1) ])
          ]))

  pub walk_queue : (n p u : ℕ) → walk w most g last f n p u ≡ NotAQueue → ⊥
  walk_queue zero p u e = let x = sym (walk_none p u) ∙ e in let z : ◌≡◌ {A = ℕ} 0 1 = cc in omega arith
  walk_queue (suc n) p u e = elim (cases_Bool (breaks most g last n (number f p) (place w g p) u)) [
    | inl b ↦ let x = sym (walk_ends n p u b) ∙ e in let z : ◌≡◌ {A = ℕ} 0 1 = cc in omega arith
    | inr b ↦ walk_queue n (p + (4 + number f p)) (u + (4 + number f p)) (before_not (stretch f (p + 4) (number f p)) (walk w most g last f n (p + (4 + number f p)) (u + (4 + number f p))) (sym (walk_on n p u b) ∙ e))
  ]

-- records before what is found behind them
abbrev pub befores : List (List ℕ) → Found → Found
befores [] x = x
befores (r ∷ rs) x = before r (befores rs x)

pub befores_more : (rs : List (List ℕ)) (r : List ℕ) (x : Found) → befores rs (before r x) ≡ befores (rs ++ (r ∷ [])) x
befores_more [] r x = refl
befores_more (q ∷ rs) r x = ap (before q) (befores_more rs r x)

pub befores_none : (rs : List (List ℕ)) → befores rs (Records []) ≡ Records rs
befores_none [] = refl
befores_none (r ∷ rs) = ap (before r) (befores_none rs)

pub befores_broken : (rs : List (List ℕ)) (p : ℕ) → befores rs (BrokenRecord p) ≡ BrokenRecord p
befores_broken [] p = refl
befores_broken (r ∷ rs) p = ap (before r) (befores_broken rs p)
