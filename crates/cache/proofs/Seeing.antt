-- What a cache shows stays as it is when a line goes down or is fetched, and takes a write.
use Rattle.std.proofs.lemmas.List.{ext_get_or}
use Rattle.std.proofs.Common.{◌≡◌, ℕ, ◌+◌, ◌-◌, ◌*◌, ◌/◌, ◌%◌, ◌<◌, ◌≤◌, true, false, cond, eqb, ◌⊎◌, List, length, get_or, set, sym, refl, ap, ◌∙◌, subst, inl, inr, mod-lt, arith, length-set, get_or-set_other, get_or-set_same}
use Rattle.std.proofs.lemmas.List.FromFn.{get_or-map-range_with_len}
use Rattle.std.proofs.lemmas.Bool.{cases_lt, cases_eq, cases_Bool, eqb-true, eqb-false, eq-eqb, ne_eqb, cond-true, cond-false, both_ways}
use Rattle.storage.specs.Cells.{laid, part, length_part}
use Rattle.storage.proofs.Lists.{part_at, laid_apart, laid_within, length_laid}
use Rattle.cache.specs.declared.line.Line.{Line}
use Rattle.cache.specs.declared.line.Line.TheVariants.{Empty, Clean, Dirty}
use Rattle.cache.specs.declared.slot.Slot.{Slot}
use Rattle.cache.specs.Lines.{held, dirty, slot, line, content, stored, shows, seen, length_seen, Kept}

pub seen_at : (slots : List Slot) (n : ℕ) (xs : List ℕ) (k : ℕ) → k < length xs → get_or (seen slots n xs) k 0 ≡ shows slots n xs k
unfolding seen
seen_at slots n xs k l = get_or-map-range_with_len (shows slots n xs) 0 (length xs) k k 0 l (omega arith)

-- two caches that show the same bytes
pub seen_same : (slots slots' : List Slot) (n : ℕ) (xs xs' : List ℕ) → length xs' ≡ length xs →
    ((k : ℕ) → k < length xs → shows slots' n xs' k ≡ shows slots n xs k) → seen slots' n xs' ≡ seen slots n xs
seen_same slots slots' n xs xs' l f =
    ext_get_or 0 (seen slots' n xs') (seen slots n xs) (length_seen slots' n xs' ∙ l ∙ sym (length_seen slots n xs))
    (λ k h. let lt : k < length xs = omega (arith, length_seen slots' n xs') in
    seen_at slots' n xs' k (omega arith) ∙ f k lt ∙ sym (seen_at slots n xs k lt))

-- a clean or empty line that holds a sector is the clean one of it
clean_of : (l : Line) (s : ℕ) → dirty l ≡ false → held l s ≡ true → l ≡ Clean s
clean_of Empty s d h = absurd (both_ways false refl h)
clean_of (Clean h) s d e = ap Clean (eqb-true h s e)
clean_of (Dirty h) s d e = absurd (both_ways true d refl)

-- where the byte k lies
sector_of : (k : ℕ) → k / 512 * 512 + k % 512 ≡ k
sector_of k = omega arith

module _ (slots : List Slot) (n : ℕ) (xs : List ℕ) (kept : Kept slots n xs) (some : 0 < n) where
  -- a byte whose line is not dirty is the one below
  pub plain : (k : ℕ) → dirty (line slots (k / 512 % n)) ≡ false → shows slots n xs k ≡ get_or xs k 0
  plain k d = elim (cases_Bool (held (line slots (k / 512 % n)) (k / 512))) [
    | inl h ↦ cond-true (held (line slots (k / 512 % n)) (k / 512)) _ _ h
        ∙ kept.clean (k / 512 % n) (k / 512) (k % 512) (mod-lt (k / 512) some) (clean_of (line slots (k / 512 % n)) (k / 512) d h) (omega arith)
        ∙ ap (λ (i : ℕ). get_or xs i 0) (sector_of k)
    | inr h ↦ cond-false (held (line slots (k / 512 % n)) (k / 512)) _ _ h
  ]

  -- once no line is dirty the cache shows what is below
  pub seen_below : ((i : ℕ) → i < n → dirty (line slots i) ≡ false) → seen slots n xs ≡ xs
  seen_below clean = ext_get_or 0 (seen slots n xs) xs (length_seen slots n xs)
      (λ k l. seen_at slots n xs k (omega (arith, length_seen slots n xs)) ∙ plain k (clean (k / 512 % n) (mod-lt (k / 512) some)))

held_self : (l : Line) (s h : ℕ) → (l ≡ Clean h) ⊎ (l ≡ Dirty h) → held l s ≡ true → h ≡ s
held_self l s h (inl e) f = eqb-true h s (subst (λ (x : Line). held x s ≡ true) e f)
held_self l s h (inr e) f = eqb-true h s (subst (λ (x : Line). held x s ≡ true) e f)

pub both_held : (l : Line) (s h : ℕ) → held l s ≡ true → held l h ≡ true → s ≡ h
both_held Empty s h e f = absurd (both_ways false refl e)
both_held (Clean q) s h e f = sym (eqb-true q s e) ∙ eqb-true q h f
both_held (Dirty q) s h e f = sym (eqb-true q s e) ∙ eqb-true q h f

-- the slot i is x now
module _ (slots : List Slot) (i : ℕ) (x : Slot) where
  pub new_slot : i < length slots → slot (set slots i x) i ≡ x
  new_slot low = get_or-set_same slots i x _ low

  pub old_slot : (j : ℕ) → (j ≡ i → ⊥) → slot (set slots i x) j ≡ slot slots j
  old_slot j ne = get_or-set_other slots i j x _ ne

  pub new_line : i < length slots → line (set slots i x) i ≡ x.line
  new_line low = ap (λ (z : Slot). z.line) (new_slot low)

  pub old_line : (j : ℕ) → (j ≡ i → ⊥) → line (set slots i x) j ≡ line slots j
  old_line j ne = ap (λ (z : Slot). z.line) (old_slot j ne)

  pub length_stored : length (set slots i x) ≡ length slots
  length_stored = length-set slots i x

  pub bytes_stored : i < length slots → length x.bytes ≡ 512 → ((j : ℕ) → j < 16 → length (content slots j) ≡ 512) → (j : ℕ) → j < 16 → length (content (set slots i x) j) ≡ 512
  bytes_stored low long all j jl = elim (cases_eq j i) [
    | inl p ↦ ap (λ (k : ℕ). length (content (set slots i x) k)) p ∙ ap (λ (z : Slot). length z.bytes) (new_slot low) ∙ long
    | inr p ↦ ap (λ (z : Slot). length z.bytes) (old_slot j p) ∙ all j jl
  ]

-- the slot i holds the sector h now; it is the one of h
module _ (slots : List Slot) (n : ℕ) (xs : List ℕ) (kept : Kept slots n xs)
    (few : n ≤ 16) (wide : length slots ≡ 16) (i h : ℕ) (low : i < n) (home : h % n ≡ i) (fits : h * 512 + 512 ≤ length xs) where
  in_slots : i < length slots
  in_slots = omega arith

  -- what the slots must keep
  kept_with : (l : Line) (b xs' : List ℕ) → (l ≡ Clean h) ⊎ (l ≡ Dirty h) → length xs' ≡ length xs →
      (l ≡ Clean h → (r : ℕ) → r < 512 → get_or b r 0 ≡ get_or xs' (h * 512 + r) 0) →
      ((s r : ℕ) → (s ≡ h → ⊥) → r < 512 → get_or xs' (s * 512 + r) 0 ≡ get_or xs (s * 512 + r) 0) → Kept (stored slots i l b) n xs'
  kept_with l b xs' is long at_i below =
      let now = stored slots i l b in
      let here : (j s : ℕ) → j ≡ i → held (line now j) s ≡ true → h ≡ s =
      λ j s p e. held_self l s h is (subst (λ (x : Line). held x s ≡ true) (ap (λ (x : ℕ). line now x) p ∙ new_line slots i (record { line = l; bytes = b }) in_slots) e) in
      let there : (j s : ℕ) → (j ≡ i → ⊥) → held (line now j) s ≡ true → held (line slots j) s ≡ true =
      λ j s p e. subst (λ (x : Line). held x s ≡ true) (old_line slots i (record { line = l; bytes = b }) j p) e in
      record {
        clean = λ j s r lt e rl.
            let hold : held (line now j) s ≡ true = ap (λ (x : Line). held x s) e ∙ eq-eqb s s refl in
            elim (cases_eq j i) [
              | inl p ↦ let hs = here j s p hold in
                  let c : l ≡ Clean h = sym (ap (λ (x : ℕ). line now x) p ∙ new_line slots i (record { line = l; bytes = b }) in_slots) ∙ e ∙ ap Clean (sym hs) in
                  ap (λ (x : ℕ). get_or (content now x) r 0) p ∙ ap (λ (x : Slot). get_or x.bytes r 0) (new_slot slots i (record { line = l; bytes = b }) in_slots)
                  ∙ at_i c r rl ∙ ap (λ (x : ℕ). get_or xs' (x * 512 + r) 0) hs
              | inr p ↦ ap (λ (x : Slot). get_or x.bytes r 0) (old_slot slots i (record { line = l; bytes = b }) j p)
                  ∙ kept.clean j s r lt (sym (old_line slots i (record { line = l; bytes = b }) j p) ∙ e) rl
                  ∙ sym (below s r (λ q. p (sym (kept.home j s lt (there j s p hold)) ∙ ap (λ (x : ℕ). x % n) q ∙ home)) rl)
            ];
        home = λ j s lt e. elim (cases_eq j i) [
          | inl p ↦ ap (λ (x : ℕ). x % n) (sym (here j s p e)) ∙ home ∙ sym p
          | inr p ↦ kept.home j s lt (there j s p e)
        ];
        within = λ j s lt e. elim (cases_eq j i) [
          | inl p ↦ let hs = here j s p e in omega arith
          | inr p ↦ omega (arith, kept.within j s lt (there j s p e))
        ];
      }

  -- the byte k, by whether its line is line i
  shows_at : (l : Line) (b xs' : List ℕ) (k : ℕ) → k / 512 % n ≡ i →
      shows (stored slots i l b) n xs' k ≡ cond (held l (k / 512)) (get_or b (k % 512) 0) (get_or xs' k 0)
  shows_at l b xs' k e =
      ap (λ (j : ℕ). cond (held (line (stored slots i l b) j) (k / 512)) (get_or (content (stored slots i l b) j) (k % 512) 0) (get_or xs' k 0)) e
      ∙ ap (λ (x : Slot). cond (held x.line (k / 512)) (get_or x.bytes (k % 512) 0) (get_or xs' k 0)) (new_slot slots i (record { line = l; bytes = b }) in_slots)

  shown_at : (k : ℕ) → k / 512 % n ≡ i → shows slots n xs k ≡ cond (held (line slots i) (k / 512)) (get_or (content slots i) (k % 512) 0) (get_or xs k 0)
  shown_at k e = ap (λ (j : ℕ). cond (held (line slots j) (k / 512)) (get_or (content slots j) (k % 512) 0) (get_or xs k 0)) e

  shows_other : (l : Line) (b xs' : List ℕ) (k : ℕ) → (k / 512 % n ≡ i → ⊥) → get_or xs' k 0 ≡ get_or xs k 0 →
      shows (stored slots i l b) n xs' k ≡ shows slots n xs k
  shows_other l b xs' k ne f =
      ap (λ (x : Slot). cond (held x.line (k / 512)) (get_or x.bytes (k % 512) 0) (get_or xs' k 0)) (old_slot slots i (record { line = l; bytes = b }) (k / 512 % n) ne)
      ∙ ap (λ (x : ℕ). cond (held (line slots (k / 512 % n)) (k / 512)) (get_or (content slots (k / 512 % n)) (k % 512) 0) x) f

  module _ (long : length (content slots i) ≡ 512) where
    -- a dirty line goes down
    module _ (is : line slots i ≡ Dirty h) where
      abbrev gone_down : List ℕ
      gone_down = laid (h * 512) (content slots i) xs

      down_fits : h * 512 + length (content slots i) ≤ length xs
      down_fits = omega arith

      down_apart : (k : ℕ) → (k / 512 ≡ h → ⊥) → get_or gone_down k 0 ≡ get_or xs k 0
      down_apart k ne = laid_apart (h * 512) (content slots i) xs k down_fits (elim (cases_lt k (h * 512)) [ inl x ↦ inl x | inr x ↦ inr (let y : h < k / 512 = omega arith in omega arith) ])

      pub length_down : length gone_down ≡ length xs
      length_down = length_laid (h * 512) (content slots i) xs down_fits

      pub down_seen : seen (stored slots i (Clean h) (content slots i)) n gone_down ≡ seen slots n xs
      down_seen = seen_same slots (stored slots i (Clean h) (content slots i)) n xs gone_down length_down (λ k lt. elim (cases_eq (k / 512 % n) i) [
        | inl p ↦ shows_at (Clean h) (content slots i) gone_down k p
            ∙ elim (cases_Bool (eqb h (k / 512))) [
              | inl e ↦ cond-true (eqb h (k / 512)) _ _ e ∙ sym (cond-true (eqb h (k / 512)) _ _ e)
              | inr e ↦ cond-false (eqb h (k / 512)) _ _ e ∙ down_apart k (λ q. eqb-false h (k / 512) e (sym q)) ∙ sym (cond-false (eqb h (k / 512)) _ _ e)
            ]
            ∙ sym (shown_at k p ∙ ap (λ (x : Line). cond (held x (k / 512)) (get_or (content slots i) (k % 512) 0) (get_or xs k 0)) is)
        | inr p ↦ shows_other (Clean h) (content slots i) gone_down k p (down_apart k (λ q. p (ap (λ (x : ℕ). x % n) q ∙ home)))
      ])

      pub down_kept : Kept (stored slots i (Clean h) (content slots i)) n gone_down
      down_kept = kept_with (Clean h) (content slots i) gone_down (inl refl) length_down
          (λ _ r rl. sym (laid_within (h * 512) (content slots i) xs (h * 512 + r) down_fits (omega arith) (omega arith)
          ∙ ap (λ (x : ℕ). get_or (content slots i) x 0) (omega arith)))
          (λ s r ne rl. down_apart (s * 512 + r) (λ q. ne (sym (omega arith) ∙ q)))

    -- bytes go into the line that holds the sector h
    module _ (holds : held (line slots i) h ≡ true) (skip : ℕ) (b : List ℕ) (short : skip + length b ≤ 512) where
      abbrev put : List ℕ
      put = laid skip b (content slots i)

      put_fits : skip + length b ≤ length (content slots i)
      put_fits = omega arith

      pub length_put : length put ≡ 512
      length_put = length_laid skip b (content slots i) put_fits ∙ long

      pub put_kept : Kept (stored slots i (Dirty h) put) n xs
      put_kept = kept_with (Dirty h) put xs (inr refl) refl (λ e. absurd (both_ways true (ap dirty e) refl)) (λ s r ne rl. refl)

      -- a line that holds h holds no other sector
      held_only : (s : ℕ) → (s ≡ h → ⊥) → held (line slots i) s ≡ false
      held_only s ne = elim (cases_Bool (held (line slots i) s)) [ inl e ↦ absurd (ne (both_held (line slots i) s h e holds)) | inr e ↦ e ]

      pub put_seen : seen (stored slots i (Dirty h) put) n xs ≡ laid (h * 512 + skip) b (seen slots n xs)
      put_seen =
          let now = stored slots i (Dirty h) put in
          let all : h * 512 + skip + length b ≤ length (seen slots n xs) = omega (arith, length_seen slots n xs) in
          ext_get_or 0 (seen now n xs) (laid (h * 512 + skip) b (seen slots n xs))
          (length_seen now n xs ∙ sym (length_laid (h * 512 + skip) b (seen slots n xs) all ∙ length_seen slots n xs))
          (λ k l. let lt : k < length xs = omega (arith, length_seen now n xs) in
          seen_at now n xs k lt ∙ elim (cases_lt k (h * 512 + skip)) [
            | inl x ↦ outside k lt (inl x) ∙ sym (laid_apart (h * 512 + skip) b (seen slots n xs) k all (inl x) ∙ seen_at slots n xs k lt)
            | inr x ↦ elim (cases_lt k (h * 512 + skip + length b)) [
              | inl y ↦ inside k x y ∙ sym (laid_within (h * 512 + skip) b (seen slots n xs) k all x y)
              | inr y ↦ outside k lt (inr y) ∙ sym (laid_apart (h * 512 + skip) b (seen slots n xs) k all (inr y) ∙ seen_at slots n xs k lt)
            ]
          ])
        where
          inside : (k : ℕ) → h * 512 + skip ≤ k → k < h * 512 + skip + length b → shows (stored slots i (Dirty h) put) n xs k ≡ get_or b (k - (h * 512 + skip)) 0
          inside k x y =
              let q : k / 512 ≡ h = omega arith in
              shows_at (Dirty h) put xs k (ap (λ (z : ℕ). z % n) q ∙ home)
              ∙ cond-true (eqb h (k / 512)) _ _ (eq-eqb h (k / 512) (sym q))
              ∙ laid_within skip b (content slots i) (k % 512) put_fits (omega arith) (omega arith)
              ∙ ap (λ (z : ℕ). get_or b z 0) (omega arith)

          outside : (k : ℕ) → k < length xs → (k < h * 512 + skip) ⊎ (h * 512 + skip + length b ≤ k) → shows (stored slots i (Dirty h) put) n xs k ≡ shows slots n xs k
          outside k lt out = elim (cases_eq (k / 512 % n) i) [
            | inr p ↦ shows_other (Dirty h) put xs k p refl
            | inl p ↦ shows_at (Dirty h) put xs k p ∙ elim (cases_eq (k / 512) h) [
              | inl q ↦ cond-true (eqb h (k / 512)) _ _ (eq-eqb h (k / 512) (sym q))
                  ∙ laid_apart skip b (content slots i) (k % 512) put_fits (elim out [ inl x ↦ inl (omega arith) | inr x ↦ inr (omega arith) ])
                  ∙ sym (shown_at k p ∙ cond-true (held (line slots i) (k / 512)) _ _ (ap (λ (z : ℕ). held (line slots i) z) q ∙ holds))
              | inr q ↦ cond-false (eqb h (k / 512)) _ _ (ne_eqb h (k / 512) (λ z. q (sym z)))
                  ∙ sym (shown_at k p ∙ cond-false (held (line slots i) (k / 512)) _ _ (held_only (k / 512) q))
            ]
          ]

  -- a line that is not dirty takes the sector h
  module _ (undirty : dirty (line slots i) ≡ false) where
    abbrev fetched : List Slot
    fetched = stored slots i (Clean h) (part (h * 512) 512 xs)

    pub fetch_kept : Kept fetched n xs
    fetch_kept = kept_with (Clean h) (part (h * 512) 512 xs) xs (inl refl) refl (λ _ r rl. part_at (h * 512) 512 xs r rl) (λ s r ne rl. refl)

    pub fetch_seen : 0 < n → seen fetched n xs ≡ seen slots n xs
    fetch_seen some = seen_same slots fetched n xs xs refl (λ k lt. elim (cases_eq (k / 512 % n) i) [
      | inl p ↦ plain fetched n xs fetch_kept some k (ap dirty (ap (λ (j : ℕ). line fetched j) p ∙ new_line slots i (record { line = Clean h; bytes = part (h * 512) 512 xs }) in_slots))
          ∙ sym (plain slots n xs kept some k (ap (λ (j : ℕ). dirty (line slots j)) p ∙ undirty))
      | inr p ↦ shows_other (Clean h) (part (h * 512) 512 xs) xs k p refl
    ])

-- what a line holds is what the cache shows of its sector
pub held_part : (slots : List Slot) (n : ℕ) (xs : List ℕ) (i s : ℕ) → length (content slots i) ≡ 512 → s % n ≡ i → held (line slots i) s ≡ true → s * 512 + 512 ≤ length xs →
    (skip len : ℕ) → skip + len ≤ 512 → part skip len (content slots i) ≡ part (s * 512 + skip) len (seen slots n xs)
held_part slots n xs i s long home holds fits skip len short =
    let seen-long = length_seen slots n xs in
    let here : length (part skip len (content slots i)) ≡ len = length_part skip len (content slots i) (omega arith) in
    let there : length (part (s * 512 + skip) len (seen slots n xs)) ≡ len = length_part (s * 512 + skip) len (seen slots n xs) (omega arith) in
    ext_get_or 0 (part skip len (content slots i)) (part (s * 512 + skip) len (seen slots n xs)) (here ∙ sym there)
    (λ k l. let lt : k < len = omega arith in
    let at : ℕ = s * 512 + skip + k in
    let q : at / 512 ≡ s = omega arith in
    let j : at / 512 % n ≡ i = ap (λ (x : ℕ). x % n) q ∙ home in
    part_at skip len (content slots i) k lt
    ∙ sym (part_at (s * 512 + skip) len (seen slots n xs) k lt ∙ seen_at slots n xs at (omega arith)
    ∙ cond-true (held (line slots (at / 512 % n)) (at / 512)) _ _ (ap (λ (x : ℕ). held (line slots x) (at / 512)) j ∙ ap (λ (x : ℕ). held (line slots i) x) q ∙ holds)
    ∙ ap (λ (x : ℕ). get_or (content slots x) (at % 512) 0) j ∙ ap (λ (x : ℕ). get_or (content slots i) x 0) (omega arith)))
