-- Which sectors are held follows from the steps of a call.
use Rattle.std.proofs.Common.{◌≡◌, ℕ, zero, suc, ◌+◌, ◌*◌, ◌/◌, ◌%◌, ◌<◌, ◌≤◌, Bool, true, false, List, length, is_ok, Ok, Err, Result, sym, refl, ap, ◌∙◌, subst, inl, inr, mod-lt, arith}
use Rattle.std.proofs.lemmas.Bool.{cases_eq, both_ways, eq-eqb}
use Rattle.storage.specs.declared.refusal.LayerFault.{LayerFault}
use Rattle.storage.specs.declared.refusal.Link.{Link}
use Rattle.storage.specs.Cells.{laid, part}
use Rattle.storage.specs.Layers.{Lifts}
use Rattle.storage.specs.Refusals.{Answer}
use Rattle.storage.specs.Meaning.{Meaning}
use Rattle.storage.specs.Calls.{Call}
use Rattle.storage.specs.Sectors.{touched}
use Rattle.storage.proofs.Sectors.{touched_some}
use Rattle.cache.specs.declared.line.Line.{Line}
use Rattle.cache.specs.declared.line.Line.TheVariants.{Empty, Clean, Dirty}
use Rattle.cache.specs.declared.slot.Slot.{Slot}
use Rattle.cache.specs.declared.lines.Lines.{Lines}
use Rattle.cache.specs.Lines.{held, line, content}
use Rattle.cache.specs.Steps.{EvictsLine, Puts, TakesBy}
use Rattle.cache.specs.Chains.{Walk, Took, ReadStep, WriteStep, Ranges, begins, piece}
use Rattle.cache.specs.Did.{cache_name}
use Rattle.cache.specs.Holding.{Touches, HeldIn, Holding}
use Rattle.cache.proofs.Seeing.{both_held, new_line, old_line, length_stored}

-- what one step at the sector s leaves of the lines
pub record Step {S : Type 0} (s : ℕ) (c d : Lines S) : Type 0 where
  pub lines : d.lines ≡ c.lines
  pub wide : length d.slots ≡ length c.slots
  pub here : s % c.lines < length c.slots → held (line d.slots (s % c.lines)) s ≡ true
  pub others : (j : ℕ) → (j ≡ s % c.lines → ⊥) → line d.slots j ≡ line c.slots j
  pub hit : held (line c.slots (s % c.lines)) s ≡ true → d.below ≡ c.below

module _ {S O G : Type 0} (R : S → Call → Answer O G → S → Type 0) (f : S → Meaning) where
  evicted : (l : Line) (c : Lines S) (i : ℕ) (d : Lines S) → EvictsLine R l c i (Ok tt) d → (d.lines ≡ c.lines) × (length d.slots ≡ length c.slots) × ((j : ℕ) → (j ≡ i → ⊥) → line d.slots j ≡ line c.slots j)
  evicted Empty c i d e = let q = e.1 in (ap (λ (x : Lines S). x.lines) q, ap (λ (x : Lines S). length x.slots) q, λ j ne. ap (λ (x : Lines S). line x.slots j) q)
  evicted (Clean h) c i d e = let q = e.1 in (ap (λ (x : Lines S). x.lines) q, ap (λ (x : Lines S). length x.slots) q, λ j ne. ap (λ (x : Lines S). line x.slots j) q)
  evicted (Dirty h) c i d e = let q = e.1 in (
    ap (λ (x : Lines S). x.lines) q,
    ap (λ (x : Lines S). length x.slots) q ∙ length_stored c.slots i (record { line = Clean h; bytes = content c.slots i }),
    λ j ne. ap (λ (x : Lines S). line x.slots j) q ∙ old_line c.slots i (record { line = Clean h; bytes = content c.slots i }) j ne,
  )

  taken : (b : Bool) (c : Lines S) (s : ℕ) (d : Lines S) → held (line c.slots (s % c.lines)) s ≡ b → TakesBy R f b c s (Ok (s % c.lines)) d → Step s c d
  taken true c s d h t = let q = t.1 in record {
    lines = ap (λ (x : Lines S). x.lines) q;
    wide = ap (λ (x : Lines S). length x.slots) q;
    here = λ _. ap (λ (x : Lines S). held (line x.slots (s % c.lines)) s) q ∙ h;
    others = λ j ne. ap (λ (x : Lines S). line x.slots j) q;
    hit = λ _. ap (λ (x : Lines S). x.below) q;
  }
  taken false c s d h t =
      let e = t.1.0 in
      let v = evicted (line c.slots (s % c.lines)) c (s % c.lines) e t.1.1 in
      let q = t.1.2.1 in
      let x : Slot = record { line = Clean s; bytes = part (s * 512) 512 (f e.below).visible } in
      record {
        lines = ap (λ (x : Lines S). x.lines) q ∙ v.0;
        wide = ap (λ (x : Lines S). length x.slots) q ∙ length_stored e.slots (s % c.lines) x ∙ v.1;
        here = λ low. ap (λ (y : Lines S). held (line y.slots (s % c.lines)) s) q
            ∙ ap (λ (l : Line). held l s) (new_line e.slots (s % c.lines) x (omega (arith, v.1))) ∙ eq-eqb s s refl;
        others = λ j ne. ap (λ (x : Lines S). line x.slots j) q ∙ old_line e.slots (s % c.lines) x j ne ∙ v.2 j ne;
        hit = λ y. absurd (both_ways (held (line c.slots (s % c.lines)) s) h y);
      }

  pub read_step : (s : ℕ) (c d : Lines S) → ReadStep R f s c d → Step s c d
  read_step s c d t = taken (held (line c.slots (s % c.lines)) s) c s d refl t

  -- putting bytes into the line of a sector keeps it held
  put_step : (s skip : ℕ) (b : List ℕ) (c e d : Lines S) → Step s c e → Puts e (s % c.lines) s skip b d → Step s c d
  put_step s skip b c e d st p =
      let x : Slot = record { line = Dirty s; bytes = laid skip b (content e.slots (s % c.lines)) } in
      record {
        lines = ap (λ (y : Lines S). y.lines) p ∙ st.lines;
        wide = ap (λ (y : Lines S). length y.slots) p ∙ length_stored e.slots (s % c.lines) x ∙ st.wide;
        here = λ low. ap (λ (y : Lines S). held (line y.slots (s % c.lines)) s) p
            ∙ ap (λ (l : Line). held l s) (new_line e.slots (s % c.lines) x (omega (arith, st.wide))) ∙ eq-eqb s s refl;
        others = λ j ne. ap (λ (y : Lines S). line y.slots j) p ∙ old_line e.slots (s % c.lines) x j ne ∙ st.others j ne;
        hit = λ y. ap (λ (z : Lines S). z.below) p ∙ st.hit y;
      }

  pub write_step : (o : ℕ) (b : List ℕ) (s : ℕ) (c d : Lines S) → begins o s / 512 ≡ s → WriteStep R f o b s c d → Step s c d
  write_step o b s c d at w =
      let e = w.0 in
      put_step s (begins o s % 512) (piece o b s) c e d
      (read_step s c e (subst (λ (x : ℕ). Took R f c x (Ok tt) e) at w.1))
      (subst (λ (x : ℕ). Puts e (x % c.lines) x (begins o s % 512) (piece o b s) d) at w.2)

-- held by the sector of the step, or by another one, which stays unless it shares the line
still_held : {S : Type 0} (s q : ℕ) (c d : Lines S) → Step s c d → s % c.lines < length c.slots → (q % c.lines ≡ s % c.lines → q ≡ s) → HeldIn c q → HeldIn d q
still_held s q c d st low alone h =
    let at : (x : ℕ) → q % d.lines ≡ x → held (line d.slots x) q ≡ true → HeldIn d q = λ x e y. ap (λ (z : ℕ). held (line d.slots z) q) e ∙ y in
    elim (cases_eq (q % c.lines) (s % c.lines)) [
      | inl e ↦ let qs = alone e in at (s % c.lines) (ap (λ (z : ℕ). q % z) st.lines ∙ e) (ap (λ (z : ℕ). held (line d.slots (s % c.lines)) z) qs ∙ st.here low)
      | inr e ↦ at (q % c.lines) (ap (λ (z : ℕ). q % z) st.lines) (ap (λ (x : Line). held x q) (st.others (q % c.lines) e) ∙ h)
    ]

-- what k steps from the sector a on leave of the lines
pub record Walked {S : Type 0} (a k : ℕ) (c d : Lines S) : Type 0 where
  pub lines : d.lines ≡ c.lines
  pub wide : length d.slots ≡ length c.slots
  pub took : (s : ℕ) → a ≤ s → s < a + k → ((q : ℕ) → a ≤ q → q < a + k → q % c.lines ≡ s % c.lines → q ≤ s) → HeldIn d s
  pub stays : (s : ℕ) → HeldIn c s → ((q : ℕ) → a ≤ q → q < a + k → q % c.lines ≡ s % c.lines → q ≡ s) → HeldIn d s
  pub quiet : ((q : ℕ) → a ≤ q → q < a + k → HeldIn c q) → (d.below ≡ c.below) × ((q : ℕ) → HeldIn c q → HeldIn d q)

module _ {S : Type 0} (step : ℕ → Lines S → Lines S → Type 0) (a : ℕ) (law : (s : ℕ) (c d : Lines S) → a ≤ s → step s c d → Step s c d) (c : Lines S) (some : 0 < c.lines) (few : c.lines ≤ length c.slots) where
  pub walked : (k : ℕ) (d : Lines S) → Walk step c a k d → Walked a k c d
  walked zero d w = record {
    lines = ap (λ (x : Lines S). x.lines) w;
    wide = ap (λ (x : Lines S). length x.slots) w;
    took = λ s lo hi. absurd (omega arith);
    stays = λ s h _. subst (λ (x : Lines S). HeldIn x s) (sym w) h;
    quiet = λ _. (ap (λ (x : Lines S). x.below) w, λ q h. subst (λ (x : Lines S). HeldIn x q) (sym w) h);
  }
  walked (suc k) d w =
      let e = w.0 in
      let i = walked k e w.1 in
      let s₁ = a + k in
      let st = law s₁ e d (omega arith) w.2 in
      let low : s₁ % e.lines < length e.slots = let z = mod-lt s₁ some in subst (λ (n : ℕ). s₁ % n < length e.slots) (sym i.lines) (omega (arith, i.wide)) in
      let same_line : (q s : ℕ) → q % e.lines ≡ s % e.lines → q % c.lines ≡ s % c.lines = λ q s y. ap (λ (n : ℕ). q % n) (sym i.lines) ∙ y ∙ ap (λ (n : ℕ). s % n) i.lines in
      record {
        lines = st.lines ∙ i.lines;
        wide = st.wide ∙ i.wide;
        took = λ s lo hi last. elim (cases_eq s s₁) [
          | inl p ↦ ap (λ (n : ℕ). held (line d.slots (s % n)) s) st.lines ∙ ap (λ (x : ℕ). held (line d.slots (x % e.lines)) x) p ∙ st.here low
          | inr p ↦ still_held s₁ s e d st low (λ y. absurd (p (let z = last s₁ (omega arith) (omega arith) (sym (same_line s s₁ y)) in omega arith)))
              (i.took s lo (omega arith) (λ q ql qh. last q ql (omega arith)))
        ];
        stays = λ s h alone. still_held s₁ s e d st low (λ y. sym (alone s₁ (omega arith) (omega arith) (sym (same_line s s₁ y))))
            (i.stays s h (λ q ql qh. alone q ql (omega arith)));
        quiet = λ all.
            let j = i.quiet (λ q ql qh. all q ql (omega arith)) in
            let here = j.1 s₁ (all s₁ (omega arith) (omega arith)) in (
              st.hit here ∙ j.0,
              λ q h. let y = j.1 q h in still_held s₁ q e d st low (λ z. both_held (line e.slots (s₁ % e.lines)) q s₁ (ap (λ (x : ℕ). held (line e.slots x) q) (sym z) ∙ y) here) y,
            );
      }

-- the sectors that a range touches are those from its first on, as many as it touches
first : (o n s : ℕ) → Touches o n s → o / 512 ≤ s
first o n s t = omega (arith, t.1)

last : (o n s : ℕ) → 0 < n → Touches o n s → s < o / 512 + touched o n
last o n s p t = omega (arith, t.0, touched_some o n p)

touches : (o n s : ℕ) → 0 < n → o / 512 ≤ s → s < o / 512 + touched o n → Touches o n s
touches o n s p lo hi = (omega (arith, touched_some o n p), omega arith)

module _ {S O G : Type 0} (R : S → Call → Answer O G → S → Type 0) (f : S → Meaning) (step : ℕ → Lines S → Lines S → Type 0) (o n : ℕ) (p : 0 < n)
    (law : (s : ℕ) (c d : Lines S) → o / 512 ≤ s → step s c d → Step s c d) (c : Lines S) (some : 0 < c.lines) (few : c.lines ≤ length c.slots) where
  pub holding : (r : Result (Unit {0}) G) (d : Lines S) → Ranges R f step c o n r d → Holding o n (is_ok r) c d
  holding (Ok _) d w =
      let z = walked step (o / 512) law c some few (touched o n) d w in
      record {
        quiet = λ all. (z.quiet (λ q ql qh. all q (touches o n q p ql qh))).0;
        stays = λ _ s h alone. z.stays s h (λ q ql qh. alone q (touches o n q p ql qh));
        took = λ _ s t latest. z.took s (first o n s t) (last o n s p t) (λ q ql qh. latest q (touches o n q p ql qh));
      }
  holding (Err x) d w =
      let k = w.0 in
      let e = w.1 in
      let z = walked step (o / 512) law c some few k e w.3 in
      record {
        quiet = λ all.
            let held-e : HeldIn e (o / 512 + k) = (z.quiet (λ q ql qh. all q (touches o n q p ql (omega (arith, w.2))))).1 (o / 512 + k) (all (o / 512 + k) (touches o n (o / 512 + k) p (omega arith) (omega (arith, w.2)))) in
            let t = subst (λ (b : Bool). TakesBy R f b e (o / 512 + k) (Err x) d) held-e w.4 in
            let no : false ≡ true = ap (λ (y : Result ℕ G). is_ok y) t.0 in
            absurd (both_ways false refl no);
        stays = λ no. absurd (both_ways false refl no);
        took = λ no. absurd (both_ways false refl no);
      }

pub begins_there : (o s : ℕ) → o / 512 ≤ s → begins o s / 512 ≡ s
begins_there o s lo = omega arith

pub lifted_ok : {G : Type 0} (o : ℕ) (r : Result (Unit {0}) G) (x : Answer Link (LayerFault G)) → Lifts cache_name o r x → is_ok x ≡ is_ok r
lifted_ok o (Ok _) (Ok _) l = refl
lifted_ok o (Ok _) (Err x) l = absurd l
lifted_ok o (Err f) (Ok _) l = absurd l
lifted_ok o (Err f) (Err x) l = refl
