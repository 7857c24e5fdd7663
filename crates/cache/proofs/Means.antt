-- What each step of a cache does to its meaning.
use Rattle.std.proofs.Common.{◌≡◌, ℕ, ◌+◌, ◌-◌, ◌*◌, ◌/◌, ◌%◌, ◌<◌, ◌≤◌, Bool, true, false, List, [], length, get_or, set, sym, refl, ap, ◌∙◌, subst, inl, inr, OnOk, OnErr, Ok, Err, Result, is_err, mod-lt, arith}
use Rattle.std.proofs.lemmas.Bool.{cases_lt, cases_eq, cases_Bool, both_ways, eq-eqb, cond-true}
use Rattle.storage.specs.Cells.{laid, part, Partly}
use Rattle.storage.specs.Standing.{Standing}
use Rattle.storage.specs.Meaning.{Meaning, Lawful, Same}
use Rattle.storage.specs.Calls.{ReadDone, ReadEnded, WriteDone, WriteEnded}
use Rattle.storage.specs.Inside.{Still, Lost, OnStep, OnReadInside}
use Rattle.storage.proofs.Arriving.{partly_all, arrives}
use Rattle.cache.specs.declared.line.Line.{Line}
use Rattle.cache.specs.declared.line.Line.TheVariants.{Empty, Clean, Dirty}
use Rattle.cache.specs.declared.slot.Slot.{Slot}
use Rattle.cache.specs.Lines.{held, dirty, line, content, stored, seen, length_seen, Kept}
use Rattle.cache.specs.Cached.{Over, InOrder, cache_means}
use Rattle.cache.proofs.Seeing.{seen_at, seen_below, new_line, old_line, length_stored, bytes_stored, down_seen, down_kept, fetch_seen, fetch_kept, put_seen, put_kept, length_put}

-- cells of the visible bytes over what stands below, twice
standing_trans : (t t' v s : List ℕ) → Standing 16 t v [] t' → Standing 16 t' v [] s → Standing 16 t v [] s
standing_trans t t' v s a b = record {
  long = b.long ∙ a.long;
  cells = λ j. elim (b.cells j) [
    | inl f ↦ inl f
    | inr f ↦ elim (a.cells j) [ inl g ↦ inl (λ k kj. f k kj refl ∙ g k kj) | inr g ↦ inr (λ k kj e. f k kj refl ∙ g k kj refl) ]
  ];
}

standing_self : (t v : List ℕ) → Standing 16 t v [] t
standing_self t v = record { long = refl; cells = λ j. inr (λ k kj e. refl) }

-- whole cells of the visible bytes that partly arrive below
standing_down : (o : ℕ) (b t t' v : List ℕ) → o % 16 ≡ 0 → length b % 16 ≡ 0 → ((k : ℕ) → o ≤ k → k < o + length b → get_or v k 0 ≡ get_or b (k - o) 0) →
    Partly 16 o b t t' → Standing 16 t v [] t'
standing_down o b t t' v ao ab shown p = record {
  long = p.long;
  cells = λ j. elim (cases_lt (16 * j) o) [
    | inl x ↦ inr (λ k kj e. p.apart k (inl (omega arith)))
    | inr x ↦ elim (cases_lt (16 * j) (o + length b)) [
      | inr y ↦ inr (λ k kj e. p.apart k (inr (omega arith)))
      | inl y ↦ elim (p.whole j x (omega arith)) [
        | inl f ↦ inr (λ k kj e. f k kj)
        | inr f ↦ inl (λ k kj. f k kj ∙ sym (shown k (omega arith) (omega arith)))
      ]
    ]
  ];
}

pub empties : (slots : List Slot) → ((i : ℕ) → line slots i ≡ Empty) → (n : ℕ) (xs : List ℕ) → Kept slots n xs
empties slots e n xs = record {
  clean = λ i s r lt c rl. absurd (both_ways false refl (ap (λ (l : Line). held l s) (sym (e i) ∙ c) ∙ eq-eqb s s refl));
  home = λ i s lt h. absurd (both_ways false refl (ap (λ (l : Line). held l s) (sym (e i)) ∙ h));
  within = λ i s lt h. absurd (both_ways false refl (ap (λ (l : Line). held l s) (sym (e i)) ∙ h));
}

-- a cache without lines shows what is below
pub seen_empty : (slots : List Slot) → ((i : ℕ) → line slots i ≡ Empty) → (n : ℕ) (xs : List ℕ) → 0 < n → seen slots n xs ≡ xs
seen_empty slots e n xs some = seen_below slots n xs (empties slots e n xs) some (λ i lt. ap dirty (e i))

-- what may stand over one that lives, and over one that does not
pub over_alive : (b : Bool) (v : List ℕ) (P : List ℕ → Type 0) (s : List ℕ) → b ≡ true → (t : List ℕ) × (P t) × (Standing 16 t v [] s) → Over b v P s
over_alive true v P s e x = x
over_alive false v P s e x = absurd (both_ways false refl e)

pub from_alive : (b : Bool) (v : List ℕ) (P : List ℕ → Type 0) (s : List ℕ) → b ≡ true → Over b v P s → (t : List ℕ) × (P t) × (Standing 16 t v [] s)
from_alive true v P s e x = x
from_alive false v P s e x = absurd (both_ways false refl e)

pub over_dead : (b : Bool) (v : List ℕ) (P : List ℕ → Type 0) (s : List ℕ) → b ≡ false → P s → Over b v P s
over_dead false v P s e x = x
over_dead true v P s e x = absurd (both_ways true e refl)

pub from_dead : (b : Bool) (v : List ℕ) (P : List ℕ → Type 0) (s : List ℕ) → b ≡ false → Over b v P s → P s
from_dead false v P s e x = x
from_dead true v P s e x = absurd (both_ways true e refl)

-- what stands below stands over it too
pub over_below : (b : Bool) (v : List ℕ) (P : List ℕ → Type 0) (s : List ℕ) → P s → Over b v P s
over_below true v P s x = (s, x, standing_self s v)
over_below false v P s x = x

-- lines that were not told, and of which one holds a sector, live
pub lives_holding : (slots : List Slot) (n : ℕ) (m : Meaning) → InOrder slots n false m → (i s : ℕ) → held (line slots i) s ≡ true → m.lives ≡ true
lives_holding slots n m i-o i s h = elim (cases_Bool m.lives) [
  | inl e ↦ e
  | inr e ↦ absurd (both_ways false refl (ap (λ (l : Line). held l s) (sym (i-o.untold e refl i)) ∙ h))
]

module _ (slots : List Slot) (n : ℕ) (m m' : Meaning) (i-o : InOrder slots n false m) (law : Lawful m) where
  abbrev was : Meaning
  was = cache_means slots n false m

  -- one that is gone already, and was not told, has no lines
  same_dead : (slots' : List Slot) → ((i : ℕ) → line slots' i ≡ line slots i) → m.lives ≡ false → Same m m' → Same was (cache_means slots' n false m')
  same_dead slots' agree dead s =
      let e = i-o.untold dead refl in
      let e' : (i : ℕ) → line slots' i ≡ Empty = λ i. agree i ∙ e i in
      let dead' = s.lives ∙ dead in
      record {
        size = s.size;
        visible = seen_empty slots' e' n m'.visible i-o.some_lines ∙ s.visible ∙ sym (seen_empty slots e n m.visible i-o.some_lines);
        lives = s.lives;
        fewer = λ x h. over_dead m.lives (seen slots n m.visible) m.stands x dead (s.fewer x (from_dead m'.lives (seen slots' n m'.visible) m'.stands x dead' h));
        more = λ x h. over_dead m'.lives (seen slots' n m'.visible) m'.stands x dead' (s.more x (from_dead m.lives (seen slots n m.visible) m.stands x dead h));
      }

  -- the storage below answered GONE: whatever the bytes are, no more may stand
  lost_order : (slots' : List Slot) → length slots' ≡ 16 → ((i : ℕ) → i < 16 → length (content slots' i) ≡ 512) → m'.in_order → m'.lives ≡ false → InOrder slots' n true m'
  lost_order slots' wide long ok dead = record {
    below = ok;
    slots_long = wide;
    bytes_long = long;
    some_lines = i-o.some_lines;
    few_lines = i-o.few_lines;
    told = λ _. dead;
    untold = λ _ f. absurd (both_ways true f refl);
    kept = λ l. absurd (both_ways m'.lives dead l);
  }

  -- the dirty line i, which holds the sector h
  module _ (i h : ℕ) (low : i < n) (is : line slots i ≡ Dirty h) where
    held_h : held (line slots i) h ≡ true
    held_h = ap (λ (l : Line). held l h) is ∙ eq-eqb h h refl

    lives : m.lives ≡ true
    lives = lives_holding slots n m i-o i h held_h

    kept : Kept slots n m.visible
    kept = i-o.kept lives

    home : h % n ≡ i
    home = kept.home i h low held_h

    fits : h * 512 + 512 ≤ length m.visible
    fits = kept.within i h low held_h

    -- where it goes down to
    pub down_within : h * 512 + length (content slots i) ≤ m.size
    down_within = omega (arith, fits, law.long, i-o.bytes_long i (omega (arith, i-o.few_lines)))

    long : length (content slots i) ≡ 512
    long = i-o.bytes_long i (omega (arith, i-o.few_lines))

    -- the dirty line has the bytes that the cache shows
    shown : (k : ℕ) → h * 512 ≤ k → k < h * 512 + length (content slots i) → get_or (seen slots n m.visible) k 0 ≡ get_or (content slots i) (k - h * 512) 0
    shown k lo hi =
        let q : k / 512 ≡ h = omega (arith, long) in
        let j : k / 512 % n ≡ i = ap (λ (x : ℕ). x % n) q ∙ home in
        seen_at slots n m.visible k (omega (arith, fits, long))
        ∙ cond-true (held (line slots (k / 512 % n)) (k / 512)) _ _ (ap (λ (x : ℕ). held (line slots x) (k / 512)) j ∙ ap (λ (x : ℕ). held (line slots i) x) q ∙ held_h)
        ∙ ap (λ (x : ℕ). get_or (content slots x) (k % 512) 0) j ∙ ap (λ (x : ℕ). get_or (content slots i) x 0) (omega (arith, long))

    below : (t₀ t₁ : List ℕ) → Partly 16 (h * 512) (content slots i) t₀ t₁ → Standing 16 t₀ (seen slots n m.visible) [] t₁
    below t₀ t₁ p = standing_down (h * 512) (content slots i) t₀ t₁ (seen slots n m.visible) (omega arith) (omega (arith, long)) shown p

    pub down_done : m'.in_order → WriteDone (h * 512) (content slots i) m m' →
        InOrder (stored slots i (Clean h) (content slots i)) n false m' × Still was (cache_means (stored slots i (Clean h) (content slots i)) n false m')
    down_done ok w =
        let now = stored slots i (Clean h) (content slots i) in
        let e : seen now n m'.visible ≡ seen slots n m.visible =
        ap (λ (x : List ℕ). seen now n x) w.visible ∙ down_seen slots n m.visible kept i-o.few_lines i-o.slots_long i h low home fits long is in (
          record {
            below = ok;
            slots_long = length_stored slots i (record { line = Clean h; bytes = content slots i }) ∙ i-o.slots_long;
            bytes_long = bytes_stored slots i (record { line = Clean h; bytes = content slots i }) (omega (arith, i-o.slots_long, i-o.few_lines)) long i-o.bytes_long;
            some_lines = i-o.some_lines;
            few_lines = i-o.few_lines;
            told = λ f. absurd (both_ways false refl f);
            untold = λ d. absurd (both_ways m'.lives d w.served.lives);
            kept = λ _. subst (λ (x : List ℕ). Kept now n x) (sym w.visible) (down_kept slots n m.visible kept i-o.few_lines i-o.slots_long i h low home fits long is);
          },
          record {
            size = w.served.size;
            lives = w.served.lives ∙ sym lives;
            visible = e;
            stands = λ s st.
                let x = from_alive m'.lives (seen now n m'.visible) m'.stands s w.served.lives st in
                let y = w.stands x.0 x.1 in
                over_alive m.lives (seen slots n m.visible) m.stands s lives
                (y.0, y.1, standing_trans y.0 x.0 (seen slots n m.visible) s (below y.0 x.0 y.2) (subst (λ (v : List ℕ). Standing 16 x.0 v [] s) e x.2));
            already = λ d. absurd (both_ways m.lives d lives);
          },
        )

    pub down_lost : m'.in_order → WriteEnded (h * 512) (content slots i) m m' → InOrder slots n true m' × Lost was (cache_means slots n false m')
    down_lost ok w =
        let e = w.ended in (
          lost_order slots i-o.slots_long i-o.bytes_long ok e.dead,
          record {
            ended = record { size = e.size; dead = e.dead; already = λ d. absurd (both_ways m.lives d lives) };
            stands = λ s st.
                let y = w.stands s (from_dead m'.lives (seen slots n m'.visible) m'.stands s e.dead st) in
                over_alive m.lives (seen slots n m.visible) m.stands s lives (y.0, y.1, below y.0 s y.2);
          },
        )

  -- the slot i, which is that of the sector s and not dirty, takes it
  module _ (i s : ℕ) (is : i ≡ s % n) (fits : s * 512 + 512 ≤ m.size) (undirty : dirty (line slots i) ≡ false) (ok : m'.in_order) where
    low : i < n
    low = omega (arith, mod-lt s i-o.some_lines)

    in_slots : i < length slots
    in_slots = omega (arith, low, i-o.slots_long, i-o.few_lines)

    filled : (b : List ℕ) → length b ≡ 512 → ReadDone (s * 512) b m m' → InOrder (stored slots i (Clean s) b) n false m' × Still was (cache_means (stored slots i (Clean s) b) n false m')
    filled b long f =
        let lives = f.served.lived in
        let k = i-o.kept lives in
        let in_all : s * 512 + 512 ≤ length m.visible = omega (arith, law.long) in
        let now = stored slots i (Clean s) b in
        let got : b ≡ part (s * 512) 512 m.visible = f.got ∙ ap (λ (k : ℕ). part (s * 512) k m.visible) long in
        let e : seen now n m'.visible ≡ seen slots n m.visible =
        ap (λ (v : List ℕ). seen now n v) f.visible ∙ ap (λ (x : List ℕ). seen (stored slots i (Clean s) x) n m.visible) got
        ∙ fetch_seen slots n m.visible k i-o.few_lines i-o.slots_long i s low (sym is) in_all undirty i-o.some_lines in (
          record {
            below = ok;
            slots_long = length_stored slots i (record { line = Clean s; bytes = b }) ∙ i-o.slots_long;
            bytes_long = bytes_stored slots i (record { line = Clean s; bytes = b }) in_slots long i-o.bytes_long;
            some_lines = i-o.some_lines;
            few_lines = i-o.few_lines;
            told = λ g. absurd (both_ways false refl g);
            untold = λ d. absurd (both_ways m'.lives d f.served.lives);
            kept = λ _. subst (λ (v : List ℕ). Kept now n v) (sym f.visible) (subst (λ (x : List ℕ). Kept (stored slots i (Clean s) x) n m.visible) (sym got)
                (fetch_kept slots n m.visible k i-o.few_lines i-o.slots_long i s low (sym is) in_all undirty));
          },
          record {
            size = f.served.size;
            lives = f.served.lives ∙ sym lives;
            visible = e;
            stands = λ z st.
                let y = from_alive m'.lives (seen now n m'.visible) m'.stands z f.served.lives st in
                over_alive m.lives (seen slots n m.visible) m.stands z lives (y.0, f.stands y.0 y.1, subst (λ (v : List ℕ). Standing 16 y.0 v [] z) e y.2);
            already = λ d. absurd (both_ways m.lives d lives);
          },
        )

    lost : (b : List ℕ) → length b ≡ 512 → (o : ℕ) (old : List ℕ) → ReadEnded o old b m m' →
        InOrder (stored slots i (line slots i) b) n true m' × Lost was (cache_means (stored slots i (line slots i) b) n false m')
    lost b long o old u =
        let e = u.ended in
        let x : Slot = record { line = line slots i; bytes = b } in
        let now = stored slots i (line slots i) b in
        let agree : (j : ℕ) → line now j ≡ line slots j = λ j. elim (cases_eq j i) [
          | inl p ↦ ap (λ (k : ℕ). line now k) p ∙ new_line slots i x in_slots ∙ ap (λ (k : ℕ). line slots k) (sym p)
          | inr p ↦ old_line slots i x j p
        ] in (
          lost_order now (length_stored slots i x ∙ i-o.slots_long) (bytes_stored slots i x in_slots long i-o.bytes_long) ok e.dead,
          record {
            ended = record { size = e.size; dead = e.dead; already = λ d. same_dead now agree d (e.already d) };
            stands = λ z h. over_below m.lives (seen slots n m.visible) m.stands z (u.stands z (from_dead m'.lives (seen now n m'.visible) m'.stands z e.dead h));
          },
        )

    -- by the answer of the read
    pub fetched : {G : Type 0} (x : Slot) (old : List ℕ) (r : Result (Unit {0}) G) → length x.bytes ≡ 512 →
        OnOk r (x ≡ record { line = Clean s; bytes = x.bytes }) → OnErr r (x ≡ record { line = line slots i; bytes = x.bytes }) → OnReadInside (s * 512) old x.bytes m m' r →
        InOrder (set slots i x) n (is_err r) m' × OnStep (λ _. (held (line (set slots i x) i) s ≡ true) × (n ≡ n)) was (cache_means (set slots i x) n false m') r
    fetched x old (Ok _) long takes stays d =
        let p = filled x.bytes long d in
        let q = subst (λ (z : Slot). InOrder (set slots i z) n false m' × Still was (cache_means (set slots i z) n false m')) (sym takes) p in
        (q.0, (q.1, (ap (λ (l : Line). held l s) (new_line slots i x in_slots ∙ ap (λ (z : Slot). z.line) takes) ∙ eq-eqb s s refl, refl)))
    fetched x old (Err f) long takes stays d =
        subst (λ (z : Slot). InOrder (set slots i z) n true m' × Lost was (cache_means (set slots i z) n false m')) (sym stays) (lost x.bytes long (s * 512) old d)

-- bytes go into a line
put_done : (slots : List Slot) (n : ℕ) (m : Meaning) → InOrder slots n false m → Lawful m →
    (i s : ℕ) → i ≡ s % n → s * 512 + 512 ≤ m.size → held (line slots i) s ≡ true → (skip : ℕ) (b : List ℕ) → skip + length b ≤ 512 →
    InOrder (stored slots i (Dirty s) (laid skip b (content slots i))) n false m ×
    WriteDone (s * 512 + skip) b (cache_means slots n false m) (cache_means (stored slots i (Dirty s) (laid skip b (content slots i))) n false m)
put_done slots n m i-o law i s is fits holds skip b short =
    let lives = lives_holding slots n m i-o i s holds in
    let k = i-o.kept lives in
    let low : i < n = omega (arith, mod-lt s i-o.some_lines) in
    let in_all : s * 512 + 512 ≤ length m.visible = omega (arith, law.long) in
    let v = seen slots n m.visible in
    let long = i-o.bytes_long i (omega (arith, i-o.few_lines)) in
    let bytes = laid skip b (content slots i) in
    let now = stored slots i (Dirty s) bytes in
    let e = put_seen slots n m.visible k i-o.few_lines i-o.slots_long i s low (sym is) in_all long holds skip b short in (
      record {
        below = i-o.below;
        slots_long = length_stored slots i (record { line = Dirty s; bytes = bytes }) ∙ i-o.slots_long;
        bytes_long = bytes_stored slots i (record { line = Dirty s; bytes = bytes }) (omega (arith, i-o.slots_long, i-o.few_lines))
            (length_put slots n m.visible k i-o.few_lines i-o.slots_long i s low (sym is) in_all long holds skip b short) i-o.bytes_long;
        some_lines = i-o.some_lines;
        few_lines = i-o.few_lines;
        told = i-o.told;
        untold = λ d. absurd (both_ways m.lives d lives);
        kept = λ _. put_kept slots n m.visible k i-o.few_lines i-o.slots_long i s low (sym is) in_all long holds skip b short;
      },
      record {
        fits = omega arith;
        served = record { lived = lives; lives = lives; size = refl };
        visible = e;
        stands = λ x st.
            let y = from_alive m.lives (seen now n m.visible) m.stands x lives st in
            let all : s * 512 + skip + length b ≤ length v = omega (arith, length_seen slots n m.visible) in
            let wide : length v ≡ length y.0 = length_seen slots n m.visible ∙ law.long ∙ sym (law.each y.0 y.1) in
            let r = arrives 16 1 (s * 512 + skip) b y.0 v (laid (s * 512 + skip) b v) [] [] x wide (partly_all 16 (s * 512 + skip) b v (omega arith) all)
            (λ k torn clean. absurd (both_ways false refl torn)) (subst (λ (z : List ℕ). Standing 16 y.0 z [] x) e y.2) in
            (r.0, over_alive m.lives v m.stands r.0 lives (y.0, y.1, r.1), r.2);
      },
    )

pub put : (slots : List Slot) (n : ℕ) (m : Meaning) → InOrder slots n false m → Lawful m →
    (i s : ℕ) → i ≡ s % n → s * 512 + 512 ≤ m.size → held (line slots i) s ≡ true → (skip : ℕ) (b : List ℕ) → skip + length b ≤ 512 →
    (x : Slot) → x ≡ record { line = Dirty s; bytes = laid skip b (content slots i) } →
    InOrder (set slots i x) n false m × WriteDone (s * 512 + skip) b (cache_means slots n false m) (cache_means (set slots i x) n false m)
put slots n m i-o law i s is fits holds skip b short x e =
    subst (λ (z : Slot). InOrder (set slots i z) n false m × WriteDone (s * 512 + skip) b (cache_means slots n false m) (cache_means (set slots i z) n false m))
    (sym e) (put_done slots n m i-o law i s is fits holds skip b short)
