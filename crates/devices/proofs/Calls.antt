-- A device of any kind that keeps the rules is a storage: what each call does to its meaning.
use Rattle.std.proofs.Common.{◌≡◌, ℕ, ◌+◌, ◌<◌, ◌≤◌, Bool, true, false, cond, not, leb, List, [], ◌∷◌, length, get_or, take, replicate, Ok, Err, sym, refl, ap, ◌∙◌, subst, arith, length-take}
use Rattle.std.proofs.lemmas.Bool.{leb-true, leb-false, and_parts, not-true, not-false, both_ways}
use Rattle.storage.specs.declared.life.Life.{Life}
use Rattle.storage.specs.declared.life.Life.TheVariants.{Endless, Left}
use Rattle.storage.specs.declared.refusal.Link.{Link}
use Rattle.storage.specs.declared.refusal.Refusal.TheVariants.{Outside, Gone}
use Rattle.storage.specs.Cells.{laid, part, Partly}
use Rattle.storage.specs.Standing.{Standing, InPart, unmarked}
use Rattle.storage.specs.Lives.{enough}
use Rattle.storage.specs.Refusals.{Answer, Step, step, told, Tells}
use Rattle.storage.specs.Meaning.{Same}
use Rattle.storage.specs.Calls.{Reading, Writing, Syncing, ReadDone, WriteDone, WriteEnded, SyncDone, OnRead, OnWrite, OnSync}
use Rattle.storage.proofs.Lists.{length_laid}
use Rattle.storage.proofs.Marks.{length_unmarked, get_or_unmarked}
use Rattle.storage.proofs.Arriving.{partly_none, partly_front, partly_all, settled, arrives}
use Rattle.devices.specs.Devices.{Held, Kind, InOrder, means_of, Outcome, served, past, lost, ends, serves, left, broken, written, synced, Did}
use Rattle.devices.specs.Rules.{Rules}

abbrev links : Link → List Step
links l = step l ∷ []

tells : (n : ℕ) (name : List ℕ) (o : ℕ) (l : Link) → step l ≡ record { name = name; offset = o } → Tells n name o (record { number = n; chain = links l })
tells n name o l e = record { numbered = refl; below = []; chained = ap (λ (s : Step). s ∷ []) e }

-- why a call ended so
abbrev Why : Bool → Bool → Outcome → Type 0
Why fits lives served = (fits ≡ true) × (lives ≡ true)
Why fits lives past = fits ≡ false
Why fits lives lost = (fits ≡ true) × (lives ≡ false)

why : (fits lives : Bool) → Why fits lives (ends fits lives)
why true true = (refl, refl)
why true false = (refl, refl)
why false lives = refl

why_of : (fits lives : Bool) (out : Outcome) → ends fits lives ≡ out → Why fits lives out
why_of fits lives out e = subst (λ (x : Outcome). Why fits lives x) e (why fits lives)

lives_of : (n : ℕ) (h : Held) → serves n h ≡ true → h.gone ≡ false
lives_of n h e = not-true h.gone (and_parts (not h.gone) (enough n h.life) e).0

-- a life that does not suffice has too few steps
few : (n : ℕ) (l : Life) → enough n l ≡ false → left l < n
few n Endless e = absurd (both_ways true e refl)
few n (Left l) e = leb-false n l e

-- one that lives and does not serve has too few steps
short : (n : ℕ) (h : Held) → h.gone ≡ false → serves n h ≡ false → left h.life < n
short n h g e = few n h.life (rw g at e)

pub same : (K : Kind) (h : Held) → Same (means_of K h) (means_of K h)
same K h = record { size = refl; visible = refl; lives = refl; fewer = λ s x. x; more = λ s x. x }

module _ (K : Kind) (rules : Rules K) (h : Held) (i : InOrder h) (o : ℕ) (b : List ℕ) (fits : o + length b ≤ length h.durable) where
  in_visible : o + length b ≤ length h.visible
  in_visible = omega (arith, i.visible_long)

  -- the visible bytes took the write, in full or in part
  arrived : (v' : List ℕ) (t' : List Bool) → Partly 16 o b h.visible v' →
      ((k : ℕ) → get_or t' k false ≡ true → get_or h.torn k false ≡ false → InPart 16 o (length b) k) →
      (s : List ℕ) → Standing K.unit h.durable v' t' s →
      (u : List ℕ) × (Standing K.unit h.durable h.visible h.torn u) × (Partly 16 o b u s)
  arrived v' t' p new s st =
      let r = arrives 16 rules.cells o b h.durable h.visible v' h.torn t' s i.visible_long p new
      (subst (λ (w : ℕ). Standing w h.durable v' t' s) rules.unit_is st) in
      (r.0, subst (λ (w : ℕ). Standing w h.durable h.visible h.torn r.0) (sym rules.unit_is) r.1, r.2)

  pub write_served : serves (K.steps o (length b)) h ≡ true →
      InOrder (written K h o b served) × WriteDone o b (means_of K h) (means_of K (written K h o b served))
  write_served e = (
    record { sized = i.sized; visible_long = length_laid o b h.visible in_visible ∙ i.visible_long; torn_long = rules.marks_long o (length b) h.torn ∙ i.torn_long },
    record {
      fits = fits;
      served = record { lived = ap not (lives_of (K.steps o (length b)) h e); lives = refl; size = refl };
      visible = refl;
      stands = arrived (laid o b h.visible) (K.marks o (length b) h.torn) (partly_all 16 o b h.visible (omega arith) in_visible)
          (λ k. rules.marks_new o (length b) h.torn k (omega (arith, i.torn_long)));
    },
  )

  pub write_broken : h.gone ≡ false → serves (K.steps o (length b)) h ≡ false →
      InOrder (broken K h o b) × WriteEnded o b (means_of K h) (means_of K (broken K h o b))
  write_broken g e =
      let n = K.front o (left h.life) in
      let le : n ≤ length b = rules.front_within o (length b) (left h.life) (short (K.steps o (length b)) h g e) in
      let lt : length (take n b) ≡ n = length-take n b ∙ omega arith in (
        record { sized = i.sized; visible_long = length_laid o (take n b) h.visible (omega (arith, in_visible)) ∙ i.visible_long; torn_long = i.torn_long },
        record {
          fits = fits;
          ended = record { size = refl; dead = refl; already = λ d. absurd (both_ways h.gone g (not-false h.gone d)) };
          stands = arrived (laid o (take n b) h.visible) h.torn
              (partly_front 16 o n b h.visible (omega arith) le in_visible (λ j lo hi. rules.front_uncut o (left h.life) j lo))
              (λ k torn clean. absurd (both_ways (get_or h.torn k false) clean torn));
        },
      )

  -- on one that is gone already nothing arrives
  pub write_dead : h.gone ≡ true → WriteEnded o b (means_of K h) (means_of K h)
  write_dead g = record {
    fits = fits;
    ended = record { size = refl; dead = ap not g; already = λ d. same K h };
    stands = λ s st. (s, st, partly_none 16 o b s);
  }

  pub write_lost : (g : Bool) → h.gone ≡ g → serves (K.steps o (length b)) h ≡ false →
      InOrder (cond g h (broken K h o b)) × WriteEnded o b (means_of K h) (means_of K (cond g h (broken K h o b)))
  write_lost true e f = (i, write_dead e)
  write_lost false e f = write_broken e f

module _ (K : Kind) (rules : Rules K) (name : List ℕ) (h : Held) (i : InOrder h) where
  pub on_write : (o : ℕ) (b : List ℕ) (h' : Held) (r : Answer Link Link) → Did K name h (Writing o b) r h' →
      InOrder h' × OnWrite (told links links) name o b (means_of K h) (means_of K h') r
  on_write o b h' (Ok _) d =
      let w = why_of (leb (o + length b) (length h.durable)) (serves (K.steps o (length b)) h) served d.answered in
      subst (λ (x : Held). InOrder x × WriteDone o b (means_of K h) (means_of K x))
      (sym (d.held ∙ ap (λ (out : Outcome). written K h o b out) d.answered))
      (write_served K rules h i o b (leb-true (o + length b) (length h.durable) w.0) w.1)
  on_write o b h' (Err (Outside l)) d =
      let w = why_of (leb (o + length b) (length h.durable)) (serves (K.steps o (length b)) h) past d.answered.0 in
      let e = d.held ∙ ap (λ (out : Outcome). written K h o b out) d.answered.0 in
      subst (λ (x : Held). InOrder x × OnWrite (told links links) name o b (means_of K h) (means_of K x) (Err (Outside l))) (sym e)
      (i, (tells 1 name o l d.answered.1, record { past = leb-false (o + length b) (length h.durable) w; same = same K h }))
  on_write o b h' (Err (Gone l)) d =
      let w = why_of (leb (o + length b) (length h.durable)) (serves (K.steps o (length b)) h) lost d.answered.0 in
      let e = d.held ∙ ap (λ (out : Outcome). written K h o b out) d.answered.0 in
      let x = write_lost K rules h i o b (leb-true (o + length b) (length h.durable) w.0) h.gone refl w.1 in
      subst (λ (x : Held). InOrder x × OnWrite (told links links) name o b (means_of K h) (means_of K x) (Err (Gone l))) (sym e)
      (x.0, (tells 2 name o l d.answered.1, x.1))

  -- what the buffer of a read holds, by the answer
  abbrev Filled : ℕ → List ℕ → List ℕ → Answer Link Link → Type 0
  Filled o old new (Ok _) = new ≡ part o (length new) h.visible
  Filled o old new (Err (Outside l)) = new ≡ old
  Filled o old new (Err (Gone l)) = new ≡ replicate (length old) 0

  pub on_read : (o : ℕ) (old new : List ℕ) (h' : Held) (r : Answer Link Link) → length new ≡ length old → Did K name h (Reading o (length old)) r h' →
      Filled o old new r → InOrder h' × OnRead (told links links) name o old new (means_of K h) (means_of K h') r
  on_read o old new h' (Ok _) l d f =
      let w = why_of (leb (o + length old) (length h.durable)) (not h.gone) served d.answered in
      let lives = w.1 in
      subst (λ (x : Held). InOrder x × ReadDone o new (means_of K h) (means_of K x)) (sym d.held) (
        i,
        record {
          fits = omega (arith, leb-true (o + length old) (length h.durable) w.0);
          served = record { lived = lives; lives = lives; size = refl };
          visible = refl;
          stands = λ s x. x;
          got = f;
        },
      )
  on_read o old new h' (Err (Outside k)) l d f =
      let w = why_of (leb (o + length old) (length h.durable)) (not h.gone) past d.answered.0 in
      subst (λ (x : Held). InOrder x × OnRead (told links links) name o old new (means_of K h) (means_of K x) (Err (Outside k))) (sym d.held)
      (i, (tells 1 name o k d.answered.1, record { past = leb-false (o + length old) (length h.durable) w; same = same K h }, f))
  on_read o old new h' (Err (Gone k)) l d f =
      let w = why_of (leb (o + length old) (length h.durable)) (not h.gone) lost d.answered.0 in
      subst (λ (x : Held). InOrder x × OnRead (told links links) name o old new (means_of K h) (means_of K x) (Err (Gone k))) (sym d.held) (
        i,
        (
          tells 2 name o k d.answered.1,
          record {
            fits = leb-true (o + length old) (length h.durable) w.0;
            ended = record { size = refl; dead = w.1; already = λ dead. same K h };
            stands = λ s x. x;
            zeroed = f;
          },
        ),
      )

  pub on_sync : (h' : Held) (r : Answer Link Link) → Did K name h Syncing r h' → InOrder h' × OnSync (told links links) name (means_of K h) (means_of K h') r
  on_sync h' (Ok _) d =
      let w = why_of true (serves 1 h) served d.answered in
      subst (λ (x : Held). InOrder x × SyncDone (means_of K h) (means_of K x))
      (sym (d.held ∙ ap (λ (out : Outcome). synced h out) d.answered)) (
        record { sized = rw i.visible_long i.sized; visible_long = refl; torn_long = length_unmarked h.torn ∙ i.torn_long ∙ sym i.visible_long },
        record {
          served = record { lived = ap not (lives_of 1 h w.1); lives = refl; size = i.visible_long };
          visible = refl;
          only = λ s st. settled K.unit h.visible h.visible (unmarked h.torn) s refl (get_or_unmarked h.torn) st;
        },
      )
  on_sync h' (Err (Outside l)) d =
      let w = why_of true (serves 1 h) past d.answered.0 in absurd (both_ways true w refl)
  on_sync h' (Err (Gone l)) d =
      let e = d.held ∙ ap (λ (out : Outcome). synced h out) d.answered.0 in
      subst (λ (x : Held). InOrder x × OnSync (told links links) name (means_of K h) (means_of K x) (Err (Gone l))) (sym e) (
        record { sized = i.sized; visible_long = i.visible_long; torn_long = i.torn_long },
        (
          tells 2 name 0 l d.answered.1,
          record { ended = record { size = refl; dead = refl; already = λ dead. record { size = refl; visible = refl; lives = sym dead; fewer = λ s x. x; more = λ s x. x } }; stands = λ s x. x },
        ),
      )
