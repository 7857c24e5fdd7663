-- What a cache means, from what the storage below means.
--   Over b v P s    what may stand: while the storage below lives, what may stand there with any
--                   cells replaced by the visible ones; once it is gone, just what may stand there
--   InOrder         the storage below is in order, the slots and their bytes have their lengths,
--                   the lines keep their rule while it lives, and the cache was told GONE only by
--                   a storage that is gone; one that was not told holds no line over a gone storage
--   cache_means     the meaning
--   means_of        that of a cache
--   lines_mean      that of lines which were not told GONE
--   LeftInOrder     the order in which a step that was answered r leaves lines: told GONE, if it was
use Rattle.std.specs.Prelude.{◌≡◌, ℕ, ◌<◌, ◌≤◌, Bool, true, false, List, [], length, is_err, Result, refl}
use Rattle.std.proofs.Common.{◌∙◌, inl}
use Rattle.std.proofs.lemmas.Bool.{both_ways}
use Rattle.storage.specs.Sizes.{cell_width}
use Rattle.storage.specs.Standing.{Standing}
use Rattle.storage.specs.Meaning.{Meaning, Lawful}
use Rattle.cache.specs.declared.line.Line.TheVariants.{Empty}
use Rattle.cache.specs.declared.slot.Slot.{Slot}
use Rattle.cache.specs.declared.lines.Lines.{Lines}
use Rattle.cache.specs.declared.cache.Cache.{Cache}
use Rattle.cache.specs.Lines.{line, content, seen, length_seen, Kept}

abbrev pub Over : Bool → List ℕ → (List ℕ → Type 0) → List ℕ → Type 0
Over true v P s = (t : List ℕ) × (P t) × (Standing cell_width t v [] s)
Over false v P s = P s

pub record InOrder (slots : List Slot) (n : ℕ) (gone : Bool) (m : Meaning) : Type 0 where
  pub below : m.in_order
  pub slots_long : length slots ≡ 16
  pub bytes_long : (i : ℕ) → i < 16 → length (content slots i) ≡ 512
  pub some_lines : 0 < n
  pub few_lines : n ≤ 16
  pub told : gone ≡ true → m.lives ≡ false
  pub untold : m.lives ≡ false → gone ≡ false → (i : ℕ) → line slots i ≡ Empty
  pub kept : m.lives ≡ true → Kept slots n m.visible

abbrev pub cache_means : List Slot → ℕ → Bool → Meaning → Meaning
cache_means slots n gone m = record {
  size = m.size;
  visible = seen slots n m.visible;
  stands = Over m.lives (seen slots n m.visible) m.stands;
  lives = m.lives;
  in_order = InOrder slots n gone m;
}

abbrev pub means_of : {S : Type 0} → (S → Meaning) → Cache S → Meaning
means_of f c = cache_means c.inner.slots c.inner.lines c.gone (f c.inner.below)

abbrev pub lines_mean : {S : Type 0} → (S → Meaning) → Lines S → Meaning
lines_mean f c = cache_means c.slots c.lines false (f c.below)

abbrev pub LeftInOrder : {S A G : Type 0} → (S → Meaning) → Result A G → Lines S → Type 0
LeftInOrder f r c = InOrder c.slots c.lines (is_err r) (f c.below)

over_shown : (b : Bool) (v t : List ℕ) (P : List ℕ → Type 0) → b ≡ true → length v ≡ length t → P t → Over b v P v
over_shown true v t P e l h = (t, h, record { long = l; cells = λ j. inl (λ k kj. refl) })
over_shown false v t P e l h = absurd (both_ways false refl e)

over_long : (b : Bool) (v s : List ℕ) (P : List ℕ → Type 0) (n : ℕ) → ((t : List ℕ) → P t → length t ≡ n) → Over b v P s → length s ≡ n
over_long true v s P n f h = h.2.long ∙ f h.0 h.1
over_long false v s P n f h = f s h

pub cache_lawful : (slots : List Slot) (n : ℕ) (gone : Bool) (m : Meaning) → (m.in_order → Lawful m) → InOrder slots n gone m → Lawful (cache_means slots n gone m)
cache_lawful slots n gone m below h =
    let l = below h.below in
    let e = length_seen slots n m.visible in
    record {
      shown = λ a. over_shown m.lives (seen slots n m.visible) m.visible m.stands a e (l.shown a);
      long = e ∙ l.long;
      each = λ s st. over_long m.lives (seen slots n m.visible) s m.stands m.size l.each st;
      sized = l.sized;
    }
