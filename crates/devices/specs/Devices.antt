-- A device at the bottom of a stack: it keeps its bytes twice, and lives by steps.
--   Held            what it holds: durable bytes, visible bytes, torn marks, life, whether it is gone
--   Kind            the rules in which the kinds differ:
--     unit            how many bytes one choice of a cut decides
--     steps o n       how many steps of life a write of n bytes at o takes
--     marks o n t     the torn marks t after such a write
--     front o l       how many bytes of a write at o arrive where only l steps are left, too few
--     pick c d v t    the byte that the choice c leaves, of a durable and a visible one and a mark
--   InOrder h       the size rule holds, and everything is as long as the durable bytes
--   means_of K h    what it means
--   serves n h      whether it serves a call of n steps: exactly where it is not gone and has them
--   outcome K h c   how it answers the call c
--   held t c p m    what it holds, of its copies c, its power p and its medium m, whose torn marks t gives
--   left l          how many steps the life l has left; 0 of an endless one, which is never short
--   after K h c     what it holds after the call
--   Programmed K o b h h' r   a write of the bytes b at o, within the size, was answered r and led from
--                   h to h': it arrived whole just where h serves its steps, and else as far as it got
--   Did             it holds that, and answered so, with its name and the offset in its fault
--   with_life n h   the same with a life of n steps
--   kept K h cs     the content that a cut with the choice bytes cs leaves
--   fresh s         what it holds once the content s is mounted
use Rattle.std.specs.Prelude.{◌≡◌, ℕ, ◌+◌, ◌/◌, ◌%◌, Bool, true, false, cond, not, ◌&&◌, List, map, length, take, replicate, Ok, Err, Result, nat_le, slice_index, slice_index_or, refl}
use Rattle.std.proofs.Common.{inl}
use Rattle.std.specs.List.{range_with_len}
use Rattle.devices.specs.declared.copies.Copies.{Copies}
use Rattle.devices.specs.declared.copies.Power.{Power}
use Rattle.storage.specs.declared.life.Life.{Life}
use Rattle.storage.specs.declared.life.Life.TheVariants.{Endless, Left}
use Rattle.storage.specs.declared.refusal.Link.{Link}
use Rattle.storage.specs.declared.refusal.Refusal.TheVariants.{Outside, Gone}
use Rattle.storage.specs.Sizes.{SizeRule}
use Rattle.storage.specs.Cells.{laid}
use Rattle.storage.specs.Standing.{Standing, unmarked}
use Rattle.storage.specs.Lives.{lessened, enough}
use Rattle.storage.specs.Refusals.{Answer, step}
use Rattle.storage.specs.Meaning.{Meaning, Lawful}
use Rattle.storage.specs.Calls.{Call, Reading, Writing, Syncing, offset_of}

pub record Held : Type 0 where
  pub durable : List ℕ
  pub visible : List ℕ
  pub torn : List Bool
  pub life : Life
  pub gone : Bool

pub record Kind : Type 0 where
  pub unit : ℕ
  pub steps : ℕ → ℕ → ℕ
  pub marks : ℕ → ℕ → List Bool → List Bool
  pub front : ℕ → ℕ → ℕ
  pub pick : ℕ → ℕ → ℕ → Bool → ℕ

pub record InOrder (h : Held) : Type 0 where
  pub sized : SizeRule (length h.durable)
  pub visible_long : length h.visible ≡ length h.durable
  pub torn_long : length h.torn ≡ length h.durable

abbrev pub means_of : Kind → Held → Meaning
means_of K h = record {
  size = length h.durable;
  visible = h.visible;
  stands = Standing K.unit h.durable h.visible h.torn;
  lives = not h.gone;
  in_order = InOrder h;
}

pub lawful_of : (K : Kind) (h : Held) → InOrder h → Lawful (means_of K h)
lawful_of K h i = record {
  shown = λ _. record { long = i.visible_long; cells = λ j. inl (λ k e. refl) };
  long = i.visible_long;
  each = λ s st. st.long;
  sized = i.sized;
}

-- how a call ends: it is served, its range passes the size, or the device is gone
pub data Outcome : Type 0 where
  served : Outcome
  past : Outcome
  lost : Outcome

abbrev pub serves : ℕ → Held → Bool
serves n h = not h.gone && enough n h.life

-- the range is checked first
abbrev pub ends : Bool → Bool → Outcome
ends fits lives = cond fits (cond lives served lost) past

abbrev pub outcome : Kind → Held → Call → Outcome
outcome K h (Reading o n) = ends (nat_le (o + n) (length h.durable)) (not h.gone)
outcome K h (Writing o b) = ends (nat_le (o + length b) (length h.durable)) (serves (K.steps o (length b)) h)
outcome K h Syncing = ends true (serves 1 h)

abbrev pub held : {M : Type 0} → (M → ℕ → List Bool) → Copies → Power → M → Held
held t c p m = record { durable = c.durable.now; visible = c.visible.now; torn = t m (length c.durable.now); life = p.life; gone = p.gone }

abbrev pub left : Life → ℕ
left Endless = 0
left (Left n) = n

-- a write that the life does not suffice for: a front of it arrives, and no life is left
abbrev pub broken : Kind → Held → ℕ → List ℕ → Held
broken K h o b = record {
  durable = h.durable;
  visible = laid o (take (K.front o (left h.life)) b) h.visible;
  torn = h.torn;
  life = Left 0;
  gone = true;
}

abbrev pub written : Kind → Held → ℕ → List ℕ → Outcome → Held
written K h o b served = record {
  durable = h.durable;
  visible = laid o b h.visible;
  torn = K.marks o (length b) h.torn;
  life = lessened (K.steps o (length b)) h.life;
  gone = false;
}
written K h o b past = h
written K h o b lost = cond h.gone h (broken K h o b)

abbrev pub Programmed : {E : Type 0} → Kind → ℕ → List ℕ → Held → Held → Result (Unit {0}) E → Type 0
Programmed K o b h h' (Ok _) = (serves (K.steps o (length b)) h ≡ true) × (h' ≡ written K h o b served)
Programmed K o b h h' (Err _) = (serves (K.steps o (length b)) h ≡ false) × (h' ≡ written K h o b lost)

abbrev pub synced : Held → Outcome → Held
synced h served = record {
  durable = h.visible;
  visible = h.visible;
  torn = unmarked h.torn;
  life = lessened 1 h.life;
  gone = false;
}
synced h past = h
synced h lost = record { durable = h.durable; visible = h.visible; torn = h.torn; life = h.life; gone = true }

abbrev pub after : Kind → Held → Call → Held
after K h (Reading o n) = h
after K h (Writing o b) = written K h o b (outcome K h (Writing o b))
after K h Syncing = synced h (outcome K h Syncing)

abbrev pub Answered : List ℕ → ℕ → Outcome → Answer Link Link → Type 0
Answered name o out (Ok _) = out ≡ served
Answered name o out (Err (Outside l)) = (out ≡ past) × (step l ≡ record { name = name; offset = o })
Answered name o out (Err (Gone l)) = (out ≡ lost) × (step l ≡ record { name = name; offset = o })

pub record Did (K : Kind) (name : List ℕ) (h : Held) (call : Call) (r : Answer Link Link) (h' : Held) : Type 0 where
  pub held : h' ≡ after K h call
  pub answered : Answered name (offset_of call) (outcome K h call) r

abbrev pub with_life : ℕ → Held → Held
with_life n h = record { durable = h.durable; visible = h.visible; torn = h.torn; life = Left n; gone = h.gone }

-- the choice for the byte k: one a unit, in rotation
abbrev pub choice : ℕ → List ℕ → ℕ → ℕ
choice w cs k = slice_index cs ((k / w) % length cs)

abbrev pub picked : Kind → Held → List ℕ → ℕ → ℕ
picked K h cs k = K.pick (choice K.unit cs k) (slice_index h.durable k) (slice_index h.visible k) (slice_index_or h.torn k false)

unfoldable pub kept : Kind → Held → List ℕ → List ℕ
kept K h cs = map (picked K h cs) (range_with_len 0 (length h.durable))

abbrev pub fresh : List ℕ → Held
fresh s = record { durable = s; visible = s; torn = replicate (length s) false; life = Endless; gone = false }
