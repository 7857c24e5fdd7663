-- What a cache shows, from its slots and the bytes below. A slot is a line with its sector's bytes.
--   held l s        whether the line l holds the sector s
--   dirty l         whether the line l waits to be written down
--   waiting l       the sector that it waits as, if it does
--   line z i        the line of the slot i of z
--   content z i     the bytes of the slot i of z
--   stored z i l b  z with the line l and the bytes b in the slot i
--   emptied x       the slot x, which holds no sector any more
--   shows z n xs k  the byte k: that of its line, if this holds its sector, else the one below
--   seen z n xs     the bytes that the cache shows
--   Kept z n xs     what holds of the slots while the cache lives: a clean one has the bytes
--                   below, each sector is held in its own line only, and lies within the size
use Rattle.std.specs.Prelude.{◌≡◌, ℕ, ◌+◌, ◌*◌, ◌/◌, ◌%◌, ◌<◌, ◌≤◌, Bool, true, false, cond, List, [], map, length, Some, None, Option, ◌==◌, slice_index, slice_index_or, slice_set}
use Rattle.std.specs.List.{range_with_len}
use Rattle.std.proofs.lemmas.List.FromFn.{length-map-range_with_len}
use Rattle.cache.specs.declared.line.Line.{Line}
use Rattle.cache.specs.declared.line.Line.TheVariants.{Empty, Clean, Dirty}
use Rattle.cache.specs.declared.slot.Slot.{Slot}

abbrev pub held : Line → ℕ → Bool
held Empty s = false
held (Clean h) s = h == s
held (Dirty h) s = h == s

abbrev pub dirty : Line → Bool
dirty Empty = false
dirty (Clean h) = false
dirty (Dirty h) = true

abbrev pub waiting : Line → Option ℕ
waiting Empty = None
waiting (Clean h) = None
waiting (Dirty h) = Some h

abbrev pub slot : List Slot → ℕ → Slot
slot slots i = slice_index_or slots i (record { line = Empty; bytes = [] })

abbrev pub line : List Slot → ℕ → Line
line slots i = (slot slots i).line

abbrev pub content : List Slot → ℕ → List ℕ
content slots i = (slot slots i).bytes

abbrev pub stored : List Slot → ℕ → Line → List ℕ → List Slot
stored slots i l b = slice_set slots i (record { line = l; bytes = b })

abbrev pub emptied : Slot → Slot
emptied x = record { line = Empty; bytes = x.bytes }

abbrev pub shows : List Slot → ℕ → List ℕ → ℕ → ℕ
shows slots n xs k = cond (held (line slots (k / 512 % n)) (k / 512)) (slice_index (content slots (k / 512 % n)) (k % 512)) (slice_index xs k)

unfoldable pub seen : List Slot → ℕ → List ℕ → List ℕ
seen slots n xs = map (shows slots n xs) (range_with_len 0 (length xs))

pub length_seen : (slots : List Slot) (n : ℕ) (xs : List ℕ) → length (seen slots n xs) ≡ length xs
unfolding seen
length_seen slots n xs = length-map-range_with_len (shows slots n xs) 0 (length xs)

pub record Kept (slots : List Slot) (n : ℕ) (xs : List ℕ) : Type 0 where
  pub clean : (i s r : ℕ) → i < n → line slots i ≡ Clean s → r < 512 → slice_index (content slots i) r ≡ slice_index xs (s * 512 + r)
  pub home : (i s : ℕ) → i < n → held (line slots i) s ≡ true → s % n ≡ i
  pub within : (i s : ℕ) → i < n → held (line slots i) s ≡ true → s * 512 + 512 ≤ length xs
