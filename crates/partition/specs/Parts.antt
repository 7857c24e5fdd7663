-- What a part of a storage means, from what the storage below means.
--   Fits b n m          a part of n bytes from offset b on may be made of the storage m: it begins
--                       at a sector, has a size that a storage may have, and ends within m
--   PartInOrder b n m   the storage below is in order, and the part fits it
--   part_means b n m    what the part means
--   moved b c           the call c as it is made below, b bytes on
--   end_of c            where the range of the call c ends; 0 of a sync
--   Agree b n t s       s is t outside the n bytes from offset b on
--   Frame b n m m'      nothing outside the part changed: while it lives the visible bytes agree,
--                       and whatever may stand agrees with something that might have stood
use Rattle.std.specs.Prelude.{◌≡◌, ℕ, ◌+◌, ◌%◌, ◌<◌, ◌≤◌, true, ◌⊎◌, List, length, slice_index, refl}
use Rattle.std.proofs.Common.{ap, ◌∙◌, arith}
use Rattle.storage.specs.Sizes.{SizeRule, sector_width}
use Rattle.storage.specs.Cells.{part, length_part}
use Rattle.storage.specs.Meaning.{Meaning, Lawful}
use Rattle.storage.specs.Calls.{Call, Reading, Writing, Syncing}

pub record Fits (b n : ℕ) (m : Meaning) : Type 0 where
  pub aligned : b % sector_width ≡ 0
  pub sized : SizeRule n
  pub ends : b + n ≤ m.size

pub record PartInOrder (b n : ℕ) (m : Meaning) : Type 0 where
  pub below : m.in_order
  pub fits : Fits b n m

abbrev pub part_means : ℕ → ℕ → Meaning → Meaning
part_means b n m = record {
  size = n;
  visible = part b n m.visible;
  stands = λ s. (t : List ℕ) × (m.stands t) × (s ≡ part b n t);
  lives = m.lives;
  in_order = PartInOrder b n m;
}

pub part_lawful : (b n : ℕ) (m : Meaning) → (m.in_order → Lawful m) → PartInOrder b n m → Lawful (part_means b n m)
part_lawful b n m below i =
    let l = below i.below in
    record {
      shown = λ e. (m.visible, l.shown e, refl);
      long = length_part b n m.visible (omega (arith, i.fits.ends, l.long));
      each = λ s st. ap length st.2 ∙ length_part b n st.0 (omega (arith, i.fits.ends, l.each st.0 st.1));
      sized = i.fits.sized;
    }

abbrev pub moved : ℕ → Call → Call
moved b (Reading o n) = Reading (b + o) n
moved b (Writing o bytes) = Writing (b + o) bytes
moved b Syncing = Syncing

abbrev pub end_of : Call → ℕ
end_of (Reading o n) = o + n
end_of (Writing o bytes) = o + length bytes
end_of Syncing = 0

pub record Agree (b n : ℕ) (t s : List ℕ) : Type 0 where
  pub long : length s ≡ length t
  pub apart : (k : ℕ) → (k < b) ⊎ (b + n ≤ k) → slice_index s k ≡ slice_index t k

pub record Frame (b n : ℕ) (m m' : Meaning) : Type 0 where
  pub visible : m'.lives ≡ true → Agree b n m.visible m'.visible
  pub stands : (s : List ℕ) → m'.stands s → (t : List ℕ) × (m.stands t) × (Agree b n t s)
