-- What a storage means.
--   Meaning      its size, the bytes that it shows, the contents that may stand if power
--                fails now, whether it lives, and whether it is in order
--   Lawful m     what holds of every storage that is in order
--   Within m' m  no more may stand in m' than in m
--   Same m m'    m' means what m means
--   Only s m     the content s alone may stand
--   Fresh s m    a storage as a mount gives it: it shows s, which alone may stand, and lives
use Rattle.std.specs.Prelude.{◌≡◌, ℕ, Bool, true, List, length}
use Rattle.storage.specs.Sizes.{SizeRule}

pub record Meaning : Type 1 where
  pub size : ℕ
  pub visible : List ℕ
  pub stands : List ℕ → Type 0
  pub lives : Bool
  pub in_order : Type 0

pub record Lawful (m : Meaning) : Type 0 where
  pub shown : m.lives ≡ true → m.stands m.visible
  pub long : length m.visible ≡ m.size
  pub each : (s : List ℕ) → m.stands s → length s ≡ m.size
  pub sized : SizeRule m.size

abbrev pub Within : Meaning → Meaning → Type 0
Within m' m = (s : List ℕ) → m'.stands s → m.stands s

pub record Same (m m' : Meaning) : Type 0 where
  pub size : m'.size ≡ m.size
  pub visible : m'.visible ≡ m.visible
  pub lives : m'.lives ≡ m.lives
  pub fewer : Within m' m
  pub more : Within m m'

abbrev pub Only : List ℕ → Meaning → Type 0
Only s m = (t : List ℕ) → m.stands t → t ≡ s

pub record Fresh (s : List ℕ) (m : Meaning) : Type 0 where
  pub in_order : m.in_order
  pub visible : m.visible ≡ s
  pub only : Only s m
  pub lives : m.lives ≡ true
