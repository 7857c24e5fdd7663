-- Writes along the ring, and what may stand meanwhile.
--   pieces g p bytes   the calls that lay bytes from place p of a ring of length g on: none if there are
--                      none, one up to the ring's end, else two
--   Agrees P t s       the contents t and s are as long, and have the same bytes at the places in P
--   Near P m m'        whatever may stand in m' agrees in P with something that might have stood in m
--   Went P m m'        calls that were served, if the storage lives, and left the bytes in P alone
--   Cut P m m'         the storage turned GONE at such calls, or was gone
--   Apart g p n k      byte k is at none of the n places from p on
--   OnLay              what laying bytes along the ring did
use Rattle.std.specs.Prelude.{◌≡◌, ℕ, ◌+◌, ◌-◌, false, cond, List, [], ◌∷◌, length, take, drop, Ok, Err, Result, nat_le, slice_index}
use Rattle.storage.specs.Meaning.{Meaning, Same}
use Rattle.storage.specs.Calls.{Call, Writing, Ended}
use Rattle.ring.specs.Layout.{header_width}
use Rattle.ring.specs.Steps.{laid_along, Outside}

abbrev pub pieces : ℕ → ℕ → List ℕ → List Call
pieces g p [] = []
pieces g p (x ∷ xs) =
    cond (nat_le (p + length (x ∷ xs)) g) (Writing p (x ∷ xs) ∷ [])
    (Writing p (take (g - p) (x ∷ xs)) ∷ Writing header_width (drop (g - p) (x ∷ xs)) ∷ [])

pub record Agrees (P : ℕ → Type 0) (t s : List ℕ) : Type 0 where
  pub long : length s ≡ length t
  pub bytes : (k : ℕ) → P k → slice_index s k ≡ slice_index t k

abbrev pub Near : (ℕ → Type 0) → Meaning → Meaning → Type 0
Near P m m' = (s : List ℕ) → m'.stands s → (t : List ℕ) × (m.stands t) × (Agrees P t s)

pub record Went (P : ℕ → Type 0) (m m' : Meaning) : Type 0 where
  pub size : m'.size ≡ m.size
  pub lives : m'.lives ≡ m.lives
  pub already : m.lives ≡ false → Same m m'
  pub stands : Near P m m'

pub record Cut (P : ℕ → Type 0) (m m' : Meaning) : Type 0 where
  pub ended : Ended m m'
  pub stands : Near P m m'

abbrev pub Apart : ℕ → ℕ → ℕ → ℕ → Type 0
Apart g p n k = Outside header_width g p n k

abbrev pub OnLay : {G : Type 0} → ℕ → ℕ → List ℕ → Meaning → Meaning → Result (Unit {0}) G → Type 0
OnLay g p bytes m m' (Ok _) = Went (Apart g p (length bytes)) m m' × (m'.visible ≡ laid_along header_width g p bytes m.visible)
OnLay g p bytes m m' (Err f) = Cut (Apart g p (length bytes)) m m'
