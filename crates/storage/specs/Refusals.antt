-- What a refusal says: its number, and the storages that it came through.
--   Step           a storage's name, and the offset that it was called with
--   spelled n      the letters of the name n
--   step l         what the link l says
--   printed l      the link l in brackets: the name, a space, and the offset in decimal
--   nth xs i       the element i of xs, if there is one
--   Answer O G     what a storage answers to a call
--   number r       the number of a refusal
--   told f g r     the number of a refusal with the chain of its fault, the top first
--   Tells n m o t  t is the refusal of number n by the storage m, called with the offset o
use Rattle.std.specs.Prelude.{◌≡◌, ℕ, zero, suc, List, [], ◌∷◌, ◌++◌, Some, None, codes, decimal, Option, Result}
use Rattle.storage.specs.declared.refusal.Link.{Link}
use Rattle.storage.specs.declared.refusal.Name.{Name}
use Rattle.storage.specs.declared.refusal.Name.TheVariants.{Image, Sector, Partition, Cache, Other}
use Rattle.storage.specs.declared.refusal.Refusal.{Refusal}
use Rattle.storage.specs.declared.refusal.Refusal.TheVariants.{Outside, Gone}

pub record Step : Type 0 where
  pub name : List ℕ
  pub offset : ℕ

abbrev pub spelled : Name → List ℕ
spelled Image = codes "image"
spelled Sector = codes "sector"
spelled Partition = codes "partition"
spelled Cache = codes "cache"
spelled Other = codes "other"

abbrev pub step : Link → Step
step l = record { name = spelled l.name; offset = l.offset }

abbrev pub printed : Link → List ℕ
printed l = codes "(" ++ (spelled l.name ++ (codes " " ++ (decimal l.offset ++ codes ")")))

abbrev pub steps : Option Link → Option Step
steps None = None
steps (Some l) = Some (step l)

abbrev pub nth : {A : Type 0} → List A → ℕ → Option A
nth [] i = None
nth (x ∷ xs) zero = Some x
nth (x ∷ xs) (suc i) = nth xs i

abbrev pub Answer : Type 0 → Type 0 → Type 0
Answer O G = Result (Unit {0}) (Refusal O G)

abbrev pub number : {O G : Type 0} → Refusal O G → ℕ
number (Outside f) = 1
number (Gone f) = 2

abbrev pub bad_mount : ℕ
bad_mount = 3

pub record Told : Type 0 where
  pub number : ℕ
  pub chain : List Step

abbrev pub chain_of : {O G : Type 0} → (O → List Step) → (G → List Step) → Refusal O G → List Step
chain_of o g (Outside f) = o f
chain_of o g (Gone f) = g f

abbrev pub told : {O G : Type 0} → (O → List Step) → (G → List Step) → Refusal O G → Told
told o g r = record { number = number r; chain = chain_of o g r }

pub record Tells (n : ℕ) (m : List ℕ) (o : ℕ) (t : Told) : Type 0 where
  pub numbered : t.number ≡ n
  pub below : List Step
  pub chained : t.chain ≡ record { name = m; offset = o } ∷ below
