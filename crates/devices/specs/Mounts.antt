-- What a device holds, and what a mount of it gave. The torn marks are those that its medium
-- keeps: t m n gives the marks of the medium m for a device of n bytes.
--   holds t d        what the device d holds
--   Mountable d v t  the bytes and the marks are of one length, a size that a storage may have
--   OnMount          what a mount gave: a device that holds the durable bytes, fresh, or all parts back
use Rattle.std.specs.Prelude.{◌≡◌, ℕ, Bool, List, length, Ok, Err, Result}
use Rattle.storage.specs.declared.refusal.BadMount.{BadMount}
use Rattle.storage.specs.Sizes.{SizeRule}
use Rattle.storage.specs.Meaning.{Fresh}
use Rattle.devices.specs.declared.device.Device.{Device}
use Rattle.devices.specs.declared.device.Parts.{Parts}
use Rattle.devices.specs.Devices.{Held, Kind, held, means_of, fresh}

abbrev pub holds : {M : Type 0} → (M → ℕ → List Bool) → Device M → Held
holds t d = held t d.copies d.power d.medium

pub record Mountable (d v : List ℕ) (t : List Bool) : Type 0 where
  pub sized : SizeRule (length d)
  pub visible : length v ≡ length d
  pub torn : length t ≡ length d

abbrev pub OnMount : {M : Type 0} → Kind → (M → ℕ → List Bool) → List ℕ → List ℕ → M → Result (Device M) (BadMount (Parts M)) → Type 0
OnMount K t d v m (Ok i) = Mountable d v (t m (length d)) × (holds t i ≡ fresh d) × Fresh d (means_of K (holds t i))
OnMount K t d v m (Err e) = (Mountable d v (t m (length d)) → ⊥) × (e.given.durable.now ≡ d) × (e.given.visible.now ≡ v) × (e.given.medium ≡ m)
