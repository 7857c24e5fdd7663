-- What a device of any kind did, from how a call of it went.
use Rattle.std.proofs.Common.{◌≡◌, ℕ, Bool, false, List, sym, ◌∙◌}
use Rattle.std.proofs.lemmas.Bool.{cond-false}
use Rattle.storage.specs.declared.life.Life.{Life}
use Rattle.devices.specs.Devices.{Held, Kind, lost, broken, written}

pub same_held : {d d' v v' : List ℕ} {t t' : List Bool} {l l' : Life} {g g' : Bool} → d ≡ d' → v ≡ v' → t ≡ t' → l ≡ l' → g ≡ g' →
    ◌≡◌ {A = Held} (record { durable = d; visible = v; torn = t; life = l; gone = g }) (record { durable = d'; visible = v'; torn = t'; life = l'; gone = g' })
same_held d v t l g = cc

-- a write on one that lives, and whose life does not suffice
pub broken_is : (K : Kind) (h h' : Held) (o : ℕ) (b : List ℕ) → h.gone ≡ false → h' ≡ broken K h o b → h' ≡ written K h o b lost
broken_is K h h' o b g q = q ∙ sym (cond-false h.gone h (broken K h o b) g)
