-- What an add declines.
--   number e   the number of the refusal e
use Rattle.std.specs.Prelude.{ℕ}
use Rattle.adding.specs.declared.refusal.AddRefusal.{AddRefusal}
use Rattle.adding.specs.declared.refusal.AddRefusal.TheVariants.{TooLong, Full, Gone}

abbrev pub number : {F : Type 0} → AddRefusal F → ℕ
number (TooLong n) = 7
number (Full n) = 6
number (Gone f) = 2
