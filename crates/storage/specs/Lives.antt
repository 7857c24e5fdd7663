-- Life, in steps.
--   spent l      what is left of l after one step more; none where no step is left
--   lessened n l what is left of l after n steps, of which it has enough
--   enough n l   whether l has n steps
use Rattle.std.specs.Prelude.{ℕ, zero, suc, ◌-◌, Bool, true, Some, None, Option, nat_le}
use Rattle.storage.specs.declared.life.Life.{Life}
use Rattle.storage.specs.declared.life.Life.TheVariants.{Endless, Left}

abbrev pub spent : Life → Option Life
spent Endless = Some Endless
spent (Left zero) = None
spent (Left (suc n)) = Some (Left n)

abbrev pub lessened : ℕ → Life → Life
lessened n Endless = Endless
lessened n (Left l) = Left (l - n)

abbrev pub enough : ℕ → Life → Bool
enough n Endless = true
enough n (Left l) = nat_le n l
