-- An add that grows the ring first.
use Rattle.std.proofs.Common.{◌≡◌, ℕ, ◌+◌, ◌<◌, ◌≤◌, leb, List, Bool, true, false, Ok, Err, Result, MatchResult, sym, subst, inl, inr, arith}
use Rattle.std.proofs.lemmas.Bool.{lt-leb}
use Rattle.storage.specs.Refusals.{Answer}
use Rattle.storage.specs.Calls.{Call}
use Rattle.storage.specs.Traces.{Made, Asked}
use Rattle.storage.proofs.Traces.{made_as}
use Rattle.ring.specs.declared.head.Head.{Head}
use Rattle.ring.specs.declared.header.Header.{Header}
use Rattle.ring.specs.Steps.{carried, grown_header, largest_ring, Grown}
use Rattle.ring.proofs.RingLengths.{grown_law, largest_law}
use Rattle.adding.specs.Copies.{copies}
use Rattle.adding.specs.Grows.{GrowCall}
use Rattle.adding.specs.Appends.{append_calls}
use Rattle.adding.specs.declared.refusal.AddRefusal.{AddRefusal}
use Rattle.adding.specs.declared.refusal.AddRefusal.TheVariants.{Gone}
use Rattle.adding.specs.Adds.{need, longer, GrowsFirst, AddCallsBy, AddCalls, OnAddCalls}
use Rattle.ring.proofs.Heads.{head_sound, head_least}

pub head_grown : (h : Head) (r : List ℕ) → h.size ≤ 16777216 → need h.used r ≤ largest_ring h.size → Grown h.size h.header.ring (need h.used r) (longer h.header h.used r)
head_grown h r small room = grown_law h.size h.header.ring (need h.used r) small (head_sound h).ring (head_sound h).fits room

-- the largest ring is on the card
pub largest_fits : (h : Head) → h.size ≤ 16777216 → largest_ring h.size ≤ h.size
largest_fits h small = (largest_law h.size (omega (arith, head_least h, (head_sound h).fits)) small).fits

module _ {S O G : Type 0} (did : S → Call → Answer O G → S → Type 0) (h : Header) (u : ℕ) (r : List ℕ) (short : h.ring < need u r) where
  as_grown : {A : Type 0} (x : Result A G) (s s' : S) → GrowsFirst did h u r x s s' → AddCalls did h u r x s s'
  as_grown x s s' d = subst (λ b. AddCallsBy did h u r b x s s') (sym (lt-leb (need u r) h.ring short)) d

  pub stopped_calls : (A : Type 0) (f : G) (s t : S) → Asked did (GrowCall h (longer h u r)) {A = Unit {0}} (copies (carried 16 h u) + 3) (Err f) s t → AddCalls did h u r {A = A} (Err f) s t
  stopped_calls A f s t a = as_grown {A = A} (Err f) s t (inl a)

  pub append_after : {A : Type 0} (x : Result A G) (s t v : S) → Asked did (GrowCall h (longer h u r)) {A = Unit {0}} (copies (carried 16 h u) + 3) (Ok tt) s t →
      Made did (append_calls (grown_header 16 h (longer h u r)) u r) x t v → AddCalls did h u r x s v
  append_after (Ok a) s t v g d = as_grown (Ok a) s v (t, g, d)
  append_after {A = A} (Err f) s t v g d = as_grown {A = A} (Err f) s v (inr (t, g, made_as did A (Unit {0}) _ f t v d))

module _ {S O G : Type 0} (did : S → Call → Answer O G → S → Type 0) (h : Header) (u : ℕ) (r : List ℕ) (s s' : S) where
  -- a value that is given back says nothing of the calls
  given_calls : {A B : Type 0} (a : A) (b : B) (t : Bool) → AddCallsBy did h u r {A = A} t (Ok a) s s' → AddCallsBy did h u r {A = B} t (Ok b) s s'
  given_calls a b true d = d
  given_calls a b false d = d

  fault_calls : (A B : Type 0) (f : G) (t : Bool) → AddCallsBy did h u r {A = A} t (Err f) s s' → AddCallsBy did h u r {A = B} t (Err f) s s'
  fault_calls A B f true d = made_as did A B _ f s s' d
  fault_calls A B f false d = d

  -- an add's answer, from that of its calls
  pub told_calls : (x : Result Head G) (y : Result Head (AddRefusal G)) → MatchResult x (λ a. y ≡ Ok a) (λ f. y ≡ Err (Gone f)) → AddCalls did h u r x s s' → OnAddCalls did h u r s s' y
  told_calls (Ok a) y e d = subst (OnAddCalls did h u r s s') (sym e) (given_calls a tt (leb (need u r) h.ring) d)
  told_calls (Err f) y e d = subst (OnAddCalls did h u r s s') (sym e) (fault_calls Head (Unit {0}) f (leb (need u r) h.ring) d)
