-- Calls one after another, and calls after calls.
use Rattle.std.proofs.ByRecursion.{All-append}
use Rattle.std.proofs.Common.{◌≡◌, ℕ, ◌+◌, ◌≤◌, List, [], ◌∷◌, ◌++◌, Ok, Err, Result, refl, subst, inl, inr, arith}
use Rattle.std.proofs.lemmas.List.{length-append}
use Rattle.std.specs.List.{AllByRecursion}
use Rattle.storage.specs.Refusals.{Answer}
use Rattle.storage.specs.Calls.{Call}
use Rattle.storage.specs.Layers.{lowered}
use Rattle.storage.specs.Traces.{Through, Made, Asked}

every_weaker : {A : Type 0} (P Q : A → Type 0) (xs : List A) → ((x : A) → P x → Q x) → AllByRecursion P xs → AllByRecursion Q xs
every_weaker P Q [] f a = tt
every_weaker P Q (x ∷ xs) f a = (f x a.0, every_weaker P Q xs f a.1)

module _ {S O G : Type 0} (did : S → Call → Answer O G → S → Type 0) where
  -- calls of a wider kind
  pub asked_weaker : {A : Type 0} (P Q : Call → Type 0) (n : ℕ) (r : Result A G) (s s' : S) → ((c : Call) → P c → Q c) → Asked did P n r s s' → Asked did Q n r s s'
  asked_weaker P Q n (Ok a) s s' f x = (x.0, every_weaker P Q x.0 f x.1, x.2, x.3)
  asked_weaker P Q n (Err e) s s' f x = (x.0, x.1, every_weaker P Q x.0 f x.2, f x.1 x.3, x.4, x.5)

  pub through_more : (cs ds : List Call) (s t u : S) → Through did cs s t → Through did ds t u → Through did (cs ++ ds) s u
  through_more [] ds s t u a b = subst (λ (x : S). Through did ds x u) a b
  through_more (c ∷ cs) ds s t u a b = (a.0, a.1, through_more cs ds a.0 t u a.2 b)

  pub made_one : {A : Type 0} (c : Call) (r : Result A G) (s s' : S) → did s c (lowered r) s' → Made did (c ∷ []) r s s'
  made_one c (Ok a) s s' d = (s', d, refl)
  made_one c (Err f) s s' d = inl d

  -- the calls say nothing of what is made of their answers
  pub made_as : (A B : Type 0) (cs : List Call) (f : G) (s t : S) → Made did {A = A} cs (Err f) s t → Made did {A = B} cs (Err f) s t
  made_as A B [] f s t x = absurd x
  made_as A B (c ∷ cs) f s t x = x

  -- calls behind one that was served
  pub made_then : {A : Type 0} (c : Call) (cs : List Call) (r : Result A G) (s t u : S) → did s c (Ok tt) t → Made did cs r t u → Made did (c ∷ cs) r s u
  made_then c cs (Ok a) s t u d x = (t, d, x)
  made_then {A = A} c cs (Err f) s t u d x = inr (t, d, made_as A (Unit {0}) cs f t u x)

  -- calls behind calls that were all served
  pub made_behind : {A B : Type 0} (cs ds : List Call) (a : A) (r : Result B G) (s t u : S) → Made did cs (Ok a) s t → Made did ds r t u → Made did (cs ++ ds) r s u
  made_behind [] ds a r s t u x y = subst (λ (z : S). Made did ds r z u) x y
  made_behind (c ∷ cs) ds a r s t u x y = made_then c (cs ++ ds) r s x.0 u x.1 (made_behind cs ds a r x.0 t u x.2 y)

  -- calls that would have followed
  pub made_front : (A B : Type 0) (cs ds : List Call) (f : G) (s t : S) → Made did {A = A} cs (Err f) s t → Made did {A = B} (cs ++ ds) (Err f) s t
  made_front A B [] ds f s t x = absurd x
  made_front A B (c ∷ cs) ds f s t (inl d) = inl d
  made_front A B (c ∷ cs) ds f s t (inr x) = inr (x.0, x.1, made_front (Unit {0}) (Unit {0}) cs ds f x.0 t x.2)

module _ {S O G : Type 0} (did : S → Call → Answer O G → S → Type 0) (P : Call → Type 0) where
  -- no call at all
  pub asked_none : {A : Type 0} (n : ℕ) (a : A) (s s' : S) → s' ≡ s → Asked did P n (Ok a) s s'
  asked_none n a s s' e = ([], tt, omega arith, e)

  pub asked_one : {A : Type 0} (c : Call) (r : Result A G) (s s' : S) → P c → did s c (lowered r) s' → Asked did P 1 r s s'
  asked_one c (Ok a) s s' p d = (c ∷ [], (p, tt), omega arith, (s', d, refl))
  asked_one c (Err f) s s' p d = ([], c, tt, p, omega arith, (s, refl, d))

  pub asked_then : {A B : Type 0} (m n : ℕ) (a : A) (r : Result B G) (s t u : S) → Asked did P m (Ok a) s t → Asked did P n r t u → Asked did P (m + n) r s u
  asked_then m n a (Ok b) s t u x y = (
    x.0 ++ y.0,
    All-append P x.0 y.0 x.1 y.1,
    omega (arith, x.2, y.2, length-append x.0 y.0),
    through_more did x.0 y.0 s t u x.3 y.3,
  )
  asked_then m n a (Err f) s t u x y =
      let z = y.5 in (
        x.0 ++ y.0,
        y.1,
        All-append P x.0 y.0 x.1 y.2,
        y.3,
        omega (arith, x.2, y.4, length-append x.0 y.0),
        (z.0, through_more did x.0 y.0 s t z.0 x.3 z.1, z.2),
      )

  -- a larger bound
  pub asked_wider : {A : Type 0} (m n : ℕ) (r : Result A G) (s s' : S) → m ≤ n → Asked did P m r s s' → Asked did P n r s s'
  asked_wider m n (Ok a) s s' le x = (x.0, x.1, omega (arith, x.2), x.3)
  asked_wider m n (Err f) s s' le x = (x.0, x.1, x.2, x.3, omega (arith, x.4), x.5)

  -- the calls say nothing of what is made of their answers
  pub asked_as_ok : {A B : Type 0} (n : ℕ) (a : A) (b : B) (s s' : S) → Asked did P n (Ok a) s s' → Asked did P n (Ok b) s s'
  asked_as_ok n a b s s' x = x

  pub asked_as_err : (A B : Type 0) (n : ℕ) (f : G) (s s' : S) → Asked did P {A = A} n (Err f) s s' → Asked did P {A = B} n (Err f) s s'
  asked_as_err A B n f s s' x = x
