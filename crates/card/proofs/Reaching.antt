-- How far a walk over a storage has come.
--   Reach      the elements passed since the walk k are the records rs, and what is found from there on
--              is what is found from k on behind them; at most two reads were made for each
use Rattle.std.proofs.Common.{◌≡◌, ℕ, ◌+◌, ◌-◌, ◌*◌, ◌/◌, List, [], ◌∷◌, ◌++◌, length, Ok, Err, Result, sym, refl, ap, ◌∙◌, subst, arith}
use Rattle.storage.specs.Refusals.{Answer}
use Rattle.storage.specs.Meaning.{Meaning}
use Rattle.storage.specs.Calls.{Call}
use Rattle.storage.specs.Inside.{Still}
use Rattle.storage.specs.Traces.{Asked}
use Rattle.storage.proofs.Answering.{still_still, still_lost}
use Rattle.storage.proofs.Traces.{asked_then, asked_wider}
use Rattle.ring.specs.declared.header.Header.{Header}
use Rattle.ring.specs.declared.walk.Walk.{Walk}
use Rattle.ring.specs.Bytes.{number, stretch}
use Rattle.ring.specs.Ring.{along, taken}
use Rattle.ring.specs.Walking.{position, left, rest}
use Rattle.ring.proofs.Stretches.{length_stretch}
use Rattle.ring.proofs.Elements.{taken_append}
use Rattle.ring.proofs.Walked.{befores, befores_more, befores_none, befores_broken}
use Rattle.ring.proofs.Walks.{rest_none}
use Rattle.card.specs.declared.refusal.OpenRefusal.{OpenRefusal}
use Rattle.card.specs.declared.refusal.OpenRefusal.TheVariants.{Gone, NotAQueue, BrokenRecord}
use Rattle.card.specs.Reads.{ReadsUpTo}
use Rattle.card.specs.Refusals.{answered}
use Rattle.card.specs.Surveys.{ring_bytes, reads_next, Nexted, Walked, OnNext, OnWalk}
use Rattle.card.proofs.Stepping.{at_most_two, room_for_reads}

pub same_answer : (A B : Type 0) {G : Type 0} (e : OpenRefusal G) → answered {A = A} (Err e) ≡ answered {A = B} (Err e)
same_answer A B (Gone f) = refl
same_answer A B NotAQueue = refl
same_answer A B (BrokenRecord p) = refl

module _ {S O G : Type 0} (means : S → Meaning) (did : S → Call → Answer O G → S → Type 0) where
  pub record Reach (s t : S) (k k' : Walk) : Type 0 where
    pub order : (means t).in_order
    pub still : Still (means s) (means t)
    pub rs : List (List ℕ)
    pub found : rest (ring_bytes k (means s)) k ≡ befores rs (rest (ring_bytes k (means s)) k')
    pub size_stays : k'.size ≡ k.size
    pub header_stays : k'.header ≡ k.header
    pub used_is : k'.used ≡ k.used + taken rs
    pub calls : Asked did (ReadsUpTo 4) {A = Unit {0}} (2 * k'.passed) (Ok tt) s t

  module _ (s t u : S) (k k' k'' : Walk) (reach : Reach s t k k') where
    -- the bytes along the ring are still the same
    bytes_stay : ring_bytes k' (means t) ≡ ring_bytes k (means s)
    bytes_stay = ap (λ (h : Header). along 16 h.ring (means t).visible) reach.header_stays ∙ ap (λ (b : List ℕ). along 16 k.header.ring b) reach.still.visible

    pub reach_more : (means u).in_order → Still (means t) (means u) → Nexted (ring_bytes k' (means t)) k' k'' → Asked did (ReadsUpTo 4) {A = Unit {0}} (reads_next k') (Ok tt) t u → Reach s u k k''
    reach_more o y n c =
        let n : Nexted (ring_bytes k (means s)) k' k'' = subst (λ (f : ℕ → ℕ). Nexted f k' k'') bytes_stay n in
        let r = stretch (ring_bytes k (means s)) (position k' + 4) (number (ring_bytes k (means s)) (position k')) in
        let long : length r ≡ number (ring_bytes k (means s)) (position k') = length_stretch (ring_bytes k (means s)) (position k' + 4) (number (ring_bytes k (means s)) (position k')) in
        record {
          order = o;
          still = still_still (means s) (means t) (means u) reach.still y;
          rs = reach.rs ++ (r ∷ []);
          found = reach.found ∙ ap (befores reach.rs) n.found ∙ befores_more reach.rs r (rest (ring_bytes k (means s)) k'');
          size_stays = n.size_stays ∙ reach.size_stays;
          header_stays = n.header_stays ∙ reach.header_stays;
          used_is = n.used_is ∙ omega (arith, reach.used_is, taken_append reach.rs (r ∷ []), long);
          calls = asked_wider did (ReadsUpTo 4) {A = Unit {0}} (2 * k'.passed + reads_next k') (2 * k''.passed) (Ok tt) s u (omega (arith, at_most_two k', n.passed_is))
              (asked_then did (ReadsUpTo 4) {A = Unit {0}} {B = Unit {0}} (2 * k'.passed) (reads_next k') tt (Ok tt) s t u reach.calls c);
        }

    -- an element was declined
    pub reach_declined : (e : OpenRefusal G) → OnNext k' k'' (means t) (means u) (Err e) → OnWalk k (means s) (means u) (Err e)
    reach_declined (Gone x) d = still_lost (means s) (means t) (means u) reach.still d
    reach_declined NotAQueue d = d
    reach_declined (BrokenRecord p) d = (
      still_still (means s) (means t) (means u) reach.still d.0,
      reach.found ∙ ap (befores reach.rs) (ap (λ (f : ℕ → ℕ). rest f k') (sym bytes_stay) ∙ d.1) ∙ befores_broken reach.rs p,
    )

    pub reach_calls : (e : OpenRefusal G) → Asked did (ReadsUpTo 4) {A = Unit {0}} (reads_next k') (answered {A = Unit {0}} (Err e)) t u →
        Asked did (ReadsUpTo 4) {A = Unit {0}} ((k.size - 16) / 2) (answered {A = Walk} (Err e)) s u
    reach_calls e c =
        let r = answered {A = Unit {0}} (Err e) in
        subst (λ (x : Result (Unit {0}) G). Asked did (ReadsUpTo 4) {A = Unit {0}} ((k.size - 16) / 2) x s u) (same_answer (Unit {0}) Walk e)
        (asked_wider did (ReadsUpTo 4) {A = Unit {0}} (2 * k'.passed + reads_next k') ((k.size - 16) / 2) r s u
        (omega (arith, room_for_reads k', reach.size_stays))
        (asked_then did (ReadsUpTo 4) {A = Unit {0}} (2 * k'.passed) (reads_next k') tt r s t u reach.calls c))

  pub reach_end : (s t : S) (k k' : Walk) → Reach s t k k' → left k' ≡ 0 → Walked (ring_bytes k (means s)) k k'
  reach_end s t k k' r z = record {
    rs = r.rs;
    found = r.found ∙ ap (befores r.rs) (rest_none (ring_bytes k (means s)) k' z) ∙ befores_none r.rs;
    size_stays = r.size_stays;
    header_stays = r.header_stays;
    used_is = r.used_is;
    passed_is = omega (arith, k'.few);
  }
