-- Bytes copied behind the ring, piece by piece.
use Rattle.std.proofs.Math.Seq.{take-add}
use Rattle.std.proofs.Common.{◌≡◌, ℕ, ◌+◌, ◌-◌, ◌*◌, ◌/◌, ◌<◌, ◌≤◌, min, ◌⊎◌, List, ◌++◌, length, take, drop, Ok, Err, sym, ap, ◌∙◌, inl, inr, arith}
use Rattle.std.proofs.lemmas.List.{drop-drop, ext_get_or}
use Rattle.std.proofs.lemmas.Bool.{cases_lt}
use Rattle.storage.specs.Cells.{laid, part, length_part}
use Rattle.storage.specs.Refusals.{Answer}
use Rattle.storage.specs.Meaning.{Meaning}
use Rattle.storage.specs.Calls.{Call, Reading, Writing, Syncing}
use Rattle.storage.specs.Traces.{Asked}
use Rattle.storage.proofs.Lists.{laid_apart, length_laid, laid_laid, part_at}
use Rattle.storage.proofs.Sectors.{}
use Rattle.storage.proofs.Traces.{asked_then, asked_wider, asked_weaker}
use Rattle.adding.specs.Writes.{Went, Cut}
use Rattle.adding.specs.Copies.{copies, CopyCall, Before}
use Rattle.adding.proofs.Going.{went_went, went_cut, went_fewer, cut_fewer}

-- parts that follow each other
part_split : (o n k : ℕ) (v : List ℕ) → part o n v ++ part (o + n) k v ≡ part o (n + k) v
part_split o n k v = ap (λ (x : List ℕ). take n (drop o v) ++ take k x) (sym (drop-drop n o v)) ∙ sym (take-add n k (drop o v))

-- the source of the next piece lies before the target
source_same : (g n k : ℕ) (v : List ℕ) → 16 + (n + k) ≤ g → g + (n + k) ≤ length v → part (16 + n) k (laid g (part 16 n v) v) ≡ part (16 + n) k v
source_same g n k v below fits =
    let l = length_part 16 n v (omega arith) in
    let inside : g + length (part 16 n v) ≤ length v = omega arith in
    let long = length_laid g (part 16 n v) v inside in
    ext_get_or 0 (part (16 + n) k (laid g (part 16 n v) v)) (part (16 + n) k v)
    (length_part (16 + n) k (laid g (part 16 n v) v) (omega arith) ∙ sym (length_part (16 + n) k v (omega arith)))
    (λ i x.
    let lk = length_part (16 + n) k (laid g (part 16 n v) v) (omega arith) in
    part_at (16 + n) k (laid g (part 16 n v) v) i (omega arith) ∙ laid_apart g (part 16 n v) v (16 + n + i) inside (inl (omega arith)) ∙ sym (part_at (16 + n) k v i (omega arith)))

copied_more : (g n k : ℕ) (v : List ℕ) → 16 + (n + k) ≤ g → g + (n + k) ≤ length v →
    laid (g + n) (part (16 + n) k (laid g (part 16 n v) v)) (laid g (part 16 n v) v) ≡ laid g (part 16 (n + k) v) v
copied_more g n k v below fits =
    let l = length_part 16 n v (omega arith) in
    let lk = length_part (16 + n) k v (omega arith) in
    ap (λ (x : List ℕ). laid (g + n) x (laid g (part 16 n v) v)) (source_same g n k v below fits)
    ∙ laid_laid g n (part 16 n v) (part (16 + n) k v) v l (omega arith)
    ∙ ap (λ (x : List ℕ). laid g x v) (part_split 16 n k v)

-- writes behind a later offset are writes behind an earlier one
farther : (g n : ℕ) (c : Call) → CopyCall (g + n) c → CopyCall g c
farther g n (Reading o k) l = l
farther g n (Writing o b) l = (omega (arith, l.0), l.1)
farther g n Syncing l = l

module _ {S O G : Type 0} (means : S → Meaning) (did : S → Call → Answer O G → S → Type 0) where
  pub record Copied (g n done : ℕ) (s t : S) : Type 0 where
    pub order : (means t).in_order
    pub went : Went (Before g) (means s) (means t)
    pub visible : (means t).visible ≡ laid g (part 16 done (means s).visible) (means s).visible
    pub upto : done ≤ n
    pub whole : (done ≡ n) ⊎ (done ≡ 512 * (done / 512))
    pub calls : Asked did (CopyCall g) {A = Unit {0}} (copies done) (Ok tt) s t

  module _ (g n done k : ℕ) (s t u : S) (c : Copied g n done s t) (below : 16 + n ≤ g) (fits : g + n ≤ length (means s).visible) (more : done < n) (is : k ≡ min (n - done) 512) where
    two_more : copies done + 2 ≤ copies (done + k)
    two_more = elim c.whole [ inl e ↦ absurd (omega arith) | inr e ↦ omega arith ]

    pub copied_step : (means u).in_order → Went (Before (g + done)) (means t) (means u) → (means u).visible ≡ laid (g + done) (part (16 + done) k (means t).visible) (means t).visible →
        Asked did (CopyCall (g + done)) {A = Unit {0}} 2 (Ok tt) t u → Copied g n (done + k) s u
    copied_step o w v a = record {
      order = o;
      went = went_went (Before g) (means s) (means t) (means u) c.went (went_fewer (Before (g + done)) (Before g) (means t) (means u) (λ i l. omega arith) w);
      visible = v ∙ ap (λ (x : List ℕ). laid (g + done) (part (16 + done) k x) x) c.visible ∙ copied_more g done k (means s).visible (omega arith) (omega arith);
      upto = omega arith;
      whole = elim c.whole [ inl e ↦ absurd (omega arith) | inr e ↦ last e ];
      calls = asked_wider did (CopyCall g) {A = Unit {0}} (copies done + 2) (copies (done + k)) (Ok tt) s u two_more
          (asked_then did (CopyCall g) {A = Unit {0}} {B = Unit {0}} (copies done) 2 tt (Ok tt) s t u c.calls (asked_weaker did {A = Unit {0}} (CopyCall (g + done)) (CopyCall g) 2 (Ok tt) t u (farther g done) a));
    }
      where
        last : done ≡ 512 * (done / 512) → (done + k ≡ n) ⊎ (done + k ≡ 512 * ((done + k) / 512))
        last e = elim (cases_lt (n - done) 512) [ inl l ↦ inl (omega arith) | inr l ↦ inr (omega arith) ]

    pub copied_cut : Cut (Before (g + done)) (means t) (means u) → Cut (Before g) (means s) (means u)
    copied_cut d = went_cut (Before g) (means s) (means t) (means u) c.went (cut_fewer (Before (g + done)) (Before g) (means t) (means u) (λ i l. omega arith) d)

    pub copied_calls : (f : G) → Asked did (CopyCall (g + done)) {A = Unit {0}} 2 (Err f) t u → Asked did (CopyCall g) {A = Unit {0}} (copies n) (Err f) s u
    copied_calls f a =
        let enough : copies (done + k) ≤ copies n = omega arith in
        asked_wider did (CopyCall g) {A = Unit {0}} (copies done + 2) (copies n) (Err f) s u (omega (arith, two_more, enough))
        (asked_then did (CopyCall g) {A = Unit {0}} {B = Unit {0}} (copies done) 2 tt (Err f) s t u c.calls (asked_weaker did {A = Unit {0}} (CopyCall (g + done)) (CopyCall g) 2 (Err f) t u (farther g done) a))
