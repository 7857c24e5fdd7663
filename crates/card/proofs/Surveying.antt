-- From the header and the walk to what the card says.
use Rattle.std.proofs.Common.{◌≡◌, ℕ, ◌+◌, true, false, List, length, Ok, Err, Result, sym, ap, ◌∙◌, subst, arith}
use Rattle.storage.specs.Refusals.{Answer}
use Rattle.storage.specs.Meaning.{Meaning}
use Rattle.storage.specs.Calls.{Call, Reading, Writing, Syncing}
use Rattle.storage.specs.Inside.{Still}
use Rattle.storage.specs.Traces.{Asked}
use Rattle.storage.proofs.Answering.{still_still, still_lost}
use Rattle.storage.proofs.Traces.{asked_weaker, asked_then}
use Rattle.ring.specs.declared.head.Head.{Head}
use Rattle.ring.specs.declared.header.Header.{Header}
use Rattle.ring.specs.declared.walk.Walk.{Walk}
use Rattle.ring.specs.Ring.{along}
use Rattle.ring.specs.Headers.{header_of, sound}
use Rattle.ring.specs.Reading as reading
use Rattle.ring.specs.Walking.{position, left, rest}
use Rattle.ring.proofs.Standing.{read_sound, read_unsound}
use Rattle.card.specs.declared.refusal.OpenRefusal.{OpenRefusal}
use Rattle.card.specs.declared.refusal.OpenRefusal.TheVariants.{Gone, NotAQueue, BrokenRecord}
use Rattle.card.specs.Reads.{ReadsUpTo}
use Rattle.card.specs.Surveys.{ring_bytes, Walked, Shows, OnWalk, OnSurvey}

-- a header that can't be
pub not_a_queue : (b : List ℕ) (z : ℕ) (h : Header) → h ≡ header_of b → z ≡ length b → sound 16 z h.ring h.count h.first h.last ≡ false → reading.reading_of b ≡ reading.NotAQueue
not_a_queue b z h eh ez e =
    read_unsound 16 65535 (length b) (header_of b) (along 16 (header_of b).ring b)
    (subst (λ (x : Header). sound 16 (length b) x.ring x.count x.first x.last ≡ false) eh
    (subst (λ (n : ℕ). sound 16 n h.ring h.count h.first h.last ≡ false) ez e))

-- before the first element the walk is the whole reading
pub reading_begins : (b : List ℕ) (m : Meaning) (k : Walk) → k.header ≡ header_of b → k.size ≡ length b → k.passed ≡ 0 → k.used ≡ 16 → m.visible ≡ b →
    reading.reading_of b ≡ rest (ring_bytes k m) k
reading_begins b m k eh ez ep eu ev =
    let h = k.header in
    let fits = subst (λ (n : ℕ). sound 16 n h.ring h.count h.first h.last ≡ true) ez k.sound in
    let c : h.count ≡ left k = omega arith in
    let p : h.first ≡ position k = omega arith in
    let u : 16 ≡ k.used = sym eu in
    let whole : reading.reading 16 65535 (length b) h (along 16 h.ring b) ≡ reading.walk 16 65535 h.ring h.last (along 16 h.ring b) h.count h.first 16 =
    read_sound 16 65535 (length b) h (along 16 h.ring b) fits in
    ap (λ (x : Header). reading.reading 16 65535 (length b) x (along 16 x.ring b)) (sym eh)
    ∙ whole
    ∙ ap (λ (n : ℕ). reading.walk 16 65535 h.ring h.last (along 16 h.ring b) n h.first 16) c
    ∙ ap (λ (n : ℕ). reading.walk 16 65535 h.ring h.last (along 16 h.ring b) (left k) n 16) p
    ∙ ap (λ (n : ℕ). reading.walk 16 65535 h.ring h.last (along 16 h.ring b) (left k) (position k) n) u
    ∙ ap (λ (x : List ℕ). reading.walk 16 65535 h.ring h.last (along 16 h.ring x) (left k) (position k) k.used) (sym ev)

module _ (m m₁ m₂ : Meaning) (k : Walk) (still : Still m m₁) (eh : k.header ≡ header_of m.visible) (ez : k.size ≡ length m.visible) (ep : k.passed ≡ 0) (eu : k.used ≡ 16) where
  begins : reading.reading_of m.visible ≡ rest (ring_bytes k m₁) k
  begins = reading_begins m.visible m₁ k eh ez ep eu still.visible

  pub declined : {G : Type 0} (e : OpenRefusal G) → OnWalk k m₁ m₂ (Err e) → OnSurvey m m₂ (Err e)
  declined (Gone f) d = still_lost m m₁ m₂ still d
  declined NotAQueue d = absurd d
  declined (BrokenRecord p) d = (still_still m m₁ m₂ still d.0, begins ∙ d.1)

  pub shown : (h : Head) (k' : Walk) → h.size ≡ k'.size → h.header ≡ k'.header → h.used ≡ k'.used → Walked (ring_bytes k m₁) k k' → Shows h m.visible
  shown h k' es eh' eu' w = record {
    rs = w.rs;
    reads = begins ∙ w.found;
    size_is = es ∙ w.size_stays ∙ ez;
    header_is = eh' ∙ w.header_stays ∙ eh;
    used_is = omega (arith, eu', w.used_is, eu);
  }

-- a read of a length field is a small read
small : (c : Call) → ReadsUpTo 4 c → ReadsUpTo 16 c
small (Reading o n) l = omega arith
small (Writing o b) l = l
small Syncing l = l

-- the read of the header, and the reads of the walk
pub header_then : {S O G : Type 0} (did : S → Call → Answer O G → S → Type 0) (n : ℕ) (h : Header) (r : Result (Unit {0}) G) (s t u : S) →
    Asked did (ReadsUpTo 16) {A = Header} 1 (Ok h) s t → Asked did (ReadsUpTo 4) n r t u → Asked did (ReadsUpTo 16) (1 + n) r s u
header_then did n h r s t u a b = asked_then did (ReadsUpTo 16) {A = Header} 1 n h r s t u a (asked_weaker did (ReadsUpTo 4) (ReadsUpTo 16) n r t u small b)
