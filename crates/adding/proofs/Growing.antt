-- A longer ring, from the copy and the header.
use Rattle.std.proofs.Common.{◌≡◌, ℕ, ◌+◌, ◌<◌, ◌≤◌, true, List, [], ◌∷◌, length, get_or, Ok, Err, Result, sym, refl, ap, ◌∙◌, subst, inl, inr, arith}
use Rattle.std.proofs.lemmas.Bool.{both_ways}
use Rattle.storage.specs.Cells.{laid, part}
use Rattle.storage.specs.declared.refusal.Refusal.TheVariants.{Gone}
use Rattle.storage.specs.Refusals.{Answer}
use Rattle.storage.specs.Meaning.{Meaning, Lawful}
use Rattle.storage.specs.Calls.{Call, Writing, Syncing, SyncDone, SyncEnded}
use Rattle.storage.specs.Stores.{StoreDone}
use Rattle.storage.specs.Traces.{Made, Asked}
use Rattle.storage.proofs.Traces.{asked_one, asked_then, asked_weaker, asked_wider}
use Rattle.ring.specs.declared.head.Head.{Head}
use Rattle.ring.specs.declared.header.Header.{Header}
use Rattle.ring.specs.Ring.{used}
use Rattle.ring.specs.Headers.{header_of, cell, sound, RingLength}
use Rattle.ring.specs.Reading.{Records, reading_of}
use Rattle.ring.specs.Steps.{carried, copied, grown_header, grown}
use Rattle.ring.proofs.Soundness.{means_sound}
use Rattle.ring.proofs.Standing.{CardStands, card_stands, card_reads}
use Rattle.ring.proofs.Keeping.{behind_law}
use Rattle.ring.proofs.Growing.{carried_cases, grown_last, header_grown, copied_stands, length_copied, grow_law}
use Rattle.card.specs.Headers.{PutEnded}
use Rattle.card.specs.Held.{Held, Done, Fell}
use Rattle.adding.specs.Writes.{Went, Cut}
use Rattle.adding.specs.Copies.{Before, CopyCall}
use Rattle.adding.specs.Grows.{GrowCall}
use Rattle.adding.proofs.Going.{went_cut, sync_cut}
use Rattle.ring.proofs.Heads.{head_sound, head_least}

pub head_carried : (h : Head) → 16 + carried 16 h.header h.used ≤ h.header.ring
head_carried h = elim (carried_cases 16 h.header h.used) [
  | inl x ↦ omega (arith, x.1, head_least h)
  | inr (inl x) ↦ omega (arith, x.1, x.2, (head_sound h).from x.0, head_least h)
  | inr (inr x) ↦ omega (arith, x.2, head_least h)
]

-- the head of the longer ring keeps the bounds
pub grown_sound : (h : Head) (g : ℕ) → h.size ≤ 16777216 → RingLength g → h.header.ring + h.header.ring ≤ g → g ≤ h.size →
    sound 16 h.size g h.header.count h.header.first (grown_header 16 h.header g).last ≡ true
grown_sound h g small ring twice fits =
    let s = head_sound h in
    let l = grown_last 16 h.header g in
    means_sound 16 h.size g h.header.count h.header.first (grown_header 16 h.header g).last small (record {
      ring = ring;
      fits = fits;
      empty = λ z. let e = s.empty z in (e.0, omega (arith, e, l));
      from = λ some. let x = s.from some in (x.0, omega (arith, x));
      to = λ some. let x = s.to some in let y = s.from some in (omega (arith, x, l, head_least h), omega (arith, x, y, l));
    })

module _ (h : Head) (rs : List (List ℕ)) (g : ℕ) (m : Meaning) (held : Held h rs m) (law : Lawful m) (ring : RingLength g) (twice : h.header.ring + h.header.ring ≤ g) (fits : g ≤ h.size) where
  abbrev b : List ℕ
  b = m.visible

  small : length b ≤ 16777216
  small = omega (arith, law.long, law.sized.most)

  within : g ≤ length b
  within = omega (arith, law.long, held.size_is)

  module _ (lives : m.lives ≡ true) where
    reads : reading_of b ≡ Records rs
    reads = held.reads lives

    head_is : h.header ≡ header_of b
    head_is = held.header_is lives

    twice_is : (header_of b).ring + (header_of b).ring ≤ g
    twice_is = omega (arith, ap (λ (x : Header). x.ring) head_is)

    by_head : {X : Type 0} (F : Header → ℕ → X) → F h.header h.used ≡ F (header_of b) (used 16 rs)
    by_head F = ap (λ (x : Header). F x h.used) head_is ∙ ap (F (header_of b)) held.used_is

    stands : CardStands 16 65535 b rs
    stands = card_stands b rs reads

    reads_behind : (c : List ℕ) → length c ≡ length b → ((k : ℕ) → k < h.header.ring → get_or c k 0 ≡ get_or b k 0) → reading_of c ≡ Records rs
    reads_behind c long same = behind_law b rs small reads c long (λ k l. same k (omega (arith, ap (λ (x : Header). x.ring) head_is)))

    reads_copied : reading_of (copied 16 h.header h.used b) ≡ Records rs
    reads_copied =
        ap reading_of (by_head (λ x u. copied 16 x u b))
        ∙ card_reads (copied 16 (header_of b) (used 16 rs) b) rs
        (omega (arith, length_copied 16 65535 b rs g (omega arith) (omega arith) stands within twice_is))
        (copied_stands 16 65535 b rs g (omega arith) (omega arith) stands within twice_is)

    reads_grown : reading_of (grown 16 h.header h.used g b) ≡ Records rs
    reads_grown = ap reading_of (by_head (λ x u. grown 16 x u g b)) ∙ grow_law b rs small reads g ring within twice_is

    header_is_grown : header_of (grown 16 h.header h.used g b) ≡ grown_header 16 h.header g
    header_is_grown =
        ap header_of (by_head (λ x u. grown 16 x u g b))
        ∙ header_grown 16 65535 b rs g (omega arith) (omega arith) stands within twice_is small
        ∙ sym (by_head (λ x u. grown_header 16 x g))

  pub copy_fell : (m₁ : Meaning) → Cut (Before h.header.ring) m m₁ → Fell rs rs m m₁
  copy_fell m₁ c = record {
    ended = c.ended;
    each = λ lives s st.
        let x = c.stands s st in
        let t = held.only lives x.0 x.1 in
        inl (reads_behind lives s (x.2.long ∙ ap length t) (λ k l. x.2.bytes k l ∙ ap (λ (y : List ℕ). get_or y k 0) t));
  }

  module _ (m₁ m₂ : Meaning) (went : Went (Before h.header.ring) m m₁) (shown : m₁.visible ≡ laid h.header.ring (part 16 (carried 16 h.header h.used) b) b) where
    pub sync_fell : SyncEnded m₁ m₂ → Fell rs rs m m₂
    sync_fell y = copy_fell m₂ (went_cut (Before h.header.ring) m m₁ m₂ went (sync_cut (Before h.header.ring) m₁ m₂ y))

    module _ (m₃ : Meaning) (synced : SyncDone m₁ m₂) where
      abbrev header_cell : List ℕ
      header_cell = cell (grown_header 16 h.header g)

      lived : m.lives ≡ true
      lived = sym went.lives ∙ synced.served.lived

      settled : m₂.visible ≡ copied 16 h.header h.used b
      unfolding copied
      settled = synced.visible ∙ shown

      laid_is : laid 0 header_cell m₂.visible ≡ grown 16 h.header h.used g b
      unfolding grown
      laid_is = ap (laid 0 header_cell) settled

      pub header_fell : PutEnded header_cell m₂ m₃ → Fell rs rs m m₃
      header_fell p = record {
        ended = record { size = p.ended.size ∙ synced.served.size ∙ went.size; dead = p.ended.dead; already = λ d. absurd (both_ways m.lives d lived) };
        each = λ lives s st.
            let x = p.stands s st in
            let t : x.0 ≡ m₂.visible = synced.only x.0 x.1 ∙ sym synced.visible in
            inl (elim x.2 [
              | inl e ↦ ap reading_of (e ∙ t ∙ settled) ∙ reads_copied lives
              | inr e ↦ ap reading_of (e ∙ ap (laid 0 header_cell) t ∙ laid_is) ∙ reads_grown lives
            ]);
      }

      pub grew : (h' : Head) → h'.size ≡ h.size → h'.header ≡ grown_header 16 h.header g → h'.used ≡ h.used → StoreDone 0 header_cell m₂ m₃ → Done (grown 16 h.header h.used g b) h' rs m m₃
      grew h' es eh eu d =
          let v : m₃.visible ≡ grown 16 h.header h.used g b = d.visible ∙ laid_is in
          record {
            served = record { lived = lived; lives = d.served.lives; size = d.served.size ∙ synced.served.size ∙ went.size };
            visible = v;
            only = d.only;
            reads = ap reading_of v ∙ reads_grown lived;
            size_is = es ∙ held.size_is;
            header_is = eh ∙ sym (header_is_grown lived) ∙ ap header_of (sym v);
            used_is = eu ∙ held.used_is;
          }

-- the calls of a growth
module _ {S O G : Type 0} (did : S → Call → Answer O G → S → Type 0) (h : Header) (g n : ℕ) where
  abbrev P : Call → Type 0
  P = GrowCall h g

  abbrev header_write : Call
  header_write = Writing 0 (cell (grown_header 16 h g))

  pub copy_calls : (A : Type 0) (f : G) (s t : S) → Asked did (CopyCall h.ring) {A = Unit {0}} n (Err f) s t → Asked did P {A = A} (n + 3) (Err f) s t
  copy_calls A f s t a = asked_wider did P {A = A} n (n + 3) (Err f) s t (omega arith) (asked_weaker did {A = Unit {0}} (CopyCall h.ring) P n (Err f) s t (λ c x. inl x) a)

  copied_calls : (s t : S) → Asked did (CopyCall h.ring) {A = Unit {0}} n (Ok tt) s t → Asked did P {A = Unit {0}} n (Ok tt) s t
  copied_calls s t a = asked_weaker did {A = Unit {0}} (CopyCall h.ring) P n (Ok tt) s t (λ c x. inl x) a

  pub sync_calls : (A : Type 0) (f : G) (s t u : S) → Asked did (CopyCall h.ring) {A = Unit {0}} n (Ok tt) s t → did t Syncing (Err (Gone f)) u → Asked did P {A = A} (n + 3) (Err f) s u
  sync_calls A f s t u a d =
      asked_wider did P {A = A} (n + 1) (n + 3) (Err f) s u (omega arith)
      (asked_then did P {A = Unit {0}} {B = A} n 1 tt (Err f) s t u (copied_calls s t a) (asked_one did P {A = A} Syncing (Err f) t u (inr (inr refl)) d))

  pub header_calls : {A : Type 0} (r : Result A G) (s t u v : S) → Asked did (CopyCall h.ring) {A = Unit {0}} n (Ok tt) s t → did t Syncing (Ok tt) u → Made did (header_write ∷ Syncing ∷ []) r u v → Asked did P (n + 3) r s v
  header_calls r s t u v a d x = after r x
    where
      before : Asked did P {A = Unit {0}} (n + 1) (Ok tt) s u
      before = asked_then did P {A = Unit {0}} {B = Unit {0}} n 1 tt (Ok tt) s t u (copied_calls s t a) (asked_one did P {A = Unit {0}} Syncing (Ok tt) t u (inr (inr refl)) d)

      wrote : (w : S) → did u header_write (Ok tt) w → Asked did P {A = Unit {0}} (n + 1 + 1) (Ok tt) s w
      wrote w y = asked_then did P {A = Unit {0}} {B = Unit {0}} (n + 1) 1 tt (Ok tt) s u w before (asked_one did P {A = Unit {0}} header_write (Ok tt) u w (inr (inl refl)) y)

      after : {A : Type 0} (r : Result A G) → Made did (header_write ∷ Syncing ∷ []) r u v → Asked did P (n + 3) r s v
      after (Ok a) y =
          let z = y.2 in
          asked_wider did P (n + 1 + 1 + 1) (n + 3) (Ok a) s v (omega arith)
          (asked_then did P {A = Unit {0}} (n + 1 + 1) 1 tt (Ok a) s y.0 v (wrote y.0 y.1)
          (asked_one did P Syncing (Ok a) y.0 v (inr (inr refl)) (subst (λ (q : S). did y.0 Syncing (Ok tt) q) (sym z.2) z.1)))
      after {A = A} (Err f) (inl y) =
          asked_wider did P {A = A} (n + 1 + 1) (n + 3) (Err f) s v (omega arith)
          (asked_then did P {A = Unit {0}} {B = A} (n + 1) 1 tt (Err f) s u v before (asked_one did P {A = A} header_write (Err f) u v (inr (inl refl)) y))
      after {A = A} (Err f) (inr y) = elim y.2 [
        | inl z ↦
            asked_wider did P {A = A} (n + 1 + 1 + 1) (n + 3) (Err f) s v (omega arith)
            (asked_then did P {A = Unit {0}} {B = A} (n + 1 + 1) 1 tt (Err f) s y.0 v (wrote y.0 y.1) (asked_one did P {A = A} Syncing (Err f) y.0 v (inr (inr refl)) z))
        | inr z ↦ absurd z.2
      ]
