-- Heads and records, by the meaning of the storage.
use Rattle.std.proofs.Common.{◌≡◌, ℕ, List, length, sym, ap, ◌∙◌, subst, inl}
use Rattle.std.proofs.lemmas.Bool.{both_ways}
use Rattle.storage.specs.Meaning.{Meaning}
use Rattle.storage.specs.Inside.{Still, Lost}
use Rattle.ring.specs.declared.head.Head.{Head}
use Rattle.ring.specs.Headers.{header_of}
use Rattle.ring.specs.Reading.{Records, reading_of}
use Rattle.ring.proofs.Standing.{card_stands}
use Rattle.card.specs.Held.{Held, Done, Fell}

-- a card that reads as records counts them in its header
pub reads_counted : (b : List ℕ) (rs : List (List ℕ)) → reading_of b ≡ Records rs → (header_of b).count ≡ length rs
reads_counted b rs e = (card_stands b rs e).counted

-- a completed call leaves a queue
pub done_held : (b : List ℕ) (h : Head) (rs : List (List ℕ)) (m m' : Meaning) → m'.in_order → Done b h rs m m' → Held h rs m'
done_held b h rs m m' o d = record {
  in_order = o;
  size_is = d.size_is ∙ sym d.served.size;
  counted = ap (λ x. x.count) d.header_is ∙ reads_counted m'.visible rs d.reads;
  used_is = d.used_is;
  reads = λ _. d.reads;
  header_is = λ _. d.header_is;
  only = λ _. d.only;
}

-- calls that only read leave it
pub still_held : (h : Head) (rs : List (List ℕ)) (m m' : Meaning) → m'.in_order → Held h rs m → Still m m' → Held h rs m'
still_held h rs m m' o k s = record {
  in_order = o;
  size_is = k.size_is ∙ sym s.size;
  counted = k.counted;
  used_is = k.used_is;
  reads = λ l. subst (λ (b : List ℕ). reading_of b ≡ Records rs) (sym s.visible) (k.reads (sym s.lives ∙ l));
  header_is = λ l. k.header_is (sym s.lives ∙ l) ∙ ap header_of (sym s.visible);
  only = λ l t h. k.only (sym s.lives ∙ l) t (s.stands t h) ∙ sym s.visible;
}

-- and where the storage turned GONE at a read, nothing else may stand
pub lost_fell : (h : Head) (rs new : List (List ℕ)) (m m' : Meaning) → Held h rs m → Lost m m' → Fell rs new m m'
lost_fell h rs new m m' k l = record {
  ended = l.ended;
  each = λ lives s st. inl (subst (λ (b : List ℕ). reading_of b ≡ Records rs) (sym (k.only lives s (l.stands s st))) (k.reads lives));
}

-- a head outlives its storage
pub fell_held : (h : Head) (rs new : List (List ℕ)) (m m' : Meaning) → m'.in_order → Held h rs m → Fell rs new m m' → Held h rs m'
fell_held h rs new m m' o k f =
    let dead = f.ended.dead in
    record {
      in_order = o;
      size_is = k.size_is ∙ sym f.ended.size;
      counted = k.counted;
      used_is = k.used_is;
      reads = λ l. absurd (both_ways m'.lives dead l);
      header_is = λ l. absurd (both_ways m'.lives dead l);
      only = λ l. absurd (both_ways m'.lives dead l);
    }
