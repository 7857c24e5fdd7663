-- What a cache does at each call, and what it answers.
--   cache_name        the name in its faults
--   Inner             a read or write within the size: told GONE it is handed down as a sync; a call
--                     of no bytes is handed down as it is; else it goes sector by sector. The cache is
--                     told GONE, if that is the answer
--   Answers           a read or write: OUTSIDE first, and then nothing changes; `holding` says in
--                     plain terms which sectors are held then
--   CacheDid          what it did at a call
use Rattle.std.specs.Prelude.{◌≡◌, ℕ, ◌+◌, ◌<◌, ◌≤◌, true, false, List, length, is_ok, is_err, ◌||◌, codes, Result}
use Rattle.storage.specs.declared.refusal.LayerFault.{LayerFault}
use Rattle.storage.specs.declared.refusal.Link.{Link}
use Rattle.storage.specs.Layers.{Declined, Lifts}
use Rattle.storage.specs.Refusals.{Answer}
use Rattle.storage.specs.Meaning.{Meaning}
use Rattle.storage.specs.Calls.{Call, Reading, Writing, Syncing}
use Rattle.cache.specs.declared.lines.Lines.{Lines}
use Rattle.cache.specs.declared.cache.Cache.{Cache}
use Rattle.cache.specs.Chains.{ReadStep, WriteStep, Ranges}
use Rattle.cache.specs.Holding.{Holding}
use Rattle.cache.specs.Syncs.{Passes, Settles}

abbrev pub cache_name : List ℕ
cache_name = codes "cache"

module _ {S O G : Type 0} (R : S → Call → Answer O G → S → Type 0) (f : S → Meaning) where
  pub record Inner (call : Call) (move : ℕ → Lines S → Lines S → Type 0) (o n : ℕ) (c : Cache S) (r : Result (Unit {0}) G) (d : Cache S) : Type 0 where
    pub told : c.gone ≡ true → Passes R Syncing c.inner r d.inner
    pub none : c.gone ≡ false → n ≡ 0 → Passes R call c.inner r d.inner
    pub some : c.gone ≡ false → 0 < n → Ranges R f move c.inner o n r d.inner
    pub flag : d.gone ≡ (c.gone || is_err r)

  pub record Answers (call : Call) (move : ℕ → Lines S → Lines S → Type 0) (o n : ℕ) (c : Cache S) (x : Answer Link (LayerFault G)) (d : Cache S) : Type 0 where
    pub past : (f c.inner.below).size < o + n → (d ≡ c) × Declined cache_name o x
    pub within : o + n ≤ (f c.inner.below).size → (r : Result (Unit {0}) G) × (Inner call move o n c r d) × (Lifts cache_name o r x)
    pub holding : o + n ≤ (f c.inner.below).size → c.gone ≡ false → 0 < n → Holding o n (is_ok x) c.inner d.inner

  abbrev pub CacheDid : Cache S → Call → Answer Link (LayerFault G) → Cache S → Type 0
  CacheDid c (Reading o n) x d = Answers (Reading o n) (ReadStep R f) o n c x d
  CacheDid c (Writing o b) x d = Answers (Writing o b) (WriteStep R f o b) o (length b) c x d
  CacheDid c Syncing x d = (r : Result (Unit {0}) G) × (Settles R c r d) × (Lifts cache_name 0 r x)
