use Rattle.std.proofs.Common.{◌≡◌, ℕ, ◌+◌, ◌-◌, ◌/◌, ◌%◌, ◌<◌, ◌≤◌, min, List, ◌++◌, length, take, drop, Err, sym, ap, ◌∙◌, subst, inl, inr, ⊎_elim, arith, rules}
use Rattle.std.proofs.lemmas.List.{places}
use Rattle.std.proofs.lemmas.Slice.{take-put_mid}
use Rattle.storage.specs.Cells.{part}
use Rattle.storage.specs.Sectors.{touched}
use Rattle.storage.proofs.Answering.{still_still}
use Rattle.storage.proofs.Sectors.{Even, even_more, touched_more, touched_less, next_end, evenly}
use Rattle.cache.specs.Cached.{lines_mean}
use Rattle.cache.specs.Chains.{ReadStep, Took}
use Rattle.cache.proofs.Ranging.{sector_next, walk_more, part_more}
use Rattle.cache.proofs.lines.Lines.read_range.Goals as goal

pub returns-in-Err-clause-did : goal.returns-in-Err-clause-did
returns-in-Err-clause-did g c =
    let h = c.loop-piece.invariant in
    let x = c.in-Some.ensures.steps in
    let o = c.args.offset in
    let n = length c.args.buf.now in
    let done = c.loop-piece.piece-iterator.done in
    let w = c.loop-piece.self in
    let lt : done < n = omega (arith, h.all, x.more) in
    let e = evenly o done n lt h.even in (
      touched o done,
      w,
      touched_less o done n e lt,
      h.walk,
      subst (λ (k : ℕ). Took g.S.Storage.did g.S.Storage.means w k (Err c.in-Err.fault) c.read_piece.new.self) (ap (λ (k : ℕ). (o + k) / 512) x.from ∙ sym (sector_next o done e)) c.in-Err.ensures.did,
    )

pub loop-piece-preserved : goal.loop-piece-preserved
loop-piece-preserved g c =
    let f = lines_mean g.S.Storage.means in
    let h = c.loop-piece.invariant in
    let p = c.in-Some.piece in
    let x = c.in-Some.ensures.steps in
    let o = c.args.offset in
    let n = length c.args.buf.now in
    let done = c.loop-piece.piece-iterator.done in
    let m = min (512 - (o + done) % 512) (n - done) in
    let s = c.args.self.now in
    let w = c.loop-piece.self in
    let z = c.read_piece.new.self in
    let v = (f s).visible in
    let buf = c.loop-piece.buf in
    let out = c.read_piece.new.out in
    let d = c.in_default.ensures in
    let lt : done < n = omega (arith, h.all, x.more) in
    let e = evenly o done n lt h.even in
    let is = next_end o n c.loop-piece.piece-iterator p c.next.new.self x h.from h.all in
    let end : c.next.new.self.done ≡ done + m = x.done ∙ is in
    let some : 0 < m = omega arith in
    let short : m ≤ 512 - (o + done) % 512 = omega arith in
    let le : done + m ≤ n = omega arith in
    let old : length (take (p.to - p.from) (drop p.from buf)) ≡ m = search (rules, places) in
    let got : out ≡ part (o + done) m v =
    d.does.1.0 ∙ ap (λ (k : ℕ). part (o + p.from) k (f w).visible) old ∙ ap (λ (k : ℕ). part (o + k) m (f w).visible) x.from ∙ ap (λ (y : List ℕ). part (o + done) m y) h.still.visible in
    record {
      from = x.offset ∙ h.from;
      all = x.count ∙ h.all;
      in_order = d.in_order;
      still = still_still (f s) (f w) (f z) h.still d.does.0;
      lives = λ _. d.does.1.1;
      got = take-put_mid p.from (p.to - p.from) buf out c.next.new.self.done (omega arith) (omega arith)
          ∙ ap (λ (k : ℕ). take k buf ++ out) x.from ∙ ap (λ (y : List ℕ). y ++ out) h.got ∙ ap (λ (y : List ℕ). part o done v ++ y) got ∙ part_more o done m v
          ∙ ap (λ (k : ℕ). part o k v) (sym end);
      walk = walk_more (ReadStep g.S.Storage.did g.S.Storage.means) s (o / 512) (touched o done) (touched o c.next.new.self.done) ((o + done) / 512) w z
          (ap (λ (k : ℕ). touched o k) end ∙ touched_more o done m e some short) (sector_next o done e) h.walk
          (subst (λ (k : ℕ). ReadStep g.S.Storage.did g.S.Storage.means ((o + k) / 512) w z) x.from d.did);
      even = ⊎_elim (λ q. inl (subst (λ (k : ℕ). Even o k) (sym end) q)) (λ q. inr (omega arith)) (even_more o done (n - done) e (omega arith));
    }
