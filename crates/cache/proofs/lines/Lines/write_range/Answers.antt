use Rattle.std.proofs.Common.{◌≡◌, ℕ, ◌+◌, ◌-◌, ◌/◌, ◌%◌, ◌<◌, ◌≤◌, min, List, length, take, drop, Ok, Err, refl, sym, ap, ◌∙◌, subst, inl, inr, ⊎_elim, arith}
use Rattle.std.proofs.lemmas.Bool.{cases_lt, both_ways}
use Rattle.std.proofs.lemmas.Result.{err_from_is_err_and}
use Rattle.storage.specs.Cells.{laid}
use Rattle.storage.specs.Calls.{Arrives, WriteDone}
use Rattle.storage.specs.Meaning.{Same}
use Rattle.storage.specs.Sectors.{touched}
use Rattle.storage.proofs.Sectors.{Even, even_more, touched_none, touched_more, touched_less, next_end, evenly}
use Rattle.cache.specs.declared.lines.Lines.{Lines}
use Rattle.cache.specs.Cached.{lines_mean}
use Rattle.cache.specs.Lines.{length_seen}
use Rattle.cache.specs.Chains.{Walk, WriteStep, Took, Writes, begins}
use Rattle.cache.proofs.Ranging.{sector_next, begins_next, piece_next, walk_more, bytes_more, arrives_more, arrives_part}
use Rattle.cache.proofs.lines.Lines.write_range.Goals as goal

pub returns-in_err-write_piece : goal.returns-in_err-write_piece
returns-in_err-write_piece g c =
    let f = lines_mean g.S.Storage.means in
    let h = c.loop-piece.invariant in
    let x = c.in-Some.ensures.steps in
    let o = c.args.offset in
    let b = c.args.bytes.now in
    let done = c.loop-piece.piece-iterator.done in
    let s = c.args.self.now in
    let w = c.loop-piece.self in
    let z = c.write_piece.new.self in
    let d = c.in_err-write_piece.ensures in
    let lt : done < length b = omega (arith, h.all, x.more) in
    let e = evenly o done (length b) lt h.even in
    let at-start : done ≡ 0 → w ≡ s = λ q. subst (λ (k : ℕ). Walk (WriteStep g.S.Storage.did g.S.Storage.means o b) s (o / 512) k w) (touched_none o done q) h.walk in
    let p = err_from_is_err_and c.from_residual.result c.from_residual.ensures.1 in
    rw (p.1, p.2) (record {
      in_order = d.in_order;
      does = record {
        fits = c.requires.fits;
        ended = record {
          size = d.does.ended.size ∙ h.size;
          dead = d.does.ended.dead;
          already = λ dead. elim (cases_lt 0 done) [
            | inl q ↦ absurd (both_ways (g.S.Storage.means s.below).lives dead (h.lives q).0)
            | inr q ↦ let ws = at-start (omega arith) in
                subst (λ (y : Lines _). Same (f y) (f z)) ws (d.does.ended.already (ap (λ (y : Lines _). (f y).lives) ws ∙ dead))
          ];
        };
        stands = arrives_part o done b (f s) (f w) (f z) (omega arith) e h.stands d.does.stands;
      };
      did = (
        touched o done,
        w,
        touched_less o done (length b) e lt,
        h.walk,
        subst (λ (k : ℕ). Took g.S.Storage.did g.S.Storage.means w k (Err c.in_err-write_piece.field-0.0) z) (ap (λ (k : ℕ). (o + k) / 512) x.from ∙ sym (sector_next o done e)) d.did,
      );
    })

pub loop-piece-preserved : goal.loop-piece-preserved
loop-piece-preserved g c =
    let f = lines_mean g.S.Storage.means in
    let h = c.loop-piece.invariant in
    let p = c.in-Some.piece in
    let x = c.in-Some.ensures.steps in
    let o = c.args.offset in
    let b = c.args.bytes.now in
    let done = c.loop-piece.piece-iterator.done in
    let m = min (512 - (o + done) % 512) (length b - done) in
    let s = c.args.self.now in
    let w = c.loop-piece.self in
    let z = c.write_piece.new.self in
    let v = (f s).visible in
    let d = c.in_ok-write_piece.ensures in
    let lt : done < length b = omega (arith, h.all, x.more) in
    let e = evenly o done (length b) lt h.even in
    let is = next_end o (length b) c.loop-piece.piece-iterator p c.next.new.self x h.from h.all in
    let end : c.next.new.self.done ≡ done + m = x.done ∙ is in
    let cut : p.to - p.from ≡ m = omega (arith, x.from) in
    let some : 0 < m = omega arith in
    let short : m ≤ 512 - (o + done) % 512 = omega arith in
    let le : done + m ≤ length b = omega arith in
    let law = g.met.S.Storage.lawful s.below c.requires.in_order.below in
    let fits : o + length b ≤ length v = omega (arith, c.requires.fits, law.long, length_seen s.slots s.lines (g.S.Storage.means s.below).visible) in
    let wrote = subst (λ (k : ℕ). WriteDone (o + k) (take m (drop k b)) (f w) (f z)) x.from (subst (λ (k : ℕ). WriteDone (o + p.from) (take k (drop p.from b)) (f w) (f z)) cut d.does.0) in
    let did = subst (λ (k : ℕ). Writes g.S.Storage.did g.S.Storage.means (o + k) (take m (drop k b)) w (Ok tt) z) x.from
    (subst (λ (k : ℕ). Writes g.S.Storage.did g.S.Storage.means (o + p.from) (take k (drop p.from b)) w (Ok tt) z) cut d.did) in
    let step : WriteStep g.S.Storage.did g.S.Storage.means o b ((o + done) / 512) w z =
    subst (λ (y : List ℕ). Writes g.S.Storage.did g.S.Storage.means (begins o ((o + done) / 512)) y w (Ok tt) z) (sym (piece_next o done m b e refl))
    (subst (λ (k : ℕ). Writes g.S.Storage.did g.S.Storage.means k (take m (drop done b)) w (Ok tt) z) (sym (begins_next o done e)) did) in
    record {
      from = x.offset ∙ h.from;
      all = x.count ∙ h.all;
      in_order = d.in_order;
      size = wrote.served.size ∙ h.size;
      lives = λ _. (
        elim (cases_lt 0 done) [
          | inl q ↦ (h.lives q).0
          | inr q ↦ ap (λ (y : Lines _). (f y).lives) (sym (subst (λ (k : ℕ). Walk (WriteStep g.S.Storage.did g.S.Storage.means o b) s (o / 512) k w) (touched_none o done (omega arith)) h.walk)) ∙ wrote.served.lived
        ],
        wrote.served.lives,
      );
      visible = wrote.visible ∙ ap (λ (y : List ℕ). laid (o + done) (take m (drop done b)) y) h.visible ∙ bytes_more o done m b v le fits ∙ ap (λ (k : ℕ). laid o (take k b) v) (sym end);
      stands = subst (λ (k : ℕ). Arrives o (take k b) (f s) (f z)) (sym end) (arrives_more o done b (f s) (f w) (f z) (omega arith) e h.stands m le wrote.stands);
      walk = walk_more (WriteStep g.S.Storage.did g.S.Storage.means o b) s (o / 512) (touched o done) (touched o c.next.new.self.done) ((o + done) / 512) w z
          (ap (λ (k : ℕ). touched o k) end ∙ touched_more o done m e some short) (sector_next o done e) h.walk step;
      even = ⊎_elim (λ q. inl (subst (λ (k : ℕ). Even o k) (sym end) q)) (λ q. inr (omega arith)) (even_more o done (length b - done) e (omega arith));
    }
