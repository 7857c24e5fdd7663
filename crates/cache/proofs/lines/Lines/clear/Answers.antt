use Rattle.std.proofs.Common.{◌≡◌, ◌<◌, [], length, map, set, refl, ap, ◌∙◌, sym, inl, inr, arith}
use Rattle.std.proofs.lemmas.Bool.{cases_eq}
use Rattle.std.proofs.lemmas.List.{length-map, get_or-map, ext_get_or}
use Rattle.cache.specs.declared.line.Line.TheVariants.{Empty}
use Rattle.cache.specs.Lines.{slot, emptied}
use Rattle.cache.proofs.Seeing.{new_slot, old_slot, length_stored}
use Rattle.cache.proofs.lines.Lines.clear.Goals as goal

pub loop-slot-init : goal.loop-slot-init
loop-slot-init g c = (refl, (λ k l. absurd (omega arith)), λ k l. refl)

pub loop-slot-preserved : goal.loop-slot-preserved
loop-slot-preserved g c =
    let z = c.loop-slot.slot-items in
    let i = c.loop-slot.slot-index in
    let h = c.loop-slot.invariant in
    let x = emptied (slot z i) in
    let low : i < length z = omega arith in (
      length_stored z i x ∙ h.0,
      (λ k l. elim (cases_eq k i) [
        | inl p ↦ ap (λ (j : _). slot (set z i x) j) p ∙ new_slot z i x low ∙ ap emptied (h.2 i (omega arith)) ∙ ap (λ (j : _). emptied (slot c.args.self.now.slots j)) (sym p)
        | inr p ↦ old_slot z i x k p ∙ h.1 k (omega arith)
      ]),
      λ k l. old_slot z i x k (λ p. omega arith) ∙ h.2 k (omega arith),
    )

pub returns : goal.returns
returns g c =
    let s = c.args.self.now in
    let z = c.loop-slot.slot-items in
    let h = c.loop-slot.invariant in
    let cleared : z ≡ map emptied s.slots =
    ext_get_or (record { line = Empty; bytes = [] }) z (map emptied s.slots) (h.0 ∙ sym (length-map s.slots emptied)) (λ k l. h.1 k (omega arith) ∙ sym (get_or-map emptied s.slots k (record { line = Empty; bytes = [] }) _ (omega arith))) in
    ap (λ (x : _). record { below = s.below; slots = x; lines = s.lines }) cleared
