use Rattle.std.proofs.Common.{◌≡◌, ℕ, ◌+◌, ◌-◌, ◌%◌, ◌<◌, ◌≤◌, min, true, false, length, take, sym, ap, ◌∙◌, arith, rules}
use Rattle.storage.specs.Cells.{laid}
use Rattle.storage.specs.Lives.{enough}
use Rattle.storage.specs.Sectors.{touched}
use Rattle.storage.proofs.Sectors.{evenly, next_end, piece_more}
use Rattle.devices.specs.Devices.{held, broken, serves}
use Rattle.devices.specs.Sector.{sector, no_marks}
use Rattle.devices.proofs.Doing.{same_held, broken_is}
use Rattle.devices.proofs.Sectors.{sector_more, sector_out}
use Rattle.devices.proofs.sector.SectorsMedium.program.Goals as goal

pub returns-in_err-serve : goal.returns-in_err-serve
returns-in_err-serve c =
    let i = c.loop-piece.invariant in
    let n = c.in-Some.ensures.steps in
    let o = c.args.offset in
    let b = c.args.bytes.now in
    let v = c.args.copies.now.visible.now in
    let done = c.loop-piece.piece-iterator.done in
    let life = c.args.power.now.life in
    let h = held no_marks c.args.copies.now c.args.power.now c.args.self.now in
    let h' = held no_marks c.loop-piece.copies c.serve.new.self c.args.self.now in
    let more : done < length b = search rules in
    let out : enough 1 c.loop-piece.power.life ≡ false = search rules in
    let x = sector_out o done (length b) life c.loop-piece.power.life (evenly o done (length b) more i.8) more i.6 i.7 out in
    let q : h' ≡ broken sector h o b = same_held (search rules) (i.4 ∙ ap (λ (k : ℕ). laid o (take k b) v) (sym x.2)) (search rules) (c.serve.ensures.life.1 (search rules) ∙ x.1) (search rules) in
    let lost = broken_is sector h h' o b c.if-power.false q in
    let spent : serves (touched o (length b)) h ≡ false = search rules in
    search rules

pub loop-piece-preserved : goal.loop-piece-preserved
loop-piece-preserved c =
    let i = c.loop-piece.invariant in
    let n = c.in-Some.ensures.steps in
    let o = c.args.offset in
    let b = c.args.bytes.now in
    let v = c.args.copies.now.visible.now in
    let life = c.args.power.now.life in
    let done = c.loop-piece.piece-iterator.done in
    let m = min (512 - (o + done) % 512) (length b - done) in
    let to : c.next.new.self.done ≡ done + m = n.done ∙ next_end o (length b) c.loop-piece.piece-iterator _ _ n i.0 i.1 in
    let fits : o + length b ≤ length v = omega (arith, c.requires.fits, c.requires.in_order.visible_long) in
    let more : done < length b = search rules in
    let e = evenly o done (length b) more i.8 in
    let one : enough 1 c.loop-piece.power.life ≡ true = search rules in
    let x = sector_more o done m life c.loop-piece.power.life c.serve.new.self.life e (omega arith) (omega arith) i.6 i.7 one (c.serve.ensures.life.0 (search rules)) in
    let piece = piece_more o done m b v (omega arith) fits in
    (search rules, search rules, omega arith, search rules, search rules, search rules, search rules, search rules, search rules)
