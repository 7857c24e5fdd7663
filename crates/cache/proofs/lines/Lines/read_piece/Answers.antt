use Rattle.std.proofs.Common.{◌≡◌, ℕ, ◌+◌, ◌*◌, ◌/◌, ◌%◌, ◌<◌, ◌≤◌, List, length, sym, ap, ◌∙◌, mod-lt, arith}
use Rattle.storage.specs.Cells.{part}
use Rattle.cache.specs.Cached.{lines_mean}
use Rattle.cache.proofs.Means.{lives_holding}
use Rattle.cache.proofs.Seeing.{held_part}
use Rattle.cache.proofs.lines.Lines.read_piece.Goals as goal

pub returns-clause-does : goal.returns-clause-does
returns-clause-does g c =
    let s = c.args.self.now in
    let e = c.hold.new.self in
    let d = c.in_ok-i.ensures in
    let i = c.in_ok-i.i in
    let at = c.args.at in
    let n = length c.args.out.now in
    let m = g.S.Storage.means e.below in
    let law = g.met.S.Storage.lawful s.below c.requires.in_order.below in
    let law' = g.met.S.Storage.lawful e.below d.in_order.below in
    let low : i < 16 = omega (arith, d.does.1.0, mod-lt (at / 512) c.requires.in_order.some_lines, c.requires.in_order.few_lines) in
    let home : at / 512 % e.lines ≡ i = ap (λ (x : ℕ). at / 512 % x) d.does.1.2 ∙ sym d.does.1.0 in
    let fits : at / 512 * 512 + 512 ≤ length m.visible = omega (arith, law'.long, d.does.0.size, law.sized.sectors, c.requires.fits, c.requires.some) in
    let whole : at / 512 * 512 + at % 512 ≡ at = omega arith in (
      d.does.0,
      (
        c.fetch.ensures ∙ held_part e.slots e.lines m.visible i (at / 512) (d.in_order.bytes_long i low) home d.does.1.1 fits (at % 512) n c.requires.one
            ∙ ap (λ (x : List ℕ). part (at / 512 * 512 + at % 512) n x) d.does.0.visible ∙ ap (λ (x : ℕ). part x n (lines_mean g.S.Storage.means s).visible) whole,
        lives_holding e.slots e.lines m d.in_order i (at / 512) d.does.1.1,
        d.does.1.2,
      ),
    )
