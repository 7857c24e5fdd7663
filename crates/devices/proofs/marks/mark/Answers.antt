use Rattle.std.proofs.Common.{ℕ, ◌+◌, subst}
use Rattle.devices.specs.Marks.{Torn}
use Rattle.devices.proofs.Marking.{marks_made}
use Rattle.devices.proofs.marks.mark.Goals as goal

pub returns : goal.returns
returns c =
    let o = c.args.from in
    let t = c.args.torn.now in
    let t₁ = c.tear.new.torn in
    let t₂ = c.tear-2.new.torn in
    marks_made o c.args.count t t₁ t₂ c.requires
    (subst (λ (e : ℕ). Torn o e t t₁) c.min.ensures c.tear.ensures)
    (subst (λ (a : ℕ). Torn a (o + c.args.count) t₁ t₂) c.max.ensures c.tear-2.ensures)
