use Rattle.std.proofs.Common.{◌≡◌, length, refl, ap, ◌∙◌, rules}
use Rattle.storage.specs.Standing.{unmarked}
use Rattle.devices.specs.Mounts.{holds}
use Rattle.devices.proofs.Cutting.{cut_from, length_kept}
use Rattle.devices.proofs.device.DeviceCuttable.cut.Goals as goal

pub returns : goal.returns
returns g c =
    let K = g.M.Medium.rules in
    let laws = g.met.M.Medium.keeps_rules in
    let h = holds g.M.Medium.torn c.args.self.now in
    let cs = c.args.choices.now in
    let s = c.remount.new.self in
    let e = c.remount.ensures in
    let long : length s.copies.durable.now ≡ length h.durable = ap length e.durable ∙ length_kept K laws h c.requires cs in
    let t : g.M.Medium.torn s.medium (length s.copies.durable.now) ≡ unmarked h.torn = e.torn _ ∙ ap (λ n. unmarked (g.M.Medium.torn c.args.self.now.medium n)) long in
    let p = cut_from K laws h c.requires cs s.copies.durable.now s.copies.visible.now (g.M.Medium.torn s.medium (length s.copies.durable.now)) e.durable e.visible t in
    record { in_order = p.1; does = (search rules, p.2, refl); cuts = p.0 }
