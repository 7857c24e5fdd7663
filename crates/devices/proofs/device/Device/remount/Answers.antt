use Rattle.std.proofs.Common.{◌≡◌, ◌<◌, length, get_or, set, ap, ◌∙◌, arith, rules}
use Rattle.std.proofs.lemmas.List.Edits.{fill_by_more}
use Rattle.devices.specs.Devices.{picked, kept}
use Rattle.devices.specs.Mounts.{holds}
use Rattle.devices.proofs.Cutting.{kept_from}
use Rattle.devices.proofs.device.Device.remount.Goals as goal

pub loop-k-preserved : goal.loop-k-preserved
loop-k-preserved g c =
    let h = holds g.M.Medium.torn c.args.self.now in
    let f = picked g.M.Medium.rules h c.args.choices.now in
    let v = c.loop-k.invariant in
    let k = c.loop-k.k in
    let xs = c.loop-k.self.copies.visible.now in
    let visible : get_or xs k 0 ≡ get_or h.visible k 0 = v.4 k (omega arith) in
    let medium = v.1 in
    let unit = c.unit-unit.ensures.unit in
    let at = c.pick.ensures (length h.durable) in
    let byte : c.pick.result ≡ f k = cc in
    let in-v : k < length xs = search rules in
    (search rules, medium, search rules, λ j l. ap (λ x. get_or (set xs k x) j 0) byte ∙ fill_by_more f xs k 0 in-v v.3 j l, search rules)

pub returns : goal.returns
returns g c =
    let h = holds g.M.Medium.torn c.args.self.now in
    let v = c.loop-k.invariant in
    let i = c.requires.in_order in
    let content : c.loop-k.self.copies.visible.now ≡ kept g.M.Medium.rules h c.args.choices.now =
    kept_from g.M.Medium.rules g.met.M.Medium.keeps_rules h i c.args.choices.now c.loop-k.self.copies.visible.now (v.2 ∙ i.visible_long) (λ k l. v.3 k (omega arith)) in
    record { durable = search rules; visible = search rules; torn = search rules }
