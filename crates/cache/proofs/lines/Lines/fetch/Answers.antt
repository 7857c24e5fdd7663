use Rattle.std.proofs.Common.{◌≡◌, ℕ, ◌*◌, ◌<◌, List, length, set, Ok, Err, OnOk, OnErr, Result, sym, ap, ◌∙◌, mod-lt, arith}
use Rattle.storage.specs.Calls.{Call, Reading}
use Rattle.storage.specs.Cells.{part}
use Rattle.storage.specs.Inside.{OnReadInside}
use Rattle.storage.specs.Layers.{lowered}
use Rattle.storage.specs.Meaning.{Meaning}
use Rattle.storage.specs.Refusals.{Answer}
use Rattle.cache.specs.declared.line.Line.TheVariants.{Clean}
use Rattle.cache.specs.declared.lines.Lines.{Lines}
use Rattle.cache.specs.declared.slot.Slot.{Slot}
use Rattle.cache.specs.Lines.{line, content}
use Rattle.cache.specs.Steps.{Fetches}
use Rattle.cache.proofs.Seeing.{new_slot}
use Rattle.cache.proofs.Means.{fetched}
use Rattle.cache.proofs.lines.Lines.fetch.Goals as goal

fetches : {S O G : Type 0} (R : S → Call → Answer O G → S → Type 0) (f : S → Meaning) (c : Lines S) (i s : ℕ) (b : S) (x : Slot) (r : Result (Unit {0}) G) → i < length c.slots → length x.bytes ≡ 512 →
    OnOk r (x ≡ record { line = Clean s; bytes = x.bytes }) → OnErr r (x ≡ record { line = line c.slots i; bytes = x.bytes }) →
    OnReadInside (s * 512) (content c.slots i) x.bytes (f c.below) (f b) r → R c.below (Reading (s * 512) 512) (lowered r) b →
    Fetches R f c i s r (record { below = b; slots = set c.slots i x; lines = c.lines })
fetches R f c i s b x (Ok _) low long takes stays d did = (
  did,
  ap (λ (z : Slot). record { below = b; slots = set c.slots i z; lines = c.lines })
      (takes ∙ ap (λ (y : List ℕ). record { line = Clean s; bytes = y }) (d.got ∙ ap (λ (k : ℕ). part (s * 512) k (f c.below).visible) long)),
)
fetches R f c i s b x (Err e) low long takes stays d did = (
  did,
  ap (λ (z : Slot). record { below = b; slots = set c.slots i z; lines = c.lines })
      (stays ∙ ap (λ (z : Slot). record { line = line c.slots i; bytes = z.bytes }) (sym (new_slot c.slots i x low))),
)

pub returns : goal.returns
returns g c =
    let s = c.args.self.now in
    let r = c.requires in
    let d = c.fill_from.ensures in
    let low : c.args.i < length s.slots = omega (arith, r.home, mod-lt c.args.s r.in_order.some_lines) in
    let p = fetched s.slots s.lines (g.S.Storage.means s.below) (g.S.Storage.means c.fill_from.new.below) r.in_order (g.met.S.Storage.lawful s.below r.in_order.below)
    c.args.i c.args.s r.home r.fits r.undirty d.in_order c.fill_from.new.self (content s.slots c.args.i) c.fill_from.result d.long d.takes d.stays d.does in
    record {
      in_order = p.0;
      does = p.1;
      did = fetches g.S.Storage.did g.S.Storage.means s c.args.i c.args.s c.fill_from.new.below c.fill_from.new.self c.fill_from.result low d.long d.takes d.stays d.does d.did;
    }
