use Rattle.std.proofs.Common.{◌≡◌, ◌≤◌, true, false, ◌⊎◌, length, take}
use Rattle.storage.specs.Cells.{laid}
use Rattle.storage.specs.Lives.{lessened, enough}
use Rattle.storage.specs.Sectors.{touched}
use Rattle.storage.proofs.Sectors.{Even}
use Rattle.devices.proofs.sector.SectorsMedium.program.Given as goal

-- the bytes of the pieces that came are in, a step was taken for each sector that they touch,
-- and they end with a sector or with the write
abbrev pub invariant-loop-piece : goal.invariant-loop-piece
invariant-loop-piece l =
    let done = l.piece-iterator.done in
    (l.piece-iterator.offset ≡ l.offset) ×
    (l.piece-iterator.count ≡ length l.bytes) ×
    (done ≤ length l.bytes) ×
    (l.copies.durable ≡ l.initial.copies.durable) ×
    (l.copies.visible.now ≡ laid l.offset (take done l.bytes) l.initial.copies.visible.now) ×
    (l.power.gone ≡ false) ×
    (enough (touched l.offset done) l.initial.power.life ≡ true) ×
    (l.power.life ≡ lessened (touched l.offset done) l.initial.power.life) ×
    (Even l.offset done ⊎ (done ≡ length l.bytes))
