use Rattle.std.proofs.Common.{◌≡◌, ◌/◌, ◌<◌, true, ◌⊎◌, length, take}
use Rattle.storage.specs.Cells.{laid}
use Rattle.storage.specs.Calls.{Arrives}
use Rattle.storage.specs.Sectors.{touched}
use Rattle.storage.proofs.Sectors.{Even}
use Rattle.cache.specs.Cached.{lines_mean}
use Rattle.cache.specs.Chains.{Walk, WriteStep}
use Rattle.cache.proofs.lines.Lines.write_range.Given as goal

-- the bytes before the piece that comes next are in, and arrived as far as a write of these may
abbrev pub invariant-loop-piece : goal.invariant-loop-piece
invariant-loop-piece g l =
    let done = l.piece-iterator.done in
    record {
      from : l.piece-iterator.offset ≡ l.offset;
      all : l.piece-iterator.count ≡ length l.bytes;
      in_order : (lines_mean g.S.Storage.means l.self).in_order;
      size : (g.S.Storage.means l.self.below).size ≡ (g.S.Storage.means l.initial.self.below).size;
      lives : 0 < done → ((g.S.Storage.means l.initial.self.below).lives ≡ true) × ((g.S.Storage.means l.self.below).lives ≡ true);
      visible : (lines_mean g.S.Storage.means l.self).visible ≡ laid l.offset (take done l.bytes) (lines_mean g.S.Storage.means l.initial.self).visible;
      stands : Arrives l.offset (take done l.bytes) (lines_mean g.S.Storage.means l.initial.self) (lines_mean g.S.Storage.means l.self);
      walk : Walk (WriteStep g.S.Storage.did g.S.Storage.means l.offset l.bytes) l.initial.self (l.offset / 512) (touched l.offset done) l.self;
      even : Even l.offset done ⊎ (done ≡ length l.bytes);
    }
