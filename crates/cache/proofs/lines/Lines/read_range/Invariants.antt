use Rattle.std.proofs.Common.{◌≡◌, ◌/◌, ◌<◌, true, ◌⊎◌, length, take}
use Rattle.storage.specs.Cells.{part}
use Rattle.storage.specs.Inside.{Still}
use Rattle.storage.specs.Sectors.{touched}
use Rattle.storage.proofs.Sectors.{Even}
use Rattle.cache.specs.Cached.{lines_mean}
use Rattle.cache.specs.Chains.{Walk, ReadStep}
use Rattle.cache.proofs.lines.Lines.read_range.Given as goal

-- the sectors of the bytes before the piece that comes next were taken, and the buffer has these bytes
abbrev pub invariant-loop-piece : goal.invariant-loop-piece
invariant-loop-piece g l =
    let done = l.piece-iterator.done in
    record {
      from : l.piece-iterator.offset ≡ l.offset;
      all : l.piece-iterator.count ≡ length l.initial.buf;
      in_order : (lines_mean g.S.Storage.means l.self).in_order;
      still : Still (lines_mean g.S.Storage.means l.initial.self) (lines_mean g.S.Storage.means l.self);
      lives : 0 < done → (g.S.Storage.means l.self.below).lives ≡ true;
      got : take done l.buf ≡ part l.offset done (lines_mean g.S.Storage.means l.initial.self).visible;
      walk : Walk (ReadStep g.S.Storage.did g.S.Storage.means) l.initial.self (l.offset / 512) (touched l.offset done) l.self;
      even : Even l.offset done ⊎ (done ≡ length l.initial.buf);
    }
