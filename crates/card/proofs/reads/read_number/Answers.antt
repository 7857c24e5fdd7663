use Rattle.ring.specs.Ring.{along}
use Rattle.card.proofs.Pieces.{number_read}
use Rattle.card.proofs.reads.read_number.Goals as goal

pub returns-clause-does : goal.returns-clause-does
returns-clause-does g c =
    let d = c.in_ok-read_along.ensures in
    let f = along 16 c.args.place.ring (g.S.Storage.means c.args.s.now).visible in
    (d.does.0, number_read f c.args.place.at c.from_be_bytes.result c.read_along.new.buf d.does.1 c.from_be_bytes.ensures)
