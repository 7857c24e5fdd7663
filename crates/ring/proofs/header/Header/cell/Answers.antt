use Rattle.ring.specs.Bytes.{four}
use Rattle.ring.proofs.Numbers.{cell_from}
use Rattle.ring.proofs.header.Header.cell.Goals as goal

pub returns : goal.returns
unfolding four
returns c = cell_from c.args.self c.to_be_bytes.ensures c.to_be_bytes-2.ensures c.to_be_bytes-3.ensures c.to_be_bytes-4.ensures
