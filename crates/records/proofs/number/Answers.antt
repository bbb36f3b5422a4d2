-- `number` meets its contract. Assumes nothing.
use Rattle.std.proofs.Common.{arith, add-zero}
use Rattle.records.specs.Bytes.{wide_at, number_at}
use Rattle.records.proofs.number.Goals as goal

pub returns : goal.returns
unfolding number_at wide_at
returns c = rw (add-zero c.args.at) (omega (arith, c.from_be_bytes.ensures, c.byte-b0.ensures, c.byte-b1.ensures, c.byte-b2.ensures, c.byte-b3.ensures))
