-- `Kept::qual_values` meets its contract. Assumes nothing.
use Rattle.std.proofs.Common.{arith}
use Rattle.parameters.specs.ParameterLaws.{bounds_of}
use Rattle.verification.proofs.Kept.qual_values.Goals as goal

pub table-requires : goal.table-requires
table-requires c =
    let bounds = bounds_of _ _ _ c.args.self.now.within in
    (omega (arith, c.requires, bounds.n_max), c.quorum.ensures.1)
