-- `Run::with_complaint` meets its contract. Assumes nothing.
use Rattle.std.proofs.Common.{arith}
use Rattle.run.specs.RunLaws.{formed_of}
use Rattle.run.proofs.Run.with_complaint.Goals as goal

pub with-complaints-requires : goal.with-complaints-requires
with-complaints-requires c =
    let formed = formed_of _ c.requires in
    omega (arith, formed.complaints_max, formed.bounds.n_max)

pub stage-requires : goal.stage-requires
stage-requires c = omega (arith, (formed_of _ c.requires).bounds.enough)
