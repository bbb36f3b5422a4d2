-- `summary_of` meets its contract: the records that are read are enough for the sets. Assumes nothing.
use mathlib.Core.Path.{ap, ◌∙◌}
use Rattle.answers.specs.Answers.{sets_of}
use Rattle.summary.proofs.ReadLaws.{read_enough}
use Rattle.summary.proofs.summary_of.Goals as goal

pub returns : goal.returns
returns c =
    let r = c.before in
    let log = r.args.log.now in
    record { sets = c.sets_of.ensures ∙ ap sets_of r.read_on-read.ensures.run ∙ (read_enough log).sets_same; bytes = r.read_on-read.ensures.bytes }
