-- `by_batch` meets its contract. Assumes nothing.
use Rattle.std.proofs.Common.{◌∙◌, eqb}
use Rattle.reader.specs.Cutting.{by_batch}
use Rattle.reader.proofs.TagLaws.{some_unless}
use Rattle.reader.proofs.by_batch.Goals as goal

pub returns : goal.returns
unfolding by_batch
returns c = c.then_some.ensures ∙ some_unless (eqb c.args.b 0) c.requires
