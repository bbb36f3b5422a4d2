-- `fixed_length` meets its contract. Assumes nothing.
use Rattle.std.proofs.Common.{◌∙◌, sym, ap, arith, Bool}
use Rattle.lists.specs.Tests.{pick}
use Rattle.lists.specs.CallLaws.{is, is_not}
use Rattle.records.specs.Tags.{go_length}
use Rattle.reader.specs.Cutting.{some_length}
use Rattle.reader.proofs.TagLaws.{some_there}
use Rattle.summary.specs.Consumed.{fixed_length}
use Rattle.summary.proofs.fixed_length.Goals as goal

pub returns-then-go : goal.returns-then-go
unfolding fixed_length
returns-then-go c = λ k e. some_there (sym (ap (λ (b : Bool). pick b go_length k) (is c.tag-go.ensures c.if-go.true))) (omega arith)

pub returns-else-go : goal.returns-else-go
unfolding fixed_length
returns-else-go c = λ k e. e ∙ sym (ap (λ (b : Bool). some_length (pick b go_length k)) (is_not c.tag-go.ensures c.if-go.false))
