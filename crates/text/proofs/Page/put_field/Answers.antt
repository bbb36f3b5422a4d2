-- `put_field` meets its contract. Assumes nothing.
use Rattle.text.specs.Lines.{field}
use Rattle.text.proofs.TextLaws.{added_append}
use Rattle.text.proofs.Page.put_field.Goals as goal

pub returns : goal.returns
unfolding field
returns c = added_append c.put_byte.ensures c.put_decimal.ensures
