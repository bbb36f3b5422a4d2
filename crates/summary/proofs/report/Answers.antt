-- `report` meets its contract: its page is made by the rule of `put_short`. Assumes nothing.
use Rattle.reader.specs.Printed.{page_by}
use Rattle.reader.proofs.PageLaws.{handed_size}
use Rattle.summary.specs.Short.{short_of, short_printed}
use Rattle.summary.proofs.ShortLaws.{short_some}
use Rattle.summary.proofs.report.Goals as goal

pub returns-clause-size : goal.returns-clause-size
unfolding short_printed page_by short_of
returns-clause-size c = handed_size (c.page_of.ensures _ (λ l p q a. a)) (short_some c.args.log.now)

pub returns-clause-bytes : goal.returns-clause-bytes
unfolding short_printed page_by short_of
returns-clause-bytes c = (c.page_of.ensures _ (λ l p q a. a)).bytes
