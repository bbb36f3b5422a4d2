-- `report` meets its contract: its page is made by the rule of `put_page`. Assumes nothing.
use Rattle.reader.specs.Report.{report_of}
use Rattle.reader.specs.Printed.{printed, page_by}
use Rattle.reader.proofs.PageLaws.{handed_size}
use Rattle.reader.proofs.ReportLaws.{report_some}
use Rattle.reader.proofs.report.Goals as goal

pub returns-clause-size : goal.returns-clause-size
unfolding printed page_by report_of
returns-clause-size c = handed_size (c.page_of.ensures _ (λ l p q a. a)) (report_some c.args.log.now)

pub returns-clause-bytes : goal.returns-clause-bytes
unfolding printed page_by report_of
returns-clause-bytes c = (c.page_of.ensures _ (λ l p q a. a)).bytes
