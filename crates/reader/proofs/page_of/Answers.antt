-- `page_of` meets its contract. Assumes nothing.
use Rattle.std.proofs.Common.{rules}
use Rattle.text.specs.Lines.{fields, line}
use Rattle.reader.proofs.PageLaws.{handed_none, handed_long, handed_rule}
use Rattle.reader.proofs.page_of.Goals as goal

pub returns-then-small : goal.returns-then-small
returns-then-small g c = λ f h. handed_none c.if-small.true

pub returns-then-long : goal.returns-then-long
unfolding fields line
returns-then-long g c = λ f h. handed_long c.if-small.false c.of-page.ensures.empty c.if-long.true c.put_text.ensures (search rules)

pub returns : goal.returns
returns g c = λ f h.
    let added = h _ _ _ c.put.ensures in
    handed_rule c.if-small.false c.of-page.ensures.empty c.if-long.false added (search rules)
