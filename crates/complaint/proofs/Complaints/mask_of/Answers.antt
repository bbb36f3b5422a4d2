-- `Complaints::mask_of` meets its contract. Assumes nothing.
use mathlib.Core.Path.{ap}
use mathlib.Core.Bool.{not}
use borrow.Author.Tests.{not-true, not-false}
use borrow.Author.Rules.{rules}
use native.Mathlib.Omega.{arith}
use mathlib.Core.Path.{◌≡◌, sym, ◌∙◌}
use lib.ListN.{length}
use Rattle.parameters.specs.Definitions.{most_parties}
use Rattle.complaint.specs.Definitions.{mask_by}
use Rattle.complaint.specs.ComplaintLaws.{mask_zero, mask_past, mask_unheld}
use Rattle.complaint.proofs.Complaints.mask_of.Goals as goal

pub returns-then-j-lt1 : goal.returns-then-j-lt1
returns-then-j-lt1 c =
    let a = c.args in
    let none : a.j ≡ 0 = omega arith in
    rw none (sym (mask_zero a.self))

pub returns-then-j-gt-MOST_PARTIES : goal.returns-then-j-gt-MOST_PARTIES
returns-then-j-gt-MOST_PARTIES c =
    let a = c.args in
    let long : length a.self.masks ≡ most_parties = search rules in
    sym (mask_past a.self a.j (omega arith))

pub returns-then-not-has : goal.returns-then-not-has
returns-then-not-has c =
    let asked = c.before in
    sym (mask_unheld _ _ (sym asked.has.ensures ∙ not-true asked.has.result (ap not c.if-not-has.true)))

pub returns : goal.returns
unfolding mask_by
returns c =
    let asked = c.before.before in
    rw (← asked.has.ensures, not-false asked.has.result (ap not c.if-not-has.false))
