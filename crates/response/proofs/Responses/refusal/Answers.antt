-- `Responses::refusal` meets its contract: what is found before the test is the answer. Assumes nothing.
use Rattle.std.proofs.Common.{◌≡◌, rules}
use Rattle.lists.specs.Tests.{require, or_next}
use Rattle.refusals.specs.Numbers.{number}
use Rattle.refusals.proofs.NumberLaws.{number_some}
use Rattle.response.specs.Definitions.{untested, response_number}
use Rattle.response.proofs.Responses.refusal.Goals as goal

pub returns-in_err-untested : goal.returns-in_err-untested
unfolding response_number require or_next
returns-in_err-untested c =
    let a = c.args in
    let found : number c.in_err-untested.field-0.0 ≡ untested a.kept.now.setup.now.n a.b a.self.now.responders a.kept.now.complaints.now.holders a.bytes.now 0 = c.in_err-untested.ensures in
    search (rules, number_some, found)
