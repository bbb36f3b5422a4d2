-- `Dealings::refusal` meets its contract: the code asks what the definition asks, in its order. Assumes nothing.
use Rattle.std.proofs.Common.{◌≡◌, true, sym, ◌∙◌, rules}
use Rattle.lists.specs.Tests.{require, or_next}
use Rattle.sets.specs.Masks.{has}
use Rattle.records.specs.Bytes.{sender}
use Rattle.refusals.specs.Numbers.{number}
use Rattle.refusals.specs.Refusals.{dealing_refusal}
use Rattle.refusals.proofs.NumberLaws.{number_some}
use Rattle.dealing.specs.Definitions.{dealing_number}
use Rattle.dealing.proofs.Dealings.refusal.Goals as goal

pub returns-in_err-dealing_refusal : goal.returns-in_err-dealing_refusal
unfolding dealing_number or_next
returns-in_err-dealing_refusal c =
    let a = c.args in
    let found : number c.in_err-dealing_refusal.field-0.0 ≡ dealing_refusal a.setup.n a.setup.t a.setup.a a.bytes.now = c.in_err-dealing_refusal.ensures in
    search (rules, number_some, found)

pub returns-then-sent : goal.returns-then-sent
unfolding dealing_number require or_next
returns-then-sent c =
    let a = c.args in
    let passed : 0 ≡ dealing_refusal a.setup.n a.setup.t a.setup.a a.bytes.now = c.in_ok-dealing_refusal.ensures in
    let sent : true ≡ has a.self.now.dealers (sender a.bytes.now) = sym c.if-sent.true ∙ (rw c.byte.ensures at c.has-sent.ensures) in
    rw (← passed, ← sent)
