-- `dealing_refusal` meets its contract: the code asks what the definition asks, in its order. Assumes nothing.
use Rattle.std.proofs.Common.{◌≡◌, true, false}
use Rattle.lists.specs.Tests.{all_to, require, or_next}
use Rattle.field.specs.Definitions.{is_scalar, is_element}
use Rattle.parameters.specs.Definitions.{quorum}
use Rattle.records.specs.Bytes.{word}
use Rattle.records.specs.Tags.{dealing_length, shares_from}
use Rattle.refusals.specs.Refusals.{head_refusal, dealing_refusal}
use Rattle.refusals.proofs.dealing_refusal.Goals as goal

pub returns-then-not-all_of : goal.returns-then-not-all_of
unfolding dealing_refusal require or_next
returns-then-not-all_of c =
    let a = c.args in
    let head : 0 ≡ head_refusal a.n (dealing_length a.n a.t a.a) a.s.now = rw c.dealing_length.ensures at c.in_ok-head_refusal.ensures in
    let some : false ≡ all_to (quorum a.t a.a) (λ v. is_element (word a.s.now 4 v)) = rw c.quorum.ensures at c.if-not-all_of.ensures in
    rw (← head, ← some)

pub returns-then-not-all_of-2 : goal.returns-then-not-all_of-2
unfolding dealing_refusal require or_next
returns-then-not-all_of-2 c =
    let a = c.args in
    let head : 0 ≡ head_refusal a.n (dealing_length a.n a.t a.a) a.s.now = rw c.dealing_length.ensures at c.in_ok-head_refusal.ensures in
    let all : true ≡ all_to (quorum a.t a.a) (λ v. is_element (word a.s.now 4 v)) = rw c.quorum.ensures at c.if-not-all_of.ensures in
    let some : false ≡ all_to a.n (λ j. is_scalar (word a.s.now (shares_from a.t a.a) j)) = rw c.shares_from.ensures at c.if-not-all_of-2.ensures in
    rw (← head, ← all, ← some)
