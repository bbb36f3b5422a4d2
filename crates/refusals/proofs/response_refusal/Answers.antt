-- `response_refusal` meets its contract: the code asks what the definition asks, in its order. Assumes nothing.
use Rattle.std.proofs.Common.{◌≡◌, false}
use Rattle.lists.specs.Tests.{all_to, require, or_next}
use Rattle.field.specs.Definitions.{is_scalar}
use Rattle.records.specs.Bytes.{word}
use Rattle.records.specs.Tags.{response_length}
use Rattle.refusals.specs.Refusals.{head_refusal, response_refusal}
use Rattle.refusals.proofs.response_refusal.Goals as goal

pub returns-then-not-all_of : goal.returns-then-not-all_of
unfolding response_refusal require or_next
returns-then-not-all_of c =
    let a = c.args in
    let head : 0 ≡ head_refusal a.n (response_length a.b) a.s.now = rw c.response_length.ensures at c.in_ok-head_refusal.ensures in
    let some : false ≡ all_to a.b (λ x. is_scalar (word a.s.now 4 x)) = c.if-not-all_of.ensures in
    rw (← head, ← some)
