-- `untested` meets its contract: the code asks what the definition asks, in its order. Assumes nothing.
use Rattle.std.proofs.Common.{◌≡◌, true, false}
use Rattle.lists.specs.Tests.{require, or_next}
use Rattle.sets.specs.Masks.{has}
use Rattle.records.specs.Bytes.{sender}
use Rattle.refusals.specs.Refusals.{response_refusal}
use Rattle.response.proofs.untested.Goals as goal

pub returns-then-has : goal.returns-then-has
unfolding require or_next
returns-then-has c =
    let a = c.args in
    let passed : 0 ≡ response_refusal a.n a.b a.bytes.now = c.in_ok-response_refusal.ensures in
    let sent : true ≡ has a.sent (sender a.bytes.now) = rw c.byte-j.ensures at c.if-has.ensures in
    rw (← passed, ← sent)

pub returns-then-not-has : goal.returns-then-not-has
unfolding require or_next
returns-then-not-has c =
    let a = c.args in
    let passed : 0 ≡ response_refusal a.n a.b a.bytes.now = c.in_ok-response_refusal.ensures in
    let new : false ≡ has a.sent (sender a.bytes.now) = rw c.byte-j.ensures at c.if-has.ensures in
    let outside : false ≡ has a.holders (sender a.bytes.now) = rw c.byte-j.ensures at c.if-not-has.ensures in
    rw (← passed, ← new, ← outside)
