-- `complaint_refusal` meets its contract: the code asks what the definition asks, in its order. Assumes nothing.
use Rattle.std.proofs.Common.{◌≡◌, false}
use Rattle.lists.specs.Tests.{require, or_next}
use Rattle.records.specs.Tags.{complaint_length, mask_at}
use Rattle.refusals.specs.Refusals.{head_refusal, mask_fits, complaint_refusal}
use Rattle.refusals.proofs.complaint_refusal.Goals as goal

pub returns-then-not-mask_fits : goal.returns-then-not-mask_fits
unfolding complaint_refusal require or_next
returns-then-not-mask_fits c =
    let a = c.args in
    let head : 0 ≡ head_refusal a.n (complaint_length a.n) a.s.now = rw c.complaint_length.ensures at c.in_ok-head_refusal.ensures in
    let wide : false ≡ mask_fits a.n (mask_at a.n a.s.now) = rw c.mask.ensures at c.if-not-mask_fits.ensures in
    rw (← head, ← wide)
