-- `Complaints::refusal` meets its contract: the code asks what the definition asks, in its order. Assumes nothing.
use Rattle.std.proofs.Common.{◌≡◌, true, false, not, ◌||◌, ℕ, ◌+◌, ap, ap₂, ◌∙◌}
use Rattle.lists.specs.Tests.{all_to, require, or_next}
use Rattle.sets.specs.Masks.{has}
use Rattle.records.specs.Bytes.{sender}
use Rattle.records.specs.Tags.{mask_at}
use Rattle.refusals.specs.Refusals.{complaint_refusal}
use Rattle.dealing.specs.Definitions.{may_blame}
use Rattle.complaint.specs.Definitions.{complaint_number}
use Rattle.complaint.proofs.Complaints.refusal.Goals as goal

pub returns-then-has : goal.returns-then-has
unfolding complaint_number require or_next
returns-then-has c =
    let a = c.args in
    let passed : 0 ≡ complaint_refusal a.setup.n a.bytes.now = c.in_ok-complaint_refusal.ensures in
    let sent : true ≡ has a.self.now.holders (sender a.bytes.now) = c.if-has.ensures ∙ ap (has a.self.now.holders) c.byte-j.ensures in
    rw (← passed, ← sent)

pub returns-then-not-blames_rightly : goal.returns-then-not-blames_rightly
unfolding complaint_number require or_next
returns-then-not-blames_rightly c =
    let a = c.args in
    let passed : 0 ≡ complaint_refusal a.setup.n a.bytes.now = c.in_ok-complaint_refusal.ensures in
    let new : false ≡ has a.self.now.holders (sender a.bytes.now) = c.if-has.ensures ∙ ap (has a.self.now.holders) c.byte-j.ensures in
    let wrong : false ≡ all_to a.setup.n (λ i. not (has (mask_at a.setup.n a.bytes.now) (i + 1)) || may_blame a.dealings.now (sender a.bytes.now) (i + 1)) =
    c.if-not-blames_rightly.ensures
    ∙ ap₂ (λ (j m : ℕ). all_to a.setup.n (λ i. not (has m (i + 1)) || may_blame a.dealings.now j (i + 1))) c.byte-j.ensures c.mask.ensures in
    rw (← passed, ← new, ← wrong)
