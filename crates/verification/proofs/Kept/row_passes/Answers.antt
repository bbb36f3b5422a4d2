-- `Kept::row_passes` meets its contract: the loop has combined the values for each u passed, and met no number that fails. Assumes nothing.
use Rattle.std.specs.Prelude.{◌≡◌, ℕ, ◌+◌, ◌-◌}
use Rattle.std.proofs.Common.{refl, inl, inr, sym, ap, ap₂, ◌∙◌, arith}
use Rattle.lists.specs.Tests.{all_to}
use Rattle.lists.specs.TestLaws.{fails_stays}
use Rattle.parameters.specs.ParameterLaws.{bounds_of}
use Rattle.combination.specs.Combination.{powers_at}
use Rattle.combination.proofs.PowerLaws.{powers_none, powers_for}
use Rattle.combination.specs.Tables.{table_to}
use Rattle.combination.proofs.TableLaws.{table_none, table_more}
use Rattle.verification.specs.Definitions.{row_passes}
use Rattle.verification.specs.Tests.{qual_values}
use Rattle.verification.proofs.Kept.row_passes.Goals as goal
use Rattle.verification.proofs.Kept.row_passes.Goals.{Joined-u-gt0, After-with_values-next, After-test_row, then-u-gt0, else-u-gt0}

pub loop-u-init : goal.loop-u-init
unfolding all_to
loop-u-init c = (powers_none _ _, table_none _ _ _ _, refl)

-- the powers for u + 1
raised_to : (c : Joined-u-gt0) →
    let kept = c.args.self.now in
    c.if-u-gt0.powers ≡ powers_at kept.setup.now.n kept.dealings.now.commitments c.loop-u.u
raised_to c =
    let kept = c.args.self.now in
    powers_for kept.setup.now.n kept.dealings.now.commitments c.loop-u.u c.loop-u.invariant.0
    (elim c.if-u-gt0.branch [
      | then-u-gt0 w ↦
          inl (w.if-u-gt0.true, w.powers-is ∙ w.raised-more.ensures)
      | else-u-gt0 w ↦
          inr (w.if-u-gt0.false, w.powers-is)
    ])

-- and the values
filled : (c : After-with_values-next) →
    let kept = c.args.self.now in
    c.if-u-gt0.powers ≡ powers_at kept.setup.now.n kept.dealings.now.commitments c.loop-u.u
    → c.with_values-next.result ≡ qual_values kept.setup.now kept.dealings.now kept.complaints.now (c.loop-u.u + 1)
filled c powers =
    let kept = c.args.self.now in
    let list = kept.dealings.now.commitments in
    let values : c.loop-u.values ≡ table_to kept.setup.now.n c.qual-qual.result c.quorum-quorum.result list c.loop-u.u =
    c.loop-u.invariant.1 ∙ sym (ap₂ (λ (s m : ℕ). table_to kept.setup.now.n s m list c.loop-u.u) c.qual-qual.ensures c.quorum-quorum.ensures.0) in
    c.with_values-next.ensures
    ∙ table_more kept.setup.now.n c.qual-qual.result c.quorum-quorum.result list c.loop-u.u c.quorum-quorum.ensures.1 values powers
    ∙ ap₂ (λ (s m : ℕ). table_to kept.setup.now.n s m list (c.loop-u.u + 1)) c.qual-qual.ensures c.quorum-quorum.ensures.0

-- the test is that of the definition, for one number more
tested : (c : After-test_row) →
    let kept = c.args.self.now in
    c.with_values-next.result ≡ qual_values kept.setup.now kept.dealings.now kept.complaints.now (c.loop-u.u + 1)
    → c.test_row.result ≡ row_passes (c.loop-u.u + 1) kept.setup.now kept.dealings.now kept.complaints.now kept.challenges.now c.args.bytes.now
tested c values = c.test_row.ensures _ _ _ refl values c.loop-u.invariant.2

pub with_values-next-requires : goal.with_values-next-requires
with_values-next-requires c = omega (arith, c.loop-u-test.true, c.requires, (bounds_of _ _ _ c.args.self.now.within).n_max)

pub returns-then-not-test_row : goal.returns-then-not-test_row
returns-then-not-test_row c =
    let at = goal.at.returns-then-not-test_row c in
    let fails = sym (tested at.After-test_row (filled at.After-with_values-next (raised_to at.Joined-u-gt0))) ∙ c.if-not-test_row.true in
    sym (fails_stays _ (c.loop-u.u + 1) c.args.b (omega (arith, c.loop-u-test.true)) fails)

pub loop-u-preserved : goal.loop-u-preserved
loop-u-preserved c =
    let at = goal.at.loop-u-preserved c in
    let kept = c.args.self.now in
    let powers = raised_to at.Joined-u-gt0 in
    let values = filled at.After-with_values-next powers in
    let same : c.loop-u.u ≡ c.loop-u.u + 1 - 1 = omega arith in
    (powers ∙ ap (powers_at kept.setup.now.n kept.dealings.now.commitments) same, values, sym (tested at.After-test_row values) ∙ c.if-not-test_row.false)
