-- `passes` meets its contract: the values are ready for every u, or the row fails by those that are. Assumes nothing.
use Rattle.std.specs.Prelude.{◌≡◌, ℕ}
use Rattle.std.proofs.Common.{refl, sym, ap, ◌∙◌, arith}
use Rattle.lists.specs.Tests.{all_to}
use Rattle.lists.specs.TestLaws.{fails_stays}
use Rattle.verification.specs.Definitions.{row_passes}
use Rattle.verification.specs.Tests.{qual_values}
use Rattle.bundle.proofs.passes.Goals as goal
use Rattle.bundle.proofs.passes.Goals.{then-ready-b+else-not-test_row, else-ready-b}

pub returns-then-not-test_row-clause-passed : goal.returns-then-not-test_row-clause-passed
unfolding all_to
returns-then-not-test_row-clause-passed c =
    let fails = sym (c.test_row.ensures _ _ _ refl c.requires.combined refl) ∙ c.if-not-test_row.true in
    sym (fails_stays _ c.args.ready.now c.args.b c.requires.within.0 fails)

pub returns-clause-passed : goal.returns-clause-passed
unfolding all_to
returns-clause-passed c =
    let kept = c.args.kept.now in
    let ready = c.if-ready-b.ready in
    let table = qual_values kept.setup.now kept.dealings.now kept.complaints.now in
    let whole : (ready ≡ c.args.b) × (c.if-ready-b.values ≡ table ready) =
    elim c.if-ready-b.branch [
      | then-ready-b+else-not-test_row w ↦
          (w.ready-is, w.values-is ∙ w.qual_values.ensures ∙ ap table (sym w.ready-is))
      | else-ready-b w ↦
          (omega (arith, w.ready-is, w.if-ready-b.false, c.requires.within.0), w.values-is ∙ c.requires.combined ∙ ap table (sym w.ready-is))
    ] in
    c.test_row-2.ensures _ _ _ refl whole.1 refl
    ∙ ap (λ (k : ℕ). row_passes k kept.setup.now kept.dealings.now kept.complaints.now kept.challenges.now c.args.row.now) whole.0
