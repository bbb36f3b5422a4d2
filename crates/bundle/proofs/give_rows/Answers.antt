-- `give_rows` meets its contract. The loop gives the rows to the run one by one, each tested against the values that were combined for those before it.
-- Assumes nothing.
use Rattle.std.specs.Prelude.{◌≡◌, List, Bool, ℕ, ◌-◌, ◌≤◌, length, take, drop}
use Rattle.std.proofs.Common.{refl, sym, ap, ap₂, ◌∙◌, arith, length-drop}
use Rattle.std.proofs.Math.Path.{subst⁻¹}
use Rattle.verification.specs.Definitions.{row_passes}
use Rattle.verification.specs.Tests.{qual_values}
use Rattle.run.specs.declared.Run.{Run}
use Rattle.run.specs.Steps.{Reply, step_of, untaken, after_from, after_response}
use Rattle.run.specs.RefusalLaws.{untaken_refused}
use Rattle.bundle.specs.Bundles.{outcome, numbers_from}
use Rattle.bundle.proofs.CutLaws.{left_is, row_length, row_is}
use Rattle.bundle.proofs.BundleLaws.{row_bytes, rows_cut}
use Rattle.bundle.proofs.RowLaws.{formed_four, stage_batch, Kept, kept_response, passes_at, same_test, only_row, row_taken, row_refused}
use Rattle.bundle.proofs.Taking.{taking_start, taking_next, taking_run, taking_numbers}
use Rattle.bundle.proofs.give_rows.Goals as goal
use Rattle.bundle.proofs.give_rows.Goals.{After-number_of-number, then-rest-length, else-rest-length, then-open+then-passes, then-open+else-passes, else-open}

pub kept-kept-requires : goal.kept-kept-requires
kept-kept-requires c = formed_four c.args.run c.requires.0

pub qual_values-values-requires : goal.qual_values-values-requires
qual_values-values-requires c = rw c.kept-kept.ensures.setup (omega (arith, c.kept-kept.ensures.few, stage_batch c.args.run c.requires.0))

pub loop-x-init : goal.loop-x-init
loop-x-init c =
    let kept = c.kept-kept.ensures in (
      taking_start _ _ _ _ _ c.requires.0 refl (c.requires.1 ∙ ap length (sym (rows_cut c.args.run.b c.args.bytes.now c.response_length-length.ensures))),
      stage_batch c.args.run c.requires.0,
      c.qual_values-values.ensures ∙ rw (kept.setup, kept.dealings, kept.complaints) refl,
    )

-- ---- the next row

module _ (c : After-number_of-number) where
  measured : c.if-rest-length.size ≡ row_length c.response_length-length.result (drop c.loop-x.from c.args.bytes.now)
  measured =
      let long = length-drop c.loop-x.from c.args.bytes.now in
      elim c.if-rest-length.branch [
        | then-rest-length w ↦
            w.size-is ∙ omega (arith, w.if-rest-length.true, long)
        | else-rest-length w ↦
            w.size-is ∙ omega (arith, w.if-rest-length.false, long)
      ]

  -- as it is cut
  abbrev row : List ℕ
  row = take c.response_length-length.result (drop c.loop-x.from c.args.bytes.now)

  -- and as it is lent
  abbrev piece : List ℕ
  piece = take c.if-rest-length.size (take (length c.args.bytes.now - c.loop-x.from) (drop c.loop-x.from c.args.bytes.now))

  lent : piece ≡ row
  lent =
      let s = c.args.bytes.now in
      ap₂ (λ (n : ℕ) (t : List ℕ). take n t) measured (left_is s c.loop-x.from) ∙ row_is c.response_length-length.result (drop c.loop-x.from s)

  asked : c.number_of-number.result ≡ untaken c.loop-x.next row
  asked = c.number_of-number.ensures ∙ c.untaken.ensures ∙ ap (untaken c.loop-x.next) lent

  -- its test is that of the definition
  tested : {passed : Bool} →
      let kept = c.kept-kept.result in
      passed ≡ row_passes c.args.run.b kept.setup.now kept.dealings.now kept.complaints.now kept.challenges.now piece
      → passed ≡ passes_at c.loop-x.next row
  tested e =
      let kept = c.kept-kept.ensures in
      e ∙ rw (kept.setup, kept.dealings, kept.complaints, kept.challenges) (ap (passes_at c.args.run) lent) ∙ same_test c.loop-x.invariant.0.kept row

pub with_response-taken-requires : goal.with_response-taken-requires
with_response-taken-requires c =
    let a = (goal.at.with_response-taken-requires c).After-number_of-number in
    formed_four c.loop-x.next (only_row c.loop-x.next _ c.loop-x.invariant.0.kept.late (sym (asked a) ∙ c.if-open.true)).0

reply : {y z : Run} {m n : ℕ} → y ≡ z → m ≡ n → ◌≡◌ {A = Reply} (record { run = y; number = m }) (record { run = z; number = n })
reply e f = ap₂ (λ (x : Run) (i : ℕ). record { run = x; number = i }) e f

pub loop-x-preserved : goal.loop-x-preserved
loop-x-preserved c =
    let a = (goal.at.loop-x-preserved c).After-number_of-number in
    let run = c.args.run in
    let r = c.loop-x.next in
    let s = row a in
    let taking = c.loop-x.invariant.0 in
    let values = qual_values run.setup run.dealings run.complaints in
    let kept = c.kept-kept.ensures in
    let combined = λ (k : ℕ). let e : qual_values c.kept-kept.result.setup.now c.kept-kept.result.dealings.now c.kept-kept.result.complaints.now k ≡ values k = rw (kept.setup, kept.dealings, kept.complaints) refl in e in
    let now : (step_of r s ≡ record { run = c.if-open.next; number = c.if-open.number }) × Kept run c.if-open.next × (c.if-open.ready ≤ run.b) × (c.if-open.values ≡ values c.if-open.ready) =
    elim c.if-open.branch [
      | then-open+then-passes w ↦
          let next = w.next-is ∙ w.with_response-taken.ensures ∙ ap (after_response r) (lent a) in (
            row_taken r s taking.kept.late (sym (asked a) ∙ w.if-open.true) (sym (tested a w.passes.ensures.passed) ∙ w.if-passes.true) ∙ reply (sym next) (sym (w.number-is ∙ w.if-open.true)),
            subst⁻¹ (Kept _) next (kept_response taking.kept s),
            omega (arith, w.ready-is, w.passes.ensures.within),
            w.values-is ∙ w.passes.ensures.combined ∙ combined _ ∙ ap values (sym w.ready-is),
          )
      | then-open+else-passes w ↦ (
        row_refused r s taking.kept.late (sym (asked a) ∙ w.if-open.true) (sym (tested a w.passes.ensures.passed) ∙ w.if-passes.false)
            ∙ reply (sym w.next-is) (sym (w.number-is ∙ w.number-number.ensures)),
        subst⁻¹ (Kept _) w.next-is taking.kept,
        omega (arith, w.ready-is, w.passes.ensures.within),
        w.values-is ∙ w.passes.ensures.combined ∙ combined _ ∙ ap values (sym w.ready-is),
      )
      | else-open w ↦ (
        untaken_refused r s (λ e. w.if-open.false (asked a ∙ e)) ∙ reply (sym w.next-is) (sym (w.number-is ∙ asked a)),
        subst⁻¹ (Kept _) w.next-is taking.kept,
        omega (arith, w.ready-is, c.loop-x.invariant.1),
        w.values-is ∙ c.loop-x.invariant.2 ∙ ap values (sym w.ready-is),
      )
    ] in
    (taking_next (row_bytes run.b c.response_length-length.ensures) taking c.loop-x-test.true (measured a) now.0 now.1 refl, now.2, now.3)

pub returns : goal.returns
returns c =
    let taking = c.loop-x.invariant.0 in
    let some = row_bytes c.args.run.b c.response_length-length.ensures in
    let end : length c.args.numbers.now ≤ c.loop-x.x = omega (arith, c.loop-x-test.false) in
    let rows = rows_cut c.args.run.b c.args.bytes.now c.response_length-length.ensures in
    ap₂ (λ (z : Run) (t : List ℕ). outcome z 0 t)
    (taking_run some taking end ∙ ap (after_from c.args.run) rows)
    (taking_numbers some taking end ∙ ap (numbers_from c.args.run) rows)
