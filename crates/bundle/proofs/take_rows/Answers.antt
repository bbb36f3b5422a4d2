-- `take_rows` meets its contract: refused by the stage, then by the places of the list; else every row is given. Assumes nothing.
use Rattle.std.proofs.Common.{sym, ◌∙◌, arith}
use Rattle.records.specs.Tags.{response_length}
use Rattle.bundle.proofs.BundleLaws.{row_bytes, rows_count, bundle_stage, bundle_places, bundle_given}
use Rattle.bundle.proofs.take_rows.Goals as goal

pub returns-then-other : goal.returns-then-other
returns-then-other c = sym (bundle_stage c.args.run c.args.bytes.now c.args.numbers.now (λ e. c.if-other.true (c.stage_of-other.ensures ∙ e)))

pub overflow_sub-rows : goal.overflow_sub-rows
overflow_sub-rows c = row_bytes c.args.run.b c.response_length-length.ensures

pub overflow_add-rows : goal.overflow_add-rows
unfolding response_length
overflow_add-rows c = omega (arith, c.response_length-length.ensures, c.well_formed.1.0.0)

pub nonzero_div-rows : goal.nonzero_div-rows
nonzero_div-rows c = row_bytes c.args.run.b c.response_length-length.ensures

pub returns-then-count-rows : goal.returns-then-count-rows
returns-then-count-rows c =
    let a = c.args in
    sym (bundle_places a.run a.bytes.now a.numbers.now (sym c.stage_of-other.ensures ∙ c.if-other.false)
    (λ e. c.if-count-rows.true (e ∙ rows_count a.run.b a.bytes.now c.response_length-length.ensures)))

pub give_rows-requires : goal.give_rows-requires
give_rows-requires c =
    let a = c.args in
    (sym c.stage_of-other.ensures ∙ c.if-other.false, c.if-count-rows.false ∙ sym (rows_count a.run.b a.bytes.now c.response_length-length.ensures))

pub returns : goal.returns
returns c =
    let a = c.args in
    c.give_rows.ensures
    ∙ sym (bundle_given a.run a.bytes.now a.numbers.now (sym c.stage_of-other.ensures ∙ c.if-other.false)
    (c.if-count-rows.false ∙ sym (rows_count a.run.b a.bytes.now c.response_length-length.ensures)))
