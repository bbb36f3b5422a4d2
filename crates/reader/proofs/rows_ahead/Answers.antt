-- `rows_ahead` meets its contract. Assumes nothing.
use Rattle.std.proofs.Common.{◌≡◌, ◌∙◌, ℕ, sym, ap, arith}
use Rattle.records.specs.Tags.{response_length}
use Rattle.run.specs.Runs.{stage_of}
use Rattle.run.specs.RunLaws.{stage_live}
use Rattle.reader.specs.Stretches.{most_rows, stretch_of}
use Rattle.reader.proofs.StretchLaws.{rows_elsewhere, rows_few, rows_many}
use Rattle.reader.proofs.rows_ahead.Goals as goal

pub returns-then-run-ne4 : goal.returns-then-run-ne4
returns-then-run-ne4 c =
    let a = c.args in
    sym (rows_elsewhere a.run.now a.rest.now (λ e. c.if-run-ne4.true (stage_live a.run.now 4 e (omega arith) (omega arith)).0))

pub returns-then-other : goal.returns-then-other
returns-then-other c = sym (rows_elsewhere c.args.run.now c.args.rest.now (λ e. c.if-other.true (c.stage_of-other.ensures ∙ e)))

pub stretch-rows-requires : goal.stretch-rows-requires
unfolding response_length
stretch-rows-requires c = omega (arith, c.response_length-length.ensures)

pub returns-then-single : goal.returns-then-single
returns-then-single c =
    let r = c.args.run.now in
    let s = c.args.rest.now in
    let four : stage_of r ≡ 4 = omega (arith, c.stage_of-other.ensures, c.if-other.false) in
    let counted : c.stretch-rows.result ≡ stretch_of most_rows (response_length r.b) s = c.stretch-rows.ensures ∙ ap (λ (k : ℕ). stretch_of most_rows k s) c.response_length-length.ensures in
    sym (rows_few r s four (omega (arith, counted, c.if-single.true)))

pub returns : goal.returns
returns c =
    let r = c.args.run.now in
    let s = c.args.rest.now in
    let four : stage_of r ≡ 4 = omega (arith, c.stage_of-other.ensures, c.if-other.false) in
    let counted : c.stretch-rows.result ≡ stretch_of most_rows (response_length r.b) s = c.stretch-rows.ensures ∙ ap (λ (k : ℕ). stretch_of most_rows k s) c.response_length-length.ensures in
    counted ∙ sym (rows_many r s four (omega (arith, counted, c.if-single.false)))
