-- `run_of` meets its contract: the run with what is left comes to what the log comes to, and what is left gets shorter. Assumes nothing.
use Rattle.std.specs.Prelude.{◌≡◌, List, ℕ, length, take, drop, ◌<◌, ◌-◌}
use Rattle.std.proofs.Common.{◌∙◌, sym, ap, ap₂, arith, length-drop}
use Rattle.std.proofs.lemmas.List.{nil_from_length}
use Rattle.run.specs.declared.Run.{Run}
use Rattle.run.specs.Steps.{step_of, after_from}
use Rattle.reader.specs.Turns.{next_length, run_from}
use Rattle.reader.proofs.TurnLaws.{next_pos, next_max, run_none, run_start}
use Rattle.reader.proofs.StretchLaws.{turn_record, turn_run}
use Rattle.streams.proofs.run_of.Goals as goal

pub loop-rest-init : goal.loop-rest-init
loop-rest-init c = ap (λ (r : Run). run_from r c.args.log.now) c.fresh-run.ensures ∙ sym (run_start c.args.log.now)

pub split_at-requires : goal.split_at-requires
split_at-requires c = omega (arith, c.next_length.ensures, next_max c.loop-rest.run c.loop-rest.rest.now)

pub loop-rest-smaller : goal.loop-rest-smaller
loop-rest-smaller c =
    let rest = c.loop-rest.rest.now in
    let back : length c.split_at.result.1.now ≡ length rest - c.next_length.result = ap length c.split_at.ensures.back ∙ length-drop c.next_length.result rest in
    let some : 0 < length rest = omega (arith, c.loop-rest-test.true) in
    omega (arith, back, c.next_length.ensures, next_pos c.loop-rest.run rest some, some)

pub loop-rest-preserved : goal.loop-rest-preserved
unfolding after_from
loop-rest-preserved c =
    let r = c.loop-rest.run in
    let rest = c.loop-rest.rest.now in
    let size = next_length r rest in
    let turn = turn_record r rest (omega (arith, c.loop-rest-test.true)) in
    let front : c.split_at.result.0.now ≡ take size rest = c.split_at.ensures.front ∙ ap (λ (k : ℕ). take k rest) c.next_length.ensures in
    let back : c.split_at.result.1.now ≡ drop size rest = c.split_at.ensures.back ∙ ap (λ (k : ℕ). drop k rest) c.next_length.ensures in
    let next = c.give_record.ensures.run ∙ ap (λ (s : List ℕ). (step_of r s).run) front in
    ap₂ run_from next back ∙ sym (turn_run turn) ∙ c.loop-rest.invariant

pub returns : goal.returns
returns c =
    let r = c.loop-rest.run in
    let end = nil_from_length c.loop-rest.rest.now (omega (arith, c.loop-rest-test.false)) in
    sym (run_none r) ∙ ap (run_from r) (sym end) ∙ c.loop-rest.invariant
