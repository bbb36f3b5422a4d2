-- `with_numbers` meets its contract. The loop has stored the numbers passed. Assumes nothing.
use Rattle.std.proofs.Common.{rules, arith, ap, ◌∙◌}
use Rattle.records.specs.Bytes.{word}
use Rattle.lists.specs.LoadLaws.{loading_none, loading_in, loading_past, loading_end}
use Rattle.arrays.proofs.with_numbers.Goals as goal
use Rattle.arrays.proofs.with_numbers.Goals.{then-kept, else-kept}

pub loop-v-init : goal.loop-v-init
loop-v-init g c = loading_none (search rules)

pub loop-v-preserved : goal.loop-v-preserved
loop-v-preserved g c =
    let l = c.loop-v in
    elim c.if-kept.branch [
      | then-kept w ↦
          loading_in l.invariant (omega arith) (omega arith) (w.of.ensures ∙ ap g.T.Kind.of_number {y = word c.args.bytes.now c.args.from l.v} w.word.ensures) w.next-is
      | else-kept w ↦
          loading_past l.invariant (omega arith) (omega arith) w.next-is
    ]

pub returns : goal.returns
returns g c = loading_end c.loop-v.invariant (omega arith)
