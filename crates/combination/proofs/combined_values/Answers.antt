-- `combined_values` meets its contract. The loop has stored the products passed. Assumes nothing.
use Rattle.std.proofs.Common.{arith, ℕ}
use Rattle.sets.specs.Masks.{has}
use Rattle.lists.specs.LoadLaws.{part_none, part_next}
use Rattle.field.specs.declared.Element.{Element}
use Rattle.field.specs.Definitions.{identity}
use Rattle.arrays.specs.Arrays.{commitment_in, elements}
use Rattle.arrays.specs.LoopLaws.{part_room, part_width, part_front}
use Rattle.combination.specs.Combination.{combined_value}
use Rattle.combination.proofs.combined_values.Goals as goal

pub slice_bounds-value-items-end : goal.slice_bounds-value-items-end
slice_bounds-value-items-end c = part_room identity c.capped-m.result (omega arith)

pub loop-v-init : goal.loop-v-init
loop-v-init c = part_none 64 identity c.capped-m.result _

pub combined_value-requires : goal.combined_value-requires
combined_value-requires c = omega (arith, part_width identity _ _ c.loop-v.v c.loop-v.invariant c.capped-m.ensures)

pub loop-v-preserved : goal.loop-v-preserved
loop-v-preserved c = part_next 64 identity c.capped-m.result _ c.loop-v.v c.loop-v.invariant c.combined_value.ensures

pub returns : goal.returns
unfolding elements
returns c =
    let a = c.args in
    let f : ℕ → Element = combined_value a.n (has a.qual) (commitment_in a.powers) 1 in
    part_front identity f a.quorum c.loop-v.v c.loop-v.invariant c.capped-m.ensures (omega arith)
