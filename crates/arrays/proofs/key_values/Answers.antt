-- `key_values` meets its contract. The loop has stored the values passed. Assumes nothing.
use Rattle.std.proofs.Common.{◌≡◌, ◌∙◌, ap, arith, ℕ, ◌+◌, ◌-◌, get_or}
use Rattle.lists.specs.LoadLaws.{part_none, part_next}
use Rattle.field.specs.declared.Element.{Element}
use Rattle.field.specs.Definitions.{identity}
use Rattle.arrays.specs.Arrays.{elements}
use Rattle.arrays.specs.LoopLaws.{part_room, part_front}
use Rattle.arrays.proofs.key_values.Goals as goal

pub slice_bounds-value-items-end : goal.slice_bounds-value-items-end
slice_bounds-value-items-end c = part_room identity c.capped-m.result (omega arith)

pub loop-v-init : goal.loop-v-init
loop-v-init c = part_none 64 identity c.capped-m.result _

pub loop-v-preserved : goal.loop-v-preserved
loop-v-preserved c =
    let l = c.loop-v in
    let key = c.args.key in
    let place : c.saturating_sub-j.result ≡ l.v + 1 - c.args.a = omega arith in
    part_next 64 identity c.capped-m.result _ l.v l.invariant (c.item_or.ensures ∙ ap (λ (k : ℕ). get_or key k identity) place)

pub returns : goal.returns
unfolding elements
returns c =
    let a = c.args in
    let f : ℕ → Element = λ k. get_or a.key (k + 1 - a.a) identity in
    part_front identity f (a.t + a.a) c.loop-v.v c.loop-v.invariant c.capped-m.ensures (omega arith)
