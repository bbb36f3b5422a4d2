-- `challenge_values` meets its contract. The loop has stored the challenges passed. Assumes nothing.
use Rattle.std.proofs.Common.{◌≡◌, ◌∙◌, ap, ap₂, arith, ℕ, ◌+◌, ◌*◌, ◌≤◌, get_or}
use native.Mathlib.Nat.{mul-le-mul}
use Rattle.field.specs.declared.Scalar.{Scalar}
use Rattle.lists.specs.LoadLaws.{part_none, part_next}
use Rattle.field.specs.Definitions.{scalar}
use Rattle.arrays.specs.Arrays.{cell, challenge_in, scalars}
use Rattle.arrays.specs.LoopLaws.{part_room, part_width, part_front}
use Rattle.arrays.proofs.challenge_values.Goals as goal

-- the first place is a product of two bytes
small : (u a : ℕ) → u ≤ 255 → a ≤ 255 → u * a ≤ 65025
small u a l m = mul-le-mul l m

pub overflow_mul-start : goal.overflow_mul-start
overflow_mul-start c = omega (arith, small c.predecessor.result c.args.a (omega arith) (omega arith))

pub slice_bounds-value-items-end : goal.slice_bounds-value-items-end
slice_bounds-value-items-end c = part_room (scalar 0) c.capped-m.result (omega arith)

pub loop-v-init : goal.loop-v-init
loop-v-init c = part_none 64 (scalar 0) c.capped-m.result _

pub overflow_add-at : goal.overflow_add-at
overflow_add-at c =
    let a = c.args in
    omega (arith, small c.predecessor.result a.a (omega arith) (omega arith), part_width (scalar 0) _ a.a c.loop-v.v c.loop-v.invariant c.capped-m.ensures)

pub loop-v-preserved : goal.loop-v-preserved
unfolding cell
loop-v-preserved c =
    let a = c.args in
    let l = c.loop-v in
    let place : c.predecessor.result * a.a + l.v ≡ cell a.a a.u (l.v + 1) = ap₂ ◌+◌ (ap (λ (k : ℕ). k * a.a) c.predecessor.ensures) (omega arith) in
    let f : ℕ → Scalar = λ k. challenge_in a.a a.list a.u (k + 1) in
    part_next 64 (scalar 0) c.capped-m.result f l.v l.invariant (c.item_or.ensures ∙ ap (λ (k : ℕ). get_or a.list k (scalar 0)) place)

pub returns : goal.returns
unfolding scalars
returns c =
    let a = c.args in
    let f : ℕ → Scalar = λ k. challenge_in a.a a.list a.u (k + 1) in
    part_front (scalar 0) f a.a c.loop-v.v c.loop-v.invariant c.capped-m.ensures (omega arith)
