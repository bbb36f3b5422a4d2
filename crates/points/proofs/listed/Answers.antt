-- `listed` meets its contract. The loop has stored what the rule gave at the places passed. Assumes nothing.
use Rattle.std.proofs.Common.{◌≡◌, ◌∙◌, rules, refl, ap, sym, arith, List, ℕ, ◌++◌, take, drop, length-take, length-set, zero-add}
use Prim.Native.Nat.{min}
use Rattle.lists.specs.Stores.{stored, filled}
use Rattle.lists.specs.StoreLaws.{stored_front, length_filled}
use Rattle.lists.specs.LoadLaws.{load_in}
use Rattle.field.specs.declared.Scalar.{Scalar}
use Rattle.field.specs.Definitions.{scalar}
use Rattle.rows.specs.Definitions.{most_scalars}
use Rattle.rows.proofs.RowLaws.{front_row}
use Rattle.points.proofs.listed.Invariants.{empty}
use Rattle.points.proofs.listed.Goals as goal

pub loop-v-init : goal.loop-v-init
unfolding stored filled
loop-v-init g c =
    let m : ℕ = c.min-m.result in
    let count : m ≡ min c.args.count most_scalars = search rules in
    (count, length-take m empty ∙ omega (arith, length_filled most_scalars (scalar 0)), λ f h. refl)

pub loop-v-preserved : goal.loop-v-preserved
loop-v-preserved g c =
    let l = c.loop-v in
    (l.invariant.0, length-set l.place-items l.v c.rule.result ∙ l.invariant.1, λ f h. load_in (take c.min-m.result empty) 0 l.v f (l.invariant.2 f h) (sym (zero-add l.v)) (h l.v (omega (arith, l.invariant.0, l.invariant.1)) c.rule.result c.rule.ensures) refl)

pub returns : goal.returns
unfolding filled
returns g c = λ f h.
    let l = c.loop-v in
    let m : ℕ = c.min-m.result in
    front_row c.args.count f (ap (λ (s : List Scalar). s ++ drop m empty) (l.invariant.2 f h) ∙ stored_front empty m l.v f (omega (arith, l.invariant.0, length_filled most_scalars (scalar 0))) (omega (arith, l.invariant.1))) (omega (arith, l.invariant.0, l.invariant.1)) l.invariant.0
