-- `of_members` meets its contract. The loop has stored what the rule gave for the members passed. Assumes nothing.
use Rattle.std.proofs.Common.{◌≡◌, ◌∙◌, sym, ap, ap₂, arith, List, ℕ, ◌+◌, get_or}
use Rattle.sets.specs.Masks.{has, members, count}
use Rattle.sets.proofs.MemberLaws.{count_bits}
use Rattle.field.specs.declared.Scalar.{Scalar}
use Rattle.field.specs.Definitions.{scalar}
use Rattle.rows.specs.declared.Row.{Row}
use Rattle.rows.proofs.RowLaws.{listed_is}
use Rattle.arrays.specs.LoopLaws.{chosen, member_room, passed_none, passed_skip, passed_take}
use Rattle.arrays.proofs.of_members.Goals as goal
use Rattle.arrays.proofs.of_members.Goals.{then-has, else-has}

pub loop-i-init : goal.loop-i-init
loop-i-init g c = passed_none (scalar 0) _ (has c.args.set)

pub bounds-at-count : goal.bounds-at-count
bounds-at-count g c = omega (arith, member_room c.loop-i.i c.args.set c.ranges.set.fits c.loop-i.invariant.0 c.has.ensures c.if-has.true)

pub overflow_add-count : goal.overflow_add-count
overflow_add-count g c = omega (arith, member_room c.loop-i.i c.args.set c.ranges.set.fits c.loop-i.invariant.0 c.has.ensures c.if-has.true)

pub loop-i-preserved : goal.loop-i-preserved
loop-i-preserved g c =
    let l = c.loop-i in
    let f = has c.args.set in
    elim c.if-has.branch [
      | then-has w ↦
          passed_take (scalar 0) _ f l.i l.invariant (sym c.has.ensures ∙ w.if-has.true) (λ r h. h (l.i + 1) (omega arith) w.rule.result w.rule.ensures) w.count-is w.at-is
      | else-has w ↦
          passed_skip (scalar 0) _ f l.i l.invariant (sym c.has.ensures ∙ w.if-has.false) w.count-is w.at-is
    ]

pub returns : goal.returns
returns g c = λ r h.
    let n = c.args.n in
    let l = c.loop-i in
    let end : l.i ≡ n = omega arith in
    let f = has c.args.set in
    let row : ℕ → Row = λ k. record { at = chosen (scalar 0) r (members k f); count = count k f } in
    ap₂ (λ (p : List Scalar) (m : ℕ). record { at = p; count = m }) (l.invariant.1 r h) l.invariant.0
    ∙ ap row end
    ∙ sym (listed_is (count n f) (λ k. r (get_or (members n f) k 0)) (count_bits 64 n c.args.set c.ranges.set.fits))
