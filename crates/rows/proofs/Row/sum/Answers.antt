-- `Row::sum` meets its contract. The loop keeps the sum of weight × value over the places passed. Assumes nothing.
use Rattle.std.proofs.Common.{◌≡◌, ◌∙◌, sym, ap, ap₂, rules, arith, List, ℕ, [], ◌∷◌, length, take, get_or, length-append, length-take, get_or-take}
use Rattle.std.proofs.lemmas.Slice.Zip.{zip_turn, zip_end}
use Rattle.std.specs.Slice.Iter.{iter_rest}
use Rattle.std.specs.Iterator.Adapters.{zip_first, zip_second}
use Rattle.algebra.specs.Fold.{fold}
use Rattle.algebra.specs.FoldLaws.{fold_zero, fold_next}
use Rattle.field.specs.declared.Scalar.{Scalar}
use Rattle.field.specs.Definitions.{scalar, plus, times}
use Rattle.rows.specs.Definitions.{size, nth, sum_of}
use Rattle.rows.proofs.RowLaws.{size_max}
use Rattle.rows.proofs.Row.sum.Goals as goal

pub loop-w-init : goal.loop-w-init
loop-w-init c = sym (fold_zero plus (scalar 0) _)

pub loop-w-preserved : goal.loop-w-preserved
unfolding nth
loop-w-preserved c =
    let m : ℕ = c.len-m.result in
    let at : List Scalar = c.args.self.at in
    let values : List Scalar = c.args.values in
    let k : ℕ = length c.loop-w.yielded in
    let term : ℕ → Scalar = λ i. times (nth c.args.self i) (get_or values i (scalar 0)) in
    let first : iter_rest (zip_first c.into_iter-w-iterator.result) ≡ take m at = search rules in
    let second : iter_rest (zip_second c.into_iter-w-iterator.result) ≡ values = search rules in
    let turn =
    zip_turn (take m at) values c.loop-w.yielded c.into_iter-w-iterator.result c.loop-w.w-iterator c.next.new.self c.next.result first second c.loop-w.yielded_by
    (c.in-Some.field-0-0, c.in-Some.field-0-1) c.in-Some.is c.next.ensures.steps in
    let weight : c.in-Some.field-0-0.now ≡ get_or at k (scalar 0) = turn.2 (scalar 0) ∙ get_or-take m at k (scalar 0) (omega (arith, turn.0, length-take m at)) in
    c.add-sum.ensures
    ∙ ap₂ plus c.loop-w.invariant (c.mul.ensures ∙ ap₂ times weight (turn.3 (scalar 0)))
    ∙ sym (fold_next plus (scalar 0) k term)
    ∙ ap (λ (n : ℕ). fold plus (scalar 0) n term) (sym (length-append c.loop-w.yielded ((c.in-Some.field-0-0, c.in-Some.field-0-1) ∷ [])))

pub returns : goal.returns
unfolding sum_of
returns c =
    let m : ℕ = c.len-m.result in
    let at : List Scalar = c.args.self.at in
    let values : List Scalar = c.args.values in
    let full : length at ≡ 64 = search rules in
    let as_long : length values ≡ 64 = search rules in
    let first : iter_rest (zip_first c.into_iter-w-iterator.result) ≡ take m at = search rules in
    let second : iter_rest (zip_second c.into_iter-w-iterator.result) ≡ values = search rules in
    let last =
    zip_end (take m at) values c.loop-w.yielded c.into_iter-w-iterator.result c.loop-w.w-iterator c.next.new.self c.next.result first second c.loop-w.yielded_by c.in-None.is
    c.next.ensures.steps in
    let end : length c.loop-w.yielded ≡ size c.args.self = omega (arith, last, length-take m at, size_max c.args.self) in
    c.loop-w.invariant ∙ ap (λ (n : ℕ). fold plus (scalar 0) n (λ k. times (nth c.args.self k) (get_or values k (scalar 0)))) end
