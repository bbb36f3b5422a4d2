-- `Row::product` meets its contract. The loop keeps a chain that comes to the product of value^weight over the places passed. Assumes nothing.
use Rattle.std.proofs.Common.{◌≡◌, ◌∙◌, sym, ap, ap₂, rules, arith, List, ℕ, ◌<◌, [], ◌∷◌, length, take, get_or, length-append, length-take, get_or-take}
use Rattle.std.proofs.lemmas.Slice.Zip.{zip_turn, zip_end}
use Rattle.std.specs.Slice.Iter.{iter_rest}
use Rattle.std.specs.Iterator.Adapters.{zip_first, zip_second}
use Rattle.field.specs.declared.Scalar.{Scalar}
use Rattle.field.specs.declared.Element.{Element}
use Rattle.field.specs.Definitions.{scalar, element, raise, product as multiply}
use Rattle.rows.specs.Definitions.{size, product_of}
use Rattle.rows.proofs.RowLaws.{size_max}
use Rattle.rows.proofs.TurnLaws.{first, product_none, product_next, product_all}
use Rattle.rows.proofs.Row.product.Goals as goal

pub loop-w-init : goal.loop-w-init
loop-w-init c = c.none-chain.ensures ∙ sym (product_none c.args.self c.args.values)

pub loop-w-preserved : goal.loop-w-preserved
loop-w-preserved c =
    let m : ℕ = c.len-m.result in
    let at : List Scalar = c.args.self.at in
    let values : List Element = c.args.values in
    let k : ℕ = length c.loop-w.yielded in
    let start : iter_rest (zip_first c.into_iter-w-iterator.result) ≡ take m at = search rules in
    let second : iter_rest (zip_second c.into_iter-w-iterator.result) ≡ values = search rules in
    let turn =
    zip_turn (take m at) values c.loop-w.yielded c.into_iter-w-iterator.result c.loop-w.w-iterator c.next.new.self c.next.result start second c.loop-w.yielded_by
    (c.in-Some.field-0-0, c.in-Some.field-0-1) c.in-Some.is c.next.ensures.steps in
    let within : k < m = omega (arith, turn.0, length-take m at) in
    let weight : c.in-Some.field-0-0.now ≡ get_or at k (scalar 0) = turn.2 (scalar 0) ∙ get_or-take m at k (scalar 0) within in
    c.with-chain.ensures
    ∙ ap₂ multiply c.loop-w.invariant (ap₂ raise (turn.3 (element 0)) weight)
    ∙ sym (product_next c.args.self values k (element 0) (omega (arith, within, size_max c.args.self)) turn.1)
    ∙ ap (λ (n : ℕ). product_of (first n c.args.self) values) (sym (length-append c.loop-w.yielded ((c.in-Some.field-0-0, c.in-Some.field-0-1) ∷ [])))

pub returns : goal.returns
returns c =
    let m : ℕ = c.len-m.result in
    let at : List Scalar = c.args.self.at in
    let values : List Element = c.args.values in
    let full : length at ≡ 64 = search rules in
    let as_long : length values ≡ 64 = search rules in
    let start : iter_rest (zip_first c.into_iter-w-iterator.result) ≡ take m at = search rules in
    let second : iter_rest (zip_second c.into_iter-w-iterator.result) ≡ values = search rules in
    let last =
    zip_end (take m at) values c.loop-w.yielded c.into_iter-w-iterator.result c.loop-w.w-iterator c.next.new.self c.next.result start second c.loop-w.yielded_by c.in-None.is
    c.next.ensures.steps in
    let end : length c.loop-w.yielded ≡ size c.args.self = omega (arith, last, length-take m at, size_max c.args.self) in
    c.value.ensures ∙ c.loop-w.invariant ∙ ap (λ (n : ℕ). product_of (first n c.args.self) values) end ∙ product_all c.args.self values
