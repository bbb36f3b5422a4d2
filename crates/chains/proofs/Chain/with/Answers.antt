-- `Chain::with` meets its contract. The loop has multiplied the places passed, and keeps what is left of the exponent above them. Assumes nothing.
use Rattle.std.proofs.Common.{◌≡◌, rules, arith, refl, sym, ap, ◌∙◌, List, [], ◌∷◌, ℕ, ◌/◌, length, set}
use Rattle.field.specs.declared.Element.{Element}
use Rattle.field.specs.Definitions.{element, identity, product}
use Rattle.field.proofs.ElementLaws.{raise_powered}
use Rattle.chains.specs.Definitions.{most_digits, value_from, chain_value}
use Rattle.chains.proofs.ChainLaws.{left_none, left_next, powers_of, powers_of_is, multiplied, multiplied_none, multiplied_next, multiplied_value}
use Rattle.chains.proofs.Chain.with.Goals as goal

pub loop-place-init : goal.loop-place-init
loop-place-init c = (left_none c.args.exponent.0, multiplied_none _ c.args.self.digits c.args.exponent.0)

pub loop-place-preserved : goal.loop-place-preserved
loop-place-preserved c =
    let l = c.loop-place in
    let w : ℕ = c.args.exponent.0 in
    let places : List Element = c.args.self.digits in
    let full : length places ≡ most_digits = search rules in (
      ap (λ (x : ℕ). x / 4) l.invariant.0 ∙ left_next w l.place-index,
      ap (λ (x : Element). set l.place-items l.place-index x) c.mul.ensures
          ∙ multiplied_next _ places w l.place-index l.place-items l.left (element 0) (element 0) (omega arith) refl l.invariant.1 l.invariant.0,
    )

pub returns : goal.returns
unfolding chain_value
returns c =
    let l = c.loop-place in
    let v : Element = c.args.value in
    let w : ℕ = c.args.exponent.0 in
    let places : List Element = c.args.self.digits in
    let full : length places ≡ most_digits = search rules in
    let end : l.place-index ≡ most_digits = omega arith in
    let one : Element = c.mul-one.result in
    let two : Element = c.mul-two.result in
    let three : Element = c.mul-three.result in
    let powers : List Element = identity ∷ one ∷ two ∷ three ∷ [] in
    let small : powers ≡ powers_of v = powers_of_is v one two three c.mul-one.ensures c.mul-two.ensures c.mul-three.ensures in
    ap (λ (m : List Element). value_from m 0 most_digits)
    (l.invariant.1 ∙ ap (multiplied powers places w) end ∙ ap (λ (p : List Element). multiplied p places w most_digits) small)
    ∙ multiplied_value v places w most_digits (omega arith) (omega arith)
    ∙ ap (product (value_from places 0 most_digits)) (sym (raise_powered v c.args.exponent))
