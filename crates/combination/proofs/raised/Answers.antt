-- `raised` meets its contract. The loop has stored the powers passed, those of 1 as they are. Assumes nothing.
use Rattle.std.proofs.Common.{rules, ◌≡◌, ◌∙◌, refl, sym, ap, ap₂, arith, List, ℕ, ◌+◌, ◌*◌, ◌/◌, ◌<◌, length, set, get_or, take, drop, length-take, get_or-take, ◌++◌}
use Prim.Native.Nat.{min}
use Rattle.lists.specs.Stores.{stored}
use Rattle.lists.specs.StoreLaws.{get_d_default, stored_first, stored_front, stored_other, stored_capped}
use Rattle.field.specs.declared.Element.{Element}
use Rattle.field.specs.Definitions.{element, identity, powered}
use Rattle.field.proofs.ElementLaws.{identity_powered, same_is}
use Rattle.parameters.specs.Definitions.{stride, places}
use Rattle.combination.specs.Combination.{raised}
use Rattle.combination.proofs.raised.Invariants.{power_at}
use Rattle.combination.proofs.raised.Goals as goal
use Rattle.combination.proofs.raised.Goals.{then-not-same, else-not-same}

pub loop-at-init : goal.loop-at-init
unfolding stored
loop-at-init c = refl

-- what stands at the next place is what the list had there
value_at : (list : List Element) (m at : ℕ) (f : ℕ → Element) {items : List Element} → items ≡ stored (take m list) 0 at f → at < length (take m list)
    → get_or items at (element 0) ≡ get_or list at identity
value_at list m at f e l =
    ap (λ (r : List Element). get_or r at (element 0)) e
    ∙ stored_other (take m list) 0 at f (element 0) at (λ i k n. omega (arith, n))
    ∙ get_or-take m list at (element 0) (omega (arith, l, length-take m list))
    ∙ get_d_default list at (element 0) identity (omega (arith, l, length-take m list))

-- one power more
power_stored : (list : List Element) (m at : ℕ) {items : List Element} {x : Element} → items ≡ stored (take m list) 0 at (power_at list) → x ≡ power_at list at
    → set items at x ≡ stored (take m list) 0 (at + 1) (power_at list)
power_stored list m at e p = ap₂ (λ (r : List Element) (y : Element). set r at y) e p ∙ sym (stored_first (take m list) at (power_at list))

-- a power of 1 is 1
unmoved : {v : Element} (e : ℕ) → v ≡ identity → v ≡ powered v e
unmoved e i = i ∙ sym (ap (λ (w : Element). powered w e) i ∙ identity_powered e)

pub loop-at-preserved : goal.loop-at-preserved
loop-at-preserved c =
    let list = c.args.list in
    let l = c.loop-at in
    let m : ℕ = c.min.result * 64 in
    let e : ℕ = l.at / stride + 1 in
    let value : get_or l.value-items l.at (element 0) ≡ get_or list l.at identity = value_at list m l.at (power_at list) l.invariant c.loop-at-test.true in
    elim c.if-not-same.branch [
      | then-not-same w ↦
          w.value-items-is ∙ power_stored list m l.at l.invariant (w.power.ensures ∙ ap (λ (v : Element). powered v e) value)
      | else-not-same w ↦
          w.value-items-is ∙ power_stored list m l.at l.invariant (unmoved e (same_is _ _ (sym c.same.ensures ∙ w.if-not-same.false)) ∙ ap (λ (v : Element). powered v e) value)
    ]

pub returns : goal.returns
unfolding raised
returns c =
    let list = c.args.list in
    let l = c.loop-at in
    let m : ℕ = c.min.result * 64 in
    let full : length list ≡ places = search rules in
    let end : l.at ≡ min (c.args.n * stride) (length list) = omega (arith, length-take m list) in
    ap (λ (r : List Element). r ++ drop m list) l.invariant
    ∙ stored_front list m l.at (power_at list) (omega (arith, full)) (omega (arith, length-take m list))
    ∙ ap (λ (k : ℕ). stored list 0 k (power_at list)) end
    ∙ stored_capped list (c.args.n * stride) (power_at list)
