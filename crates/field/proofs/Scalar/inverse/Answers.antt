-- `Scalar::inverse` meets its contract. The loop keeps factor times the inverse of what is left, modulo q. Assumes nothing.
use borrow.Author.Rules.{rules}
use native.Mathlib.Omega.{arith}
use native.Mathlib.Nat.{mod-lt, mod-eq_of_lt, one-mul, lt_trans}
use mathlib.Core.Path.{◌∙◌, ap, sym}
use Prim.Native.Nat.{ℕ, ◌*◌, ◌%◌, ◌-◌, ◌/◌, ◌<◌}
use Rattle.field.specs.declared.Scalar.{Scalar}
use Rattle.field.specs.Definitions.{q, scalar, times, inverse_of, inverse}
use Rattle.field.proofs.CongruenceLaws.{mod_mul_mod, mul_mod_mod, same}
use Rattle.field.proofs.ScalarLaws.{inverse_small, inverse_step, inverse_lt}
use Rattle.field.proofs.Scalar.inverse.Goals as goal

pub loop-left-init : goal.loop-left-init
unfolding q
loop-left-init c =
    let x = c.before.args.self.0 in
    let l : x % q < q = mod-lt x (search rules) in
    (l, l, same q (one-mul _) ∙ mod-eq_of_lt (inverse_lt (x % q) l))

pub loop-left-preserved : goal.loop-left-preserved
unfolding q times
loop-left-preserved c =
    let l = c.before.before.loop-left in
    let p : 0 < l.left = omega arith in
    let y = inverse_of (q % l.left) in (
      lt_trans (mod-lt _ p) l.invariant.0,
      l.invariant.1,
      ap (λ (z : Scalar). z.0 * y % q) c.mul-factor.ensures ∙ mod_mul_mod (l.factor.0 * (q - q / l.left)) y q ∙ same q (omega arith)
          ∙ sym (mul_mod_mod l.factor.0 ((q - q / l.left) * y) q) ∙ ap (λ (z : ℕ). l.factor.0 * z % q) (sym (inverse_step l.left (omega arith))) ∙ l.invariant.2,
    )

pub returns : goal.returns
unfolding q times inverse
returns c =
    let l = c.before.before.loop-left in
    c.mul.ensures
    ∙ ap scalar (ap (λ (z : ℕ). l.factor.0 * z % q) (sym (inverse_small l.left (omega arith))) ∙ l.invariant.2)
