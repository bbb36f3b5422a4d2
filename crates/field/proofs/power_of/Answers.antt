-- `power_of` meets its contract. The loop keeps product × square ^ left modulo m, until none or one is left. Assumes nothing.
use borrow.Author.Rules.{rules}
use native.Mathlib.Omega.{arith}
use native.Mathlib.Nat.{pow-zero, mod-lt, one-mul}
use mathlib.Core.Path.{◌≡◌, ◌∙◌, ap, sym}
use Prim.Native.Nat.{ℕ, ◌*◌, ◌%◌, ◌^◌, ◌<◌}
use Rattle.field.proofs.PowerLaws.{pow_one, power_is, even_turn, odd_turn}
use Rattle.field.proofs.Fits.{product_fits}
use Rattle.field.proofs.power_of.Goals as goal
use Rattle.field.proofs.power_of.Goals.{then-left-eq1, else-left-eq1, then-left-eq1-2, else-left-eq1-2}

pub loop-left-init : goal.loop-left-init
loop-left-init c = (search rules, search rules, ap (λ (x : ℕ). x % c.args.modulus) (one-mul _))

pub loop-left-preserved : goal.loop-left-preserved
loop-left-preserved c =
    let a = c.before.before.before.args in
    let l = c.before.before.loop-left in
    let m = a.modulus in
    let p : 0 < m = omega arith in
    let small : l.square * l.square % m < 2 ^ 32 = omega (arith, mod-lt (l.square * l.square) p) in
    elim c.if-left-eq1.branch [
      | then-left-eq1 w ↦
          let here : c.if-left-eq1.product ≡ l.product * l.square % m = cc in
          (rw here (mod-lt _ (search rules)), small, rw here (odd_turn m l.product l.square l.left w.if-left-eq1.true ∙ l.invariant.2))
      | else-left-eq1 w ↦
          let here : c.if-left-eq1.product ≡ l.product = cc in
          (rw here l.invariant.0, small, rw here (even_turn m l.product l.square l.left w.if-left-eq1.false ∙ l.invariant.2))
    ]

-- what is left is none or one: the last factor
last_is : (c : goal.After-row_known-1)
    → let l = c.loop-left in (c.if-left-eq1-2.last < 2 ^ 32) × (c.if-left-eq1-2.last ≡ l.square ^ l.left)
last_is c =
    let l = c.loop-left in
    elim c.if-left-eq1-2.branch [
      | then-left-eq1-2 w ↦ (rw w.last-is l.invariant.1, w.last-is ∙ sym (ap (λ (k : ℕ). l.square ^ k) w.if-left-eq1-2.true ∙ pow_one l.square))
      | else-left-eq1-2 w ↦
          let none : l.left ≡ 0 = omega arith in
          (rw w.last-is (omega arith), w.last-is ∙ sym (ap (λ (k : ℕ). l.square ^ k) none ∙ pow-zero l.square))
    ]

pub overflow_mul-result : goal.overflow_mul-result
overflow_mul-result c = record { fits = product_fits (omega arith) (omega (arith, last_is c)) }

pub overflow_cast-result : goal.overflow_cast-result
overflow_cast-result c =
    let p : 0 < c.args.modulus = omega arith in
    omega (arith, mod-lt (c.loop-left.product * c.if-left-eq1-2.last) p)

pub returns : goal.returns
returns c =
    let a = c.args in
    let l = c.loop-left in
    let m = a.modulus in
    ap (λ (x : ℕ). l.product * x % m) (last_is c).1 ∙ l.invariant.2 ∙ sym (power_is m a.base a.exponent)
