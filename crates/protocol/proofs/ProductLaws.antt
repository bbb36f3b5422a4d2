-- The laws of the product over a set of dealers, and of the exponents i^(u-1). Assumes nothing.
use Rattle.std.specs.Prelude.{◌≡◌, refl, Bool, true, false}
use Rattle.std.proofs.Common.{◌∙◌, arith}
use Prim.Native.Nat.{ℕ, zero, suc, ◌+◌, ◌≤◌, ◌<◌}
use Rattle.std.proofs.Math.Nat.{pow-zero}
use Rattle.algebra.specs.Fold.{fold}
use Rattle.algebra.specs.FoldLaws.{fold_zero, fold_next, fold_cong}
use Rattle.lists.specs.Tests.{pick}
use Rattle.lists.specs.TestLaws.{no_both}
use Rattle.field.specs.declared.Element.{Element}
use Rattle.field.specs.Definitions.{Below, IsElement, identity, product, raise, powered}
use Rattle.field.proofs.ElementLaws.{identity_below, product_below, product_one, raise_power}
use Rattle.protocol.specs.Transcript.{exponent, coefficient, product_over}

-- ---- products

-- by the set's members among the dealers and their values alone
pub product_over_cong : (n : ℕ) (s z : ℕ → Bool) (f g : ℕ → Element)
    → ((i : ℕ) → 0 < i → i ≤ n → s i ≡ z i)
    → ((i : ℕ) → 0 < i → i ≤ n → s i ≡ true → f i ≡ g i)
    → product_over n s f ≡ product_over n z g
unfolding product_over
product_over_cong n s z f g same values =
    fold_cong product identity n (λ i l. go i l (s (i + 1)) (z (i + 1)) refl (same (i + 1) (omega arith) (omega arith)))
  where
    go : (i : ℕ) → i < n → (b c : Bool) → s (i + 1) ≡ b → s (i + 1) ≡ c → pick b (f (i + 1)) identity ≡ pick c (g (i + 1)) identity
    go i l true true e d = values (i + 1) (omega arith) (omega arith) e
    go i l true false e d = absurd (no_both e d)
    go i l false true e d = absurd (no_both d e)
    go i l false false e d = refl

module _ (set : ℕ → Bool) (f : ℕ → Element) where
  pub product_over_none : product_over 0 set f ≡ identity
  unfolding product_over
  product_over_none = fold_zero product identity _

  product_next : (n : ℕ) → product_over (n + 1) set f ≡ product (product_over n set f) (pick (set (n + 1)) (f (n + 1)) identity)
  unfolding product_over
  product_next n = fold_next product identity n _

  pub product_over_below : (n : ℕ) → Below (product_over n set f)
  unfolding product_over fold
  product_over_below zero = identity_below
  product_over_below (suc n) = product_below _ _

  -- a dealer that is not in the set
  pub product_over_skip : (n : ℕ) → set (n + 1) ≡ false → product_over (n + 1) set f ≡ product_over n set f
  product_over_skip n e = product_next n ∙ rw e (product_one _ (product_over_below n))

  -- one that is
  pub product_over_take : (n : ℕ) → set (n + 1) ≡ true → product_over (n + 1) set f ≡ product (product_over n set f) (f (n + 1))
  product_over_take n e = product_next n ∙ rw e

-- ---- exponents

pub exponent_first : (i : ℕ) → exponent i 1 ≡ 1
unfolding exponent
exponent_first i = pow-zero i

-- an element to the scalar i^(u-1) is that to the whole number
pub raise_coefficient : (v : Element) → IsElement v → (i u : ℕ) → raise v (coefficient i u) ≡ powered v (exponent i u)
unfolding coefficient exponent
raise_coefficient v h i u = raise_power v h i _
