-- An honest holder's response numbers pass. Assumes nothing.
use Rattle.std.specs.Prelude.{◌≡◌, refl, true, false, List, get_or}
use Rattle.std.proofs.Math.Path.{ap, ap₂}
use Rattle.std.proofs.Common.{◌∙◌, arith}
use Rattle.std.proofs.Math.Bool.{Bool}
use Prim.Native.Nat.{ℕ, ◌+◌, ◌-◌, ◌<◌}
use Rattle.algebra.specs.FoldLaws.{fold_cong, fold_hom}
use Rattle.lists.specs.Tests.{pick}
use Rattle.field.specs.declared.Scalar.{Scalar}
use Rattle.field.specs.declared.Element.{Element}
use Rattle.field.specs.Definitions.{scalar, identity, generator, plus, times, product, raise, powered}
use Rattle.field.proofs.ScalarLaws.{times_comm}
use Rattle.field.proofs.ElementLaws.{generator_element, raise_element, raise_zero, raise_plus, raise_times, same_is, is_same}
use Rattle.interpolation.specs.Definitions.{party}
use Rattle.protocol.specs.Transcript.{Transcript, dealing_at, valid_share, coefficient, exponent, key_at, product_over, combined_at, challenge_at, response_at, passes, dealer_factor}
use Rattle.protocol.proofs.ProductLaws.{raise_coefficient}
use Rattle.writers.specs.Writers.{ValidShares, combined_share}

valid_is : (t a : ℕ) (values : ℕ → Element) (j : ℕ) (share : Scalar) → valid_share t a values j share ≡ true → raise generator share ≡ dealing_at t a values (party j)
unfolding valid_share
valid_is t a values j share e = same_is _ _ e

-- 4^(x y) = (4^y)^x
power_times : (x y : Scalar) → raise generator (times x y) ≡ raise (raise generator y) x
power_times x y = ap (raise generator) (times_comm x y) ∙ raise_times generator generator_element y x

module _ (w : Transcript) (j : ℕ) (shares : List ℕ) where
  -- 4^H_u(j) = C_u(j)
  combined_is : ValidShares w j shares → (u : ℕ) → raise generator (combined_share w.n w.qual shares u) ≡ combined_at w u (party j)
  unfolding combined_share combined_at product_over dealer_factor
  combined_is right u =
      fold_hom plus (scalar 0) product identity (raise generator) (raise_zero generator) (raise_plus generator generator_element) w.n (λ i. part i (w.qual (i + 1)))
      ∙ fold_cong product identity w.n (λ i l. go i l (w.qual (i + 1)) (λ e. e))
    where
      part : ℕ → Bool → Scalar
      part i b = pick b (times (coefficient (i + 1) u) (scalar (get_or shares i 0))) (scalar 0)

      go : (i : ℕ) → i < w.n → (b : Bool) → (b ≡ true → w.qual (i + 1) ≡ true)
          → raise generator (part i b) ≡ pick b (dealer_factor w u (party j) (i + 1)) identity
      go i l true e =
          let place : i + 1 - 1 ≡ i = omega arith in
          power_times (coefficient (i + 1) u) (scalar (get_or shares i 0))
          ∙ raise_coefficient (raise generator (scalar (get_or shares i 0))) (raise_element generator _ generator_element) (i + 1) u
          ∙ ap (λ (v : Element). powered v (exponent (i + 1) u)) (valid_is w.t w.a (w.commitment (i + 1)) j (scalar (get_or shares i 0)) (rw place at (right (i + 1) (omega arith) (omega arith) (e refl))))
      go i l false e = raise_zero generator

  -- 4^(H_u(j) + E_u(j) × F(j)) = C_u(j) × S_j^E_u(j)
  pub number_passes : ValidShares w j shares → (key : ℕ) → raise generator (scalar key) ≡ key_at w.t w.a w.key (party j)
      → (u : ℕ) → passes w u j (plus (combined_share w.n w.qual shares u) (times (challenge_at w u (party j)) (scalar key))) ≡ true
  unfolding passes response_at
  number_passes right key own u =
      is_same _ _
      (raise_plus generator generator_element _ _
      ∙ ap₂ product (combined_is right u) (power_times (challenge_at w u (party j)) (scalar key) ∙ ap (λ (v : Element). raise v (challenge_at w u (party j))) own))
