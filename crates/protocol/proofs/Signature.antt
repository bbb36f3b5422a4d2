-- Response numbers that pass, from `need` different holders, interpolate to a number that satisfies the signature equation. Assumes nothing.
-- C_u(x) × S_x^E_u(x) is a product of elements raised to polynomials of degree below need, so it is interpolated exactly.
use Rattle.std.specs.Prelude.{◌≡◌, refl, ◌≢◌, true, ℕ, ◌+◌, ◌-◌, ◌≤◌, ◌<◌}
use Rattle.std.proofs.Common.{sym, subst, ◌∙◌}
use Rattle.std.proofs.Math.Path.{ap, ap₂}
use native.Mathlib.Omega.{arith}
use Rattle.field.specs.declared.Scalar.{Scalar}
use Rattle.field.specs.declared.Element.{Element}
use Rattle.field.specs.Definitions.{generator, IsElement, product, raise}
use Rattle.field.proofs.ElementLaws.{generator_element, raise_reduced}
use Rattle.interpolation.specs.Definitions.{party, slot, committed_point, scalar_at}
use Rattle.interpolation.proofs.PointLaws.{committed_distinct, slots_distinct, parties_distinct, slot_committed, element_at_point, scalar_at_reduced, raise_scalar_at}
use Rattle.interpolation.proofs.PolynomialLaws.{polynomial_interpolated}
use Rattle.interpolation.proofs.ExponentialLaws.{Exponential, exponential_wider, exponential_interpolated, exponential_product, exponential_raise, exponential_powered, exponential_pick, exponential_fold, exact_elements}
use Rattle.interpolation.proofs.WeightLaws.{element_at_cong}
use Rattle.parameters.specs.Definitions.{quorum}
use Rattle.parameters.specs.ParameterLaws.{Bounds, quorum_is}
use Rattle.protocol.specs.Transcript.{Transcript, dealing_at, key_at, exponent, product_over, combined_at, nonce, challenge_at, response_at, dealer_factor}

-- what a run at stage 4 keeps: parameters within the bounds, a key and commitments of QUAL that are elements
pub record Sound (w : Transcript) : Type 0 where
  pub bounds : Bounds w.n w.t w.a
  pub keys : (j : ℕ) → j ≤ w.t → IsElement (w.key j)
  pub commitments : (i v : ℕ) → 0 < i → i ≤ w.n → w.qual i ≡ true → v < quorum w.t w.a → IsElement (w.commitment i v)

module _ (w : Transcript) (u : ℕ) (s : Sound w) where
  combined_exponential : Exponential (quorum w.t w.a) (combined_at w u)
  unfolding combined_at product_over dealer_factor dealing_at
  combined_exponential =
      exponential_fold w.n _ (λ i l. exponential_pick (w.qual (i + 1)) (λ e.
      exponential_powered
      (exponential_interpolated (committed_point w.a) (quorum w.t w.a) (w.commitment (i + 1)) (λ v k. s.commitments (i + 1) v (omega arith) (omega arith) e k))
      (exponent (i + 1) u)))

  key_exponential : Exponential (w.t + w.a) (key_at w.t w.a w.key)
  unfolding key_at
  key_exponential = exponential_interpolated _ (w.t + w.a) _ (λ v l. s.keys _ (omega arith))

  -- with need coefficients: a and t + a give t + 2a - 1
  response_exponential : Exponential (quorum w.t w.a) (response_at w u)
  unfolding response_at challenge_at
  response_exponential =
      exponential_product combined_exponential
      (exponential_wider (omega (arith, quorum_is s.bounds, s.bounds.a_pos))
      (exponential_raise key_exponential (polynomial_interpolated (λ v. slot (v + 1)) w.a _)))

  -- at a packed slot: S, and e(u,k)
  key_slot : (k : ℕ) → 0 < k → k ≤ w.a → key_at w.t w.a w.key (slot k) ≡ w.key 0
  unfolding key_at
  key_slot k p l =
      ap (key_at w.t w.a w.key) (slot_committed w.a k l)
      ∙ element_at_point (committed_point w.a) (w.t + w.a) (λ v. w.key (v + 1 - w.a)) (λ v h. s.keys (v + 1 - w.a) (omega arith))
      (committed_distinct w.a (w.t + w.a) (omega (arith, s.bounds.enough, s.bounds.n_max)) (omega (arith, s.bounds.enough, s.bounds.n_max)))
      (w.a - k) (omega (arith, s.bounds.t_pos))
      ∙ ap w.key (omega arith)

  response_slot : (k : ℕ) → 0 < k → k ≤ w.a → response_at w u (slot k) ≡ product (nonce w u k) (raise (w.key 0) (w.challenge u k))
  unfolding response_at nonce challenge_at
  response_slot k p l =
      ap₂ (λ (v : Element) (e : Scalar). product (combined_at w u (slot k)) (raise v e)) (key_slot k p l) challenge_slot
      ∙ ap (product (combined_at w u (slot k))) (raise_reduced (w.key 0) (s.keys 0 (omega arith)) (w.challenge u k))
    where
      last : k - 1 + 1 ≡ k
      last = omega arith

      challenge_slot : challenge_at w u (slot k) ≡ Rattle.field.specs.Definitions.reduced (w.challenge u k).0
      challenge_slot =
          ap (λ (z : ℕ). challenge_at w u (slot z)) (sym last)
          ∙ scalar_at_reduced (λ v. slot (v + 1)) w.a (λ v. w.challenge u (v + 1)) (slots_distinct w.a (omega (arith, s.bounds.enough, s.bounds.n_max))) (k - 1) (omega arith)
          ∙ ap (λ (z : ℕ). Rattle.field.specs.Definitions.reduced (w.challenge u z).0) last

  -- m numbers x i of different holders j i that pass: 4^(the numbers at 1-k) = R(u,k) × S^e(u,k)
  pub signature : (m : ℕ) → m ≡ quorum w.t w.a → (j : ℕ → ℕ) (x : ℕ → Scalar) → ((i : ℕ) → i < m → j i ≤ 255)
      → ((i l : ℕ) → i < m → l < m → i ≢ l → j i ≢ j l) → ((i : ℕ) → i < m → raise generator (x i) ≡ response_at w u (party (j i)))
      → (k : ℕ) → 0 < k → k ≤ w.a → raise generator (scalar_at (λ i. party (j i)) m x (slot k)) ≡ product (nonce w u k) (raise (w.key 0) (w.challenge u k))
  signature m e j x b d h k p l =
      raise_scalar_at generator generator_element (λ i. party (j i)) m x (slot k)
      ∙ element_at_cong (λ i. party (j i)) (λ i. party (j i)) m (λ i. raise generator (x i)) (λ i. response_at w u (party (j i))) (slot k) (λ i c. refl) h
      ∙ exact_elements (λ i. party (j i)) m (parties_distinct m j b d) (subst (λ (z : ℕ). Exponential z (response_at w u)) (sym e) response_exponential) (slot k)
      ∙ response_slot k p l
