-- Transcripts that are alike have as many signatures, and the same nonce commitments, shifted or not. Assumes nothing.
use Rattle.std.specs.Prelude.{◌≡◌, refl, true, ℕ, ◌≤◌, ◌<◌}
use Rattle.std.proofs.Math.Path.{ap, ap₂}
use Rattle.std.proofs.Common.{◌∙◌}
use Rattle.field.specs.declared.Scalar.{Scalar}
use Rattle.field.specs.declared.Element.{Element}
use Rattle.field.specs.Definitions.{powered}
use Rattle.interpolation.specs.Definitions.{slot, committed_point, element_at}
use Rattle.interpolation.proofs.WeightLaws.{element_at_cong}
use Rattle.parameters.specs.Definitions.{quorum, batch}
use Rattle.protocol.specs.Transcript.{Transcript, dealing_at, exponent, product_over, combined_at, nonce, shifted_element, shifted_nonce, dealer_factor}
use Rattle.protocol.proofs.ProductLaws.{product_over_cong}
use Rattle.protocol.specs.Alike.{Alike}

-- what dealers outside QUAL committed to is free
pub alike_outside : (w : Transcript) (other : ℕ → ℕ → Element) → ((i v : ℕ) → w.qual i ≡ true → w.commitment i v ≡ other i v)
    → Alike w (record { n = w.n; t = w.t; a = w.a; m = w.m; key = w.key; qual = w.qual; commitment = other; challenge = w.challenge; shift = w.shift })
alike_outside w other h =
    record {
      n_same = refl;
      t_same = refl;
      a_same = refl;
      m_same = refl;
      key_same = λ j l. refl;
      qual_same = λ i p l. refl;
      commitment_same = λ i v p l e c. h i v e;
      challenge_same = λ u k p l x y. refl;
      shift_same = refl;
    }

module _ (w z : Transcript) (h : Alike w z) where
  -- b is the same
  pub batch_same : batch w.m w.t ≡ batch z.m z.t
  batch_same = ap₂ batch h.m_same h.t_same

  dealing_same : (i : ℕ) (x : Scalar) → 0 < i → i ≤ w.n → w.qual i ≡ true → dealing_at w.t w.a (w.commitment i) x ≡ dealing_at z.t z.a (z.commitment i) x
  unfolding dealing_at
  dealing_same i x p l e =
      element_at_cong (committed_point w.a) (committed_point w.a) (quorum w.t w.a) (w.commitment i) (z.commitment i) x
      (λ v k. refl) (λ v k. h.commitment_same i v p l e k)
      ∙ ap₂ (λ (t a : ℕ). element_at (committed_point a) (quorum t a) (z.commitment i) x) h.t_same h.a_same

  factor_same : (u : ℕ) (x : Scalar) (i : ℕ) → 0 < i → i ≤ w.n → w.qual i ≡ true → dealer_factor w u x i ≡ dealer_factor z u x i
  unfolding dealer_factor
  factor_same u x i p l e = ap (λ (v : Element). powered v (exponent i u)) (dealing_same i x p l e)

  combined_same : (u : ℕ) (x : Scalar) → combined_at w u x ≡ combined_at z u x
  unfolding combined_at
  combined_same u x =
      product_over_cong w.n w.qual z.qual (dealer_factor w u x) (dealer_factor z u x) h.qual_same (factor_same u x)
      ∙ ap (λ (n : ℕ). product_over n z.qual (dealer_factor z u x)) h.n_same

  pub nonce_same : (u k : ℕ) → nonce w u k ≡ nonce z u k
  unfolding nonce
  nonce_same u k = combined_same u (slot k)

  pub shifted_same : (u k : ℕ) → shifted_nonce w u k ≡ shifted_nonce z u k
  unfolding shifted_nonce
  shifted_same u k = ap₂ shifted_element h.shift_same (nonce_same u k)
