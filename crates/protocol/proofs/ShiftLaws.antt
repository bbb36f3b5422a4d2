-- The shift moves R(u,k) by 4^δ and φ by δ, and so keeps the signature equation; a shift of 0 moves nothing. Assumes nothing.
use Rattle.std.specs.Prelude.{◌≡◌, ℕ}
use Rattle.std.proofs.Math.Path.{sym, ap}
use Rattle.std.proofs.Common.{◌∙◌}
use Rattle.field.specs.declared.Scalar.{Scalar}
use Rattle.field.specs.declared.Element.{Element}
use Rattle.field.specs.Definitions.{scalar, generator, plus, product, raise}
use Rattle.field.proofs.ElementLaws.{generator_element, product_assoc, product_comm, product_one, raise_plus, raise_zero}
use Rattle.protocol.specs.Transcript.{Transcript, combined_at, nonce, shifted_element, shifted_nonce}
use Rattle.protocol.proofs.ProductLaws.{product_over_below}

module _ (w : Transcript) (u k : ℕ) where
  -- 4^φ = R × V gives 4^(φ + δ) = (R × 4^δ) × V
  pub shift_verifies : (phi : Scalar) (v : Element) → raise generator phi ≡ product (nonce w u k) v → raise generator (plus phi w.shift) ≡ product (shifted_nonce w u k) v
  unfolding shifted_nonce shifted_element
  shift_verifies phi v e =
      let r = nonce w u k in
      let d = raise generator w.shift in
      raise_plus generator generator_element phi w.shift
      ∙ ap (λ (x : Element). product x d) e
      ∙ product_assoc r v d
      ∙ ap (product r) (product_comm v d)
      ∙ sym (product_assoc r d v)

  -- with a shift of 0, R(u,k) itself
  pub shift_none : w.shift ≡ scalar 0 → shifted_nonce w u k ≡ nonce w u k
  unfolding shifted_nonce shifted_element nonce combined_at
  shift_none e =
      ap (λ (d : Scalar). shifted_element d (nonce w u k)) e
      ∙ ap (product (nonce w u k)) (raise_zero generator)
      ∙ product_one (nonce w u k) (product_over_below _ _ _)
