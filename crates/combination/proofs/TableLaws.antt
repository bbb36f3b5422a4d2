-- What stands in the array of combined values. Assumes nothing.
use Rattle.std.specs.Prelude.{◌≡◌, ◌⊎◌, length, replicate}
use Rattle.std.proofs.Math.Path.{refl, ap}
use Rattle.std.proofs.Common.{sym, ◌∙◌, inl, inr, add-one, arith}
use Rattle.std.proofs.Math.Logic.{⊎_elim}
use mathlib.Core.List.{List}
use Prim.Native.Nat.{ℕ, zero, suc, ◌+◌, ◌*◌, ◌-◌, ◌≤◌, ◌<◌}
use Rattle.std.proofs.Math.Decide.{dec_lt}
use Rattle.std.proofs.Math.ListN.{get_or}
use Rattle.lists.specs.Stores.{stored, filled}
use Rattle.lists.specs.StoreLaws.{length_stored, length_filled, stored_at, stored_other, get_d_default}
use Rattle.sets.specs.Masks.{has}
use Rattle.field.specs.declared.Element.{Element}
use Rattle.field.specs.Definitions.{identity}
use Rattle.parameters.specs.Definitions.{most_parties, stride, places}
use Rattle.combination.specs.Combination.{powers_at}
use Rattle.combination.proofs.PowerLaws.{combined_powers}
use Rattle.combination.specs.Tables.{values_at, table_to}

module _ (n qual quorum : ℕ) (list : List Element) where
  -- u by u, as a loop counts
  pub table_none : replicate places identity ≡ table_to n qual quorum list 0
  unfolding table_to filled
  table_none = refl

  table_next : (k : ℕ) {values row : List Element} → values ≡ table_to n qual quorum list k → row ≡ values_at n qual quorum list (k + 1)
      → stored values (k * stride) stride (λ v. get_or row v identity) ≡ table_to n qual quorum list (k + 1)
  unfolding table_to
  table_next k {values} {row} e f =
      ap (λ (t : List Element). stored t (k * stride) stride (λ v. get_or row v identity)) e
      ∙ ap (λ (t : List Element). stored (table_to n qual quorum list k) (k * stride) stride (λ v. get_or t v identity)) f
      ∙ ap (table_to n qual quorum list) (sym (add-one k))

  -- from the powers for the next u
  pub table_more : (k : ℕ) {values powers : List Element} → quorum ≤ stride → values ≡ table_to n qual quorum list k → powers ≡ powers_at n list k
      → stored values (k * stride) stride (λ v. get_or (values_at n qual quorum powers 1) v identity) ≡ table_to n qual quorum list (k + 1)
  table_more k l e p =
      let same : k ≡ k + 1 - 1 = omega arith in
      table_next k e (combined_powers n (has qual) list (k + 1) quorum l same p refl)

  table_length : (k : ℕ) → length (table_to n qual quorum list k) ≡ places
  unfolding table_to
  table_length zero = length_filled places identity
  table_length (suc k) = length_stored (table_to n qual quorum list k) _ _ _ ∙ table_length k

  -- what stands at a place: for u + 1 value v
  table_at : (k u v : ℕ) → u < most_parties → u < k → v < stride
      → get_or (table_to n qual quorum list k) (u * stride + v) identity ≡ get_or (values_at n qual quorum list (u + 1)) v identity
  unfolding table_to
  table_at zero u v h l w = absurd (omega arith)
  table_at (suc k) u v h l w = ⊎_elim (λ p. before (table_at k u v h p w) p) last (split (dec_lt u k))
    where
      row : ℕ → Element
      row i = get_or (values_at n qual quorum list (k + 1)) i identity

      split : Dec (u < k) → (u < k) ⊎ (u ≡ k)
      split (yes p) = inl p
      split (no p) = inr (omega arith)

      before : get_or (table_to n qual quorum list k) (u * stride + v) identity ≡ get_or (values_at n qual quorum list (u + 1)) v identity → u < k
          → get_or (stored (table_to n qual quorum list k) (k * stride) stride row) (u * stride + v) identity ≡ get_or (values_at n qual quorum list (u + 1)) v identity
      before e p = stored_other (table_to n qual quorum list k) (k * stride) stride row identity (u * stride + v) (λ i j f. omega (arith, f)) ∙ e

      last : u ≡ k → get_or (stored (table_to n qual quorum list k) (k * stride) stride row) (u * stride + v) identity ≡ get_or (values_at n qual quorum list (u + 1)) v identity
      last e =
          let place : u * stride + v ≡ k * stride + v = omega arith in
          ap (λ (p : ℕ). get_or (stored (table_to n qual quorum list k) (k * stride) stride row) p identity) place
          ∙ stored_at (table_to n qual quorum list k) (k * stride) stride row identity (omega (arith, table_length k)) v w
          ∙ ap (λ (x : ℕ). get_or (values_at n qual quorum list (x + 1)) v identity) (sym e)

  -- the same of values at hand, read with any default
  pub value_at : (k : ℕ) {values : List Element} → values ≡ table_to n qual quorum list k → (u v : ℕ) (d : Element) → u < most_parties → u < k → v < stride
      → get_or values (u * stride + v) d ≡ get_or (values_at n qual quorum list (u + 1)) v identity
  value_at k {values} e u v d h l w =
      get_d_default values (u * stride + v) d identity (omega (arith, ap length e, table_length k))
      ∙ ap (λ (x : List Element). get_or x (u * stride + v) identity) e
      ∙ table_at k u v h l w
