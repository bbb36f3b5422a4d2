-- The committed values combined for u, from their powers raised step by step. Assumes nothing.
use Rattle.std.specs.Prelude.{◌≡◌, refl, Bool, ◌⊎◌, ℕ, zero, suc, ◌+◌, ◌*◌, ◌-◌, ◌/◌, ◌^◌, ◌≤◌, ◌<◌, min, length, get_or}
use Rattle.std.proofs.Common.{sym, ◌∙◌, inl, inr, pow-suc, add-one, arith}
use Rattle.std.proofs.Math.Path.{ap}
use mathlib.Core.List.{List}
use Rattle.std.proofs.Math.Nat.{pow-zero}
use Rattle.std.proofs.Math.Decide.{dec_lt}
use Rattle.std.proofs.Math.ListN.{get_or-eq_default}
use Rattle.lists.specs.Stores.{stored, filled}
use Rattle.lists.specs.StoreLaws.{length_stored, stored_from, stored_capped, stored_cong}
use Rattle.field.specs.declared.Element.{Element}
use Rattle.field.specs.Definitions.{identity, powered}
use Rattle.field.proofs.ElementLaws.{identity_powered, powered_powered, powered_swap}
use Rattle.rows.specs.Definitions.{most_scalars}
use Rattle.parameters.specs.Definitions.{stride}
use Rattle.protocol.specs.Transcript.{exponent}
use Rattle.protocol.proofs.ProductLaws.{product_over_cong, exponent_first}
use Rattle.arrays.specs.Arrays.{base, commitment_in, elements}
use Rattle.combination.specs.Combination.{combined_value, raised, powers_at}

-- one step more, as a loop counts
pub powers_none : (n : ℕ) (list : List Element) → list ≡ powers_at n list 0
unfolding powers_at
powers_none n list = refl

pub powers_next : (n : ℕ) (list : List Element) (u : ℕ) {powers next : List Element} → powers ≡ powers_at n list u → next ≡ raised n powers → next ≡ powers_at n list (u + 1)
unfolding powers_at
powers_next n list u e f = f ∙ ap (raised n) e ∙ ap (powers_at n list) (sym (add-one u))

-- the powers for u + 1 from those for u, which are raised but for the first
pub powers_for : (n : ℕ) (list : List Element) (u : ℕ) {powers next : List Element} → powers ≡ powers_at n list (u - 1)
    → ((0 < u) × (next ≡ raised n powers)) ⊎ ((u ≤ 0) × (next ≡ powers)) → next ≡ powers_at n list u
powers_for n list u e (inl (l, f)) =
    let before : u - 1 + 1 ≡ u = omega arith in
    powers_next n list (u - 1) e f ∙ ap (powers_at n list) before
powers_for n list u e (inr (l, f)) =
    let none : u - 1 ≡ u = omega arith in
    f ∙ e ∙ ap (powers_at n list) none

-- a value to the power of its dealer's number, past the array's end too
raised_get_or : (n : ℕ) (list : List Element) (p : ℕ) → p < n * stride → get_or (raised n list) p identity ≡ powered (get_or list p identity) (p / stride + 1)
unfolding raised
raised_get_or n list p l = ap (λ (r : List Element). get_or r p identity) (sym (stored_capped list (n * stride) f)) ∙ go (dec_lt p (length list))
  where
    f : ℕ → Element
    f k = powered (get_or list k identity) (k / stride + 1)

    go : Dec (p < length list) → get_or (stored list 0 (min (n * stride) (length list)) f) p identity ≡ f p
    go (yes h) = stored_from list (min (n * stride) (length list)) f identity (omega arith) p (omega arith)
    go (no h) =
        get_or-eq_default (stored list 0 (min (n * stride) (length list)) f) identity {n = p} (omega (arith, length_stored list 0 (min (n * stride) (length list)) f))
        ∙ sym (ap (λ (v : Element). powered v (p / stride + 1)) (get_or-eq_default list identity {n = p} (omega arith)) ∙ identity_powered (p / stride + 1))

raised_at : (n : ℕ) (list : List Element) (i v : ℕ) → 0 < i → i ≤ n → v < stride → commitment_in (raised n list) i v ≡ powered (commitment_in list i v) i
unfolding base
raised_at n list i v p l h =
    let number : (base i + v) / stride + 1 ≡ i = omega arith in
    raised_get_or n list (base i + v) (omega arith) ∙ ap (powered (commitment_in list i v)) number

-- and after u of them, modulo P
power_at : (n : ℕ) (list : List Element) (i v : ℕ) → 0 < i → i ≤ n → v < stride → (u : ℕ)
    → powered (commitment_in (powers_at n list u) i v) 1 ≡ powered (commitment_in list i v) (i ^ u)
unfolding powers_at
power_at n list i v p l h zero = ap (powered (commitment_in list i v)) (sym (pow-zero i))
power_at n list i v p l h (suc u) =
    ap (λ (w : Element). powered w 1) (raised_at n (powers_at n list u) i v p l h)
    ∙ powered_swap (commitment_in (powers_at n list u) i v) i 1
    ∙ ap (λ (w : Element). powered w i) (power_at n list i v p l h u)
    ∙ powered_powered (commitment_in list i v) (i ^ u) i
    ∙ ap (powered (commitment_in list i v)) (sym (pow-suc i u))

-- combined for the u whose powers these are
module _ (n : ℕ) (qual : ℕ → Bool) (list : List Element) (u : ℕ) where
  combined_power : (v : ℕ) → v < stride → combined_value n qual (commitment_in (powers_at n list (u - 1))) 1 v ≡ combined_value n qual (commitment_in list) u v
  unfolding combined_value exponent
  combined_power v h =
      product_over_cong n qual qual _ _ (λ i p l. refl)
      (λ i p l e. ap (powered (commitment_in (powers_at n list (u - 1)) i v)) (exponent_first i) ∙ power_at n list i v p l h (u - 1))

  pub combined_powers : (m : ℕ) {k : ℕ} {powers values : List Element} → m ≤ stride → k ≡ u - 1 → powers ≡ powers_at n list k
      → values ≡ elements m (combined_value n qual (commitment_in powers) 1)
      → values ≡ elements m (combined_value n qual (commitment_in list) u)
  unfolding elements
  combined_powers m h c p e =
      e ∙ ap (λ (l : List Element). elements m (combined_value n qual (commitment_in l) 1)) (p ∙ ap (powers_at n list) c)
      ∙ stored_cong (filled most_scalars identity) 0 m _ _ (λ v l. combined_power v (omega arith))
