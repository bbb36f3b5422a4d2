-- The laws of places (u,k) and of their cells, u outer. Assumes nothing.
use Rattle.std.specs.Prelude.{◌≡◌, true, ℕ, zero, suc, ◌+◌, ◌*◌, ◌-◌, ◌/◌, ◌%◌, ◌≤◌, ◌<◌}
use Rattle.std.proofs.Common.{ap, ◌∙◌, arith, add_comm, mod-eq_of_lt, mul-le-mul_left, mod-lt, div-lt_iff_lt-mul, leb-true}
use Rattle.std.proofs.Math.Bool.{and-eq-true_iff}
use Rattle.std.proofs.Math.Nat.{add-mul-div_right, add-mul-mod_self_right, div-eq_of_lt}
use Rattle.parameters.specs.Definitions.{batch}
use Rattle.protocol.specs.Transcript.{Transcript}
use Rattle.arrays.specs.Arrays.{cell}
use Rattle.promises.specs.Places.{Within, is_place}

pub within_same : (w z : Transcript) → batch w.m w.t ≡ batch z.m z.t → w.a ≡ z.a → (u k : ℕ) → Within w u k → Within z u k
within_same w z b a u k h = record { u_pos = h.u_pos; u_max = omega arith; k_pos = h.k_pos; k_max = omega arith }

pub place_of : (w : Transcript) (u k : ℕ) → is_place w u k ≡ true → Within w u k
unfolding is_place
place_of w u k e =
    let p = (and-eq-true_iff _ _).0 e in
    let x = (and-eq-true_iff _ _).0 p.0 in
    let y = (and-eq-true_iff _ _).0 p.1 in
    record { u_pos = leb-true _ _ x.0; u_max = leb-true _ _ x.1; k_pos = leb-true _ _ y.0; k_max = leb-true _ _ y.1 }

-- the place whose cell is x, of the a × b
pub place_at : (w : Transcript) (x : ℕ) → 0 < w.a → x < w.a * batch w.m w.t → Within w (x / w.a + 1) (x % w.a + 1)
place_at w x p l =
    let below : x / w.a < batch w.m w.t = (div-lt_iff_lt-mul {y = batch w.m w.t} p).1 (omega arith) in
    record { u_pos = omega arith; u_max = omega arith; k_pos = omega arith; k_max = omega (arith, mod-lt x p) }

-- the cell of (u,k) is among the a × b
pub cell_lt : (a b u k : ℕ) → 0 < u → u ≤ b → 0 < k → k ≤ a → cell a u k < a * b
unfolding cell
cell_lt a b zero k p l c d = absurd (omega arith)
cell_lt a b (suc u) k p l c d =
    let e : suc u - 1 ≡ u = omega arith in
    omega (arith, mul-le-mul_left a l, ap (λ (x : ℕ). x * a) e)

-- u back from the cell of (u,k), and k
pub cell_u : (a u k : ℕ) → 0 < u → 0 < k → k ≤ a → cell a u k / a + 1 ≡ u
unfolding cell
cell_u a u k p c d =
    let e : (k - 1 + (u - 1) * a) / a ≡ (k - 1) / a + (u - 1) = add-mul-div_right (k - 1) (u - 1) (omega arith) in
    let z : (k - 1) / a ≡ 0 = div-eq_of_lt (omega arith) in
    ap (λ (x : ℕ). x / a + 1) (add_comm ((u - 1) * a) (k - 1)) ∙ omega arith

pub cell_k : (a u k : ℕ) → 0 < k → k ≤ a → cell a u k % a + 1 ≡ k
unfolding cell
cell_k a u k c d =
    let e : (k - 1 + (u - 1) * a) % a ≡ (k - 1) % a = add-mul-mod_self_right (k - 1) (u - 1) a in
    let z : (k - 1) % a ≡ k - 1 = mod-eq_of_lt (omega arith) in
    ap (λ (x : ℕ). x % a + 1) (add_comm ((u - 1) * a) (k - 1)) ∙ omega arith
