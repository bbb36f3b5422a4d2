-- Laws of the parameters: the bounds and what follows from them. Assumes nothing.
use Rattle.std.specs.Prelude.{◌≡◌, refl, true, ℕ, ◌+◌, ◌*◌, ◌-◌, ◌≤◌, ◌<◌}
use Rattle.std.proofs.Math.Bool.{and-eq-true_iff}
use Rattle.std.proofs.Common.{arith, mul-le-mul, leb-true, le-leb}
use Rattle.parameters.specs.Definitions.{most_parties, cells, in_bounds, quorum, batch, is_party}

-- ---- the bounds

pub record Bounds (n t a : ℕ) : Type 0 where
  pub t_pos : 0 < t
  pub a_pos : 0 < a
  pub n_max : n ≤ most_parties
  pub enough : 3 * t + 2 * a ≤ n + 1

pub bounds_of : (n t a : ℕ) → in_bounds n t a ≡ true → Bounds n t a
unfolding in_bounds
bounds_of n t a e =
    let p = (and-eq-true_iff _ _).0 e in
    let q = (and-eq-true_iff _ _).0 p.1 in
    let r = (and-eq-true_iff _ _).0 q.1 in
    record { t_pos = leb-true 1 t p.0; a_pos = leb-true 1 a q.0; n_max = leb-true n most_parties r.0; enough = leb-true (3 * t + 2 * a) (n + 1) r.1 }

pub bounds_test : {n t a : ℕ} → Bounds n t a → in_bounds n t a ≡ true
unfolding in_bounds
bounds_test {n} {t} {a} b = rw (le-leb 1 t b.t_pos, le-leb 1 a b.a_pos, le-leb n most_parties b.n_max, le-leb (3 * t + 2 * a) (n + 1) b.enough)

-- a party's number is from 1 to n
pub party_of : (n i : ℕ) → is_party n i ≡ true → (0 < i) × (i ≤ n)
party_of n i e = let p = (and-eq-true_iff _ _).0 e in (leb-true 1 i p.0, leb-true i n p.1)

pub party_test : (n i : ℕ) → 0 < i → i ≤ n → is_party n i ≡ true
party_test n i p l = rw (le-leb 1 i p, le-leb i n l)

-- ---- numbers that follow from the parameters, within the bounds

pub quorum_is : {n t a : ℕ} → Bounds n t a → quorum t a ≡ t + 2 * a - 1
unfolding quorum
quorum_is b = refl

pub quorum_pos : {n t a : ℕ} → Bounds n t a → 0 < quorum t a
unfolding quorum
quorum_pos b = omega arith

pub quorum_max : {n t a : ℕ} → Bounds n t a → quorum t a + 2 ≤ most_parties
unfolding quorum
quorum_max b = omega arith

-- the points of the key
pub key_max : {n t a : ℕ} → Bounds n t a → t + a < most_parties
key_max b = omega arith

-- b with as many dealings as document 01 waits for
pub batch_least : (n t : ℕ) → batch (n - t) t ≡ n - 2 * t
unfolding batch
batch_least n t = omega arith

-- some signature, with that many dealings or more
pub batch_pos : {n t a m : ℕ} → Bounds n t a → n - t ≤ m → 0 < batch m t
unfolding batch
batch_pos b l = omega arith

pub batch_max : (m t : ℕ) → batch m t ≤ m
unfolding batch
batch_max m t = omega arith

-- the challenges: one for each slot and signature, of which there are no more than dealers
pub cells_max : {n t a b : ℕ} → Bounds n t a → b ≤ n → a * b ≤ cells
cells_max {n} {t} {a} {b} h l =
    let half : 2 * a ≤ most_parties = omega arith in
    let few : b ≤ most_parties = omega arith in
    omega (arith, mul-le-mul half few)
