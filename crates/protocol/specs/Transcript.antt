-- What the public values of a committee come to (document 01, "Points and weights"; the shift is of document 02, request 2.1, the number m of dealings of request 2.5).
use Rattle.std.specs.Prelude.{ℕ, ◌+◌, ◌-◌, ◌^◌, Bool}
use Rattle.algebra.specs.Fold.{fold}
use Rattle.lists.specs.Tests.{pick}
use Rattle.field.specs.declared.Scalar.{Scalar}
use Rattle.field.specs.declared.Element.{Element}
use Rattle.field.specs.Definitions.{scalar, identity, generator, same_element, power, product, powered, raise}
use Rattle.interpolation.specs.Definitions.{party, slot, committed_point, scalar_at, element_at}
use Rattle.parameters.specs.Definitions.{quorum}

-- m is the number of dealings; key 0 is S and key j is S_j; commitment i v is V(v + 1 - a) of dealer i; challenge u k is e(u,k); shift is δ
pub record Transcript : Type 0 where
  pub n : ℕ
  pub t : ℕ
  pub a : ℕ
  pub m : ℕ
  pub key : ℕ → Element
  pub qual : ℕ → Bool
  pub commitment : ℕ → ℕ → Element
  pub challenge : ℕ → ℕ → Scalar
  pub shift : Scalar

-- a dealing's committed values at x
unfoldable pub dealing_at : ℕ → ℕ → (ℕ → Element) → Scalar → Element
dealing_at t a values x = element_at (committed_point a) (quorum t a) values x

-- a share is valid (right, in document 01) for j: 4^share is what the committed values come to at j
unfoldable pub valid_share : ℕ → ℕ → (ℕ → Element) → ℕ → Scalar → Bool
valid_share t a values j share = same_element (raise generator share) (dealing_at t a values (party j))

-- S_x, from S at the points 1-a to 0 and S_1 to S_t
unfoldable pub key_at : ℕ → ℕ → (ℕ → Element) → Scalar → Element
key_at t a key x = element_at (committed_point a) (t + a) (λ v. key (v + 1 - a)) x

-- i^(u-1), i being the dealer's number: a whole number as an exponent, a scalar as a coefficient
unfoldable pub exponent : ℕ → ℕ → ℕ
exponent i u = i ^ (u - 1)

unfoldable pub coefficient : ℕ → ℕ → Scalar
coefficient i u = power (scalar i) (u - 1)

-- the product over a set of the dealers 1 to n
unfoldable pub product_over : ℕ → (ℕ → Bool) → (ℕ → Element) → Element
product_over n set f = fold product identity n (λ i. pick (set (i + 1)) (f (i + 1)) identity)

-- V × 4^δ
unfoldable pub shifted_element : Scalar → Element → Element
shifted_element shift v = product v (raise generator shift)

module _ (w : Transcript) where
  -- dealer i's factor of C_u(x): C_i(x)^(i^(u-1)), i being the dealer's number
  unfoldable pub dealer_factor : ℕ → Scalar → ℕ → Element
  dealer_factor u x i = powered (dealing_at w.t w.a (w.commitment i) x) (exponent i u)

  -- C_u(x): the product over QUAL of the dealers' factors
  unfoldable pub combined_at : ℕ → Scalar → Element
  combined_at u x = product_over w.n w.qual (dealer_factor u x)

  -- R(u,k), before the shift
  unfoldable pub nonce : ℕ → ℕ → Element
  nonce u k = combined_at u (slot k)

  -- R(u,k) × 4^δ: what is printed for R(u,k)
  unfoldable pub shifted_nonce : ℕ → ℕ → Element
  shifted_nonce u k = shifted_element w.shift (nonce u k)

  -- E_u(x): degree at most a-1, E_u(1-k) = e(u,k)
  unfoldable pub challenge_at : ℕ → Scalar → Scalar
  challenge_at u x = scalar_at (λ v. slot (v + 1)) w.a (λ v. w.challenge u (v + 1)) x

  -- C_u(x) × S_x^E_u(x): what 4^number is where a response number passes
  unfoldable pub response_at : ℕ → Scalar → Element
  response_at u x = product (combined_at u x) (raise (key_at w.t w.a w.key x) (challenge_at u x))

  -- the response number of j for u passes
  unfoldable pub passes : ℕ → ℕ → Scalar → Bool
  passes u j number = same_element (raise generator number) (response_at u (party j))
