-- A commutative ring, its two monoids, and the laws that the other files use. Assumes nothing.
use Rattle.std.specs.Prelude.{◌≡◌}
use Rattle.std.proofs.Math.Path.{sym, ap}
use Rattle.std.proofs.Common.{◌∙◌}
use Rattle.algebra.specs.FoldLaws.{CommMonoid, left_comm}

-- a commutative ring: its operations and their laws
pub record CommRing (A : Type 0) : Type 0 where
  pub add : A → A → A
  pub mul : A → A → A
  pub neg : A → A
  pub zero : A
  pub one : A
  pub add_assoc : (a b c : A) → add (add a b) c ≡ add a (add b c)
  pub add_comm : (a b : A) → add a b ≡ add b a
  pub add_zero : (a : A) → add a zero ≡ a
  pub add_neg : (a : A) → add a (neg a) ≡ zero
  pub mul_assoc : (a b c : A) → mul (mul a b) c ≡ mul a (mul b c)
  pub mul_comm : (a b : A) → mul a b ≡ mul b a
  pub mul_one : (a : A) → mul a one ≡ a
  pub mul_add : (a b c : A) → mul a (add b c) ≡ add (mul a b) (mul a c)

module _ {A : Type 0} (R : CommRing A) where
  open R use {add as ◌⊕◌, mul as ◌⊗◌, neg, zero as 𝟘, one as 𝟙, add_assoc, add_comm, add_zero, add_neg, mul_assoc, mul_comm, mul_one, mul_add}

  infixl 60 ◌⊕◌
  infixl 70 ◌⊗◌
  -- under addition, and under multiplication
  abbrev pub Sum : CommMonoid A
  Sum = record { op = ◌⊕◌; unit = 𝟘; assoc = R.add_assoc; comm = R.add_comm; op_unit = R.add_zero }

  abbrev pub Prod : CommMonoid A
  Prod = record { op = ◌⊗◌; unit = 𝟙; assoc = R.mul_assoc; comm = R.mul_comm; op_unit = R.mul_one }

  pub zero_add : (a : A) → 𝟘 ⊕ a ≡ a
  zero_add a = add_comm 𝟘 a ∙ add_zero a

  pub add_left_comm : (a b c : A) → a ⊕ (b ⊕ c) ≡ b ⊕ (a ⊕ c)
  add_left_comm = left_comm Sum

  pub mul_left_comm : (a b c : A) → a ⊗ (b ⊗ c) ≡ b ⊗ (a ⊗ c)
  mul_left_comm = left_comm Prod

  pub one_mul : (a : A) → 𝟙 ⊗ a ≡ a
  one_mul a = mul_comm 𝟙 a ∙ mul_one a

  pub add_mul : (a b c : A) → (a ⊕ b) ⊗ c ≡ a ⊗ c ⊕ b ⊗ c
  add_mul a b c = simp (mul_comm, mul_add)

  pub add_cancel : {a b : A} (c : A) → a ⊕ c ≡ b ⊕ c → a ≡ b
  add_cancel {a} {b} c h = sym (undo a) ∙ ap (λ t. t ⊕ neg c) h ∙ undo b
    where
      undo : (x : A) → x ⊕ c ⊕ neg c ≡ x
      undo x = add_assoc x c (neg c) ∙ ap (λ t. x ⊕ t) (add_neg c) ∙ add_zero x

  pub mul_zero : (a : A) → a ⊗ 𝟘 ≡ 𝟘
  mul_zero a = add_cancel (a ⊗ 𝟘) (sym (mul_add a 𝟘 𝟘) ∙ ap (λ t. a ⊗ t) (add_zero 𝟘) ∙ sym (zero_add (a ⊗ 𝟘)))

  pub zero_mul : (a : A) → 𝟘 ⊗ a ≡ 𝟘
  zero_mul a = mul_comm 𝟘 a ∙ mul_zero a

  -- the difference
  unfoldable pub sub : A → A → A
  sub a b = a ⊕ neg b

  pub sub_self : (a : A) → sub a a ≡ 𝟘
  unfolding sub
  sub_self = add_neg

  pub eq_of_sub : {a b : A} → sub a b ≡ 𝟘 → a ≡ b
  unfolding sub
  eq_of_sub {b = b} h = add_cancel (neg b) (h ∙ sym (add_neg b))

  pub add_sub : (a b : A) → a ⊕ sub b a ≡ b
  unfolding sub
  add_sub a b = add_left_comm a b (neg a) ∙ ap (λ t. b ⊕ t) (add_neg a) ∙ add_zero b

  -- a difference written as a multiple
  pub minus_self : (a : A) → a ⊕ neg 𝟙 ⊗ a ≡ 𝟘
  minus_self a = ap (λ t. t ⊕ neg 𝟙 ⊗ a) (sym (one_mul a)) ∙ sym (add_mul 𝟙 (neg 𝟙) a) ∙ ap (λ t. t ⊗ a) (add_neg 𝟙) ∙ zero_mul a

  -- a product that is zero, of which one factor has an inverse
  pub unit_cancel : {a a⁻ b : A} → a ⊗ a⁻ ≡ 𝟙 → a ⊗ b ≡ 𝟘 → b ≡ 𝟘
  unit_cancel {a} {a⁻} {b} u h =
      sym (one_mul b) ∙ ap (λ t. t ⊗ b) (sym u ∙ mul_comm a a⁻) ∙ mul_assoc a⁻ a b ∙ ap (λ t. a⁻ ⊗ t) h ∙ mul_zero a⁻
