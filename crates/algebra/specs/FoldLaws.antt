-- The laws of folds, in a commutative monoid too. Assumes nothing.
use Rattle.std.specs.Prelude.{◌≡◌, ◌≢◌}
use Rattle.std.proofs.Math.Path.{refl, sym, ap, ap₂}
use Rattle.std.proofs.Common.{◌∙◌, arith}
use Prim.Native.Nat.{ℕ, zero, suc, ◌+◌, ◌<◌}
use Rattle.std.proofs.Math.Decide.{ℕ_discrete}
use Rattle.std.proofs.Math.Numerals.{add-one}
use Rattle.algebra.specs.Fold.{fold}

module _ {A : Type 0} (op : A → A → A) (unit : A) where
  pub fold_zero : (f : ℕ → A) → fold op unit 0 f ≡ unit
  unfolding fold
  fold_zero f = refl

  -- one more turn of a loop
  pub fold_next : (n : ℕ) (f : ℕ → A) → fold op unit (n + 1) f ≡ op (fold op unit n f) (f n)
  unfolding fold
  fold_next n f = rw add-one

  -- of two functions that are equal below n
  pub fold_cong : (n : ℕ) {f g : ℕ → A} → ((i : ℕ) → i < n → f i ≡ g i) → fold op unit n f ≡ fold op unit n g
  unfolding fold
  fold_cong zero h = refl
  fold_cong (suc n) h = ap₂ op (fold_cong n (λ i l. h i (omega arith))) (h n (omega arith))

  -- a property of the unit that op keeps
  pub fold_keeps : (P : A → Type 0) → P unit → ((a b : A) → P a → P b → P (op a b))
      → (n : ℕ) {f : ℕ → A} → ((i : ℕ) → i < n → P (f i)) → P (fold op unit n f)
  unfolding fold
  fold_keeps P u k zero h = u
  fold_keeps P u k (suc n) {f} h = k (fold op unit n f) (f n) (fold_keeps P u k n (λ i l. h i (omega arith))) (h n (omega arith))

  -- one of them is z, which takes in whatever it is joined with
  pub fold_absorb : (z : A) → ((a : A) → op a z ≡ z) → ((a : A) → op z a ≡ z)
      → (n j : ℕ) (f : ℕ → A) → j < n → f j ≡ z → fold op unit n f ≡ z
  unfolding fold
  fold_absorb z az za zero j f l e = absurd (omega arith)
  fold_absorb z az za (suc n) j f l e = go (ℕ_discrete n j) (λ m. fold_absorb z az za n j f m e)
    where
      go : Dec (n ≡ j) → (j < n → fold op unit n f ≡ z) → op (fold op unit n f) (f n) ≡ z
      go (yes d) ih = ap (λ t. op (fold op unit n f) t) (ap f d ∙ e) ∙ az (fold op unit n f)
      go (no ne) ih = ap (λ t. op t (f n)) (ih (omega arith)) ∙ za (f n)

-- a map that takes one unit and operation to the other takes one fold to the other
pub fold_hom : {A B : Type 0} (op : A → A → A) (unit : A) (op' : B → B → B) (unit' : B) (h : A → B)
    → h unit ≡ unit' → ((a b : A) → h (op a b) ≡ op' (h a) (h b))
    → (n : ℕ) (f : ℕ → A) → h (fold op unit n f) ≡ fold op' unit' n (λ i. h (f i))
unfolding fold
fold_hom op unit op' unit' h u k zero f = u
fold_hom op unit op' unit' h u k (suc n) f = k (fold op unit n f) (f n) ∙ ap (λ t. op' t (h (f n))) (fold_hom op unit op' unit' h u k n f)

-- a commutative monoid: its operation, its unit and their laws
pub record CommMonoid (M : Type 0) : Type 0 where
  pub op : M → M → M
  pub unit : M
  pub assoc : (a b c : M) → op (op a b) c ≡ op a (op b c)
  pub comm : (a b : M) → op a b ≡ op b a
  pub op_unit : (a : M) → op a unit ≡ a

-- the product of f 0, .., f (n - 1)
abbrev pub big : {M : Type 0} → CommMonoid M → ℕ → (ℕ → M) → M
big 𝓜 n f = fold 𝓜.op 𝓜.unit n f

module _ {M : Type 0} (𝓜 : CommMonoid M) where
  open 𝓜 use {op as ◌∗◌, unit as 𝟙, assoc, comm, op_unit}

  infixl 70 ◌∗◌
  pub left_comm : (a b c : M) → a ∗ (b ∗ c) ≡ b ∗ (a ∗ c)
  left_comm a b c = sym (assoc a b c) ∙ ap (λ t. t ∗ c) (comm a b) ∙ assoc b a c

  -- all are units
  pub fold_units : (n : ℕ) {f : ℕ → M} → ((i : ℕ) → i < n → f i ≡ 𝟙) → big 𝓜 n f ≡ 𝟙
  fold_units n h = fold_keeps ◌∗◌ 𝟙 (λ a. a ≡ 𝟙) refl (λ a b p q. ap₂ ◌∗◌ p q ∙ op_unit 𝟙) n h

  -- all but one are units
  pub fold_one : (n j : ℕ) {f : ℕ → M} → j < n → ((i : ℕ) → i < n → i ≢ j → f i ≡ 𝟙) → big 𝓜 n f ≡ f j
  unfolding fold
  fold_one zero j l h = absurd (omega arith)
  fold_one (suc n) j {f} l h = go (ℕ_discrete n j) (λ m. fold_one n j m (λ i k. h i (omega arith)))
    where
      go : Dec (n ≡ j) → (j < n → big 𝓜 n f ≡ f j) → big 𝓜 n f ∗ f n ≡ f j
      go (yes e) ih = ap₂ ◌∗◌ (fold_units n (λ i k. h i (omega arith) (omega arith))) (ap f e) ∙ comm 𝟙 (f j) ∙ op_unit (f j)
      go (no ne) ih = ap₂ ◌∗◌ (ih (omega arith)) (h n (omega arith) ne) ∙ op_unit (f j)

  -- of the products f i ∗ g i
  pub fold_op : (n : ℕ) (f g : ℕ → M) → big 𝓜 n (λ i. f i ∗ g i) ≡ big 𝓜 n f ∗ big 𝓜 n g
  unfolding fold
  fold_op zero f g = sym (op_unit 𝟙)
  fold_op (suc n) f g =
      ap (λ t. t ∗ (f n ∗ g n)) (fold_op n f g) ∙ simp assoc (ap (λ t. big 𝓜 n f ∗ t) (left_comm (big 𝓜 n g) (f n) (g n)))

  -- rows first or columns first
  pub fold_swap : (n m : ℕ) (f : ℕ → ℕ → M) → big 𝓜 n (λ i. big 𝓜 m (λ j. f i j)) ≡ big 𝓜 m (λ j. big 𝓜 n (λ i. f i j))
  unfolding fold
  fold_swap zero m f = sym (fold_units m (λ i l. refl))
  fold_swap (suc n) m f =
      ap (λ t. t ∗ big 𝓜 m (λ j. f n j)) (fold_swap n m f) ∙ sym (fold_op m (λ j. big 𝓜 n (λ i. f i j)) (λ j. f n j))
