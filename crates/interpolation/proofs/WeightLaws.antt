-- The laws of weights: weights and interpolation go by the points and values alone, and a weight is one product of differences and one inverse.
-- Assumes nothing.
use Rattle.std.specs.Prelude.{◌≡◌, refl, Bool, true, false, ℕ, zero, suc, ◌+◌, ◌-◌, ◌<◌, eqb}
use Rattle.std.proofs.Math.Path.{sym}
use Rattle.std.proofs.Common.{ap, ap₂, ◌∙◌, arith, eq-eqb, ne_eqb}
use Rattle.std.proofs.Math.Decide.{ℕ_discrete}
use Rattle.std.proofs.Math.Numerals.{unary_clauses}
use Rattle.algebra.specs.Fold.{fold}
use Rattle.algebra.specs.FoldLaws.{fold_cong, fold_zero, fold_next}
use Rattle.lists.specs.Tests.{pick}
use Rattle.field.specs.declared.Scalar.{Scalar}
use Rattle.field.specs.declared.Element.{Element}
use Rattle.field.specs.Definitions.{scalar, identity, IsScalar, plus, minus, times, inverse, product, raise}
use Rattle.field.proofs.ScalarLaws.{one_range, times_range, times_assoc, times_comm, times_one, inverse_times, inverse_one}
use Rattle.interpolation.specs.Definitions.{factor, weight, scalar_at, element_at}

-- ---- for callers

-- weights and interpolation go by the points and values below m alone
pub weight_cong : (pt pt' : ℕ → Scalar) (m i : ℕ) (x : Scalar) → i < m → ((l : ℕ) → l < m → pt l ≡ pt' l) → weight pt m i x ≡ weight pt' m i x
unfolding weight factor
weight_cong pt pt' m i x h e = fold_cong times (scalar 1) m (λ l c. rw (e l c, e i h))

pub scalar_at_cong : (pt pt' : ℕ → Scalar) (m : ℕ) (f g : ℕ → Scalar) (x : Scalar)
    → ((l : ℕ) → l < m → pt l ≡ pt' l)
    → ((i : ℕ) → i < m → f i ≡ g i)
    → scalar_at pt m f x ≡ scalar_at pt' m g x
unfolding scalar_at
scalar_at_cong pt pt' m f g x e v = fold_cong plus (scalar 0) m (λ i c. ap₂ times (weight_cong pt pt' m i x c e) (v i c))

pub element_at_cong : (pt pt' : ℕ → Scalar) (m : ℕ) (f g : ℕ → Element) (x : Scalar)
    → ((l : ℕ) → l < m → pt l ≡ pt' l)
    → ((i : ℕ) → i < m → f i ≡ g i)
    → element_at pt m f x ≡ element_at pt' m g x
unfolding element_at
element_at_cong pt pt' m f g x e v = fold_cong product identity m (λ i c. ap₂ raise (v i c) (weight_cong pt pt' m i x c e))

-- what interpolates is a fold of weights and values
pub scalar_at_is : (pt : ℕ → Scalar) (m : ℕ) (f : ℕ → Scalar) (x : Scalar) → scalar_at pt m f x ≡ fold plus (scalar 0) m (λ i. times (weight pt m i x) (f i))
unfolding scalar_at
scalar_at_is pt m f x = refl

pub element_at_is : (pt : ℕ → Scalar) (m : ℕ) (g : ℕ → Element) (x : Scalar) → element_at pt m g x ≡ fold product identity m (λ i. raise (g i) (weight pt m i x))
unfolding element_at
element_at_is pt m g x = refl

-- ---- one inverse a weight

-- the product of x's differences from the m points but point i
unfoldable pub differences : (ℕ → Scalar) → ℕ → ℕ → Scalar → Scalar
differences pt m i x = fold times (scalar 1) m (λ l. pick (eqb l i) (scalar 1) (minus x (pt l)))

-- f 0 × .. × f (n - 1)
abbrev ∏ : ℕ → (ℕ → Scalar) → Scalar
∏ n f = fold times (scalar 1) n f

product_range : (n : ℕ) (f : ℕ → Scalar) → IsScalar (∏ n f)
unfolding fold
product_range zero f = one_range
product_range (suc n) f = times_range (∏ n f) (f n)

-- the inner two exchanged
exchange : (a b c d : Scalar) → times (times a b) (times c d) ≡ times (times a c) (times b d)
exchange a b c d =
    times_assoc a b (times c d)
    ∙ ap (λ (t : Scalar). times a t) (sym (times_assoc b c d) ∙ ap (λ (t : Scalar). times t d) (times_comm b c) ∙ times_assoc c b d)
    ∙ sym (times_assoc a c (times b d))

-- 1 / 1
one_over_one : times (scalar 1) (inverse (scalar 1)) ≡ scalar 1
one_over_one = rw inverse_one (times_one (scalar 1) one_range)

-- a quotient of products is the product of the quotients
quotient : (n : ℕ) (f g : ℕ → Scalar) → times (∏ n f) (inverse (∏ n g)) ≡ ∏ n (λ l. times (f l) (inverse (g l)))
unfolding fold
quotient zero f g = one_over_one
quotient (suc n) f g =
    ap (λ (t : Scalar). times (∏ (suc n) f) t) (inverse_times (∏ n g) (g n))
    ∙ exchange (∏ n f) (f n) (inverse (∏ n g)) (inverse (g n))
    ∙ ap (λ (t : Scalar). times t (times (f n) (inverse (g n)))) (quotient n f g)

-- and so with the own point's 1
pick_quotient : (b : Bool) (y z : Scalar) → times (pick b (scalar 1) y) (inverse (pick b (scalar 1) z)) ≡ pick b (scalar 1) (times y (inverse z))
pick_quotient true y z = one_over_one
pick_quotient false y z = refl

-- a weight is x's differences from the other points over point i's
pub weight_is : (pt : ℕ → Scalar) (m i : ℕ) (x : Scalar) → times (differences pt m i x) (inverse (differences pt m i (pt i))) ≡ weight pt m i x
unfolding differences weight factor
weight_is pt m i x =
    quotient m (λ l. pick (eqb l i) (scalar 1) (minus x (pt l))) (λ l. pick (eqb l i) (scalar 1) (minus (pt i) (pt l)))
    ∙ fold_cong times (scalar 1) m (λ l c. pick_quotient (eqb l i) (minus x (pt l)) (minus (pt i) (pt l)))

-- these one point a turn
module _ (pt : ℕ → Scalar) (i : ℕ) (x : Scalar) where
  pub differences_none : scalar 1 ≡ differences pt 0 i x
  unfolding differences
  differences_none = sym (fold_zero times (scalar 1) _)

  -- point i is left out
  pub differences_skip : (m : ℕ) → m ≡ i → differences pt (m + 1) i x ≡ differences pt m i x
  unfolding differences
  differences_skip m e = fold_next times (scalar 1) m _ ∙ rw (eq-eqb m i e) (times_one (differences pt m i x) (product_range m _))

  -- any other is one factor more
  pub differences_take : (m : ℕ) → (m ≡ i → ⊥) → differences pt (m + 1) i x ≡ times (differences pt m i x) (minus x (pt m))
  unfolding differences
  differences_take m e = fold_next times (scalar 1) m _ ∙ rw (ne_eqb m i e)

-- ---- the points before and after one

-- a product from its first factor
product_first : (n : ℕ) (f : ℕ → Scalar) → ∏ (suc n) f ≡ times (f 0) (∏ n (λ l. f (suc l)))
unfolding fold
product_first zero f = times_comm (scalar 1) (f 0)
product_first (suc n) f =
    ap (λ (t : Scalar). times t (f (suc n))) (product_first n f) ∙ times_assoc (f 0) (∏ n (λ l. f (suc l))) (f (suc n))

-- in the other order, from its last
product_last : (n m : ℕ) (g : ℕ → Scalar) → ∏ (suc n) (λ l. g (m - l)) ≡ times (∏ n (λ l. g (m - 1 - l))) (g m)
product_last n m g =
    product_first n (λ l. g (m - l))
    ∙ ap₂ (λ (k : ℕ) (t : Scalar). times (g k) t) (omega arith) (fold_cong times (scalar 1) n (λ l c. ap g (omega arith)))
    ∙ times_comm (g m) (∏ n (λ l. g (m - 1 - l)))

-- all but one: those before it, and those after it from the last
product_but : (m i : ℕ) (g : ℕ → Scalar) → i < m
    → times (∏ i g) (∏ (m - 1 - i) (λ l. g (m - 1 - l))) ≡ ∏ m (λ l. pick (eqb l i) (scalar 1) (g l))
unfolding fold
product_but zero i g h = absurd (omega arith)
product_but (suc m) i g h = simp unary_clauses (go (ℕ_discrete m i) (product_but m i g))
  where
    but : ℕ → Scalar
    but l = pick (eqb l i) (scalar 1) (g l)

    before : m ≡ i → ∏ i g ≡ ∏ m but
    before e = ap (λ (n : ℕ). ∏ n g) (sym e) ∙ fold_cong times (scalar 1) m {f = g} {g = but} (λ l c. rw (ne_eqb l i (omega arith)))

    after : ℕ → Scalar
    after n = ∏ n (λ l. g (m - l))

    go : Dec (m ≡ i) → (i < m → times (∏ i g) (∏ (m - 1 - i) (λ l. g (m - 1 - l))) ≡ ∏ m but)
        → times (∏ i g) (after (m - i)) ≡ times (∏ m but) (but m)
    go (yes e) ih =
        let none : m - i ≡ 0 = omega arith in
        ap₂ times (before e) (ap after none) ∙ rw (eq-eqb m i e)
    go (no ne) ih =
        let more : m - i ≡ suc (m - 1 - i) = omega arith in
        ap (λ (t : Scalar). times (∏ i g) t) (ap after more ∙ product_last (m - 1 - i) m g)
        ∙ sym (times_assoc (∏ i g) (∏ (m - 1 - i) (λ l. g (m - 1 - l))) (g m))
        ∙ rw (ne_eqb m i ne) (ap (λ (t : Scalar). times t (g m)) (ih (omega arith)))

-- x's differences from all points but one
pub differences_but : (pt : ℕ → Scalar) (m i : ℕ) (x : Scalar) → i < m
    → times (∏ i (λ l. minus x (pt l))) (∏ (m - 1 - i) (λ l. minus x (pt (m - 1 - l)))) ≡ differences pt m i x
unfolding differences
differences_but pt m i x h = product_but m i (λ l. minus x (pt l)) h
