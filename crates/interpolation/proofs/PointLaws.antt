-- Points that differ, and the definitions as those of the ring and of the group. Assumes nothing.
use Rattle.std.specs.Prelude.{◌≡◌, ◌≢◌, ℕ, ◌+◌, ◌-◌, ◌≤◌, ◌<◌}
use Rattle.std.proofs.Math.Path.{refl, ap, ap₂}
use Rattle.std.proofs.Common.{sym, subst, ◌∙◌, arith, eq-eqb, ne_eqb}
use mathlib.Core.Bool.{Bool, true, false}
use Rattle.std.proofs.Math.Decide.{ℕ_discrete}
use Rattle.algebra.specs.FoldLaws.{fold_cong, fold_hom}
use Rattle.algebra.specs.RingLaws.{sub}
use Rattle.algebra.specs.PolynomialLaws.{Apart, apart_of_distinct}
use Rattle.algebra.specs.WeightLaws as A
use Rattle.algebra.specs.ExponentLaws.{interp, interp_at}
use Rattle.field.specs.declared.Scalar.{Scalar}
use Rattle.field.specs.declared.Element.{Element}
use Rattle.field.specs.Definitions.{scalar, identity, is_element, IsScalar, IsElement, reduced, plus, minus, times, inverse, product, raise}
use Rattle.field.proofs.ScalarLaws.{reduced_same, minus_range, minus_plus, minus_reduced, times_reduced_left, times_comm, difference_same, difference_unique}
use Rattle.field.proofs.ElementLaws.{identity_element, raise_zero, raise_plus, raise_times}
use Rattle.interpolation.specs.Definitions.{point, party, slot, committed_point, factor, weight, scalar_at, element_at}
use Rattle.interpolation.proofs.StructureLaws.{Residue, residue, residue_path, Zq, inv, inv_is, Member, Group, Powers}

-- ---- points

pub point_is : (x y : ℕ) → point x y ≡ minus (reduced x) (reduced y)
unfolding point
point_is x y = refl

pub point_range : (x y : ℕ) → IsScalar (point x y)
unfolding point
point_range x y = minus_range _ _

-- x - y and x' - y' are one point where x + y' = x' + y
pub point_same : (x y x' y' : ℕ) → x + y' ≡ x' + y → point x y ≡ point x' y'
unfolding point
point_same x y x' y' e = difference_same x y x' y' e

-- and, of small numbers, only there
pub point_unique : (x y x' y' : ℕ) → x + y' ≤ 100000 → x' + y ≤ 100000 → point x y ≡ point x' y' → x + y' ≡ x' + y
unfolding point
point_unique x y x' y' l k e = difference_unique x y x' y' l k e

-- the points of holders and dealers, of packed places, and of committed values
pub party_is : (j : ℕ) → party j ≡ point j 0
unfolding party
party_is j = refl

pub slot_is : (k : ℕ) → slot k ≡ point 1 k
unfolding slot
slot_is k = refl

pub committed_is : (a v : ℕ) → committed_point a v ≡ point (v + 1) a
unfolding committed_point
committed_is a v = refl

-- the first m points have distinct residues
abbrev pub DistinctPoints : ℕ → (ℕ → Scalar) → Type 0
DistinctPoints m pt = (i l : ℕ) → i < m → l < m → i ≢ l → reduced (pt i).0 ≢ reduced (pt l).0

-- points x i - y i, where the differences are distinct
pub points_distinct : (m : ℕ) (x y : ℕ → ℕ) → ((i l : ℕ) → i < m → l < m → x i + y l ≤ 100000)
    → ((i l : ℕ) → i < m → l < m → i ≢ l → x i + y l ≢ x l + y i) → DistinctPoints m (λ i. point (x i) (y i))
points_distinct m x y b d i l hi hl ne e =
    d i l hi hl ne (point_unique (x i) (y i) (x l) (y l) (b i l hi hl) (b l i hl hi) (sym (reduced_same _ (point_range _ _)) ∙ e ∙ reduced_same _ (point_range _ _)))

pub committed_distinct : (a m : ℕ) → a ≤ 255 → m ≤ 255 → DistinctPoints m (committed_point a)
unfolding committed_point
committed_distinct a m ha hm = points_distinct m (λ v. v + 1) (λ v. a) (λ i l hi hl. omega arith) (λ i l hi hl ne e. ne (omega arith))

pub slots_distinct : (m : ℕ) → m ≤ 255 → DistinctPoints m (λ v. slot (v + 1))
unfolding slot
slots_distinct m hm = points_distinct m (λ v. 1) (λ v. v + 1) (λ i l hi hl. omega arith) (λ i l hi hl ne e. ne (omega arith))

pub parties_distinct : (m : ℕ) (j : ℕ → ℕ) → ((i : ℕ) → i < m → j i ≤ 255) → ((i l : ℕ) → i < m → l < m → i ≢ l → j i ≢ j l)
    → DistinctPoints m (λ i. party (j i))
unfolding party
parties_distinct m j b d =
    points_distinct m j (λ v. 0) (λ i l hi hl. omega (arith, b i hi)) (λ i l hi hl ne e. d i l hi hl ne (omega arith))

-- packed place k is committed point number a - k
pub slot_committed : (a k : ℕ) → k ≤ a → slot k ≡ committed_point a (a - k)
unfolding slot committed_point
slot_committed a k l = point_same 1 k (a - k + 1) a (omega arith)

-- ---- the definitions in the ring

pub residue_of : (z : Residue) → residue z.0 ≡ z
residue_of z = residue_path (reduced_same z.0 z.1)

sub_val : (x y : Scalar) → (sub Zq (residue x) (residue y)).0 ≡ minus x y
unfolding sub
sub_val x y = sym (minus_plus _ _) ∙ minus_reduced x y

module _ (pt : ℕ → Scalar) where
  -- the points in the ring
  abbrev pub residues : ℕ → Residue
  residues v = residue (pt v)

  factor_val : (i l : ℕ) (x : Scalar) → (A.factor Zq inv residues i l (residue x)).0 ≡ factor pt i l x
  unfolding factor
  factor_val i l x = go (ℕ_discrete l i)
    where
      go : Dec (l ≡ i) → (A.factor Zq inv residues i l (residue x)).0 ≡ factor pt i l x
      go (yes e) = ap (λ (z : Residue). z.0) (A.factor_self Zq inv residues i l (residue x) e) ∙ rw (eq-eqb l i e)
      go (no ne) =
          ap (λ (z : Residue). z.0) (A.factor_other Zq inv residues i l (residue x) ne)
          ∙ ap₂ (λ (y z : Scalar). times y (inverse z)) (sub_val x (pt l)) (sub_val (pt i) (pt l)) ∙ rw (ne_eqb l i ne)

  pub weight_val : (m i : ℕ) (x : Scalar) → (A.weight Zq inv residues m i (residue x)).0 ≡ weight pt m i x
  unfolding A.weight weight
  weight_val m i x =
      fold_hom Zq.mul Zq.one times (scalar 1) (λ (z : Residue). z.0) refl (λ a b. refl) m (λ l. A.factor Zq inv residues i l (residue x))
      ∙ fold_cong times (scalar 1) m (λ l h. factor_val i l x)

  pub scalar_at_val : (m : ℕ) (f : ℕ → Scalar) (x : Scalar) → (A.interpolate Zq inv residues m (λ v. residue (f v)) (residue x)).0 ≡ scalar_at pt m f x
  unfolding A.interpolate scalar_at
  scalar_at_val m f x =
      fold_hom Zq.add Zq.zero plus (scalar 0) (λ (z : Residue). z.0) refl (λ a b. refl) m
      (λ i. Zq.mul (A.weight Zq inv residues m i (residue x)) (residue (f i)))
      ∙ fold_cong plus (scalar 0) m
      (λ i h. times_comm _ _ ∙ times_reduced_left (f i) _ ∙ times_comm _ _ ∙ ap (λ (w : Scalar). times w (f i)) (weight_val m i x))

  pub apart : (m : ℕ) → DistinctPoints m pt → Apart Zq inv m residues
  apart m d = apart_of_distinct Zq inv inv_is m residues (λ i l hi hl ne e. d i l hi hl ne (ap (λ (z : Residue). z.0) e))

  -- ---- weights

  pub weight_range : (m i : ℕ) (x : Scalar) → IsScalar (weight pt m i x)
  weight_range m i x = subst IsScalar (weight_val m i x) (A.weight Zq inv residues m i (residue x)).1

  -- at a point of its own a weight is 1, at another 0
  pub weight_self : (m : ℕ) → DistinctPoints m pt → (i : ℕ) → i < m → weight pt m i (pt i) ≡ scalar 1
  weight_self m d i l = sym (weight_val m i (pt i)) ∙ ap (λ (z : Residue). z.0) (A.weight_self Zq inv residues m (apart m d) i l)

  pub weight_other : (m : ℕ) → DistinctPoints m pt → (i j : ℕ) → j < m → j ≢ i → weight pt m i (pt j) ≡ scalar 0
  weight_other m d i j l ne = sym (weight_val m i (pt j)) ∙ ap (λ (z : Residue). z.0) (A.weight_other Zq inv residues m (apart m d) i j l ne)

-- ---- the definitions in the group

member_by : (v : Element) (b : Bool) → is_element v.0 ≡ b → Member
member_by v true e = (v, e)
member_by v false e = (identity, identity_element)

-- any number as an element: 1 where it is none
pub member : Element → Member
member v = member_by v (is_element v.0) refl

pub member_val : (v : Element) → IsElement v → (member v).0 ≡ v
unfolding member member_by
member_val v h = go (is_element v.0) refl
  where
    go : (b : Bool) (e : is_element v.0 ≡ b) → (member_by v b e).0 ≡ v
    go true e = refl
    go false e = absurd (mathlib.Core.Bool.true≢false (sym h ∙ e))

module _ (pt : ℕ → Scalar) (m : ℕ) (g : ℕ → Element) (elements : (i : ℕ) → i < m → IsElement (g i)) where
  pub element_at_val : (x : Scalar) → (interp Powers inv (residues pt) m (λ v. member (g v)) (residue x)).0 ≡ element_at pt m g x
  unfolding interp element_at
  element_at_val x =
      fold_hom Group.op Group.unit product identity (λ (z : Member). z.0) refl (λ a b. refl) m
      (λ v. Powers.pow (member (g v)) (A.weight Zq inv (residues pt) m v (residue x)))
      ∙ fold_cong product identity m (λ i l. ap₂ raise (member_val (g i) (elements i l)) (weight_val pt m i x))

  -- at a point of its own, the element there
  pub element_at_point : DistinctPoints m pt → (j : ℕ) → j < m → element_at pt m g (pt j) ≡ g j
  element_at_point d j l =
      sym (element_at_val (pt j)) ∙ ap (λ (z : Member). z.0) (interp_at Powers inv (residues pt) m (apart pt m d) (λ v. member (g v)) j l)
      ∙ member_val (g j) (elements j l)

pub scalar_at_range : (pt : ℕ → Scalar) (m : ℕ) (f : ℕ → Scalar) (x : Scalar) → IsScalar (scalar_at pt m f x)
scalar_at_range pt m f x = subst IsScalar (scalar_at_val pt m f x) (A.interpolate Zq inv (residues pt) m (λ v. residue (f v)) (residue x)).1

-- at a point of its own, the scalar there, modulo q
pub scalar_at_reduced : (pt : ℕ → Scalar) (m : ℕ) (f : ℕ → Scalar) → DistinctPoints m pt → (j : ℕ) → j < m → scalar_at pt m f (pt j) ≡ reduced (f j).0
scalar_at_reduced pt m f d j l =
    sym (scalar_at_val pt m f (pt j)) ∙ ap (λ (z : Residue). z.0) (A.interpolate_at Zq inv (residues pt) m (apart pt m d) (λ v. residue (f v)) j l)

pub scalar_at_point : (pt : ℕ → Scalar) (m : ℕ) (f : ℕ → Scalar) → DistinctPoints m pt → (j : ℕ) → j < m → IsScalar (f j) → scalar_at pt m f (pt j) ≡ f j
scalar_at_point pt m f d j l h = scalar_at_reduced pt m f d j l ∙ reduced_same (f j) h

-- a power by an interpolated scalar is the interpolated power: 4^(scalars at x) = (4^scalars) at x
pub raise_scalar_at : (v : Element) → IsElement v → (pt : ℕ → Scalar) (m : ℕ) (f : ℕ → Scalar) (x : Scalar)
    → raise v (scalar_at pt m f x) ≡ element_at pt m (λ i. raise v (f i)) x
unfolding scalar_at element_at
raise_scalar_at v h pt m f x =
    fold_hom plus (scalar 0) product identity (raise v) (raise_zero v) (raise_plus v h) m (λ i. times (weight pt m i x) (f i))
    ∙ fold_cong product identity m (λ i l. ap (raise v) (times_comm _ _) ∙ raise_times v h (f i) (weight pt m i x))
