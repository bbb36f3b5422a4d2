-- The laws of rows: what a listed row has, and what its weights make of values. Assumes nothing.
use Rattle.std.specs.Prelude.{◌≡◌, refl, List, ℕ, ◌+◌, ◌≤◌, ◌<◌, min, get_or, set, replicate}
use Rattle.std.proofs.Common.{sym, ap, ap₂, ◌∙◌, arith, zero-add}
use Rattle.algebra.specs.Fold.{fold}
use Rattle.algebra.specs.FoldLaws.{fold_cong}
use Rattle.lists.specs.Stores.{stored, filled}
use Rattle.lists.specs.StoreLaws.{length_filled, stored_from, stored_cong, stored_next}
use Rattle.field.specs.declared.Scalar.{Scalar}
use Rattle.field.specs.declared.Element.{Element}
use Rattle.field.specs.Definitions.{scalar, identity, plus, times, product, raise}
use Rattle.interpolation.specs.Definitions.{weight, scalar_at, element_at}
use Rattle.interpolation.proofs.WeightLaws.{weight_cong, scalar_at_is, element_at_is}
use Rattle.rows.specs.declared.Row.{Row}
use Rattle.rows.specs.Definitions.{listed, most_scalars, nth, product_of, size, sum_of, weights_of}

-- ---- for callers

pub size_max : (r : Row) → size r ≤ most_scalars
unfolding size
size_max r = omega arith

-- a listed row has what was listed
pub nth_listed : (m : ℕ) (f : ℕ → Scalar) (i : ℕ) → i < m → m ≤ most_scalars → nth (listed m f) i ≡ f i
unfolding nth listed
nth_listed m f i l h =
    stored_from (filled most_scalars (scalar 0)) (min m most_scalars) f (scalar 0) (omega (arith, length_filled most_scalars (scalar 0))) i (omega arith)

pub size_listed : (m : ℕ) (f : ℕ → Scalar) → m ≤ most_scalars → size (listed m f) ≡ m
unfolding size listed
size_listed m f h = omega arith

pub listed_cong : (m : ℕ) (f g : ℕ → Scalar) → ((i : ℕ) → i < m → f i ≡ g i) → listed m f ≡ listed m g
unfolding listed
listed_cong m f g e =
    ap (λ (l : List Scalar). record { at = l; count = min m most_scalars }) (stored_cong (filled most_scalars (scalar 0)) 0 (min m most_scalars) f g (λ i l. e i (omega arith)))

-- it is the array with its count
pub listed_is : (m : ℕ) (f : ℕ → Scalar) → m ≤ most_scalars → listed m f ≡ record { at = stored (filled most_scalars (scalar 0)) 0 m f; count = m }
unfolding listed
listed_is m f h = let all : min m most_scalars ≡ m = omega arith in ap (λ (k : ℕ). record { at = stored (filled most_scalars (scalar 0)) 0 k f; count = k }) all

-- the weights of a listed row, and what they make of values
pub weights_listed : (m : ℕ) (pt : ℕ → Scalar) (x : Scalar) → m ≤ most_scalars → weights_of (listed m pt) x ≡ listed m (λ i. weight pt m i x)
unfolding weights_of
weights_listed m pt x h =
    ap (λ (k : ℕ). listed k (λ i. weight (nth (listed m pt)) k i x)) (size_listed m pt h)
    ∙ listed_cong m (λ i. weight (nth (listed m pt)) m i x) (λ i. weight pt m i x) (λ i c. weight_cong (nth (listed m pt)) pt m i x c (λ l d. nth_listed m pt l d h))

pub sum_weights : (m : ℕ) (pt : ℕ → Scalar) (x : Scalar) (values : List Scalar)
    → m ≤ most_scalars
    → sum_of (weights_of (listed m pt) x) values ≡ scalar_at pt m (λ i. get_or values i (scalar 0)) x
unfolding sum_of
sum_weights m pt x values h =
    ap (λ (w : Row). sum_of w values) (weights_listed m pt x h)
    ∙ ap (λ (k : ℕ). fold plus (scalar 0) k (λ i. times (nth (listed m (λ i. weight pt m i x)) i) (get_or values i (scalar 0)))) (size_listed m (λ i. weight pt m i x) h)
    ∙ fold_cong plus (scalar 0) m (λ i c. ap (λ (w : Scalar). times w (get_or values i (scalar 0))) (nth_listed m (λ i. weight pt m i x) i c h))
    ∙ sym (scalar_at_is pt m _ x)

pub product_weights : (m : ℕ) (pt : ℕ → Scalar) (x : Scalar) (values : List Element)
    → m ≤ most_scalars
    → product_of (weights_of (listed m pt) x) values ≡ element_at pt m (λ i. get_or values i identity) x
unfolding product_of
product_weights m pt x values h =
    ap (λ (w : Row). product_of w values) (weights_listed m pt x h)
    ∙ ap (λ (k : ℕ). fold product identity k (λ i. raise (get_or values i identity) (nth (listed m (λ i. weight pt m i x)) i))) (size_listed m (λ i. weight pt m i x) h)
    ∙ fold_cong product identity m (λ i c. ap (λ (w : Scalar). raise (get_or values i identity) w) (nth_listed m (λ i. weight pt m i x) i c h))
    ∙ sym (element_at_is pt m _ x)

-- ---- for loops: a row stored one scalar a turn

-- the array once k scalars are stored
abbrev pub front : ℕ → (ℕ → Scalar) → List Scalar
front k f = stored (filled most_scalars (scalar 0)) 0 k f

-- as the code makes it
pub front_none : (f : ℕ → Scalar) → replicate most_scalars (scalar 0) ≡ front 0 f
unfolding stored filled
front_none f = refl

-- one store more
pub front_next : (k : ℕ) (f : ℕ → Scalar) → front (k + 1) f ≡ set (front k f) k (f k)
front_next k f = stored_next (filled most_scalars (scalar 0)) 0 k f ∙ ap (λ (p : ℕ). set (front k f) p (f k)) (zero-add k)

-- the array with its count is the row
pub front_row : (m : ℕ) (f : ℕ → Scalar) {at : List Scalar} {count k : ℕ}
    → at ≡ front k f
    → k ≡ min m most_scalars
    → count ≡ min m most_scalars
    → ◌≡◌ {A = Row} (record { at = at; count = count }) (listed m f)
unfolding listed
front_row m f s e n = ap₂ (λ (l : List Scalar) (i : ℕ). record { at = l; count = i }) (s ∙ ap (λ (i : ℕ). front i f) e) n
