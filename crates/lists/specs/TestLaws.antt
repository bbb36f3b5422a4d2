-- The laws of choices, of tests over the numbers below n and of refusals. Assumes nothing.
use Rattle.std.specs.Prelude.{◌≡◌, refl, Bool, true, false, ◌&&◌, ℕ, zero, suc, ◌+◌, ◌≤◌, ◌<◌, eqb}
use Rattle.std.proofs.Common.{sym, ap, ap₂, ◌∙◌, true≢false, arith, add-one, eqb-true}
use Rattle.std.proofs.Math.Bool.{and-false, and-eq-true_iff}
use Rattle.std.proofs.Math.Decide.{ℕ_discrete}
use Rattle.std.proofs.lemmas.Bool.{eqb-false}
-- not_yes : (b : Bool) → not b ≡ true → b ≡ false
pub use Rattle.std.proofs.lemmas.Bool.{not-true as not_yes}
use Rattle.lists.specs.Tests.{all_to, or_next, pick, require}

-- ---- choices

-- what holds of both holds of the choice
pub pick_case : {A : Type 0} (P : A → Type 0) (b : Bool) (x y : A) → (b ≡ true → P x) → (b ≡ false → P y) → P (pick b x y)
pick_case P true x y p n = p refl
pick_case P false x y p n = n refl

-- a function of a choice chooses between its values
pub pick_map : {A B : Type 0} (f : A → B) (b : Bool) (x y : A) → f (pick b x y) ≡ pick b (f x) (f y)
pick_map f true x y = refl
pick_map f false x y = refl

-- the first may be put otherwise where the test passes
pub pick_same : {A : Type 0} (b : Bool) {x y : A} (z : A) → (b ≡ true → x ≡ y) → pick b x z ≡ pick b y z
pick_same true z h = h refl
pick_same false z h = refl

-- ---- truth values

pub no_both : {b : Bool} → b ≡ true → b ≡ false → ⊥
no_both p n = true≢false (sym p ∙ n)

pub and_left : (a b : Bool) → (a && b) ≡ true → a ≡ true
and_left a b e = ((and-eq-true_iff a b).0 e).0

pub and_right : (a b : Bool) → (a && b) ≡ true → b ≡ true
and_right a b e = ((and-eq-true_iff a b).0 e).1

-- ---- tests over the numbers below n

-- one number more, as a loop counts
pub all_next : (n : ℕ) (f : ℕ → Bool) → all_to (n + 1) f ≡ (all_to n f && f n)
unfolding all_to
all_next n f = ap (λ (k : ℕ). all_to k f) (add-one n)

pub all_at : (n : ℕ) (f : ℕ → Bool) → all_to n f ≡ true → (i : ℕ) → i < n → f i ≡ true
unfolding all_to
all_at zero f e i l = absurd (omega arith)
all_at (suc n) f e i l = go (ℕ_discrete i n) (all_at n f (and_left (all_to n f) (f n) e))
  where
    go : Dec (i ≡ n) → ((i : ℕ) → i < n → f i ≡ true) → f i ≡ true
    go (yes d) ih = ap f d ∙ and_right (all_to n f) (f n) e
    go (no ne) ih = ih i (omega arith)

pub all_make : (n : ℕ) (f : ℕ → Bool) → ((i : ℕ) → i < n → f i ≡ true) → all_to n f ≡ true
unfolding all_to
all_make zero f h = refl
all_make (suc n) f h = (and-eq-true_iff (all_to n f) (f n)).1 (all_make n f (λ i l. h i (omega arith)), h n (omega arith))

pub all_cong : (n : ℕ) (f g : ℕ → Bool) → ((i : ℕ) → i < n → f i ≡ g i) → all_to n f ≡ all_to n g
unfolding all_to
all_cong zero f g h = refl
all_cong (suc n) f g h = ap₂ ◌&&◌ (all_cong n f g (λ i l. h i (omega arith))) (h n (omega arith))

-- a test that fails below m fails below n
pub fails_stays : (f : ℕ → Bool) (m n : ℕ) → m ≤ n → all_to m f ≡ false → all_to n f ≡ false
fails_stays f m n l e = go (all_to n f) refl
  where
    go : (b : Bool) → all_to n f ≡ b → b ≡ false
    go true a = absurd (no_both (all_make m f (λ i h. all_at n f a i (omega arith))) e)
    go false a = refl

-- one number more passes
pub all_more : (f : ℕ → Bool) (i : ℕ) → all_to i f ≡ true → f i ≡ true → all_to (i + 1) f ≡ true
all_more f i h e = all_next i f ∙ rw (h, e)

-- one number fails
pub one_fails : (f : ℕ → Bool) (i n : ℕ) → i < n → f i ≡ false → all_to n f ≡ false
one_fails f i n l e = fails_stays f (i + 1) n (omega arith) (all_next i f ∙ rw (e, and-false))

-- ---- refusals

pub require_true : (b : Bool) (k x : ℕ) → b ≡ true → require b k x ≡ x
unfolding require
require_true b k x e = rw e

pub require_false : (b : Bool) (k x : ℕ) → b ≡ false → require b k x ≡ k
unfolding require
require_false b k x e = rw e

pub require_pass : (b : Bool) (k x : ℕ) → b ≡ true → x ≡ 0 → require b k x ≡ 0
require_pass b k x e z = require_true b k x e ∙ z

-- what holds of its number and of the rest
pub require_case : (P : ℕ → Type 0) (b : Bool) (k x : ℕ) → P k → P x → P (require b k x)
unfolding require
require_case P true k x p q = q
require_case P false k x p q = p

-- a refusal r that asks a test first: what is left of it once the test has passed, and its number where the test fails
abbrev pub Left : {r : ℕ} (b : Bool) (k x : ℕ) → r ≡ require b k x → Type 0
Left {r} b k x e = r ≡ x

pub left : {r : ℕ} (b : Bool) (k x : ℕ) (e : r ≡ require b k x) → b ≡ true → Left b k x e
left b k x e h = e ∙ require_true b k x h

pub test_number : {r : ℕ} (b : Bool) (k x : ℕ) → r ≡ require b k x → b ≡ false → k ≡ r
test_number b k x e h = sym (e ∙ require_false b k x h)

-- nothing refused: the test passed, and so did the rest
pub passed : (b : Bool) (k x : ℕ) → require b k x ≡ 0 → 0 < k → (b ≡ true) × (x ≡ 0)
unfolding require
passed true k x e p = (refl, e)
passed false k x e p = absurd (omega arith)

-- of two tests in a row
pub both_passed : (b c : Bool) (k m x : ℕ) → require b k (require c m x) ≡ 0 → 0 < k → 0 < m → (b ≡ true) × (c ≡ true) × (x ≡ 0)
both_passed b c k m x e p r =
    let first = passed b k (require c m x) e p in
    let second = passed c m x first.1 r in
    (first.0, second.0, second.1)

-- what holds of a refusal and of what comes next
pub or_next_case : (P : ℕ → Type 0) (k next : ℕ) → P k → P next → P (or_next k next)
unfolding or_next
or_next_case P k next p q = pick_case P (eqb k 0) next k (λ e. q) (λ e. p)

-- no refusal: none before, and none after
pub or_next_zero : (k next : ℕ) → or_next k next ≡ 0 → (k ≡ 0) × (next ≡ 0)
unfolding or_next
or_next_zero k next e = go (eqb k 0) refl e
  where
    go : (b : Bool) → eqb k 0 ≡ b → pick b next k ≡ 0 → (k ≡ 0) × (next ≡ 0)
    go true d e = (eqb-true k 0 d, e)
    go false d e = absurd (eqb-false k 0 d e)

-- and the other way round
pub next_pass : (k next : ℕ) → k ≡ 0 → next ≡ 0 → or_next k next ≡ 0
unfolding or_next
next_pass k next e z = rw e z
