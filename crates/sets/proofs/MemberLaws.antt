-- Laws of the members of a set and of their number.
-- Assumes nothing.
use Rattle.std.specs.Prelude.{◌≡◌, refl, Bool, true, false, not, ◌&&◌, ◌||◌, List, [], ◌∷◌, ◌++◌, ℕ, zero, suc, ◌+◌, ◌^◌, ◌≤◌, ◌<◌, length, eqb}
use Rattle.std.proofs.Common.{sym, ap, ap₂, ◌∙◌, append-nil, arith, add-zero, add-suc, suc-add, add_comm, add-one, length-append, eq-eqb, ne_eqb}
use Rattle.std.proofs.Math.Bool.{or-true, or-false}
use Rattle.std.proofs.Math.Decide.{ℕ_discrete}
use Rattle.lists.specs.Tests.{pick}
use Rattle.lists.specs.TestLaws.{pick_case, pick_map}
use Rattle.lists.specs.Members.{All, Distinct}
use Rattle.lists.specs.MemberLaws.{all_map}
use Rattle.sets.specs.Masks.{has, members_from, members, count}
use Rattle.sets.proofs.MaskLaws.{has_le}

-- ---- what is a member

-- a member, of the n numbers from s
abbrev pub Member : (ℕ → Bool) → ℕ → ℕ → ℕ → Type 0
Member f s n i = (s ≤ i) × (i < s + n) × (f i ≡ true)

pub members_all : (f : ℕ → Bool) (s n : ℕ) → All (Member f s n) (members_from f s n)
unfolding members_from
members_all f s zero = tt
members_all f s (suc n) =
    let rest = all_map (Member f (suc s) n) (Member f s (suc n)) (λ i m. (omega arith, omega arith, m.2)) (members_from f (suc s) n) (members_all f (suc s) n) in
    pick_case (All (Member f s (suc n))) (f s) _ _ (λ e. ((omega arith, omega arith, e), rest)) (λ e. rest)

pub members_distinct : (f : ℕ → Bool) (s n : ℕ) → Distinct (λ (i : ℕ). i) (members_from f s n)
unfolding members_from
members_distinct f s zero = tt
members_distinct f s (suc n) =
    let rest = members_distinct f (suc s) n in
    pick_case (Distinct (λ (i : ℕ). i)) (f s) _ _ (λ e. (all_map _ _ (λ i m d. omega arith) (members_from f (suc s) n) (members_all f (suc s) n), rest)) (λ e. rest)

-- ---- sets that differ little

-- one test for the other
pub members_cong : (f g : ℕ → Bool) (s n : ℕ) → ((i : ℕ) → s ≤ i → i < s + n → g i ≡ f i) → members_from g s n ≡ members_from f s n
unfolding members_from
members_cong f g s zero h = refl
members_cong f g s (suc n) h =
    ap₂ (λ (b : Bool) (l : List ℕ). pick b (s ∷ l) l) (h s (omega arith) (omega arith)) (members_cong f g (suc s) n (λ i a b. h i (omega arith) (omega arith)))

pub same_members : (f g : ℕ → Bool) (s n : ℕ) → ((i : ℕ) → s ≤ i → i < s + n → g i ≡ f i) → length (members_from g s n) ≡ length (members_from f s n)
same_members f g s n h = ap length (members_cong f g s n h)

pub no_members : (f : ℕ → Bool) → ((i : ℕ) → f i ≡ false) → (s n : ℕ) → length (members_from f s n) ≡ 0
unfolding members_from
no_members f h s zero = refl
no_members f h s (suc n) = rw (h s) (no_members f h (suc s) n)

or_none : (a b : Bool) → b ≡ false → (a || b) ≡ a
or_none a b e = rw e (or-false a)

length_pick : (b : Bool) (x : ℕ) (l k : List ℕ) → length l ≡ suc (length k) → length (pick b (x ∷ l) l) ≡ suc (length (pick b (x ∷ k) k))
length_pick true x l k e = ap suc e
length_pick false x l k e = e

-- one member more
pub more_members : (f g : ℕ → Bool) (j s n : ℕ) → s ≤ j → j < s + n → f j ≡ false → ((i : ℕ) → s ≤ i → i < s + n → g i ≡ (f i || eqb i j))
    → length (members_from g s n) ≡ suc (length (members_from f s n))
unfolding members_from
more_members f g j s zero a b o h = absurd (omega arith)
more_members f g j s (suc n) a b o h =
    go (ℕ_discrete s j) (h s (omega arith) (omega arith)) (λ l. more_members f g j (suc s) n l (omega arith) o (λ i c d. h i (omega arith) (omega arith)))
  where
    go : Dec (s ≡ j) → g s ≡ (f s || eqb s j) → (s < j → length (members_from g (suc s) n) ≡ suc (length (members_from f (suc s) n)))
        → length (pick (g s) (s ∷ members_from g (suc s) n) (members_from g (suc s) n)) ≡ suc (length (pick (f s) (s ∷ members_from f (suc s) n) (members_from f (suc s) n)))
    go (yes d) e ih =
        let no-f : f s ≡ false = ap f d ∙ o in
        let yes-g : g s ≡ true = e ∙ ap (λ (x : Bool). f s || x) (eq-eqb s j d) ∙ or-true (f s) in
        rw (no-f, yes-g) (ap suc (same_members f g (suc s) n (λ i x y. h i (omega arith) (omega arith) ∙ or_none (f i) (eqb i j) (ne_eqb i j (λ z. omega arith)))))
    go (no ne) e ih =
        let same : g s ≡ f s = e ∙ or_none (f s) (eqb s j) (ne_eqb s j ne) in
        rw same (length_pick (f s) s _ _ (ih (omega arith)))

-- without those of a second set: no more are gone than that has members
pub members_without : (f g : ℕ → Bool) (s n : ℕ) → length (members_from f s n) ≤ length (members_from (λ i. f i && not (g i)) s n) + length (members_from g s n)
unfolding members_from
members_without f g s zero = omega arith
members_without f g s (suc n) = go (f s) (g s) _ _ _ (members_without f g (suc s) n)
  where
    go : (b c : Bool) (k l m : List ℕ) → length k ≤ length l + length m → length (pick b (s ∷ k) k) ≤ length (pick (b && not c) (s ∷ l) l) + length (pick c (s ∷ m) m)
    go true true k l m h = omega arith
    go true false k l m h = omega arith
    go false true k l m h = omega arith
    go false false k l m h = omega arith

-- ---- one number more, as a loop counts

-- the number, if it passes
passing : (ℕ → Bool) → ℕ → List ℕ
passing f i = pick (f i) (i ∷ []) []

members_last : (f : ℕ → Bool) (s n : ℕ) → members_from f s (suc n) ≡ members_from f s n ++ passing f (s + n)
unfolding members_from passing
members_last f s zero = rw add-zero
members_last f s (suc n) =
    let rest = members_from f (suc s) n in
    ap (λ (l : List ℕ). pick (f s) (s ∷ l) l) (members_last f (suc s) n)
    ∙ sym (pick_map (λ (l : List ℕ). l ++ passing f (suc s + n)) (f s) (s ∷ rest) rest)
    ∙ ap (λ (i : ℕ). pick (f s) (s ∷ rest) rest ++ passing f i) (suc-add s n ∙ sym (add-suc s n))

pub count_none : (f : ℕ → Bool) → count 0 f ≡ 0
unfolding members_from
count_none f = refl

pub members_next : (n : ℕ) (f : ℕ → Bool) → members (n + 1) f ≡ pick (f (n + 1)) (members n f ++ ((n + 1) ∷ [])) (members n f)
unfolding passing
members_next n f =
    ap (λ (k : ℕ). members k f) (add-one n)
    ∙ members_last f 1 n
    ∙ ap (λ (i : ℕ). members n f ++ passing f i) (add_comm 1 n)
    ∙ pick_map (λ (l : List ℕ). members n f ++ l) (f (n + 1)) ((n + 1) ∷ []) []
    ∙ ap (pick (f (n + 1)) (members n f ++ ((n + 1) ∷ []))) (append-nil (members n f))

count_next : (n : ℕ) (f : ℕ → Bool) → count (n + 1) f ≡ pick (f (n + 1)) (count n f + 1) (count n f)
count_next n f =
    ap length (members_next n f)
    ∙ pick_map length (f (n + 1)) (members n f ++ ((n + 1) ∷ [])) (members n f)
    ∙ ap (λ (k : ℕ). pick (f (n + 1)) k (count n f)) (length-append (members n f) ((n + 1) ∷ []))

from_le : (f : ℕ → Bool) (s n : ℕ) → length (members_from f s n) ≤ n
unfolding members_from
from_le f s zero = omega arith
from_le f s (suc n) =
    let rest : length (members_from f (suc s) n) ≤ n = from_le f (suc s) n in
    pick_case (λ l. length l ≤ suc n) (f s) (s ∷ members_from f (suc s) n) (members_from f (suc s) n) (λ e. omega arith) (λ e. omega arith)

pub count_le : (n : ℕ) (f : ℕ → Bool) → count n f ≤ n
count_le n f = from_le f 1 n

-- before a member of a mask of w bits there are fewer than w
pub count_before : (w n m : ℕ) → m < 2 ^ w → has m (n + 1) ≡ true → count n (has m) < w
count_before w n m l e = omega (arith, has_le m w (n + 1) l e, count_le n (has m))

-- a mask of w bits has at most w members
pub count_bits : (w n m : ℕ) → m < 2 ^ w → count n (has m) ≤ w
count_bits w zero m l = omega (arith, count_none (has m))
count_bits w (suc n) m l =
    rw (← add-one n, count_next n (has m))
    (pick_case (λ (k : ℕ). k ≤ w) (has m (n + 1)) (count n (has m) + 1) (count n (has m)) (λ e. omega (arith, count_before w n m l e)) (λ e. count_bits w n m l))
