-- Bytes cut every so many, piece by piece. Assumes nothing.
use Rattle.std.specs.Prelude.{◌≡◌, refl, List, [], ◌∷◌, ◌++◌, ℕ, zero, suc, ◌+◌, ◌-◌, ◌/◌, ◌≤◌, ◌<◌, min, length, take, drop, eqb}
use Rattle.std.proofs.Common.{sym, ap, ap₂, ◌∙◌, append-nil, add-one, arith, length-drop, drop_of_length-le, take_all, take-add, drop_at, drop-drop, length-take-le, eqb-true, eq-eqb, ne_eqb}
use Rattle.std.proofs.Math.Nat.{div-eq_of_lt, add-div_right}
use Rattle.std.proofs.Math.Decide.{dec_le}
use Rattle.std.proofs.Math.Seq.{take-nil}
use Rattle.std.proofs.lemmas.Bool.{eqb-false}
use Rattle.lists.specs.Tests.{pick}
use Rattle.lists.specs.TestLaws.{pick_case}
use Rattle.bundle.specs.Bundles.{cut_every}

-- what is left of bytes, as the code lends it
pub left_is : (s : List ℕ) (from : ℕ) → take (length s - from) (drop from s) ≡ drop from s
left_is s from = take_all (length s - from) (drop from s) (omega (arith, length-drop from s))

-- the pieces of what is left
abbrev pub cut : ℕ → List ℕ → List (List ℕ)
cut size s = cut_every (length s) size s

-- the bound of the pieces does not matter where it is large enough
cut_more : (f g size : ℕ) (s : List ℕ) → 0 < size → length s ≤ f → length s ≤ g → cut_every f size s ≡ cut_every g size s
unfolding cut_every
cut_more zero zero size s p l m = refl
cut_more zero (suc g) size s p l m = rw (eq-eqb (length s) 0 (omega arith))
cut_more (suc f) zero size s p l m = rw (eq-eqb (length s) 0 (omega arith))
cut_more (suc f) (suc g) size s p l m =
    ap (λ (r : List (List ℕ)). pick (eqb (length s) 0) [] (take size s ∷ r)) (cut_more f g size (drop size s) p (omega (arith, length-drop size s)) (omega (arith, length-drop size s)))

pub cut_none : (size : ℕ) → cut size [] ≡ []
unfolding cut_every
cut_none size = refl

pub cut_next : (size : ℕ) (s : List ℕ) → 0 < size → 0 < length s → cut size s ≡ take size s ∷ cut size (drop size s)
unfolding cut_every
cut_next size s p q = go (length s) refl
  where
    go : (m : ℕ) → length s ≡ m → cut_every m size s ≡ take size s ∷ cut size (drop size s)
    go zero e = absurd (omega arith)
    go (suc f) e =
        rw (ne_eqb (length s) 0 (λ z. omega arith))
        (ap (λ (r : List (List ℕ)). take size s ∷ r) (cut_more f (length (drop size s)) size (drop size s) p (omega (arith, length-drop size s)) (omega arith)))

-- one piece more than those of what is left
count_next : (size left : ℕ) → 0 < size → 0 < left → (left - size + (size - 1)) / size + 1 ≡ (left + (size - 1)) / size
count_next size left p q =
    ap (λ (k : ℕ). k + 1) (go (dec_le size left)) ∙ sym (add-div_right (left - 1) p) ∙ ap (λ (k : ℕ). k / size) (omega arith)
  where
    go : Dec (size ≤ left) → (left - size + (size - 1)) / size ≡ (left - 1) / size
    go (yes h) = ap (λ (k : ℕ). k / size) (omega arith)
    go (no h) = div-eq_of_lt (omega arith) ∙ sym (div-eq_of_lt (omega arith))

-- as many as the bytes have, whole ones and a short one
pub cut_count : (f size : ℕ) (s : List ℕ) → 0 < size → length s ≤ f → length (cut_every f size s) ≡ (length s + (size - 1)) / size
unfolding cut_every
cut_count zero size s p l = sym (div-eq_of_lt (omega arith))
cut_count (suc f) size s p l =
    pick_case (λ (r : List (List ℕ)). length r ≡ (length s + (size - 1)) / size) (eqb (length s) 0) [] (take size s ∷ cut_every f size (drop size s))
    (λ e. sym (div-eq_of_lt (omega (arith, eqb-true (length s) 0 e))))
    (λ e.
    let none : length s ≡ 0 → ⊥ = eqb-false (length s) 0 e in
    let some : 0 < length s = omega arith in
    sym (add-one (length (cut_every f size (drop size s))))
    ∙ ap (λ (k : ℕ). k + 1) (cut_count f size (drop size s) p (omega (arith, length-drop size s)) ∙ ap (λ (k : ℕ). (k + (size - 1)) / size) (length-drop size s))
    ∙ count_next size (length s) p some)

-- ---- pieces as the code lends them

-- a piece has all that is left where that is less
abbrev pub row_length : ℕ → List ℕ → ℕ
row_length size d = min size (length d)

pub row_is : (size : ℕ) (d : List ℕ) → take (row_length size d) d ≡ take size d
row_is size d = go (dec_le size (length d))
  where
    go : Dec (size ≤ length d) → take (row_length size d) d ≡ take size d
    go (yes h) = let whole : row_length size d ≡ size = omega arith in ap (λ (n : ℕ). take n d) whole
    go (no h) = take_all (row_length size d) d (omega arith) ∙ sym (take_all size d (omega arith))

-- what is left behind it
pub row_rest : (size : ℕ) (d : List ℕ) → drop (row_length size d) d ≡ drop size d
row_rest size d = go (dec_le size (length d))
  where
    go : Dec (size ≤ length d) → drop (row_length size d) d ≡ drop size d
    go (yes h) = let whole : row_length size d ≡ size = omega arith in ap (λ (n : ℕ). drop n d) whole
    go (no h) = drop_of_length-le d {i = row_length size d} (omega arith) ∙ sym (drop_of_length-le d {i = size} (omega arith))

pub rest_is : (size from : ℕ) (s : List ℕ) → drop (from + row_length size (drop from s)) s ≡ drop size (drop from s)
rest_is size from s = sym (drop-drop (row_length size (drop from s)) from s) ∙ row_rest size (drop from s)

-- pieces of the first of them
pub drop_take : (n m : ℕ) (l : List ℕ) → drop n (take (n + m) l) ≡ take m (drop n l)
drop_take n m l = ap (drop n) (take-add n m l) ∙ go (dec_le n (length l))
  where
    go : Dec (n ≤ length l) → drop n (take n l ++ take m (drop n l)) ≡ take m (drop n l)
    go (yes h) = drop_at (take n l) (take m (drop n l)) n (length-take-le n l h)
    go (no h) =
        let none : drop n l ≡ [] = drop_of_length-le l {i = n} (omega arith) in
        ap (λ (t : List ℕ). drop n (take n l ++ take m t)) none
        ∙ ap₂ (λ (a b : List ℕ). drop n (a ++ b)) (take_all n l (omega arith)) (take-nil m)
        ∙ ap (drop n) (append-nil l)
        ∙ none
        ∙ sym (ap (take m) none ∙ take-nil m)
