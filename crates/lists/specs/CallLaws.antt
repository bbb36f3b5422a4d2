-- A test that code asks of a call's result, as a fact of what the call ensures; and a loop that asks it of the numbers below n.
-- Assumes nothing.
use Rattle.std.specs.Prelude.{◌≡◌, refl, Bool, true, false, not, ℕ, ◌+◌, ◌≤◌, ◌<◌, eqb}
use Rattle.std.proofs.Common.{sym, ◌∙◌, arith, eq-eqb, ne_eqb}
use Rattle.std.proofs.lemmas.Bool.{not-true, not-false}
use Rattle.lists.specs.Tests.{all_to, require, or_next}
use Rattle.lists.specs.TestLaws.{all_more, one_fails}

-- the code negates a call that answers by a truth value
pub holds : {r b : Bool} → r ≡ b → not r ≡ false → b ≡ true
holds {r} e h = sym e ∙ not-false r h

pub fails : {r b : Bool} → r ≡ b → not r ≡ true → b ≡ false
fails {r} e h = sym e ∙ not-true r h

-- the code compares with a call's number
pub equals : {x r y : ℕ} → r ≡ y → x ≡ r → eqb x y ≡ true
equals {x} {r} {y} e h = eq-eqb x y (h ∙ e)

pub differs : {x r y : ℕ} → r ≡ y → (x ≡ r → ⊥) → eqb x y ≡ false
differs {x} {r} {y} e h = ne_eqb x y (λ p. h (p ∙ sym e))

-- the code compares a call's number with another
pub is : {r y k : ℕ} → r ≡ y → r ≡ k → eqb y k ≡ true
is {r} {y} {k} e h = eq-eqb y k (sym e ∙ h)

pub is_not : {r y k : ℕ} → r ≡ y → (r ≡ k → ⊥) → eqb y k ≡ false
is_not {r} {y} {k} e h = ne_eqb y k (λ p. h (e ∙ p))

-- ---- refusals in a row: the code asks first whether the record itself is refused, by k

abbrev pub Beyond : {r : ℕ} (k next : ℕ) → r ≡ or_next k next → Type 0
Beyond {r} k next e = r ≡ next

module _ {n k : ℕ} (first : n ≡ k) where
  pub itself : (next : ℕ) → (n ≡ 0 → ⊥) → n ≡ or_next k next
  unfolding or_next
  itself next h = first ∙ rw (is_not first h)

  -- it is not: what is left of the refusal r
  pub beyond : {r : ℕ} (next : ℕ) (e : r ≡ or_next k next) → n ≡ 0 → Beyond k next e
  unfolding or_next
  beyond next e none = e ∙ rw (is first none)

  -- then, by a call, whether its sender has one already
  pub sent : {i j : ℕ} {b : Bool} (f : ℕ → Bool) (number rest : ℕ) → n ≡ 0 → i ≡ j → b ≡ f i → require (not b) number rest ≡ or_next k (require (not (f j)) number rest)
  unfolding or_next
  sent f number rest none at asked = rw (is first none, ← at, ← asked)

-- ---- a loop that asks f of each number below n, by a call, and stops at one that fails

-- those below i have passed
abbrev pub Asked : (ℕ → Bool) → ℕ → ℕ → Type 0
Asked f n i = (i ≤ n) × (all_to i f ≡ true)

pub asked_none : (f : ℕ → Bool) (n : ℕ) → Asked f n 0
unfolding all_to
asked_none f n = (omega arith, refl)

pub asked_more : {r : Bool} (f : ℕ → Bool) (n i : ℕ) → Asked f n i → r ≡ f i → not r ≡ false → i < n → Asked f n (i + 1)
asked_more f n i p e h l = (omega arith, all_more f i p.1 (holds e h))

pub asked_fails : {r : Bool} (f : ℕ → Bool) (n i : ℕ) → r ≡ f i → not r ≡ true → i < n → false ≡ all_to n f
asked_fails f n i e h l = sym (one_fails f i n l (fails e h))

pub asked_all : (f : ℕ → Bool) (n i : ℕ) → Asked f n i → n ≤ i → true ≡ all_to n f
asked_all f n i p l = let end : i ≡ n = omega arith in sym (rw end at p.1)
