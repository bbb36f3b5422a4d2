-- The reading of a group number: which numbers get each of its three answers, and that every number gets one of them and no other. Assumes nothing.
use Rattle.std.specs.Prelude.{◌≡◌, refl, ◌≢◌, ◌↔◌, ◌⊎◌, Bool, true, false, ℕ, eqb}
use Rattle.std.proofs.Common.{sym, ap, ◌∙◌, inl, inr, true≢false, eqb-true, eq-eqb, ne_eqb}
use Rattle.std.proofs.lemmas.Bool.{false≢true}
use Rattle.std.proofs.Math.Decide.{ℕ_discrete}
use Rattle.field.specs.declared.Reading.{Reading}
use Rattle.field.specs.declared.Reading.TheVariants.{NoElement, Identity, Other}
use Rattle.field.specs.Definitions.{q, P, power_to, power_of, reading_of, read_element, some_element, the_identity, is_element, is_identity, InGroup}
use Rattle.field.proofs.ElementLaws.{element_is}

-- ---- the three answers

some_of : (r : Reading) → (r ≡ NoElement) ⊎ ((r ≡ Identity) ⊎ (r ≡ Other))
some_of NoElement = inl refl
some_of Identity = inr (inl refl)
some_of Other = inr (inr refl)

-- every number is read as one of them
pub read_some : (v : ℕ) → (read_element v ≡ NoElement) ⊎ ((read_element v ≡ Identity) ⊎ (read_element v ≡ Other))
read_some v = some_of (read_element v)

-- and no two are one
pub read_apart : (NoElement ≢ Identity) × (NoElement ≢ Other) × (Identity ≢ Other)
unfolding some_element the_identity
read_apart = (λ e. false≢true (ap some_element e), λ e. false≢true (ap some_element e), λ e. true≢false (ap the_identity e))

-- the tests of a number are those of its reading
pub element_read : (v : ℕ) → is_element v ≡ some_element (read_element v)
unfolding is_element
element_read v = refl

pub element_none : (v : ℕ) → read_element v ≡ NoElement → is_element v ≡ false
unfolding is_element some_element
element_none v e = ap some_element e

pub identity_one : (v : ℕ) → read_element v ≡ Identity → is_identity v ≡ true
unfolding is_identity the_identity
identity_one v e = ap the_identity e

pub identity_other : (v : ℕ) → read_element v ≡ Other → is_identity v ≡ false
unfolding is_identity the_identity
identity_other v e = ap the_identity e

-- ---- the numbers that get each answer

one_read : read_element 1 ≡ Identity
unfolding reading_of read_element power_of power_to P q
one_read = refl

-- its test, which needs no power
pub one_raised : (x : ℕ) → x ≡ 1 → power_of P x q ≡ 1
unfolding power_of power_to P q
one_raised x e = ap (λ (v : ℕ). power_of P v q) e

one_alone : (a b : Bool) → reading_of a b ≡ Identity → b ≡ true
unfolding reading_of
one_alone true true e = refl
one_alone true false e = absurd (read_apart.2 (sym e))
one_alone false b e = absurd (read_apart.0 e)

-- the identity: 1 alone
pub read_identity : (v : ℕ) → (read_element v ≡ Identity) ↔ (v ≡ 1)
unfolding read_element
read_identity v = (λ e. eqb-true v 1 (one_alone _ _ e), λ e. ap read_element e ∙ one_read)

none_of : (r : Reading) → some_element r ≢ true → r ≡ NoElement
unfolding some_element
none_of NoElement n = refl
none_of Identity n = absurd (n refl)
none_of Other n = absurd (n refl)

-- no element: every number that is not of the group
pub read_none : (v : ℕ) → (read_element v ≡ NoElement) ↔ (InGroup v → ⊥)
unfolding is_element some_element
read_none v = (
  λ e g. false≢true (sym (element_none v e) ∙ (element_is v).1 g),
  λ n. none_of (read_element v) (λ h. n ((element_is v).0 h)),
)

other_of : (r : Reading) → r ≢ NoElement → r ≢ Identity → r ≡ Other
other_of NoElement n m = absurd (n refl)
other_of Identity n m = absurd (m refl)
other_of Other n m = refl

-- another element: every other number of the group
pub read_other : (v : ℕ) → (read_element v ≡ Other) ↔ (InGroup v × (v ≢ 1))
unfolding is_element some_element
read_other v = (
  λ e. (
    (element_is v).0 (ap some_element e),
    λ one. read_apart.2 (sym ((read_identity v).1 one) ∙ e),
  ),
  λ p. other_of (read_element v) (λ z. (read_none v).0 z p.0) (λ z. p.1 ((read_identity v).0 z)),
)

-- ---- the tests of a number

one_is : (r : Reading) → r ≢ Identity → the_identity r ≡ false
unfolding the_identity
one_is NoElement n = refl
one_is Identity n = absurd (n refl)
one_is Other n = refl

identity_none : (v : ℕ) → v ≢ 1 → is_identity v ≡ false
unfolding is_identity
identity_none v n = one_is (read_element v) (λ e. n ((read_identity v).0 e))

-- 1 alone is the identity
pub identity_is : (v : ℕ) → is_identity v ≡ eqb v 1
identity_is v = go (ℕ_discrete v 1)
  where
    go : Dec (v ≡ 1) → is_identity v ≡ eqb v 1
    go (yes e) = identity_one v ((read_identity v).1 e) ∙ sym (eq-eqb v 1 e)
    go (no n) = identity_none v n ∙ sym (ne_eqb v 1 n)

-- another element is one that is not the identity
pub other_by : (v : ℕ) → is_element v ≡ true → is_identity v ≡ false → read_element v ≡ Other
other_by v h k = (read_other v).1 ((element_is v).0 h, λ e. true≢false (sym (identity_is v ∙ eq-eqb v 1 e) ∙ k))
