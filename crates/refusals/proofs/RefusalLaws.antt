-- What a record that is not refused tells, and the converses. Assumes nothing.
use Rattle.std.specs.Prelude.{◌≡◌, refl, ◌↔◌, true, false, not, List, ℕ, ◌+◌, ◌^◌, ◌≤◌, ◌<◌, length, leb}
use Rattle.std.proofs.Common.{ap, arith, le-leb, ltb-true, lt-ltb, eqb-true, eq-eqb}
use Rattle.std.proofs.Math.Bool.{and-eq-true_iff}
use Rattle.std.proofs.lemmas.Bool.{not-true}
use Rattle.lists.specs.Tests.{all_to}
use Rattle.lists.specs.TestLaws.{and_right, all_at, all_make, require_pass, passed, both_passed, or_next_zero, next_pass}
use Rattle.sets.specs.Masks.{has}
use Rattle.sets.proofs.MaskLaws.{has_above}
use Rattle.sets.proofs.WidthLaws.{width_of}
use Rattle.field.specs.Definitions.{is_scalar, is_element, is_identity}
use Rattle.parameters.specs.Definitions.{quorum}
use Rattle.records.specs.Bytes.{byte_at, word, sender}
use Rattle.records.specs.Tags.{setup_length, dealing_length, complaint_length, response_length, shares_from, mask_at}
use Rattle.refusals.specs.Refusals.{setup_refusal, head_refusal, dealing_refusal, mask_fits, complaint_refusal, response_refusal}
use Rattle.parameters.specs.ParameterLaws.{Bounds, bounds_of, bounds_test, party_of, party_test}

-- ---- a setup that is not refused

pub record PassedSetup (s : List ℕ) : Type 0 where
  pub bounds : Bounds (byte_at s 2) (byte_at s 3) (byte_at s 4)
  pub elements : (j : ℕ) → j ≤ byte_at s 3 → is_element (word s 6 j) ≡ true
  pub key : is_identity (word s 6 0) ≡ false
  pub long : length s ≡ setup_length (byte_at s 3)
  pub reserved : byte_at s 5 ≡ 0

pub setup_passed : (s : List ℕ) → setup_refusal s ≡ 0 → PassedSetup s
unfolding setup_refusal
setup_passed s e =
    let p = both_passed _ _ _ _ _ e (omega arith) (omega arith) in
    let q = passed _ _ _ p.2 (omega arith) in
    let r = both_passed _ _ _ _ _ q.1 (omega arith) (omega arith) in
    record {
      bounds = bounds_of _ _ _ q.0;
      elements = λ j l. all_at (byte_at s 3 + 1) (λ j. is_element (word s 6 j)) (search) j (omega arith);
      key = not-true (is_identity (word s 6 0)) (search);
      long = eqb-true _ _ (and_right (leb 6 (length s)) _ p.0);
      reserved = eqb-true _ _ p.1;
    }

pub setup_passes : (s : List ℕ) → PassedSetup s → setup_refusal s ≡ 0
unfolding setup_refusal setup_length
setup_passes s h =
    let six : 6 ≤ length s = omega arith in
    let elements : all_to (byte_at s 3 + 1) (λ j. is_element (word s 6 j)) ≡ true = all_make _ _ (λ j l. h.elements j (omega arith)) in
    let key : not (is_identity (word s 6 0)) ≡ true = ap not h.key in
    require_pass _ _ _ ((and-eq-true_iff _ _).1 (le-leb _ _ six, eq-eqb _ _ h.long))
    (require_pass _ _ _ (eq-eqb _ _ h.reserved)
    (require_pass _ _ _ (bounds_test h.bounds)
    (require_pass _ _ _ (search) (require_pass _ _ _ (search) refl))))

-- ---- the head of a dealing, a complaint row or a response row

head_passed : (n size : ℕ) (s : List ℕ) → head_refusal n size s ≡ 0 → (length s ≡ size) × (byte_at s 3 ≡ 0) × (0 < sender s) × (sender s ≤ n)
unfolding head_refusal
head_passed n size s e =
    let p = passed _ _ _ e (omega arith) in
    let q = passed _ _ _ p.1 (omega arith) in
    let i = party_of n (sender s) (passed _ _ _ q.1 (omega arith)).0 in
    (eqb-true _ _ p.0, eqb-true _ _ q.0, i.0, i.1)

head_passes : (n size : ℕ) (s : List ℕ) → length s ≡ size → byte_at s 3 ≡ 0 → 0 < sender s → sender s ≤ n → head_refusal n size s ≡ 0
unfolding head_refusal
head_passes n size s long reserved pos max =
    require_pass _ _ _ (eq-eqb _ _ long)
    (require_pass _ _ _ (eq-eqb _ _ reserved)
    (require_pass _ _ _ (party_test n (sender s) pos max) refl))

-- ---- a dealing that is not refused

pub record PassedDealing (n t a : ℕ) (s : List ℕ) : Type 0 where
  pub sender_pos : 0 < sender s
  pub sender_max : sender s ≤ n
  pub elements : (v : ℕ) → v < quorum t a → is_element (word s 4 v) ≡ true
  pub scalars : (j : ℕ) → j < n → is_scalar (word s (shares_from t a) j) ≡ true
  pub long : length s ≡ dealing_length n t a
  pub reserved : byte_at s 3 ≡ 0

pub dealing_passed : (n t a : ℕ) (s : List ℕ) → dealing_refusal n t a s ≡ 0 → PassedDealing n t a s
unfolding dealing_refusal
dealing_passed n t a s e =
    let p = or_next_zero _ _ e in
    let h = head_passed n _ s p.0 in
    let v = passed _ _ _ p.1 (omega arith) in
    let w = passed _ _ _ v.1 (omega arith) in
    record { sender_pos = h.2; sender_max = h.3; elements = all_at _ _ v.0; scalars = all_at _ _ w.0; long = h.0; reserved = h.1 }

pub dealing_passes : (n t a : ℕ) (s : List ℕ) → PassedDealing n t a s → dealing_refusal n t a s ≡ 0
unfolding dealing_refusal
dealing_passes n t a s h =
    next_pass _ _ (head_passes n _ s h.long h.reserved h.sender_pos h.sender_max)
    (require_pass _ _ _ (all_make _ _ h.elements)
    (require_pass _ _ _ (all_make _ _ h.scalars) refl))

-- ---- a complaint row that is not refused

-- a mask of w bits has no bit above bit n - 1 exactly where no party above n is in it
pub fits_is : (w n m : ℕ) → m < 2 ^ w → (mask_fits n m ≡ true) ↔ ((i : ℕ) → n < i → i ≤ w → has m i ≡ false)
unfolding mask_fits
fits_is w n m l = (λ e i p q. has_above m n i (ltb-true _ _ e) p, λ h. lt-ltb _ _ (width_of w n m l h))

pub record PassedComplaint (n : ℕ) (s : List ℕ) : Type 0 where
  pub sender_pos : 0 < sender s
  pub sender_max : sender s ≤ n
  pub mask : mask_at n s < 2 ^ n
  pub long : length s ≡ complaint_length n
  pub reserved : byte_at s 3 ≡ 0

pub complaint_passed : (n : ℕ) (s : List ℕ) → complaint_refusal n s ≡ 0 → PassedComplaint n s
unfolding complaint_refusal mask_fits
complaint_passed n s e =
    let p = or_next_zero _ _ e in
    let h = head_passed n _ s p.0 in
    let v = passed _ _ _ p.1 (omega arith) in
    record { sender_pos = h.2; sender_max = h.3; mask = ltb-true _ _ v.0; long = h.0; reserved = h.1 }

pub complaint_passes : (n : ℕ) (s : List ℕ) → PassedComplaint n s → complaint_refusal n s ≡ 0
unfolding complaint_refusal mask_fits
complaint_passes n s h =
    next_pass _ _ (head_passes n _ s h.long h.reserved h.sender_pos h.sender_max)
    (require_pass _ _ _ (lt-ltb _ _ h.mask) refl)

-- ---- a response row that is not refused

pub record PassedResponse (n b : ℕ) (s : List ℕ) : Type 0 where
  pub sender_pos : 0 < sender s
  pub sender_max : sender s ≤ n
  pub scalars : (x : ℕ) → x < b → is_scalar (word s 4 x) ≡ true
  pub long : length s ≡ response_length b
  pub reserved : byte_at s 3 ≡ 0

pub response_passed : (n b : ℕ) (s : List ℕ) → response_refusal n b s ≡ 0 → PassedResponse n b s
unfolding response_refusal
response_passed n b s e =
    let p = or_next_zero _ _ e in
    let h = head_passed n _ s p.0 in
    let v = passed _ _ _ p.1 (omega arith) in
    record { sender_pos = h.2; sender_max = h.3; scalars = all_at _ _ v.0; long = h.0; reserved = h.1 }

pub response_passes : (n b : ℕ) (s : List ℕ) → PassedResponse n b s → response_refusal n b s ≡ 0
unfolding response_refusal
response_passes n b s h =
    next_pass _ _ (head_passes n _ s h.long h.reserved h.sender_pos h.sender_max)
    (require_pass _ _ _ (all_make _ _ h.scalars) refl)
