-- The length of a record as the code finds it: by the number of its tag, and none where it is 0. Assumes nothing.
use Rattle.std.specs.Prelude.{◌≡◌, ◌≢◌, refl, Bool, true, false, not, ◌&&◌, Some, None, unwrap_or, List, ℕ, zero, suc, ◌<◌, min, eqb, leb}
use Rattle.std.proofs.Common.{sym, ap, ◌∙◌, arith, eq-eqb, ne_eqb, le-leb, leb-true, leb-false}
use Rattle.std.specs.Bool.{then_some}
use Rattle.lists.specs.Tests.{pick}
use Rattle.lists.specs.TestLaws.{pick_case}
use Rattle.records.specs.Tags.{Tag, unknown, code, decoded, tag_of}
use Rattle.records.proofs.RecordLaws.{decoded_code}
use Rattle.run.specs.declared.Run.{Run}
use Rattle.reader.specs.Cutting.{some_length, length_at, length_of}
use Rattle.reader.proofs.TurnLaws.{none_yet}

-- ---- a length that is there, and none

pub some_there : {k n : ℕ} → n ≡ k → 0 < n → Some n ≡ some_length k
unfolding some_length
some_there {k} e p = rw (ne_eqb k 0 (λ z. omega arith)) (ap (λ (n : ℕ). Some n) e)

pub some_none : {k : ℕ} → k ≡ 0 → None ≡ some_length k
unfolding some_length
some_none {k} e = rw (eq-eqb k 0 e) refl

-- chosen by a test
pub some_if : (b : Bool) {n : ℕ} → 0 < n → then_some b n ≡ some_length (pick b n 0)
some_if true p = some_there refl p
some_if false p = some_none refl

pub some_unless : (b : Bool) {n : ℕ} → 0 < n → then_some (not b) n ≡ some_length (pick b 0 n)
some_unless true p = some_none refl
some_unless false p = some_there refl p

-- no more than is left, and all that is left where there is none
pub some_min : (k left : ℕ) → min (unwrap_or (some_length k) left) left ≡ pick (leb 1 k && leb k left) k left
unfolding some_length
some_min zero left = omega arith
some_min (suc k) left =
    rw (ne_eqb (suc k) 0 (λ e. omega arith), le-leb 1 (suc k) (omega arith))
    (pick_case (λ (n : ℕ). min (suc k) left ≡ n) (leb (suc k) left) (suc k) left
    (λ e. omega (arith, leb-true (suc k) left e))
    (λ e. omega (arith, leb-false (suc k) left e)))

-- ---- k is the number of the record's tag

module _ {k : ℕ} (r : Run) (s : List ℕ) (e : k ≡ code (tag_of s)) where
  tag_is : (g : Tag) → k ≡ code g → tag_of s ≡ g
  tag_is g d = sym (decoded_code (tag_of s)) ∙ ap decoded (sym e ∙ d) ∙ decoded_code g

  -- the length is that of the tag
  pub by_tag : (g : Tag) → k ≡ code g → length_of r s ≡ length_at g r s
  unfolding length_of
  by_tag g d = ap (λ (t : Tag). length_at t r s) (tag_is g d)

  -- past stage 0 no test of the stage is left
  pub past_setup : (g : Tag) {n m : ℕ} → n ≡ m → r.stage ≢ 0 → k ≡ code g → length_at g r s ≡ pick (eqb r.stage 0) 0 m → n ≡ length_of r s
  past_setup g {n} {m} f d at is = f ∙ sym (by_tag g at ∙ is ∙ ap (λ (b : Bool). pick b 0 m) (ne_eqb r.stage 0 d))

  -- at stage 0 none but of SU and SX
  pub before_setup : k ≢ 1 → k ≢ 7 → r.stage ≡ 0 → length_of r s ≡ 0
  unfolding length_of
  before_setup d x z = none_yet (tag_of s) r s (λ t. d (e ∙ ap code t)) (λ t. x (e ∙ ap code t)) z

  -- and none of no tag
  pub no_tag : k ≢ 1 → k ≢ 7 → k ≢ 2 → k ≢ 3 → k ≢ 4 → k ≢ 5 → k ≢ 6 → k ≢ 8 → length_of r s ≡ 0
  unfolding length_of length_at decoded
  no_tag d1 d7 d2 d3 d4 d5 d6 d8 =
      let none : decoded k ≡ unknown = simp (ne_eqb k 1 d1, ne_eqb k 2 d2, ne_eqb k 3 d3, ne_eqb k 4 d4, ne_eqb k 5 d5, ne_eqb k 6 d6, ne_eqb k 7 d7, ne_eqb k 8 d8) in
      ap (λ (t : Tag). length_at t r s) (sym (decoded_code (tag_of s)) ∙ ap decoded (sym e) ∙ none)
