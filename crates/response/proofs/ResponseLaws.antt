-- The refusal of a response row, from what is found before its numbers are tested. Assumes nothing.
use Rattle.std.specs.Prelude.{◌≡◌, Bool, not, List, ℕ, eqb}
use Rattle.std.proofs.Math.Path.{refl, ap}
use Rattle.std.proofs.Common.{◌∙◌, arith}
use Rattle.std.proofs.Math.Bool.{true, false}
use Rattle.lists.specs.Tests.{pick, require, or_next}
use Rattle.lists.specs.TestLaws.{require_true, both_passed, or_next_zero}
use Rattle.sets.specs.Masks.{has}
use Rattle.records.specs.Bytes.{sender}
use Rattle.refusals.specs.Refusals.{response_refusal}
use Rattle.dealing.specs.declared.Setup.{Setup}
use Rattle.dealing.specs.declared.Dealings.{Dealings}
use Rattle.complaint.specs.declared.Complaints.{Complaints}
use Rattle.challenge.specs.declared.Challenges.{Challenges}
use Rattle.verification.specs.Definitions.{row_passes}
use Rattle.response.specs.declared.Responses.{Responses}
use Rattle.response.specs.Definitions.{untested, response_number}

module _ (n b sent holders : ℕ) (s : List ℕ) (rest : ℕ) where
  stops : (untested n b sent holders s 0 ≡ 0 → ⊥) → untested n b sent holders s rest ≡ untested n b sent holders s 0
  unfolding or_next require
  stops = go (eqb (response_refusal n b s) 0) (not (has sent (sender s))) (has holders (sender s))
    where
      go : (d x y : Bool) → (pick d (require x 12 (require y 14 0)) (response_refusal n b s) ≡ 0 → ⊥)
          → pick d (require x 12 (require y 14 rest)) (response_refusal n b s) ≡ pick d (require x 12 (require y 14 0)) (response_refusal n b s)
      go true true true f = absurd (f refl)
      go true true false f = refl
      go true false y f = refl
      go false x y f = refl

  goes_on : untested n b sent holders s 0 ≡ 0 → untested n b sent holders s rest ≡ rest
  unfolding or_next
  goes_on e =
      let none = or_next_zero (response_refusal n b s) _ e in
      let both = both_passed _ _ 12 14 0 none.1 (omega arith) (omega arith) in
      ap (λ (k : ℕ). or_next k (require (not (has sent (sender s))) 12 (require (has holders (sender s)) 14 rest))) none.0
      ∙ require_true _ 12 _ both.0
      ∙ require_true _ 14 rest both.1

module _ (b : ℕ) (setup : Setup) (d : Dealings) (c : Complaints) (e : Challenges) (p : Responses) (s : List ℕ) where
  -- what is found before the test is the refusal
  pub found_untested : (untested setup.n b p.responders c.holders s 0 ≡ 0 → ⊥) → response_number b setup d c e p s ≡ untested setup.n b p.responders c.holders s 0
  unfolding response_number
  found_untested = stops setup.n b p.responders c.holders s (require (row_passes b setup d c e s) 15 0)

  -- where nothing is found, the test decides
  pub left_tested : untested setup.n b p.responders c.holders s 0 ≡ 0 → response_number b setup d c e p s ≡ require (row_passes b setup d c e s) 15 0
  unfolding response_number
  left_tested = goes_on setup.n b p.responders c.holders s (require (row_passes b setup d c e s) 15 0)
