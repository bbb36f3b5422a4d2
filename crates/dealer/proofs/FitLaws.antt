-- What a writer that does not refuse knows.
-- Assumes nothing.
use Rattle.std.specs.Prelude.{◌≡◌, List, ℕ, ◌≤◌, ◌<◌, length, get_or, true}
use Rattle.std.proofs.Common.{arith, eqb-true, ltb-true}
use Rattle.lists.specs.Tests.{all_to}
use Rattle.lists.specs.TestLaws.{passed, both_passed, and_left}
use Rattle.field.specs.Definitions.{is_scalar}
use Rattle.parameters.specs.Definitions.{quorum}
use Rattle.records.specs.Tags.{setup_length, dealing_length}
use Rattle.parameters.specs.ParameterLaws.{Bounds, bounds_of, party_of}
use Rattle.dealer.specs.Dealt.{setup_refused, dealing_refused}

-- ---- SU

pub record SetupFits (n t a s : ℕ) (shares : List ℕ) (room : ℕ) : Type 0 where
  pub bounds : Bounds n t a
  pub count : length shares ≡ t
  pub key : is_scalar s ≡ true
  pub key_pos : 0 < s
  pub exact : room ≡ setup_length t

pub setup_fits : (n t a s : ℕ) (shares : List ℕ) (room : ℕ) → setup_refused n t a s shares room ≡ 0 → SetupFits n t a s shares room
unfolding setup_refused
setup_fits n t a s shares room e =
    let p = both_passed _ _ _ _ _ e (omega arith) (omega arith) in
    let q = both_passed _ _ _ _ _ p.2 (omega arith) (omega arith) in
    let r = passed _ _ _ q.2 (omega arith) in
    record {
      bounds = bounds_of n t a p.0;
      count = eqb-true _ _ (search);
      key = and_left (is_scalar s) (all_to t (λ j. is_scalar (get_or shares j 0))) (search);
      key_pos = ltb-true 0 s (search);
      exact = eqb-true _ _ (search);
    }

-- ---- DE

pub record DealingFits (n t a i : ℕ) (values : List ℕ) (room : ℕ) : Type 0 where
  pub bounds : Bounds n t a
  pub party_pos : 0 < i
  pub party_max : i ≤ n
  pub count : length values ≡ quorum t a
  pub exact : room ≡ dealing_length n t a

pub dealing_fits : (n t a i : ℕ) (values : List ℕ) (room : ℕ) → dealing_refused n t a i values room ≡ 0 → DealingFits n t a i values room
unfolding dealing_refused
dealing_fits n t a i values room e =
    let p = both_passed _ _ _ _ _ e (omega arith) (omega arith) in
    let q = both_passed _ _ _ _ _ p.2 (omega arith) (omega arith) in
    let party = party_of n i p.1 in
    record {
      bounds = bounds_of n t a p.0;
      party_pos = party.0;
      party_max = party.1;
      count = eqb-true _ _ q.0;
      exact = eqb-true _ _ (passed _ _ _ q.2 (omega arith)).0;
    }
