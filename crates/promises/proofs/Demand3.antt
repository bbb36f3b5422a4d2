-- Demand 3 (document 01, "The run", over the shifted pair of document 02, request 2.1, and the m of request 2.5): one claim about whole lists of records. Assumes nothing.
use Rattle.std.specs.Prelude.{◌≡◌, List, ℕ}
use Rattle.std.proofs.Common.{sym, ◌∙◌, arith}
use Rattle.field.proofs.ElementLaws.{generator_unique}
use Rattle.protocol.specs.Alike.{Alike}
use Rattle.protocol.proofs.AlikeLaws.{batch_same}
use Rattle.run.specs.Runs.{kept}
use Rattle.run.specs.Steps.{after}
use Rattle.promises.specs.Lists.{accepted, read, shifted_phi}
use Rattle.promises.proofs.PlaceLaws.{within_same}
use Rattle.promises.proofs.MadeLaws.{made_live, made_dealings, made_dealings_least, made_dealings_most, made_dealers_differ, made_complaints, made_holders_differ, made_few_bad}
use Rattle.promises.proofs.InvariantLaws.{begun_one, begun_go}
use Rattle.promises.proofs.FinishedLaws.{equation_same, rows_number, rows_differ, rows_held, kept_is, phi_range, phi_verifies}
use Rattle.promises.specs.Claims.{Place, Rows, Signed}

module _ (l : List (List ℕ)) (e : (after l).stage ≡ 5) where
  rows : Rows l
  rows =
      record {
        setups = begun_one (made_live l (omega arith)).stage.begun;
        gone = begun_go (made_live l (omega arith)).stage.begun (omega arith);
        dealings = made_dealings l (omega arith) (omega arith);
        dealings_least = made_dealings_least l (omega arith) (omega arith);
        dealings_most = made_dealings_most l (omega arith);
        dealers_differ = made_dealers_differ l (omega arith);
        complaints = made_complaints l (omega arith) (omega arith);
        holders_differ = made_holders_differ l (omega arith);
        few_bad = made_few_bad l (omega arith) (omega arith) (omega arith);
        challenges = (made_live l (omega arith)).stage.challenged (omega arith) (omega arith);
        responses = rows_number l e;
        responders_differ = rows_differ l e;
        responders_held = rows_held l e;
      }

  signed : (u k : ℕ) → Place l u k → Signed l u k
  signed u k p = record { keeps = kept_is l e u k p; below = phi_range l e u k p; verifies = phi_verifies l e u k p }

-- Every list that takes a fresh run to stage 5, refused and senseless records included: its rows are as many as they must be, from different parties;
-- every (u,k) is signed; and every other such list that is alike in setup, number of dealings, QUAL, the commitments of QUAL's dealers, the challenges and the shift ends
-- in the same numbers.
pub demand_3 : (l : List (List ℕ)) → (after l).stage ≡ 5
    → Rows l
    × ((u k : ℕ) → Place l u k → Signed l u k)
    × ((m : List (List ℕ)) → (after m).stage ≡ 5 → Alike (read (accepted l)) (read (accepted m)) → (u k : ℕ) → Place l u k → kept (after l) u k ≡ kept (after m) u k)
demand_3 l e = (rows l e, signed l e, agree)
  where
    agree : (m : List (List ℕ)) → (after m).stage ≡ 5 → Alike (read (accepted l)) (read (accepted m)) → (u k : ℕ) → Place l u k → kept (after l) u k ≡ kept (after m) u k
    agree m d h u k p =
        let x = signed l e u k p in
        let y = signed m d u k (within_same (read (accepted l)) (read (accepted m)) (batch_same (read (accepted l)) (read (accepted m)) h) h.a_same u k p) in
        x.keeps
        ∙ generator_unique (shifted_phi (accepted l) u k) (shifted_phi (accepted m) u k) x.below y.below
        (x.verifies ∙ equation_same (read (accepted l)) (read (accepted m)) h u k p ∙ sym y.verifies)
        ∙ sym y.keeps
