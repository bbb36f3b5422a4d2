-- A bundle of response rows in one call (document 02, request 2.7, where it is a sheaf): as if they were given to the run one by one.
use Rattle.std.specs.Prelude.{ℕ, zero, suc, List, [], ◌∷◌, length, take, drop, eqb}
use Rattle.lists.specs.Tests.{pick}
use Rattle.records.specs.Tags.{response_length}
use Rattle.run.specs.declared.Run.{Run}
use Rattle.run.specs.Runs.{stage_of}
use Rattle.run.specs.Steps.{step_of, after_from}

-- bytes cut every `size`, the last piece perhaps short
unfoldable pub cut_every : ℕ → ℕ → List ℕ → List (List ℕ)
cut_every zero size s = []
cut_every (suc f) size s = pick (eqb (length s) 0) [] (take size s ∷ cut_every f size (drop size s))

-- the rows of a bundle: every 4+4b bytes, whatever tags they bear
unfoldable pub rows_of : ℕ → List ℕ → List (List ℕ)
rows_of b s = cut_every (length s) (response_length b) s

-- the numbers of a list of records: each is given to the run returned for the one before it
unfoldable pub numbers_from : Run → List (List ℕ) → List ℕ
numbers_from r [] = []
numbers_from r (s ∷ l) = (step_of r s).number ∷ numbers_from (step_of r s).run l

-- what a call leaves: the run, its own number, and the whole lent list
pub record Outcome : Type 0 where
  pub run : Run
  pub number : ℕ
  pub list : List ℕ

abbrev pub outcome : Run → ℕ → List ℕ → Outcome
outcome r k list = record { run = r; number = k; list = list }

-- the rows given to the run one by one
abbrev pub given : Run → List ℕ → Outcome
given r s = outcome (after_from r (rows_of r.b s)) 0 (numbers_from r (rows_of r.b s))

-- at another stage than 4 it is refused with 11, then with a list that has not one place a row with 10, and run and list are untouched
unfoldable pub bundled : Run → List ℕ → List ℕ → Outcome
bundled r s list =
    pick (eqb (stage_of r) 4) (pick (eqb (length list) (length (rows_of r.b s))) (given r s) (outcome r 10 list)) (outcome r 11 list)
