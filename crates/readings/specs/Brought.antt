-- Which record of a list brings stage 3 or 6 (document 02, request 2.6).
use Rattle.std.specs.Prelude.{◌≡◌, ◌⊎◌, ◌≢◌, List, [], ◌∷◌, ◌++◌, ℕ}
use Rattle.run.specs.Runs.{stage_of}
use Rattle.run.specs.Steps.{after}

-- the stage after a list of records
abbrev pub stage_after : List (List ℕ) → ℕ
stage_after l = stage_of (after l)

-- s, given after l: with it the run is at stage 3 or 6, and before it at another
abbrev pub Brings : List (List ℕ) → List ℕ → Type 0
Brings l s = ((stage_after (l ++ (s ∷ [])) ≡ 3) ⊎ (stage_after (l ++ (s ∷ [])) ≡ 6)) × (stage_after l ≢ stage_after (l ++ (s ∷ [])))

-- a record of a list that brings stage 3 or 6, with those before and after it
pub record Brought (all : List (List ℕ)) : Type 0 where
  pub before : List (List ℕ)
  pub bringing : List ℕ
  pub later : List (List ℕ)
  pub split : all ≡ before ++ (bringing ∷ later)
  pub brings : Brings before bringing
