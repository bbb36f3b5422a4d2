-- What a bundle comes to, case by case, and how many rows it has. Assumes nothing.
use Rattle.std.specs.Prelude.{◌≡◌, Bool, List, ℕ, ◌+◌, ◌-◌, ◌/◌, ◌<◌, length, eqb}
use Rattle.std.proofs.Math.Path.{ap}
use Rattle.std.proofs.Common.{sym, ◌∙◌, arith, eq-eqb, ne_eqb}
use Rattle.lists.specs.Tests.{pick}
use Rattle.records.specs.Tags.{response_length}
use Rattle.run.specs.declared.Run.{Run}
use Rattle.run.specs.Runs.{stage_of}
use Rattle.bundle.specs.Bundles.{outcome, rows_of, given, bundled}
use Rattle.bundle.proofs.CutLaws.{cut, cut_count}

-- a row has bytes
pub row_bytes : (b : ℕ) {size : ℕ} → size ≡ response_length b → 0 < size
unfolding response_length
row_bytes b e = omega (arith, e)

-- the rows, cut by the length that the code finds
pub rows_cut : (b : ℕ) (s : List ℕ) {size : ℕ} → size ≡ response_length b → cut size s ≡ rows_of b s
unfolding rows_of
rows_cut b s e = ap (λ (k : ℕ). cut k s) e

-- one row for every so many, and one for those that are left
pub rows_count : (b : ℕ) (s : List ℕ) {size : ℕ} → size ≡ response_length b → length (rows_of b s) ≡ (length s + (size - 1)) / size
rows_count b s {size} e = sym (ap length (rows_cut b s e)) ∙ cut_count (length s) size s (row_bytes b e) (omega arith)

module _ (r : Run) (s list : List ℕ) where
  pub bundle_stage : (stage_of r ≡ 4 → ⊥) → bundled r s list ≡ outcome r 11 list
  unfolding bundled
  bundle_stage n =
      ap (λ (b : Bool). pick b (pick (eqb (length list) (length (rows_of r.b s))) (given r s) (outcome r 10 list)) (outcome r 11 list)) (ne_eqb (stage_of r) 4 n)

  at_stage_is : stage_of r ≡ 4 → bundled r s list ≡ pick (eqb (length list) (length (rows_of r.b s))) (given r s) (outcome r 10 list)
  unfolding bundled
  at_stage_is e =
      ap (λ (b : Bool). pick b (pick (eqb (length list) (length (rows_of r.b s))) (given r s) (outcome r 10 list)) (outcome r 11 list)) (eq-eqb (stage_of r) 4 e)

  pub bundle_places : stage_of r ≡ 4 → (length list ≡ length (rows_of r.b s) → ⊥) → bundled r s list ≡ outcome r 10 list
  bundle_places e n = at_stage_is e ∙ ap (λ (b : Bool). pick b (given r s) (outcome r 10 list)) (ne_eqb (length list) (length (rows_of r.b s)) n)

  pub bundle_given : stage_of r ≡ 4 → length list ≡ length (rows_of r.b s) → bundled r s list ≡ given r s
  bundle_given e l = at_stage_is e ∙ ap (λ (b : Bool). pick b (given r s) (outcome r 10 list)) (eq-eqb (length list) (length (rows_of r.b s)) l)
