-- What stands while the rows of a bundle are given to a run: the numbers of the rows passed are in the list, and the run is theirs. Assumes nothing.
use mathlib.Core.Path.{◌≡◌, refl, sym, ap, ap₂, ◌∙◌}
use mathlib.Core.List.{List, [], ◌∷◌, ◌++◌, append_assoc, append-nil}
use Prim.Native.Nat.{ℕ, ◌+◌, ◌≤◌, ◌<◌}
use native.Mathlib.Numerals.{add-one}
use native.Mathlib.Omega.{arith}
use native.Mathlib.Decide.{dec_lt}
use lib.ListN.{length, take, drop, set, length-set, length-drop, drop_of_length-le}
use lib.Seq.{take_all, take-suc-set}
use Rattle.run.specs.declared.Run.{Run}
use Rattle.run.specs.Steps.{Reply}
use Rattle.run.specs.Runs.{stage_of}
use Rattle.run.specs.Steps.{step_of, after_from}
use Rattle.bundle.specs.Bundles.{numbers_from}
use Rattle.bundle.proofs.CutLaws.{cut, cut_none, cut_next, row_length, rest_is}
use Rattle.bundle.proofs.RowLaws.{Kept, kept_start}

pub record Taking (r : Run) (s : List ℕ) (size count : ℕ) (list : List ℕ) (next : Run) (from x : ℕ) : Type 0 where
  pub within : from ≤ length s
  pub places : length list ≡ count
  pub left : x + length (cut size (drop from s)) ≡ count
  pub kept : Kept r next
  pub same_run : after_from next (cut size (drop from s)) ≡ after_from r (cut size s)
  pub same_numbers : take x list ++ numbers_from next (cut size (drop from s)) ≡ numbers_from r (cut size s)

pub taking_start : (r : Run) (s : List ℕ) (size count : ℕ) (list : List ℕ) → stage_of r ≡ 4 → length list ≡ count → count ≡ length (cut size s)
    → Taking r s size count list r 0 0
taking_start r s size count list e l c =
    record {
      within = omega arith;
      places = l;
      left = omega (arith, c);
      kept = kept_start r e;
      same_run = refl;
      same_numbers = refl;
    }

module _ {r next : Run} {s list : List ℕ} {size count from x : ℕ} (p : 0 < size) (h : Taking r s size count list next from x) where
  -- a row is left
  pub taking_some : x < count → from < length s
  taking_some l = go (dec_lt from (length s))
    where
      go : Dec (from < length s) → from < length s
      go (yes m) = m
      go (no m) = absurd (omega (arith, h.left, ap length (ap (cut size) (drop_of_length-le s {i = from} (omega arith)) ∙ cut_none size)))

  -- a turn: the next row is given to the run, and its number stored
  pub taking_next : x < count → {after : Run} {stored : List ℕ} {number n : ℕ} →
      let d = drop from s in
      n ≡ row_length size d
      → step_of next (take size d) ≡ record { run = after; number = number }
      → Kept r after → stored ≡ set list x number
      → Taking r s size count stored after (from + n) (x + 1)
  unfolding after_from numbers_from
  taking_next l {after} {stored} {number} {n} m e k f =
      let d = drop from s in
      let some = taking_some l in
      let long = length-drop from s in
      let rows : cut size d ≡ take size d ∷ cut size (drop size d) = cut_next size d p (omega arith) in
      let rest : cut size (drop (from + n) s) ≡ cut size (drop size d) = ap (λ (i : ℕ). cut size (drop (from + i) s)) m ∙ ap (cut size) (rest_is size from s) in
      let run_is : (step_of next (take size d)).run ≡ after = ap (λ (y : Reply). y.run) e in
      let number_is : (step_of next (take size d)).number ≡ number = ap (λ (y : Reply). y.number) e in
      record {
        within = omega (arith, long);
        places = ap length f ∙ length-set list x number ∙ h.places;
        left = omega (arith, h.left, ap length rows, ap length rest);
        kept = k;
        same_run =
            ap (after_from after) rest ∙ ap (λ (z : Run). after_from z (cut size (drop size d))) (sym run_is)
            ∙ sym (ap (after_from next) rows)
            ∙ h.same_run;
        same_numbers =
            ap₂ (λ (a b : List ℕ). a ++ b)
            (ap₂ (λ (n : ℕ) (t : List ℕ). take n t) (add-one x) f ∙ take-suc-set list x number (omega (arith, h.places)))
            (ap (numbers_from after) rest)
            ∙ append_assoc (take x list) (number ∷ []) (numbers_from after (cut size (drop size d)))
            ∙ ap (λ (t : List ℕ). take x list ++ t)
            (ap₂ (λ (k : ℕ) (z : Run). k ∷ numbers_from z (cut size (drop size d))) (sym number_is) (sym run_is) ∙ sym (ap (numbers_from next) rows))
            ∙ h.same_numbers;
      }

  -- the end: the run and the list are those of all rows
  none_left : count ≤ x → cut size (drop from s) ≡ []
  none_left l = go (cut size (drop from s)) refl
    where
      go : (rows : List (List ℕ)) → cut size (drop from s) ≡ rows → rows ≡ []
      go [] e = refl
      go (t ∷ rows) e = absurd (omega (arith, h.left, ap length e))

  pub taking_run : count ≤ x → next ≡ after_from r (cut size s)
  unfolding after_from
  taking_run l = sym (ap (after_from next) (none_left l)) ∙ h.same_run

  pub taking_numbers : count ≤ x → list ≡ numbers_from r (cut size s)
  unfolding numbers_from
  taking_numbers l =
      sym (take_all x list (omega (arith, h.places)))
      ∙ sym (append-nil (take x list))
      ∙ sym (ap (λ (t : List ℕ). take x list ++ t) (ap (numbers_from next) (none_left l)))
      ∙ h.same_numbers
