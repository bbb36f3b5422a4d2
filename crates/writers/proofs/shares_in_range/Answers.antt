-- `shares_in_range` meets its contract: each share is asked with its dealer's number. Assumes nothing.
use Rattle.std.proofs.Common.{◌≡◌, ◌∙◌, ap, rules, List, ℕ, ◌+◌, Bool, not, true, false, length, get_or, zero-add, arith}
use mathlib.Core.Bool.{◌||◌}
use borrow.Author.Tests.{tests}
use Rattle.std.specs.List.{enumerate_from}
use Rattle.std.proofs.lemmas.Iterator.{cases_from_all, YieldsList-from_slice}
use Rattle.std.proofs.lemmas.Iterator.Consumers.{YieldsList-from_enumerate}
use Rattle.std.proofs.lemmas.List.FromFn.{length-enumerate_from, get_or-enumerate_from}
use Rattle.lists.specs.AllLaws.{all_of}
use Rattle.lists.specs.Tests.{all_to}
use Rattle.lists.specs.TestLaws.{all_cong}
use Rattle.sets.specs.Masks.{has}
use Rattle.field.specs.Definitions.{is_scalar}
use Rattle.writers.proofs.shares_in_range.Goals as goal

-- a test of the items of a list with their places
all_placed : (fits : ℕ × ℕ → Bool) (l : List ℕ) (n : ℕ) → length l ≡ n
    → all_to (length (enumerate_from 0 l)) (λ i. fits (get_or (enumerate_from 0 l) i (0, 0))) ≡ all_to n (λ i. fits (i, get_or l i 0))
all_placed fits l n e =
    let placed : List (ℕ × ℕ) = enumerate_from 0 l in
    ap (λ (m : ℕ). all_to m (λ i. fits (get_or placed i (0, 0)))) (length-enumerate_from 0 l ∙ e)
    ∙ all_cong n _ _ (λ i c. ap fits (get_or-enumerate_from 0 l i (0, 0) (omega (arith, e)) ∙ ap (λ (k : ℕ). (k, get_or l i 0)) (zero-add i)))

pub returns : goal.returns
returns c =
    let a = c.args in
    let fits : ℕ × ℕ → Bool = λ p. not (has a.qual (p.0 + 1)) || is_scalar p.1 in
    all_of fits (0, 0) (enumerate_from 0 a.shares.now) c.all.result
    (cases_from_all _ _ c.all.result (λ p. fits p ≡ true) (λ p. fits p ≡ false) c.all.ensures.ran (YieldsList-from_enumerate (YieldsList-from_slice a.shares.now (cc)) (cc)) (λ x q k. search (rules, tests)) (λ x q k. search (rules, tests)))
    ∙ all_placed fits a.shares.now a.n c.requires
