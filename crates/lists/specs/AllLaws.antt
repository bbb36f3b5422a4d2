-- What `iter().all(..)` answers, as a test of the numbers below the list's length. Assumes nothing.
use Rattle.std.specs.Prelude.{◌≡◌, List, ℕ, ◌<◌, Bool, true, false, length, get_or}
use Rattle.std.proofs.Common.{sym, arith}
use Rattle.std.specs.Bool.{MatchBool}
use Rattle.std.specs.List.{AllWithin, HoldsAt}
use Rattle.lists.specs.Tests.{all_to}
use Rattle.lists.specs.TestLaws.{all_make, one_fails}

pub all_of : {A : Type 0} (p : A → Bool) (d : A) (l : List A) (r : Bool)
    → MatchBool r (AllWithin (λ x. p x ≡ true) l 0 (length l)) ((k : ℕ) × (k < length l) × HoldsAt (λ x. p x ≡ false) l k)
    → r ≡ all_to (length l) (λ i. p (get_or l i d))
all_of p d l true h = sym (all_make (length l) (λ i. p (get_or l i d)) (λ i c. h i d (omega arith) c))
all_of p d l false h = sym (one_fails (λ i. p (get_or l i d)) h.0 (length l) h.1 (h.2 d))
