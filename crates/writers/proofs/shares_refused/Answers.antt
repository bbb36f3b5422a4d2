-- `shares_refused` meets its contract: the code asks what the definition asks, in its order. Assumes nothing.
use Rattle.std.proofs.Common.{◌≡◌, refl, sym, List, ℕ, ◌+◌, Bool, false, not, ap, ◌∙◌, eq-eqb, get_or}
use mathlib.Core.Bool.{◌&&◌, ◌||◌}
use Rattle.std.proofs.lemmas.Grind.{common_steps}
use native.Mathlib.Omega.{arith}
use Rattle.lists.specs.Tests.{all_to, require}
use Rattle.lists.specs.TestLaws.{left, test_number}
use Rattle.sets.specs.Masks.{has}
use Rattle.field.specs.Definitions.{is_scalar}
use Rattle.run.specs.declared.Run.{Run}
use Rattle.run.specs.Runs.{transcript_of}
use Rattle.answers.specs.Answers.{unblamed_of}
use Rattle.writers.specs.Writers.{shares_refused}
use Rattle.writers.proofs.WriterLaws.{qual_is}
use Rattle.writers.proofs.shares_refused.Goals as goal

-- the code asks by a mask
by_mask : (r : Run) (shares : List ℕ) {mask : ℕ} {b : Bool} → b ≡ all_to r.setup.n (λ i. not (has mask (i + 1)) || is_scalar (get_or shares i 0)) → mask ≡ unblamed_of r
    → b ≡ all_to r.setup.n (λ i. not ((transcript_of r).qual (i + 1)) || is_scalar (get_or shares i 0))
by_mask r shares h e = h ∙ ap (λ (f : ℕ → Bool). all_to r.setup.n (λ i. not (f (i + 1)) || is_scalar (get_or shares i 0))) (ap has e ∙ qual_is r)

pub returns-then-not-accepts : goal.returns-then-not-accepts
unfolding shares_refused
returns-then-not-accepts c =
    let a = c.args in
    let other : is_scalar a.key ≡ false = sym c.if-not-accepts.ensures in
    test_number _ _ _ (left _ _ _ refl (eq-eqb _ _ c.if-shares-n.false))
    (ap (λ (b : Bool). b && all_to a.run.setup.n (λ i. not ((transcript_of a.run).qual (i + 1)) || is_scalar (get_or a.shares.now i 0))) other)

pub returns-then-not-shares_in_range : goal.returns-then-not-shares_in_range
unfolding shares_refused require
returns-then-not-shares_in_range c =
    let fits = by_mask c.args.run c.args.shares.now c.shares_in_range.ensures c.unblamed.ensures in
    grind (arith, common_steps)

pub returns-then-room-response_length : goal.returns-then-room-response_length
unfolding shares_refused require
returns-then-room-response_length c =
    let fits = by_mask c.args.run c.args.shares.now c.shares_in_range.ensures c.unblamed.ensures in
    grind (arith, common_steps)

pub returns : goal.returns
unfolding shares_refused require
returns c =
    let fits = by_mask c.args.run c.args.shares.now c.shares_in_range.ensures c.unblamed.ensures in
    grind (arith, common_steps)
