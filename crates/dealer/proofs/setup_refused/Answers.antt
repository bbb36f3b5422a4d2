-- `setup_refused` meets its contract: the code asks what the definition asks, in its order. Assumes nothing.
use Rattle.std.proofs.Common.{◌≡◌, refl, sym, ap, ap₂, Bool, true, false, eq-eqb, ne_eqb, get_or}
use Rattle.std.specs.Prelude.{◌&&◌}
use borrow.Author.Tests.{le-ltb}
use native.Mathlib.Nat.{le_of_eq}
use Rattle.lists.specs.Tests.{all_to}
use Rattle.lists.specs.TestLaws.{left, test_number}
use Rattle.field.specs.Definitions.{is_scalar}
use Rattle.dealer.specs.Dealt.{setup_refused}
use Rattle.dealer.proofs.setup_refused.Goals as goal

pub returns-then-shares-t : goal.returns-then-shares-t
unfolding setup_refused
returns-then-shares-t c = test_number _ _ _ (left _ _ _ refl (sym c.if-not-in_bounds.ensures)) (ne_eqb _ _ c.if-shares-t.true)

pub returns-then-not-accepts : goal.returns-then-not-accepts
unfolding setup_refused
returns-then-not-accepts c =
    let a = c.args in
    let other : is_scalar a.s ≡ false = sym c.if-not-accepts.ensures in
    test_number _ _ _ (left _ _ _ (left _ _ _ refl (sym c.if-not-in_bounds.ensures)) (eq-eqb _ _ c.if-shares-t.false))
    (ap (λ (b : Bool). b && all_to a.t (λ j. is_scalar (get_or a.shares.now j 0))) other)

pub returns-then-none : goal.returns-then-none
unfolding setup_refused
returns-then-none c =
    let a = c.args in
    let none : a.s ≡ 0 = c.if-none.true in
    let shares : all_to a.t (λ j. is_scalar (get_or a.shares.now j 0)) ≡ true = rw (← c.if-shares-t.false) (sym c.if-not-all_scalars.ensures) in
    test_number _ _ _ (left _ _ _ (left _ _ _ (left _ _ _ refl (sym c.if-not-in_bounds.ensures)) (eq-eqb _ _ c.if-shares-t.false)) (ap₂ ◌&&◌ (sym c.if-not-accepts.ensures) shares))
    (le-ltb 0 a.s (le_of_eq none))
