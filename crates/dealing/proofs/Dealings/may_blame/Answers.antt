-- `Dealings::may_blame` meets its contract. Assumes nothing.
use mathlib.Core.Path.{ap}
use mathlib.Core.Bool.{not}
use borrow.Author.Tests.{not-false}
use borrow.Author.Rules.{rules}
use native.Mathlib.Omega.{arith}
use mathlib.Core.Path.{◌≡◌, sym}
use mathlib.Core.Bool.{false}
use lib.ListN.{length}
use Rattle.lists.specs.CallLaws.{fails}
use Rattle.sets.specs.Masks.{has}
use Rattle.parameters.specs.Definitions.{most_parties}
use Rattle.dealing.specs.Definitions.{may_blame}
use Rattle.dealing.proofs.Blames.{blame_none, blame_past}
use Rattle.dealing.proofs.Dealings.may_blame.Goals as goal

pub returns-then-i-lt1 : goal.returns-then-i-lt1
returns-then-i-lt1 c =
    let a = c.args in
    let none : a.i ≡ 0 = omega arith in
    rw none (sym (blame_none a.self.now a.j))

pub returns-then-i-gt-MOST_PARTIES : goal.returns-then-i-gt-MOST_PARTIES
returns-then-i-gt-MOST_PARTIES c =
    let a = c.args in
    let long : length a.self.now.wrong ≡ most_parties = search rules in
    sym (blame_past a.self.now a.j a.i (omega arith))

pub returns-then-not-has : goal.returns-then-not-has
unfolding may_blame
returns-then-not-has c =
    let a = c.args in
    let undealt : has a.self.now.dealers a.i ≡ false = fails c.has.ensures (ap not c.if-not-has.true) in
    rw undealt

pub returns : goal.returns
unfolding may_blame
returns c =
    let dealer = c.before.before in
    rw (← dealer.has.ensures, not-false dealer.has.result (ap not dealer.if-not-has.false)) c.has-2.ensures
