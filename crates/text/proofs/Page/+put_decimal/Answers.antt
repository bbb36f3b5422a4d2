-- `put_decimal` meets its contract: the digits before the last, if there are any, and then the last. Assumes nothing.
use mathlib.Core.Path.{ap}
use mathlib.Core.List.{List, []}
use Prim.Native.Nat.{ℕ, ◌/◌, ◌^◌, ◌≤◌, ◌<◌}
use native.Mathlib.Omega.{arith}
use borrow.Author.Tests.{lt-ltb, le-ltb}
use lib.Dec.{ltb}
use lib.ListN.{length, length-append}
use Rattle.lists.specs.Tests.{pick}
use Rattle.text.specs.Lines.{decimal}
use Rattle.text.specs.Texts.{Added}
use Rattle.text.proofs.TextLaws.{added_none, added_append, room_after}
use Rattle.text.proofs.LineLaws.{decimal_last, decimal_max}
use Rattle.text.proofs.Page.+put_decimal.Goals as goal
use Rattle.text.proofs.Page.+put_decimal.Goals.{then-more, else-more}

-- the digits before the last
abbrev leading : ℕ → List ℕ
leading n = pick (ltb n 10) [] (decimal (n / 10))

leading_max : (n : ℕ) → n < 2 ^ 32 → length (leading n) ≤ 9
leading_max n h = omega (arith, simp length-append at (ap length (decimal_last n h)), decimal_max n)

pub put_byte-requires : goal.put_byte-requires
put_byte-requires t c =
    let led : Added c.args.self.now c.if-more.self (leading c.args.n) =
    elim c.if-more.branch [
      | then-more w ↦ rw (w.self-is, le-ltb c.args.n 10 w.if-more.true) w.put_decimal.ensures
      | else-more w ↦ rw (w.self-is, lt-ltb c.args.n 10 w.if-more.false) (added_none _)
    ] in
    room_after 1 led (omega (arith, leading_max c.args.n (omega arith), c.requires))

pub returns : goal.returns
returns t c =
    let led : Added c.args.self.now c.if-more.self (leading c.args.n) =
    elim c.if-more.branch [
      | then-more w ↦ rw (w.self-is, le-ltb c.args.n 10 w.if-more.true) w.put_decimal.ensures
      | else-more w ↦ rw (w.self-is, lt-ltb c.args.n 10 w.if-more.false) (added_none _)
    ] in
    rw (decimal_last c.args.n (omega arith)) (added_append led c.put_byte.ensures)
