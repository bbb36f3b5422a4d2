-- There is room for as many lines as there are entries, and one more.
use Rattle.std.proofs.Common.{◌≡◌, ◌+◌, ◌*◌, ◌≤◌, length}
use Rattle.teller.proofs.put_entries.Given as goal

abbrev pub invariant-loop-entry : goal.invariant-loop-entry
invariant-loop-entry l =
    (l.page.out.ghost_name ≡ l.initial.page.out.ghost_name)
    × (length l.page.out.now ≡ length l.initial.page.out.now)
    × (l.page.len ≤ l.initial.page.len + 39 * length l.yielded)
