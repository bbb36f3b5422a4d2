-- `put_each` meets its contract. The loop has put what the rule gave for the numbers passed. Assumes nothing.
use Rattle.std.proofs.Common.{◌≡◌, ℕ, ◌+◌, ◌<◌}
use Rattle.encoding.proofs.StoreLaws.{put_first}
use Rattle.encoding.proofs.put_each.Given as goal

abbrev pub invariant-loop-i : goal.invariant-loop-i
invariant-loop-i g l =
    (f : ℕ → ℕ) → ((v : ℕ) → v < l.count → (x : ℕ) → goal.F-post g l.rule (v + 1) x → x ≡ f v) → l.out ≡ put_first l.initial.out f l.i
