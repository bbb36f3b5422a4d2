-- `put_powers` meets its contract. The loop has put the powers passed. Assumes nothing.
use Rattle.std.proofs.Common.{◌≡◌, get_or}
use Rattle.encoding.specs.Bytes.{power_of_four}
use Rattle.encoding.proofs.StoreLaws.{put_first}
use Rattle.encoding.proofs.put_powers.Given as goal

abbrev pub invariant-loop-i : goal.invariant-loop-i
invariant-loop-i l = l.out ≡ put_first l.initial.out (λ k. power_of_four (get_or l.list k 0)) l.i
