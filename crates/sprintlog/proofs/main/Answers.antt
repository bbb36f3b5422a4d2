-- The room for a page is as long as it is made: the lemma says so, since the search would count.
use Rattle.std.proofs.Common.{ℕ, sym}
use Rattle.std.proofs.lemmas.List.{length-replicate}
use Rattle.sprintlog.proofs.main.Goals as goal

pub slice_bounds-print_page-end-3 : goal.slice_bounds-print_page-end-3
slice_bounds-print_page-end-3 c = sym (length-replicate {0} {A = ℕ} 625000 0)
