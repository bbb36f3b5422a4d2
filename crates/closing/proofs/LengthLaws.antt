-- How long the closing of a page is at most. Assumes nothing.
use Rattle.std.specs.Prelude.{List, [], ◌∷◌, ℕ, ◌*◌, ◌≤◌, length, eqb}
use Rattle.std.proofs.Common.{arith, length-append, eqb-true}
use Rattle.lists.specs.Tests.{pick}
use Rattle.lists.specs.TestLaws.{pick_case}
use Rattle.parameters.specs.Definitions.{most_parties}
use Rattle.parameters.specs.ParameterLaws.{cells_max}
use Rattle.text.proofs.LineLaws.{line_max, set_line_max}
use Rattle.run.specs.declared.Run.{Run}
use Rattle.run.specs.Runs.{stage_of}
use Rattle.run.specs.RunLaws.{formed_of, formed_batch, stage_live}
use Rattle.answers.specs.Answers.{shown_sets}
use Rattle.closing.specs.Closing.{hold_word, qual_word, bad_word, end_word, most_sets, most_lines, most_closing, signature_lines, set_lines, closing}
use Rattle.closing.proofs.SignatureLaws.{signatures_max}

-- at stage 5 the lines of all signatures
pub signed_max : (r : Run) → length (pick (eqb (stage_of r) 5) (signature_lines r (r.setup.a * r.b)) []) ≤ most_lines
signed_max r =
    let m = r.setup.a * r.b in
    pick_case (λ (l : List ℕ). length l ≤ most_lines) (eqb (stage_of r) 5) (signature_lines r m) []
    (λ e. let formed = formed_of r (stage_live r 5 (eqb-true _ _ e) (omega arith) (omega arith)).1 in omega (arith, signatures_max r m, cells_max formed.bounds (formed_batch formed)))
    (λ e. omega arith)

pub sets_max : (r : Run) → r.setup.n ≤ most_parties → length (set_lines r) ≤ most_sets
unfolding set_lines
sets_max r h =
    let n = r.setup.n in
    simp length-append (omega (arith, set_line_max hold_word n (shown_sets r).hold, set_line_max qual_word n (shown_sets r).qual, set_line_max bad_word n (shown_sets r).bad))

pub closing_max : (r : Run) → r.setup.n ≤ most_parties → length (closing r) ≤ most_closing
unfolding closing
closing_max r h = simp length-append (omega (arith, sets_max r h, signed_max r, line_max end_word (stage_of r ∷ [])))
