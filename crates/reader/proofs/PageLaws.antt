-- The page that a rule makes of a log, as the code hands it over. Assumes nothing.
use Rattle.std.specs.Prelude.{◌≡◌, refl, Bool, true, false, Option, Some, None, List, [], ℕ, ◌≤◌, ◌<◌, length, ltb}
use Rattle.std.proofs.Common.{ap, ap₂, ◌∙◌, arith, lt-ltb, le-ltb}
use Rattle.std.proofs.lemmas.List.Edits.{sets}
use Rattle.lists.specs.Tests.{pick}
use Rattle.text.specs.Lines.{line}
use Rattle.text.specs.declared.Page.{Page}
use Rattle.text.specs.Texts.{Added}
use Rattle.reader.specs.Cutting.{some_length}
use Rattle.reader.specs.Report.{long_word, longest}
use Rattle.reader.specs.Printed.{page_by, Handed}
use Rattle.reader.proofs.TagLaws.{some_there, some_none}

-- too little room
pub handed_none : {rule : List ℕ → List ℕ} {room : ℕ} {log before : List ℕ} → length before < room → Handed rule room log before None before
handed_none {rule} {room} {log} {before} small = let b = lt-ltb (length before) room small in record { size = rw b refl; bytes = rw b refl }

module _ {rule : List ℕ → List ℕ} {room : ℕ} {log before out : List ℕ} {p q : Page} (there : room ≤ length before) (empty : (p.len ≡ 0) × (p.out.now ≡ before)) where
  -- the whole page was added to an empty one
  handed_text : (text : List ℕ) → page_by rule log ≡ text → Added p q text → out ≡ q.out.now → Handed rule room log before (Some q.len) out
  handed_text text is a last =
      let b = le-ltb (length before) room there in
      let size : q.len ≡ length text = omega (arith, a.wrote.place, empty.0) in
      record {
        size = rw (b, is) (ap (λ (n : ℕ). Some n) size);
        bytes = rw (b, is) (last ∙ a.wrote.bytes ∙ ap₂ (λ (l : List ℕ) (at : ℕ). sets l at text) empty.1 empty.0);
      }

  -- of a log that is too long
  pub handed_long : longest < length log → Added p q (line long_word []) → out ≡ q.out.now → Handed rule room log before (Some q.len) out
  unfolding page_by
  handed_long long = handed_text (line long_word []) (rw (lt-ltb longest (length log) long) refl)

  -- of any other, by the rule
  pub handed_rule : length log ≤ longest → Added p q (rule log) → out ≡ q.out.now → Handed rule room log before (Some q.len) out
  unfolding page_by
  handed_rule short = handed_text (rule log) (rw (le-ltb longest (length log) short) refl)

-- the size of a page that has bytes
pub handed_size : {rule : List ℕ → List ℕ} {room : ℕ} {log before out : List ℕ} {answer : Option ℕ} → Handed rule room log before answer out → 0 < length (page_by rule log)
    → answer ≡ some_length (length (pick (ltb (length before) room) [] (page_by rule log)))
handed_size {rule} {room} {log} {before} h p = h.size ∙ go (ltb (length before) room)
  where
    go : (b : Bool) → pick b None (Some (length (page_by rule log))) ≡ some_length (length (pick b [] (page_by rule log)))
    go true = some_none refl
    go false = some_there refl p
