-- The laws of a page that is stored in a buffer text by text, each from its own place on. Assumes nothing.
use Rattle.std.specs.Prelude.{◌≡◌, refl, List, ◌++◌, ℕ, ◌+◌, ◌*◌, ◌≤◌, length}
use Rattle.std.proofs.Common.{sym, ap, ap₂, ◌∙◌, zero-add, arith, length-append}
use Rattle.std.proofs.lemmas.List.Edits.{sets}
use Rattle.std.proofs.Math.Seq.{length-sets}
use Rattle.lists.specs.StoreLaws.{sets_append}
use Rattle.text.specs.Lines.{set_line}
use Rattle.text.specs.Texts.{Wrote}
use Rattle.text.proofs.LineLaws.{set_line_max}

-- with the rest of a page still to be stored at a place, the page stands from 0 on; `Ahead` of specs/ is that of a `Page`
pub record Ahead (before after : List ℕ) (at : ℕ) (page rest : List ℕ) : Type 0 where
  pub place : at + length rest ≡ length page
  pub bytes : sets after at rest ≡ sets before 0 page

pub ahead_start : (l page : List ℕ) → Ahead l l 0 page page
ahead_start l page = record { place = zero-add (length page); bytes = refl }

pub ahead_length : {l m : List ℕ} {i : ℕ} {page rest : List ℕ} → Ahead l m i page rest → length m ≡ length l
ahead_length {l} {m} {i} {page} {rest} a = sym (length-sets m i rest) ∙ ap length a.bytes ∙ length-sets l 0 page

-- the next text is stored, and the rest is ahead
pub ahead_next : {l m k : List ℕ} {i j : ℕ} {page text rest : List ℕ} → Ahead l m i page (text ++ rest) → Wrote m k i j text → Ahead l k j page rest
ahead_next {l} {m} {k} {i} {j} {page} {text} {rest} a w =
    record {
      place = omega (arith, length-append text rest, a.place, w.place);
      bytes = ap₂ (λ (b : List ℕ) (at : ℕ). sets b at rest) w.bytes w.place ∙ sym (sets_append text rest m i) ∙ a.bytes;
    }

-- the rest is stored
pub ahead_last : {l m k : List ℕ} {i j : ℕ} {page rest : List ℕ} → Ahead l m i page rest → Wrote m k i j rest → Wrote l k 0 j page
ahead_last {l} {m} {k} {i} {j} {page} {rest} a w = record { place = omega (arith, a.place, w.place); bytes = w.bytes ∙ a.bytes }

-- where the line of a set ends at most
pub set_place : {l m : List ℕ} {i j : ℕ} (word : List ℕ) (n mask : ℕ) → Wrote l m i j (set_line word n mask) → j ≤ i + (length word + 11 * n + 3)
set_place word n mask w = omega (arith, w.place, set_line_max word n mask)
