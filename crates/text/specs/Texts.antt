-- Texts stored in a buffer at a place, and texts added to a page.
use Rattle.std.specs.Prelude.{◌≡◌, List, ◌++◌, ℕ, ◌+◌, ◌≤◌, length}
use Rattle.std.proofs.lemmas.List.Edits.{sets}
use Rattle.text.specs.declared.Page.{Page}

-- a text stands from a place on, which was not so before, and next is the place after it
pub record Wrote (before after : List ℕ) (at next : ℕ) (text : List ℕ) : Type 0 where
  pub place : next ≡ at + length text
  pub bytes : after ≡ sets before at text

-- a page has room for so many bytes more
abbrev pub Room : Page → ℕ → Type 0
Room p k = p.len + k ≤ length p.out.now

-- a text was added to a page: it stands behind what the page had, in the same buffer
pub record Added (before after : Page) (text : List ℕ) : Type 0 where
  pub buffer : after.out.ghost_name ≡ before.out.ghost_name
  pub wrote : Wrote before.out.now after.out.now before.len after.len text

-- of texts for a page all but the rest was added
pub record Ahead (before after : Page) (whole rest : List ℕ) : Type 0 where
  pub done : List ℕ
  pub split : whole ≡ done ++ rest
  pub added : Added before after done
