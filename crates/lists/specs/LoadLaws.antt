-- What the loops that load a list come to: one store a turn, and past the list's end none.
-- Assumes nothing.
use Rattle.std.proofs.Common.{arith, sym, ap, ◌∙◌, ◌++◌, take, drop, length-take, zero-add}
use Rattle.std.proofs.lemmas.List.{length-replicate}
use Rattle.std.specs.Prelude.{◌≡◌, List, ℕ, ◌+◌, ◌≤◌, ◌<◌, length, set, replicate}
use Rattle.std.proofs.Math.Path.{refl}
use Rattle.std.proofs.Math.Seq.{set_out}
use Rattle.lists.specs.Stores.{stored, filled}
use Rattle.lists.specs.StoreLaws.{stored_next, stored_front, length_stored, length_filled}

module _ {A : Type 0} (list : List A) (base k : ℕ) (f : ℕ → A) where
  -- a turn that stores
  pub load_in : {before after : List A} {at : ℕ} {x : A}
      → before ≡ stored list base k f
      → at ≡ base + k
      → x ≡ f k
      → after ≡ set before at x
      → after ≡ stored list base (k + 1) f
  load_in b p v e = e ∙ rw (b, p, v) (sym (stored_next list base k f))

  -- a turn past the end
  pub load_past : {before after : List A} → before ≡ stored list base k f → length list ≤ base + k → after ≡ before → after ≡ stored list base (k + 1) f
  load_past b l e =
      let long : length (stored list base k f) ≤ base + k = omega (arith, length_stored list base k f) in
      e ∙ b ∙ sym (stored_next list base k f ∙ set_out (stored list base k f) (base + k) (f k) long)

  -- the end
  pub loaded : {after : List A} {count : ℕ} → after ≡ stored list base k f → k ≡ count → after ≡ stored list base count f
  loaded e c = e ∙ ap (λ (m : ℕ). stored list base m f) c

-- ---- a loop over the first m places of an array of n times d

module _ {A : Type 0} (n : ℕ) (d : A) (m : ℕ) (f : ℕ → A) where
  -- those places once k of them are stored
  abbrev pub part : ℕ → List A
  part k = stored (take m (filled n d)) 0 k f

  pub part_none : take m (replicate n d) ≡ part 0
  unfolding stored filled
  part_none = refl

  pub part_next : (k : ℕ) {items : List A} {x : A} → items ≡ part k → x ≡ f k → set items k x ≡ part (k + 1)
  part_next k e v = load_in (take m (filled n d)) 0 k f e (sym (zero-add k)) v refl

  pub part_long : (k : ℕ) {items : List A} → items ≡ part k → m ≤ n → length items ≡ m
  part_long k e l = omega (arith, l, ap length e, length_stored (take m (filled n d)) 0 k f, length-take m (filled n d), length_filled n d)

  -- the array with them
  pub part_whole : (k : ℕ) {items : List A} → items ≡ part k → m ≤ n → k ≤ m → items ++ drop m (replicate n d) ≡ stored (filled n d) 0 k f
  unfolding filled
  part_whole k e l b = ap (λ (s : List A). s ++ drop m (replicate n d)) e ∙ stored_front (replicate n d) m k f (omega (arith, l, length-replicate n d)) b

-- ---- the same with the bounds of the loop

-- of count values k are stored, in a list of so many places
pub record Loading {A : Type 0} (size : ℕ) (list : List A) (base count : ℕ) (f : ℕ → A) (k : ℕ) (next : List A) : Type 0 where
  pub within : k ≤ count
  pub long : length list ≡ size
  pub next_is : next ≡ stored list base k f

module _ {A : Type 0} {size : ℕ} {list : List A} {base count : ℕ} {f : ℕ → A} where
  pub loading_none : length list ≡ size → Loading size list base count f 0 list
  unfolding stored
  loading_none e = record { within = omega arith; long = e; next_is = refl }

  module _ {k : ℕ} {before : List A} (h : Loading size list base count f k before) where
    pub loading_in : {after : List A} {at : ℕ} {x : A} → k < count → at ≡ base + k → x ≡ f k → after ≡ set before at x → Loading size list base count f (k + 1) after
    loading_in l p v e = record { within = omega arith; long = h.long; next_is = load_in list base k f h.next_is p v e }

    pub loading_past : {after : List A} → k < count → size ≤ base + k → after ≡ before → Loading size list base count f (k + 1) after
    loading_past l m e = record { within = omega arith; long = h.long; next_is = load_past list base k f h.next_is (omega (arith, h.long)) e }

    pub loading_end : count ≤ k → before ≡ stored list base count f
    loading_end l = loaded list base k f h.next_is (omega (arith, h.within))
