-- The laws of stores and of filled lists. Assumes nothing.
use Rattle.std.specs.Prelude.{◌≡◌, ◌≢◌, length, replicate}
use Rattle.std.proofs.Math.Path.{refl, ap, ap₂}
use Rattle.std.proofs.Common.{sym, ◌∙◌, arith, zero-add, add-zero, add-suc, suc-add, add-one, take, drop, length-take, take-append-drop, get_or-set_same}
use Rattle.std.proofs.lemmas.List.{set-append_left}
use mathlib.Core.List.{List, [], ◌∷◌, ◌++◌}
use Prim.Native.Nat.{ℕ, zero, suc, ◌+◌, ◌-◌, ◌≤◌, ◌<◌, min}
use Rattle.std.proofs.Math.Decide.{ℕ_discrete, dec_le, dec_lt}
use Rattle.std.proofs.Math.ListN.{get_or, set, length-set, length-replicate, get_or-replicate, get_or-eq_default}
use Rattle.std.proofs.lemmas.List.Edits.{sets}
use Rattle.std.proofs.Math.Seq.{set_out, get_or-set_other}
use Rattle.lists.specs.Stores.{filled, stored}

module _ {A : Type 0} where
  -- ---- stores

  pub length_stored : (l : List A) (base k : ℕ) (f : ℕ → A) → length (stored l base k f) ≡ length l
  unfolding stored
  length_stored l base zero f = refl
  length_stored l base (suc k) f = length-set (stored l base k f) (base + k) (f k) ∙ length_stored l base k f

  -- two lists stored one after the other are stored as one
  pub sets_append : (s t l : List A) (at : ℕ) → sets l at (s ++ t) ≡ sets (sets l at s) (at + length s) t
  sets_append [] t l at = ap (λ (k : ℕ). sets l k t) (sym (add-zero at))
  sets_append (x ∷ s) t l at =
      sets_append s t (set l at x) (suc at) ∙ ap (λ (k : ℕ). sets (sets (set l at x) (suc at) s) k t) (suc-add at (length s) ∙ sym (add-suc at (length s)))

  -- one store more, as a loop counts
  pub stored_next : (l : List A) (base k : ℕ) (f : ℕ → A) → stored l base (k + 1) f ≡ set (stored l base k f) (base + k) (f k)
  unfolding stored
  stored_next l base k f = ap (λ (m : ℕ). stored l base m f) (add-one k)

  -- the same from the front
  pub stored_first : (l : List A) (k : ℕ) (f : ℕ → A) → stored l 0 (k + 1) f ≡ set (stored l 0 k f) k (f k)
  stored_first l k f = stored_next l 0 k f ∙ ap (λ (p : ℕ). set (stored l 0 k f) p (f k)) (zero-add k)

  -- stores past the end change nothing
  pub stored_capped : (l : List A) (m : ℕ) (f : ℕ → A) → stored l 0 (min m (length l)) f ≡ stored l 0 m f
  stored_capped l m f = go (dec_le m (length l))
    where
      past : (k : ℕ) → stored l 0 (length l + k) f ≡ stored l 0 (length l) f
      past zero = ap (λ (i : ℕ). stored l 0 i f) (add-zero (length l))
      past (suc k) =
          ap (λ (i : ℕ). stored l 0 i f) (add-suc (length l) k ∙ sym (add-one (length l + k)))
          ∙ stored_first l (length l + k) f
          ∙ set_out (stored l 0 (length l + k) f) (length l + k) (f (length l + k)) (omega (arith, length_stored l 0 (length l + k) f))
          ∙ past k

      go : Dec (m ≤ length l) → stored l 0 (min m (length l)) f ≡ stored l 0 m f
      go (yes h) = ap (λ (i : ℕ). stored l 0 i f) (omega arith)
      go (no h) =
          let least : min m (length l) ≡ length l = omega arith in
          let rest : m ≡ length l + (m - length l) = omega arith in
          ap (λ (i : ℕ). stored l 0 i f) least ∙ sym (past (m - length l)) ∙ ap (λ (i : ℕ). stored l 0 i f) (sym rest)

  -- stores into the first places alone, as a loop over a slice makes them
  pub stored_front : (l : List A) (m k : ℕ) (f : ℕ → A) → m ≤ length l → k ≤ m → stored (take m l) 0 k f ++ drop m l ≡ stored l 0 k f
  unfolding stored
  stored_front l m zero f h c = take-append-drop m l
  stored_front l m (suc k) f h c =
      sym (set-append_left (stored (take m l) 0 k f) (drop m l) (0 + k) (f k) (omega (arith, length_stored (take m l) 0 k f, length-take m l)))
      ∙ ap (λ (s : List A). set s (0 + k) (f k)) (stored_front l m k f h (omega arith))

  -- what was stored is read there
  pub stored_at : (l : List A) (base k : ℕ) (f : ℕ → A) (d : A) → base + k ≤ length l → (i : ℕ) → i < k → get_or (stored l base k f) (base + i) d ≡ f i
  unfolding stored
  stored_at l base zero f d h i c = absurd (omega arith)
  stored_at l base (suc k) f d h i c = go (ℕ_discrete i k) (λ b. stored_at l base k f d (omega arith) i b)
    where
      go : Dec (i ≡ k) → (i < k → get_or (stored l base k f) (base + i) d ≡ f i) → get_or (set (stored l base k f) (base + k) (f k)) (base + i) d ≡ f i
      go (yes e) ih = rw e (get_or-set_same (stored l base k f) (base + k) (f k) d (omega (arith, length_stored l base k f)))
      go (no ne) ih = get_or-set_other (stored l base k f) (base + k) (base + i) (f k) d (omega arith) ∙ ih (omega arith)

  pub stored_from : (l : List A) (k : ℕ) (f : ℕ → A) (d : A) → k ≤ length l → (i : ℕ) → i < k → get_or (stored l 0 k f) i d ≡ f i
  stored_from l k f d h i c = ap (λ (x : ℕ). get_or (stored l 0 k f) x d) (sym (zero-add i)) ∙ stored_at l 0 k f d (omega arith) i c

  -- every other place is as it was
  pub stored_other : (l : List A) (base k : ℕ) (f : ℕ → A) (d : A) (p : ℕ) → ((i : ℕ) → i < k → p ≢ base + i) → get_or (stored l base k f) p d ≡ get_or l p d
  unfolding stored
  stored_other l base zero f d p h = refl
  stored_other l base (suc k) f d p h =
      get_or-set_other (stored l base k f) (base + k) p (f k) d (h k (omega arith)) ∙ stored_other l base k f d p (λ i c. h i (omega arith))

  pub stored_cong : (l : List A) (base k : ℕ) (f g : ℕ → A) → ((i : ℕ) → i < k → f i ≡ g i) → stored l base k f ≡ stored l base k g
  unfolding stored
  stored_cong l base zero f g h = refl
  stored_cong l base (suc k) f g h = ap₂ (λ (r : List A) (x : A). set r (base + k) x) (stored_cong l base k f g (λ i c. h i (omega arith))) (h k (omega arith))

  -- within the list the default does not count
  pub get_d_default : (l : List A) (i : ℕ) (d e : A) → i < length l → get_or l i d ≡ get_or l i e
  get_d_default [] i d e h = absurd (omega arith)
  get_d_default (x ∷ l) zero d e h = refl
  get_d_default (x ∷ l) (suc i) d e h = get_d_default l i d e (omega arith)

  -- ---- one element throughout

  -- as the code makes it, before the first store
  pub stored_none : (n : ℕ) (x : A) (f : ℕ → A) → replicate n x ≡ stored (filled n x) 0 0 f
  unfolding stored filled
  stored_none n x f = refl

  pub length_filled : (n : ℕ) (x : A) → length (filled n x) ≡ n
  unfolding filled
  length_filled n x = length-replicate n x

  pub get_or_filled : (n : ℕ) (x : A) (i : ℕ) → get_or (filled n x) i x ≡ x
  unfolding filled
  get_or_filled n x i = go (dec_lt i n)
    where
      go : Dec (i < n) → get_or (replicate n x) i x ≡ x
      go (yes l) = get_or-replicate n i x x l
      go (no ne) = get_or-eq_default (replicate n x) x (omega (arith, length-replicate n x))
