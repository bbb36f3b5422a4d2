-- What a list with one more record at its end has. Assumes nothing.
use Rattle.std.specs.Prelude.{◌≡◌, ◌≢◌, Bool, ◌||◌, ℕ}
use Rattle.std.proofs.Math.Path.{refl}
use Rattle.std.proofs.Common.{sym, ap, ◌∙◌, eqb-true, eq-eqb, ne_eqb}
use Rattle.std.proofs.Math.Bool.{true, false, or-false, or_assoc}
use mathlib.Core.List.{List, [], ◌∷◌, ◌++◌}
use Rattle.std.proofs.Math.Dec.{eqb}
use Rattle.std.proofs.lemmas.Bool.{eqb-false}
use Rattle.lists.specs.Tests.{pick}
use Rattle.lists.specs.TestLaws.{pick_case, no_both}
use Rattle.lists.specs.Members.{All}
use Rattle.records.specs.Bytes.{sender}
use Rattle.records.specs.Tags.{Tag, code, tag_of}
use Rattle.promises.specs.Lists.{of_tag, some, sent_by, record_of}

-- the list with s at its end
abbrev pub snoc : List (List ℕ) → List ℕ → List (List ℕ)
snoc l s = l ++ (s ∷ [])

-- records by tag, with one more of tag g
abbrev pub more : Tag → List ℕ → (Tag → List (List ℕ)) → Tag → List (List ℕ)
more g s f k = pick (eqb (code g) (code k)) (snoc (f k) s) (f k)

pub of_tag_snoc : (l : List (List ℕ)) (s : List ℕ) (k : Tag) → of_tag k (snoc l s) ≡ more (tag_of s) s (λ g. of_tag g l) k
unfolding of_tag
of_tag_snoc [] s k = refl
of_tag_snoc (x ∷ l) s k =
    ap (λ (m : List (List ℕ)). pick (eqb (code (tag_of x)) (code k)) (x ∷ m) m) (of_tag_snoc l s k)
    ∙ order (eqb (code (tag_of x)) (code k)) (eqb (code (tag_of s)) (code k)) (of_tag k l)
  where
    order : (b c : Bool) (m : List (List ℕ)) → pick b (x ∷ pick c (snoc m s) m) (pick c (snoc m s) m) ≡ pick c (snoc (pick b (x ∷ m) m) s) (pick b (x ∷ m) m)
    order true true m = refl
    order true false m = refl
    order false c m = refl

pub some_snoc : (p : List ℕ → Bool) (l : List (List ℕ)) (s : List ℕ) → some p (snoc l s) ≡ (some p l || p s)
unfolding some
some_snoc p [] s = or-false (p s)
some_snoc p (x ∷ l) s = ap (λ (b : Bool). p x || b) (some_snoc p l s) ∙ sym (or_assoc (p x) (some p l) (p s))

-- a record that passes, of those that all have a property
pub some_all : (p : List ℕ → Bool) (P : List ℕ → Type 0) (l : List (List ℕ)) → All P l → some p l ≡ true → (s : List ℕ) × (p s ≡ true) × P s
unfolding some
some_all p P [] h e = absurd (no_both e refl)
some_all p P (x ∷ l) h e = go (p x) refl e (some_all p P l h.1)
  where
    go : (b : Bool) → p x ≡ b → (b || some p l) ≡ true → (some p l ≡ true → (s : List ℕ) × (p s ≡ true) × P s) → (s : List ℕ) × (p s ≡ true) × P s
    go true d e later = (x, d, h.0)
    go false d e later = later e

module _ (i : ℕ) where
  -- ---- the records of sender i

  pub sent_by_other : (l : List (List ℕ)) (s : List ℕ) → sender s ≢ i → sent_by i (snoc l s) ≡ sent_by i l
  sent_by_other l s d = some_snoc _ l s ∙ rw (ne_eqb (sender s) i d) (or-false (sent_by i l))

  pub none_sent : (l : List (List ℕ)) → sent_by i l ≡ false → All (λ s. sender s ≢ i) l
  unfolding some
  none_sent [] e = tt
  none_sent (x ∷ l) e = go (eqb (sender x) i) refl e (none_sent l)
    where
      go : (b : Bool) → eqb (sender x) i ≡ b → (b || sent_by i l) ≡ false → (sent_by i l ≡ false → All (λ s. sender s ≢ i) l) → All (λ s. sender s ≢ i) (x ∷ l)
      go true d e rest = absurd (no_both refl e)
      go false d e rest = (eqb-false (sender x) i d, rest e)

  -- what all records have, its own has
  pub record_of_all : (P : List ℕ → Type 0) (l : List (List ℕ)) → All P l → sent_by i l ≡ true → P (record_of i l)
  unfolding some record_of
  record_of_all P [] h e = absurd (no_both e refl)
  record_of_all P (x ∷ l) h e = pick_case P (eqb (sender x) i) x (record_of i l) (λ d. h.0) (λ d. record_of_all P l h.1 (rw d at e))

  pub record_of_sender : (l : List (List ℕ)) → sent_by i l ≡ true → sender (record_of i l) ≡ i
  unfolding some record_of
  record_of_sender [] e = absurd (no_both e refl)
  record_of_sender (x ∷ l) e = pick_case (λ s. sender s ≡ i) (eqb (sender x) i) x (record_of i l) (eqb-true (sender x) i) (λ d. record_of_sender l (rw d at e))

  -- the last record is its first, or another's
  pub record_of_new : (l : List (List ℕ)) (s : List ℕ) → sent_by i l ≡ false → sender s ≡ i → record_of i (snoc l s) ≡ s
  unfolding some record_of
  record_of_new [] s e d = rw (eq-eqb (sender s) i d)
  record_of_new (x ∷ l) s e d = pick_case (λ z. z ≡ s) (eqb (sender x) i) x (record_of i (snoc l s)) (λ c. absurd (no_both refl (rw c at e))) (λ c. record_of_new l s (rw c at e) d)

  pub record_of_other : (l : List (List ℕ)) (s : List ℕ) → eqb (sender s) i ≡ false → record_of i (snoc l s) ≡ record_of i l
  unfolding record_of
  record_of_other [] s d = rw d
  record_of_other (x ∷ l) s d = rw (record_of_other l s d)
