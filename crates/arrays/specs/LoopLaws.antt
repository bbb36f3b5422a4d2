-- What the loops come to: values stored one a turn into an array of 64, and those of a set's members. Assumes nothing.
use Rattle.std.specs.Prelude.{◌≡◌, Bool, true, false, List, [], ◌∷◌, ◌++◌, ℕ, ◌+◌, ◌^◌, ◌≤◌, ◌<◌, min, length, get_or, set, replicate}
use Rattle.std.proofs.Common.{sym, ap, ap₂, ◌∙◌, arith, take, drop, length-append}
use Rattle.std.proofs.Math.ListN.{get_or-append}
use Rattle.std.proofs.Math.Seq.{get_or-append_seam}
use Rattle.lists.specs.Stores.{stored, filled}
use Rattle.lists.specs.StoreLaws.{stored_none, stored_first, stored_capped, stored_cong, length_filled}
use Rattle.lists.specs.LoadLaws.{part, part_none, part_long, part_whole}
use Rattle.sets.specs.Masks.{has, members, count}
use Rattle.sets.proofs.MemberLaws.{members_next, count_none, count_before}
use Rattle.rows.specs.Definitions.{most_scalars}

-- the array once k values are stored
abbrev pub front : {A : Type 0} → A → ℕ → (ℕ → A) → List A
front d k f = stored (filled most_scalars d) 0 k f

module _ {A : Type 0} (d : A) (f : ℕ → A) where
  -- one value more
  pub front_next : (k : ℕ) {l : List A} {x : A} → l ≡ front d k f → x ≡ f k → set l k x ≡ front d (k + 1) f
  front_next k e v = ap₂ (λ (r : List A) (y : A). set r k y) e v ∙ sym (stored_first (filled most_scalars d) k f)

  -- as many as there is room for are all
  pub front_capped : (m : ℕ) {k : ℕ} → k ≡ min m most_scalars → front d k f ≡ front d m f
  front_capped m {k} e =
      let room : k ≡ min m (length (filled most_scalars d)) = omega (arith, length_filled most_scalars d) in
      ap (λ (i : ℕ). front d i f) room ∙ stored_capped (filled most_scalars d) m f

-- ---- a loop over as many of the places as a count allows

-- so many places there are
pub part_room : {A : Type 0} (d : A) (m : ℕ) → m ≤ most_scalars → m ≡ length (take m (replicate most_scalars d))
part_room d m l = sym (part_long most_scalars d m (λ k. d) 0 (part_none most_scalars d m (λ k. d)) l)

module _ {A : Type 0} (d : A) (f : ℕ → A) (count k : ℕ) {m : ℕ} {items : List A} (e : items ≡ part most_scalars d m f k) (capped : m ≡ min count most_scalars) where
  pub part_width : length items ≡ m
  part_width = part_long most_scalars d m f k e (omega (arith, capped))

  -- all of them stored are the array
  pub part_front : k ≡ length items → items ++ drop m (replicate most_scalars d) ≡ front d count f
  part_front last =
      part_whole most_scalars d m f k e (omega (arith, capped)) (omega (arith, last, part_width)) ∙ front_capped d f count (omega (arith, last, part_width, capped))

-- ---- values of the members of a set, one member a turn

-- the array once g of each of the numbers in l is stored
abbrev pub chosen : {A : Type 0} → A → (ℕ → A) → List ℕ → List A
chosen d g l = front d (length l) (λ k. g (get_or l k 0))

module _ {A : Type 0} (d : A) (g : ℕ → A) where
  chosen_more : (l : List ℕ) (x : ℕ) → chosen d g (l ++ (x ∷ [])) ≡ set (chosen d g l) (length l) (g x)
  chosen_more l x =
      let more = l ++ (x ∷ []) in
      ap (λ (m : ℕ). front d m (λ k. g (get_or more k 0))) (length-append l (x ∷ []))
      ∙ stored_first (filled most_scalars d) (length l) (λ k. g (get_or more k 0))
      ∙ ap₂ (λ (r : List A) (y : ℕ). set r (length l) (g y))
      (stored_cong (filled most_scalars d) 0 (length l) _ _ (λ k c. ap g (get_or-append l (x ∷ []) 0 k c)))
      (get_or-append_seam l x [] 0)

-- a member of a set of 64 bits has fewer than 64 before it
pub member_room : {k : ℕ} {r : Bool} (i set : ℕ) → set < 2 ^ 64 → k ≡ count i (has set) → r ≡ has set (i + 1) → r ≡ true → k < 64
member_room i set h e p q = omega (arith, e, count_before 64 i set h (sym p ∙ q))

-- once the parties up to i are passed: m is the number of the members among them, and l has g of each, for every g that the values are Of
abbrev pub Passed : {A : Type 0} → A → ((ℕ → A) → Type 0) → (ℕ → Bool) → ℕ → ℕ → List A → Type 0
Passed {A} d Of f i m l = (m ≡ count i f) × ((g : ℕ → A) → Of g → l ≡ chosen d g (members i f))

module _ {A : Type 0} (d : A) (Of : (ℕ → A) → Type 0) (f : ℕ → Bool) where
  pub passed_none : Passed d Of f 0 0 (replicate most_scalars d)
  passed_none = (
    sym (count_none f),
    λ g h. stored_none most_scalars d (λ k. g (get_or (members 0 f) k 0)) ∙ ap (λ (m : ℕ). front d m (λ k. g (get_or (members 0 f) k 0))) (sym (count_none f)),
  )

  module _ (i : ℕ) {m m' : ℕ} {l l' : List A} (p : Passed d Of f i m l) where
    pub passed_skip : f (i + 1) ≡ false → m' ≡ m → l' ≡ l → Passed d Of f (i + 1) m' l'
    passed_skip e q r =
        let same : members i f ≡ members (i + 1) f = sym (members_next i f ∙ rw e) in
        (q ∙ p.0 ∙ ap length same, λ g h. r ∙ p.1 g h ∙ ap (chosen d g) same)

    pub passed_take : f (i + 1) ≡ true → {x : A} → ((g : ℕ → A) → Of g → x ≡ g (i + 1)) → m' ≡ m + 1 → l' ≡ set l m x → Passed d Of f (i + 1) m' l'
    passed_take e {x} v q r =
        let more : members i f ++ ((i + 1) ∷ []) ≡ members (i + 1) f = sym (members_next i f ∙ rw e) in (
          q ∙ ap (λ (k : ℕ). k + 1) p.0 ∙ sym (length-append (members i f) ((i + 1) ∷ [])) ∙ ap length more,
          λ g h. r ∙ rw (p.1 g h, p.0, v g h) (sym (chosen_more d g (members i f) (i + 1))) ∙ ap (chosen d g) more,
        )
