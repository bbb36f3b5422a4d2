-- What a copy into a part of a list leaves. Assumes nothing.
use Rattle.std.specs.Prelude.{◌≡◌, List, [], ◌∷◌, ℕ, zero, suc, ◌+◌, ◌≤◌, length, take, get_or, set, refl}
use Rattle.std.proofs.Common.{sym, ap, ap₂, ◌∙◌, arith, take-suc, length-take}
use Rattle.std.proofs.lemmas.List.Edits.{sets, sets-eq}
use Rattle.std.proofs.lemmas.Slice.{put_mid-paste}
use Rattle.std.proofs.Math.Seq.{take-length}
use Rattle.lists.specs.Stores.{stored}
use Rattle.lists.specs.StoreLaws.{sets_append}
use borrow.Rule.Slice.PartMut.{put_mid}

-- `l[at..at + k].copy_from_slice(s)` leaves l with s stored from that place on
pub copied : {A : Type 0} (l s : List A) (at k : ℕ) {part : List A} → part ≡ s → length s ≡ k → at + k ≤ length l → put_mid at k l part ≡ sets l at s
copied l s at k {part} e n h =
    put_mid-paste at k l part s k e refl (sym n) ∙ rw (← n, take-length) (sym (sets-eq s l at (rw n h)))

-- and with each of its elements stored
pub copied_stored : {A : Type 0} (l s : List A) (at k : ℕ) (d : A) {part : List A} → part ≡ s → length s ≡ k → at + k ≤ length l
    → put_mid at k l part ≡ stored l at k (λ v. get_or s v d)
unfolding stored
copied_stored {A} l s at k d {part} e n h = copied l s at k e n h ∙ ap (sets l at) whole ∙ front k (omega arith)
  where
    whole : s ≡ take k s
    whole = rw (← n, take-length)

    front : (i : ℕ) → i ≤ length s → sets l at (take i s) ≡ stored l at i (λ v. get_or s v d)
    front zero c = refl
    front (suc i) c =
        let long : length (take i s) ≡ i = omega (arith, length-take i s) in
        ap (sets l at) (take-suc s i d (omega arith))
        ∙ sets_append (take i s) (get_or s i d ∷ []) l at
        ∙ ap₂ (λ (m : List A) (p : ℕ). set m (at + p) (get_or s i d)) (front i (omega arith)) long
