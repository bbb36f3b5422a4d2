-- The kept masks and BAD, and what one more complaint row adds to them. Assumes nothing.
use Rattle.std.specs.Prelude.{◌≡◌, refl, ◌≢◌, Bool, true, false, ◌||◌, List, length, eqb}
use Rattle.std.proofs.Common.{sym, ◌∙◌, arith, get_or-set_same}
use Rattle.std.proofs.Math.Path.{ap, ap₂}
use Rattle.std.proofs.Math.Bool.{or-false}
use Prim.Native.Nat.{ℕ, zero, suc, ◌+◌, ◌-◌, ◌≤◌, ◌<◌}
use Rattle.std.proofs.Math.Decide.{ℕ_discrete}
use Rattle.std.proofs.Math.ListN.{get_or-eq_default}
use Rattle.std.proofs.Math.Seq.{get_or-set_other}
use Rattle.std.specs.Int.Bits.{bit_or}
use borrow.Author.Tests.{eq-eqb, ne_eqb}
use Rattle.algebra.specs.Fold.{fold}
use Rattle.algebra.specs.FoldLaws.{fold_cong, fold_keeps}
use Rattle.lists.specs.TestLaws.{pick_case}
use Rattle.sets.specs.Masks.{has, insert}
use Rattle.sets.proofs.MaskLaws.{has_none, has_zero, has_or, has_insert}
use Rattle.parameters.specs.Definitions.{most_parties}
use Rattle.records.specs.Bytes.{sender}
use Rattle.records.specs.Tags.{mask_at}
use Rattle.complaint.specs.declared.Complaints.{Complaints}
use Rattle.complaint.specs.Definitions.{no_complaints, with_complaint, mask_by, blamed_by}

-- ---- a union of masks, of which one more is not empty

last_both : (a b c : Bool) → ((a || b) || c) ≡ ((a || c) || b)
last_both true b c = refl
last_both false true true = refl
last_both false true false = refl
last_both false false true = refl
last_both false false false = refl

module _ (f g : ℕ → ℕ) (k : ℕ) (none : f k ≡ 0) (other : (j : ℕ) → j ≢ k → g j ≡ f j) (i : ℕ) where
  union_more : (n : ℕ) → k < n → has (fold bit_or 0 n g) i ≡ (has (fold bit_or 0 n f) i || has (g k) i)
  unfolding fold
  union_more zero l = absurd (omega arith)
  union_more (suc n) l =
      rw (has_or (fold bit_or 0 n g) (g n) i, has_or (fold bit_or 0 n f) (f n) i) (go (ℕ_discrete n k) (λ m. union_more n m))
    where
      go : Dec (n ≡ k) → (k < n → has (fold bit_or 0 n g) i ≡ (has (fold bit_or 0 n f) i || has (g k) i))
          → (has (fold bit_or 0 n g) i || has (g n) i) ≡ ((has (fold bit_or 0 n f) i || has (f n) i) || has (g k) i)
      go (yes e) ih =
          ap₂ (λ (x m : ℕ). has x i || has (g m) i) (fold_cong bit_or 0 n (λ j h. other j (omega arith))) e
          ∙ ap (λ (b : Bool). b || has (g k) i)
          (sym (ap (λ (x : ℕ). has (fold bit_or 0 n f) i || has x i) (ap f e ∙ none) ∙ ap (λ (b : Bool). has (fold bit_or 0 n f) i || b) (has_zero i) ∙ or-false (has (fold bit_or 0 n f) i)))
      go (no ne) ih =
          ap₂ (λ (b : Bool) (x : ℕ). b || has x i) (ih (omega arith)) (other n ne)
          ∙ last_both (has (fold bit_or 0 n f) i) (has (g k) i) (has (f n) i)

-- ---- the kept masks

pub mask_none : (j : ℕ) → mask_by no_complaints j ≡ 0
unfolding mask_by no_complaints
mask_none j = rw (has_zero j)

pub mask_unheld : (c : Complaints) (j : ℕ) → has c.holders j ≡ false → mask_by c j ≡ 0
unfolding mask_by
mask_unheld c j e = rw e

-- no party 0, and none past the masks
pub mask_zero : (c : Complaints) → mask_by c 0 ≡ 0
unfolding mask_by
mask_zero c = rw (has_none c.holders)

pub mask_past : (c : Complaints) (j : ℕ) → length c.masks < j → mask_by c j ≡ 0
unfolding mask_by
mask_past c j l = rw (get_or-eq_default c.masks 0 {n = j - 1} (omega arith)) (pick_case (λ x. x ≡ 0) (has c.holders j) 0 0 (λ e. refl) (λ e. refl))

-- a row of a holder that has none yet
module _ (n : ℕ) (c : Complaints) (s : List ℕ) (size : length c.masks ≡ most_parties) (p : 0 < sender s) (few : sender s ≤ most_parties) where
  held_more : (j : ℕ) → has (insert c.holders (sender s)) j ≡ (has c.holders j || eqb j (sender s))
  held_more j = has_insert c.holders (sender s) j p (omega arith)

  -- its mask is kept at its sender's number
  pub mask_own : has c.holders (sender s) ≡ false → mask_by (with_complaint n c s) (sender s) ≡ mask_at n s
  unfolding mask_by with_complaint
  mask_own new = rw (held_more (sender s), new, eq-eqb (sender s) (sender s) refl) (get_or-set_same c.masks (sender s - 1) (mask_at n s) 0 (omega arith))

  -- and the others stay
  pub mask_other : (j : ℕ) → 0 < j → j ≢ sender s → mask_by (with_complaint n c s) j ≡ mask_by c j
  unfolding mask_by with_complaint
  mask_other j pos ne =
      rw (held_more j, ne_eqb j (sender s) ne, or-false (has c.holders j), get_or-set_other c.masks (sender s - 1) (j - 1) (mask_at n s) 0 (λ e. ne (omega arith)))

-- ---- BAD

-- nobody blames anybody yet
pub blamed_none : (n i : ℕ) → has (blamed_by n no_complaints) i ≡ false
unfolding blamed_by
blamed_none n i = ap (λ (x : ℕ). has x i) (fold_keeps bit_or 0 (λ x. x ≡ 0) refl (λ a b p q. rw (p, q)) n (λ j l. mask_none (j + 1))) ∙ has_zero i

-- one more row blames whom its mask has
pub blamed_more : (n : ℕ) (c : Complaints) (s : List ℕ) → length c.masks ≡ most_parties → n ≤ most_parties → 0 < sender s → sender s ≤ n → has c.holders (sender s) ≡ false
    → (i : ℕ) → has (blamed_by n (with_complaint n c s)) i ≡ (has (blamed_by n c) i || has (mask_at n s) i)
unfolding blamed_by
blamed_more n c s size few p l new i =
    union_more (λ j. mask_by c (j + 1)) (λ j. mask_by (with_complaint n c s) (j + 1)) (sender s - 1) unheld others i n (omega arith)
    ∙ ap (λ (m : ℕ). has (blamed_by n c) i || has m i) (ap (mask_by (with_complaint n c s)) back ∙ mask_own n c s size p (omega arith) new)
  where
    back : sender s - 1 + 1 ≡ sender s
    back = omega arith

    unheld : mask_by c (sender s - 1 + 1) ≡ 0
    unheld = ap (mask_by c) back ∙ mask_unheld c (sender s) new

    others : (j : ℕ) → j ≢ sender s - 1 → mask_by (with_complaint n c s) (j + 1) ≡ mask_by c (j + 1)
    others j ne = mask_other n c s size p (omega arith) (j + 1) (omega arith) (λ e. ne (omega arith))
