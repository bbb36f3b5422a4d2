-- The senders of accepted records of one tag, and the numbers that stand in their slots: DE, VE and RE alike. Assumes nothing.
use Rattle.std.specs.Prelude.{◌≡◌, refl, ◌≢◌, Bool, true, false, ◌||◌, List, [], ◌∷◌, ℕ, zero, suc, ◌+◌, ◌-◌, ◌^◌, ◌≤◌, ◌<◌, length, get_or, set, eqb}
use Rattle.std.proofs.Common.{sym, ap, ap₂, ◌∙◌, arith, add-one, pow_pos, length-append, get_or-set_same, get_or-set_other, eqb-true, eq-eqb, ne_eqb}
use Rattle.std.proofs.lemmas.Bool.{eqb-false}
use Rattle.lists.specs.TestLaws.{no_both}
use Rattle.lists.specs.Members.{All, Distinct}
use Rattle.lists.specs.MemberLaws.{all_snoc, distinct_snoc}
use Rattle.lists.specs.Stores.{stored}
use Rattle.lists.specs.StoreLaws.{stored_at, stored_other}
use Rattle.sets.specs.Masks.{has, insert, count}
use Rattle.sets.proofs.MaskLaws.{has_none, has_zero, has_insert}
use Rattle.sets.proofs.MemberLaws.{no_members, more_members, count_le}
use Rattle.sets.proofs.WidthLaws.{insert_width}
use Rattle.parameters.specs.Definitions.{most_parties, stride, places}
use Rattle.records.specs.Bytes.{word, sender}
use Rattle.arrays.specs.Arrays.{base}
use Rattle.promises.specs.Lists.{some, sent_by, record_of}
use Rattle.promises.proofs.ListLaws.{snoc, some_snoc, sent_by_other, none_sent, record_of_new, record_of_other}

-- l has so many records, of different parties from 1 to n, who are the members of a mask
pub record Senders (n number mask : ℕ) (l : List (List ℕ)) : Type 0 where
  pub number_is : number ≡ length l
  pub members_are : number ≡ count n (has mask)
  pub mask_is : (i : ℕ) → has mask i ≡ sent_by i l
  pub width : mask < 2 ^ n
  pub parties : All (λ s. (0 < sender s) × (sender s ≤ n)) l
  pub differ : Distinct sender l

-- s is of a party that is not in the mask
pub record New (n mask : ℕ) (s : List ℕ) : Type 0 where
  pub sender_pos : 0 < sender s
  pub sender_max : sender s ≤ n
  pub unsent : has mask (sender s) ≡ false

-- the numbers of each party that has a record stand in its slot
abbrev pub Slots : {A : Type 0} → (ℕ → A) → A → ℕ → List A → List (List ℕ) → Type 0
Slots make filler width kept l = (i v : ℕ) → 0 < i → v < width → sent_by i l ≡ true → get_or kept (base i + v) filler ≡ make (word (record_of i l) 4 v)

-- of the record of each party that has one, a mark is kept at its number
abbrev pub Marks : (List ℕ → ℕ) → List ℕ → List (List ℕ) → Type 0
Marks mark kept l = (i : ℕ) → 0 < i → sent_by i l ≡ true → get_or kept (i - 1) 0 ≡ mark (record_of i l)

-- no party has the number 0
pub has_pos : (m i : ℕ) → has m i ≡ true → 0 < i
has_pos m zero e = absurd (no_both e (has_none m))
has_pos m (suc i) e = omega arith

-- ---- no record

pub senders_none : (n : ℕ) → Senders n 0 0 []
unfolding some
senders_none n = record { number_is = refl; members_are = sym (no_members (has 0) has_zero 1 n); mask_is = has_zero; width = pow_pos n; parties = tt; differ = tt }

pub slots_none : {A : Type 0} (make : ℕ → A) (filler : A) (width : ℕ) (kept : List A) → Slots make filler width kept []
unfolding some
slots_none make filler width kept i v p l e = absurd (no_both e refl)

pub marks_none : (mark : List ℕ → ℕ) (kept : List ℕ) → Marks mark kept []
unfolding some
marks_none mark kept i p e = absurd (no_both e refl)

pub senders_max : {n number mask : ℕ} {l : List (List ℕ)} → Senders n number mask l → number ≤ n
senders_max {n} {number} {mask} h = omega (arith, h.members_are, count_le n (has mask))

-- ---- one more

-- the slots of all parties stand in a flat array, and no two of them meet
slot_fits : (i v : ℕ) → i ≤ most_parties → v ≤ stride → base i + v ≤ places
unfolding base
slot_fits i v p l = omega arith

slots_apart : (i j v x : ℕ) → 0 < i → 0 < j → v < stride → x < stride → base i + v ≡ base j + x → i ≡ j
unfolding base
slots_apart i j v x p k l d e = omega arith

eqb_sym : (a b : ℕ) → eqb a b ≡ eqb b a
eqb_sym a b = go (eqb a b) refl
  where
    go : (c : Bool) → eqb a b ≡ c → eqb a b ≡ eqb b a
    go true e = e ∙ sym (eq-eqb b a (sym (eqb-true a b e)))
    go false e = e ∙ sym (ne_eqb b a (λ d. eqb-false a b e (sym d)))

module _ {n number mask : ℕ} {l : List (List ℕ)} (s : List ℕ) (n_max : n ≤ most_parties) (c : New n mask s) (h : Senders n number mask l) where
  -- it has no record yet
  unsent_yet : sent_by (sender s) l ≡ false
  unsent_yet = sym (h.mask_is (sender s)) ∙ c.unsent

  has_more : (i : ℕ) → has (insert mask (sender s)) i ≡ (has mask i || eqb i (sender s))
  has_more i = has_insert mask (sender s) i c.sender_pos (omega (arith, c.sender_max))

  pub senders_more : Senders n (number + 1) (insert mask (sender s)) (snoc l s)
  senders_more =
      record {
        number_is = ap (λ (k : ℕ). k + 1) h.number_is ∙ sym (length-append l (s ∷ []));
        members_are =
            add-one number
            ∙ ap suc h.members_are
            ∙ sym (more_members (has mask) (has (insert mask (sender s))) (sender s) 1 n c.sender_pos (omega (arith, c.sender_max)) c.unsent (λ i d e. has_more i));
        mask_is = λ i. has_more i ∙ ap₂ ◌||◌ (h.mask_is i) (eqb_sym i (sender s)) ∙ sym (some_snoc (λ x. eqb (sender x) i) l s);
        width = insert_width n mask (sender s) c.sender_max h.width;
        parties = all_snoc _ l s h.parties (c.sender_pos, c.sender_max);
        differ = distinct_snoc sender l s h.differ (none_sent (sender s) l unsent_yet);
      }

  -- a party's record is s, or is as it was
  record_of_case : (P : List ℕ → Type 0) (i : ℕ) → (sender s ≡ i → P s) → (sender s ≢ i → P (record_of i l)) → P (record_of i (snoc l s))
  record_of_case P i own other = go (eqb (sender s) i) refl
    where
      go : (b : Bool) → eqb (sender s) i ≡ b → P (record_of i (snoc l s))
      go true e = let d = eqb-true (sender s) i e in rw (record_of_new i l s (ap (λ j. sent_by j l) (sym d) ∙ unsent_yet) d) (own d)
      go false e = rw (record_of_other i l s e) (other (eqb-false (sender s) i e))

  pub slots_more : {A : Type 0} (make : ℕ → A) (filler : A) (width : ℕ) (kept : List A) → width ≤ stride → length kept ≡ places → Slots make filler width kept l
      → Slots make filler width (stored kept (base (sender s)) width (λ v. make (word s 4 v))) (snoc l s)
  slots_more make filler width kept width_max size slots i v p d sent =
      record_of_case (λ z. get_or (stored kept (base (sender s)) width (λ v. make (word s 4 v))) (base i + v) filler ≡ make (word z 4 v)) i
      (λ own. rw (← own) (stored_at kept (base (sender s)) width _ filler (omega (arith, slot_fits (sender s) width (omega arith) width_max)) v d))
      (λ other. stored_other kept (base (sender s)) width _ filler (base i + v) (λ x y e. other (sym (slots_apart i (sender s) v x p c.sender_pos (omega arith) (omega arith) e)))
      ∙ slots i v p d (sym (sent_by_other i l s other) ∙ sent))

  pub marks_more : (mark : List ℕ → ℕ) (kept : List ℕ) → length kept ≡ most_parties → Marks mark kept l → Marks mark (set kept (sender s - 1) (mark s)) (snoc l s)
  marks_more mark kept size marks i p sent =
      record_of_case (λ z. get_or (set kept (sender s - 1) (mark s)) (i - 1) 0 ≡ mark z) i
      (λ own. rw (← own) (get_or-set_same kept (sender s - 1) (mark s) 0 (omega arith)))
      (λ other. get_or-set_other kept (sender s - 1) (i - 1) (mark s) 0 (omega arith) ∙ marks i p (sym (sent_by_other i l s other) ∙ sent))
