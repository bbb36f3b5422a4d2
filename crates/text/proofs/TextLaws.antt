-- The laws of texts stored in a buffer. Assumes nothing.
use Rattle.std.specs.Prelude.{◌≡◌, refl, List, [], ◌∷◌, ◌++◌, ℕ, ◌+◌, ◌≤◌, length, set}
use Rattle.std.proofs.Common.{sym, ap, ap₂, ◌∙◌, subst, arith, length-append, append-nil, append_assoc}
use Rattle.std.proofs.lemmas.List.Edits.{sets}
use Rattle.std.proofs.Math.Seq.{length-sets}
use borrow.Rule.Slice.PartMut.{put_mid}
use Rattle.lists.specs.StoreLaws.{sets_append}
use Rattle.lists.specs.CopyLaws.{copied}
use Rattle.text.specs.declared.Page.{Page}
use Rattle.text.specs.Texts.{Ahead, Wrote, Room, Added}

pub wrote_none : (l : List ℕ) (at : ℕ) → Wrote l l at at []
wrote_none l at = record { place = omega arith; bytes = refl }

pub wrote_length : {l m : List ℕ} {i j : ℕ} {s : List ℕ} → Wrote l m i j s → length m ≡ length l
wrote_length {l} {m} {i} {j} {s} w = ap length w.bytes ∙ length-sets l i s

pub wrote_byte : (l : List ℕ) (at b : ℕ) → Wrote l (set l at b) at (at + 1) (b ∷ [])
wrote_byte l at b = record { place = refl; bytes = refl }

-- a text, copied
pub wrote_copy : (l text : List ℕ) (at k : ℕ) {part : List ℕ} → part ≡ text → length text ≡ k → at + k ≤ length l → Wrote l (put_mid at k l part) at (at + length text) text
wrote_copy l text at k e n h = record { place = refl; bytes = copied l text at k e n h }

pub wrote_append : {l m k : List ℕ} {i j n : ℕ} {s t : List ℕ} → Wrote l m i j s → Wrote m k j n t → Wrote l k i n (s ++ t)
wrote_append {l} {m} {k} {i} {j} {n} {s} {t} p q =
    record {
      place = omega (arith, length-append s t);
      bytes = q.bytes ∙ ap₂ (λ (b : List ℕ) (at : ℕ). sets b at t) p.bytes p.place ∙ sym (sets_append s t l i);
    }

-- ---- texts added to a page

pub added_none : (p : Page) → Added p p []
added_none p = record { buffer = refl; wrote = wrote_none _ _ }

pub added_append : {p q r : Page} {s t : List ℕ} → Added p q s → Added q r t → Added p r (s ++ t)
added_append a b = record { buffer = b.buffer ∙ a.buffer; wrote = wrote_append a.wrote b.wrote }

-- the buffer is as long as it was
pub added_length : {p q : Page} {s : List ℕ} → Added p q s → length q.out.now ≡ length p.out.now
added_length a = wrote_length a.wrote

-- where there was room for a text and more, there is room for the more
pub room_after : {p q : Page} {s : List ℕ} (k : ℕ) → Added p q s → Room p (length s + k) → Room q k
room_after k a h = omega (arith, a.wrote.place, added_length a, h)

-- ---- the rest of what is added to a page

pub ahead_start : (p : Page) (whole : List ℕ) → Ahead p p whole whole
ahead_start p whole = record { done = []; split = refl; added = added_none p }

module _ {p q : Page} {whole rest : List ℕ} where
  -- the next text is added, and the rest is ahead
  pub ahead_next : {r : Page} (text : List ℕ) → Ahead p q whole (text ++ rest) → Added q r text → Ahead p r whole rest
  ahead_next text a next = record { done = a.done ++ text; split = a.split ∙ sym (append_assoc a.done text rest); added = added_append a.added next }

  -- none is left
  pub ahead_last : Ahead p q whole rest → rest ≡ [] → Added p q whole
  ahead_last a e = subst (λ (t : List ℕ). Added p q t) (sym (a.split ∙ ap (λ (t : List ℕ). a.done ++ t) e ∙ append-nil a.done)) a.added

  -- where there was room for all and more, there is room for the more
  pub ahead_room : (k : ℕ) → Ahead p q whole rest → Room p (length whole + k) → Room q k
  ahead_room k a h = room_after k a.added (omega (arith, h, ap length a.split, length-append a.done rest))
