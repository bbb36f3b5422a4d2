-- The bytes that records count: a whole record its length, so a list of whole ones their summed lengths. Assumes nothing.
use Rattle.std.specs.Prelude.{◌≡◌, refl, Bool, true, false, Option, Some, None, unwrap_or, ◌⊎◌, ◌≢◌, List, [], ◌∷◌, ◌++◌, ℕ, zero, suc, ◌+◌, ◌≤◌, ◌<◌, length, take, drop, get_or, eqb, leb}
use Rattle.std.proofs.Common.{sym, ap, ap₂, ◌∙◌, inl, inr, ⊎_elim, arith, length-drop, length-take-le, get_or-take, le-leb, leb-true, eqb-true}
use Rattle.std.specs.Bool.{then_some}
use Rattle.std.specs.Option.{MatchOption}
use Rattle.std.proofs.lemmas.Option.{MatchOption-at_none, MatchOption-at_some}
use Rattle.lists.specs.Tests.{pick}
use Rattle.lists.specs.TestLaws.{pick_case}
use Rattle.records.specs.Bytes.{byte_at}
use Rattle.records.specs.Tags.{Tag, SU, SX, DE, GO, VE, CH, CS, RE, unknown, code, tag_of, setup_length, go_length}
use Rattle.run.specs.declared.Run.{Run}
use Rattle.run.specs.Steps.{Reply}
use Rattle.run.specs.Runs.{fresh}
use Rattle.run.specs.Steps.{step_of, refused, after_from}
use Rattle.reader.specs.Cutting.{some_length, own_length, length_at, length_of}
use Rattle.reader.specs.Turns.{next_length, next_record, next_rest, records_from, Whole, takes, BeforeSetup, BeforeGo, Cut}
use Rattle.reader.proofs.TurnLaws.{next_pos, next_max, tag_alone, records_none}
use Rattle.reader.proofs.LengthLaws.{least_at, empty_or}
use Rattle.reader.proofs.Endings.{whole_first, unknown_last, before_setup_last, before_go_last, cut_last, reading}
use Rattle.summary.specs.Consumed.{settled, fixed_length, counted_by, counted_length, counted_from, consumed, summed}
use Rattle.summary.proofs.ReadLaws.{read_from, read_start, read_none, read_settled, read_next}

-- ---- any record

-- it counts no more than it has
pub counted_max : (passed : ℕ) (s : List ℕ) → counted_by passed s ≤ length s
unfolding counted_by
counted_max passed s =
    pick_case (λ (k : ℕ). k ≤ length s) (leb (fixed_length passed s) (length s)) (fixed_length passed s) 0 (λ e. leb-true _ _ e) (λ e. omega arith)

-- its fixed length, or 0
pub counted_full : (passed : ℕ) (s : List ℕ) (k : ℕ) → fixed_length passed s ≡ k → k ≤ length s → counted_by passed s ≡ k
unfolding counted_by
counted_full passed s k e l = rw (e, le-leb k (length s) l)

-- the code takes a length that it has where no more bytes are asked than there are
pub counted_if : {P : ℕ → Bool → Type 0} (o kept : Option ℕ) (k size : ℕ) → o ≡ some_length k
    → MatchOption o (kept ≡ None) (λ n. (b : Bool) × P n b × (kept ≡ then_some b n)) → ((n : ℕ) (b : Bool) → P n b → b ≡ leb n size) → unwrap_or kept 0 ≡ pick (leb k size) k 0
unfolding some_length
counted_if {P} o kept k size e m h = go (eqb k 0) refl
  where
    go : (c : Bool) → eqb k 0 ≡ c → unwrap_or kept 0 ≡ pick (leb k size) k 0
    go true z = rw (eqb-true k 0 z, le-leb 0 size (omega arith)) (ap (λ (r : Option ℕ). unwrap_or r 0) (MatchOption-at_none (kept ≡ None) _ (e ∙ ap (λ (c : Bool). pick c None (Some k)) z) m))
    go false z =
        let asked = MatchOption-at_some (kept ≡ None) _ k (e ∙ ap (λ (c : Bool). pick c None (Some k)) z) m in
        rw (asked.2, h k asked.0 asked.1) (either (leb k size))
      where
        either : (b : Bool) → unwrap_or (then_some b k) 0 ≡ pick b k 0
        either true = refl
        either false = refl

-- ---- a whole record

-- a length that is there is the fixed one
fixed_at : (g : Tag) (r : Run) (s : List ℕ) → 0 < length_at g r s → pick (eqb (code g) (code GO)) go_length (length_at g r s) ≡ length_at g r s
unfolding length_at
fixed_at SU r s p = refl
fixed_at SX r s p = refl
fixed_at DE r s p = refl
fixed_at GO r s p = go (eqb r.stage 0) p
  where
    go : (b : Bool) → 0 < pick b 0 go_length → go_length ≡ pick b 0 go_length
    go true p = absurd (omega arith)
    go false p = refl
fixed_at VE r s p = refl
fixed_at CH r s p = refl
fixed_at CS r s p = refl
fixed_at RE r s p = refl
fixed_at unknown r s p = refl

pub fixed_there : (r : Run) (s : List ℕ) → 0 < length_of r s → fixed_length (length_of r s) s ≡ length_of r s
unfolding fixed_length length_of
fixed_there r s p = fixed_at (tag_of s) r s p

-- the record alone has the length that it has in the log
own_alone : (s : List ℕ) (k : ℕ) → k ≤ length s → k ≡ own_length s → 0 < k → own_length (take k s) ≡ k
unfolding own_length setup_length byte_at
own_alone s k l e p = go (leb 6 (length s)) refl
  where
    go : (b : Bool) → leb 6 (length s) ≡ b → pick (leb 6 (length (take k s))) (setup_length (get_or (take k s) 3 0)) 0 ≡ k
    go true d =
        let is : k ≡ setup_length (get_or s 3 0) = e ∙ ap (λ (b : Bool). pick b (setup_length (get_or s 3 0)) 0) d in
        rw (length-take-le k s l, le-leb 6 k (omega arith), get_or-take k s 3 0 (omega arith)) (sym is)
    go false d = absurd (omega (arith, e ∙ ap (λ (b : Bool). pick b (setup_length (get_or s 3 0)) 0) d))

length_alone : (g : Tag) (r : Run) (s : List ℕ) → 0 < length_at g r s → length_at g r s ≤ length s → length_at g r (take (length_at g r s) s) ≡ length_at g r s
unfolding length_at
length_alone SU r s p l = own_alone s (own_length s) l refl p
length_alone SX r s p l = own_alone s (own_length s) l refl p
length_alone DE r s p l = refl
length_alone GO r s p l = refl
length_alone VE r s p l = refl
length_alone CH r s p l = refl
length_alone CS r s p l = refl
length_alone RE r s p l = refl
length_alone unknown r s p l = refl

-- so it counts its length
pub counted_whole : (r : Run) (s : List ℕ) → Whole r s → counted_length r (take (length_of r s) s) ≡ length (take (length_of r s) s)
unfolding length_of
counted_whole r s (p, l) =
    let k = length_of r s in
    let first = take k s in
    let size = length-take-le k s l in
    let alone : length_of r first ≡ k =
    ap (λ (g : Tag). length_at g r first) (tag_alone s k (least_at (tag_of s) r s p) l) ∙ length_alone (tag_of s) r s p l
    in
    counted_full (length_of r first) first (length first) (fixed_there r first (omega (arith, alone)) ∙ alone ∙ sym size) (omega arith)

-- ---- the records of a log

-- what is left is the last record, which is refused, or begins with a whole one
pub last_or_whole : (r : Run) (s : List ℕ) → 0 < length s → ((records_from r s ≡ s ∷ []) × ((step_of r s).number ≢ 0)) ⊎ Whole r s
last_or_whole r s p = go (reading r s)
  where
    number : (k : ℕ) → 0 < k → step_of r s ≡ refused r k → (step_of r s).number ≢ 0
    number k m e z = absurd (omega (arith, sym (ap (λ (y : Reply). y.number) e) ∙ z))

    cut_pos : (b : Bool) → 0 < pick b 2 11
    cut_pos true = omega arith
    cut_pos false = omega arith

    go : (tag_of s ≡ unknown) ⊎ (BeforeSetup r s ⊎ (BeforeGo r s ⊎ (Cut r s ⊎ Whole r s))) → ((records_from r s ≡ s ∷ []) × ((step_of r s).number ≢ 0)) ⊎ Whole r s
    go (inl e) = let h = unknown_last r s p e in inl (h.0, number 1 (omega arith) h.1)
    go (inr (inl e)) = let h = before_setup_last r s e in inl (h.0, number 11 (omega arith) h.1)
    go (inr (inr (inl e))) = let h = before_go_last r s e in inl (h.0, number 11 (omega arith) h.1)
    go (inr (inr (inr (inl e)))) = let h = cut_last r s e in inl (h.0, number (pick (takes r s) 2 11) (cut_pos (takes r s)) h.1)
    go (inr (inr (inr (inr e)))) = inr e

head_is : {x y : List ℕ} {k l : List (List ℕ)} → x ∷ k ≡ y ∷ l → x ≡ y
head_is e = ap (λ (l : List (List ℕ)). get_or l 0 []) e

tail_is : {x y : List ℕ} {k l : List (List ℕ)} → x ∷ k ≡ y ∷ l → k ≡ l
tail_is e = ap (λ (l : List (List ℕ)). drop 1 l) e

not_empty : (l : List (List ℕ)) (s : List ℕ) (m : List (List ℕ)) → 0 < length (l ++ (s ∷ m))
not_empty [] s m = omega arith
not_empty (x ∷ l) s m = omega arith

-- of what is left for r and begins with the records l and s: these count their summed lengths
abbrev Counts : Run → List (List ℕ) → List ℕ → List (List ℕ) → Type 0
Counts r l s m = (left : List ℕ) → records_from r left ≡ l ++ (s ∷ m) → counted_from r (l ++ (s ∷ [])) ≡ summed (l ++ (s ∷ []))

-- records up to and with an accepted one count their summed lengths
pub counted_brought : (l : List (List ℕ)) (r : Run) (left s : List ℕ) (m : List (List ℕ)) → records_from r left ≡ l ++ (s ∷ m) → (step_of (after_from r l) s).number ≡ 0
    → counted_from r (l ++ (s ∷ [])) ≡ summed (l ++ (s ∷ []))
unfolding after_from counted_from summed
counted_brought [] r left s m e z = go (empty_or left)
  where
    whole : Whole r left → counted_length r s + 0 ≡ length s + 0
    whole w =
        let is : take (length_of r left) left ≡ s = head_is (sym (whole_first r left w) ∙ e) in
        ap (λ (k : ℕ). k + 0) (ap (λ (y : List ℕ). counted_length r y) (sym is) ∙ counted_whole r left w ∙ ap length is)

    by : ((records_from r left ≡ left ∷ []) × ((step_of r left).number ≢ 0)) ⊎ Whole r left → counted_length r s + 0 ≡ length s + 0
    by (inl (one, refuses)) = absurd (refuses (ap (λ (x : List ℕ). (step_of r x).number) (head_is (sym one ∙ e)) ∙ z))
    by (inr w) = whole w

    go : (left ≡ []) ⊎ (0 < length left) → counted_length r s + 0 ≡ length s + 0
    go (inl n) = absurd (omega (arith, ap length (sym (records_none r) ∙ ap (records_from r) (sym n) ∙ e)))
    go (inr p) = by (last_or_whole r left p)
counted_brought (x ∷ l) r left s m e z = go (λ rest d. counted_brought l (step_of r x).run rest s m d z) (empty_or left)
  where
    whole : Counts (step_of r x).run l s m → Whole r left → counted_length r x + counted_from (step_of r x).run (l ++ (s ∷ [])) ≡ length x + summed (l ++ (s ∷ []))
    whole more w =
        let first = take (length_of r left) left in
        let split = sym (whole_first r left w) ∙ e in
        let is : first ≡ x = head_is split in
        let rest : records_from (step_of r x).run (drop (length_of r left) left) ≡ l ++ (s ∷ m) =
        ap (λ (y : List ℕ). records_from (step_of r y).run (drop (length_of r left) left)) (sym is) ∙ tail_is split
        in
        ap₂ ◌+◌ (ap (λ (y : List ℕ). counted_length r y) (sym is) ∙ counted_whole r left w ∙ ap length is) (more (drop (length_of r left) left) rest)

    by : Counts (step_of r x).run l s m → ((records_from r left ≡ left ∷ []) × ((step_of r left).number ≢ 0)) ⊎ Whole r left
        → counted_length r x + counted_from (step_of r x).run (l ++ (s ∷ [])) ≡ length x + summed (l ++ (s ∷ []))
    by more (inl (one, refuses)) = absurd (omega (arith, not_empty l s m, ap length (tail_is (sym one ∙ e))))
    by more (inr w) = whole more w

    go : Counts (step_of r x).run l s m → (left ≡ []) ⊎ (0 < length left) → counted_length r x + counted_from (step_of r x).run (l ++ (s ∷ [])) ≡ length x + summed (l ++ (s ∷ []))
    go more (inl n) = absurd (omega (arith, ap length (sym (records_none r) ∙ ap (records_from r) (sym n) ∙ e)))
    go more (inr p) = by more (last_or_whole r left p)

-- ---- the bytes of a log

consumed_none : (r : Run) (s : List ℕ) → s ≡ [] → counted_from r (read_from r s) ≤ length s
unfolding counted_from
consumed_none r s e = rw (e, read_none r) (omega arith)

consumed_from : (f : ℕ) (r : Run) (s : List ℕ) → length s ≤ f → counted_from r (read_from r s) ≤ length s
unfolding counted_from
consumed_from zero r s l = ⊎_elim (consumed_none r s) (λ p. absurd (omega arith)) (empty_or s)
consumed_from (suc f) r s l = ⊎_elim (consumed_none r s) (λ p. go (consumed_from f (step_of r (next_record r s)).run (next_rest r s)) p (settled r) refl) (empty_or s)
  where
    go : (length (next_rest r s) ≤ f → counted_from (step_of r (next_record r s)).run (read_from (step_of r (next_record r s)).run (next_rest r s)) ≤ length (next_rest r s))
        → 0 < length s → (b : Bool) → settled r ≡ b → counted_from r (read_from r s) ≤ length s
    go rest p true e = rw (read_settled r s e) (omega arith)
    go rest p false e =
        let n = next_length r s in
        rw (read_next r s p e)
        (omega (
          arith,
          counted_max (length_of r (next_record r s)) (next_record r s),
          length-take-le n s (next_max r s),
          length-drop n s,
          next_max r s,
          rest (omega (arith, length-drop n s, next_pos r s p, next_max r s)),
        ))

-- no more bytes are consumed than the log has
pub consumed_max : (log : List ℕ) → consumed log ≤ length log
unfolding consumed
consumed_max log = rw (read_start log) (consumed_from (length log) fresh log (omega arith))
