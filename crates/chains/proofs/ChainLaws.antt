-- The laws of products of powers: the empty one, one factor more, and one place more of what it comes to. Assumes nothing.
use Rattle.std.specs.Prelude.{◌≡◌, ℕ, zero, suc, ◌+◌, ◌*◌, ◌/◌, ◌%◌, ◌^◌, ◌≤◌, ◌<◌, length}
use Rattle.std.proofs.Math.Path.{refl, sym, ap, ap₂}
use Rattle.std.proofs.Common.{◌∙◌, arith, zero-add, add-zero, pow-suc, mul_comm, div-one, add-one, append-nil, length-append}
use mathlib.Core.List.{List, [], ◌∷◌, ◌++◌}
use Rattle.std.proofs.Math.Nat.{pow-zero, div-div-eq-div-mul}
use Rattle.std.proofs.Math.ListN.{get_or, set}
use Rattle.std.proofs.Math.Seq.{append_snoc, get_or-append_seam}
use Rattle.lists.specs.Stores.{stored, filled}
use Rattle.lists.specs.StoreLaws.{get_or_filled, get_d_default, stored_first, stored_at, stored_other}
use Rattle.field.specs.declared.Element.{Element}
use Rattle.field.specs.Definitions.{identity, product, powered}
use Rattle.field.proofs.ElementLaws.{identity_below, product_assoc, product_comm, product_one, powered_zero, identity_powered, product_powered_one, product_powered, powered_add, powered_powered}
use Rattle.chains.specs.Definitions.{value_from}

-- ---- powers, one factor more

powered_next : (v : Element) (e : ℕ) → product (powered v e) v ≡ powered v (e + 1)
powered_next v e = sym (product_powered_one (powered v e) v) ∙ sym (powered_add v e 1)

square : (v : Element) → product v v ≡ powered v 2
square v = sym (product_powered_one v v) ∙ product_comm v (powered v 1) ∙ powered_next v 1

-- ---- digits of base 4

unfoldable pub digit : ℕ → ℕ → ℕ
digit w d = w / 4 ^ d % 4

-- what is left of w above its lowest digits
pub left_none : (w : ℕ) → w ≡ w / 4 ^ 0
left_none w = sym (ap (λ (x : ℕ). w / x) (pow-zero 4) ∙ div-one w)

pub left_next : (w d : ℕ) → w / 4 ^ d / 4 ≡ w / 4 ^ (d + 1)
left_next w d = div-div-eq-div-mul w (4 ^ d) 4 ∙ ap (λ (x : ℕ). w / x) (sym (pow-suc 4 d) ∙ ap (λ (k : ℕ). 4 ^ k) (sym (add-one d)))

digit_lowest : (w : ℕ) → digit w 0 ≡ w % 4
unfolding digit
digit_lowest w = ap (λ (x : ℕ). x % 4) (sym (left_none w))

-- the digits but the lowest are those of w / 4
digit_shift : (w d : ℕ) → digit w (d + 1) ≡ digit (w / 4) d
unfolding digit
digit_shift w d =
    ap (λ (x : ℕ). x % 4)
    (ap (λ (x : ℕ). w / x) (ap (λ (k : ℕ). 4 ^ k) (add-one d) ∙ pow-suc 4 d ∙ mul_comm (4 ^ d) 4) ∙ sym (div-div-eq-div-mul w 4 (4 ^ d)))

-- ---- what a product of powers comes to

-- one place more, as the loop counts: with s the square of what the places above come to
pub value_next : (l : List Element) (d n : ℕ) (v s : Element) → v ≡ value_from l (d + 1) n → s ≡ product v v → product (product s s) (get_or l d identity) ≡ value_from l d (n + 1)
unfolding value_from
value_next l d n v s above twice =
    product_comm (product s s) (get_or l d identity)
    ∙ ap (product (get_or l d identity)) (ap₂ product second second ∙ sym (powered_add v 2 2) ∙ ap (λ (x : Element). powered x 4) above)
    ∙ ap (value_from l d) (sym (add-one n))
  where
    second : s ≡ powered v 2
    second = twice ∙ square v

-- of a list of places the last are passed, and v is what they come to; rest are those before them
pub record Passed (l rest : List Element) (v : Element) : Type 0 where
  pub above : List Element
  pub parts : l ≡ rest ++ above
  pub value : v ≡ value_from l (length rest) (length above)

pub passed_none : {l rest : List Element} → rest ≡ l → Passed l rest identity
unfolding value_from
passed_none {l} {rest} e = record { above = []; parts = sym (append-nil rest ∙ e); value = refl }

-- one place more, x, with s the square of what the places above come to
pub passed_next : {l rest next : List Element} (x : Element) {v s t u : Element} → Passed l rest v → rest ≡ next ++ (x ∷ []) → s ≡ product v v → t ≡ product s s → u ≡ product t x → Passed l next u
passed_next {l} {rest} {next} x {v} {s} {t} {u} p e p2 p4 q =
    let parts : l ≡ next ++ (x ∷ p.above) = p.parts ∙ ap (λ (r : List Element). r ++ p.above) e ∙ append_snoc next x p.above in
    let long : length rest ≡ length next + 1 = ap length e ∙ length-append next (x ∷ []) in
    let here : x ≡ get_or l (length next) identity = sym (ap (λ (r : List Element). get_or r (length next) identity) parts ∙ get_or-append_seam next x p.above identity) in
    record {
      above = x ∷ p.above;
      parts = parts;
      value =
          q
          ∙ ap₂ product p4 here
          ∙ value_next l (length next) (length p.above) v s (p.value ∙ ap (λ (k : ℕ). value_from l k (length p.above)) long) p2
          ∙ ap (value_from l (length next)) (add-one (length p.above));
    }

-- all places
pub passed_all : {l rest : List Element} {v : Element} → Passed l rest v → length rest ≡ 0 → v ≡ value_from l 0 (length l)
passed_all {l} {rest} {v} p e =
    let long : length l ≡ length rest + length p.above = ap length p.parts ∙ length-append rest p.above in
    let all : length p.above ≡ length l = omega arith in
    p.value ∙ rw (e, all)

-- the empty product
pub value_none : (k d n : ℕ) → value_from (filled k identity) d n ≡ identity
unfolding value_from
value_none k d zero = refl
value_none k d (suc n) =
    ap₂ product (get_or_filled k identity d) (ap (λ (v : Element). powered v 4) (value_none k (d + 1) n) ∙ identity_powered 4) ∙ product_one identity identity_below

-- a product of products, regrouped
exchange : (a b c d : Element) → product (product a b) (product c d) ≡ product (product a c) (product b d)
exchange a b c d =
    product_assoc a b (product c d)
    ∙ ap (product a) (sym (product_assoc b c d) ∙ ap (λ (x : Element). product x d) (product_comm b c) ∙ product_assoc c b d)
    ∙ sym (product_assoc a c (product b d))

-- v to w from its lowest digit and the rest
lowest : (v : Element) (w : ℕ) → product (powered v (w % 4)) (powered (powered v (w / 4)) 4) ≡ powered v w
lowest v w =
    let parts : w % 4 + w / 4 * 4 ≡ w = omega arith in
    ap (product (powered v (w % 4))) (powered_powered v (w / 4) 4) ∙ sym (powered_add v (w % 4) (w / 4 * 4)) ∙ ap (powered v) parts

-- one list is another with each of n places from d multiplied by v to its digit of w
abbrev Multiplied : List Element → List Element → Element → ℕ → ℕ → ℕ → Type 0
Multiplied m l v n d w = (i : ℕ) → i < n → get_or m (d + i) identity ≡ product (get_or l (d + i) identity) (powered v (digit w i))

-- then it is multiplied by v ^ w
pub value_times : (m l : List Element) (v : Element) (n d w : ℕ) → w < 4 ^ n → Multiplied m l v n d w → value_from m d n ≡ product (value_from l d n) (powered v w)
unfolding value_from
value_times m l v zero d w h e =
    let none : w ≡ 0 = omega (arith, pow-zero 4) in
    sym (ap (λ (k : ℕ). product identity (powered v k)) none ∙ ap (product identity) (powered_zero v) ∙ product_one identity identity_below)
value_times m l v (suc n) d w h e =
    let rest = value_times m l v n (d + 1) (w / 4) (omega (arith, pow-suc 4 n)) others in
    ap₂ product first (ap (λ (x : Element). powered x 4) rest ∙ product_powered (value_from l (d + 1) n) (powered v (w / 4)) 4)
    ∙ exchange (get_or l d identity) (powered v (w % 4)) (powered (value_from l (d + 1) n) 4) (powered (powered v (w / 4)) 4)
    ∙ ap (product (product (get_or l d identity) (powered (value_from l (d + 1) n) 4))) (lowest v w)
  where
    first : get_or m d identity ≡ product (get_or l d identity) (powered v (w % 4))
    first =
        ap (λ (k : ℕ). get_or m k identity) (sym (add-zero d))
        ∙ e 0 (omega arith)
        ∙ ap₂ (λ (k : ℕ) (x : ℕ). product (get_or l k identity) (powered v x)) (add-zero d) (digit_lowest w)

    others : Multiplied m l v n (d + 1) (w / 4)
    others i c =
        let same : d + 1 + i ≡ d + (i + 1) = omega arith in
        ap (λ (k : ℕ). get_or m k identity) same
        ∙ e (i + 1) (omega arith)
        ∙ ap₂ (λ (k : ℕ) (x : ℕ). product (get_or l k identity) (powered v x)) (sym same) (digit_shift w i)

-- ---- one factor more, place by place

-- the powers of v that a digit asks for
unfoldable pub powers_of : Element → List Element
powers_of v = powered v 0 ∷ powered v 1 ∷ powered v 2 ∷ powered v 3 ∷ []

powers_of_at : (v : Element) (k : ℕ) → k < 4 → get_or (powers_of v) k identity ≡ powered v k
unfolding powers_of
powers_of_at v zero h = refl
powers_of_at v (suc zero) h = refl
powers_of_at v (suc (suc zero)) h = refl
powers_of_at v (suc (suc (suc zero))) h = refl
powers_of_at v (suc (suc (suc (suc k)))) h = absurd (omega arith)

-- as the code makes them, each from the one before
pub powers_of_is : (v one two three : Element) → one ≡ product identity v → two ≡ product one v → three ≡ product two v → identity ∷ one ∷ two ∷ three ∷ [] ≡ powers_of v
unfolding powers_of
powers_of_is v one two three p q r = ap₂ ◌∷◌ (sym (powered_zero v)) (ap₂ ◌∷◌ first (ap₂ ◌∷◌ second (ap₂ ◌∷◌ third refl)))
  where
    first : one ≡ powered v 1
    first = p ∙ ap (λ (x : Element). product x v) (sym (powered_zero v)) ∙ powered_next v 0

    second : two ≡ powered v 2
    second = q ∙ ap (λ (x : Element). product x v) first ∙ powered_next v 1

    third : three ≡ powered v 3
    third = r ∙ ap (λ (x : Element). product x v) second ∙ powered_next v 2

module _ (powers l : List Element) (w : ℕ) where
  -- place d, multiplied by the power that digit d asks for
  abbrev place : ℕ → Element
  place d = product (get_or l d identity) (get_or powers (digit w d) identity)

  -- the list once k places are multiplied
  unfoldable pub multiplied : ℕ → List Element
  multiplied k = stored l 0 k place

  pub multiplied_none : l ≡ multiplied 0
  unfolding multiplied stored
  multiplied_none = refl

  -- the places read with any default, as there are such
  pub multiplied_next : (k : ℕ) (m : List Element) (left : ℕ) (x y : Element) → k < length l → length powers ≡ 4 → m ≡ multiplied k → left ≡ w / 4 ^ k
      → set m k (product (get_or m k x) (get_or powers (left % 4) y)) ≡ multiplied (k + 1)
  unfolding multiplied digit
  multiplied_next k m left x y h four same rest =
      ap₂ (λ (t : List Element) (z : Element). set t k z) same (ap₂ product old factor) ∙ sym (stored_first l k place)
    where
      old : get_or m k x ≡ get_or l k identity
      old = ap (λ (t : List Element). get_or t k x) same ∙ stored_other l 0 k place x k (λ i c. omega arith) ∙ get_d_default l k x identity h

      factor : get_or powers (left % 4) y ≡ get_or powers (digit w k) identity
      factor = ap (λ (z : ℕ). get_or powers (z % 4) y) rest ∙ get_d_default powers (w / 4 ^ k % 4) y identity (omega arith)

-- all n places multiplied
pub multiplied_value : (v : Element) (l : List Element) (w n : ℕ) → w < 4 ^ n → n ≤ length l
    → value_from (multiplied (powers_of v) l w n) 0 n ≡ product (value_from l 0 n) (powered v w)
unfolding multiplied digit
multiplied_value v l w n h full = value_times (multiplied (powers_of v) l w n) l v n 0 w h at
  where
    at : Multiplied (multiplied (powers_of v) l w n) l v n 0 w
    at i c =
        stored_at l 0 n (place (powers_of v) l w) identity (omega arith) i c
        ∙ ap₂ (λ (k : ℕ) (x : Element). product (get_or l k identity) x) (sym (zero-add i)) (powers_of_at v (w / 4 ^ i % 4) (omega arith))
