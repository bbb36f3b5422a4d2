-- What the loop over a set of dealers comes to: one factor a turn, from the dealers' values as chunks of the array. Assumes nothing.
use Rattle.std.proofs.Common.{◌≡◌, sym, ap, ap₂, ◌∙◌, arith, Bool, true, false, ℕ, zero, suc, ◌+◌, ◌-◌, ◌*◌, ◌^◌, ◌≤◌, ◌<◌, List, ◌++◌, length, get_or, drop, length-append, length-drop, get_or-drop, drop-drop}
use Rattle.std.proofs.lemmas.List.{drop_at, get_or_append_left}
use Rattle.lists.specs.StoreLaws.{get_d_default}
use Rattle.sets.specs.Masks.{has}
use Rattle.sets.proofs.MaskLaws.{has_above}
use Rattle.field.specs.declared.Element.{Element}
use Rattle.field.specs.Definitions.{identity, product, powered}
use Rattle.field.proofs.ElementLaws.{product_powered_one}
use Rattle.parameters.specs.Definitions.{stride, places}
use Rattle.arrays.specs.Arrays.{base, commitment_in}
use Rattle.protocol.proofs.ProductLaws.{product_over_none, product_over_skip, product_over_take, exponent_first}
use Rattle.combination.specs.Combination.{combined_value}

-- ---- the product over a set of dealers, one dealer a turn
module _ (qual : ℕ → Bool) (values : ℕ → ℕ → Element) (v : ℕ) where
  pub combined_none : identity ≡ combined_value 0 qual values 1 v
  unfolding combined_value
  combined_none = sym (product_over_none qual _)

  -- a dealer that is not in the set
  combined_skip : (i : ℕ) → qual (i + 1) ≡ false → combined_value (i + 1) qual values 1 v ≡ combined_value i qual values 1 v
  unfolding combined_value
  combined_skip i e = product_over_skip qual _ i e

  -- one that is
  combined_take : (i : ℕ) → qual (i + 1) ≡ true → combined_value (i + 1) qual values 1 v ≡ product (combined_value i qual values 1 v) (values (i + 1) v)
  unfolding combined_value
  combined_take i e =
      product_over_take qual _ i e
      ∙ ap (λ (k : ℕ). product (combined_value i qual values 1 v) (powered (values (i + 1) v) k)) (exponent_first _)
      ∙ product_powered_one (combined_value i qual values 1 v) (values (i + 1) v)

-- a mask of 64 bits has no dealer past 64
module _ (mask : ℕ) (l : mask < 2 ^ 64) (values : ℕ → ℕ → Element) (v : ℕ) where
  combined_more : (i d : ℕ) → 64 ≤ i → combined_value i (has mask) values 1 v ≡ combined_value (i + d) (has mask) values 1 v
  combined_more i zero h = let none : i ≡ i + 0 = omega arith in ap (λ (k : ℕ). combined_value k (has mask) values 1 v) none
  combined_more i (suc d) h =
      let next : i + d + 1 ≡ i + suc d = omega arith in
      combined_more i d h
      ∙ sym (combined_skip (has mask) values v (i + d) (has_above mask 64 (i + d + 1) l (omega arith)))
      ∙ ap (λ (k : ℕ). combined_value k (has mask) values 1 v) next

  combined_past : (i n : ℕ) → 64 ≤ i → i ≤ n → combined_value i (has mask) values 1 v ≡ combined_value n (has mask) values 1 v
  combined_past i n h k =
      let all : i + (n - i) ≡ n = omega arith in
      combined_more i (n - i) h ∙ ap (λ (m : ℕ). combined_value m (has mask) values 1 v) all

-- ---- a dealer's values as a chunk of the array

module _ (powers : List Element) (i : ℕ) (rest after values : List Element) (r : rest ≡ drop (i * stride) powers) (e : rest ≡ values ++ after) (long : length values ≡ stride) where
  chunk_next : after ≡ drop ((i + 1) * stride) powers
  chunk_next =
      let more : i * stride + stride ≡ (i + 1) * stride = omega arith in
      sym (drop_at values after stride long) ∙ ap (drop stride) (sym e ∙ r) ∙ drop-drop stride (i * stride) powers ∙ ap (λ (k : ℕ). drop k powers) more

  -- read with any default
  chunk_value : (v : ℕ) (d : Element) → v < stride → get_or values v d ≡ commitment_in powers (i + 1) v
  unfolding base
  chunk_value v d l =
      let room : i * stride + v < length powers = omega (arith, l, long, length-append values after, ap length (sym e ∙ r), length-drop (i * stride) powers) in
      let place : i * stride + v ≡ (i + 1 - 1) * stride + v = omega arith in
      sym (get_or_append_left values after d v (omega (arith, long)))
      ∙ ap (λ (m : List Element). get_or m v d) (sym e ∙ r)
      ∙ get_or-drop (i * stride) powers v d
      ∙ get_d_default powers (i * stride + v) d identity room
      ∙ ap (λ (k : ℕ). get_or powers k identity) place

-- ---- the loop over the dealers and their chunks

-- of n dealers i are passed: the product is over these, and the rest of the array begins with the values of the next
pub record Passed (powers : List Element) (qual : ℕ → Bool) (n v end i size : ℕ) (rest : List Element) (p : Element) : Type 0 where
  pub last : end ≡ n
  pub within : i ≤ n
  pub width : size ≡ stride
  pub rest_is : rest ≡ drop (i * stride) powers
  pub product_is : p ≡ combined_value i qual (commitment_in powers) 1 v

module _ {powers : List Element} {qual : ℕ → Bool} {n v end i size : ℕ} {rest : List Element} {p : Element} (h : Passed powers qual n v end i size rest p) where
  module _ {end' i' j size' : ℕ} {rest' : List Element} (chunk : List Element)
      (dealer : (end' ≡ end) × ((0 < end - i) × (j ≡ i) × (i' ≡ i + 1))) (width : size' ≡ size) (first : (rest ≡ chunk ++ rest') × (length chunk ≡ size)) where
    next : {p' : Element} → p' ≡ combined_value (i + 1) qual (commitment_in powers) 1 v → Passed powers qual n v end' i' size' rest' p'
    next e = record {
      last = dealer.0 ∙ h.last;
      within = omega (arith, dealer.1.0, dealer.1.2, h.last);
      width = width ∙ h.width;
      rest_is = chunk_next powers i rest rest' chunk h.rest_is first.0 (first.1 ∙ h.width) ∙ ap (λ (k : ℕ). drop (k * stride) powers) (sym dealer.1.2);
      product_is = e ∙ ap (λ (k : ℕ). combined_value k qual (commitment_in powers) 1 v) (sym dealer.1.2);
    }

    pub passed_skip : {has : Bool} → has ≡ qual (j + 1) → has ≡ false → Passed powers qual n v end' i' size' rest' p
    passed_skip e f =
        let other : qual (i + 1) ≡ false = ap (λ (k : ℕ). qual (k + 1)) (sym dealer.1.1) ∙ sym e ∙ f in
        next (h.product_is ∙ sym (combined_skip qual (commitment_in powers) v i other))

    pub passed_take : {has : Bool} → has ≡ qual (j + 1) → has ≡ true → v < stride → {p' : Element} (d : Element) → p' ≡ product p (get_or chunk v d) → Passed powers qual n v end' i' size' rest' p'
    passed_take e f l d m =
        let member : qual (i + 1) ≡ true = ap (λ (k : ℕ). qual (k + 1)) (sym dealer.1.1) ∙ sym e ∙ f in
        let value : get_or chunk v d ≡ commitment_in powers (i + 1) v = chunk_value powers i rest rest' chunk h.rest_is first.0 (first.1 ∙ h.width) v d l in
        next (m ∙ ap₂ product h.product_is value ∙ sym (combined_take qual (commitment_in powers) v i member))

  -- every dealer is passed
  pub passed_all : end - i ≡ 0 → p ≡ combined_value n qual (commitment_in powers) 1 v
  passed_all e =
      let all : i ≡ n = omega (arith, e, h.last, h.within) in
      h.product_is ∙ ap (λ (k : ℕ). combined_value k qual (commitment_in powers) 1 v) all

-- or the array has no more
pub passed_whole : {powers : List Element} {mask n v end i size : ℕ} {rest : List Element} {p : Element} → Passed powers (has mask) n v end i size rest p
    → mask < 2 ^ 64 → length powers ≡ places → length rest < size → p ≡ combined_value n (has mask) (commitment_in powers) 1 v
passed_whole {powers} {mask} {n} {v} {end} {i} h l long short =
    h.product_is
    ∙ combined_past mask l (commitment_in powers) v i n (omega (arith, short, long, h.width, ap length h.rest_is, length-drop (i * stride) powers)) h.within
