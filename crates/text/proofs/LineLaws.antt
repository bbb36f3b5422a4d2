-- Laws of the page's texts: how decimals, fields and sets grow, and how long they are at most. Assumes nothing.
use Rattle.std.specs.Prelude.{◌≡◌, refl, List, [], ◌∷◌, ◌++◌, ℕ, zero, suc, ◌+◌, ◌*◌, ◌/◌, ◌%◌, ◌^◌, ◌≤◌, ◌<◌, length, take, get_or, ltb}
use Rattle.std.proofs.Common.{sym, ap, ◌∙◌, length-take, append-nil, append_assoc, pow-suc, div-lt_iff_lt-mul, add-one, arith, length-append, take-suc, lt-ltb}
use Rattle.lists.specs.Tests.{pick}
use Rattle.lists.specs.TestLaws.{pick_case}
use Rattle.sets.specs.Masks.{has, members}
use Rattle.sets.proofs.MemberLaws.{count_le}
use Rattle.text.specs.declared.Page.{Page}
use Rattle.text.specs.Texts.{Added}
use Rattle.text.proofs.TextLaws.{added_length}
use Rattle.text.specs.Lines.{space, dash, nought, decimal_to, decimal, field, fields, line, set_text, set_line}

-- ---- decimals

-- the bound of the digits does not matter where it is large enough
pub digits_more : (f n : ℕ) → n < 10 ^ suc f → decimal_to (suc (suc f)) n ≡ decimal_to (suc f) n
unfolding decimal_to
digits_more zero n h = rw (lt-ltb n 10 (omega arith))
digits_more (suc f) n h =
    ap (λ (l : List ℕ). pick (ltb n 10) [] l ++ ((nought + n % 10) ∷ [])) (digits_more f (n / 10) ((div-lt_iff_lt-mul {k = 10} {x = n} {y = 10 ^ suc f} (omega arith)).1 (rw (pow-suc 10 (suc f)) at h)))

-- the last digit after those before it
pub decimal_last : (n : ℕ) → n < 2 ^ 32 → decimal n ≡ pick (ltb n 10) [] (decimal (n / 10)) ++ ((nought + n % 10) ∷ [])
unfolding decimal decimal_to
decimal_last n h = ap (λ (l : List ℕ). pick (ltb n 10) [] l ++ ((nought + n % 10) ∷ [])) (sym (digits_more 8 (n / 10) (omega arith)))

pub digits_max : (f n : ℕ) → length (decimal_to f n) ≤ f
unfolding decimal_to
digits_max zero n = omega arith
digits_max (suc f) n =
    let start : length (pick (ltb n 10) [] (decimal_to f (n / 10))) ≤ f =
    pick_case (λ (l : List ℕ). length l ≤ f) (ltb n 10) [] (decimal_to f (n / 10)) (λ e. omega arith) (λ e. digits_max f (n / 10)) in
    simp length-append (omega arith)

-- and as many as the number has
pub digits_few : (f g n : ℕ) → n < 10 ^ suc g → length (decimal_to f n) ≤ suc g
unfolding decimal_to
digits_few zero g n h = omega arith
digits_few (suc f) zero n h = rw (lt-ltb n 10 (omega arith)) (omega arith)
digits_few (suc f) (suc g) n h =
    let start : length (pick (ltb n 10) [] (decimal_to f (n / 10))) ≤ suc g =
    pick_case (λ (l : List ℕ). length l ≤ suc g) (ltb n 10) [] (decimal_to f (n / 10)) (λ e. omega arith)
    (λ e. digits_few f g (n / 10) ((div-lt_iff_lt-mul {k = 10} {x = n} {y = 10 ^ suc g} (omega arith)).1 (rw (pow-suc 10 (suc g)) at h))) in
    simp length-append (omega arith)

pub decimal_max : (n : ℕ) → length (decimal n) ≤ 10
unfolding decimal
decimal_max n = digits_max 10 n

-- ---- fields

pub field_max : (n : ℕ) → length (field n) ≤ 11
unfolding field
field_max n = omega (arith, decimal_max n)

-- of a number with at most g + 1 digits
pub field_few : (g n : ℕ) → n < 10 ^ suc g → length (field n) ≤ g + 2
unfolding field decimal
field_few g n h = omega (arith, digits_few 10 g n h)

pub fields_max : (l : List ℕ) → length (fields l) ≤ 11 * length l
unfolding fields
fields_max [] = omega arith
fields_max (n ∷ l) = simp length-append (omega (arith, field_max n, fields_max l))

-- one field more
pub fields_snoc : (l : List ℕ) (n : ℕ) → fields (l ++ (n ∷ [])) ≡ fields l ++ field n
unfolding fields
fields_snoc [] n = append-nil (field n)
fields_snoc (m ∷ l) n = rw (fields_snoc l n) (sym (append_assoc (field m) (fields l) (field n)))

pub fields_take : (l : List ℕ) (i : ℕ) → i < length l → fields (take (i + 1) l) ≡ fields (take i l) ++ field (get_or l i 0)
fields_take l i h = rw (add-one i, take-suc l i 0 h) (fields_snoc (take i l) (get_or l i 0))

-- after a word and the first x fields the buffer is as long as it was, and the page has grown by at most 11 for each
pub fields_room : {p q r : Page} {word : List ℕ} (numbers : List ℕ) (x : ℕ) → Added p q word → Added q r (fields (take x numbers))
    → (length r.out.now ≡ length p.out.now) × (r.len ≤ p.len + length word + 11 * x)
fields_room numbers x a b = (
  added_length b ∙ added_length a,
  omega (arith, a.wrote.place, b.wrote.place, fields_max (take x numbers), length-take x numbers),
)

pub line_max : (word l : List ℕ) → length (line word l) ≤ length word + 11 * length l + 1
unfolding line
line_max word l = simp length-append (omega (arith, fields_max l))

-- where it ends at most
pub line_place : {p q : Page} (word l : List ℕ) → Added p q (line word l) → q.len ≤ p.len + (length word + 11 * length l + 1)
line_place word l a = omega (arith, a.wrote.place, line_max word l)

-- it has at least its line feed
pub line_some : (word l : List ℕ) → 0 < length (line word l)
unfolding line
line_some word l = simp length-append (omega arith)

-- ---- sets

-- a set without members has no fields, and its text is ` -`
pub set_text_none : (l : List ℕ) → length (fields l) ≡ 0 → fields l ++ (space ∷ dash ∷ []) ≡ set_text l
unfolding set_text fields field
set_text_none [] e = refl
set_text_none (n ∷ l) e = absurd (omega arith)

pub set_text_some : (l : List ℕ) → (length (fields l) ≡ 0 → ⊥) → set_text l ≡ fields l
unfolding set_text fields
set_text_some [] h = absurd (h refl)
set_text_some (n ∷ l) h = refl

pub set_text_max : (l : List ℕ) → length (set_text l) ≤ 11 * length l + 2
unfolding set_text
set_text_max [] = omega arith
set_text_max (n ∷ l) = omega (arith, fields_max (n ∷ l))

pub set_line_max : (word : List ℕ) (n mask : ℕ) → length (set_line word n mask) ≤ length word + 11 * n + 3
unfolding set_line
set_line_max word n mask = simp length-append (omega (arith, set_text_max (members n (has mask)), count_le n (has mask)))

-- after a name and the fields of the members to x likewise
pub members_room : {p q r : Page} {name : List ℕ} (mask x : ℕ) → Added p q name → Added q r (fields (members x (has mask)))
    → (length r.out.now ≡ length p.out.now) × (r.len ≤ p.len + length name + 11 * x)
members_room mask x a b = (
  added_length b ∙ added_length a,
  omega (arith, a.wrote.place, b.wrote.place, fields_max (members x (has mask)), count_le x (has mask)),
)

-- and after a name and the set's text
pub set_room : {p q r : Page} {name : List ℕ} (n mask : ℕ) → Added p q name → Added q r (set_text (members n (has mask)))
    → (length r.out.now ≡ length p.out.now) × (r.len ≤ p.len + length name + 11 * n + 2)
set_room n mask a b = (
  added_length b ∙ added_length a,
  omega (arith, a.wrote.place, b.wrote.place, set_text_max (members n (has mask)), count_le n (has mask)),
)

-- where the line of a set ends at most
pub set_place : {p q : Page} (name : List ℕ) (n mask : ℕ) → Added p q (set_line name n mask) → q.len ≤ p.len + (length name + 11 * n + 3)
set_place name n mask a = omega (arith, a.wrote.place, set_line_max name n mask)
