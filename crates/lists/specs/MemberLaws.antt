-- The laws of lists whose elements all have a property, or all differ. Assumes nothing.
use Rattle.std.specs.Prelude.{refl, ◌≢◌, List, [], ◌∷◌, ◌++◌, ℕ, zero, suc, ◌<◌, length, get_or}
use Rattle.std.proofs.Common.{sym, ap, arith}
use Rattle.lists.specs.Members.{All, Distinct}

module _ {A : Type 0} where
  pub all_get_d : (P : A → Type 0) (l : List A) → All P l → (d : A) (i : ℕ) → i < length l → P (get_or l i d)
  all_get_d P [] h d i l = absurd (omega arith)
  all_get_d P (x ∷ xs) h d zero l = h.0
  all_get_d P (x ∷ xs) h d (suc i) l = all_get_d P xs h.1 d i (omega arith)

  pub all_map : (P Q : A → Type 0) → ((x : A) → P x → Q x) → (l : List A) → All P l → All Q l
  all_map P Q f [] h = tt
  all_map P Q f (x ∷ l) h = (f x h.0, all_map P Q f l h.1)

  -- one more at the end
  pub all_snoc : (P : A → Type 0) (l : List A) (x : A) → All P l → P x → All P (l ++ (x ∷ []))
  all_snoc P [] x h p = (p, tt)
  all_snoc P (y ∷ l) x h p = (h.0, all_snoc P l x h.1 p)

  pub distinct_get_or : (f : A → ℕ) (xs : List A) → Distinct f xs → (d : A) (i l : ℕ) → i < length xs → l < length xs → i ≢ l → f (get_or xs i d) ≢ f (get_or xs l d)
  distinct_get_or f [] h d i l a b ne = absurd (omega arith)
  distinct_get_or f (x ∷ xs) h d zero zero a b ne = absurd (ne refl)
  distinct_get_or f (x ∷ xs) h d zero (suc l) a b ne = λ e. all_get_d (λ y. f y ≢ f x) xs h.0 d l (omega arith) (sym e)
  distinct_get_or f (x ∷ xs) h d (suc i) zero a b ne = all_get_d (λ y. f y ≢ f x) xs h.0 d i (omega arith)
  distinct_get_or f (x ∷ xs) h d (suc i) (suc l) a b ne = distinct_get_or f xs h.1 d i l (omega arith) (omega arith) (λ e. ne (ap suc e))

  pub distinct_snoc : (f : A → ℕ) (l : List A) (x : A) → Distinct f l → All (λ y. f y ≢ f x) l → Distinct f (l ++ (x ∷ []))
  distinct_snoc f [] x h p = (tt, tt)
  distinct_snoc f (y ∷ l) x h p = (all_snoc (λ z. f z ≢ f y) l x h.0 (λ e. p.0 (sym e)), distinct_snoc f l x h.1 p.1)
