-- Lists whose elements all have a property, or all differ, at any element type.
use Rattle.std.specs.Prelude.{◌≢◌, List, [], ◌∷◌, ℕ}

-- every element has the property
abbrev pub All : {A : Type 0} → (A → Type 0) → List A → Type 0
All P [] = Unit
All P (x ∷ l) = P x × All P l

-- the keys of the elements differ
abbrev pub Distinct : {A : Type 0} → (A → ℕ) → List A → Type 0
Distinct f [] = Unit
Distinct f (x ∷ l) = All (λ y. f y ≢ f x) l × Distinct f l
