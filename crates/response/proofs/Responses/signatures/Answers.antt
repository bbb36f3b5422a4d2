-- `Responses::signatures` meets its contract. The loop has stored every φ passed. Assumes nothing.
use Rattle.std.proofs.Common.{◌≡◌, ◌∙◌, ap, sym, refl, rules, arith, List, ℕ, ◌*◌, ◌≤◌, ◌++◌, length, take, drop, length-take, zero-add}
use Rattle.lists.specs.Stores.{stored}
use Rattle.lists.specs.StoreLaws.{stored_front}
use Rattle.lists.specs.LoadLaws.{load_in, loaded}
use Rattle.field.specs.declared.Scalar.{Scalar}
use Rattle.field.specs.Definitions.{plus}
use Rattle.parameters.specs.Definitions.{cells}
use Rattle.parameters.specs.ParameterLaws.{Bounds, bounds_of, cells_max}
use Rattle.response.specs.Definitions.{shifted_phi_of, signatures_of}
use Rattle.response.proofs.Responses.signatures.Invariants.{cell}
use Rattle.response.proofs.Responses.signatures.Goals as goal

-- the places are in the list
fits : {n t a b : ℕ} → Bounds n t a → b ≤ n → (list : List Scalar) → length list ≡ cells → a * b ≤ length list
fits h l list e = omega (arith, e, cells_max h l)

pub slice_bounds-signatures-end : goal.slice_bounds-signatures-end
slice_bounds-signatures-end c = fits (bounds_of _ _ _ c.args.kept.now.within) c.requires c.args.list (search rules)

pub slice_bounds-signature-items-end : goal.slice_bounds-signature-items-end
slice_bounds-signature-items-end c =
    let a = c.args in
    let m = a.kept.now.setup.now.a * a.b in
    let within : m ≤ length a.list = fits (bounds_of _ _ _ a.kept.now.within) c.requires a.list (search rules) in
    omega (arith, within, length-take m a.list)

pub loop-x-init : goal.loop-x-init
unfolding stored
loop-x-init c = refl

pub loop-x-preserved : goal.loop-x-preserved
unfolding shifted_phi_of
loop-x-preserved c =
    let l = c.loop-x in
    let a = c.args in
    let setup = a.kept.now.setup.now in
    let shift = a.kept.now.challenges.now.shift in
    load_in (take (setup.a * a.b) a.list) 0 l.x (cell setup shift a.self.now) l.invariant (sym (zero-add l.x))
    (c.add.ensures ∙ ap (λ (x : Scalar). plus x shift) c.interpolated-phi.ensures) refl

pub returns : goal.returns
unfolding signatures_of
returns c =
    let a = c.args in
    let setup = a.kept.now.setup.now in
    let m : ℕ = setup.a * a.b in
    let f : ℕ → Scalar = cell setup a.kept.now.challenges.now.shift a.self.now in
    let within : m ≤ length a.list = fits (bounds_of _ _ _ a.kept.now.within) c.requires a.list (search rules) in
    let end : c.loop-x.x ≡ m = omega (arith, within, length-take m a.list) in
    ap (λ (s : List Scalar). s ++ drop m a.list) (loaded (take m a.list) 0 c.loop-x.x f c.loop-x.invariant end) ∙ stored_front a.list m m f within (omega arith)
