-- `put_set` meets its contract. The loop has added the fields of the members among the parties that it passed. Assumes nothing.
use mathlib.Core.Path.{◌≡◌, subst, subst⁻¹}
use mathlib.Core.List.{List, [], ◌∷◌}
use Prim.Native.Nat.{ℕ}
use native.Mathlib.Omega.{arith}
use Rattle.sets.specs.Masks.{has, members_from, members}
use Rattle.sets.proofs.MemberLaws.{members_next}
use Rattle.text.specs.Lines.{fields, set_text, set_line}
use Rattle.text.specs.declared.Page.{Page}
use Rattle.text.specs.Texts.{Added}
use Rattle.text.proofs.TextLaws.{added_none, added_append}
use Rattle.text.proofs.LineLaws.{fields_snoc, members_room, set_room, set_text_none, set_text_some}
use Rattle.text.proofs.Page.put_set.Goals as goal
use Rattle.text.proofs.Page.put_set.Goals.{then-has, else-has, then-none, else-none}

pub loop-i-init : goal.loop-i-init
unfolding fields members_from
loop-i-init c = (omega arith, added_none _)

pub put_field-requires : goal.put_field-requires
put_field-requires c =
    let mask = c.args.mask in
    omega (arith, members_room mask c.loop-i.i c.put_text.ensures c.loop-i.invariant.1, c.requires)

pub loop-i-preserved : goal.loop-i-preserved
loop-i-preserved c =
    let mask = c.args.mask in
    let next = members_next c.loop-i.i (has mask) in (
      omega arith,
      elim c.if-has.branch [
        | then-has w ↦
            rw (w.self-is, next, ← c.has.ensures, w.if-has.true, fields_snoc) (added_append c.loop-i.invariant.1 w.put_field.ensures)
        | else-has w ↦
            rw (w.self-is, next, ← c.has.ensures, w.if-has.false) c.loop-i.invariant.1
      ],
    )

pub put_text-requires-then-none : goal.put_text-requires-then-none
put_text-requires-then-none c = omega (arith, members_room c.args.mask c.loop-i.i c.put_text.ensures c.loop-i.invariant.1, c.requires)

-- no field added: ` -` is the set's text
dash : {p q r : Page} (set : List ℕ) → Added p q (fields set) → q.len ≡ p.len → Added q r (32 ∷ 45 ∷ []) → Added p r (set_text set)
dash {p} {q} {r} set a e d = subst (λ (t : List ℕ). Added p r t) (set_text_none set (omega (arith, a.wrote.place))) (added_append a d)

-- some field added: the fields are
some : {p q : Page} (set : List ℕ) → Added p q (fields set) → (q.len ≡ p.len → ⊥) → Added p q (set_text set)
some {p} {q} set a d = subst⁻¹ (λ (t : List ℕ). Added p q t) (set_text_some set (λ e. d (omega (arith, a.wrote.place)))) a

pub put_byte-requires : goal.put_byte-requires
put_byte-requires c =
    let set = members c.args.n (has c.args.mask) in
    let end : c.loop-i.i ≡ c.args.n = omega arith in
    let a : Added c.put_text.new.self c.loop-i.self (fields set) = rw end at c.loop-i.invariant.1 in
    let texted : Added c.put_text.new.self c.if-none.self (set_text set) =
    elim c.if-none.branch [
      | then-none w ↦ rw w.self-is (dash set a w.if-none.true w.put_text-then-none.ensures)
      | else-none w ↦ rw w.self-is (some set a w.if-none.false)
    ] in
    omega (arith, set_room c.args.n c.args.mask c.put_text.ensures texted, c.requires)

pub returns : goal.returns
unfolding set_line
returns c =
    let set = members c.args.n (has c.args.mask) in
    let end : c.loop-i.i ≡ c.args.n = omega arith in
    let a : Added c.put_text.new.self c.loop-i.self (fields set) = rw end at c.loop-i.invariant.1 in
    let texted : Added c.put_text.new.self c.if-none.self (set_text set) =
    elim c.if-none.branch [
      | then-none w ↦ rw w.self-is (dash set a w.if-none.true w.put_text-then-none.ensures)
      | else-none w ↦ rw w.self-is (some set a w.if-none.false)
    ] in
    added_append c.put_text.ensures (added_append texted c.put_byte.ensures)
