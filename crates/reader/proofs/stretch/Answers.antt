-- `stretch` meets its contract: a row each turn, until one is none. Assumes nothing.
use borrow.Author.Tests.{eq-eqb, ne_eqb}
use native.Mathlib.Omega.{arith}
use mathlib.Core.Path.{◌≡◌, sym, ap, ◌∙◌}
use mathlib.Core.Bool.{true, false}
use mathlib.Core.List.{List}
use Prim.Native.Nat.{ℕ, ◌+◌, ◌-◌, ◌≤◌}
use lib.ListN.{length, drop, length-drop}
use lib.Seq.{drop-drop}
use Rattle.records.specs.Tags.{code, tag_of}
use Rattle.bundle.proofs.CutLaws.{left_is}
use Rattle.reader.specs.Stretches.{most_rows, is_row, stretch_of}
use Rattle.reader.proofs.StretchLaws.{stretch_next, stretch_none, empty_none}
use Rattle.reader.proofs.stretch.Goals as goal
use Rattle.reader.proofs.stretch.Lts as lts
use Rattle.reader.proofs.stretch.Reads as reads
use Rattle.reader.proofs.stretch.Tie as tie

pub loop-count-init : goal.loop-count-init
loop-count-init c = (omega arith, omega arith)

-- the tag as the code reads it
read : (c : lts.After-tag tie.the-claims reads.Pre reads.Post goal.the-invariant-loop-count goal.the-decreases-loop-count) →
    let l = c.before.before.before.before in
    c.tag-other.result ≡ code (tag_of (drop l.loop-count.from l.args.rest.now))
read c =
    let l = c.before.before.before.before in
    c.tag-other.ensures ∙ ap (λ (s : List ℕ). code (tag_of s)) (left_is l.args.rest.now l.loop-count.from)

pub returns-then-rest-from : goal.returns-then-rest-from
returns-then-rest-from c =
    let l = c.before.before in
    let a = l.args in
    let d = drop l.loop-count.from a.rest.now in
    let none : length d ≡ 0 = omega (arith, c.if-rest-from.true, length-drop l.loop-count.from a.rest.now) in
    omega (arith, l.loop-count.invariant.1, stretch_none (most_rows - l.loop-count.count) a.length d (empty_none d none))

pub slice_bounds-row-end : goal.slice_bounds-row-end
slice_bounds-row-end c = omega arith

pub returns-then-other : goal.returns-then-other
returns-then-other c =
    let t = c.before in
    let l = t.before.before.before.before in
    let a = l.args in
    let d = drop l.loop-count.from a.rest.now in
    let other : is_row d ≡ false = ne_eqb _ _ (λ e. c.if-other.true (read t.before ∙ e)) in
    omega (arith, l.loop-count.invariant.1, stretch_none (most_rows - l.loop-count.count) a.length d other)

pub overflow_add-from : goal.overflow_add-from
overflow_add-from c =
    let e = c.before.before.before in
    let start = e.before.before.before.before in
    omega (arith, e.if-rest-from.false, start.requires, start.well_formed.0.0)

pub loop-count-preserved : goal.loop-count-preserved
loop-count-preserved c =
    let t = c.before in
    let i = t.before.before.before in
    let l = i.before in
    let a = l.args in
    let s = a.rest.now in
    let d = drop l.loop-count.from s in
    let tag : t.tag-other.result ≡ 5 = omega (arith, c.if-other.false) in
    let more : l.loop-count.count + 1 ≤ most_rows = omega (arith, i.loop-count-test.true) in
    let left : most_rows - l.loop-count.count - 1 ≡ most_rows - (l.loop-count.count + 1) = omega arith in
    let row : is_row d ≡ true = eq-eqb _ _ (sym (read t.before) ∙ tag) in
    let next : stretch_of (most_rows - l.loop-count.count) a.length d ≡ 1 + stretch_of (most_rows - (l.loop-count.count + 1)) a.length (drop (l.loop-count.from + a.length) s) =
    stretch_next (most_rows - l.loop-count.count) a.length d (omega arith) row
    ∙ ap (λ (k : ℕ). 1 + stretch_of k a.length (drop a.length d)) left
    ∙ ap (λ (t : List ℕ). 1 + stretch_of (most_rows - (l.loop-count.count + 1)) a.length t) (drop-drop a.length l.loop-count.from s) in
    (more, omega (arith, l.loop-count.invariant.1, next))

pub returns : goal.returns
unfolding stretch_of
returns c =
    let l = c.before in
    let a = l.args in
    let all : most_rows - l.loop-count.count ≡ 0 = omega (arith, c.loop-count-test.false) in
    omega (arith, l.loop-count.invariant.0, c.loop-count-test.false, l.loop-count.invariant.1, ap (λ (k : ℕ). stretch_of k a.length (drop l.loop-count.from a.rest.now)) all)
