-- `tag` meets its contract: each arm of the match is one choice of the definition. Assumes nothing.
use borrow.Author.Tests.{lt-ltb, le-ltb, ne_eqb}
use Rattle.records.specs.Tags.{tag_of}
use Rattle.records.proofs.tag.Goals as goal

pub returns-then-s-lt2 : goal.returns-then-s-lt2
unfolding tag_of
returns-then-s-lt2 c = rw (lt-ltb _ _ c.if-s-lt2.true)

pub returns-in-21333 : goal.returns-in-21333
unfolding tag_of
returns-in-21333 c = rw (le-ltb _ _ c.before.before.before.if-s-lt2.false, ← c.before.before.byte.ensures, ← c.before.byte-2.ensures, c.in-21333.is)

pub returns-in-17477 : goal.returns-in-17477
unfolding tag_of
returns-in-17477 c = rw (le-ltb _ _ c.before.before.before.if-s-lt2.false, ← c.before.before.byte.ensures, ← c.before.byte-2.ensures, c.in-17477.is)

pub returns-in-22085 : goal.returns-in-22085
unfolding tag_of
returns-in-22085 c = rw (le-ltb _ _ c.before.before.before.if-s-lt2.false, ← c.before.before.byte.ensures, ← c.before.byte-2.ensures, c.in-22085.is)

pub returns-in-17224 : goal.returns-in-17224
unfolding tag_of
returns-in-17224 c = rw (le-ltb _ _ c.before.before.before.if-s-lt2.false, ← c.before.before.byte.ensures, ← c.before.byte-2.ensures, c.in-17224.is)

pub returns-in-21061 : goal.returns-in-21061
unfolding tag_of
returns-in-21061 c = rw (le-ltb _ _ c.before.before.before.if-s-lt2.false, ← c.before.before.byte.ensures, ← c.before.byte-2.ensures, c.in-21061.is)

pub returns-in-17235 : goal.returns-in-17235
unfolding tag_of
returns-in-17235 c = rw (le-ltb _ _ c.before.before.before.if-s-lt2.false, ← c.before.before.byte.ensures, ← c.before.byte-2.ensures, c.in-17235.is)

pub returns-in-21336 : goal.returns-in-21336
unfolding tag_of
returns-in-21336 c = rw (le-ltb _ _ c.before.before.before.if-s-lt2.false, ← c.before.before.byte.ensures, ← c.before.byte-2.ensures, c.in-21336.is)

pub returns-in-18255 : goal.returns-in-18255
unfolding tag_of
returns-in-18255 c = rw (le-ltb _ _ c.before.before.before.if-s-lt2.false, ← c.before.before.byte.ensures, ← c.before.byte-2.ensures, c.in-18255.is)

pub returns-in_default : goal.returns-in_default
unfolding tag_of
returns-in_default c =
    let r = c.in_default.in_default-own.rest in
    simp (
      le-ltb _ _ c.before.before.before.if-s-lt2.false,
      ← c.before.before.byte.ensures,
      ← c.before.byte-2.ensures,
      ne_eqb _ _ r.0.0.0.0.0.0.0.1,
      ne_eqb _ _ r.0.0.0.0.0.0.1,
      ne_eqb _ _ r.0.0.0.0.0.1,
      ne_eqb _ _ r.0.0.0.0.1,
      ne_eqb _ _ r.0.0.0.1,
      ne_eqb _ _ r.0.0.1,
      ne_eqb _ _ r.0.1,
      ne_eqb _ _ r.1,
    )
