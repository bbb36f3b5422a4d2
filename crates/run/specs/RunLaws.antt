-- Laws of a run that is well formed, and of its stage.
-- Assumes nothing.
use borrow.Author.Tests.{leb-true, leb-false, le-leb, lt-leb, eqb-true, eq-eqb, ne_eqb}
use Rattle.std.proofs.Common.{arith, sym, ap, ◌∙◌, inl, inr, ⊎_elim}
use Rattle.std.proofs.Math.Decide.{ℕ_discrete}
use Rattle.std.specs.Prelude.{◌≡◌, refl, Bool, true, false, ◌||◌, ◌⊎◌, ℕ, ◌-◌, ◌≤◌, ◌<◌, eqb, leb}
use Rattle.std.proofs.Math.Bool.{and-eq-true_iff, or-true}
use Rattle.lists.specs.Tests.{pick}
use Rattle.lists.specs.TestLaws.{pick_case}
use Rattle.parameters.specs.Definitions.{batch}
use Rattle.parameters.specs.ParameterLaws.{Bounds, bounds_of, bounds_test, batch_max}
use Rattle.stages.specs.Definitions.{batch_fits}
use Rattle.run.specs.declared.Run.{Run}
use Rattle.run.specs.Runs.{well_formed, stage_of}

-- ---- what the tests tell

-- b at stage 1: 0 in a run that waits, else that of n-t dealings
abbrev pub Begun : ℕ → ℕ → ℕ → Type 0
Begun n t b = (b ≡ 0) ⊎ (b ≡ batch (n - t) t)

-- and past it: m-t, with at least n-t dealings
abbrev pub Gone : ℕ → ℕ → ℕ → ℕ → Type 0
Gone n t m b = (n - t ≤ m) × (b ≡ batch m t)

either : (x y : ℕ) (b : ℕ) → (eqb b x || eqb b y) ≡ true → (b ≡ x) ⊎ (b ≡ y)
either x y b = go (eqb b x) refl
  where
    go : (c : Bool) → eqb b x ≡ c → (c || eqb b y) ≡ true → (b ≡ x) ⊎ (b ≡ y)
    go true f e = inl (eqb-true _ _ f)
    go false f e = inr (eqb-true _ _ e)

module _ (stage n t m b : ℕ) where
  pub fits_begun : batch_fits stage n t m b ≡ true → stage ≤ 1 → Begun n t b
  unfolding batch_fits
  fits_begun e l = either 0 _ b (rw (le-leb stage 1 l) at e)

  pub fits_gone : batch_fits stage n t m b ≡ true → 1 < stage → Gone n t m b
  unfolding batch_fits
  fits_gone e l = let p = (and-eq-true_iff _ _).0 (rw (lt-leb stage 1 l) at e) in (leb-true _ _ p.0, eqb-true _ _ p.1)

  pub begun_fits : stage ≤ 1 → Begun n t b → batch_fits stage n t m b ≡ true
  unfolding batch_fits
  begun_fits l (inl e) = rw (le-leb stage 1 l, eq-eqb b 0 e)
  begun_fits l (inr e) = rw (le-leb stage 1 l, eq-eqb b (batch (n - t) t) e, or-true (eqb b 0))

  pub gone_fits : 1 < stage → Gone n t m b → batch_fits stage n t m b ≡ true
  unfolding batch_fits
  gone_fits l (least, e) = rw (lt-leb stage 1 l, le-leb (n - t) m least, eq-eqb b (batch m t) e)

  -- b is no more than n
  pub fits_max : batch_fits stage n t m b ≡ true → m ≤ n → b ≤ n
  fits_max e l = go (leb stage 1) refl
    where
      go : (c : Bool) → leb stage 1 ≡ c → b ≤ n
      go true f = ⊎_elim (λ g. omega arith) (λ g. omega (arith, batch_max (n - t) t)) (fits_begun e (leb-true _ _ f))
      go false f = omega (arith, (fits_gone e (leb-false _ _ f)).1, batch_max m t)

pub record Formed (r : Run) : Type 0 where
  pub stage_max : r.stage ≤ 6
  pub bounds : Bounds r.setup.n r.setup.t r.setup.a
  pub dealings_max : r.dealings.count ≤ r.setup.n
  pub complaints_max : r.complaints.count ≤ r.setup.n
  pub responses_max : r.responses.count ≤ r.setup.n
  pub batch_fits_true : batch_fits r.stage r.setup.n r.setup.t r.dealings.count r.b ≡ true

pub formed_of : (r : Run) → well_formed r ≡ true → Formed r
unfolding well_formed
formed_of r e =
    let o = (and-eq-true_iff _ _).0 e in
    let p = (and-eq-true_iff _ _).0 o.1 in
    let q = (and-eq-true_iff _ _).0 p.1 in
    let s = (and-eq-true_iff _ _).0 q.1 in
    let v = (and-eq-true_iff _ _).0 s.1 in
    record {
      stage_max = leb-true _ _ o.0;
      bounds = bounds_of _ _ _ p.0;
      dealings_max = leb-true _ _ q.0;
      complaints_max = leb-true _ _ s.0;
      responses_max = leb-true _ _ v.0;
      batch_fits_true = v.1;
    }

pub formed_test : {r : Run} → Formed r → well_formed r ≡ true
unfolding well_formed
formed_test f =
    rw (le-leb _ _ f.stage_max, bounds_test f.bounds, le-leb _ _ f.dealings_max, le-leb _ _ f.complaints_max, le-leb _ _ f.responses_max, f.batch_fits_true)

-- b is no more than n
pub formed_batch : {r : Run} → Formed r → r.b ≤ r.setup.n
formed_batch f = fits_max _ _ _ _ _ f.batch_fits_true f.dealings_max

-- ---- the stage

pub stage_none : (r : Run) → r.stage ≡ 0 → stage_of r ≡ 0
unfolding stage_of
stage_none r e = rw (eq-eqb r.stage 0 e)

pub stage_past : (r : Run) → (r.stage ≡ 0 → ⊥) → stage_of r ≡ pick (well_formed r) r.stage 6
unfolding stage_of
stage_past r ne = rw (ne_eqb r.stage 0 ne)

-- a well formed run is at the stage that it keeps
pub stage_of_formed : (r : Run) → well_formed r ≡ true → stage_of r ≡ r.stage
stage_of_formed r w = go (ℕ_discrete r.stage 0)
  where
    go : Dec (r.stage ≡ 0) → stage_of r ≡ r.stage
    go (yes e) = stage_none r e ∙ sym e
    go (no ne) = stage_past r ne ∙ rw w

-- a run that keeps stage k or more, past 0, is at k or past it, well formed or not
pub stage_least : (k : ℕ) (r : Run) → 0 < k → k ≤ 6 → k ≤ r.stage → k ≤ stage_of r
stage_least k r p m l = rw (stage_past r (λ e. absurd (omega arith))) (pick_case (λ (i : ℕ). k ≤ i) (well_formed r) r.stage 6 (λ e. l) (λ e. m))

-- a run between stage 0 and stage 6 is well formed, and keeps that stage
pub stage_live : (r : Run) (g : ℕ) → stage_of r ≡ g → 0 < g → g < 6 → (r.stage ≡ g) × (well_formed r ≡ true)
stage_live r g e p l = go (ℕ_discrete r.stage 0) (well_formed r) refl
  where
    go : Dec (r.stage ≡ 0) → (b : Bool) → well_formed r ≡ b → (r.stage ≡ g) × (well_formed r ≡ true)
    go (yes z) b w = absurd (omega (arith, stage_none r z))
    go (no ne) true w = (sym (stage_of_formed r w) ∙ e, w)
    go (no ne) false w = absurd (omega (arith, stage_past r ne ∙ ap (λ (b : Bool). pick b r.stage 6) w))
