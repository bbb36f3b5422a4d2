-- What the code answers where nothing is refused, and the run that an answer leaves. Assumes nothing.
use Rattle.std.specs.Prelude.{◌≡◌, refl, ℕ, Bool, Result, Ok, Err}
use Rattle.std.specs.Result.{result_unwrap_or}
use Rattle.std.proofs.Common.{sym, ap, ◌∙◌, eq-eqb}
use Rattle.lists.specs.Tests.{pick}
use Rattle.run.specs.declared.Run.{Run}
use Rattle.refusals.specs.declared.Refusal.{Refusal}
use Rattle.run.specs.Steps.{Reply, reply_of, refused, answered}

pub accepted_by : (r : Run) {k : ℕ} {next after : Run} → 0 ≡ k → next ≡ after → ◌≡◌ {A = Reply} (record { run = next; number = 0 }) (answered r k after)
accepted_by r {k} {next} {after} none e =
    ap (λ (z : Run). record { run = z; number = 0 }) e ∙ sym (ap (λ (b : Bool). pick b (record { run = after; number = 0 }) (refused r k)) (eq-eqb k 0 (sym none)))

-- the next run, and the run as it was where the answer is a refusal
pub reply_run : (r : Run) (y : Result Run Refusal) → result_unwrap_or y r ≡ (reply_of r y).run
reply_run r (Ok next) = refl
reply_run r (Err k) = refl
