-- No refusal has the number of acceptance, and no answer that refuses. Assumes nothing.
use Rattle.std.specs.Prelude.{◌≡◌, refl, ◌≢◌, false, eqb, Result, Ok, Err, is_ok}
use Rattle.std.proofs.Common.{sym, ap, ◌∙◌, true≢false}
use Rattle.refusals.specs.declared.Refusal.{Refusal}
use Rattle.refusals.specs.declared.Refusal.TheVariants.{UnknownTag, WrongLength, ReservedByte, OutOfBounds, NoParty, NotScalar, NotElement, WideMask, WrongRoom, WrongCount, WrongStage, AlreadySent, FalseBlame, NotInHold, FailedResponse, IdentityKey, FewDealings}
use Rattle.refusals.specs.Numbers.{number, number_of}

pub number_some : (r : Refusal) → eqb (number r) 0 ≡ false
number_some UnknownTag = refl
number_some WrongLength = refl
number_some ReservedByte = refl
number_some OutOfBounds = refl
number_some NoParty = refl
number_some NotScalar = refl
number_some NotElement = refl
number_some WideMask = refl
number_some WrongRoom = refl
number_some WrongCount = refl
number_some WrongStage = refl
number_some AlreadySent = refl
number_some FalseBlame = refl
number_some NotInHold = refl
number_some FailedResponse = refl
number_some IdentityKey = refl
number_some FewDealings = refl

pub refused_number : {T : Type 0} (y : Result T Refusal) → is_ok y ≡ false → number_of y ≢ 0
refused_number (Ok x) e z = true≢false e
refused_number (Err k) e z = true≢false (sym (ap (λ n. eqb n 0) z) ∙ number_some k)
