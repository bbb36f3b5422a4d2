-- The number of each refusal: document 01's, from "From the input" 1 to 10 and from "From the state" 11 to 15; 16 is of document 02, request 2.3,
-- 17 of request 2.5. Acceptance is 0.
use Rattle.std.specs.Prelude.{ℕ, Result, Ok, Err}
use Rattle.refusals.specs.declared.Refusal.{Refusal}
use Rattle.refusals.specs.declared.Refusal.TheVariants.{UnknownTag, WrongLength, ReservedByte, OutOfBounds, NoParty, NotScalar, NotElement, WideMask, WrongRoom, WrongCount, WrongStage, AlreadySent, FalseBlame, NotInHold, FailedResponse, IdentityKey, FewDealings}

abbrev pub number : Refusal → ℕ
number UnknownTag = 1
number WrongLength = 2
number ReservedByte = 3
number OutOfBounds = 4
number NoParty = 5
number NotScalar = 6
number NotElement = 7
number WideMask = 8
number WrongRoom = 9
number WrongCount = 10
number WrongStage = 11
number AlreadySent = 12
number FalseBlame = 13
number NotInHold = 14
number FailedResponse = 15
number IdentityKey = 16
number FewDealings = 17

-- the number of an answer
abbrev pub number_of : {T : Type 0} → Result T Refusal → ℕ
number_of (Ok x) = 0
number_of (Err r) = number r
