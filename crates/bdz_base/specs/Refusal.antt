-- The refusals and their numbers, and the order in which a call refuses, as a cascade of tests. Assumes nothing.
use Rattle.std.specs.Prelude.{ℕ, Bool, cond, Result, Ok, Err}
use Rattle.bdz_base.specs.declared.refusal.Refusal.{Refusal}
use Rattle.bdz_base.specs.declared.refusal.Refusal.TheVariants.{AssignedLen, AssignedModulus, AssignedValue, AssignedDuplicate, GraphDidNotPeel, ShortPread, GLength, BadMagic, BadVersion, GBits, ZeroModulus, OccTruncated, TooLarge, NoRoom, PageNotListed, PageGiven, PageLength, Waiting, BadList, NoSuchKey}

-- "Refusal numbers": document 01's table
abbrev pub number : Refusal → ℕ
number AssignedLen = 1
number AssignedModulus = 2
number AssignedValue = 3
number AssignedDuplicate = 4
number GraphDidNotPeel = 5
number ShortPread = 6
number GLength = 7
number BadMagic = 8
number BadVersion = 9
number GBits = 10
number ZeroModulus = 11
number OccTruncated = 12
number TooLarge = 13
number NoRoom = 14
number PageNotListed = 15
number PageGiven = 16
number PageLength = 17
number Waiting = 18
number BadList = 19
number NoSuchKey = 20

-- "0 means accepted"
abbrev pub number_of : {A : Type 0} → Result A Refusal → ℕ
number_of (Ok answer) = 0
number_of (Err refusal) = number refusal

-- the refusal's number if its test holds, else what comes after it
abbrev pub refuse : ℕ → Bool → ℕ → ℕ
refuse number test next = cond test number next

-- "0 means accepted": at once if the test holds, else what comes after it
abbrev pub accept : Bool → ℕ → ℕ
accept test next = cond test 0 next
