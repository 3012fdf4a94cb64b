-- A refusal and its number say the same: no two refusals have one number, and none has that of an accepted call. Assumes nothing.
use Rattle.std.proofs.Common.{◌≡◌, ℕ, suc, ◌-◌, ◌≤◌, Bool, List, [], ◌∷◌, Result, Ok, Err, IsOk, slice_index_or, refl, sym, ◌∙◌, ap, arith, ◌==◌, true, false}
use borrow.Author.Tests.{eqb-false}
use Rattle.bdz_base.specs.Refusal.{number, number_of, refuse}
use Rattle.bdz_base.specs.declared.refusal.Refusal.{Refusal}
use Rattle.bdz_base.specs.declared.refusal.Refusal.TheVariants.{AssignedLen, AssignedModulus, AssignedValue, AssignedDuplicate, GraphDidNotPeel, ShortPread, GLength, BadMagic, BadVersion, GBits, ZeroModulus, OccTruncated, TooLarge, NoRoom, PageNotListed, PageGiven, PageLength, Waiting, BadList, NoSuchKey}

-- the refusals in the order of their numbers
abbrev refusals : List Refusal
refusals =
    AssignedLen ∷ AssignedModulus ∷ AssignedValue ∷ AssignedDuplicate ∷ GraphDidNotPeel ∷ ShortPread ∷ GLength ∷ BadMagic
    ∷ BadVersion ∷ GBits ∷ ZeroModulus ∷ OccTruncated ∷ TooLarge ∷ NoRoom ∷ PageNotListed ∷ PageGiven ∷ PageLength ∷ Waiting
    ∷ BadList ∷ NoSuchKey ∷ []

abbrev numbered : ℕ → Refusal
numbered n = slice_index_or refusals (n - 1) NoSuchKey

numbered_back : (r : Refusal) → numbered (number r) ≡ r
numbered_back AssignedLen = refl
numbered_back AssignedModulus = refl
numbered_back AssignedValue = refl
numbered_back AssignedDuplicate = refl
numbered_back GraphDidNotPeel = refl
numbered_back ShortPread = refl
numbered_back GLength = refl
numbered_back BadMagic = refl
numbered_back BadVersion = refl
numbered_back GBits = refl
numbered_back ZeroModulus = refl
numbered_back OccTruncated = refl
numbered_back TooLarge = refl
numbered_back NoRoom = refl
numbered_back PageNotListed = refl
numbered_back PageGiven = refl
numbered_back PageLength = refl
numbered_back Waiting = refl
numbered_back BadList = refl
numbered_back NoSuchKey = refl

pub one_number : (r s : Refusal) → number r ≡ number s → r ≡ s
one_number r s e = sym (numbered_back r) ∙ ap numbered e ∙ numbered_back s

-- no refusal has the number of an accepted call
pub refused_test : (r : Refusal) → (number r == 0) ≡ false
refused_test AssignedLen = refl
refused_test AssignedModulus = refl
refused_test AssignedValue = refl
refused_test AssignedDuplicate = refl
refused_test GraphDidNotPeel = refl
refused_test ShortPread = refl
refused_test GLength = refl
refused_test BadMagic = refl
refused_test BadVersion = refl
refused_test GBits = refl
refused_test ZeroModulus = refl
refused_test OccTruncated = refl
refused_test TooLarge = refl
refused_test NoRoom = refl
refused_test PageNotListed = refl
refused_test PageGiven = refl
refused_test PageLength = refl
refused_test Waiting = refl
refused_test BadList = refl
refused_test NoSuchKey = refl

pub number_some : (r : Refusal) → 1 ≤ number r
number_some r = let h : number r ≡ 0 → ⊥ = eqb-false (number r) 0 (refused_test r) in omega arith

-- where a call has no value to answer, its number says all
pub one_answer : (x y : Result (Unit {0}) Refusal) → number_of x ≡ number_of y → x ≡ y
one_answer (Ok a) (Ok b) e = refl
one_answer (Ok a) (Err s) e = absurd (omega (arith, number_some s))
one_answer (Err r) (Ok b) e = absurd (omega (arith, number_some r))
one_answer (Err r) (Err s) e = ap Err (one_number r s e)

-- what was accepted has a value
pub accepted_ok : {A : Type 0} (x : Result A Refusal) → number_of x ≡ 0 → IsOk x
accepted_ok (Ok a) e = refl
accepted_ok (Err r) e = absurd (omega (arith, number_some r))

-- one test: a refusal says that it holds, and an accepted call that it does not
pub test_held : (r : Refusal) (n : ℕ) (test : Bool) → number r ≡ refuse n test 0 → (test ≡ true) × (number r ≡ n)
test_held r n true e = (refl, e)
test_held r n false e = absurd (omega (arith, number_some r))

pub test_passed : (n : ℕ) (test : Bool) → 0 ≡ refuse (suc n) test 0 → test ≡ false
test_passed n true e = absurd (omega (arith, e))
test_passed n false e = refl
