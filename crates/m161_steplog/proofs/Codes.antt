-- The codes of exceptions.
use Rattle.std.proofs.Common.{◌≡◌, ◌∙◌, ◌<◌, ℕ, List, Option, None, Some, IfSome, refl, sym, ap, arith, decimal}
use Rattle.std.proofs.lemmas.Option.{same_Some}
use Rattle.m161_cop0.specs.declared.exception.Exception.{Exception}
use Rattle.m161_cop0.specs.declared.exception.Exception.TheVariants as exception
use Rattle.m161_cop0.specs.Registers.{number_of_exception, exception_with}
use Rattle.m161_text.specs.Parts.{Reads, IsWord}
use Rattle.m161_steplog.specs.Text.{code_text}
use Rattle.m161_steplog.specs.helpers.Text.{IsCode}

pub code_small : (code : Exception) → number_of_exception code < 13
code_small exception.Interrupt = omega arith
code_small exception.TlbModified = omega arith
code_small exception.TlbLoad = omega arith
code_small exception.TlbStore = omega arith
code_small exception.AddressErrorLoad = omega arith
code_small exception.AddressErrorStore = omega arith
code_small exception.BusErrorFetch = omega arith
code_small exception.BusErrorData = omega arith
code_small exception.SystemCall = omega arith
code_small exception.Breakpoint = omega arith
code_small exception.ReservedInstruction = omega arith
code_small exception.CoprocessorUnusable = omega arith
code_small exception.Overflow = omega arith

-- an exception is the one with its code
code_back : (code : Exception) → exception_with (number_of_exception code) ≡ Some code
code_back exception.Interrupt = refl
code_back exception.TlbModified = refl
code_back exception.TlbLoad = refl
code_back exception.TlbStore = refl
code_back exception.AddressErrorLoad = refl
code_back exception.AddressErrorStore = refl
code_back exception.BusErrorFetch = refl
code_back exception.BusErrorData = refl
code_back exception.SystemCall = refl
code_back exception.Breakpoint = refl
code_back exception.ReservedInstruction = refl
code_back exception.CoprocessorUnusable = refl
code_back exception.Overflow = refl

word_of_code : (code : Exception) → IsWord (number_of_exception code)
word_of_code code = omega (arith, code_small code)

-- the exception of a decimal
pub code_read : (text : List ℕ) (n : ℕ) (r : Option Exception) → Reads IsWord decimal text (Some n) → r ≡ exception_with n
    → IfSome r (λ code. number_of_exception code ≡ n) → Reads IsCode code_text text r
code_read text n None one is back = record {
  found = tt;
  only = λ code any same. is ∙ ap exception_with (same_Some n (number_of_exception code) (one.only (number_of_exception code) (word_of_code code) same)) ∙ code_back code;
}
code_read text n (Some x) one is back = record {
  found = (tt, one.found.1 ∙ ap decimal (sym back));
  only = λ code any same. is ∙ ap exception_with (same_Some n (number_of_exception code) (one.only (number_of_exception code) (word_of_code code) same)) ∙ code_back code;
}
