use Rattle.std.specs.Prelude.{ℕ, ◌==◌, List, [], ◌∷◌, find, Option, codes}
use Rattle.m161_cop0.specs.declared.register.Register.{Register}
use Rattle.m161_cop0.specs.declared.register.Register.TheVariants as register
use Rattle.m161_cop0.specs.declared.exception.Exception.{Exception}
use Rattle.m161_cop0.specs.declared.exception.Exception.TheVariants as exception

-- Numbers and names. Kane, MIPS RISC Architecture, "System control coprocessor" and "Exception
-- processing"; the names in displays are this project's own.

-- the number of a register in `mfc0` and `mtc0`
abbrev pub number_of_register : Register → ℕ
number_of_register register.Index = 0
number_of_register register.Random = 1
number_of_register register.EntryLo = 2
number_of_register register.Context = 4
number_of_register register.BadVaddr = 8
number_of_register register.Count = 9
number_of_register register.EntryHi = 10
number_of_register register.Compare = 11
number_of_register register.Status = 12
number_of_register register.Cause = 13
number_of_register register.Epc = 14
number_of_register register.Prid = 15

-- its name in a display
abbrev pub name_of_register : Register → List ℕ
name_of_register register.Index = codes "index"
name_of_register register.Random = codes "random"
name_of_register register.EntryLo = codes "entrylo"
name_of_register register.Context = codes "context"
name_of_register register.BadVaddr = codes "badvaddr"
name_of_register register.Count = codes "count"
name_of_register register.EntryHi = codes "entryhi"
name_of_register register.Compare = codes "compare"
name_of_register register.Status = codes "status"
name_of_register register.Cause = codes "cause"
name_of_register register.Epc = codes "epc"
name_of_register register.Prid = codes "prid"

-- the registers, in the order of their numbers
abbrev pub all_registers : List Register
all_registers =
    register.Index ∷ register.Random ∷ register.EntryLo ∷ register.Context ∷ register.BadVaddr
    ∷ register.Count ∷ register.EntryHi ∷ register.Compare ∷ register.Status ∷ register.Cause
    ∷ register.Epc ∷ register.Prid ∷ []

-- the register that has a number
abbrev pub register_with : ℕ → Option Register
register_with n = find (λ r. number_of_register r == n) all_registers

-- the exception's code in Cause
abbrev pub number_of_exception : Exception → ℕ
number_of_exception exception.Interrupt = 0
number_of_exception exception.TlbModified = 1
number_of_exception exception.TlbLoad = 2
number_of_exception exception.TlbStore = 3
number_of_exception exception.AddressErrorLoad = 4
number_of_exception exception.AddressErrorStore = 5
number_of_exception exception.BusErrorFetch = 6
number_of_exception exception.BusErrorData = 7
number_of_exception exception.SystemCall = 8
number_of_exception exception.Breakpoint = 9
number_of_exception exception.ReservedInstruction = 10
number_of_exception exception.CoprocessorUnusable = 11
number_of_exception exception.Overflow = 12

-- the exceptions, in the order of their codes
abbrev pub all_exceptions : List Exception
all_exceptions =
    exception.Interrupt ∷ exception.TlbModified ∷ exception.TlbLoad ∷ exception.TlbStore
    ∷ exception.AddressErrorLoad ∷ exception.AddressErrorStore ∷ exception.BusErrorFetch
    ∷ exception.BusErrorData ∷ exception.SystemCall ∷ exception.Breakpoint
    ∷ exception.ReservedInstruction ∷ exception.CoprocessorUnusable ∷ exception.Overflow ∷ []

-- the exception that has a code
abbrev pub exception_with : ℕ → Option Exception
exception_with n = find (λ e. number_of_exception e == n) all_exceptions
