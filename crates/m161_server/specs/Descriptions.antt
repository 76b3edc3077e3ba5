use Rattle.std.specs.Prelude.{ℕ, ◌+◌, ◌/◌, ◌%◌, nat_lt, if◌then◌else◌, List, [], ◌∷◌, ◌++◌, codes}
use Rattle.m161_text.specs.Lines.{text_of}
use Rattle.m161_server.specs.Texts.{up_to}

-- The description of the machine's registers.

-- a decimal number below 100
abbrev pub number_text : ℕ → List ℕ
number_text n = if nat_lt n 10 then (48 + n) ∷ [] else (48 + n / 10) ∷ (48 + n % 10) ∷ []

-- a register of this name and number; what stands behind is its type
abbrev pub register_line : List ℕ → ℕ → List ℕ → List ℕ
register_line name number type =
    codes "<reg name=\"" ++ name ++ codes "\" bitsize=\"32\" regnum=\"" ++ number_text number ++ codes "\""
    ++ type ++ codes "/>\n"

abbrev pub plain : List ℕ → ℕ → List ℕ
plain name number = register_line name number []

-- registers of a letter and a number each, from a number on
abbrev pub general_line : ℕ → List ℕ
general_line n = plain (codes "r" ++ number_text n) n

abbrev pub float_line : ℕ → List ℕ
float_line n = register_line (codes "f" ++ number_text n) (n + 38) (codes " type=\"ieee_single\"")

abbrev pub feature : List ℕ → List ℕ → List ℕ
feature name registers =
    codes "<feature name=\"" ++ name ++ codes "\">\n" ++ registers ++ codes "</feature>\n"

abbrev pub head : List ℕ
head = text_of (
    codes "<?xml version=\"1.0\"?>" ∷
    codes "<!DOCTYPE target SYSTEM \"gdb-target.dtd\">" ∷
    codes "<target version=\"1.0\">" ∷
    codes "<architecture>mips:3000</architecture>" ∷
    codes "<osabi>none</osabi>" ∷
    [])

abbrev pub of_processor : List ℕ
of_processor =
    up_to general_line 32 ++ plain (codes "lo") 33 ++ plain (codes "hi") 34
    ++ register_line (codes "pc") 37 (codes " type=\"code_ptr\"")

abbrev pub of_traps : List ℕ
of_traps = plain (codes "status") 32 ++ plain (codes "badvaddr") 35 ++ plain (codes "cause") 36

abbrev pub of_floats : List ℕ
of_floats =
    up_to float_line 32 ++ plain (codes "fcsr") 70 ++ plain (codes "fir") 71

abbrev pub of_coprocessor : List ℕ
of_coprocessor =
    plain (codes "index") 72 ++ plain (codes "random") 73 ++ plain (codes "entrylo") 74
    ++ plain (codes "context") 75 ++ plain (codes "count") 76 ++ plain (codes "entryhi") 77
    ++ plain (codes "compare") 78 ++ plain (codes "epc") 79 ++ plain (codes "prid") 80

unfoldable pub description : List ℕ
description =
    head ++ feature (codes "org.gnu.gdb.mips.cpu") of_processor
    ++ feature (codes "org.gnu.gdb.mips.cp0") of_traps
    ++ feature (codes "org.gnu.gdb.mips.fpu") of_floats ++ feature (codes "s161.cop0") of_coprocessor
    ++ codes "</target>\n"
