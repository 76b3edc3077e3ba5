use Rattle.std.proofs.Common.{arith}
use Rattle.m161_text.specs.Parts.{hex_text, Lacks, IsWord}
use Rattle.m161_steplog.specs.Text.{code_text}
use Rattle.m161_steplog.specs.helpers.Text.{IsCode}
use Rattle.m161_cop0.specs.declared.exception.Exception.{Exception}
use Rattle.m161_cop0.specs.Registers.{number_of_exception}
use Rattle.m161_text.proofs.Decimal.{decimal_lacks_space}
use Rattle.m161_steplog.proofs.Codes.{code_small}
use Rattle.m161_text.proofs.Parts.{no_cut, no_first, no_second, both}
use Rattle.m161_steplog.proofs.line.parse_trap.Goals as goal

one_part : (code : Exception) → IsCode code → Lacks 32 (code_text code)
one_part code any = decimal_lacks_space (number_of_exception code) (omega (arith, code_small code))

pub returns-in_err-code : goal.returns-in_err-code
returns-in_err-code c = rw c.from_residual.ensures (no_cut IsCode IsWord code_text (hex_text 8) c.args.text.now c.in_err-code.ensures)

pub returns-in_err-code-2 : goal.returns-in_err-code-2
returns-in_err-code-2 c = rw c.from_residual-in_err-code-2.ensures (no_first IsCode IsWord code_text (hex_text 8) _ _ c.args.text.now one_part c.in_ok-code.ensures c.in_err-code-2.ensures)

pub returns-in_err-vector : goal.returns-in_err-vector
returns-in_err-vector c = rw c.from_residual-in_err-vector.ensures (no_second IsCode IsWord code_text (hex_text 8) _ _ c.args.text.now one_part c.in_ok-code.ensures c.in_err-vector.ensures)

pub returns : goal.returns
returns c = both IsCode IsWord code_text (hex_text 8) _ _ c.args.text.now _ _ one_part c.in_ok-code.ensures c.in_ok-code-2.ensures c.in_ok-vector.ensures
