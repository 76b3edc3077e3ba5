use Rattle.std.proofs.Common.{ℕ}
use Rattle.m161_text.specs.Parts.{Lacks, IsWord, hex_text}
use Rattle.m161_text.proofs.Hex.{hex_lacks_space}
use Rattle.m161_text.proofs.Parts.{no_cut, no_first, no_second, both}
use Rattle.m161_audit.proofs.text.parse_words.Goals as goal

one_part : (n : ℕ) → IsWord n → Lacks 32 (hex_text 8 n)
one_part n small = hex_lacks_space 8 n

pub returns-in_err-pte : goal.returns-in_err-pte
returns-in_err-pte c = rw c.from_residual.ensures (no_cut IsWord IsWord (hex_text 8) (hex_text 8) c.args.text.now c.in_err-pte.ensures)

pub returns-in_err-pte-2 : goal.returns-in_err-pte-2
returns-in_err-pte-2 c = rw c.from_residual-in_err-pte-2.ensures (no_first IsWord IsWord (hex_text 8) (hex_text 8) _ _ c.args.text.now one_part c.in_ok-pte.ensures c.in_err-pte-2.ensures)

pub returns-in_err-done : goal.returns-in_err-done
returns-in_err-done c = rw c.from_residual-in_err-done.ensures (no_second IsWord IsWord (hex_text 8) (hex_text 8) _ _ c.args.text.now one_part c.in_ok-pte.ensures c.in_err-done.ensures)

pub returns : goal.returns
returns c = both IsWord IsWord (hex_text 8) (hex_text 8) _ _ c.args.text.now _ _ one_part c.in_ok-pte.ensures c.in_ok-pte-2.ensures c.in_ok-done.ensures
