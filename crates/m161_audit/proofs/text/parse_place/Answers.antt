use Rattle.std.proofs.Common.{ℕ}
use Rattle.m161_text.specs.Parts.{Lacks, IsPage, hex_text}
use Rattle.m161_audit.specs.helpers.WatchText.{AreWords, words_text}
use Rattle.m161_text.proofs.Hex.{hex_lacks_space}
use Rattle.m161_text.proofs.Parts.{no_cut, no_first, no_second, both}
use Rattle.m161_audit.proofs.text.parse_place.Goals as goal

one_part : (n : ℕ) → IsPage n → Lacks 32 (hex_text 5 n)
one_part n small = hex_lacks_space 5 n

pub returns-in_err-page : goal.returns-in_err-page
returns-in_err-page c = rw c.from_residual.ensures (no_cut IsPage AreWords (hex_text 5) words_text c.args.text.now c.in_err-page.ensures)

pub returns-in_err-page-2 : goal.returns-in_err-page-2
returns-in_err-page-2 c = rw c.from_residual-in_err-page-2.ensures (no_first IsPage AreWords (hex_text 5) words_text _ _ c.args.text.now one_part c.in_ok-page.ensures c.in_err-page-2.ensures)

pub returns-in_err-words : goal.returns-in_err-words
returns-in_err-words c = rw c.from_residual-in_err-words.ensures (no_second IsPage AreWords (hex_text 5) words_text _ _ c.args.text.now one_part c.in_ok-page.ensures c.in_err-words.ensures)

pub returns : goal.returns
returns c = both IsPage AreWords (hex_text 5) words_text _ _ c.args.text.now _ _ one_part c.in_ok-page.ensures c.in_ok-page-2.ensures c.in_ok-words.ensures
