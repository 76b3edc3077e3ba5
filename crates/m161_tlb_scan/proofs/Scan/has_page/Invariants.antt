use Rattle.std.proofs.Common.{◌≡◌, ◌*◌, ◌+◌, false}
use Rattle.m161_tlb_scan.specs.helpers.Blocks.{LacksPage}
use Rattle.m161_tlb_scan.proofs.Scan.has_page.Given as goal

abbrev pub invariant-loop-i : goal.invariant-loop-i
invariant-loop-i l = l.found ≡ false → LacksPage l.self l.page (l.block * 8) (l.block * 8 + l.i)
