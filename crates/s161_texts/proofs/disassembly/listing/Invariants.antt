use Rattle.std.proofs.Common.{◌≡◌, string_bytes, take}
use Rattle.s161_texts.specs.Listings.{dis_text}
use Rattle.s161_texts.proofs.disassembly.listing.Given as goal

abbrev pub invariant-loop-span : goal.invariant-loop-span
invariant-loop-span l = string_bytes l.text ≡ dis_text l.style l.memory (take l.span-index l.spans)
