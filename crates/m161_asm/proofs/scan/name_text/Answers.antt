use Rattle.std.specs.Str.{IsUtf8}
use Rattle.std.proofs.Common.{sym, subst}
use Rattle.m161_asm.proofs.Ascii.{name_ascii, front}
use Rattle.m161_asm.proofs.scan.name_text.Goals as goal

pub unreachable-requires : goal.unreachable-requires
unreachable-requires c =
    c.in-Err.ensures.cases.0
    (subst IsUtf8 (sym (front c.args.rest.now _ c.requires.some c.word_len-width.ensures.value))
    (name_ascii c.args.rest.now c.requires.begins))
