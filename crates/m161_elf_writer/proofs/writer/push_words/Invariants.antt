use Rattle.std.proofs.Common.{◌≡◌, ◌++◌, take}
use Rattle.m161_elf_writer.specs.Written.{words_bytes}
use Rattle.m161_elf_writer.proofs.writer.push_words.Given as goal

abbrev pub invariant-loop-word : goal.invariant-loop-word
invariant-loop-word l = l.file.items ≡ l.fn.file.items ++ words_bytes (take l.word-index l.words)
