use Rattle.m161_elf_writer.proofs.LabelTable.{headers_more}
use Rattle.m161_elf_writer.proofs.labels.push_section_headers.Goals as goal

pub returns : goal.returns
returns c =
    headers_more c.args.file.now.items _ _ _ _ c.args.symbols c.args.names c.args.sections
    c.word-at.result c.word-size.result c.word-at-2.result c.word-size-2.result c.word-at-3.result
    c.in_ok-extend_from_slice.ensures.items c.in_ok-push_words.ensures c.in_ok-push_words-2.ensures
    c.in_ok-push_words-3.ensures c.word-at.ensures c.word-size.ensures c.word-at-2.ensures
    c.word-size-2.ensures c.word-at-3.ensures
