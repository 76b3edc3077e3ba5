use Rattle.std.proofs.Common.{refl}
use Rattle.m161_asm.specs.Tokens.{tokens_from, lexeme, beginning, number_of_literal, numeral, number_from, register_named, register_numbers, register_names}
use Rattle.m161_asm.specs.Lines.{statement, directive_statement, row_named, operand_parts, part, values}
use Rattle.m161_asm.specs.Text.{text, read_lines, line_of, line_in_place, is_filled, address_below, label_address, symbols_in, program_of, segments_of, words_of_statement, word_of_value, field_of, word_address, number_by, entry_of}
use Rattle.s161_base.proofs.Sampled.{sample, told}
use Rattle.s161_base.proofs.sample.sample_program.Goals as goal

-- the definition of the assembler is computed on the text
pub returns : goal.returns
unfolding text read_lines line_of tokens_from lexeme beginning number_of_literal numeral number_from register_named register_numbers register_names statement directive_statement row_named operand_parts part values line_in_place is_filled address_below label_address symbols_in program_of segments_of words_of_statement word_of_value field_of word_address number_by entry_of
returns c = told c.assemble.result sample c.assemble.ensures.value refl refl refl
