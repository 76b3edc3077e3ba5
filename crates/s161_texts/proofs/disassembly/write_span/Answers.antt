use Rattle.std.proofs.Common.{◌≡◌, ◌∙◌, ◌+◌, ◌*◌, ◌++◌, ℕ, List, length, string_bytes, ap, sym, append_assoc, arith}
use Rattle.m161_display.specs.Shows.{code_line, numbered_lines}
use Rattle.m161_text.specs.Lines.{with_line_end, text_of}
use Rattle.s161_texts.specs.Listings.{whole_words}
use Rattle.s161_texts.proofs.Listed.{counted_more, in_ram_within}
use Rattle.s161_texts.proofs.disassembly.write_span.Goals as goal

pub write_word-requires : goal.write_word-requires
write_word-requires c =
    in_ram_within (length c.args.memory.now) c.args.span.address c.args.span.size (c.aligned_up-start.result + 4 * c.loop-i.i) c.requires (omega arith) (omega arith)

pub loop-i-preserved : goal.loop-i-preserved
loop-i-preserved c =
    let line : ℕ → List ℕ = λ i. code_line c.args.style.now c.args.memory.now (c.aligned_up-start.result + 4 * i) in
    c.in_ok-write_word.ensures ∙ ap (λ bs. bs ++ with_line_end (line c.loop-i.i)) c.loop-i.invariant
    ∙ append_assoc (string_bytes c.args.text.now) (text_of (numbered_lines c.loop-i.i line)) (with_line_end (line c.loop-i.i))
    ∙ ap (λ bs. string_bytes c.args.text.now ++ bs) (sym (counted_more line c.loop-i.i))

pub returns : goal.returns
returns c =
    let line : ℕ → ℕ → List ℕ = λ start i. code_line c.args.style.now c.args.memory.now (start + 4 * i) in
    let whole : c.loop-i.i ≡ whole_words c.args.span = omega arith in
    c.loop-i.invariant
    ∙ ap (λ n. string_bytes c.args.text.now ++ text_of (numbered_lines n (line c.aligned_up-start.result))) whole
    ∙ ap (λ start. string_bytes c.args.text.now ++ text_of (numbered_lines (whole_words c.args.span) (line start))) c.aligned_up-start.ensures
