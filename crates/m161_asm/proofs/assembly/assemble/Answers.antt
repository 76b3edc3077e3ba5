use Rattle.std.specs.Prelude.{ℕ, [], List, length}
use Rattle.std.proofs.Common.{ap, sym, ◌∙◌, subst, arith}
use Rattle.m161_asm.specs.declared.statement.Line.{Line as CodeLine}
use Rattle.m161_text.specs.Lines.{lines_of}
use Rattle.m161_asm.specs.Answer.{IsWithinLines}
use Rattle.m161_asm.specs.helpers.Lawful.{Lawful}
use Rattle.m161_asm.specs.Seen.{symbols_seen}
use Rattle.m161_asm.specs.helpers.Seen.{above_of}
use Rattle.m161_asm.specs.helpers.SecondPass.{Passes, IsFilled}
use Rattle.m161_asm.specs.Segments.{AreAligned}
use Rattle.m161_asm.proofs.Above.{above_len}
use Rattle.m161_asm.proofs.Aligned.{symbols_are_multiples}
use Rattle.m161_asm.proofs.Assembled.{entry_aligned, first_told, has_line, line_count, second_told, told_program, within_limits}
use Rattle.m161_asm.proofs.Lawfuls.{read_is}
use Rattle.m161_asm.proofs.assembly.assemble.Goals as goal

pub returns-in-Err-clause-value : goal.returns-in-Err-clause-value
returns-in-Err-clause-value c =
    first_told c.in-Err.error
    (λ p. above_of p.lines.items) c.as_bytes.result.now c.args.source.now
    c.as_bytes.ensures.value c.in-Err.ensures.value

pub second_pass-requires : goal.second_pass-requires
second_pass-requires c =
    subst (λ (ls : List CodeLine). Lawful (above_of ls)) (sym c.deref.ensures.value)
    (read_is [] _ (above_of c.in-Ok.first.lines.items) c.in-Ok.ensures.value tt)

pub returns-in-Err-second_pass-clause-value : goal.returns-in-Err-second_pass-clause-value
returns-in-Err-second_pass-clause-value c =
    second_told c.in-Err-second_pass.error c.as_bytes.result.now c.args.source.now
    (symbols_seen c.in-Ok.first.symbols)
    (above_of c.in-Ok.first.lines.items) c.as_bytes.ensures.value c.in-Ok.ensures.value
    c.in-Ok.ensures.pass.symbols
    (subst (λ (ls : List CodeLine). Passes (Rattle.std.proofs.Common.Err c.in-Err-second_pass.error)
    (symbols_seen c.in-Ok.first.symbols)
    (above_of ls)) c.deref.ensures.value c.in-Err-second_pass.ensures.value)

pub returns-in-Ok-program_with-clause-value : goal.returns-in-Ok-program_with-clause-value
returns-in-Ok-program_with-clause-value c =
    let all = above_of c.in-Ok.first.lines.items in
    let second = c.in-Ok-second_pass.second in
    let f = subst
    (λ (ls : List CodeLine). IsFilled second (symbols_seen c.in-Ok.first.symbols) (above_of ls))
    c.deref.ensures.value c.in-Ok-second_pass.ensures.value in
    let g = subst
    (λ (ss : List (List ℕ × ℕ)). IsFilled second ss all) c.in-Ok.ensures.pass.symbols f in
    told_program c.in-Ok-program_with.program c.as_bytes.result.now c.args.source.now all
    c.as_bytes.ensures.value c.in-Ok.ensures.value
    (c.in-Ok-program_with.ensures.value all c.in-Ok.ensures.pass.symbols g)

pub program_with-requires-clause-segments : goal.program_with-requires-clause-segments
program_with-requires-clause-segments c =
    let all = above_of c.in-Ok.first.lines.items in
    let second = c.in-Ok-second_pass.second in
    let f = subst
    (λ (ls : List CodeLine). IsFilled second (symbols_seen c.in-Ok.first.symbols) (above_of ls))
    c.deref.ensures.value c.in-Ok-second_pass.ensures.value in
    within_limits second (symbols_seen c.in-Ok.first.symbols) all f
    (read_is [] _ all c.in-Ok.ensures.value tt)

pub program_with-requires-clause-symbols : goal.program_with-requires-clause-symbols
program_with-requires-clause-symbols c =
    let all = above_of c.in-Ok.first.lines.items in
    subst AreAligned (sym c.in-Ok.ensures.pass.symbols)
    (symbols_are_multiples all (read_is [] _ all c.in-Ok.ensures.value tt))

pub program_with-requires-clause-entry : goal.program_with-requires-clause-entry
program_with-requires-clause-entry c =
    let all = above_of c.in-Ok.first.lines.items in
    let second = c.in-Ok-second_pass.second in
    let f = subst
    (λ (ls : List CodeLine). IsFilled second (symbols_seen c.in-Ok.first.symbols) (above_of ls))
    c.deref.ensures.value c.in-Ok-second_pass.ensures.value in
    entry_aligned second (symbols_seen c.in-Ok.first.symbols) all f
    (read_is [] _ all c.in-Ok.ensures.value tt)

pub returns-in-Err-clause-line : goal.returns-in-Err-clause-line
returns-in-Err-clause-line c =
    subst (λ (t : List ℕ). IsWithinLines (length (lines_of t)) c.in-Err.error) c.as_bytes.ensures.value
    c.in-Err.ensures.line

pub returns-in-Err-second_pass-clause-line : goal.returns-in-Err-second_pass-clause-line
returns-in-Err-second_pass-clause-line c =
    let count = ap (λ (ls : List CodeLine). length ls) c.deref.ensures.value
    ∙ line_count c.in-Ok.first.lines.items c.as_bytes.result.now c.args.source.now
    c.as_bytes.ensures.value c.in-Ok.ensures.value in
    subst (λ (n : ℕ). IsWithinLines n c.in-Err-second_pass.error) count
    c.in-Err-second_pass.ensures.line

pub returns-clause-line : goal.returns-clause-line
returns-clause-line c =
    let all = above_of c.in-Ok.first.lines.items in
    let second = c.in-Ok-second_pass.second in
    let f = subst
    (λ (ls : List CodeLine). IsFilled second (symbols_seen c.in-Ok.first.symbols) (above_of ls))
    c.deref.ensures.value c.in-Ok-second_pass.ensures.value in
    let some = has_line second (symbols_seen c.in-Ok.first.symbols) all f
    c.in-Err-program_with.ensures.some in
    let count = line_count c.in-Ok.first.lines.items c.as_bytes.result.now c.args.source.now
    c.as_bytes.ensures.value c.in-Ok.ensures.value in
    let len = above_len c.in-Ok.first.lines.items in (
      omega (arith, some, len, c.at_line.ensures.line),
      omega (arith, count, c.at_line.ensures.line),
    )
