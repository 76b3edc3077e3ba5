use Rattle.std.proofs.Common.{◌≡◌, ◌∙◌, ◌++◌, refl, subst, inl, inr}
use Rattle.std.proofs.lemmas.Result.{err_from_is_err_and}
use Rattle.std.specs.Prelude.{string_bytes}
use Rattle.std.specs.Io.KnownBytes.{Appends}
use Rattle.m161_text.specs.Lines.{with_line_end}
use Rattle.s161_base.specs.Streams.{AppendsSome}
use Rattle.s161_run.specs.Runs.{stop_line}
use Rattle.s161_texts.specs.helpers.Printing.{FailsToPut, PutsOut}
use Rattle.s161_texts.proofs.Printing.{fails_end, puts_end, some_none}
use Rattle.s161_texts.proofs.lines.Lines.finish.Goals as goal

pub returns-in_err-last-clause-err : goal.returns-in_err-last-clause-err
returns-in_err-last-clause-err g c =
    let made = err_from_is_err_and c.from_residual.result c.from_residual.ensures.1 in
    rw (made.1, made.2) (inr refl, some_none (g.O.Write.contents c.args.output.now) (string_bytes c.args.self.now.piece ++ with_line_end (stop_line c.args.stop)))

pub returns-in_err-keep-clause-err : goal.returns-in_err-keep-clause-err
returns-in_err-keep-clause-err g c =
    let made = err_from_is_err_and c.from_residual-in_err-keep.result c.from_residual-in_err-keep.ensures.1 in
    let a = g.O.Write.contents c.args.output.now in
    let b = g.O.Write.contents c.keep.new.output in
    let fault = c.in_err-keep.field-0.0 in
    let last : c.as_str.result.now ≡ with_line_end (stop_line c.args.stop) = c.as_str.ensures.value ∙ c.in_ok-last.ensures in
    rw (made.1, made.2) (subst (λ more. FailsToPut a (string_bytes c.args.self.now.piece) more b fault) last c.in_err-keep.ensures.err)

pub returns-in_err-send-clause-err : goal.returns-in_err-send-clause-err
returns-in_err-send-clause-err g c =
    let made = err_from_is_err_and c.from_residual-in_err-send.result c.from_residual-in_err-send.ensures.1 in
    let a = g.O.Write.contents c.args.output.now in
    let b = g.O.Write.contents c.keep.new.output in
    let x = g.O.Write.contents c.send.new.output in
    let last : c.as_str.result.now ≡ with_line_end (stop_line c.args.stop) = c.as_str.ensures.value ∙ c.in_ok-last.ensures in
    let kept = string_bytes c.args.self.now.piece in
    let left = string_bytes c.keep.new.piece in
    rw (made.1, made.2) (
      inl c.in_err-send.ensures.err.0,
      fails_end a b x kept left (with_line_end (stop_line c.args.stop))
          (subst (λ more. PutsOut a kept more b left) last c.in_ok-keep.ensures.ok)
          (subst (AppendsSome b x) c.as_bytes.ensures.value c.in_err-send.ensures.err.1),
    )

pub returns-clause-ok : goal.returns-clause-ok
returns-clause-ok g c =
    let a = g.O.Write.contents c.args.output.now in
    let b = g.O.Write.contents c.keep.new.output in
    let x = g.O.Write.contents c.send.new.output in
    let last : c.as_str.result.now ≡ with_line_end (stop_line c.args.stop) = c.as_str.ensures.value ∙ c.in_ok-last.ensures in
    let kept = string_bytes c.args.self.now.piece in
    let left = string_bytes c.keep.new.piece in
    puts_end a b x kept left (with_line_end (stop_line c.args.stop))
    (subst (λ more. PutsOut a kept more b left) last c.in_ok-keep.ensures.ok)
    (subst (Appends b x) c.as_bytes.ensures.value c.in_ok-send.ensures.ok)
