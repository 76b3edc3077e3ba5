use Rattle.std.proofs.Common.{subst, sym, inl, []}
use Rattle.std.proofs.lemmas.Result.{err_from_is_err_and}
use Rattle.std.specs.Prelude.{string_bytes}
use Rattle.std.specs.Io.KnownBytes.{Appends}
use Rattle.s161_base.specs.Streams.{AppendsSome}
use Rattle.s161_texts.specs.helpers.Printing.{PutsOut}
use Rattle.s161_texts.proofs.Printing.{fails_all, puts_all}
use Rattle.s161_texts.proofs.lines.write_out.Goals as goal

pub returns-in_err-send-clause-err : goal.returns-in_err-send-clause-err
returns-in_err-send-clause-err g c =
    let made = err_from_is_err_and c.from_residual.result c.from_residual.ensures.1 in
    let a = g.O.Write.contents c.args.output.now in
    let b = g.O.Write.contents c.send.new.output in
    rw (made.1, made.2)
    (inl c.in_err-send.ensures.err.0, fails_all a b (string_bytes c.args.piece.now) (subst (AppendsSome a b) c.as_bytes.ensures.value c.in_err-send.ensures.err.1))

pub returns-clause-ok : goal.returns-clause-ok
returns-clause-ok g c =
    let kept = string_bytes c.args.piece.now in
    let a = g.O.Write.contents c.args.output.now in
    let b = g.O.Write.contents c.send.new.output in
    subst (λ left. PutsOut a kept [] b left) (sym c.clear.ensures.bytes)
    (puts_all a b kept (subst (Appends a b) c.as_bytes.ensures.value c.in_ok-send.ensures.ok))
