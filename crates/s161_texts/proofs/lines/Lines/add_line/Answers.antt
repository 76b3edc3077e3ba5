use Rattle.std.proofs.Common.{◌∙◌, ap, subst, sym}
use Rattle.std.proofs.lemmas.Result.{err_from_is_err_and}
use Rattle.std.specs.Prelude.{string_bytes}
use Rattle.s161_texts.specs.declared.shared.SharedWords.{SharedWords}
use Rattle.s161_texts.specs.helpers.Printing.{FailsToPut, PutsOut}
use Rattle.s161_texts.proofs.Printing.{noted_one, one_fails, one_leads, with_line}
use Rattle.s161_texts.proofs.lines.Lines.add_line.Goals as goal

pub returns-in_err-write-clause-err : goal.returns-in_err-write-clause-err
returns-in_err-write-clause-err g c =
    let made = err_from_is_err_and c.from_residual.result c.from_residual.ensures.1 in
    let l = c.args.self.now in
    rw (made.1, made.2)
    (one_fails l (g.O.Write.contents c.args.output.now) c.args.event c.args.outcome c.args.machine.now.state c.requires.accepted)

pub returns-in_err-put-clause-err : goal.returns-in_err-put-clause-err
returns-in_err-put-clause-err g c =
    let made = err_from_is_err_and c.from_residual-in_err-put.result c.from_residual-in_err-put.ensures.1 in
    let l = c.args.self.now in
    let a = g.O.Write.contents c.args.output.now in
    let b = g.O.Write.contents c.put.new.output in
    let fault = c.in_err-put.field-0.0 in
    let line = string_bytes c.write.new.self.line in
    let text = with_line l.filter l.number l.tracer c.args.event c.args.outcome c.args.machine.now.state c.requires.has c.requires.accepted in
    rw (made.1, made.2) (
      one_leads l.tracer c.args.event c.args.outcome c.args.machine.now.state c.requires.accepted,
      subst (λ more. FailsToPut a (string_bytes l.piece) more b fault) (sym text)
          (subst (λ more. FailsToPut a (string_bytes l.piece) more b fault) c.in_ok-write.ensures.line
          (subst (λ kept. FailsToPut a kept line b fault) c.in_ok-write.ensures.piece c.in_err-put.ensures.err)),
    )

pub returns-clause-ok : goal.returns-clause-ok
returns-clause-ok g c =
    let l = c.args.self.now in
    let a = g.O.Write.contents c.args.output.now in
    let b = g.O.Write.contents c.put.new.output in
    let left = string_bytes c.put.new.self.piece in
    let line = string_bytes c.write.new.self.line in
    let text = with_line l.filter l.number l.tracer c.args.event c.args.outcome c.args.machine.now.state c.requires.has c.requires.accepted in
    record {
      filter_is = c.in_ok-put.ensures.filter ∙ c.in_ok-write.ensures.filter;
      number_is = c.in_ok-put.ensures.number ∙ c.in_ok-write.ensures.number;
      tracer_is = c.in_ok-put.ensures.tracer ∙ c.in_ok-write.ensures.tracer;
      leads = one_leads l.tracer c.args.event c.args.outcome c.args.machine.now.state c.requires.accepted;
      noted_is = ap (λ (x : SharedWords). x.marks.items) c.in_ok-put.ensures.noted ∙ c.in_ok-write.ensures.noted
          ∙ sym (noted_one l.filter l.number l.tracer c.args.event c.args.outcome c.args.machine.now.state l.noted c.requires.accepted);
      puts =
          subst (λ more. PutsOut a (string_bytes l.piece) more b left) (sym text)
          (subst (λ more. PutsOut a (string_bytes l.piece) more b left) c.in_ok-write.ensures.line
          (subst (λ kept. PutsOut a kept line b left) c.in_ok-write.ensures.piece c.in_ok-put.ensures.ok));
    }
