use Rattle.std.proofs.Common.{◌≡◌, ◌∙◌, subst, sym, [], ◌∷◌}
use Rattle.std.proofs.lemmas.Result.{err_from_is_err_and}
use Rattle.std.specs.Prelude.{string_bytes}
use Rattle.m161_machine.specs.History.{entry}
use Rattle.m161_text.specs.Lines.{text_of}
use Rattle.s161_texts.specs.helpers.Printing.{PutsOut, lines_from}
use Rattle.s161_texts.proofs.Printing.{noted_one, one_fails, one_leads, puts_none, without_line}
use Rattle.s161_texts.proofs.lines.Lines.add.Goals as goal

pub has-requires : goal.has-requires
has-requires g c = (c.args.machine.now.state, c.requires.accepted)

pub pass-requires-clause-accepted : goal.pass-requires-clause-accepted
pass-requires-clause-accepted g c = (c.args.machine.now.state, c.requires.accepted)

pub returns-in_err-pass-clause-err : goal.returns-in_err-pass-clause-err
returns-in_err-pass-clause-err g c =
    let made = err_from_is_err_and c.from_residual.result c.from_residual.ensures.1 in
    let l = c.args.self.now in
    rw (made.1, made.2)
    (one_fails l (g.O.Write.contents c.args.output.now) c.args.event c.args.outcome c.args.machine.now.state c.requires.accepted)

pub returns-clause-ok : goal.returns-clause-ok
returns-clause-ok g c =
    let l = c.args.self.now in
    let a = g.O.Write.contents c.args.output.now in
    let kept = string_bytes l.piece in
    let none : text_of (lines_from l.filter l.number l.tracer (entry c.args.event c.args.outcome ∷ [])) ≡ [] =
    without_line l.filter l.number l.tracer c.args.event c.args.outcome c.args.machine.now.state (sym c.has.ensures ∙ c.if-has.false) c.requires.accepted in
    record {
      filter_is = c.in_ok-pass.ensures.filter;
      number_is = c.in_ok-pass.ensures.number;
      tracer_is = c.in_ok-pass.ensures.made c.args.outcome c.args.machine.now.state c.requires.accepted;
      leads = one_leads l.tracer c.args.event c.args.outcome c.args.machine.now.state c.requires.accepted;
      noted_is = c.in_ok-pass.ensures.noted
          ∙ sym (noted_one l.filter l.number l.tracer c.args.event c.args.outcome c.args.machine.now.state l.noted c.requires.accepted);
      puts =
          subst (λ more. PutsOut a kept more a (string_bytes c.pass.new.self.piece)) (sym none)
          (subst (λ left. PutsOut a kept [] a left) (sym c.in_ok-pass.ensures.piece) (puts_none a kept));
    }
