use Rattle.std.proofs.Common.{◌≡◌, ap, subst, sym, inr, List, ℕ, IfSome}
use Rattle.std.proofs.lemmas.Result.{err_from_is_err_and}
use Rattle.m161_machine.specs.State.{State}
use Rattle.s161_base.proofs.Asking.{after_all, alone_unread, asks_err, boot_is_none}
use Rattle.s161_base.specs.Asked.{image_files}
use Rattle.s161_base.specs.Faults.{BootsIn}
use Rattle.s161_base.specs.Streams.{streams}
use Rattle.s161_base.specs.Samples.{image_file}
use Rattle.s161_run.specs.Consoles.{BootsFor}
use Rattle.s161_run.proofs.Asking.{serve_is_none}
use Rattle.s161_run.proofs.console.console.Goals as goal

pub serve-requires-clause-silent : goal.serve-requires-clause-silent
serve-requires-clause-silent g c =
    let booted = c.in_ok-core.ensures.ok in
    ap (λ (s : State). s.board.console.output) booted.1.state_is

pub returns-in_err-driven-clause-fault : goal.returns-in_err-driven-clause-fault
returns-in_err-driven-clause-fault g c =
    let known = image_file (g.F.FileSource.known c.args.files.now) c.args.task.image.now in
    let R : List ℕ → Type 0 = λ file. IfSome known (λ bytes. file ≡ bytes) in
    let made = err_from_is_err_and c.from_residual-in_err-driven.result c.from_residual-in_err-driven.ensures.1 in
    let file = c.deref.result.now in
    let booted = c.in_ok-core.core.state in
    let boots : BootsFor c.args.task known booted = record {
      file = file;
      is_file = subst R (sym c.deref.ensures.value) c.in_ok-file.ensures.whole;
      boots = subst (λ conf. BootsIn file conf booted) c.conf_of.ensures c.in_ok-core.ensures.ok;
    } in
    rw (made.1, made.2) (inr (booted, boots, c.in_err-driven.ensures.err))

pub returns-clause-ok : goal.returns-clause-ok
returns-clause-ok g c =
    let known = image_file (g.F.FileSource.known c.args.files.now) c.args.task.image.now in
    let R : List ℕ → Type 0 = λ file. IfSome known (λ bytes. file ≡ bytes) in
    let file = c.deref.result.now in
    let booted = c.in_ok-core.core.state in
    record {
      booted = booted;
      boots = record {
        file = file;
        is_file = subst R (sym c.deref.ensures.value) c.in_ok-file.ensures.whole;
        boots = subst (λ conf. BootsIn file conf booted) c.conf_of.ensures c.in_ok-core.ensures.ok;
      };
      driven = c.in_ok-driven.driven;
      state = c.serve.new.core.state;
      serves = c.in_ok-driven.ensures.ok;
      stop_is = c.stop_of.ensures;
    }

pub returns-in_err-file-clause-asks : goal.returns-in_err-file-clause-asks
returns-in_err-file-clause-asks g c =
    let asked = g.F.FileSource.asked in
    asks_err c.from_residual.result c.from_residual.ensures.1
    (alone_unread c.args.task.image (asked c.args.files.now) (asked c.read_image.new.files) c.in_err-file.field-0.0 c.in_err-file.ensures.asks
    c.in_err-file.ensures.err)

-- the file was asked for, and other faults are none of it
pub returns-in_err-core-clause-asks : goal.returns-in_err-core-clause-asks
returns-in_err-core-clause-asks g c =
    let asked = g.F.FileSource.asked in
    asks_err c.from_residual-in_err-core.result c.from_residual-in_err-core.ensures.1
    (after_all (image_files c.args.task.image.now) (asked c.args.files.now) (asked c.read_image.new.files) c.in_err-core.field-0.0 c.in_ok-file.ensures.asks
    (boot_is_none c.deref.result.now c.conf_of.result c.in_err-core.field-0.0 c.in_err-core.ensures.fault))

pub returns-in_err-driven-clause-asks : goal.returns-in_err-driven-clause-asks
returns-in_err-driven-clause-asks g c =
    let asked = g.F.FileSource.asked in
    asks_err c.from_residual-in_err-driven.result c.from_residual-in_err-driven.ensures.1
    (after_all (image_files c.args.task.image.now) (asked c.args.files.now) (asked c.read_image.new.files) c.in_err-driven.field-0.0 c.in_ok-file.ensures.asks
    (serve_is_none c.args.task.drive c.in_ok-core.core.state (streams (g.I.Read.remaining c.args.input.now) (g.I.Read.remaining c.serve.new.input) (g.O.Write.contents c.args.output.now) (g.O.Write.contents c.serve.new.output)) c.in_err-driven.field-0.0 c.in_err-driven.ensures.err))
