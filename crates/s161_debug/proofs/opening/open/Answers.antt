use Rattle.std.proofs.Common.{◌≡◌, inl, inr, refl, subst, sym, List, ℕ, IfSome}
use Rattle.std.proofs.lemmas.Result.{err_from_is_err_and}
use Rattle.s161_base.proofs.Asking.{asks_both, after_all, image_unread, later}
use Rattle.s161_base.specs.Asked.{image_files}
use Rattle.s161_base.specs.declared.fault.Fault.TheVariants.{Memory}
use Rattle.s161_base.specs.Samples.{image_file}
use Rattle.s161_debug.specs.Debugs.{IsOpened, IsSourceFault, debug_files, source_files}
use Rattle.s161_debug.proofs.opening.open.Goals as goal

pub returns-in_err-file-clause-fault : goal.returns-in_err-file-clause-fault
returns-in_err-file-clause-fault g c =
    let made = err_from_is_err_and c.from_residual.result c.from_residual.ensures.1 in
    rw (made.1, made.2) (elim c.in_err-file.ensures.err [
      | inl is ↦ inl is
      | inr x ↦ inr (inl x)
    ])

pub returns-in_err-booted-clause-fault : goal.returns-in_err-booted-clause-fault
returns-in_err-booted-clause-fault g c =
    let known = g.F.FileSource.known c.args.files.now in
    let same : g.F.FileSource.known c.read_image.new.files ≡ known = λ i other. c.in_ok-file.ensures.still other i in
    let P : List ℕ → Type 0 = λ file. IfSome (image_file known c.args.task.image.now) (λ bytes. file ≡ bytes) in
    let image = c.as_slice-image.result.now in
    let is_file = subst P (sym c.as_slice-image.ensures.value) c.in_ok-file.ensures.whole in
    let made = err_from_is_err_and c.from_residual-in_err-booted.result c.from_residual-in_err-booted.ensures.1 in
    rw (made.1, made.2) (elim c.in_err-booted.ensures.fault [
      | inl is ↦ inl is
      | inr x ↦ inr (inr (image, is_file, subst (λ files. IsSourceFault c.args.task.source c.args.task.size files image c.in_err-booted.field-0.0) same x))
    ])

pub returns-in_err-style-clause-fault : goal.returns-in_err-style-clause-fault
returns-in_err-style-clause-fault g c =
    let made = err_from_is_err_and c.from_residual-in_err-style.result c.from_residual-in_err-style.ensures.1 in
    rw (made.1, made.2) (inl refl)

pub returns-in_err-again-clause-fault : goal.returns-in_err-again-clause-fault
returns-in_err-again-clause-fault g c =
    let made = err_from_is_err_and c.from_residual-in_err-again.result c.from_residual-in_err-again.ensures.1 in
    rw (made.1, made.2) (inl refl)

pub returns-clause-ok : goal.returns-clause-ok
returns-clause-ok g c =
    let known = g.F.FileSource.known c.args.files.now in
    let same : g.F.FileSource.known c.read_image.new.files ≡ known = λ i other. c.in_ok-file.ensures.still other i in
    let P : List ℕ → Type 0 = λ file. IfSome (image_file known c.args.task.image.now) (λ bytes. file ≡ bytes) in
    let image = c.as_slice-image.result.now in
    let booted = c.in_ok-booted.booted in
    record {
      file = image;
      is_file = subst P (sym c.as_slice-image.ensures.value) c.in_ok-file.ensures.whole;
      opened = subst (λ files. IsOpened c.args.task.source c.args.task.size files image booted.machine booted.events.items) same c.in_ok-booted.ensures.ok;
      style_is = c.in_ok-style.ensures;
    }

pub returns-in_err-file-clause-asks : goal.returns-in_err-file-clause-asks
returns-in_err-file-clause-asks g c =
    let asked = g.F.FileSource.asked in
    let made = err_from_is_err_and c.from_residual.result c.from_residual.ensures.1 in
    rw (made.1, made.2)
    (image_unread c.args.task.image (source_files c.args.task.source) (asked c.args.files.now) (asked c.read_image.new.files) c.in_err-file.field-0.0
    c.in_err-file.ensures.asks c.in_err-file.ensures.err)

pub returns-in_err-booted-clause-asks : goal.returns-in_err-booted-clause-asks
returns-in_err-booted-clause-asks g c =
    let asked = g.F.FileSource.asked in
    let made = err_from_is_err_and c.from_residual-in_err-booted.result c.from_residual-in_err-booted.ensures.1 in
    rw (made.1, made.2)
    (later (image_files c.args.task.image.now) (source_files c.args.task.source) (asked c.args.files.now) (asked c.read_image.new.files) (asked c.open_image.new.files)
    c.in_err-booted.field-0.0 c.in_ok-file.ensures.asks c.in_err-booted.ensures.asks)

-- both files were asked for
pub returns-in_err-style-clause-asks : goal.returns-in_err-style-clause-asks
returns-in_err-style-clause-asks g c =
    let asked = g.F.FileSource.asked in
    let image = image_files c.args.task.image.now in
    let from = source_files c.args.task.source in
    let all = asks_both image from (asked c.args.files.now) (asked c.read_image.new.files) (asked c.open_image.new.files) c.in_ok-file.ensures.asks c.in_ok-booted.ensures.asks in
    let made = err_from_is_err_and c.from_residual-in_err-style.result c.from_residual-in_err-style.ensures.1 in
    rw (made.1, made.2) (after_all (debug_files c.args.task) (asked c.args.files.now) (asked c.open_image.new.files) Memory all tt)

pub returns-in_err-again-clause-asks : goal.returns-in_err-again-clause-asks
returns-in_err-again-clause-asks g c =
    let asked = g.F.FileSource.asked in
    let image = image_files c.args.task.image.now in
    let from = source_files c.args.task.source in
    let all = asks_both image from (asked c.args.files.now) (asked c.read_image.new.files) (asked c.open_image.new.files) c.in_ok-file.ensures.asks c.in_ok-booted.ensures.asks in
    let made = err_from_is_err_and c.from_residual-in_err-again.result c.from_residual-in_err-again.ensures.1 in
    rw (made.1, made.2) (after_all (debug_files c.args.task) (asked c.args.files.now) (asked c.open_image.new.files) Memory all tt)

pub returns-clause-asks : goal.returns-clause-asks
returns-clause-asks g c =
    let asked = g.F.FileSource.asked in
    let image = image_files c.args.task.image.now in
    let from = source_files c.args.task.source in
    asks_both image from (asked c.args.files.now) (asked c.read_image.new.files) (asked c.open_image.new.files) c.in_ok-file.ensures.asks c.in_ok-booted.ensures.asks
