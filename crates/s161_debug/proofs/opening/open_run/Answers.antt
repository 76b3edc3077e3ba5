use Rattle.std.proofs.Common.{◌≡◌, inl, inr, subst, sym, List, ℕ, IfSome}
use Rattle.std.proofs.lemmas.Result.{err_from_is_err_and}
use Rattle.s161_base.proofs.Asking.{asks_both, image_unread, later}
use Rattle.s161_base.specs.Asked.{image_files}
use Rattle.s161_base.specs.Samples.{image_file}
use Rattle.s161_debug.specs.Debugs.{IsOpened, IsSourceFault, source_files}
use Rattle.s161_debug.proofs.opening.open_run.Goals as goal

pub returns-in_err-whole-clause-fault : goal.returns-in_err-whole-clause-fault
returns-in_err-whole-clause-fault g c =
    let made = err_from_is_err_and c.from_residual.result c.from_residual.ensures.1 in
    rw (made.1, made.2) (elim c.in_err-whole.ensures.err [
      | inl is ↦ inl is
      | inr x ↦ inr (inl x)
    ])

pub returns-in_err-booted-clause-fault : goal.returns-in_err-booted-clause-fault
returns-in_err-booted-clause-fault g c =
    let known = g.F.FileSource.known c.args.files.now in
    let same : g.F.FileSource.known c.read_image.new.files ≡ known = λ i other. c.in_ok-whole.ensures.still other i in
    let P : List ℕ → Type 0 = λ file. IfSome (image_file known c.args.task.image.now) (λ bytes. file ≡ bytes) in
    let image = c.as_slice-image.result.now in
    let is_file = subst P (sym c.as_slice-image.ensures.value) c.in_ok-whole.ensures.whole in
    let made = err_from_is_err_and c.from_residual-in_err-booted.result c.from_residual-in_err-booted.ensures.1 in
    rw (made.1, made.2) (elim c.in_err-booted.ensures.fault [
      | inl is ↦ inl is
      | inr x ↦ inr (inr (image, is_file, subst (λ files. IsSourceFault c.args.task.source c.args.task.size files image c.in_err-booted.field-0.0) same x))
    ])

pub returns-clause-ok : goal.returns-clause-ok
returns-clause-ok g c =
    let known = g.F.FileSource.known c.args.files.now in
    let same : g.F.FileSource.known c.read_image.new.files ≡ known = λ i other. c.in_ok-whole.ensures.still other i in
    let P : List ℕ → Type 0 = λ file. IfSome (image_file known c.args.task.image.now) (λ bytes. file ≡ bytes) in
    let image = c.as_slice-image.result.now in
    let booted = c.in_ok-booted.booted in
    record {
      file = image;
      is_file = subst P (sym c.as_slice-image.ensures.value) c.in_ok-whole.ensures.whole;
      opened = subst (λ files. IsOpened c.args.task.source c.args.task.size files image booted.machine booted.events.items) same c.in_ok-booted.ensures.ok;
    }

pub returns-in_err-whole-clause-asks : goal.returns-in_err-whole-clause-asks
returns-in_err-whole-clause-asks g c =
    let asked = g.F.FileSource.asked in
    let made = err_from_is_err_and c.from_residual.result c.from_residual.ensures.1 in
    rw (made.1, made.2)
    (image_unread c.args.task.image (source_files c.args.task.source) (asked c.args.files.now) (asked c.read_image.new.files) c.in_err-whole.field-0.0
    c.in_err-whole.ensures.asks c.in_err-whole.ensures.err)

pub returns-in_err-booted-clause-asks : goal.returns-in_err-booted-clause-asks
returns-in_err-booted-clause-asks g c =
    let asked = g.F.FileSource.asked in
    let made = err_from_is_err_and c.from_residual-in_err-booted.result c.from_residual-in_err-booted.ensures.1 in
    rw (made.1, made.2)
    (later (image_files c.args.task.image.now) (source_files c.args.task.source) (asked c.args.files.now) (asked c.read_image.new.files) (asked c.open_image.new.files)
    c.in_err-booted.field-0.0 c.in_ok-whole.ensures.asks c.in_err-booted.ensures.asks)

pub returns-clause-asks : goal.returns-clause-asks
returns-clause-asks g c =
    let asked = g.F.FileSource.asked in
    let image = image_files c.args.task.image.now in
    let from = source_files c.args.task.source in
    asks_both image from (asked c.args.files.now) (asked c.read_image.new.files) (asked c.open_image.new.files) c.in_ok-whole.ensures.asks c.in_ok-booted.ensures.asks
