use Rattle.std.proofs.Common.{◌≡◌, List, ℕ, [], ◌∷◌, IfSome, Some, inl, inr, subst, sym}
use Rattle.m161_machine.specs.declared.event.Event.{Event}
use Rattle.std.proofs.lemmas.Result.{err_from_is_err_and}
use Rattle.s161_base.proofs.Asking.{after_all, file_unread}
use Rattle.s161_base.specs.declared.fault.Fault.TheVariants.{Memory}
use Rattle.s161_base.specs.Known.{IsText}
use Rattle.s161_base.specs.Listed.{ListsFirst}
use Rattle.s161_base.specs.Reading.{IsOfText}
use Rattle.s161_debug.proofs.Asking.{unbooted_is_none}
use Rattle.s161_debug.proofs.opening.open_file.Goals as goal

pub returns-in_err-text-clause-fault : goal.returns-in_err-text-clause-fault
returns-in_err-text-clause-fault g c =
    let made = err_from_is_err_and c.from_residual.result c.from_residual.ensures.1 in
    rw (made.1, made.2) (elim c.in_err-text.ensures.err [
      | inl file ↦ inr (inl file)
      | inr is ↦ inl is
    ])

pub returns-in_err-booted-clause-fault : goal.returns-in_err-booted-clause-fault
returns-in_err-booted-clause-fault g c =
    let known = g.F.FileSource.known c.args.files.now c.args.name.now in
    let T : List ℕ → Type 0 = λ text. IfSome known (λ bytes. text ≡ bytes) in
    let is = subst T (sym c.as_str.ensures.value) c.in_ok-text.ensures.whole in
    let utf8 = subst IsText (sym c.as_str.ensures.value) c.in_ok-text.text.ok in
    let made = err_from_is_err_and c.from_residual-in_err-booted.result c.from_residual-in_err-booted.ensures.1 in
    rw (made.1, made.2) (inr (inr (c.as_str.result.now, is, (utf8, c.in_err-booted.ensures.fault))))

pub returns-clause-ok : goal.returns-clause-ok
returns-clause-ok g c =
    let known = g.F.FileSource.known c.args.files.now c.args.name.now in
    let T : List ℕ → Type 0 = λ text. IfSome known (λ bytes. text ≡ bytes) in
    let is = subst T (sym c.as_str.ensures.value) c.in_ok-text.ensures.whole in
    let utf8 = subst IsText (sym c.as_str.ensures.value) c.in_ok-text.text.ok in
    let booted = c.in_ok-booted.ensures.ok in
    let L : List Event → Type 0 = λ events. ListsFirst c.args.size c.args.image.now (Some c.as_str.result.now) events booted.0 in
    record {
      conf = booted.0;
      come = (c.as_str.result.now, is, (utf8, subst L (sym c.in_ok-events.ensures) booted.1));
      boots = booted.2;
    }

pub returns-in_err-text-clause-asks : goal.returns-in_err-text-clause-asks
returns-in_err-text-clause-asks g c =
    let asked = g.F.FileSource.asked in
    let made = err_from_is_err_and c.from_residual.result c.from_residual.ensures.1 in
    rw (made.1, made.2)
    (file_unread c.args.name (IsOfText (g.F.FileSource.known c.args.files.now c.args.name.now)) [] (asked c.args.files.now) (asked c.read_text.new.files)
    c.in_err-text.field-0.0 c.in_err-text.ensures.asks c.in_err-text.ensures.err)

-- the file was asked for
pub returns-in_err-booted-clause-asks : goal.returns-in_err-booted-clause-asks
returns-in_err-booted-clause-asks g c =
    let asked = g.F.FileSource.asked in
    let made = err_from_is_err_and c.from_residual-in_err-booted.result c.from_residual-in_err-booted.ensures.1 in
    rw (made.1, made.2)
    (after_all (c.args.name.now ∷ []) (asked c.args.files.now) (asked c.read_text.new.files) c.in_err-booted.field-0.0 c.in_ok-text.ensures.asks
    (unbooted_is_none c.args.size c.args.image.now (Some c.as_str.result.now) c.in_err-booted.field-0.0 c.in_err-booted.ensures.fault))

pub returns-in_err-events-clause-asks : goal.returns-in_err-events-clause-asks
returns-in_err-events-clause-asks g c =
    let asked = g.F.FileSource.asked in
    let made = err_from_is_err_and c.from_residual-in_err-events.result c.from_residual-in_err-events.ensures.1 in
    rw (made.1, made.2)
    (after_all (c.args.name.now ∷ []) (asked c.args.files.now) (asked c.read_text.new.files) Memory c.in_ok-text.ensures.asks tt)
