use Rattle.std.proofs.Common.{◌≡◌, List, ℕ, false, Option, None, Some, IfSome, rules, subst, sym, [], ◌∷◌, ◌++◌}
use Rattle.std.proofs.lemmas.Result.{err_from_is_err_and}
use Rattle.m161_machine.specs.declared.event.Entry.{Entry}
use Rattle.m161_machine.specs.Conf.{is_within_limits}
use Rattle.s161_base.proofs.Asking.{IsNoFile, after_all, asks_both, asks_err, boot_is_none, file_unread, image_unread, later}
use Rattle.s161_base.specs.Asked.{image_files}
use Rattle.s161_base.specs.Faults.{IsBootFault, IsUnloaded}
use Rattle.s161_base.specs.Reading.{IsOfText}
use Rattle.s161_base.proofs.Failing.{boot_failed, log_failed}
use Rattle.s161_base.proofs.Listing.{named_fault}
use Rattle.s161_run.specs.Replays.{IsReplayFault, OfReplay}
use Rattle.s161_base.specs.declared.fault.Fault.TheVariants.{LogImage, LogMachine, Memory}
use Rattle.s161_base.specs.Known.{IsText}
use Rattle.s161_base.specs.declared.machines.LoggedMachine.{LoggedMachine}
use Rattle.s161_base.specs.declared.machines.NamedMachine.TheVariants.{Logged}
use Rattle.s161_base.specs.Machines.{IsLogOf, asked_conf, machine_fault}
use Rattle.s161_base.specs.Samples.{image_file}
use Rattle.s161_run.proofs.replay.replay.Goals as goal

pub returns-clause-ok : goal.returns-clause-ok
returns-clause-ok g c =
    let known = g.F.FileSource.known c.args.files.now in
    let image = image_file known c.args.task.image.now in
    let P : List ℕ → Type 0 = λ file. IfSome image (λ bytes. file ≡ bytes) in
    let Q : Option (List ℕ) → Type 0 = λ log. IfSome log (λ bytes. c.as_str-text.result.now ≡ bytes) in
    let R : List ℕ → Type 0 = λ log. IfSome (g.F.FileSource.known c.read_image.new.files c.args.task.text.now) (λ bytes. log ≡ bytes) in
    let S : List Entry → Type 0 = λ entries. IsLogOf c.as_str-text.result.now c.in_ok-log.log.machine entries in
    record {
      file = c.as_slice-image.result.now;
      is_file = subst P (sym c.as_slice-image.ensures.value) c.in_ok-file.ensures.whole;
      entries_text = c.as_str-text.result.now;
      is_file_of_entries = subst Q (c.in_ok-file.ensures.still c.args.task.text.now) (subst R (sym c.as_str-text.ensures.value) c.in_ok-listed.ensures.whole);
      is_text = subst IsText (sym c.as_str-text.ensures.value) c.in_ok-listed.listed.ok;
      logged = c.in_ok-log.log.machine;
      entries = c.deref.result.now;
      is_log = subst S (sym c.deref.ensures.value) c.in_ok-log.ensures.found;
      is_that = search rules;
      verdict = c.in_ok-verdict.verdict;
      verifies = search rules;
      text_is = search rules;
      status_is = c.status.ensures;
    }

pub returns-in_err-log-clause-fault : goal.returns-in_err-log-clause-fault
returns-in_err-log-clause-fault g c =
    let known = g.F.FileSource.known c.args.files.now in
    let image = image_file known c.args.task.image.now in
    let text = known c.args.task.text.now in
    let Q : Option (List ℕ) → Type 0 = λ log. IfSome log (λ bytes. c.as_str-text.result.now ≡ bytes) in
    let R : List ℕ → Type 0 = λ log. IfSome (g.F.FileSource.known c.read_image.new.files c.args.task.text.now) (λ bytes. log ≡ bytes) in
    let is = subst Q (c.in_ok-file.ensures.still c.args.task.text.now) (subst R (sym c.as_str-text.ensures.value) c.in_ok-listed.ensures.whole) in
    let utf8 = subst IsText (sym c.as_str-text.ensures.value) c.in_ok-listed.listed.ok in
    let failed = log_failed (IsReplayFault c.args.task image text) c.as_str-text.result.now c.in_err-log.field-0.0
    (λ n bad. (c.as_str-text.result.now, is, (utf8, bad))) tt c.in_err-log.ensures.fault in
    search (rules, failed)

-- the log's file has a log, whose machine line is another machine's
pub returns-in-Some-clause-fault : goal.returns-in-Some-clause-fault
returns-in-Some-clause-fault g c =
    let known = g.F.FileSource.known c.args.files.now in
    let image = image_file known c.args.task.image.now in
    let text = known c.args.task.text.now in
    let P : List ℕ → Type 0 = λ file. IfSome image (λ bytes. file ≡ bytes) in
    let Q : Option (List ℕ) → Type 0 = λ log. IfSome log (λ bytes. c.as_str-text.result.now ≡ bytes) in
    let R : List ℕ → Type 0 = λ log. IfSome (g.F.FileSource.known c.read_image.new.files c.args.task.text.now) (λ bytes. log ≡ bytes) in
    let is_file = subst P (sym c.as_slice-image.ensures.value) c.in_ok-file.ensures.whole in
    let is = subst Q (c.in_ok-file.ensures.still c.args.task.text.now) (subst R (sym c.as_str-text.ensures.value) c.in_ok-listed.ensures.whole) in
    let utf8 = subst IsText (sym c.as_str-text.ensures.value) c.in_ok-listed.listed.ok in
    let file = c.as_slice-image.result.now in
    let logged = c.in_ok-log.log.machine in
    let replays : (IsSo : List ℕ → LoggedMachine → Type 0) → IsSo file logged → OfReplay image text IsSo =
    λ IsSo so. (file, is_file, (c.as_str-text.result.now, is, (utf8, (logged, c.in_ok-log.log.entries.items, c.in_ok-log.ensures.found, so)))) in
    named_fault (IsReplayFault c.args.task image text) c.args.task.size file (Some (Logged logged)) c.in-Some.fault
    (replays (λ f l. machine_fault c.args.task.size f (Some (Logged l)) ≡ Some LogMachine))
    (replays (λ f l. machine_fault c.args.task.size f (Some (Logged l)) ≡ Some LogImage)) (search rules)

-- the log has no fault, the machine is the one that it names, and the boot's answer says the rest
pub returns-in_err-verdict-clause-fault : goal.returns-in_err-verdict-clause-fault
returns-in_err-verdict-clause-fault g c =
    let known = g.F.FileSource.known c.args.files.now in
    let image = image_file known c.args.task.image.now in
    let text = known c.args.task.text.now in
    let P : List ℕ → Type 0 = λ file. IfSome image (λ bytes. file ≡ bytes) in
    let Q : Option (List ℕ) → Type 0 = λ log. IfSome log (λ bytes. c.as_str-text.result.now ≡ bytes) in
    let R : List ℕ → Type 0 = λ log. IfSome (g.F.FileSource.known c.read_image.new.files c.args.task.text.now) (λ bytes. log ≡ bytes) in
    let is_file = subst P (sym c.as_slice-image.ensures.value) c.in_ok-file.ensures.whole in
    let is = subst Q (c.in_ok-file.ensures.still c.args.task.text.now) (subst R (sym c.as_str-text.ensures.value) c.in_ok-listed.ensures.whole) in
    let utf8 = subst IsText (sym c.as_str-text.ensures.value) c.in_ok-listed.listed.ok in
    let file = c.as_slice-image.result.now in
    let logged = c.in_ok-log.log.machine in
    let replays : (IsSo : List ℕ → LoggedMachine → Type 0) → IsSo file logged → OfReplay image text IsSo =
    λ IsSo so. (file, is_file, (c.as_str-text.result.now, is, (utf8, (logged, c.in_ok-log.log.entries.items, c.in_ok-log.ensures.found, so)))) in
    let conf = asked_conf c.args.task.size (Some (Logged logged)) in
    let none : machine_fault c.args.task.size file (Some (Logged logged)) ≡ None = search rules in
    let made = err_from_is_err_and c.from_residual-in_err-verdict.result c.from_residual-in_err-verdict.ensures.1 in
    let is_fault : IsBootFault file conf c.in_err-verdict.field-0.0 =
    subst (λ conf. IsBootFault file conf c.in_err-verdict.field-0.0) c.asked_conf-conf.ensures c.in_err-verdict.ensures.fault in
    let failed = boot_failed (IsReplayFault c.args.task image text) file conf c.in_err-verdict.field-0.0
    (λ outside. replays (λ f l. (machine_fault c.args.task.size f (Some (Logged l)) ≡ None) × (is_within_limits (asked_conf c.args.task.size (Some (Logged l))) ≡ false)) (none, outside))
    (λ why has. replays (λ f l. (machine_fault c.args.task.size f (Some (Logged l)) ≡ None) × IsUnloaded f (asked_conf c.args.task.size (Some (Logged l))) why) (none, has))
    tt is_fault in
    rw (made.1, made.2) failed

pub returns-in_err-file-clause-asks : goal.returns-in_err-file-clause-asks
returns-in_err-file-clause-asks g c =
    let asked = g.F.FileSource.asked in
    asks_err c.from_residual.result c.from_residual.ensures.1
    (image_unread c.args.task.image (c.args.task.text.now ∷ []) (asked c.args.files.now) (asked c.read_image.new.files) c.in_err-file.field-0.0
    c.in_err-file.ensures.asks c.in_err-file.ensures.err)

pub returns-in_err-listed-clause-asks : goal.returns-in_err-listed-clause-asks
returns-in_err-listed-clause-asks g c =
    let between = g.F.FileSource.asked c.read_image.new.files in
    let after = g.F.FileSource.asked c.read_text.new.files in
    let fault = c.in_err-listed.field-0.0 in
    asks_err c.from_residual-in_err-listed.result c.from_residual-in_err-listed.ensures.1
    (later (image_files c.args.task.image.now) (c.args.task.text.now ∷ []) (g.F.FileSource.asked c.args.files.now) between after fault c.in_ok-file.ensures.asks
    (file_unread c.args.task.text (IsOfText (g.F.FileSource.known c.read_image.new.files c.args.task.text.now)) [] between after fault
    c.in_err-listed.ensures.asks c.in_err-listed.ensures.err))

-- both files were asked for
pub returns-in_err-log-clause-asks : goal.returns-in_err-log-clause-asks
returns-in_err-log-clause-asks g c =
    let asked = g.F.FileSource.asked in
    let image = image_files c.args.task.image.now in
    let text = c.args.task.text.now ∷ [] in
    let a = asked c.args.files.now in
    let b = asked c.read_text.new.files in
    let all = asks_both image text a (asked c.read_image.new.files) b c.in_ok-file.ensures.asks c.in_ok-listed.ensures.asks in
    asks_err c.from_residual-in_err-log.result c.from_residual-in_err-log.ensures.1 (after_all (image ++ text) a b c.in_err-log.field-0.0 all (log_failed IsNoFile c.as_str-text.result.now c.in_err-log.field-0.0 (λ n bad. tt) tt c.in_err-log.ensures.fault))

pub returns-in_err-verdict-clause-asks : goal.returns-in_err-verdict-clause-asks
returns-in_err-verdict-clause-asks g c =
    let asked = g.F.FileSource.asked in
    let image = image_files c.args.task.image.now in
    let text = c.args.task.text.now ∷ [] in
    let a = asked c.args.files.now in
    let b = asked c.read_text.new.files in
    let all = asks_both image text a (asked c.read_image.new.files) b c.in_ok-file.ensures.asks c.in_ok-listed.ensures.asks in
    asks_err c.from_residual-in_err-verdict.result c.from_residual-in_err-verdict.ensures.1 (after_all (image ++ text) a b c.in_err-verdict.field-0.0 all (boot_is_none c.as_slice-image.result.now c.asked_conf-conf.result c.in_err-verdict.field-0.0 c.in_err-verdict.ensures.fault))

pub returns-in_err-shown-clause-asks : goal.returns-in_err-shown-clause-asks
returns-in_err-shown-clause-asks g c =
    let asked = g.F.FileSource.asked in
    let image = image_files c.args.task.image.now in
    let text = c.args.task.text.now ∷ [] in
    let a = asked c.args.files.now in
    let b = asked c.read_text.new.files in
    let all = asks_both image text a (asked c.read_image.new.files) b c.in_ok-file.ensures.asks c.in_ok-listed.ensures.asks in
    asks_err c.from_residual-in_err-shown.result c.from_residual-in_err-shown.ensures.1 (after_all (image ++ text) a b Memory all tt)

pub returns-in-Some-clause-asks : goal.returns-in-Some-clause-asks
returns-in-Some-clause-asks g c =
    let asked = g.F.FileSource.asked in
    let image = image_files c.args.task.image.now in
    let text = c.args.task.text.now ∷ [] in
    let a = asked c.args.files.now in
    let b = asked c.read_text.new.files in
    let all = asks_both image text a (asked c.read_image.new.files) b c.in_ok-file.ensures.asks c.in_ok-listed.ensures.asks in
    after_all (image ++ text) a b c.in-Some.fault all
    (named_fault IsNoFile c.args.task.size c.as_slice-image.result.now (Some (Logged c.in_ok-log.log.machine)) c.in-Some.fault (λ other. tt) (λ other. tt) (search rules))

pub returns-clause-asks : goal.returns-clause-asks
returns-clause-asks g c =
    let asked = g.F.FileSource.asked in
    let image = image_files c.args.task.image.now in
    let text = c.args.task.text.now ∷ [] in
    let a = asked c.args.files.now in
    let b = asked c.read_text.new.files in
    let all = asks_both image text a (asked c.read_image.new.files) b c.in_ok-file.ensures.asks c.in_ok-listed.ensures.asks in
    all
