use Rattle.std.proofs.Common.{◌≡◌, ◌⊎◌, ℕ, List, ◌++◌, Option, None, Result, append-nil, inl, inr, subst, sym}
use Rattle.std.specs.Prelude.{IfErr}
use Rattle.std.proofs.lemmas.Result.{IfErr-weaker}
use Rattle.m161_machine.specs.declared.conf.Conf.{Conf}
use Rattle.m161_machine.specs.declared.event.Entry.{Entry}
use Rattle.m161_machine.specs.State.{State}
use Rattle.s161_base.proofs.Asking.{IsNoFile, boot_is_none, memory_is_none, none_before, result_asks}
use Rattle.s161_base.specs.Asked.{Asks, AsksFor, IsBeforeInput, image_files}
use Rattle.s161_base.specs.declared.fault.Fault.{Fault}
use Rattle.s161_base.specs.declared.fault.Fault.TheVariants.{Memory, Output}
use Rattle.s161_command.specs.declared.drive.Drive.{Drive}
use Rattle.s161_command.specs.declared.task.TraceTask.{TraceTask}
use Rattle.s161_run.specs.declared.events.RunStop.{RunStop}
use Rattle.s161_texts.specs.Traces.{drive_files}
use Rattle.s161_texts.specs.declared.filter.LineFilter.{LineFilter}
use Rattle.s161_texts.specs.helpers.Booted.{FailsRun, IsUnasked}
use Rattle.s161_texts.specs.helpers.Printing.{FailsToPrintAll}

-- The faults of a run whose lines are printed are none of a file.

stream_is_none : (fault : Fault) → (fault ≡ Output) ⊎ (fault ≡ Memory) → IsNoFile fault
stream_is_none fault (inl is) = subst IsNoFile (sym is) tt
stream_is_none fault (inr is) = memory_is_none fault is

printing_is_none : (w : LineFilter) (s : State) (IsSome : State → List Entry → State → Type 0) (IsAll : State → List Entry → RunStop → State → Type 0) (t : State)
    (a c : Option (List ℕ)) (fault : Fault) → FailsToPrintAll w s IsSome IsAll t a c fault → IsNoFile fault
printing_is_none w s IsSome IsAll t a c fault (inl h) = memory_is_none fault h.0
printing_is_none w s IsSome IsAll t a c fault (inr h) = stream_is_none fault h.0

module _ (task : TraceTask) (conf : Conf) (file : List ℕ) (IsSome : State → List Entry → State → Type 0) (IsAll : State → List Entry → RunStop → State → Type 0)
    (a c : Option (List ℕ)) where
  unasked_is_none : (fault : Fault) → IsUnasked task conf.ram file fault → IsNoFile fault
  unasked_is_none fault (inl h) = memory_is_none fault h
  unasked_is_none fault (inr h) = subst IsNoFile (sym h.3) tt

  run_is_none : (fault : Fault) → FailsRun task conf file IsSome IsAll a c fault → IsNoFile fault
  run_is_none fault (inl h) = boot_is_none file conf fault h.is_boot_fault
  run_is_none fault (inr (inl h)) = unasked_is_none fault h.is_unasked
  run_is_none fault (inr (inr h)) = printing_is_none h.filter h.booted IsSome IsAll h.state a c fault h.fails

  module _ (r : Result RunStop Fault) (fails : IfErr r (FailsRun task conf file IsSome IsAll a c)) where
    -- so all files were asked for
    pub run_asks : (names : List (List ℕ)) (x y : Option (List (List ℕ))) → Asks names x y → AsksFor names r x y
    run_asks names x y asks = result_asks names x y r asks (IfErr-weaker r (FailsRun task conf file IsSome IsAll a c) IsNoFile run_is_none fails)

    -- and the input may have been read
    pub run_before : (x y : Option (List ℕ)) → IfErr r (λ fault. IsBeforeInput fault x y)
    run_before x y =
        IfErr-weaker r (FailsRun task conf file IsSome IsAll a c) (λ fault. IsBeforeInput fault x y)
        (λ fault h. none_before fault x y (run_is_none fault h)) fails

-- a task without an order has no other file than the image's
pub without_drive : (task : TraceTask) (drive : Option Drive) (r : Result RunStop Fault) (x y : Option (List (List ℕ))) → drive ≡ None →
    AsksFor (image_files task.image.now) r x y → AsksFor (image_files task.image.now ++ drive_files drive) r x y
without_drive task drive r x y is asks =
    let image = image_files task.image.now in
    subst (λ d. AsksFor (image ++ drive_files d) r x y) (sym is) (subst (λ names. AsksFor names r x y) (sym (append-nil image)) asks)
