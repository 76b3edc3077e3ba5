use Rattle.std.proofs.Common.{◌≡◌, ◌∙◌, ◌⊎◌, refl, sym, ap, subst, ℕ, List, ◌++◌, [], Bool, true, false, Option, None, Some, Result, Ok, Err, IfSome, inl, inr, append_assoc}
use Rattle.std.specs.Prelude.{◌/◌, IfErr, IfOk, if◌then◌else◌, option_map, string_bytes}
use Rattle.std.specs.Io.KnownBytes.{Appends}
use Rattle.std.proofs.KnownBytes.{Appends-trans}
use Rattle.std.proofs.lemmas.Result.{IfErr-weaker, IfOk-weaker}
use Rattle.m161_machine.specs.declared.conf.BootError.{BootError}
use Rattle.m161_machine.specs.declared.event.Entry.{Entry}
use Rattle.m161_machine.specs.declared.event.Event.{Event}
use Rattle.m161_machine.specs.declared.conf.Conf.{Conf}
use Rattle.m161_machine.specs.History.{Boots, History, IsBootState, boot_fault}
use Rattle.m161_machine.specs.State.{State}
use Rattle.m161_text.specs.Lines.{text_of, with_line_end}
use Rattle.s161_base.specs.Faults.{BootsIn, IsBootFault}
use Rattle.s161_base.specs.Known.{OfText}
use Rattle.s161_base.specs.Listed.{ListsFirst, ListsFor}
use Rattle.s161_run.proofs.Listing.{order_unbooted, unbooted}
use Rattle.s161_base.specs.Streams.{AppendsSome, streams}
use Rattle.s161_base.specs.declared.fault.Fault.{Fault}
use Rattle.s161_base.specs.declared.fault.Fault.TheVariants.{Memory}
use Rattle.s161_command.specs.declared.drive.Drive.{Drive}
use Rattle.s161_command.specs.declared.task.TraceTask.{TraceTask}
use Rattle.m161_drive.specs.Policy.{Rules}
use Rattle.s161_run.specs.Driven.{AreInputs, IsOrderFault, rules_of}
use Rattle.s161_run.specs.declared.events.RunStop.{RunStop}
use Rattle.s161_run.specs.Runs.{IsFaultOf, stop_line}
use Rattle.s161_texts.specs.declared.lines.Lines.{Lines}
use Rattle.s161_texts.specs.declared.filter.LineFilter.{LineFilter}
use Rattle.s161_texts.specs.declared.shared.SharedWords.{SharedWords}
use Rattle.s161_texts.specs.Shared.{is_shared}
use Rattle.s161_texts.specs.Traces.{AreOrdered, Begins, BootsFor, GoesSome, HasInputs, IsAskedWord, IsConfOf, IsEarlyFault, IsTraceFault, IsTraced, IsUnread, IsWhole, ListsIf, ListsIn, MakesSome, Runs, lines_text, run_of, shared_words, touches_in, trace_text}
use Rattle.s161_texts.specs.helpers.Booted.{FailsRun, IsFilter, IsSharedIf, IsUnasked, IsWholeFilter, PrintsRun, with_shared}
use Rattle.s161_texts.specs.helpers.Driven.{GoesAll, PrintsBehind}
use Rattle.s161_texts.specs.helpers.Printing.{FailsToPrint, FailsToPrintAll, FailsToPut, FindsShared, IsNew, Prints, PrintsAll, lines_from, run_text, filter_of}
use Rattle.s161_texts.specs.helpers.Scheduled.{MakesAll}
use Rattle.s161_texts.specs.helpers.Marks.{is_marked, marks_after, no_marks}
use Rattle.s161_texts.proofs.Printing.{puts_some}
use Rattle.s161_texts.proofs.Sharing.{marks_tell}

-- Whole runs whose lines are printed.

module _ (w : LineFilter) (noted : SharedWords) (s : State) (l : Lines) (fresh : IsNew w noted s l) (IsSome : State → List Entry → State → Type 0)
    (IsAll : State → List Entry → RunStop → State → Type 0) (entries : List Entry) (t : State) (a : Option (List ℕ)) where
  text : List ℕ
  text = text_of (lines_from l.filter l.number l.tracer entries)

  -- nothing was kept back before
  whole : string_bytes l.piece ++ text_of (lines_from l.filter l.number l.tracer entries) ≡ text_of (lines_from w 0 s entries)
  whole = ap (λ kept. kept ++ text_of (lines_from l.filter l.number l.tracer entries)) fresh.3
      ∙ (λ i. text_of (lines_from (fresh.0 i) (fresh.1 i) (fresh.2 i) entries))

  -- before the last line
  pub some_fail : (c : Option (List ℕ)) (fault : Fault) → IsSome s entries t → FailsToPrint l a entries t c fault →
      FailsToPrintAll w s IsSome IsAll t a c fault
  some_fail c fault is h = inr (h.1.0, (entries, inl (is, subst (AppendsSome a c) whole h.1.1)))

  module _ (b c : Option (List ℕ)) (k : Lines) (prints : Prints l a entries t k b) (stop : RunStop) (is : IsAll s entries stop t) where
    abbrev last : List ℕ
    last = with_line_end (stop_line stop)

    pub all_printed : Appends b c (string_bytes k.piece ++ with_line_end (stop_line stop)) → PrintsAll w s IsAll t a c stop
    all_printed h =
        let written = prints.puts.0 in (
          entries,
          is,
          subst (Appends a c)
              (sym (append_assoc written (string_bytes k.piece) last) ∙ ap (λ bytes. bytes ++ last) (prints.puts.2 ∙ whole))
              (Appends-trans a b c written (string_bytes k.piece ++ last) prints.puts.1 h),
        )

    pub all_fail : (fault : Fault) → FailsToPut b (string_bytes k.piece) (with_line_end (stop_line stop)) c fault →
        FailsToPrintAll w s IsSome IsAll t a c fault
    all_fail fault h =
        let text = text_of (lines_from l.filter l.number l.tracer entries) in
        inr (
          h.0,
          (
            entries,
            inr (
              stop,
              is,
              subst (AppendsSome a c)
                  (sym (append_assoc (string_bytes l.piece) text last) ∙ ap (λ bytes. bytes ++ last) whole)
                  (puts_some a b c (string_bytes l.piece) (string_bytes k.piece) text last prints.puts h.1),
            ),
          ),
        )

-- what was noted in a whole run
pub finds_so : (w : LineFilter) (noted : SharedWords) (s : State) (l : Lines) (fresh : IsNew w noted s l) (IsAll : State → List Entry → RunStop → State → Type 0)
    (entries : List Entry) (stop : RunStop) (t : State) (a b : Option (List ℕ)) (k : Lines) (words from count : ℕ) →
    w.from ≡ from → w.count ≡ count → noted.marks.items ≡ no_marks words → Prints l a entries t k b → IsAll s entries stop t → FindsShared words from count s IsAll k.noted
finds_so w noted s l fresh IsAll entries stop t a b k words from count from_is count_is none prints is = record {
  whole = entries;
  stop = stop;
  state = t;
  is_all = is;
  marks_are = prints.noted_is
      ∙ (λ i. marks_after (fresh.4 i).marks.items (touches_in (fresh.0 i).from (fresh.0 i).count (fresh.1 i) (fresh.2 i) entries))
      ∙ (λ i. marks_after (none i) (touches_in (from_is i) (count_is i) 0 s entries));
}

-- the same of a run by an order
pub behind_finds : (w : LineFilter) (noted : SharedWords) (s u : State) (l : Lines) (fresh : IsNew w noted s l) (rules : Rules) (most : ℕ) (first : List Event)
    (stop : RunStop) (t : State) (a b : Option (List ℕ)) (k : Lines) (words from count : ℕ) → w.from ≡ from → w.count ≡ count → noted.marks.items ≡ no_marks words →
    PrintsBehind rules most s l a first stop t k b → s ≡ u → FindsShared words from count u (GoesAll rules most first) k.noted
behind_finds w noted s u l fresh rules most first stop t a b k words from count from_is count_is none h same =
    subst (λ v. FindsShared words from count v (GoesAll rules most first) k.noted) same
    (finds_so w noted s l fresh (GoesAll rules most first) h.entries stop t a b k words from count from_is count_is none h.prints h.goes)

-- a call that ends with this fault
pub ends_so : (P : Fault → Type 0) (r : Result RunStop Fault) (fault : Fault) → r ≡ Err fault → P fault → IfErr r P
ends_so P r fault is h = subst (λ x. IfErr x P) (sym is) h

-- what was booted
boots_as : (file : List ℕ) (conf : Conf) (fault : Option BootError) (m : History) → Boots file conf fault (Ok m) →
    (fault ≡ None) × IsBootState file conf m.state
boots_as file conf (Some first) m h = absurd h
boots_as file conf None m h = (refl, record { start = m.start; conf_is = h.conf_is; image = h.image; state_is = h.state_is })

pub booted_so : (file : List ℕ) (conf : Conf) (m : History) → Boots file conf (boot_fault file conf) (Ok m) → BootsIn file conf m.state
booted_so file conf m h = boots_as file conf (boot_fault file conf) m h

-- runs from the boot on
module _ (task : TraceTask) (conf : Conf) (file : List ℕ) (IsSome : State → List Entry → State → Type 0) (IsAll : State → List Entry → RunStop → State → Type 0)
    (a : Option (List ℕ)) where
  pub not_booted : (fault : Fault) → IsBootFault file conf fault → FailsRun task conf file IsSome IsAll a a fault
  not_booted fault h = inl (record { is_boot_fault = h; same = refl })

  module _ (s : State) (boots : BootsIn file conf s) where
    pub without_filter : (fault : Fault) → IsUnasked task conf.ram file fault → FailsRun task conf file IsSome IsAll a a fault
    without_filter fault h = inr (inl (record { booted = s; boots = boots; is_unasked = h; same = refl }))

    module _ (w : LineFilter) (is : IsWholeFilter task conf.ram file s IsAll w) (t : State) (c : Option (List ℕ)) (r : Result RunStop Fault) where
      pub run_prints : IfOk r (PrintsAll w s IsAll t a c) → IfOk r (PrintsRun task conf file IsAll a c)
      run_prints = IfOk-weaker r (PrintsAll w s IsAll t a c) (PrintsRun task conf file IsAll a c) (λ stop h. record {
        booted = s;
        boots = boots;
        filter = w;
        is_filter = is;
        state = t;
        prints = h;
      })

      pub run_fails : IfErr r (FailsToPrintAll w s IsSome IsAll t a c) → IfErr r (FailsRun task conf file IsSome IsAll a c)
      run_fails = IfErr-weaker r (FailsToPrintAll w s IsSome IsAll t a c) (FailsRun task conf file IsSome IsAll a c) (λ fault h. inr (inr (record {
        booted = s;
        boots = boots;
        filter = w;
        is_filter = is;
        state = t;
        fails = h;
      })))

-- a filter with the words that are shared
pub shared_so : (task : TraceTask) (ram : ℕ) (file : List ℕ) (s : State) (IsAll : State → List Entry → RunStop → State → Type 0) (v w : LineFilter) → IsFilter task ram file v →
    w ≡ with_shared v w.shared → IsSharedIf task ram s IsAll w.shared → IsWholeFilter task ram file s IsAll w
shared_so task ram file s IsAll v w is with shared =
    let same : w.touches ≡ v.touches = ap (λ (u : LineFilter). u.touches) with in (
      subst (IsAskedWord task ram file) (sym same) is.0,
      shared,
      with ∙ ap (λ u. with_shared u w.shared) is.1 ∙ ap (λ touches. filter_of task file touches w.shared) (sym same),
    )

-- A task's. The lines that are asked for are those that the filter leaves.

module _ (task : TraceTask) (ram : ℕ) (file : List ℕ) (s : State) (IsAll : State → List Entry → RunStop → State → Type 0) where
  -- the entries of the whole run, if the words that are shared are asked for
  abbrev whole_of : (shared : Option SharedWords) → IsSharedIf task ram s IsAll shared → List Entry
  whole_of None h = []
  whole_of (Some words) h = h.1.whole

  are_shared : (shared : Option SharedWords) (h : IsSharedIf task ram s IsAll shared) → option_map is_marked shared ≡ shared_words task ram s (whole_of shared h)
  are_shared None h =
      ap (λ (b : Bool). if b then Some (is_shared (ram / 4) (touches_in task.from task.count 0 s [])) else None) (sym h)
  are_shared (Some words) h =
      let touches = touches_in task.from task.count 0 s h.1.whole in
      ap (λ f. Some f) (marks_tell words (ram / 4) touches h.1.marks_are)
      ∙ ap (λ (b : Bool). if b then Some (is_shared (ram / 4) touches) else None) (sym h.0)

  is_run : (shared : Option SharedWords) (h : IsSharedIf task ram s IsAll shared) → task.shared ≡ true →
      (stop : RunStop) × (t : State) × IsAll s (whole_of shared h) stop t
  is_run None h asked = absurd (let bad : false ≡ true = sym h ∙ asked in cc)
  is_run (Some words) h asked = (h.1.stop, h.1.state, h.1.is_all)

  module _ (w : LineFilter) (is : IsWholeFilter task ram file s IsAll w) (entries : List Entry) where
    shown : text_of (lines_from w 0 s entries) ≡ lines_text task file w.touches (shared_words task ram s (whole_of w.shared is.1)) s entries
    shown =
        ap (λ v. text_of (lines_from v 0 s entries)) is.2
        ∙ ap (λ words. lines_text task file w.touches words s entries) (are_shared w.shared is.1)

    shown_whole : (stop : RunStop) →
        run_text w s entries stop ≡ trace_text task file w.touches (shared_words task ram s (whole_of w.shared is.1)) s entries stop
    shown_whole stop = ap (λ text. text ++ with_line_end (stop_line stop)) shown

-- a want of memory can always be
no_memory : (drive : Option Drive) (task : TraceTask) (files : List ℕ → Option (List ℕ)) (known input : Option (List ℕ)) → IsEarlyFault drive task files known input Memory
no_memory None task files known input = tt
no_memory (Some options) task files known input = tt

module _ (task : TraceTask) (drive : Option Drive) (drive_is : task.drive ≡ drive) (files : List ℕ → Option (List ℕ))
    (known input left a c : Option (List ℕ)) (unread : IsUnread drive (streams input left a c)) where
  is_unread : IsUnread task.drive (streams input left a c)
  is_unread = subst (λ d. IsUnread d (streams input left a c)) (sym drive_is) unread

  -- before the run
  early : (fault : Fault) → IsEarlyFault drive task files known input fault → c ≡ a → IsTraceFault task files known (streams input left a c) fault
  early fault h same = record {
    is_unread = is_unread;
    why = inl (inl (subst (λ d. IsEarlyFault d task files known input fault) (sym drive_is) h), same);
  }

  module _ (file : List ℕ) (is_file : IfSome known (λ bytes. file ≡ bytes)) (conf : Conf) (is_conf : IsConfOf drive task.size files file input conf)
      (IsAll : State → List Entry → RunStop → State → Type 0)
      (runs : (s t : State) (entries : List Entry) (stop : RunStop) → IsAll s entries stop t → Runs drive files input s entries stop t) where
    abbrev boots_so : (s : State) → BootsIn file conf s → BootsFor task files known input s
    boots_so s h = record {
      file = file;
      is_file = is_file;
      conf = conf;
      is_conf = subst (λ d. IsConfOf d task.size files file input conf) (sym drive_is) is_conf;
      boots = h;
    }

    runs_so : (s t : State) (entries : List Entry) (stop : RunStop) → IsAll s entries stop t → Runs task.drive files input s entries stop t
    runs_so s t entries stop h = subst (λ d. Runs d files input s entries stop t) (sym drive_is) (runs s t entries stop h)

    whole_so : (s : State) (shared : Option SharedWords) (h : IsSharedIf task conf.ram s IsAll shared) → IsWhole task files input s (whole_of task conf.ram file s IsAll shared h)
    whole_so s shared h = λ asked.
        let run = is_run task conf.ram file s IsAll shared h asked in
        (run.0, run.1, runs_so s run.1 (whole_of task conf.ram file s IsAll shared h) run.0 run.2)

    task_traced : (stop : RunStop) → PrintsRun task conf file IsAll a c stop → IsTraced task files known (streams input left a c) stop
    task_traced stop h =
        let entries = h.prints.0 in
        record {
          booted = h.booted;
          boots = boots_so h.booted h.boots;
          touches = h.filter.touches;
          is_asked = h.is_filter.0;
          whole = whole_of task conf.ram file h.booted IsAll h.filter.shared h.is_filter.1;
          is_whole = whole_so h.booted h.filter.shared h.is_filter.1;
          entries = entries;
          state = h.state;
          runs = runs_so h.booted h.state entries stop h.prints.1;
          is_unread = is_unread;
          written = subst (Appends a c) (shown_whole task conf.ram file h.booted IsAll h.filter h.is_filter entries stop) h.prints.2;
        }

    module _ (IsSome : State → List Entry → State → Type 0)
        (begins : (s t : State) (entries : List Entry) → IsSome s entries t → Begins drive files input s entries t)
        (unbooted : (fault : Fault) → IsBootFault file conf fault → IsEarlyFault drive task files known input fault)
        (has_inputs : HasInputs drive files input) where
      some_written : (w : LineFilter) (s t : State) (is : IsWholeFilter task conf.ram file s IsAll w) (entries : List Entry) →
          (IsSome s entries t × AppendsSome a c (text_of (lines_from w 0 s entries)))
          ⊎ ((stop : RunStop) × IsAll s entries stop t × AppendsSome a c (run_text w s entries stop)) →
          (Begins task.drive files input s entries t
          × AppendsSome a c (lines_text task file w.touches (shared_words task conf.ram s (whole_of task conf.ram file s IsAll w.shared is.1)) s entries))
          ⊎ ((stop : RunStop) × Runs task.drive files input s entries stop t
          × AppendsSome a c (trace_text task file w.touches (shared_words task conf.ram s (whole_of task conf.ram file s IsAll w.shared is.1)) s entries stop))
      some_written w s t is entries (inl x) =
          inl (
            subst (λ d. Begins d files input s entries t) (sym drive_is) (begins s t entries x.0),
            subst (AppendsSome a c) (shown task conf.ram file s IsAll w is entries) x.1,
          )
      some_written w s t is entries (inr x) =
          inr (x.0, runs_so s t entries x.0 x.1, subst (AppendsSome a c) (shown_whole task conf.ram file s IsAll w is entries x.0) x.2)

      in_run : (w : LineFilter) (s t : State) → BootsIn file conf s → IsWholeFilter task conf.ram file s IsAll w → (fault : Fault) →
          FailsToPrintAll w s IsSome IsAll t a c fault → IsTraceFault task files known (streams input left a c) fault
      in_run w s t boots is fault (inl h) = early fault (subst (IsEarlyFault drive task files known input) (sym h.0) (no_memory drive task files known input)) h.1
      in_run w s t boots is fault (inr h) = record {
        is_unread = is_unread;
        why = inr (record {
          is_fault = h.0;
          booted = s;
          boots = boots_so s boots;
          touches = w.touches;
          is_asked = is.0;
          whole = whole_of task conf.ram file s IsAll w.shared is.1;
          is_whole = whole_so s w.shared is.1;
          entries = h.1.0;
          state = t;
          some_written = some_written w s t is h.1.0 h.1.1;
        });
      }

      -- without a word
      no_word : (s : State) → BootsIn file conf s → (fault : Fault) → IsUnasked task conf.ram file fault → c ≡ a →
          IsTraceFault task files known (streams input left a c) fault
      no_word s boots fault (inl h) same = early fault (subst (IsEarlyFault drive task files known input) (sym h) (no_memory drive task files known input)) same
      no_word s boots fault (inr h) same = record {
        is_unread = is_unread;
        why = inl (
          inr (record {
            has_inputs = subst (λ d. HasInputs d files input) (sym drive_is) has_inputs;
            booted = s;
            boots = boots_so s boots;
            text = h.0;
            asked = h.1;
            is_none = h.2;
            fault_is = h.3;
          }),
          same,
        );
      }

      task_failed : (fault : Fault) → FailsRun task conf file IsSome IsAll a c fault → IsTraceFault task files known (streams input left a c) fault
      task_failed fault (inl h) = early fault (unbooted fault h.is_boot_fault) h.same
      task_failed fault (inr (inl h)) = no_word h.booted h.boots fault h.is_unasked h.same
      task_failed fault (inr (inr h)) = in_run h.filter h.booted h.state h.boots h.is_filter fault h.fails

-- by a schedule
module _ (task : TraceTask) (files : List ℕ → Option (List ℕ)) (known input left : Option (List ℕ)) (none : task.drive ≡ None) where
  pub schedule_early : (a : Option (List ℕ)) (fault : Fault) → IsEarlyFault None task files known input fault →
      IsTraceFault task files known (streams input left a a) fault
  schedule_early a fault h = early task None none files known input left a a tt fault h refl

  -- that was read
  module _ (a c : Option (List ℕ)) (file : List ℕ) (is_file : IfSome known (λ bytes. file ≡ bytes)) (conf : Conf) (listed : List Event)
      (is : OfText input (λ text. ListsFor task.size file text listed conf)) (r : Result RunStop Fault) where
    lists : ListsIn input listed
    lists = (is.0, is.1, (is.2.0, (is.2.1.0, is.2.1.1)))

    is_conf_none : IsConfOf None task.size files file input conf
    is_conf_none = (is.0, is.1, (is.2.0, (listed, is.2.1)))

    runs_none : (s t : State) (entries : List Entry) (stop : RunStop) → MakesAll listed s entries stop t → Runs None files input s entries stop t
    runs_none s t entries stop h = record { listed = listed; lists = lists; makes = h }

    begins_none : (s t : State) (entries : List Entry) → MakesSome listed s entries t → Begins None files input s entries t
    begins_none s t entries h = record { listed = listed; lists = lists; makes = h }

    unbooted_none : (fault : Fault) → IsBootFault file conf fault → IsFaultOf (run_of task) known input fault
    unbooted_none fault h = unbooted (run_of task) known input file is.0 is_file is.1 is.2.0 listed conf fault is.2.1 h

    pub schedule_ok : IfOk r (PrintsRun task conf file (MakesAll listed) a c) → IfOk r (IsTraced task files known (streams input left a c))
    schedule_ok =
        IfOk-weaker r (PrintsRun task conf file (MakesAll listed) a c) (IsTraced task files known (streams input left a c))
        (task_traced task None none files known input left a c tt file is_file conf is_conf_none (MakesAll listed) runs_none)

    pub schedule_bad : IfErr r (FailsRun task conf file (MakesSome listed) (MakesAll listed) a c) →
        IfErr r (IsTraceFault task files known (streams input left a c))
    schedule_bad =
        IfErr-weaker r (FailsRun task conf file (MakesSome listed) (MakesAll listed) a c) (IsTraceFault task files known (streams input left a c))
        (task_failed task None none files known input left a c tt file is_file conf is_conf_none (MakesAll listed) runs_none (MakesSome listed) begins_none
        unbooted_none (listed, lists))

-- by an order
module _ (task : TraceTask) (options : Drive) (files : List ℕ → Option (List ℕ)) (known : Option (List ℕ)) (some : task.drive ≡ Some options) where
  pub drive_early : (input a : Option (List ℕ)) (fault : Fault) → IsOrderFault task.image task.size options files known fault →
      IsTraceFault task files known (streams input input a a) fault
  drive_early input a fault h = early task (Some options) some files known input input a a refl fault h refl

  -- whose inputs were read
  module _ (a c : Option (List ℕ)) (file keys : List ℕ) (first : List Event) (conf : Conf) (inputs : AreInputs task.size options files known file keys first conf)
      (r : Result RunStop Fault) where
    abbrev IsAll : State → List Entry → RunStop → State → Type 0
    IsAll = GoesAll (rules_of options keys) options.events first

    abbrev IsSome : State → List Entry → State → Type 0
    IsSome = GoesSome (rules_of options keys) options.events first

    lists_if : (read : Option (List ℕ)) → ListsFirst task.size file read first conf → ListsIf read first
    lists_if None h = h.0
    lists_if (Some bytes) h = (h.0, h.1)

    ordered : AreOrdered options files keys first
    ordered = record {
      are_keys = inputs.are_keys;
      text = inputs.text;
      is_text = inputs.is_text;
      lists = lists_if inputs.text inputs.lists;
    }

    is_conf_some : (input : Option (List ℕ)) → IsConfOf (Some options) task.size files file input conf
    is_conf_some input = (inputs.text, first, inputs.is_text, inputs.lists)

    runs_some : (input : Option (List ℕ)) (s t : State) (entries : List Entry) (stop : RunStop) → IsAll s entries stop t →
        Runs (Some options) files input s entries stop t
    runs_some input s t entries stop h = record { keys = keys; first = first; inputs = ordered; goes = h }

    begins_some : (input : Option (List ℕ)) (s t : State) (entries : List Entry) → IsSome s entries t →
        Begins (Some options) files input s entries t
    begins_some input s t entries h = record { keys = keys; first = first; inputs = ordered; goes = h }

    unbooted_some : (fault : Fault) → IsBootFault file conf fault → IsOrderFault task.image task.size options files known fault
    unbooted_some fault h = order_unbooted task.image task.size options files known file inputs.is_file keys first conf fault inputs h

    pub drive_ok : IfOk r (PrintsRun task conf file (GoesAll (rules_of options keys) options.events first) a c) →
        IfOk r (λ stop. (input : Option (List ℕ)) → IsTraced task files known (streams input input a c) stop)
    drive_ok =
        IfOk-weaker r (PrintsRun task conf file IsAll a c) (λ stop. (input : Option (List ℕ)) → IsTraced task files known (streams input input a c) stop)
        (λ stop h input.
        task_traced task (Some options) some files known input input a c refl file inputs.is_file conf (is_conf_some input) IsAll (runs_some input) stop h)

    pub drive_bad : IfErr r (FailsRun task conf file (GoesSome (rules_of options keys) options.events first) (GoesAll (rules_of options keys) options.events first) a c) →
        IfErr r (λ fault. (input : Option (List ℕ)) → IsTraceFault task files known (streams input input a c) fault)
    drive_bad =
        IfErr-weaker r (FailsRun task conf file IsSome IsAll a c)
        (λ fault. (input : Option (List ℕ)) → IsTraceFault task files known (streams input input a c) fault)
        (λ fault h input.
        task_failed task (Some options) some files known input input a c refl file inputs.is_file conf (is_conf_some input) IsAll (runs_some input) IsSome
        (begins_some input) unbooted_some (keys, first, ordered) fault h)
