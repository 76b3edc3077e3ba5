use Rattle.std.proofs.Common.{◌≡◌, ◌∙◌, refl, sym, ap, subst, ℕ, ◌-◌, List, [], ◌∷◌, length, slice_get, Option, arith}
use Rattle.std.specs.List.{All}
use Rattle.std.proofs.Math.Seq.{drop-nil}
use Rattle.std.proofs.lemmas.List.{length-drop}
use Rattle.std.proofs.lemmas.List.Elements.{All-drop}
use Rattle.circular_buffer.specs.Buffer.{Buffer, keep_last}
use Rattle.m161_drive.specs.declared.cursor.Cursor.{Cursor}
use Rattle.m161_drive.specs.declared.run.Driven.{Driven}
use Rattle.m161_drive.specs.Drive.{Chooses, Drives, IsNoted}
use Rattle.m161_drive.specs.Policy.{Rules}
use Rattle.m161_machine.specs.declared.conf.Conf.{Conf}
use Rattle.m161_machine.specs.declared.event.Entry.{Entry}
use Rattle.m161_machine.specs.History.{FitsMode, Leads}
use Rattle.m161_machine.specs.State.{State}
use Rattle.m161_machine.proofs.Made.{conf_stays, counted}
use Rattle.m161_machine.proofs.Modes.{run_fits}
use Rattle.s161_command.specs.declared.task.Shown.{Shown}
use Rattle.s161_command.specs.declared.task.Shown.TheVariants.{Summary, SummaryAndLog, Log, Output}
use Rattle.s161_run.specs.declared.events.RunStop.{RunStop}
use Rattle.s161_run.specs.Runs.{log_of_run, shown_log, summary_text}
use Rattle.s161_run.specs.helpers.Shown.{IsShown, room_of}

-- The log of a run.

-- so many entries were dropped
dropped_are : (log : ℕ) (entries items : List Entry) (made : ℕ) → made ≡ length entries → items ≡ keep_last log entries → made - length items ≡ length entries - log
dropped_are log entries items made count is =
    let kept = ap length is ∙ length-drop (length entries - log) entries in omega (arith, count, kept)

-- what is shown of the entries that were kept
pub shown_kept : (shown : Shown) (traps : List ℕ) (conf : Conf) (file : List ℕ) (entries items : List Entry) (made : ℕ) (s : State) (stop : RunStop) → made ≡ length entries →
    items ≡ keep_last (room_of shown conf.log) entries →
    summary_text traps (shown_log conf file (made - length items) items) s stop shown ≡ summary_text traps (log_of_run conf file entries) s stop shown
shown_kept Summary traps conf file entries items made s stop count is = refl
shown_kept SummaryAndLog traps conf file entries items made s stop count is =
    let d = dropped_are conf.log entries items made count is in
    λ i. summary_text traps (shown_log conf file (d i) (is i)) s stop SummaryAndLog
shown_kept Log traps conf file entries items made s stop count is =
    let d = dropped_are conf.log entries items made count is in
    λ i. summary_text traps (shown_log conf file (d i) (is i)) s stop Log
shown_kept Output traps conf file entries items made s stop count is = refl

-- a text that is shown stands for the log
pub shown_text : (shown : Shown) (traps text log : List ℕ) (s : State) (stop : RunStop) → IsShown shown text log →
    summary_text traps text s stop shown ≡ summary_text traps log s stop shown
shown_text Summary traps text log s stop h = refl
shown_text SummaryAndLog traps text log s stop h = ap (λ l. summary_text traps l s stop SummaryAndLog) h
shown_text Log traps text log s stop h = h
shown_text Output traps text log s stop h = refl

-- the outcomes of a run fit the mode of its machine
pub kept_fit : (room : ℕ) (entries items : List Entry) (s t : State) → Leads s entries t → items ≡ keep_last room entries →
    All (λ (e : Entry). FitsMode t.conf.strict e.outcome) items
kept_fit room entries items s t leads is =
    let P : Conf → List Entry → Type 0 = λ conf es. All (λ (e : Entry). FitsMode conf.strict e.outcome) es in
    subst (P t.conf) (sym is)
    (subst (λ conf. P conf (keep_last room entries)) (sym (conf_stays entries s t leads))
    (All-drop (λ (e : Entry). FitsMode s.conf.strict e.outcome) (length entries - room) entries (run_fits entries s t leads)))

-- a run from boot has as many entries as its machine has accepted events
pub made_is : (entries : List Entry) (s t : State) → s.made ≡ 0 → Leads s entries t → t.made ≡ length entries
made_is entries s t none leads = let count = counted entries s t leads in omega (arith, none, count)

-- what is printed of a run from boot
pub run_shown : (shown : Shown) (traps : List ℕ) (conf : Conf) (file : List ℕ) (entries items : List Entry) (s t : State) (stop : RunStop) → s.made ≡ 0 → s.conf ≡ conf →
    Leads s entries t → items ≡ keep_last (room_of shown conf.log) entries →
    summary_text traps (shown_log t.conf file (t.made - length items) items) t stop shown ≡ summary_text traps (log_of_run conf file entries) t stop shown
run_shown shown traps conf file entries items s t stop none is leads kept =
    let same : t.conf ≡ conf = conf_stays entries s t leads ∙ is in
    ap (λ c. summary_text traps (shown_log c file (t.made - length items) items) t stop shown) same
    ∙ shown_kept shown traps conf file entries items t.made t stop (made_is entries s t none leads) kept

-- an empty log keeps the last of no entries
pub empty_kept : (room : ℕ) (items : List Entry) → items ≡ [] → items ≡ keep_last room []
empty_kept room items empty = let none : ◌≡◌ {A = List Entry} (keep_last room []) [] = drop-nil (0 - room) in empty ∙ sym none

-- the entries that a log has which was empty
pub logged : (room : ℕ) (old new : Buffer Entry) (entries : List Entry) → old.capacity ≡ room → old.items ≡ [] →
    IsNoted {A = Buffer Entry} (λ n last so_far. (last.capacity ≡ n) × (last.items ≡ keep_last n so_far)) old entries new →
    new.items ≡ keep_last room entries
logged room old new entries size empty noted =
    let none : ◌≡◌ {A = List Entry} (keep_last room []) [] = drop-nil (0 - room) in
    (noted room [] (size, empty ∙ sym none)).1

-- the events of a driven run are accepted
chosen_lead : (rules : Rules) (keys : ℕ → Option ℕ) (entries : List Entry) (c d : Cursor) (s t : State) → Chooses rules keys c s entries d t → Leads s entries t
chosen_lead rules keys [] c d s t h = h.1
chosen_lead rules keys (e ∷ es) c d s t h = (h.1, h.2.accepted, chosen_lead rules keys es h.0 d h.1 t h.3)

pub run_leads : {rules : Rules} {n : ℕ} {s t : State} {driven : Driven} {entries : List Entry} → Drives rules n s driven entries t → Leads s entries t
run_leads {rules = rules} {s = s} {t = t} {entries = entries} h = chosen_lead rules (slice_get rules.keys) entries _ h.cursor s t h.chosen_are
