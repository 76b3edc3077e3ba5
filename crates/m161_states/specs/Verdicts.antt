use Rattle.std.specs.Prelude.{ℕ, Bool, false, not, nat_lt, ◌==◌, ◌&&◌, ◌||◌, if◌then◌else◌, List, [], ◌∷◌, length, slice_get, is_some, Option, None, Some, option_map, Result, Ok, Err}
use Rattle.std.specs.List.{list_any}
use Rattle.std.specs.Option.{option_or}
use Rattle.m161_tlb.specs.declared.row.Row.{Row}
use Rattle.m161_cpu.specs.declared.processor.Outcome.{Outcome}
use Rattle.m161_cpu.specs.declared.uses.Via.{Via}
use Rattle.m161_machine.specs.declared.event.Event.{Event}
use Rattle.m161_machine.specs.declared.event.Event.TheVariants.{Step, Key, Done}
use Rattle.m161_machine.specs.declared.event.Refusal.{Refusal}
use Rattle.m161_machine.specs.State.{State, next as result_of, processor_at, word_in}
use Rattle.m161_machine.specs.Fetched.{fetched}
use Rattle.m161_machine.specs.Uses.{uses_in}
use Rattle.m161_audit.specs.declared.watch.Watch.{Watch}
use Rattle.m161_audit.specs.Stale.{entry_in, is_old}
use Rattle.m161_judge.specs.Verdict.{Criteria, is_stuck}
use Rattle.m161_alike.specs.declared.reads.Reads.{Reads}
use Rattle.m161_alike.specs.Reads.{no_reads, reads_in}
use Rattle.m161_alike.specs.View.{known_of}
use Rattle.m161_states.specs.declared.verdict.Unknown.{Unknown}
use Rattle.m161_states.specs.declared.verdict.EventVerdict.{EventVerdict}
use Rattle.m161_states.specs.declared.verdict.EventVerdict.TheVariants.{Stale, Reached, Conflict, Stuck, Output}
use Rattle.m161_states.specs.Question.{Question}
use Rattle.m161_states.specs.System.{Explored, Flags, behind, event_of, fresh}

-- What is wrong with an event, why it can't be looked at, and which states are ends.

-- stale

-- a row of the TLB is an old mapping, by the word of the page table's entry
abbrev pub is_old_row : Option ℕ → Option Row → Bool
is_old_row (Some word) (Some row) = is_old (entry_in word) row
is_old_row (Some word) None = false
is_old_row None row = false

-- processor p gets a physical address of the watched page through an old mapping, after the
-- initiator has gone on
abbrev pub is_stale_for : State → ℕ → Via → Watch → Flags → Bool
is_stale_for s p v w f =
    (v.page == w.page) && (v.id == w.id) && f.gone_on
    && is_old_row (word_in s.memory w.pte) (slice_get (processor_at p s.processors).rows v.row)

-- one of the watches, with what is kept of it, passes a test
abbrev pub some_watch : (Watch → Flags → Bool) → List Watch → List Flags → Bool
some_watch test [] flags = false
some_watch test (w ∷ ws) [] = false
some_watch test (w ∷ ws) (f ∷ fs) = test w f || some_watch test ws fs

abbrev pub stale_via : Criteria → Explored → ℕ → Option Via → Option EventVerdict
stale_via goal x p None = None
stale_via goal x p (Some v) =
    if some_watch (is_stale_for x.state p v) goal.watches x.flags then Some (Stale p v.address v.row)
    else None

-- the Step's fetch, or, if that isn't stale, its access
abbrev pub stale_use : Criteria → Explored → ℕ → Option EventVerdict
stale_use goal x p =
    option_or (stale_via goal x p (uses_in p x.state).fetch)
    (stale_via goal x p (uses_in p x.state).access)

-- reached

abbrev pub reached_at : List ℕ → ℕ → ℕ → Option ℕ → Option EventVerdict
reached_at never p address word =
    if is_some word && list_any (λ a. a == address) never then Some (Reached p address) else None

-- the Step, with this outcome, fetches a word at one of the addresses
abbrev pub reached_by : Criteria → Explored → ℕ → Outcome → Option EventVerdict
reached_by goal x p o =
    reached_at goal.never p (processor_at p x.state.processors).pc (fetched p x.state o)

-- what is wrong with an accepted Step, by the state before it
abbrev pub wrong_with : Criteria → Explored → Event → Outcome → Option EventVerdict
wrong_with goal x (Step p) o = option_or (stale_use goal x p) (reached_by goal x p o)
wrong_with goal x (Key byte) o = None
wrong_with goal x Done o = None

-- conflict, stuck, output

-- the console has sent what is asked for
abbrev pub has_sent : Option (List ℕ) → Option ℕ → Bool
has_sent (Some asked) (Some n) = n == length asked
has_sent (Some asked) None = false
has_sent None agreed = false

-- nothing is left to do
abbrev pub is_stuck_in : Criteria → Explored → Bool
is_stuck_in goal x = is_stuck (nat_lt x.typed (length goal.keys)) x.state

abbrev pub conflict_in : State → Option EventVerdict
conflict_in s = if s.board.off then option_map (λ c. Conflict c) s.conflict else None

abbrev pub stuck_in : Criteria → Explored → Option EventVerdict
stuck_in goal x =
    if is_stuck_in goal x && not (has_sent goal.output x.agreed) then Some Stuck else None

abbrev pub output_in : Criteria → Explored → Option EventVerdict
output_in goal x =
    if is_some goal.output && x.state.board.off && not (has_sent goal.output x.agreed)
    then Some Output
    else None

-- what is wrong with a state
abbrev pub wrong_in : Criteria → Explored → Option EventVerdict
wrong_in goal x =
    option_or (conflict_in x.state) (option_or (stuck_in goal x) (output_in goal x))

-- the verdict of an accepted event
abbrev pub judged :
    Criteria → Explored → Event → Result (Outcome × State) Refusal → Option EventVerdict
judged goal x e (Ok given) =
    option_or (wrong_with goal x e given.0) (wrong_in goal (behind goal x e given.1))
judged goal x e (Err refusal) = None

abbrev pub verdict_by : Criteria → Explored → Option Event → Option EventVerdict
verdict_by goal x None = None
verdict_by goal x (Some e) = judged goal x e (result_of (fresh x.state) e)

abbrev pub verdict : Question → Explored → ℕ → Option EventVerdict
verdict q x n = verdict_by q.goal x (event_of q x n)

-- unknown

-- what the next Step of a processor reads, if the machine is on
abbrev pub reads_next : ℕ → State → Reads
reads_next p s = if s.board.off then no_reads else reads_in p s

abbrev pub is_outside : Reads → Reads → Bool
is_outside read known = (read.random && not known.random) || (read.count && not known.count)

abbrev pub unknown : ℕ → Reads → Unknown
unknown p read = record { processor = p; reads = read }

abbrev pub unknown_by : Reads → ℕ → Reads → Option Unknown
unknown_by known p read = if is_outside read known then Some (unknown p read) else None

abbrev pub stop_by : Question → Explored → Option Event → Option Unknown
stop_by q x None = None
stop_by q x (Some (Step p)) = unknown_by (known_of q.known p) p (reads_next p x.state)
stop_by q x (Some (Key byte)) = None
stop_by q x (Some Done) = None

-- a Step reads what isn't known
abbrev pub stop : Question → Explored → ℕ → Option Unknown
stop q x n = stop_by q x (event_of q x n)

-- ends

-- the machine is off, or stuck, and has sent what is asked for
abbrev pub is_end : Question → Explored → Bool
is_end q x = x.state.board.off || (is_stuck_in q.goal x && has_sent q.goal.output x.agreed)
