use Rattle.std.proofs.Common.{◌≡◌, ◌∙◌, refl, ap, sym, subst, append-nil, ℕ, zero, suc, ◌+◌, ◌<◌, min, Bool, true, false, List, [], ◌∷◌, ◌++◌, length, get_or, drop, None, arith}
use Rattle.std.specs.Prelude.{sum}
use Rattle.std.specs.List.{list_all}
use Rattle.std.proofs.lemmas.List.{length-append, length-map, take-append-drop}
use Rattle.m161_cpu.specs.Processor.{Processor}
use Rattle.m161_machine.specs.declared.event.Entry.{Entry}
use Rattle.m161_machine.specs.State.{State, counts}
use Rattle.m161_machine.specs.History.{History, Continues, IsReplay, Leads, Start, boot_state, events_of, steps_of}
use Rattle.m161_machine.proofs.Leading.{leads_rest}
use Rattle.m161_machine.proofs.Made.{counted}
use Rattle.m161_machine.proofs.Counted.{count_through, counts_run, counts_through, length_through}
use Rattle.m161_cause.specs.declared.cause.Cause.{Cause}
use Rattle.m161_cause.specs.declared.cause.Cause.TheVariants.{Swapped}
use Rattle.m161_threads.specs.Runs.{FailsRun, Interleaves, IsOfRun, MakesSteps, ShowsInterleaving, ShowsSteps, is_step_below}
use Rattle.m161_threads.specs.helpers.Runs.{FailsLater, IsChecked, IsLater, HasLog, Past, past_of}
use Rattle.m161_threads.specs.Shares.{SeatState, new_seat, seats_from}
use Rattle.m161_threads.proofs.Events.{steps_alone}
use Rattle.m161_threads.specs.helpers.Work.{HasWorked}

-- What the workers say and what was compared make one interleaving.

pub length_places : (k : ℕ) (cs : List ℕ) → length (seats_from k cs) ≡ length cs
length_places k [] = refl
length_places k (c ∷ cs) = ap (λ n. suc n) (length_places (k + 1) cs)

place_at : (k : ℕ) (cs : List ℕ) (i at : ℕ) (d : SeatState) → i < length cs → at ≡ k + i →
    get_or (seats_from k cs) i d ≡ new_seat at (get_or cs i 0)
place_at k [] i at d inside at_is = absurd (let bad : ⊥ = omega (arith, inside) in bad)
place_at k (c ∷ cs) zero at d inside at_is = let here : k ≡ at = omega (arith, at_is) in ap (λ n. new_seat n c) here
place_at k (c ∷ cs) (suc i) at d inside at_is = place_at (k + 1) cs i at d (omega (arith, inside)) (omega (arith, at_is))

same_list : (xs ys : List ℕ) → length xs ≡ length ys →
    ((p : ℕ) → p < length ys → get_or xs p 0 ≡ get_or ys p 0) → xs ≡ ys
same_list [] [] a each = refl
same_list (x ∷ xs) [] a each = absurd (let bad : ⊥ = omega (arith, a) in bad)
same_list [] (y ∷ ys) a each = absurd (let bad : ⊥ = omega (arith, a) in bad)
same_list (x ∷ xs) (y ∷ ys) a each =
    let first : x ≡ y = each 0 (omega arith) in
    let rest = same_list xs ys (omega (arith, a)) (λ p inside. each (suc p) (omega (arith, inside))) in
    λ i. first i ∷ rest i

not_noted : (noted off : Bool) → (noted ≡ true → off ≡ true) → off ≡ false → noted ≡ false
not_noted true off h on = absurd (let bad : true ≡ false = sym (h refl) ∙ on in cc)
not_noted false off h on = refl

-- what a machine says of its log, of its parts
pub told : {h : History} → IsReplay h → (h.base.made ≡ 0 → h.base ≡ boot_state h.start) → h.state.made ≡ h.base.made + length h.log →
    length h.log ≡ min h.start.conf.log h.state.made → HasLog h
told replay boot number last = record { replay = replay; boot = boot; number = number; last = last }

-- of two machines with one start, of which the later one dropped no entry, neither did the other
none_dropped : (before after : History) (made : ℕ) → HasLog before → HasLog after → IsLater (past_of before) made after →
    after.base.made ≡ 0 → (before.base.made ≡ 0) × (length after.log ≡ min before.start.conf.log (length after.log))
none_dropped before after made first second later none =
    let conf_is = ap (λ (s : Start). s.conf.log) later.start_is in
    let before_number = first.number in
    let before_last = first.last in
    let after_number = second.number in
    let after_last = second.last in
    let events_made = later.events_made in (
      omega (arith, conf_is, before_number, before_last, after_number, after_last, events_made, none),
      omega (arith, conf_is, after_number, after_last, none),
    )

-- so the later one's log goes on from the other's
resumes : (before after : History) (made : ℕ) → HasLog before → HasLog after → IsLater (past_of before) made after →
    after.base.made ≡ 0 → Continues before (events_of (drop (length before.log) after.log)) after
resumes before after made first second later none =
    let entries = drop (length before.log) after.log in
    let dropped = none_dropped before after made first second later none in
    let log_is : after.log ≡ before.log ++ entries =
    sym (take-append-drop (length before.log) after.log) ∙ ap (λ (l : List Entry). l ++ entries) (later.whole none) in
    let base_is : after.base ≡ before.base =
    second.boot none ∙ ap boot_state later.start_is ∙ sym (first.boot dropped.0) in
    let long = ap length log_is ∙ length-append before.log entries in
    let short = dropped.1 in
    record {
      entries = entries;
      events_are = refl;
      run_is = leads_rest before.log entries before.base before.state after.state first.replay
          (subst (λ (es : List Entry). Leads before.base es after.state) log_is
          (subst (λ (s : State). Leads s after.log after.state) base_is second.replay));
      slides = record {
        lost = [];
        log_is = sym log_is;
        base_is = base_is;
        length_is = omega (arith, long, short);
        start_is = later.start_is;
      };
    }

-- a machine that may be the one of a copy after so many Steps, is it, as far as its log shows
shows_steps : (before after : History) (made : ℕ) → HasLog before → HasLog after → IsLater (past_of before) made after →
    after.base.made ≡ 0 → ShowsSteps before after
shows_steps before after made first second later none =
    let events = events_of (drop (length before.log) after.log) in
    let goes_on = resumes before after made first second later none in
    let made_more = counted goes_on.entries before.state after.state goes_on.run_is in
    record {
      events = events;
      steps = subst (λ es. list_all (is_step_below (length before.state.processors)) es ≡ true) goes_on.events_are
          (steps_alone goes_on.entries before.state after.state (length before.state.processors) refl goes_on.run_is
          (omega (arith, made_more, later.counted, later.events_made)));
      continues = goes_on;
    }

pub makes_steps : (before after : History) (made : ℕ) → HasLog before → HasLog after → IsLater (past_of before) made after →
    MakesSteps before made after
makes_steps before after made first second later = record {
  start_is = later.start_is;
  counted = later.counted;
  events_made = later.events_made;
  shown = shows_steps before after made first second later;
}

-- no Step was made
pub makes_none : (before : History) → HasLog before → MakesSteps before 0 before
makes_none before told =
    let last = told.last in
    record {
      start_is = refl;
      counted = omega arith;
      events_made = omega arith;
      shown = λ _. record {
        events = [];
        steps = refl;
        continues = record {
          entries = [];
          events_are = refl;
          run_is = refl;
          slides = record {
            lost = [];
            log_is = append-nil before.log;
            base_is = refl;
            length_is = omega (arith, last);
            start_is = refl;
          };
        };
      };
    }

-- a run that fails before any Step
pub fails_at_once : (before : History) (cause : Cause) → HasLog before → IsOfRun cause → FailsRun None before cause before
fails_at_once before cause told of_run = (of_run, told.replay, λ _. (0, makes_none before told))

-- a machine that can't be the one of the copy was swapped
pub is_swapped : (past : Past) (after : History) → IsReplay after → FailsLater past Swapped after
is_swapped past after replays = ((λ h. absurd (cc), λ h. absurd (cc)), replays, λ other. absurd (other refl))

-- a run that fails later
pub fails_run : (before after : History) (past : Past) (cause : Cause) → HasLog before →
    past ≡ past_of before → FailsLater past cause after → FailsRun None before cause after
fails_run before after past cause told past_is fails = (
  fails.0,
  fails.1,
  λ same.
      let later = fails.2 same in
      (later.1.0, makes_steps before after later.1.0 told later.0 (subst (λ p. IsLater p later.1.0 after) past_is later.1.1)),
)

-- the Steps of each processor, in the events that the log shows
shows : (before after : History) (quotas made : List ℕ) → length quotas ≡ length before.state.processors → length made ≡ length quotas →
    ((p : ℕ) → p < length quotas → get_or (counts after.state) p 0 ≡ get_or (counts before.state) p 0 + get_or made p 0) →
    ShowsSteps before after → ShowsInterleaving before made after
shows before after quotas made number made_number counted all =
    let cs = counts before.state in
    let size : length cs ≡ length quotas = length-map before.state.processors (λ (p : Processor). p.count) ∙ sym number in
    let through : counts after.state ≡ counts_through all.events cs =
    counts_run all.continues.entries before.state after.state all.continues.run_is ∙ ap (λ es. counts_through es cs) all.continues.events_are in
    let each : (p : ℕ) → p < length made → steps_of p all.events ≡ get_or made p 0 = λ p inside.
    let there : p < length quotas = omega (arith, inside, made_number) in
    let steps = count_through all.events p cs (omega (arith, there, size)) in
    let is = ap (λ c. get_or c p 0) through in
    let sums = counted p there in
    omega (arith, steps, is, sums) in
    record {
      events = all.events;
      interleaving = record {
        steps = subst (λ n. list_all (is_step_below n) all.events ≡ true) (sym number ∙ sym made_number) all.steps;
        each = each;
      };
      continues = all.continues;
    }

pub interleaves : (before after : History) (quotas : List ℕ) (seats : List SeatState) (made : List ℕ) (off : Bool) →
    HasLog before → length quotas ≡ length before.state.processors →
    HasWorked (seats_from 0 (counts before.state)) quotas seats made →
    IsChecked (past_of before) seats made off after → Interleaves before quotas made off after
interleaves before after quotas seats made off told number worked checked =
    let d = new_seat 0 0 in
    let cs = counts before.state in
    let size : length cs ≡ length quotas = length-map before.state.processors (λ (p : Processor). p.count) ∙ sym number in
    let all = makes_steps before after (sum made) told checked.told checked.later in
    let counted : (p : ℕ) → p < length quotas → get_or (counts after.state) p 0 ≡ get_or cs p 0 + get_or made p 0 = λ p inside.
    let works = worked.each p d d inside in
    let there : p < length seats = omega (arith, inside, worked.seats_number) in
    let here = place_at 0 cs p p d (omega (arith, inside, size)) (omega arith) in
    let its : (get_or seats p d).processor ≡ p = works.processor_is ∙ ap (λ (s : SeatState). s.processor) here in
    let fits = (checked.seats_are p d there).1 in
    ap (λ n. get_or (counts after.state) n 0) (sym its) ∙ fits ∙ works.counted
    ∙ ap (λ (s : SeatState). s.count + get_or made p 0) here in
    record {
      start_is = all.start_is;
      number = worked.made_number;
      within = λ p inside. (worked.each p d d inside).within;
      whole = λ on. same_list made quotas worked.made_number (λ p inside.
          (worked.each p d d inside).whole refl
          (not_noted (get_or seats p d).noted after.state.board.off
          (checked.noted p d (omega (arith, inside, worked.seats_number))) (sym checked.off_is ∙ on)));
      off_is = checked.off_is;
      counted = counted;
      events_made = all.events_made;
      shown = λ none. shows before after quotas made number worked.made_number counted (all.shown none);
    }
