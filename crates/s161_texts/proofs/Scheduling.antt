use Rattle.std.proofs.Common.{◌≡◌, ◌∙◌, refl, sym, ap, subst, ℕ, ◌+◌, ◌<◌, ◌≤◌, List, [], ◌∷◌, ◌++◌, length, take, drop, replicate, Option, None, Some, arith}
use Rattle.std.proofs.lemmas.List.{length-append, length-drop, length-map, length-replicate, map-append, replicate-append-replicate, take-append-le, take-replicate}
use Rattle.std.proofs.Math.Seq.{take-add}
use Rattle.m161_machine.specs.declared.event.Entry.{Entry}
use Rattle.m161_machine.specs.declared.event.Event.{Event}
use Rattle.m161_machine.specs.declared.event.Refusal.{Refusal}
use Rattle.m161_machine.specs.State.{State}
use Rattle.m161_machine.specs.History.{Leads, entry, events_of}
use Rattle.s161_base.specs.declared.fault.Fault.{Fault}
use Rattle.s161_run.specs.declared.events.RunStop.{RunStop}
use Rattle.s161_run.specs.declared.events.RunStop.TheVariants.{End, Refused}
use Rattle.s161_run.specs.Runs.{StopsAfter, stop_off}
use Rattle.s161_run.specs.helpers.Events.{EndsAfter}
use Rattle.s161_run.proofs.Making.{at_most_all, run_passed, run_refused, run_within, stopped_off, switched}
use Rattle.s161_texts.specs.declared.lines.Lines.{Lines}
use Rattle.s161_texts.specs.helpers.Printing.{Prints}
use Rattle.s161_texts.specs.helpers.Scheduled.{FailsAlike, FailsInSchedule, FailsOnce, PrintsSchedule, Turn, TurnsAlike}
use Rattle.s161_texts.proofs.Printing.{fails_on, prints_none, prints_on}

-- The lines of a schedule's events.

-- entries, and those after them
events_on : (es fs : List Entry) (xs ys : List Event) → events_of es ≡ xs → events_of fs ≡ ys → events_of (es ++ fs) ≡ xs ++ ys
events_on es fs xs ys is are = map-append (λ (e : Entry). e.event) es fs ∙ (λ i. is i ++ are i)

-- the same event was made so often, and its lines are put out
pub record Alike
    (l : Lines) (a : Option (List ℕ)) (e : Event) (made : ℕ) (t : State) (k : Lines) (b : Option (List ℕ)) : Type 0 where
  pub entries : List Entry
  pub are_alike : events_of entries ≡ replicate made e
  pub prints : Prints l a entries t k b

pub none_alike : (l : Lines) (a : Option (List ℕ)) (e : Event) (s : State) → l.tracer ≡ s → Alike l a e 0 s l a
none_alike l a e s step = record { entries = []; are_alike = refl; prints = prints_none l a s step }

module _ (l : Lines) (a : Option (List ℕ)) (e : Event) (made : ℕ) (t : State) (k : Lines) (b : Option (List ℕ))
    (so_far : Alike l a e made t k b) where
  -- how many lines were numbered
  pub number_alike : k.number ≡ l.number + made
  number_alike =
      let number = so_far.prints.number_is in
      let long = length-map so_far.entries (λ (x : Entry). x.event) in
      omega (arith, number, long, ap length so_far.are_alike, length-replicate made e)

  once_more : (es : List Entry) → events_of es ≡ e ∷ [] → events_of (so_far.entries ++ es) ≡ replicate (made + 1) e
  once_more es is = events_on so_far.entries es (replicate made e) (e ∷ []) so_far.are_alike is ∙ replicate-append-replicate made 1 e

  module _ (u : State) (c : Option (List ℕ)) where
    pub alike_more : (j : Lines) → Turn t k b e None u j c → Alike l a e (made + 1) u j c
    alike_more j turn =
        let one = entry e turn.0 ∷ [] in
        record {
          entries = so_far.entries ++ one;
          are_alike = once_more one refl;
          prints = prints_on l k a b c so_far.entries one t so_far.prints j u turn.1;
        }

    pub fails_more : (times : ℕ) (fault : Fault) → made < times → FailsOnce k b e u c fault → FailsAlike l a e times u c fault
    fails_more times fault less turn =
        let one = entry e turn.0 ∷ [] in
        record {
          number = made + 1;
          few = omega (arith, less);
          entries = so_far.entries ++ one;
          are_alike = once_more one refl;
          fails = fails_on l k a b c so_far.entries one t so_far.prints u fault turn.1;
        }

    pub refused_then : (times : ℕ) (refusal : Refusal) (j : Lines) → made < times → Turn t k b e (Some refusal) u j c →
        TurnsAlike l a e times (made, Some refusal) u j c
    refused_then times refusal j less turn =
        rw (turn.1, turn.2, turn.3) (record {
          entries = so_far.entries;
          are_alike = so_far.are_alike;
          prints = so_far.prints;
          ends = (less, turn.0);
        })

  pub made_all : (times : ℕ) → made ≡ times → TurnsAlike l a e times (times, None) t k b
  made_all times all =
      subst (λ i. TurnsAlike l a e i (i, None) t k b) all (record {
        entries = so_far.entries;
        are_alike = so_far.are_alike;
        prints = so_far.prints;
        ends = refl;
      })

-- the first events of a list are made, and their lines put out
pub record Made
    (l : Lines) (a : Option (List ℕ)) (events : List Event) (made : ℕ) (t : State) (k : Lines) (b : Option (List ℕ)) : Type 0 where
  pub entries : List Entry
  pub made_is : length entries ≡ made
  pub are_first : events_of entries ≡ take made events
  pub prints : Prints l a entries t k b

pub made_none : (l : Lines) (a : Option (List ℕ)) (events : List Event) (s : State) → l.tracer ≡ s → Made l a events 0 s l a
made_none l a events s step = record { entries = []; made_is = refl; are_first = refl; prints = prints_none l a s step }

-- some of the first events of a list, which are the same one
taken_alike : (rest after : List Event) (e : Event) (times more : ℕ) → rest ≡ replicate times e ++ after → more ≤ times →
    take more rest ≡ replicate more e
taken_alike rest after e times more same few =
    let long : more ≤ length (replicate times e) = omega (arith, length-replicate times e, few) in
    ap (take more) same ∙ take-append-le more (replicate times e) after long ∙ take-replicate more times e few

module _ (s : State) (l : Lines) (a : Option (List ℕ)) (step : l.tracer ≡ s) (events : List Event) where
  from_start : (es : List Entry) (t : State) → Leads l.tracer es t → Leads s es t
  from_start es t h = subst (λ u. Leads u es t) step h

  first_of : (es : List Entry) (made : ℕ) → length es ≡ made → events_of es ≡ take made events → events_of es ≡ take (length es) events
  first_of es made long are = are ∙ ap (λ n. take n events) (sym long)

  -- no event more
  stops_here : (made : ℕ) (t : State) (k : Lines) (b : Option (List ℕ)) (so_far : Made l a events made t k b) (stop : RunStop) →
      StopsAfter s events (length so_far.entries) stop t → PrintsSchedule s l a events stop t k b
  stops_here made t k b so_far stop why = record {
    entries = so_far.entries;
    makes = record {
      leads = from_start so_far.entries t so_far.prints.leads;
      are_first = first_of so_far.entries made so_far.made_is so_far.are_first;
      why = why;
    };
    prints = so_far.prints;
  }

  -- more of the events, which are the same one
  module _ (made : ℕ) (t : State) (k : Lines) (b : Option (List ℕ)) (so_far : Made l a events made t k b) (rest after : List Event)
      (times : ℕ) (e : Event) (is : rest ≡ drop made events) (same : rest ≡ replicate times e ++ after) (u : State) (c : Option (List ℕ)) where
    are_then : (more : ℕ) (es : List Entry) → more ≤ times → events_of es ≡ replicate more e →
        events_of (so_far.entries ++ es) ≡ take (made + more) events
    are_then more es few alike =
        events_on so_far.entries es (take made events) (replicate more e) so_far.are_first alike
        ∙ ap (λ xs. take made events ++ xs) (sym (taken_alike rest after e times more same few) ∙ ap (take more) is)
        ∙ sym (take-add made more events)

    long_then : (more : ℕ) (es : List Entry) → events_of es ≡ replicate more e → length (so_far.entries ++ es) ≡ made + more
    long_then more es alike =
        let before = so_far.made_is in
        let long = length-map es (λ (x : Entry). x.event) in
        omega (arith, before, long, ap length alike, length-replicate more e, length-append so_far.entries es)

    pub fails_then : (fault : Fault) → FailsAlike k b e times u c fault → FailsInSchedule s l a events u c fault
    fails_then fault x =
        let all = so_far.entries ++ x.entries in
        let fails = fails_on l k a b c so_far.entries x.entries t so_far.prints u fault x.fails in
        record {
          entries = all;
          some = (
            first_of all (made + x.number) (long_then x.number x.entries x.are_alike) (are_then x.number x.entries x.few x.are_alike),
            from_start all u fails.0,
          );
          fails = fails;
        }

    module _ (given : ℕ × Option Refusal) (j : Lines) (x : TurnsAlike k b e times given u j c) where
      most : given.0 ≤ times
      most = at_most_all e times u given.0 given.1 x.ends

      pub made_then : Made l a events (made + given.0) u j c
      made_then = record {
        entries = so_far.entries ++ x.entries;
        made_is = long_then given.0 x.entries x.are_alike;
        are_first = are_then given.0 x.entries most x.are_alike;
        prints = prints_on l k a b c so_far.entries x.entries t so_far.prints j u x.prints;
      }

      pub off_then : ¬ (u.board.off ≡ s.board.off) → PrintsSchedule s l a events (stop_off u.conflict) u j c
      off_then other =
          let all = made_then.entries in
          stops_here (made + given.0) u j c made_then (stop_off u.conflict)
          (stopped_off s u events (length all) u.conflict refl
          (switched s.board.off s u all refl other (from_start all u made_then.prints.leads)))

      pub refused_at : (refusal : Refusal) → given.1 ≡ Some refusal → u.board.off ≡ s.board.off →
          PrintsSchedule s l a events (Refused (made + given.0) refusal) u j c
      refused_at refusal some stays =
          let ends = subst (λ r. EndsAfter e times u given.0 r) some x.ends in
          stops_here (made + given.0) u j c made_then (Refused (made + given.0) refusal)
          (stays, made_then.made_is, run_refused events rest after made given.0 times e u refusal is same ends.0 ends.1)

      pub within_then : made ≤ length events → given.0 ≡ times → made + given.0 ≤ length events
      within_then within all = rw all (run_within events rest after made times e within is same)

      pub passed_then : given.0 ≡ times → after ≡ drop (made + given.0) events
      passed_then all = rw all (run_passed events rest after made times e is same)

  -- none is left
  pub ended_then : (made : ℕ) (t : State) (k : Lines) (b : Option (List ℕ)) (so_far : Made l a events made t k b) (rest : List Event) →
      rest ≡ drop made events → rest ≡ [] → made ≤ length events → t.board.off ≡ s.board.off → PrintsSchedule s l a events End t k b
  ended_then made t k b so_far rest is none within stays =
      let long = ap length is in
      let empty = ap length none in
      let all = so_far.made_is in
      stops_here made t k b so_far End (stays, omega (arith, within, long, empty, all, length-drop made events))
