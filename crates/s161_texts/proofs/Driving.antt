use Rattle.std.proofs.Common.{◌≡◌, ◌∙◌, refl, sym, ap, subst, ℕ, ◌+◌, ◌<◌, ◌≤◌, List, [], ◌∷◌, ◌++◌, length, slice_get, Option, None, Some, Ok, false, arith, inr}
use Rattle.std.proofs.lemmas.List.{length-append}
use Rattle.std.specs.Prelude.{if◌then◌else◌}
use Rattle.m161_cpu.specs.declared.processor.Outcome.{Outcome}
use Rattle.m161_machine.specs.declared.event.Entry.{Entry}
use Rattle.m161_machine.specs.declared.event.Event.{Event}
use Rattle.m161_machine.specs.State.{State, next}
use Rattle.m161_machine.specs.History.{entry}
use Rattle.m161_drive.specs.declared.cursor.Cursor.{Cursor}
use Rattle.m161_drive.specs.declared.run.Driven.{Driven}
use Rattle.m161_drive.specs.declared.run.Stop.{Stop}
use Rattle.m161_drive.specs.declared.run.Stop.TheVariants.{Off, End, Stuck, Refused}
use Rattle.m161_drive.specs.Choice.{chosen, cursor_at, taken}
use Rattle.m161_drive.specs.Drive.{Chooses, Goes, Rests, Stops}
use Rattle.m161_drive.specs.Policy.{Rules}
use Rattle.m161_drive.proofs.Driving.{chooses_append, ended_so}
use Rattle.m161_machine.proofs.Made.{counted}
use Rattle.s161_run.specs.declared.events.RunStop.{RunStop}
use Rattle.s161_run.specs.declared.events.RunStop.TheVariants as run
use Rattle.s161_run.specs.Behind.{told}
use Rattle.s161_base.specs.declared.fault.Fault.{Fault}
use Rattle.s161_texts.specs.declared.lines.Lines.{Lines}
use Rattle.s161_texts.specs.helpers.Driven.{FailsBehind, FailsInDrive, FailsOnce, PrintsBehind, PrintsDrive, Turn, next_key}
use Rattle.s161_texts.specs.helpers.Printing.{Prints}
use Rattle.s161_texts.specs.helpers.Scheduled.{PrintsSchedule}
use Rattle.s161_texts.proofs.Printing.{fails_on, prints_none, prints_on}

-- The lines of a driven run.

-- events have no greater numbers than so many were made
pub number_few : (l k : Lines) (a b : Option (List ℕ)) (es : List Entry) (s t : State) → l.tracer ≡ s → Prints l a es t k b → l.number ≤ s.made → k.number ≤ t.made
number_few l k a b es s t step prints few =
    let count = counted es l.tracer t prints.leads in
    let here = ap (λ (u : State). u.made) step in
    let number = prints.number_is in
    omega (arith, count, here, number, few)

-- an event that was chosen, and is made
pub goes_so : (rules : Rules) (c b d : Cursor) (s t v w : State) (e : Event) (o : Outcome) → v ≡ s → w ≡ t → s.board.off ≡ false →
    Some e ≡ (chosen rules c v).0 → b ≡ (chosen rules c v).1 → next s e ≡ Ok (o, t) → d ≡ taken e w b →
    Goes rules (next_key rules c) c s (entry e o) d t
goes_so rules c b d s t v w e o at led on choice left accepted took = record {
  is_on = on;
  choice_is = ap (λ u. (chosen rules c u).0) (sym at) ∙ sym choice;
  accepted = accepted;
  cursor_is = took ∙ (λ i. taken e (led i) (left i)) ∙ ap (λ u. taken e t (chosen rules c u).1) at;
}

-- a run so far
pub record Printing
    (rules : Rules) (s : State) (l : Lines) (a : Option (List ℕ)) (made : ℕ) (c : Cursor)
    (t : State) (k : Lines) (b : Option (List ℕ)) : Type 0 where
  pub entries : List Entry
  pub made_is : length entries ≡ made
  pub chosen_are : Chooses rules (slice_get rules.keys) (cursor_at rules s) s entries c t
  pub prints : Prints l a entries t k b

pub begins : (rules : Rules) (s : State) (l : Lines) (a : Option (List ℕ)) (c : Cursor) → c ≡ cursor_at rules s → l.tracer ≡ s →
    Printing rules s l a 0 c s l a
begins rules s l a c fresh step = record {
  entries = [];
  made_is = refl;
  chosen_are = (fresh, refl);
  prints = prints_none l a s step;
}

-- where it stops
stops_so : (rules : Rules) (n made : ℕ) (c : Cursor) (s : State) (stop : Stop) → made < n → Rests rules (next_key rules c) c s stop →
    Stops rules n made c s stop
stops_so rules n made c s Off less h = h
stops_so rules n made c s End less h = absurd h
stops_so rules n made c s Stuck less h = (less, h)
stops_so rules n made c s (Refused refusal) less h = (less, h)

module _ (rules : Rules) (most : ℕ) (s : State) (l : Lines) (a : Option (List ℕ)) (made : ℕ) (c : Cursor) (t : State) (k : Lines)
    (b : Option (List ℕ)) (so_far : Printing rules s l a made c t k b) where
  -- one event more
  module _ (d : Cursor) (u : State) (e : Entry) (goes : Goes rules (next_key rules c) c t e d u) where
    made_then : length (so_far.entries ++ e ∷ []) ≡ made + 1
    made_then = length-append so_far.entries (e ∷ []) ∙ ap (λ i. i + 1) so_far.made_is

    chosen_then : Chooses rules (slice_get rules.keys) (cursor_at rules s) s (so_far.entries ++ e ∷ []) d u
    chosen_then =
        chooses_append rules (slice_get rules.keys) so_far.entries (e ∷ []) (cursor_at rules s) c d s t u so_far.chosen_are (d, u, goes, (refl, refl))

  pub goes_on : (d : Cursor) (u : State) (j : Lines) (x : Option (List ℕ)) → Turn rules c t k b None d u j x →
      Printing rules s l a (made + 1) d u j x
  goes_on d u j x turn = record {
    entries = so_far.entries ++ turn.0 ∷ [];
    made_is = made_then d u turn.0 turn.1;
    chosen_are = chosen_then d u turn.0 turn.1;
    prints = prints_on l k a b x so_far.entries (turn.0 ∷ []) t so_far.prints j u turn.2;
  }

  -- its line can't be put out
  pub failed : (d : Cursor) (u : State) (x : Option (List ℕ)) (fault : Fault) → made < most →
      FailsOnce rules c t k b d u x fault → FailsInDrive rules most s l a u x fault
  failed d u x fault less turn = record {
    entries = so_far.entries ++ turn.0 ∷ [];
    some = record {
      few = let all = made_then d u turn.0 turn.1 in omega (arith, all, less);
      cursor = d;
      chosen_are = chosen_then d u turn.0 turn.1;
    };
    fails = fails_on l k a b x so_far.entries (turn.0 ∷ []) t so_far.prints u fault turn.2;
  }

  -- no event more
  stops_here : (stop : Stop) → made ≤ most → Stops rules most made c t stop →
      PrintsDrive rules most s l a (record { made = made; stop = stop }) t k b
  stops_here stop few stops = record {
    entries = so_far.entries;
    drives = record {
      cursor = c;
      made_is = so_far.made_is;
      few = few;
      chosen_are = so_far.chosen_are;
      stops = stops;
    };
    prints = so_far.prints;
  }

  pub stopped : (d : Cursor) (stop : Stop) (u : State) (j : Lines) (x : Option (List ℕ)) → made < most →
      Turn rules c t k b (Some stop) d u j x → PrintsDrive rules most s l a (record { made = made; stop = stop }) u j x
  stopped d stop u j x less turn =
      rw (turn.1, turn.2, turn.3) (stops_here stop (omega (arith, less)) (stops_so rules most made c t stop less turn.0))

  pub at_last : made ≡ most → PrintsDrive rules most s l a (record { made = most; stop = if t.board.off then Off else End }) t k b
  at_last all =
      subst (λ n. PrintsDrive rules most s l a (record { made = n; stop = if t.board.off then Off else End }) t k b) all
      (stops_here (if t.board.off then Off else End) (omega (arith, all)) (ended_so rules most made c t t.board.off refl all))

-- Behind events that come first.

module _ (rules : Rules) (most : ℕ) (s : State) (l : Lines) (a : Option (List ℕ)) (events : List Event) where
  module _ (none : l.number ≡ 0) (u : State) (j : Lines) (b : Option (List ℕ)) (h : PrintsSchedule s l a events run.End u j b) where
    pub behind_goes : (driven : Driven) (stop : RunStop) (t : State) (k : Lines) (c : Option (List ℕ)) → PrintsDrive rules most u j b driven t k c →
        stop ≡ told k.number t.conflict driven.stop → PrintsBehind rules most s l a events stop t k c
    behind_goes driven stop t k c x is =
        let first = h.prints.number_is in
        let more = x.prints.number_is in
        let made = x.drives.made_is in
        let number : k.number ≡ length h.entries + driven.made = omega (arith, none, first, more, made) in
        record {
          entries = h.entries ++ x.entries;
          goes = record {
            first_stop = run.End;
            first = h.entries;
            between = u;
            makes = h.makes;
            follows = (driven, x.entries, x.drives, refl, is ∙ ap (λ n. told n t.conflict driven.stop) number);
          };
          prints = prints_on l j a b c h.entries x.entries u h.prints k t x.prints;
        }

    pub behind_fails : (t : State) (c : Option (List ℕ)) (fault : Fault) → FailsInDrive rules most u j b t c fault → FailsBehind rules most s l a events t c fault
    behind_fails t c fault x = record {
      entries = h.entries ++ x.entries;
      some = inr (h.entries, x.entries, u, h.makes, x.some, refl);
      fails = fails_on l j a b c h.entries x.entries u h.prints t fault x.fails;
    }
