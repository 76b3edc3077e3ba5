use Rattle.std.proofs.Common.{◌≡◌, ◌∙◌, refl, sym, ap, subst, ℕ, ◌+◌, ◌<◌, ◌≤◌, List, [], ◌∷◌, ◌++◌, length, slice_get, None, Some, Ok, Bool, false, arith}
use Rattle.std.proofs.lemmas.List.{append-nil, append_assoc, length-append}
use Rattle.std.specs.Prelude.{if◌then◌else◌}
use Rattle.m161_cpu.specs.declared.processor.Outcome.{Outcome}
use Rattle.m161_machine.specs.declared.event.Entry.{Entry}
use Rattle.m161_machine.specs.declared.event.Event.{Event}
use Rattle.m161_machine.specs.State.{State, next}
use Rattle.m161_machine.specs.History.{History, Slides, entry}
use Rattle.m161_machine.proofs.Continuing.{slides_on}
use Rattle.m161_drive.specs.declared.cursor.Cursor.{Cursor}
use Rattle.m161_drive.specs.declared.run.Stop.{Stop}
use Rattle.m161_drive.specs.declared.run.Stop.TheVariants.{Off, End, Stuck, Refused}
use Rattle.m161_drive.specs.Choice.{chosen, cursor_at, taken}
use Rattle.m161_drive.specs.Drive.{Chooses, Goes, Rests, Stops}
use Rattle.m161_drive.specs.Policy.{Rules}
use Rattle.m161_drive.proofs.Driving.{chooses_append, ended_so}
use Rattle.m161_dis.specs.declared.naming.Style.{Style}
use Rattle.m161_text.specs.Lines.{with_line_end}
use Rattle.m161_trace.specs.Line.{event_line_with}
use Rattle.m161_c.specs.Driven.{AreLines, DrivesOn, TracesOn}
use Rattle.m161_c.specs.helpers.Turns.{MakesNext, TracesNext, next_key}

-- Driven runs of a machine.

-- an event that was chosen, and is made
pub goes_so : (rules : Rules) (c b d : Cursor) (s t v w : State) (e : Event) (o : Outcome) → v ≡ s → w ≡ t → s.board.off ≡ false →
    Some e ≡ (chosen rules c v).0 → b ≡ (chosen rules c v).1 → next s e ≡ Ok (o, t) → d ≡ taken e w b →
    Goes rules (next_key rules c) c s (entry e o) d t
goes_so rules c b d s t v w e o at led on choice left accepted took = record {
  is_on = on;
  choice_is = ap (λ u. (chosen rules c u).0) (sym at) ∙ sym choice;
  accepted = accepted;
  cursor_is = took ∙ (λ i. taken e (led i) (left i)) ∙ ap (λ u. taken e t (chosen rules c u).1) at;
}

-- a run so far
pub record Going (rules : Rules) (m : History) (made : ℕ) (c : Cursor) (k : History) : Type 0 where
  pub entries : List Entry
  pub made_is : length entries ≡ made
  pub chosen_are : Chooses rules (slice_get rules.keys) (cursor_at rules m.state) m.state entries c k.state
  pub slides : Slides m entries k

pub begins : (rules : Rules) (m : History) (c : Cursor) → c ≡ cursor_at rules m.state → length m.log ≤ m.start.conf.log → Going rules m 0 c m
begins rules m c fresh fits = record {
  entries = [];
  made_is = refl;
  chosen_are = (fresh, refl);
  slides = record {
    lost = [];
    log_is = append-nil m.log;
    base_is = refl;
    length_is = omega (arith, fits);
    start_is = refl;
  };
}

-- where it stops
stops_so : (rules : Rules) (n made : ℕ) (c : Cursor) (s : State) (stop : Stop) → made < n → Rests rules (next_key rules c) c s stop →
    Stops rules n made c s stop
stops_so rules n made c s Off less h = h
stops_so rules n made c s End less h = absurd h
stops_so rules n made c s Stuck less h = (less, h)
stops_so rules n made c s (Refused refusal) less h = (less, h)

module _ (rules : Rules) (n : ℕ) (m : History) (made : ℕ) (c : Cursor) (k : History) (so_far : Going rules m made c k) where
  -- one event more
  pub more : (d : Cursor) (j : History) (e : Entry) → Goes rules (next_key rules c) c k.state e d j.state → Slides k (e ∷ []) j →
      Going rules m (made + 1) d j
  more d j e goes slides = record {
    entries = so_far.entries ++ e ∷ [];
    made_is = length-append so_far.entries (e ∷ []) ∙ ap (λ i. i + 1) so_far.made_is;
    chosen_are =
        chooses_append rules (slice_get rules.keys) so_far.entries (e ∷ []) (cursor_at rules m.state) c d m.state k.state j.state so_far.chosen_are
        (d, j.state, goes, (refl, refl));
    slides = slides_on m k j so_far.entries (e ∷ []) so_far.slides slides;
  }

  pub goes_on : (d : Cursor) (j : History) → MakesNext rules c k None d j → Going rules m (made + 1) d j
  goes_on d j turn = more d j turn.0 turn.1 turn.2

  -- no event more
  stops_here : (stop : Stop) → made ≤ n → Stops rules n made c k.state stop → DrivesOn rules n m (record { made = made; stop = stop }) k
  stops_here stop few stops = (
    so_far.entries,
    record {
      cursor = c;
      made_is = so_far.made_is;
      few = few;
      chosen_are = so_far.chosen_are;
      stops = stops;
    },
    so_far.slides,
  )

  pub stopped : (d : Cursor) (stop : Stop) (j : History) → made < n → MakesNext rules c k (Some stop) d j →
      DrivesOn rules n m (record { made = made; stop = stop }) j
  stopped d stop j less turn = rw (turn.1) (stops_here stop (omega (arith, less)) (stops_so rules n made c k.state stop less turn.0))

  pub at_last : made ≡ n → DrivesOn rules n m (record { made = n; stop = if k.state.board.off then Off else End }) k
  at_last all =
      subst (λ i. DrivesOn rules n m (record { made = i; stop = if k.state.board.off then Off else End }) k) all
      (stops_here (if k.state.board.off then Off else End) (omega (arith, all)) (ended_so rules n made c k.state k.state.board.off refl all))

-- Lines.

pub lines_append : (style : Style) (loads : Bool) (es fs : List Entry) (a b : List ℕ) (s u t : State) → AreLines style loads s es a u → AreLines style loads u fs b t →
    AreLines style loads s (es ++ fs) (a ++ b) t
lines_append style loads [] fs a b s u t h g =
    subst (λ x. AreLines style loads x fs (a ++ b) t) h.1 (subst (λ x. AreLines style loads u fs (x ++ b) t) (sym h.0) g)
lines_append style loads (e ∷ es) fs a b s u t h g = (
  h.0,
  h.1 ++ b,
  h.2,
  ap (λ x. x ++ b) h.3 ∙ append_assoc (with_line_end (event_line_with style loads s.made e.event s e.outcome h.0)) h.1 b,
  lines_append style loads es fs h.1 b h.0 u t h.4 g,
)

-- a run so far, with its lines
pub record Tracing (style : Style) (loads : Bool) (rules : Rules) (m : History) (before : List ℕ) (made : ℕ) (c : Cursor) (k : History) (after : List ℕ) : Type 0 where
  pub going : Going rules m made c k
  pub lines : List ℕ
  pub are_lines : AreLines style loads m.state going.entries lines k.state
  pub text_is : after ≡ before ++ lines

pub begins_trace : (style : Style) (loads : Bool) (rules : Rules) (m : History) (before : List ℕ) (c : Cursor) → c ≡ cursor_at rules m.state →
    length m.log ≤ m.start.conf.log → Tracing style loads rules m before 0 c m before
unfolding begins
begins_trace style loads rules m before c fresh fits = record {
  going = begins rules m c fresh fits;
  lines = [];
  are_lines = (refl, refl);
  text_is = sym (append-nil before);
}

module _ (style : Style) (loads : Bool) (rules : Rules) (n : ℕ) (m : History) (a : List ℕ) (made : ℕ) (c : Cursor) (k : History) (b : List ℕ)
    (so_far : Tracing style loads rules m a made c k b) where
  pub traces_on : (d : Cursor) (j : History) (x : List ℕ) → TracesNext style loads rules c k b None d j x → Tracing style loads rules m a (made + 1) d j x
  unfolding more
  traces_on d j x turn =
      let e = turn.0 in
      let line = with_line_end (event_line_with style loads k.state.made e.event k.state e.outcome j.state) in
      record {
        going = more rules n m made c k so_far.going d j e turn.1 turn.2;
        lines = so_far.lines ++ line;
        are_lines =
            lines_append style loads so_far.going.entries (e ∷ []) so_far.lines line m.state k.state j.state so_far.are_lines
            (j.state, [], turn.1.accepted, sym (append-nil line), (refl, refl));
        text_is = turn.3 ∙ ap (λ t. t ++ line) so_far.text_is ∙ append_assoc a so_far.lines line;
      }

  traced_here : (stop : Stop) → made ≤ n → Stops rules n made c k.state stop → TracesOn style loads rules n m (record { made = made; stop = stop }) k a b
  traced_here stop few stops = (
    so_far.going.entries,
    so_far.lines,
    record {
      cursor = c;
      made_is = so_far.going.made_is;
      few = few;
      chosen_are = so_far.going.chosen_are;
      stops = stops;
    },
    so_far.going.slides,
    so_far.are_lines,
    so_far.text_is,
  )

  pub trace_stopped : (d : Cursor) (stop : Stop) (j : History) (x : List ℕ) → made < n → TracesNext style loads rules c k b (Some stop) d j x →
      TracesOn style loads rules n m (record { made = made; stop = stop }) j a x
  trace_stopped d stop j x less turn =
      rw (turn.1, turn.2) (traced_here stop (omega (arith, less)) (stops_so rules n made c k.state stop less turn.0))

  pub trace_at_last : made ≡ n → TracesOn style loads rules n m (record { made = n; stop = if k.state.board.off then Off else End }) k a b
  trace_at_last all =
      subst (λ i. TracesOn style loads rules n m (record { made = i; stop = if k.state.board.off then Off else End }) k a b) all
      (traced_here (if k.state.board.off then Off else End) (omega (arith, all)) (ended_so rules n made c k.state k.state.board.off refl all))
