use Rattle.std.proofs.Common.{◌≡◌, ◌⊎◌, ◌∙◌, ℕ, ◌<◌, Bool, true, false, not, ◌&&◌, bytes_eq, List, [], ◌∷◌, ◌++◌, length, take, Option, Ok, Err, inl, inr, ap, refl, subst, sym, codes, append-nil, append_assoc, arith}
use Rattle.std.proofs.lemmas.List.Concat.{flat_map-append}
use Rattle.std.proofs.lemmas.Slice.Eq.{bytes_eq-Decides}
use Rattle.std.proofs.KnownBytes.{Appends-nil, Appends-trans, Consumes-nil, Consumes-trans}
use Rattle.std.specs.List.{AllByRecursion}
use Rattle.std.specs.Io.KnownBytes.{Appends, Consumes, IsAtEnd}
use Rattle.m161_machine.specs.declared.event.Event.{Event}
use Rattle.m161_text.specs.Lines.{lines_of, text_of}
use Rattle.m161_text.specs.Parts.{Lacks}
use Rattle.m161_debug.specs.Breakpoints.{SessionState}
use Rattle.s161_base.specs.declared.fault.Fault.{Fault}
use Rattle.s161_base.specs.declared.fault.Fault.TheVariants.{After, Conf, File, Image, Input, Log, LogImage, LogMachine, Memory, Never, Output, Schedule, Source, Threads, Touches, Watch, Watches, Word}
use Rattle.s161_base.specs.declared.fault.Unread.TheVariants.{Failed, NotUtf8, TooLong}
use Rattle.s161_base.specs.Known.{IsText}
use Rattle.s161_base.specs.Streams.{AppendsSome, streams}
use Rattle.s161_debug.specs.Blanks.{spaced}
use Rattle.s161_debug.specs.Lines.{Does, DoesLines, asked_by}
use Rattle.s161_debug.specs.Notes.{TakesNotes, note_of, notes_of}
use Rattle.s161_debug.specs.Sessions.{Breaks, Ends, IsBehind, IsLast, IsPassed, IsWritten, all_of}
use Rattle.s161_debug.specs.helpers.Sessions.{Answers, FailsTurn, IsUnread, Place, Rests, TakesNone, TakesSome, Turns, bytes_of, place}
use Rattle.s161_debug.proofs.Texts.{all_more, lines_behind, one_line, text_more}

-- Sessions, line by line.

-- notes and then others
takes_both : (m n : List ℕ) (a b c : Option (List ℕ)) → TakesNotes m a b → TakesNotes n b c → TakesNotes (m ++ n) a c
takes_both [] n a b c p q = (Appends-trans a b c [] n p.0 q.0, λ is. q.1 is ∙ p.1 refl)
takes_both (x ∷ m) n a b c p q =
    (Appends-trans a b c (x ∷ m) n p.0 q.0, λ is. let bad : ◌≡◌ {A = List ℕ} (x ∷ (m ++ n)) [] = is in absurd (cc))

-- the notes on lines behind others
notes_behind : (lines answers more others : List (List ℕ)) (s : SessionState) (events : List Event) → DoesLines lines s events answers →
    notes_of (lines ++ more) (answers ++ others) ≡ notes_of lines answers ++ notes_of more others
notes_behind [] answers more others s events does = ap (λ l. notes_of more (l ++ others)) does
notes_behind (line ∷ lines) answers more others s events does =
    let P : List (List ℕ) → Type 0 = λ l. notes_of ((line ∷ lines) ++ more) (l ++ others) ≡ notes_of (line ∷ lines) l ++ notes_of more others in
    let note = note_of (spaced line) does.2 in
    subst P (sym does.4) (ap (λ n. note ++ n) (notes_behind lines does.3 more others does.0 does.1 does.6) ∙ sym (append_assoc note (notes_of lines does.3) (notes_of more others)))

-- one text more
all_more_of : (answers : List (List ℕ)) (answer : List ℕ) → all_of (answers ++ answer ∷ []) ≡ all_of answers ++ answer
all_more_of answers answer = flat_map-append (λ text. text) answers (answer ∷ []) ∙ ap (λ text. all_of answers ++ text) (append-nil answer)

-- a session so far: some lines were passed
pub record Serving
    (s : SessionState) (events : List Event) (input before errors : Option (List ℕ)) (left : Option (List ℕ)) (p : Place)
    : Type 0 where
  pub lines : List (List ℕ)
  pub are_lines : AllByRecursion (Lacks 10) lines
  pub are_passed : AllByRecursion IsPassed lines
  pub are_read : Consumes input left (text_of lines)
  pub answers : List (List ℕ)
  pub does : (more others : List (List ℕ)) → DoesLines more p.session p.events others → DoesLines (lines ++ more) s events (answers ++ others)
  pub are_written : Appends before p.output (all_of answers)
  pub are_noted : TakesNotes (notes_of lines answers) errors p.errors

-- at the start
pub begins : (s : SessionState) (events : List Event) (input before errors : Option (List ℕ)) → Serving s events input before errors input (place s events before errors)
begins s events input before errors = record {
  lines = [];
  are_lines = tt;
  are_passed = tt;
  are_read = Consumes-nil input;
  answers = [];
  does = λ more others rest. rest;
  are_written = Appends-nil before;
  are_noted = (Appends-nil errors, λ is. refl);
}

parts : (a b : Bool) → true ≡ (a && not b) → (a ≡ true) × (b ≡ false)
parts true false is = (refl, refl)
parts true true is = absurd (cc)
parts false b is = absurd (cc)

unended : (ended : Bool) → false ≡ (ended && true) → ended ≡ false
unended true is = absurd (cc)
unended false is = refl

module _ (s : SessionState) (events : List Event) (input before errors left : Option (List ℕ)) (p : Place)
    (so_far : Serving s events input before errors left p) where
  abbrev bytes : List ℕ
  bytes = text_of so_far.lines

  all_lines : lines_of bytes ≡ so_far.lines
  all_lines =
      sym (ap lines_of (append-nil bytes)) ∙ lines_behind so_far.lines [] so_far.are_lines ∙ append-nil so_far.lines

  does_all : DoesLines so_far.lines s events so_far.answers
  does_all =
      subst (λ lines. DoesLines lines s events so_far.answers) (append-nil so_far.lines)
      (subst (λ answers. DoesLines (so_far.lines ++ []) s events answers) (append-nil so_far.answers) (so_far.does [] [] refl))

  -- the input is at its end
  pub rests : (l : Option (List ℕ)) (q : Place) → Rests left p l q → Ends s events (streams input l before q.output) errors q.errors
  rests l q x = record {
    bytes = bytes;
    are_read = subst (Consumes input l) (append-nil bytes) (Consumes-trans input left l bytes [] so_far.are_read x.same_input);
    last = inl (subst (AllByRecursion IsPassed) (sym all_lines) so_far.are_passed, x.at_end);
    answers = so_far.answers;
    does = subst (λ lines. DoesLines lines s events so_far.answers) (sym all_lines) does_all;
    are_written = subst (λ (r : Place). Appends before r.output (all_of so_far.answers)) (sym x.same) so_far.are_written;
    are_noted =
        subst (λ (r : Place). TakesNotes (notes_of (lines_of bytes) so_far.answers) errors r.errors) (sym x.same)
        (subst (λ lines. TakesNotes (notes_of lines so_far.answers) errors p.errors) (sym all_lines) so_far.are_noted);
  }

  -- one more line
  module _ (l : Option (List ℕ)) (q : Place) (ended : Bool) (line : List ℕ) (lacks : Lacks 10 line)
      (consumes : Consumes left l (bytes_of ended line)) (last : ended ≡ false → (0 < length line) × IsAtEnd l) where
    here : lines_of (bytes_of ended line) ≡ line ∷ []
    here = one_line ended line lacks (λ is. (last is).0)

    read_here : Consumes input l (bytes ++ bytes_of ended line)
    read_here = Consumes-trans input left l bytes (bytes_of ended line) so_far.are_read consumes

    lines_here : lines_of (bytes ++ bytes_of ended line) ≡ so_far.lines ++ line ∷ []
    lines_here = lines_behind so_far.lines (bytes_of ended line) so_far.are_lines ∙ ap (λ ls. so_far.lines ++ ls) here

    does_here : (printed : List ℕ) → Does (asked_by (spaced line)) (spaced line) p.session p.events q.session q.events printed →
        DoesLines (so_far.lines ++ line ∷ []) s events (so_far.answers ++ printed ∷ [])
    does_here printed does = so_far.does (line ∷ []) (printed ∷ []) (q.session, q.events, printed, [], refl, does, refl)

    written_here : (printed : List ℕ) → Appends p.output q.output printed → Appends before q.output (all_of so_far.answers ++ printed)
    written_here printed written = Appends-trans before p.output q.output (all_of so_far.answers) printed so_far.are_written written

    written_all : (printed : List ℕ) → Appends p.output q.output printed → Appends before q.output (all_of (so_far.answers ++ printed ∷ []))
    written_all printed written = subst (Appends before q.output) (sym (all_more_of so_far.answers printed)) (written_here printed written)

    noted_all : (printed : List ℕ) → TakesNotes (note_of (spaced line) printed) p.errors q.errors →
        TakesNotes (notes_of (so_far.lines ++ line ∷ []) (so_far.answers ++ printed ∷ [])) errors q.errors
    noted_all printed noted =
        let note = note_of (spaced line) printed in
        let all = notes_behind so_far.lines so_far.answers (line ∷ []) (printed ∷ []) s events does_all ∙ ap (λ n. notes_of so_far.lines so_far.answers ++ n) (append-nil note) in
        subst (λ n. TakesNotes n errors q.errors) (sym all) (takes_both (notes_of so_far.lines so_far.answers) note errors p.errors q.errors so_far.are_noted noted)

    -- the session goes on
    goes_on : ended ≡ true → bytes_eq (spaced line) (codes "quit") ≡ false → Answers (spaced line) p q Appends TakesNotes → Serving s events input before errors l q
    goes_on is other x = record {
      lines = so_far.lines ++ line ∷ [];
      are_lines = all_more (Lacks 10) so_far.lines line so_far.are_lines lacks;
      are_passed =
          all_more IsPassed so_far.lines line so_far.are_passed
          (x.utf8, λ same. let bad : false ≡ true = sym other ∙ (bytes_eq-Decides (spaced line) (codes "quit")).1 same in absurd (cc));
      are_read =
          subst (Consumes input l) (sym (text_more so_far.lines line))
          (subst (λ e. Consumes input l (bytes ++ bytes_of e line)) is read_here);
      answers = so_far.answers ++ x.printed ∷ [];
      does = λ more others rest.
          subst (λ lines. DoesLines lines s events ((so_far.answers ++ x.printed ∷ []) ++ others)) (sym (append_assoc so_far.lines (line ∷ []) more))
          (subst (λ answers. DoesLines (so_far.lines ++ line ∷ more) s events answers) (sym (append_assoc so_far.answers (x.printed ∷ []) others))
          (so_far.does (line ∷ more) (x.printed ∷ others) (q.session, q.events, x.printed, others, refl, x.does, rest)));
      are_written = written_all x.printed x.written;
      are_noted = noted_all x.printed x.noted;
    }

    -- it ends
    last_here : (quits : Bool) → bytes_eq (spaced line) (codes "quit") ≡ quits → IsText (spaced line) → false ≡ (ended && not quits) →
        IsLast (lines_of (bytes ++ bytes_of ended line)) l
    last_here true is utf8 ends =
        inr (so_far.lines, line, so_far.are_passed, (bytes_eq-Decides (spaced line) (codes "quit")).0 is, lines_here)
    last_here false is utf8 ends =
        let passed : IsPassed line = (utf8, λ same. let bad : false ≡ true = sym is ∙ (bytes_eq-Decides (spaced line) (codes "quit")).1 same in absurd (cc)) in
        inl (subst (AllByRecursion IsPassed) (sym lines_here) (all_more IsPassed so_far.lines line so_far.are_passed passed), (last (unended ended ends)).1)

    ends_here : false ≡ (ended && not (bytes_eq (spaced line) (codes "quit"))) → Answers (spaced line) p q Appends TakesNotes → Ends s events (streams input l before q.output) errors q.errors
    ends_here is x = record {
      bytes = bytes ++ bytes_of ended line;
      are_read = read_here;
      last = last_here (bytes_eq (spaced line) (codes "quit")) refl x.utf8 is;
      answers = so_far.answers ++ x.printed ∷ [];
      does = subst (λ lines. DoesLines lines s events (so_far.answers ++ x.printed ∷ [])) (sym lines_here) (does_here x.printed x.does);
      are_written = written_all x.printed x.written;
      are_noted = subst (λ lines. TakesNotes (notes_of lines (so_far.answers ++ x.printed ∷ [])) errors q.errors) (sym lines_here) (noted_all x.printed x.noted);
    }

    -- it breaks
    breaks_here : (fault : Fault) → IsBehind fault (bytes_of ended line) →
        IsWritten fault s events so_far.lines (bytes_of ended line) so_far.answers (streams input l before q.output) errors q.errors →
        Breaks s events (streams input l before q.output) errors q.errors fault
    breaks_here fault behind written = record {
      passed = so_far.lines;
      are_lines = so_far.are_lines;
      are_passed = so_far.are_passed;
      part = bytes_of ended line;
      is_behind = behind;
      are_read = read_here;
      answers = so_far.answers;
      does = does_all;
      is_written = written;
    }

    unwritten : q.output ≡ p.output → Appends before q.output (all_of so_far.answers)
    unwritten same = subst (λ output. Appends before output (all_of so_far.answers)) (sym same) so_far.are_written

    unnoted : q.errors ≡ p.errors → TakesNotes (notes_of so_far.lines so_far.answers) errors q.errors
    unnoted same = subst (TakesNotes (notes_of so_far.lines so_far.answers) errors) (sym same) so_far.are_noted

    does_part : (printed : List ℕ) → Does (asked_by (spaced line)) (spaced line) p.session p.events q.session q.events printed →
        DoesLines (so_far.lines ++ lines_of (bytes_of ended line)) s events (so_far.answers ++ printed ∷ [])
    does_part printed does =
        subst (λ ls. DoesLines (so_far.lines ++ ls) s events (so_far.answers ++ printed ∷ [])) (sym here) (does_here printed does)

    notes_here : (printed : List ℕ) → notes_of (lines_of (bytes_of ended line)) (printed ∷ []) ≡ note_of (spaced line) printed
    notes_here printed = ap (λ ls. notes_of ls (printed ∷ [])) here ∙ append-nil (note_of (spaced line) printed)

    output_fails : Answers (spaced line) p q AppendsSome TakesNone ⊎ Answers (spaced line) p q Appends TakesSome →
        Breaks s events (streams input l before q.output) errors q.errors Output
    output_fails (inl x) =
        breaks_here Output (line, here, x.utf8) (
          x.printed,
          does_part x.printed x.does,
          inl (
            (x.written.0, Appends-trans before p.output q.output (all_of so_far.answers) (take x.written.0 x.printed) so_far.are_written x.written.1),
            unnoted x.noted,
          ),
        )
    output_fails (inr x) =
        let notes = notes_of so_far.lines so_far.answers in
        let P : List ℕ → Type 0 = λ note. Appends errors q.errors (notes ++ take x.noted.0 note) in
        breaks_here Output (line, here, x.utf8) (
          x.printed,
          does_part x.printed x.does,
          inr (
            written_here x.printed x.written,
            (
              x.noted.0,
              subst P (sym (notes_here x.printed))
                  (Appends-trans errors p.errors q.errors notes (take x.noted.0 (note_of (spaced line) x.printed)) so_far.are_noted.0 x.noted.1),
            ),
          ),
        )

    fails_here : (fault : Fault) → FailsTurn fault (spaced line) p q → Breaks s events (streams input l before q.output) errors q.errors fault
    fails_here (Input NotUtf8) x = breaks_here (Input NotUtf8) (line, here, x.0) (unwritten x.1, unnoted x.2)
    fails_here Output x = output_fails x
    fails_here Memory x = absurd x
    fails_here (Input Failed) x = absurd x
    fails_here (Input TooLong) x = absurd x
    fails_here (File name why) x = absurd x
    fails_here (Schedule n) x = absurd x
    fails_here (Log n) x = absurd x
    fails_here (Watches n) x = absurd x
    fails_here (Watch k) x = absurd x
    fails_here (Never word) x = absurd x
    fails_here (Touches word) x = absurd x
    fails_here (After k why) x = absurd x
    fails_here (Threads cause) x = absurd x
    fails_here Conf x = absurd x
    fails_here (Image e) x = absurd x
    fails_here Word x = absurd x
    fails_here LogMachine x = absurd x
    fails_here LogImage x = absurd x
    fails_here (Source e) x = absurd x

  -- a line wasn't read to its end
  abbrev WrittenSoFar : Place → Type 0
  WrittenSoFar q = Appends before q.output (all_of so_far.answers) × TakesNotes (notes_of so_far.lines so_far.answers) errors q.errors

  cut : (l : Option (List ℕ)) (q : Place) (fault : Fault) (part : List ℕ) → Consumes left l part → q.output ≡ p.output → q.errors ≡ p.errors →
      IsBehind fault part → (WrittenSoFar q → IsWritten fault s events so_far.lines part so_far.answers (streams input l before q.output) errors q.errors) →
      Breaks s events (streams input l before q.output) errors q.errors fault
  cut l q fault part consumes same quiet behind written = record {
    passed = so_far.lines;
    are_lines = so_far.are_lines;
    are_passed = so_far.are_passed;
    part = part;
    is_behind = behind;
    are_read = Consumes-trans input left l bytes part so_far.are_read consumes;
    answers = so_far.answers;
    does = does_all;
    is_written = written (
      subst (λ output. Appends before output (all_of so_far.answers)) (sym same) so_far.are_written,
      subst (TakesNotes (notes_of so_far.lines so_far.answers) errors) (sym quiet) so_far.are_noted,
    );
  }

  unfinished : (l : Option (List ℕ)) (q : Place) (fault : Fault) (part : List ℕ) → Lacks 10 part → Consumes left l part → IsUnread fault part → q.output ≡ p.output → q.errors ≡ p.errors →
      Breaks s events (streams input l before q.output) errors q.errors fault
  unfinished l q (Input Failed) part lacks consumes x same quiet = cut l q (Input Failed) part consumes same quiet lacks (λ w. w)
  unfinished l q (Input TooLong) part lacks consumes x same quiet = cut l q (Input TooLong) part consumes same quiet (lacks, x) (λ w. w)
  unfinished l q Memory part lacks consumes x same quiet = cut l q Memory part consumes same quiet lacks (λ w. w)
  unfinished l q (Input NotUtf8) part lacks consumes x same quiet = absurd x
  unfinished l q Output part lacks consumes x same quiet = absurd x
  unfinished l q (File name why) part lacks consumes x same quiet = absurd x
  unfinished l q (Schedule n) part lacks consumes x same quiet = absurd x
  unfinished l q (Log n) part lacks consumes x same quiet = absurd x
  unfinished l q (Watches n) part lacks consumes x same quiet = absurd x
  unfinished l q (Watch k) part lacks consumes x same quiet = absurd x
  unfinished l q (Never word) part lacks consumes x same quiet = absurd x
  unfinished l q (Touches word) part lacks consumes x same quiet = absurd x
  unfinished l q (After k why) part lacks consumes x same quiet = absurd x
  unfinished l q (Threads cause) part lacks consumes x same quiet = absurd x
  unfinished l q Conf part lacks consumes x same quiet = absurd x
  unfinished l q (Image e) part lacks consumes x same quiet = absurd x
  unfinished l q Word part lacks consumes x same quiet = absurd x
  unfinished l q LogMachine part lacks consumes x same quiet = absurd x
  unfinished l q LogImage part lacks consumes x same quiet = absurd x
  unfinished l q (Source e) part lacks consumes x same quiet = absurd x

  -- after a turn
  pub turned : (l : Option (List ℕ)) (q : Place) → Turns left p (Ok true) l q → Serving s events input before errors l q
  turned l q (inl x) = let bad : true ≡ false = x.1 in absurd (cc)
  turned l q (inr x) =
      let both = parts x.ended (bytes_eq (spaced x.line) (codes "quit")) x.turn.1 in
      goes_on l q x.ended x.line x.reads.0 x.reads.1 x.reads.2 both.0 both.1 x.turn.0

  pub stopped : (l : Option (List ℕ)) (q : Place) → Turns left p (Ok false) l q → Ends s events (streams input l before q.output) errors q.errors
  stopped l q (inl x) = rests l q x.0
  stopped l q (inr x) = ends_here l q x.ended x.line x.reads.0 x.reads.1 x.reads.2 x.turn.1 x.turn.0

  pub failed : (l : Option (List ℕ)) (q : Place) (fault : Fault) → Turns left p (Err fault) l q → Breaks s events (streams input l before q.output) errors q.errors fault
  failed l q fault (inl x) = unfinished l q fault x.0.0 x.0.1 x.0.2 x.0.3 x.1 x.2
  failed l q fault (inr x) = fails_here l q x.ended x.line x.reads.0 x.reads.1 x.reads.2 fault x.turn

  -- after as many lines as can be counted
  pub exhausted : Breaks s events (streams input left before p.output) errors p.errors (Input Failed)
  exhausted = cut left p (Input Failed) [] (Consumes-nil left) refl refl (λ i below. absurd (omega (arith, below))) (λ w. w)
