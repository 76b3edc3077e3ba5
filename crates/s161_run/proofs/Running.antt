use Rattle.std.proofs.Common.{◌≡◌, ◌∙◌, refl, sym, ap, subst, ℕ, ◌+◌, ◌<◌, ◌≤◌, Bool, true, false, List, [], ◌∷◌, ◌++◌, length, take, drop, Option, None, Some, ◌⊎◌, inl, inr, append-nil, append_assoc, arith}
use Rattle.std.proofs.lemmas.List.{length-append, take-append-drop}
use Rattle.std.proofs.Math.Seq.{drop-append_seam, take-append_seam}
use Rattle.std.proofs.KnownBytes.{Appends-nil, Appends-trans, Consumes-nil, Consumes-trans}
use Rattle.std.specs.Prelude.{IfSome, if◌then◌else◌, slice_get, unwrap_or}
use Rattle.std.specs.Io.KnownBytes.{Appends, Consumes, IsAtEnd}
use Rattle.m161_machine.specs.declared.event.Event.{Event}
use Rattle.m161_machine.specs.State.{State}
use Rattle.m161_drive.specs.declared.cursor.Cursor.{Cursor}
use Rattle.m161_drive.specs.declared.run.Stop.{Stop}
use Rattle.m161_drive.specs.declared.run.Stop.TheVariants.{Off, End, Stuck, Refused}
use Rattle.m161_drive.specs.Choice.{chosen, chosen_with, cursor_at, taken, wants_key}
use Rattle.m161_drive.specs.Drive.{Goes, Rests, Stops}
use Rattle.m161_drive.specs.Policy.{Rules}
use Rattle.m161_drive.proofs.Driving.{Driving, driving_more, driving_none}
use Rattle.s161_base.specs.declared.fault.Fault.{Fault}
use Rattle.s161_command.specs.declared.drive.Drive.{Drive}
use Rattle.s161_run.specs.Driven.{rules_of}
use Rattle.s161_run.specs.Consoles.{InputFails, Fails, OutputFails, Serves, keys_taken}
use Rattle.s161_base.specs.Streams.{streams}
use Rattle.s161_run.specs.helpers.Consoles.{FailsToRead, FailsToWrite, GivesKey, IsOff, Makes, Place, TakesTurn, last_stop, place, sent_since}
use Rattle.s161_run.proofs.Choosing.{as_list, counts, same_choice, unread}
use Rattle.s161_run.proofs.Sending.{Sends, event_sends}

-- Runs at a terminal.

-- a run so far, of whose entries nothing is noted
abbrev pub Drove : Rules → State → ℕ → Cursor → State → Type 0
Drove rules s made c t = Driving {A = Unit {0}} (λ room notes so_far. Unit {0}) rules s tt made c t tt

-- a run so far: it is the run of the keys that were read and any more, or no more once the input has
-- ended
pub record Serving
    (options : Drive) (m : State) (input before : Option (List ℕ)) (made : ℕ) (p : Place)
    : Type 0 where
  pub keys : List ℕ
  pub are_typed : length keys ≡ p.cursor.typed
  pub few : length keys ≤ made
  pub are_read : Consumes input p.left keys
  pub at_end : p.ended ≡ true → IsAtEnd p.left
  pub are_written : Appends before p.output p.state.board.console.output
  pub run : (more : List ℕ) → (p.ended ≡ true → more ≡ []) →
      Drove (rules_of options (keys ++ more)) m made p.cursor p.state

-- what a turn reads
reads_if : (wants ended e : Bool) (left l : Option (List ℕ)) (key : Option ℕ) → GivesKey wants ended left key e l →
    Consumes left l (as_list key)
reads_if false ended e left l None g = subst (λ x. Consumes left x []) (sym g.2) (Consumes-nil left)
reads_if false ended e left l (Some byte) g = let bad : ◌≡◌ {A = Option ℕ} (Some byte) None = g.0 in absurd cc
reads_if true ended e left l None g = g.2
reads_if true ended e left l (Some byte) g = g.2

ends_if : (wants ended e : Bool) (left l : Option (List ℕ)) (key : Option ℕ) → GivesKey wants ended left key e l →
    (ended ≡ true → IsAtEnd left) → e ≡ true → IsAtEnd l
ends_if false ended e left l key g h is = subst IsAtEnd (sym g.2) (h (sym g.1 ∙ is))
ends_if true ended e left l None g h is = g.1
ends_if true ended e left l (Some byte) g h is = let bad : false ≡ true = sym g.1 ∙ is in absurd cc

-- after the input's end no key comes
none_if : (wants ended e : Bool) (left l : Option (List ℕ)) (key : Option ℕ) (more : List ℕ) → GivesKey wants ended left key e l →
    (e ≡ true → more ≡ []) → ended ≡ true → as_list key ++ more ≡ []
none_if false ended e left l None more g h is = h (g.1 ∙ is)
none_if false ended e left l (Some byte) more g h is = let bad : ◌≡◌ {A = Option ℕ} (Some byte) None = g.0 in absurd cc
none_if true ended e left l None more g h is = h g.0
none_if true ended e left l (Some byte) more g h is = let bad : false ≡ true = sym g.0 ∙ is in absurd cc

one_at_most : (key : Option ℕ) → length (as_list key) ≤ 1
one_at_most None = omega arith
one_at_most (Some byte) = omega arith

-- the keys that are left, as far as they are known
abbrev rest : Option (List ℕ) → List ℕ
rest left = unwrap_or left []

abbrev all_known : (input left : Option (List ℕ)) (keys : List ℕ) → Consumes input left keys → IfSome input (λ bytes. keys ++ rest left ≡ bytes)
all_known None left keys h = tt
all_known (Some xs) None keys h = absurd h
all_known (Some xs) (Some ys) keys h = sym h

none_left : (left : Option (List ℕ)) → IsAtEnd left → rest left ≡ []
none_left None h = refl
none_left (Some xs) h = h

-- a run that stops
abbrev pub serves : (options : Drive) (m k : State) (input left before after : Option (List ℕ)) (n made : ℕ) (c : Cursor) (stop : Stop)
    (keys written unwritten : List ℕ) → Consumes input left keys → made ≤ n →
    Drove (rules_of options (keys ++ rest left)) m made c k →
    Stops (rules_of options (keys ++ rest left)) n made c k stop →
    keys_taken (rules_of options (keys ++ rest left)) c k stop ≡ length keys →
    k.board.console.output ≡ written ++ unwritten → Appends before after written →
    Serves options n m (streams input left before after) (record { made = made; stop = stop }) k unwritten
serves options m k input left before after n made c stop keys written unwritten read few driving stops count sent writes = record {
  keys = keys ++ rest left;
  are_keys = all_known input left keys read;
  entries = driving.entries;
  drives = record {
    cursor = c;
    made_is = driving.made_is;
    few = few;
    chosen_are = driving.chosen_are;
    stops = stops;
  };
  are_read =
      subst (Consumes input left) (sym (ap (λ i. take i (keys ++ rest left)) count ∙ take-append_seam keys (rest left))) read;
  written = written;
  are_sent = sent;
  are_written = writes;
}

last_stops : (rules : Rules) (n : ℕ) (c : Cursor) (s : State) (off : Bool) → s.board.off ≡ off → Stops rules n n c s (if off then Off else End)
last_stops rules n c s true h = h
last_stops rules n c s false h = (h, refl)

last_count : (rules : Rules) (c : Cursor) (s : State) (off : Bool) → keys_taken rules c s (if off then Off else End) ≡ c.typed
last_count rules c s true = refl
last_count rules c s false = refl

module _ (options : Drive) (m : State) (input before : Option (List ℕ)) (made : ℕ) (p : Place)
    (so_far : Serving options m input before made p) where
  abbrev output_so_far : List ℕ
  output_so_far = p.state.board.console.output

  module _ (key : Option ℕ) (ended : Bool) (left : Option (List ℕ))
      (gives : GivesKey (wants_key (rules_of options []) p.cursor p.state) p.ended p.left key ended left) where
    abbrev pub keys_then : List ℕ
    keys_then = so_far.keys ++ as_list key

    read_then : Consumes input left keys_then
    read_then = Consumes-trans input p.left left so_far.keys (as_list key) so_far.are_read (reads_if _ p.ended ended p.left left key gives)

    end_then : ended ≡ true → IsAtEnd left
    end_then = ends_if _ p.ended ended p.left left key gives so_far.at_end

    few_then : length keys_then ≤ made + 1
    few_then =
        let one = one_at_most key in let few = so_far.few in omega (arith, length-append so_far.keys (as_list key), one, few)

    -- the run so far is that of the new keys too
    driven_then : (more : List ℕ) → (ended ≡ true → more ≡ []) →
        Drove (rules_of options (keys_then ++ more)) m made p.cursor p.state
    driven_then more h =
        subst (λ keys. Drove (rules_of options keys) m made p.cursor p.state) (sym (append_assoc so_far.keys (as_list key) more))
        (so_far.run (as_list key ++ more) (none_if _ p.ended ended p.left left key more gives h))

    -- and what is chosen is what the policy with these keys chooses
    choice_then : (more : List ℕ) → (ended ≡ true → more ≡ []) →
        chosen (rules_of options (keys_then ++ more)) p.cursor p.state ≡ chosen_with (rules_of options []) key p.cursor p.state
    choice_then more h =
        same_choice options p.cursor p.state so_far.keys so_far.are_typed p.ended ended p.left left key more gives h

    count_then : (chosen_with (rules_of options []) key p.cursor p.state).1.typed ≡ length keys_then
    count_then = counts options p.cursor p.state so_far.keys so_far.are_typed p.ended ended p.left left key gives

    -- where the choice is none, or is refused
    stops_then : (n : ℕ) (stop : Stop) → made < n → p.state.board.off ≡ false →
        Rests (rules_of options []) key p.cursor p.state stop →
        Serves options n m (streams input left before p.output) (record { made = made; stop = stop }) p.state []
    stops_then n Off less on h = absurd (let bad : false ≡ true = sym on ∙ h in cc)
    stops_then n End less on h = absurd h
    stops_then n Stuck less on h =
        let same = choice_then (rest left) (λ is. none_left left (end_then is)) in
        let none = unread options p.cursor p.state so_far.keys so_far.are_typed p.ended ended p.left left key gives h.1 in
        serves options m p.state input left before p.output n made p.cursor Stuck keys_then output_so_far [] read_then (omega arith)
        (driven_then (rest left) (λ is. none_left left (end_then is)))
        (less, (on, ap (λ (x : Option Event × Cursor). x.0) same ∙ h.1))
        (sym so_far.are_typed ∙ ap length (sym (append-nil so_far.keys)) ∙ ap (λ k. length (so_far.keys ++ as_list k)) (sym none))
        (sym (append-nil output_so_far)) so_far.are_written
    stops_then n (Refused refusal) less on h =
        let same = choice_then (rest left) (λ is. none_left left (end_then is)) in
        serves options m p.state input left before p.output n made p.cursor (Refused refusal) keys_then output_so_far [] read_then (omega arith)
        (driven_then (rest left) (λ is. none_left left (end_then is)))
        (less, (on, (h.1.0, ap (λ (x : Option Event × Cursor). x.0) same ∙ h.1.1, h.1.2)))
        (ap (λ (x : Option Event × Cursor). x.1.typed) same ∙ count_then)
        (sym (append-nil output_so_far)) so_far.are_written

    -- one event more
    module _ (d : Cursor) (k : State) (on : p.state.board.off ≡ false)
        (makes : Makes (rules_of options []) key p.cursor p.state d k) where
      run_more : (more : List ℕ) → (ended ≡ true → more ≡ []) →
          Drove (rules_of options (keys_then ++ more)) m (made + 1) d k
      run_more more h =
          let same = choice_then more h in
          let rules = rules_of options (keys_then ++ more) in
          let e = makes.0 in
          let goes = makes.1 in
          let next_one : Goes rules (slice_get rules.keys p.cursor.typed) p.cursor p.state e d k = record {
            is_on = goes.is_on;
            choice_is = ap (λ (x : Option Event × Cursor). x.0) same ∙ goes.choice_is;
            accepted = goes.accepted;
            cursor_is = goes.cursor_is ∙ sym (ap (λ (x : Option Event × Cursor). taken e.event k x.1) same);
          } in
          driving_more {A = Unit {0}} (λ room notes so_far. Unit {0}) rules m p.state k tt tt tt made 1 p.cursor d (e ∷ []) (driven_then more h) refl
          (d, k, next_one, (refl, refl)) (λ room so_far h. tt)

      typed_more : length keys_then ≡ d.typed
      typed_more = sym (ap (λ (x : Cursor). x.typed) makes.1.cursor_is ∙ count_then)

      -- what the console sent by it
      sends : Sends p.state k
      sends = event_sends p.state k makes.0.event makes.0.outcome makes.1.accepted

      since : sent_since p.state k ≡ sends.bytes
      since = ap (drop (length output_so_far)) sends.grown ∙ drop-append_seam output_so_far sends.bytes

      goes_on : (output : Option (List ℕ)) → Appends p.output output (sent_since p.state k) →
          Serving options m input before (made + 1) (record { cursor = d; state = k; ended = ended; left = left; output = output })
      goes_on output h =
          let all : Appends before output (output_so_far ++ sends.bytes) =
          Appends-trans before p.output output output_so_far sends.bytes so_far.are_written (subst (Appends p.output output) since h) in
          record {
            keys = keys_then;
            are_typed = typed_more;
            few = few_then;
            are_read = read_then;
            at_end = end_then;
            are_written = subst (Appends before output) (sym sends.grown) all;
            run = run_more;
          }

      -- the output fails then
      output_fails : (output : Option (List ℕ)) (i : ℕ) → Appends p.output output (take i (sent_since p.state k)) → made < options.events →
          OutputFails options m (streams input left before output)
      output_fails output i h less =
          let first = take i sends.bytes in
          let others = drop i sends.bytes in
          let part : Appends p.output output first = subst (λ bytes. Appends p.output output (take i bytes)) since h in
          let whole : k.board.console.output ≡ (output_so_far ++ first) ++ others =
          sends.grown ∙ ap (λ bytes. output_so_far ++ bytes) (sym (take-append-drop i sends.bytes)) ∙ sym (append_assoc output_so_far first others) in
          let long : length first + length others ≡ length sends.bytes =
          sym (length-append first others) ∙ ap length (take-append-drop i sends.bytes) in
          let most : length sends.bytes ≤ 1 = sends.at_most_one in
          record {
            n = made + 1;
            few = omega (arith, less);
            driven = record { made = made + 1; stop = last_stop k };
            unwritten = others;
            state = k;
            serves =
                serves options m k input left before output (made + 1) (made + 1) d (last_stop k) keys_then (output_so_far ++ first) others read_then (omega arith)
                (run_more (rest left) (λ is. none_left left (end_then is)))
                (last_stops (rules_of options (keys_then ++ rest left)) (made + 1) d k k.board.off refl)
                (last_count (rules_of options (keys_then ++ rest left)) d k k.board.off ∙ sym typed_more)
                whole
                (Appends-trans before p.output output output_so_far first so_far.are_written part);
            at_most_one = omega (arith, long, most);
          }

  -- the run stops without a choice
  stops_here : (n : ℕ) (stop : Stop) → made ≤ n → Stops (rules_of options (so_far.keys ++ rest p.left)) n made p.cursor p.state stop →
      keys_taken (rules_of options (so_far.keys ++ rest p.left)) p.cursor p.state stop ≡ p.cursor.typed →
      Serves options n m (streams input p.left before p.output) (record { made = made; stop = stop }) p.state []
  stops_here n stop few stops count =
      serves options m p.state input p.left before p.output n made p.cursor stop so_far.keys output_so_far [] so_far.are_read few
      (so_far.run (rest p.left) (λ is. none_left p.left (so_far.at_end is))) stops (count ∙ sym so_far.are_typed)
      (sym (append-nil output_so_far)) so_far.are_written

  -- after the last event
  pub at_last : made ≡ options.events →
      Serves options options.events m (streams input p.left before p.output) (record { made = options.events; stop = last_stop p.state }) p.state []
  at_last all =
      let rules = rules_of options (so_far.keys ++ rest p.left) in
      let P : ℕ → Type 0 = λ n. Serves options n m (streams input p.left before p.output) (record { made = n; stop = last_stop p.state }) p.state [] in
      subst P all
      (stops_here made (last_stop p.state) (omega arith)
      (last_stops rules made p.cursor p.state p.state.board.off refl)
      (last_count rules p.cursor p.state p.state.board.off))

  -- after a turn
  pub turned : (q : Place) → made < options.events →
      IsOff p None q ⊎ TakesTurn (rules_of options []) p None q → Serving options m input before (made + 1) q
  turned q less (inl off) = let bad : ◌≡◌ {A = Option Stop} None (Some Off) = off.1 in absurd cc
  turned q less (inr x) = goes_on x.key q.ended q.left x.gives q.cursor q.state x.is_on x.turn.0 q.output x.turn.1

  pub stopped : (q : Place) (stop : Stop) → made < options.events →
      IsOff p (Some stop) q ⊎ TakesTurn (rules_of options []) p (Some stop) q →
      Serves options options.events m (streams input q.left before q.output) (record { made = made; stop = stop }) q.state []
  stopped q stop less (inl off) =
      let e : ◌≡◌ {A = Option Stop} (Some stop) (Some Off) = off.1 in
      let same : stop ≡ Off = cc in
      rw (off.2, off.3, off.4, same) (stops_here options.events Off (omega (arith, less)) off.0 refl)
  stopped q stop less (inr x) =
      let here = stops_then x.key q.ended q.left x.gives options.events stop less x.is_on x.turn.0 in
      subst (λ k. Serves options options.events m (streams input q.left before q.output) (record { made = made; stop = stop }) k []) (sym x.turn.1)
      (subst (λ output. Serves options options.events m (streams input q.left before output) (record { made = made; stop = stop }) p.state []) (sym x.turn.2) here)

  -- after a fault
  input_fails : (q : Place) → made < options.events → p.state.board.off ≡ false →
      wants_key (rules_of options []) p.cursor p.state ≡ true → p.ended ≡ false → Consumes p.left q.left [] → q.output ≡ p.output →
      InputFails options m (streams input q.left before q.output)
  input_fails q less on wanted unended same output =
      let read : Consumes input q.left so_far.keys =
      subst (Consumes input q.left) (append-nil so_far.keys) (Consumes-trans input p.left q.left so_far.keys [] so_far.are_read same) in
      record {
        n = made;
        few = omega (arith, less);
        driven = record { made = made; stop = End };
        state = p.state;
        serves =
            serves options m p.state input q.left before q.output made made p.cursor End so_far.keys output_so_far [] read (omega arith)
            (so_far.run (rest q.left) (λ is. absurd (let bad : false ≡ true = sym unended ∙ is in cc)))
            (on, refl) (sym so_far.are_typed) (sym (append-nil output_so_far))
            (subst (λ output. Appends before output output_so_far) (sym output) so_far.are_written);
        is_wanted = wanted;
      }

  pub failed : (q : Place) (f : Fault) → made < options.events →
      FailsToRead (rules_of options []) p f q ⊎ FailsToWrite (rules_of options []) p f q →
      Fails options m (streams input q.left before q.output) f
  failed q f less (inl x) =
      subst (Fails options m (streams input q.left before q.output)) (sym x.0)
      (refl, input_fails q less x.1 x.2 x.3 x.4 x.5)
  failed q f less (inr x) =
      subst (Fails options m (streams input q.left before q.output)) (sym x.fault_is)
      (output_fails x.key q.ended q.left x.gives q.cursor q.state x.is_on x.makes q.output x.appends.0 x.appends.1 less)

-- at the start
pub begins : (options : Drive) (m : State) (input before : Option (List ℕ)) (c : Cursor) →
    m.board.console.output ≡ [] → c ≡ cursor_at (rules_of options []) m →
    Serving options m input before 0 (place c m false input before)
begins options m input before c silent fresh = record {
  keys = [];
  are_typed = sym (ap (λ (x : Cursor). x.typed) fresh);
  few = omega arith;
  are_read = Consumes-nil input;
  at_end = λ is. absurd (let bad : false ≡ true = is in cc);
  are_written = subst (Appends before before) (sym silent) (Appends-nil before);
  run = λ more h. driving_none {A = Unit {0}} (λ room notes so_far. Unit {0}) (rules_of options more) m tt c fresh;
}
