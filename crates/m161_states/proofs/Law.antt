use Rattle.std.proofs.Common.{◌≡◌, ◌∙◌, refl, ap, sym, subst, ℕ, Bool, true, false, [], ◌∷◌, length, Option, None, Some, Result, Ok, Err, ◌⊎◌, inl, inr}
use Rattle.std.specs.Prelude.{◌==◌, ◌&&◌, ◌||◌, not, nat_le, nat_lt, is_some, slice_get, option_map, if◌then◌else◌}
use Rattle.std.specs.List.{list_any, range_with_len}
use Rattle.std.specs.Option.{option_or}
use Rattle.m161_isa.specs.Choice.{first_answer}
use Rattle.m161_cpu.specs.declared.processor.Outcome.{Outcome}
use Rattle.m161_cpu.specs.declared.uses.Uses.{Uses}
use Rattle.m161_cpu.specs.declared.uses.Via.{Via}
use Rattle.m161_cpu.specs.Processor.{Processor}
use Rattle.m161_machine.specs.declared.event.Event.{Event}
use Rattle.m161_machine.specs.declared.event.Event.TheVariants.{Step, Key, Done}
use Rattle.m161_machine.specs.declared.event.Refusal.{Refusal}
use Rattle.m161_machine.specs.declared.event.Refusal.TheVariants.{BadProcessor, Off, Worn}
use Rattle.m161_machine.specs.State.{State, answer, is_worn, next as result_of, processor_at, refusal, unless, word_in}
use Rattle.m161_machine.specs.Fetched.{fetched}
use Rattle.m161_machine.specs.Uses.{uses_in}
use Rattle.m161_drive.specs.Ready.{is_asleep, some_ready, some_ticking}
use Rattle.m161_alike.specs.declared.known.Known.{Known}
use Rattle.m161_alike.specs.declared.reads.Reads.{Reads}
use Rattle.m161_alike.specs.Reads.{AreWithin, no_reads, reads_in}
use Rattle.m161_alike.specs.View.{AreAlike, known_of}
use Rattle.m161_alike.specs.Law.{AlikeLaw, AnswersAlike, BehaveAlike, LookAlike, ReadsWithin, UsesAlike, sent_by}
use Rattle.m161_alike.specs.WordsLaw.{ViewLaw}
use Rattle.m161_states.specs.declared.verdict.Unknown.{Unknown}
use Rattle.m161_states.specs.declared.verdict.EventVerdict.TheVariants.{Conflict, Output, Stale, Stuck}
use Rattle.m161_states.specs.Question.{Question, processors_of}
use Rattle.m161_states.specs.System.{Explored, accepted, agreed_after, behind, event_of, flags_behind, fresh, next_by, stored_by, stored_if, stored_of, typed_after}
use Rattle.m161_states.specs.Verdicts.{has_sent, is_end, is_old_row, is_outside, is_stuck_in, judged, reached_at, reached_by, some_watch, stale_use, stale_via, stop, stop_by, unknown_by, verdict_by, wrong_in, wrong_with}
use Rattle.m161_states.specs.Views.{view}
use Rattle.m161_states.specs.Laws.{AlikeEnd, AlikeNext, AlikeStop, AlikeStored, AlikeVerdict}
use Rattle.m161_states.proofs.Seen.{Same, same_processor, same_size, shown, told}

-- States with one view behave alike.

-- events

same_event : (q : Question) (x y : Explored) (n : ℕ) → x.typed ≡ y.typed → event_of q x n ≡ event_of q y n
same_event q x y n typed =
    λ i. if nat_lt n (processors_of q) then Some (Step n)
    else if n == processors_of q then Some Done
    else option_map (λ byte. Key byte) (slice_get q.goal.keys (typed i))

-- what is read

both_off : (s t : State) (known : Known) → AreAlike known s t → s.board.off ≡ t.board.off
both_off s t known alike = ap (λ (u : State). u.board.off) alike

stops_alike : AlikeLaw → (q : Question) (x y : Explored) → Same q x y → (e : Option Event) → stop_by q x e ≡ stop_by q y e
stops_alike law q x y same None = refl
stops_alike law q x y same (Some (Step p)) =
    let off = both_off x.state y.state q.known same.alike in
    let reads = ((law q.known x.state y.state same.alike).0 p).reads in
    λ i. unknown_by (known_of q.known p) p (if off i then no_reads else reads i)
stops_alike law q x y same (Some (Key byte)) = refl
stops_alike law q x y same (Some Done) = refl

pub alike_stop : AlikeLaw → ViewLaw → AlikeStop
alike_stop law views q x y n a b e =
    let same = told views q x y a b e in
    stops_alike law q x y same (event_of q x n) ∙ ap (stop_by q y) (same_event q x y n same.typed)

-- ends

asleep_alike : AlikeLaw → (known : Known) (s t : State) → AreAlike known s t → is_asleep s ≡ is_asleep t
asleep_alike law known s t alike =
    let look : (p : ℕ) → LookAlike p s t = (law known s t alike).0 in
    let size = same_size known s t alike in
    let ready : some_ready s ≡ some_ready t =
    λ i. list_any (λ p. nat_lt p (size i) && not ((look p).rests i)) (range_with_len 0 (size i)) in
    let ticking : some_ticking s ≡ some_ticking t =
    λ i. list_any (λ p. nat_lt p (size i) && (look p).ticks i) (range_with_len 0 (size i)) in
    λ i. not (ready i || ticking i)

stuck_alike : AlikeLaw → (q : Question) (x y : Explored) → Same q x y → is_stuck_in q.goal x ≡ is_stuck_in q.goal y
stuck_alike law q x y same =
    let off = both_off x.state y.state q.known same.alike in
    let latch = ap (λ (u : State). u.board.console.latch) same.alike in
    let waiting = ap (λ (u : State). u.board.console.waiting) same.alike in
    let asleep = asleep_alike law q.known x.state y.state same.alike in
    λ i. not (off i) && not (is_some (latch i))
    && (not (nat_lt (same.typed i) (length q.goal.keys)) || nat_le 256 (length (waiting i))) && asleep i

ends_alike : AlikeLaw → (q : Question) (x y : Explored) → Same q x y → is_end q x ≡ is_end q y
ends_alike law q x y same =
    let off = both_off x.state y.state q.known same.alike in
    let stuck = stuck_alike law q x y same in
    λ i. off i || (stuck i && has_sent q.goal.output (same.agreed i))

pub alike_end : AlikeLaw → ViewLaw → AlikeEnd
alike_end law views q x y a b e = ends_alike law q x y (told views q x y a b e)

-- a state as before any event

fresh_reads : (p : ℕ) (s : State) → reads_in p (fresh s) ≡ reads_in p s
unfolding reads_in
fresh_reads p s = refl

fresh_uses : (p : ℕ) (s : State) → uses_in p (fresh s) ≡ uses_in p s
unfolding uses_in
fresh_uses p s = refl

-- an event reads what is known, or the machine is off

test_within : (a c : Bool) → (a && not c) ≡ false → a ≡ true → c ≡ true
test_within true true h e = refl
test_within true false h e = absurd (let bad : true ≡ false = h in cc)
test_within false c h e = absurd (let bad : false ≡ true = e in cc)

none_of_two : (a b : Bool) → (a || b) ≡ false → (a ≡ false) × (b ≡ false)
none_of_two false false h = (refl, refl)
none_of_two false true h = absurd (let bad : true ≡ false = h in cc)
none_of_two true b h = absurd (let bad : true ≡ false = h in cc)

outside_within : (read known : Reads) → is_outside read known ≡ false → AreWithin read known
outside_within read known h =
    let both = none_of_two (read.random && not known.random) (read.count && not known.count) h in
    (test_within read.random known.random both.0, test_within read.count known.count both.1)

not_outside : (p : ℕ) (read known : Reads) (outside : Bool) → is_outside read known ≡ outside → unknown_by known p read ≡ None → is_outside read known ≡ false
not_outside p read known false h e = h
not_outside p read known true h e = absurd (let bad : ◌≡◌ {A = Option Unknown} (Some (record { processor = p; reads = read })) None =
    subst (λ b. ◌≡◌ {A = Option Unknown} (if b then Some (record { processor = p; reads = read }) else None) None) h e in cc)

if_on : (p : ℕ) (s : State) (known : Reads) (off : Bool) → s.board.off ≡ off → unknown_by known p (if off then no_reads else reads_in p s) ≡ None →
    AreWithin (reads_in p s) known ⊎ (s.board.off ≡ true)
if_on p s known true h e = inr h
if_on p s known false h e = inl (outside_within (reads_in p s) known (not_outside p (reads_in p s) known (is_outside (reads_in p s) known) refl e))

within_or_off : (q : Question) (x : Explored) (e : Event) → stop_by q x (Some e) ≡ None →
    ReadsWithin q.known e (fresh x.state) ⊎ (x.state.board.off ≡ true)
within_or_off q x (Step p) h =
    subst (λ r. AreWithin r (known_of q.known p) ⊎ (x.state.board.off ≡ true)) (sym (fresh_reads p x.state)) (if_on p x.state (known_of q.known p) x.state.board.off refl h)
within_or_off q x (Key byte) h = inl tt
within_or_off q x Done h = inl tt

-- a machine that is off refuses each event

refused_off : (no worn : Bool) → (r : Refusal) × (first_answer ((no, BadProcessor) ∷ (true, Off) ∷ (worn, Worn) ∷ []) ≡ Some r)
refused_off true worn = (BadProcessor, refl)
refused_off false worn = (Off, refl)

refused_with : (s : State) (e : Event) (r : Refusal) → refusal s e ≡ Some r → result_of s e ≡ Err r
unfolding result_of
refused_with s e r h = ap (λ o. unless o (answer s e)) h

off_refuses : (s : State) (e : Event) → s.board.off ≡ true → (r : Refusal) × (result_of s e ≡ Err r)
off_refuses s (Step p) off =
    let first = refused_off (nat_le (length s.processors) p) (is_worn s.made) in (
      first.0,
      refused_with s (Step p) first.0
          (ap (λ o. first_answer ((nat_le (length s.processors) p, BadProcessor) ∷ (o, Off) ∷ (is_worn s.made, Worn) ∷ [])) off ∙ first.1),
    )
off_refuses s (Key byte) off = (Off, refused_with s (Key byte) Off (ap (λ o. first_answer ((o, Off) ∷ (is_worn s.made, Worn) ∷ [])) off))
off_refuses s Done off = (Off, refused_with s Done Off (ap (λ o. first_answer ((o, Off) ∷ (is_worn s.made, Worn) ∷ [])) off))

-- behind an event

same_stored : (q : Question) (x y : Explored) (e : Event) → UsesAlike e (fresh x.state) (fresh y.state) → stored_by e x.state ≡ stored_by e y.state
same_stored q x y (Step p) uses = ap (λ (u : Uses). u.stored) (sym (fresh_uses p x.state) ∙ uses.0 ∙ fresh_uses p y.state)
same_stored q x y (Key byte) uses = refl
same_stored q x y Done uses = refl

fresh_sent : (e : Event) (s : State) → sent_by e (fresh s) ≡ sent_by e s
fresh_sent (Step p) s = refl
fresh_sent (Key byte) s = refl
fresh_sent Done s = refl

same_behind : (q : Question) (x y : Explored) (e : Event) (s t : State) → Same q x y → BehaveAlike q.known e (fresh x.state) (fresh y.state) →
    AreAlike q.known s t → Same q (behind q.goal x e s) (behind q.goal y e t)
same_behind q x y e s t same behave alike =
    let stored = same_stored q x y e behave.uses in
    let sent = sym (fresh_sent e x.state) ∙ behave.sent ∙ fresh_sent e y.state in
    record {
      alike = alike;
      typed = ap (typed_after e) same.typed;
      flags = λ i. flags_behind (stored i) q.goal.watches (same.flags i);
      agreed = λ i. agreed_after q.goal.output (sent i) (same.agreed i);
    }

abbrev Follows : Question → Explored → Option Explored → Type 0
Follows q u found = (v : Explored) × (found ≡ Some v) × (view q u ≡ view q v)

same_some : (u v : Explored) → ◌≡◌ {A = Option Explored} (Some u) (Some v) → u ≡ v
same_some u v h = cc

accepted_alike : (q : Question) (x y u : Explored) (e : Event) (r o : Result (Outcome × State) Refusal) → Same q x y →
    BehaveAlike q.known e (fresh x.state) (fresh y.state) → AnswersAlike q.known r o → accepted q.goal x e r ≡ Some u → Follows q u (accepted q.goal y e o)
accepted_alike q x y u e (Ok a) (Ok b) same behave answers h =
    let is : behind q.goal x e a.1 ≡ u = same_some (behind q.goal x e a.1) u h in (
      behind q.goal y e b.1,
      refl,
      ap (view q) (sym is) ∙ shown q (behind q.goal x e a.1) (behind q.goal y e b.1) (same_behind q x y e a.1 b.1 same behave answers.1),
    )
accepted_alike q x y u e (Err r) o same behave answers h = absurd (let bad : ◌≡◌ {A = Option Explored} None (Some u) = h in cc)
accepted_alike q x y u e (Ok a) (Err o) same behave answers h = absurd answers

behaves : AlikeLaw → (q : Question) (x y : Explored) (e : Event) → Same q x y → ReadsWithin q.known e (fresh x.state) →
    BehaveAlike q.known e (fresh x.state) (fresh y.state)
behaves law q x y e same within = (law q.known (fresh x.state) (fresh y.state) same.alike).1 e within refl refl

next_alike : AlikeLaw → (q : Question) (x y u : Explored) (e : Event) → Same q x y →
    ReadsWithin q.known e (fresh x.state) ⊎ (x.state.board.off ≡ true) → next_by q.goal x (Some e) ≡ Some u → Follows q u (next_by q.goal y (Some e))
next_alike law q x y u e same (inl within) h =
    let behave = behaves law q x y e same within in
    accepted_alike q x y u e (result_of (fresh x.state) e) (result_of (fresh y.state) e) same behave behave.answers h
next_alike law q x y u e same (inr off) h =
    let refused = off_refuses (fresh x.state) e off in
    let bad : ◌≡◌ {A = Option Explored} None (Some u) = sym (ap (accepted q.goal x e) refused.1) ∙ h in
    absurd (cc)

next_event : AlikeLaw → (q : Question) (x y u : Explored) (e : Option Event) → Same q x y →
    stop_by q x e ≡ None → next_by q.goal x e ≡ Some u → Follows q u (next_by q.goal y e)
next_event law q x y u None same stop h = absurd (let bad : ◌≡◌ {A = Option Explored} None (Some u) = h in cc)
next_event law q x y u (Some e) same stop h = next_alike law q x y u e same (within_or_off q x e stop) h

pub alike_next : AlikeLaw → ViewLaw → AlikeNext
alike_next law views q x y u n a b e stop h =
    let same = told views q x y a b e in
    subst (λ f. Follows q u (next_by q.goal y f)) (same_event q x y n same.typed)
    (next_event law q x y u (event_of q x n) same stop h)

-- verdicts

same_rows : (known : Known) (s t : State) → AreAlike known s t → (p : ℕ) → (processor_at p s.processors).rows ≡ (processor_at p t.processors).rows
same_rows known s t alike p = ap (λ (r : Processor). r.rows) (same_processor known s t alike p)

same_pc : (known : Known) (s t : State) → AreAlike known s t → (p : ℕ) → (processor_at p s.processors).pc ≡ (processor_at p t.processors).pc
same_pc known s t alike p = ap (λ (r : Processor). r.pc) (same_processor known s t alike p)

via_alike : (q : Question) (x y : Explored) → Same q x y → (p : ℕ) (v : Option Via) → stale_via q.goal x p v ≡ stale_via q.goal y p v
via_alike q x y same p None = refl
via_alike q x y same p (Some v) =
    let memory : x.state.memory ≡ y.state.memory = ap (λ (u : State). u.memory) same.alike in
    let rows = same_rows q.known x.state y.state same.alike p in
    λ i. if some_watch (λ w f. (v.page == w.page) && (v.id == w.id) && f.gone_on
    && is_old_row (word_in (memory i) w.pte) (slice_get (rows i) v.row)) q.goal.watches (same.flags i)
    then Some (Stale p v.address v.row) else None

stale_alike : (q : Question) (x y : Explored) → Same q x y → (p : ℕ) → uses_in p x.state ≡ uses_in p y.state → stale_use q.goal x p ≡ stale_use q.goal y p
stale_alike q x y same p uses =
    let fetch : stale_via q.goal x p (uses_in p x.state).fetch ≡ stale_via q.goal y p (uses_in p y.state).fetch =
    via_alike q x y same p (uses_in p x.state).fetch ∙ ap (λ (u : Uses). stale_via q.goal y p u.fetch) uses in
    let access : stale_via q.goal x p (uses_in p x.state).access ≡ stale_via q.goal y p (uses_in p y.state).access =
    via_alike q x y same p (uses_in p x.state).access ∙ ap (λ (u : Uses). stale_via q.goal y p u.access) uses in
    λ i. option_or (fetch i) (access i)

reached_alike : (q : Question) (x y : Explored) → Same q x y → (p : ℕ) (o : Outcome) → fetched p x.state o ≡ fetched p y.state o →
    reached_by q.goal x p o ≡ reached_by q.goal y p o
reached_alike q x y same p o words =
    let pc = same_pc q.known x.state y.state same.alike p in
    λ i. reached_at q.goal.never p (pc i) (words i)

with_alike : (q : Question) (x y : Explored) → Same q x y → (e : Event) (o : Outcome) → UsesAlike e (fresh x.state) (fresh y.state) →
    wrong_with q.goal x e o ≡ wrong_with q.goal y e o
with_alike q x y same (Step p) o uses =
    let stale = stale_alike q x y same p (sym (fresh_uses p x.state) ∙ uses.0 ∙ fresh_uses p y.state) in
    let reached = reached_alike q x y same p o (uses.1 o) in
    λ i. option_or (stale i) (reached i)
with_alike q x y same (Key byte) o uses = refl
with_alike q x y same Done o uses = refl

in_alike : AlikeLaw → (q : Question) (x y : Explored) → Same q x y → wrong_in q.goal x ≡ wrong_in q.goal y
in_alike law q x y same =
    let off = both_off x.state y.state q.known same.alike in
    let conflict = ap (λ (u : State). u.conflict) same.alike in
    let stuck = stuck_alike law q x y same in
    λ i. option_or (if off i then option_map (λ c. Conflict c) (conflict i) else None)
    (option_or (if stuck i && not (has_sent q.goal.output (same.agreed i)) then Some Stuck else None)
    (if is_some q.goal.output && off i && not (has_sent q.goal.output (same.agreed i)) then Some Output else None))

judged_alike : AlikeLaw → (q : Question) (x y : Explored) (e : Event) (r o : Result (Outcome × State) Refusal) → Same q x y →
    BehaveAlike q.known e (fresh x.state) (fresh y.state) → AnswersAlike q.known r o → judged q.goal x e r ≡ judged q.goal y e o
judged_alike law q x y e (Ok a) (Ok b) same behave answers =
    let one = with_alike q x y same e a.0 behave.uses ∙ ap (wrong_with q.goal y e) answers.0 in
    let other = in_alike law q (behind q.goal x e a.1) (behind q.goal y e b.1) (same_behind q x y e a.1 b.1 same behave answers.1) in
    λ i. option_or (one i) (other i)
judged_alike law q x y e (Err r) (Err o) same behave answers = refl
judged_alike law q x y e (Err r) (Ok b) same behave answers = absurd answers
judged_alike law q x y e (Ok a) (Err o) same behave answers = absurd answers

verdict_alike : AlikeLaw → (q : Question) (x y : Explored) (e : Event) → Same q x y →
    ReadsWithin q.known e (fresh x.state) ⊎ (x.state.board.off ≡ true) → verdict_by q.goal x (Some e) ≡ verdict_by q.goal y (Some e)
verdict_alike law q x y e same (inl within) =
    let behave = behaves law q x y e same within in
    judged_alike law q x y e (result_of (fresh x.state) e) (result_of (fresh y.state) e) same behave behave.answers
verdict_alike law q x y e same (inr off) =
    let one = off_refuses (fresh x.state) e off in
    let other = off_refuses (fresh y.state) e (sym (both_off x.state y.state q.known same.alike) ∙ off) in
    ap (judged q.goal x e) one.1 ∙ sym (ap (judged q.goal y e) other.1)

verdict_event : AlikeLaw → (q : Question) (x y : Explored) (e : Option Event) → Same q x y → stop_by q x e ≡ None →
    verdict_by q.goal x e ≡ verdict_by q.goal y e
verdict_event law q x y None same stop = refl
verdict_event law q x y (Some e) same stop = verdict_alike law q x y e same (within_or_off q x e stop)

pub alike_verdict : AlikeLaw → ViewLaw → AlikeVerdict
alike_verdict law views q x y n a b e stop =
    let same = told views q x y a b e in
    verdict_event law q x y (event_of q x n) same stop ∙ ap (verdict_by q.goal y) (same_event q x y n same.typed)

-- stores

stored_answers : (q : Question) (x y : Explored) (e : Event) (r o : Result (Outcome × State) Refusal) →
    BehaveAlike q.known e (fresh x.state) (fresh y.state) → AnswersAlike q.known r o →
    stored_if (accepted q.goal x e r) (stored_by e x.state) ≡ stored_if (accepted q.goal y e o) (stored_by e y.state)
stored_answers q x y e (Ok a) (Ok b) behave answers = same_stored q x y e behave.uses
stored_answers q x y e (Err r) (Err o) behave answers = refl
stored_answers q x y e (Err r) (Ok b) behave answers = absurd answers
stored_answers q x y e (Ok a) (Err o) behave answers = absurd answers

stored_alike : AlikeLaw → (q : Question) (x y : Explored) (e : Event) → Same q x y →
    ReadsWithin q.known e (fresh x.state) ⊎ (x.state.board.off ≡ true) →
    stored_if (next_by q.goal x (Some e)) (stored_by e x.state) ≡ stored_if (next_by q.goal y (Some e)) (stored_by e y.state)
stored_alike law q x y e same (inl within) =
    let behave = behaves law q x y e same within in
    stored_answers q x y e (result_of (fresh x.state) e) (result_of (fresh y.state) e) behave behave.answers
stored_alike law q x y e same (inr off) =
    let one = off_refuses (fresh x.state) e off in
    let other = off_refuses (fresh y.state) e (sym (both_off x.state y.state q.known same.alike) ∙ off) in
    ap (λ r. stored_if (accepted q.goal x e r) (stored_by e x.state)) one.1
    ∙ sym (ap (λ r. stored_if (accepted q.goal y e r) (stored_by e y.state)) other.1)

stored_event : AlikeLaw → (q : Question) (x y : Explored) (e : Option Event) → Same q x y → stop_by q x e ≡ None →
    stored_if (next_by q.goal x e) (stored_of e x.state) ≡ stored_if (next_by q.goal y e) (stored_of e y.state)
stored_event law q x y None same stop = refl
stored_event law q x y (Some e) same stop = stored_alike law q x y e same (within_or_off q x e stop)

pub alike_stored : AlikeLaw → ViewLaw → AlikeStored
alike_stored law views q x y n a b e stop =
    let same = told views q x y a b e in
    stored_event law q x y (event_of q x n) same stop
    ∙ ap (λ f. stored_if (next_by q.goal y f) (stored_of f y.state)) (same_event q x y n same.typed)
