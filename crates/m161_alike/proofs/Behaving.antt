use Rattle.std.proofs.Common.{◌≡◌, ◌∙◌, refl, ap, sym, subst, ℕ, Bool, true, false, List, [], ◌∷◌, ◌++◌, length, Option, None, Some, Result, Ok, Err}
use Rattle.std.proofs.Common.{append-nil}
use Rattle.std.specs.Prelude.{IfOk, nat_le, nat_lt, option_to_list, if◌then◌else◌}
use Rattle.m161_isa.specs.Choice.{first_answer}
use Rattle.m161_bus.specs.declared.console.DoneError.{DoneError}
use Rattle.m161_bus.specs.declared.console.KeyFull.{KeyFull}
use Rattle.m161_bus.specs.Board.{BoardState, board_done, board_key, interrupt_lines}
use Rattle.m161_cpu.specs.declared.processor.Outcome.{Outcome}
use Rattle.m161_cpu.specs.declared.processor.Outcome.TheVariants.{Taken}
use Rattle.m161_cpu.specs.Fetch.{fetched_word}
use Rattle.m161_cpu.specs.Resting.{is_resting, is_ticking}
use Rattle.m161_cpu.specs.Scene.{result_map}
use Rattle.m161_cpu.specs.Step.{Stepped}
use Rattle.m161_cpu.specs.Uses.{uses_of}
use Rattle.m161_machine.specs.declared.event.Event.{Event}
use Rattle.m161_machine.specs.declared.event.Event.TheVariants.{Step, Key, Done}
use Rattle.m161_machine.specs.declared.event.Refusal.{Refusal}
use Rattle.m161_machine.specs.declared.event.Refusal.TheVariants.{BadProcessor, KeyFull as KeyFullRefusal, Off, Worn}
use Rattle.m161_machine.specs.State.{State, answer, answered_done, answered_key, is_worn, next, processor_at, refusal, refusal_of_done, step_result, unless, with_board, with_step}
use Rattle.m161_machine.specs.Resting.{rests, ticks}
use Rattle.m161_machine.specs.Uses.{uses_in}
use Rattle.m161_machine.specs.Fetched.{fetched, fetches_none}
use Rattle.m161_alike.specs.declared.known.Known.{Known}
use Rattle.m161_alike.specs.Reads.{AreWithin, reads_in, reads_of_step}
use Rattle.m161_alike.specs.View.{AreAlike, board_view, known_of, view}
use Rattle.m161_alike.specs.Law.{AlikeLaw, AnswersAlike, LookAlike, ReadsWithin, SentLaw, UsesAlike, sent_by}
use Rattle.m161_alike.proofs.HeardStep.{heard_stepped}
use Rattle.m161_alike.proofs.Looking.{fetched_timeless, reads_heard, reads_timeless, resting_timeless, ticking_timeless, uses_heard, uses_timeless}
use Rattle.m161_alike.proofs.TimelessStep.{timeless_stepped}
use Rattle.m161_alike.proofs.Viewed.{after_hearing, after_still, hearing, processor_viewed, same_number, scene_in, scene_still, step_hearing, step_still, still, viewed_twice}

-- A state and its view behave alike, and so do two states with one view.

-- what is looked at

reads_hearing : (sent : List ℕ) (p : ℕ) (s : State) → reads_in p (hearing sent s) ≡ reads_in p s
unfolding reads_in
reads_hearing sent p s = reads_heard sent (scene_in p s)

reads_still : (known : Known) (p : ℕ) (s : State) → reads_in p (still known s) ≡ reads_in p s
unfolding reads_in
reads_still known p s = ap reads_of_step (scene_still known p s) ∙ reads_timeless (known_of known p) (scene_in p s)

reads_view : (known : Known) (p : ℕ) (s : State) → reads_in p (view known s) ≡ reads_in p s
reads_view known p s = reads_still known p (hearing [] s) ∙ reads_hearing [] p s

rests_view : (known : Known) (p : ℕ) (s : State) → rests p (view known s) ≡ rests p s
unfolding rests interrupt_lines
rests_view known p s =
    ap (is_resting (interrupt_lines p s.board)) (processor_viewed known s.processors p)
    ∙ resting_timeless (known_of known p) (interrupt_lines p s.board) (processor_at p s.processors)

ticks_view : (known : Known) (p : ℕ) (s : State) → ticks p (view known s) ≡ ticks p s
unfolding ticks interrupt_lines
ticks_view known p s =
    ap (is_ticking (interrupt_lines p s.board)) (processor_viewed known s.processors p)
    ∙ ticking_timeless (known_of known p) (interrupt_lines p s.board) (processor_at p s.processors)

look_alike : (known : Known) (s t : State) → AreAlike known s t → (p : ℕ) → LookAlike p s t
look_alike known s t alike p = record {
  reads = sym (reads_view known p s) ∙ ap (reads_in p) alike ∙ reads_view known p t;
  rests = sym (rests_view known p s) ∙ ap (rests p) alike ∙ rests_view known p t;
  ticks = sym (ticks_view known p s) ∙ ap (ticks p) alike ∙ ticks_view known p t;
}

-- what is used

uses_hearing : (sent : List ℕ) (p : ℕ) (s : State) → uses_in p (hearing sent s) ≡ uses_in p s
unfolding uses_in
uses_hearing sent p s = uses_heard sent (scene_in p s)

uses_still : (known : Known) (p : ℕ) (s : State) → AreWithin (reads_in p s) (known_of known p) → uses_in p (still known s) ≡ uses_in p s
unfolding uses_in reads_in
uses_still known p s within = ap uses_of (scene_still known p s) ∙ uses_timeless (known_of known p) (scene_in p s) within

uses_view : (known : Known) (p : ℕ) (s : State) → AreWithin (reads_in p s) (known_of known p) → uses_in p (view known s) ≡ uses_in p s
uses_view known p s within =
    uses_still known p (hearing [] s) (subst (λ r. AreWithin r (known_of known p)) (sym (reads_hearing [] p s)) within)
    ∙ uses_hearing [] p s

word_view : (known : Known) (p : ℕ) (s : State) → fetched_word s.memory (processor_at p (view known s).processors).pc (processor_at p (view known s).processors)
    ≡ fetched_word s.memory (processor_at p s.processors).pc (processor_at p s.processors)
word_view known p s =
    ap (λ q. fetched_word s.memory q.pc q) (processor_viewed known s.processors p)
    ∙ fetched_timeless (known_of known p) s.memory (processor_at p s.processors).pc (processor_at p s.processors)

fetched_view : (known : Known) (p : ℕ) (s : State) (o : Outcome) → fetched p (view known s) o ≡ fetched p s o
fetched_view known p s o = ap (λ w. if fetches_none o then None else w) (word_view known p s)

within_other : (known : Known) (p : ℕ) (s t : State) → AreAlike known s t → AreWithin (reads_in p s) (known_of known p) → AreWithin (reads_in p t) (known_of known p)
within_other known p s t alike within = subst (λ r. AreWithin r (known_of known p)) (look_alike known s t alike p).reads within

uses_alike : (known : Known) (e : Event) (s t : State) → AreAlike known s t → ReadsWithin known e s → UsesAlike e s t
uses_alike known (Step p) s t alike within = (
  sym (uses_view known p s within) ∙ ap (uses_in p) alike ∙ uses_view known p t (within_other known p s t alike within),
  λ o. sym (fetched_view known p s o) ∙ ap (λ u. fetched p u o) alike ∙ fetched_view known p t o,
)
uses_alike known (Key byte) s t alike within = tt
uses_alike known Done s t alike within = tt

-- answers

-- an answer with the view of the state behind the event
abbrev seen : Known → Result (Outcome × State) Refusal → Result (Outcome × State) Refusal
seen known r = result_map (λ (a : Outcome × State). (a.0, view known a.1)) r

step_view : (known : Known) (p : ℕ) (s : State) → AreWithin (reads_in p s) (known_of known p) →
    seen known (Ok ((step_result p (view known s)).outcome, with_step p (step_result p (view known s)) (view known s)))
    ≡ seen known (Ok ((step_result p s).outcome, with_step p (step_result p s) s))
step_view known p s within =
    let k = known_of known p in
    let quiet = hearing [] s in
    let x = step_result p (view known s) in
    let y = step_result p quiet in
    let within_quiet : AreWithin (reads_in p quiet) k = subst (λ r. AreWithin r k) (sym (reads_hearing [] p s)) within in
    let same : timeless_stepped k x ≡ timeless_stepped k y = step_still known p quiet within_quiet in
    let heard_is : y ≡ heard_stepped [] (step_result p s) = step_hearing [] p s in
    let outcome_is : x.outcome ≡ (step_result p s).outcome = ap (λ z. z.outcome) same ∙ ap (λ z. z.outcome) heard_is in
    let still_is : still known (with_step p x (view known s)) ≡ still known (with_step p y quiet) = after_still known p x y quiet same in
    let hearing_is : with_step p y quiet ≡ hearing [] (with_step p (step_result p s) s) =
    ap (λ z. with_step p z quiet) heard_is ∙ after_hearing [] p (step_result p s) s in
    let state_is : view known (with_step p x (view known s)) ≡ view known (with_step p (step_result p s) s) =
    ap (λ u. hearing [] u) still_is ∙ ap (λ u. view known u) hearing_is in
    λ i. Ok (outcome_is i, state_is i)

key_view : (known : Known) (s : State) (r : Result BoardState KeyFull) (q : Result BoardState KeyFull) →
    result_map board_view q ≡ result_map board_view r → seen known (answered_key (view known s) q) ≡ seen known (answered_key s r)
key_view known s (Ok b) (Ok c) h =
    let boards : board_view c ≡ board_view b = cc in
    λ i. Ok (Taken, record (view known s) { processors = viewed_twice known 0 s.processors i; board = boards i })
key_view known s (Err e) (Err f) h = refl
key_view known s (Ok b) (Err f) h = absurd (let bad : ◌≡◌ {A = Result BoardState KeyFull} (Err f) (Ok (board_view b)) = h in cc)
key_view known s (Err e) (Ok c) h = absurd (let bad : ◌≡◌ {A = Result BoardState KeyFull} (Ok (board_view c)) (Err e) = h in cc)

done_view : (known : Known) (s : State) (r : Result BoardState DoneError) (q : Result BoardState DoneError) →
    result_map board_view q ≡ result_map board_view r → seen known (answered_done (view known s) q) ≡ seen known (answered_done s r)
done_view known s (Ok b) (Ok c) h =
    let boards : board_view c ≡ board_view b = cc in
    λ i. Ok (Taken, record (view known s) { processors = viewed_twice known 0 s.processors i; board = boards i })
done_view known s (Err e) (Err f) h =
    let same : f ≡ e = cc in ap (λ g. Err (refusal_of_done g)) same
done_view known s (Ok b) (Err f) h = absurd (let bad : ◌≡◌ {A = Result BoardState DoneError} (Err f) (Ok (board_view b)) = h in cc)
done_view known s (Err e) (Ok c) h = absurd (let bad : ◌≡◌ {A = Result BoardState DoneError} (Ok (board_view c)) (Err e) = h in cc)

board_keyed : (byte : ℕ) (room : Bool) (b : BoardState) → nat_lt (length b.console.waiting) 256 ≡ room →
    result_map board_view (board_key byte (board_view b)) ≡ result_map board_view (board_key byte b)
board_keyed byte true b h = rw h refl
board_keyed byte false b h = rw h refl

board_sent : (latch : Option ℕ) (b : BoardState) → b.console.latch ≡ latch →
    result_map board_view (board_done (board_view b)) ≡ result_map board_view (board_done b)
board_sent None b h = rw h refl
board_sent (Some byte) b h = rw h refl

answer_view : (known : Known) (e : Event) (s : State) → ReadsWithin known e s → seen known (answer (view known s) e) ≡ seen known (answer s e)
answer_view known (Step p) s within = step_view known p s within
answer_view known (Key byte) s within =
    key_view known s (board_key byte s.board) (board_key byte (board_view s.board))
    (board_keyed byte (nat_lt (length s.board.console.waiting) 256) s.board refl)
answer_view known Done s within =
    done_view known s (board_done s.board) (board_done (board_view s.board)) (board_sent s.board.console.latch s.board refl)

refusal_view : (known : Known) (e : Event) (s : State) → is_worn s.made ≡ false → refusal (view known s) e ≡ refusal s e
refusal_view known (Step p) s fresh =
    λ i. first_answer ((nat_le (same_number known 0 s.processors i) p, BadProcessor) ∷ (s.board.off, Off) ∷ (sym fresh i, Worn) ∷ [])
refusal_view known (Key byte) s fresh = λ i. first_answer ((s.board.off, Off) ∷ (sym fresh i, Worn) ∷ [])
refusal_view known Done s fresh = λ i. first_answer ((s.board.off, Off) ∷ (sym fresh i, Worn) ∷ [])

unless_seen : (known : Known) (o : Option Refusal) (q r : Result (Outcome × State) Refusal) → seen known q ≡ seen known r →
    seen known (unless o q) ≡ seen known (unless o r)
unless_seen known None q r h = h
unless_seen known (Some refused) q r h = refl

next_view : (known : Known) (e : Event) (s : State) → ReadsWithin known e s → is_worn s.made ≡ false →
    seen known (next (view known s) e) ≡ seen known (next s e)
unfolding next
next_view known e s within fresh =
    ap (λ o. seen known (unless o (answer (view known s) e))) (refusal_view known e s fresh)
    ∙ unless_seen known (refusal s e) (answer (view known s) e) (answer s e) (answer_view known e s within)

seen_alike : (known : Known) (q r : Result (Outcome × State) Refusal) → seen known q ≡ seen known r → AnswersAlike known q r
seen_alike known (Ok a) (Ok b) h =
    let pair : ◌≡◌ {A = Outcome × State} (a.0, view known a.1) (b.0, view known b.1) = cc in
    (ap (λ (x : Outcome × State). x.0) pair, ap (λ (x : Outcome × State). x.1) pair)
seen_alike known (Err r) (Err q) h = let same : r ≡ q = cc in same
seen_alike known (Ok a) (Err q) h = let bad : ◌≡◌ {A = Result (Outcome × State) Refusal} (Ok (a.0, view known a.1)) (Err q) = h in cc
seen_alike known (Err r) (Ok b) h = let bad : ◌≡◌ {A = Result (Outcome × State) Refusal} (Err r) (Ok (b.0, view known b.1)) = h in cc

reads_other : (known : Known) (e : Event) (s t : State) → AreAlike known s t → ReadsWithin known e s → ReadsWithin known e t
reads_other known (Step p) s t alike within = within_other known p s t alike within
reads_other known (Key byte) s t alike within = tt
reads_other known Done s t alike within = tt

sent_alike : (known : Known) (e : Event) (s t : State) → AreAlike known s t → sent_by e s ≡ sent_by e t
sent_alike known (Step p) s t alike = refl
sent_alike known (Key byte) s t alike = refl
sent_alike known Done s t alike = ap (λ (u : State). option_to_list u.board.console.latch) alike

pub alike_law : AlikeLaw
alike_law known s t alike = (
  look_alike known s t alike,
  λ e within fresh fresh_too. record {
    answers = seen_alike known (next s e) (next t e)
        (sym (next_view known e s within fresh) ∙ ap (λ u. seen known (next u e)) alike
        ∙ next_view known e t (reads_other known e s t alike within) fresh_too);
    uses = uses_alike known e s t alike within;
    sent = sent_alike known e s t alike;
  },
)

-- what the console has sent

state_behind : (s t : State) (o : Outcome) (x : Outcome × State) → ◌≡◌ {A = Result (Outcome × State) Refusal} (Ok x) (Ok (o, t)) → x.1 ≡ t
state_behind s t o x h = let pair : x ≡ (o, t) = cc in ap (λ (y : Outcome × State). y.1) pair

unless_ok : (o : Option Refusal) (r : Result (Outcome × State) Refusal) (a : Outcome × State) → unless o r ≡ Ok a → r ≡ Ok a
unless_ok None r a h = h
unless_ok (Some refused) r a h = absurd (let bad : ◌≡◌ {A = Result (Outcome × State) Refusal} (Err refused) (Ok a) = h in cc)

abbrev output_of : State → List ℕ
output_of s = s.board.console.output

step_sends : (p : ℕ) (s : State) → output_of (with_step p (step_result p s) s) ≡ output_of s
step_sends p s = ap (λ (x : Stepped). x.after.around.board.console.output) (step_hearing (output_of s) p s)

key_sends : (s t : State) (o : Outcome) (r : Result BoardState KeyFull) → IfOk r (λ b. b.console.output ≡ output_of s) →
    answered_key s r ≡ Ok (o, t) → output_of t ≡ output_of s
key_sends s t o (Ok b) same h = ap output_of (sym (state_behind s t o (Taken, with_board b s) h)) ∙ same
key_sends s t o (Err e) same h = absurd (let bad : ◌≡◌ {A = Result (Outcome × State) Refusal} (Err KeyFullRefusal) (Ok (o, t)) = h in cc)

key_keeps : (byte : ℕ) (b : BoardState) (room : Bool) → nat_lt (length b.console.waiting) 256 ≡ room →
    IfOk (board_key byte b) (λ (c : BoardState). c.console.output ≡ b.console.output)
key_keeps byte b true h = rw h refl
key_keeps byte b false h = rw h tt

done_sends : (s t : State) (o : Outcome) (r : Result BoardState DoneError) →
    IfOk r (λ b. b.console.output ≡ output_of s ++ option_to_list s.board.console.latch) →
    answered_done s r ≡ Ok (o, t) → output_of t ≡ output_of s ++ option_to_list s.board.console.latch
done_sends s t o (Ok b) same h = ap output_of (sym (state_behind s t o (Taken, with_board b s) h)) ∙ same
done_sends s t o (Err e) same h = absurd (let bad : ◌≡◌ {A = Result (Outcome × State) Refusal} (Err (refusal_of_done e)) (Ok (o, t)) = h in cc)

done_appends : (b : BoardState) (latch : Option ℕ) → b.console.latch ≡ latch →
    IfOk (board_done b) (λ (c : BoardState). c.console.output ≡ b.console.output ++ option_to_list b.console.latch)
done_appends b None h = rw h tt
done_appends b (Some byte) h = rw h refl

pub sent_law : SentLaw
unfolding next
sent_law (Step p) s t o h =
    let after = with_step p (step_result p s) s in
    let here : after ≡ t = state_behind s t o ((step_result p s).outcome, after) (unless_ok (refusal s (Step p)) (answer s (Step p)) (o, t) h) in
    ap output_of (sym here) ∙ step_sends p s ∙ sym (append-nil (output_of s))
sent_law (Key byte) s t o h =
    key_sends s t o (board_key byte s.board) (key_keeps byte s.board (nat_lt (length s.board.console.waiting) 256) refl)
    (unless_ok (refusal s (Key byte)) (answer s (Key byte)) (o, t) h)
    ∙ sym (append-nil (output_of s))
sent_law Done s t o h =
    done_sends s t o (board_done s.board) (done_appends s.board s.board.console.latch refl)
    (unless_ok (refusal s Done) (answer s Done) (o, t) h)
