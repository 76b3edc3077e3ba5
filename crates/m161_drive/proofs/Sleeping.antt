use Rattle.std.proofs.Common.{◌≡◌, ◌∙◌, refl, sym, ap, subst, ℕ, zero, suc, ◌+◌, ◌%◌, ◌^◌, ◌<◌, ◌≤◌, Bool, true, false, not, List, [], ◌∷◌, length, arith, inl, inr, get_or-set_same, get_or-set_other}
use Rattle.std.proofs.Math.ListN.{length-set}
use Rattle.std.proofs.lemmas.Nat.{and_le_r, and_mod, or_mod}
use Rattle.std.proofs.lemmas.Bool.Decides.{eqb_tells, nat_tests}
use Rattle.std.specs.Prelude.{Result, Ok, Err, ◌==◌, ◌&&◌, ◌||◌, if◌then◌else◌, bit_and, bit_or, nat_lt, nat_le, slice_set}
use Rattle.std.specs.List.{list_any, range_with_len}
use Rattle.m161_bus.specs.Board.{BoardState, interrupt_lines, start_words}
use Rattle.m161_cop0.specs.Clock.{after_tick, is_due, next_count}
use Rattle.m161_cop0.specs.Control.{Control, expects_timer, im_of, internal_ip_of, is_pending}
use Rattle.m161_cpu.specs.declared.processor.Outcome.{Outcome}
use Rattle.m161_cpu.specs.declared.processor.ProcessorState.{ProcessorState}
use Rattle.m161_cpu.specs.declared.processor.ProcessorState.TheVariants.{Stopped, Running, Waiting}
use Rattle.m161_cpu.specs.Processor.{Processor, started_processor, stopped_processor, with_state}
use Rattle.m161_cpu.specs.Resting.{is_resting, is_ticking as ticks_in, is_waiting, rests_in}
use Rattle.m161_cpu.specs.Scene.{Around, Scene, around, scene}
use Rattle.m161_cpu.specs.Step.{Stepped, count_step, idle, running_step, step_by_state, step_of, tick, with_processor}
use Rattle.m161_isa.specs.Bits.{has_bit}
use Rattle.m161_isa.specs.Choice.{first_answer}
use Rattle.m161_machine.specs.declared.event.Refusal.{Refusal}
use Rattle.m161_machine.specs.declared.event.Refusal.TheVariants.{BadProcessor, Off, Worn}
use Rattle.m161_machine.specs.Resting.{rests, ticks}
use Rattle.m161_machine.specs.State.{State, is_worn, next, processor_at, started_by, step_result, unless, with_starts, with_step}
use Rattle.m161_drive.specs.Drive.{StaysAsleep}
use Rattle.m161_drive.specs.Ready.{is_asleep, is_ready, is_ticking, some_ready, some_ticking}

-- What an idle Step leaves.

-- a mask of the low 15 bits doesn't see the timer's bit
masked : (a b l m : ℕ) → m < 2 ^ 15 → a % 2 ^ 15 ≡ b % 2 ^ 15 → bit_and (bit_or a l) m ≡ bit_and (bit_or b l) m
masked a b l m small same =
    let low : (x : ℕ) → bit_and x m ≡ bit_and (x % 2 ^ 15) (m % 2 ^ 15) = λ x.
    let below = and_le_r x m in
    let whole : bit_and x m % 2 ^ 15 ≡ bit_and x m = omega (arith, below) in
    sym whole ∙ and_mod x m 15 in
    let ors : bit_or a l % 2 ^ 15 ≡ bit_or b l % 2 ^ 15 =
    or_mod a l 15 ∙ ap (λ x. bit_or x (l % 2 ^ 15)) same ∙ sym (or_mod b l 15) in
    low (bit_or a l) ∙ ap (λ x. bit_and x (m % 2 ^ 15)) ors ∙ sym (low (bit_or b l))

timer_high : (s t : Bool) (software : ℕ) → internal_ip_of s software % 2 ^ 15 ≡ internal_ip_of t software % 2 ^ 15
timer_high true true software = refl
timer_high true false software = omega arith
timer_high false true software = omega arith
timer_high false false software = refl

mask_small : (status : ℕ) → has_bit status 15 ≡ false → im_of status < 2 ^ 15
mask_small status h = grind (arith, nat_tests)

off_and : (d : Bool) → (d && false) ≡ false
off_and true = refl
off_and false = refl

-- a tick of a processor that doesn't expect its timer
or_off : (t d z : Bool) → z ≡ true → (t || (d && not z)) ≡ t
or_off true d z h = refl
or_off false d true h = off_and d
or_off false d false h = let bad : false ≡ true = h in absurd cc

pends_by : (lines : ℕ) (c : Control) (b z : Bool) → has_bit c.status 15 ≡ b → (c.compare == 0) ≡ z → (b && not z) ≡ false →
    is_pending lines (after_tick c) ≡ is_pending lines c
unfolding is_pending after_tick
pends_by lines c b true hb hz h =
    ap (λ t. not (bit_and (bit_or (internal_ip_of t c.software) lines) (im_of c.status) == 0))
    (or_off c.timer (next_count c == c.compare) (c.compare == 0) hz)
pends_by lines c true false hb hz h = let bad : true ≡ false = h in absurd cc
pends_by lines c false false hb hz h =
    ap (λ x. not (x == 0))
    (masked (internal_ip_of (c.timer || is_due c) c.software) (internal_ip_of c.timer c.software) lines (im_of c.status)
    (mask_small c.status hb) (timer_high (c.timer || is_due c) c.timer c.software))

pends_still : (lines : ℕ) (c : Control) → expects_timer c ≡ false → is_pending lines (after_tick c) ≡ is_pending lines c
unfolding expects_timer
pends_still lines c h = pends_by lines c (has_bit c.status 15) (c.compare == 0) refl refl h

-- a Step of a processor that rests and doesn't tick
abbrev Sleeps : ℕ → Processor → Around → Stepped → Type 0
Sleeps lines p a x =
    (new : Processor) × (x ≡ idle (λ _. new) (scene p a)) × (new.state ≡ p.state)
    × (is_pending lines new.control ≡ is_pending lines p.control)
    × (expects_timer new.control ≡ expects_timer p.control)

expects_still : (c : Control) → expects_timer (after_tick c) ≡ expects_timer c
unfolding expects_timer after_tick
expects_still c = refl

not_pending : (b : Bool) → not b ≡ true → b ≡ false
not_pending true h = sym h
not_pending false h = refl

sleeps_by : (state : ProcessorState) (p : Processor) (a : Around) →
    rests_in state (is_pending (interrupt_lines a.number a.board) p.control) ≡ true →
    (is_waiting state && not (is_pending (interrupt_lines a.number a.board) p.control) && expects_timer p.control) ≡ false →
    Sleeps (interrupt_lines a.number a.board) p a (step_by_state state (scene p a))
sleeps_by Stopped p a r t = (count_step p, refl, refl, refl, refl)
sleeps_by Running p a r t = let bad : false ≡ true = r in absurd cc
sleeps_by Waiting p a r t =
    let lines = interrupt_lines a.number a.board in
    let still : is_pending lines p.control ≡ false = not_pending (is_pending lines p.control) r in
    let off : expects_timer p.control ≡ false = subst (λ b. (true && not b && expects_timer p.control) ≡ false) still t in (
      tick p,
      ap (λ b. if b then running_step (with_processor (with_state Running) (scene p a)) else idle tick (scene p a)) still,
      refl,
      pends_still lines p.control off,
      expects_still p.control,
    )

abbrev scene_in : ℕ → State → Scene
scene_in p s = scene (processor_at p s.processors) (around p s.memory s.board s.links s.conf.strict)

sleeps : (p : ℕ) (s : State) → rests p s ≡ true → ticks p s ≡ false →
    Sleeps (interrupt_lines p s.board) (processor_at p s.processors) (around p s.memory s.board s.links s.conf.strict) (step_result p s)
unfolding rests ticks is_resting ticks_in step_result step_of
sleeps p s r t =
    sleeps_by (processor_at p s.processors).state (processor_at p s.processors) (around p s.memory s.board s.links s.conf.strict) r t

-- a mask that is as before starts no processor
not_again : (bit : Bool) (a b : Processor) → (if bit && not bit then a else b) ≡ b
not_again true a b = refl
not_again false a b = refl

no_starts : (board : BoardState) (c : ℕ) (ps : List Processor) → with_starts board.started board c ps ≡ ps
no_starts board c [] = refl
no_starts board c (p ∷ ps) =
    let first : started_by board.started board c p ≡ p =
    not_again (has_bit board.started c) (started_processor (start_words c board).pc (start_words c board).r4 (start_words c board).r29 p.count) p in
    let rest = no_starts board (c + 1) ps in
    λ i. first i ∷ rest i

-- what each processor waits for is as before
resting_same : (lines : ℕ) (new p : Processor) → new.state ≡ p.state → is_pending lines new.control ≡ is_pending lines p.control →
    is_resting lines new ≡ is_resting lines p
unfolding is_resting
resting_same lines new p a b = λ i. rests_in (a i) (b i)

ticking_same : (lines : ℕ) (new p : Processor) → new.state ≡ p.state → is_pending lines new.control ≡ is_pending lines p.control →
    expects_timer new.control ≡ expects_timer p.control → ticks_in lines new ≡ ticks_in lines p
unfolding ticks_in
ticking_same lines new p a b e = λ i. is_waiting (a i) && not (b i) && e i

at_each : (view : ℕ → Processor → Bool) (ps : List Processor) (p : ℕ) (new : Processor) → p < length ps →
    view p new ≡ view p (processor_at p ps) → (q : ℕ) → view q (processor_at q (slice_set ps p new)) ≡ view q (processor_at q ps)
at_each view ps p new here same q =
    elim (eqb_tells p q) as (λ _. view q (processor_at q (slice_set ps p new)) ≡ view q (processor_at q ps)) [
      | inl e ↦ subst (λ x. view x (processor_at x (slice_set ps p new)) ≡ view x (processor_at x ps)) e.1
          (ap (view p) (get_or-set_same ps p new stopped_processor here) ∙ same)
      | inr e ↦ ap (view q) (get_or-set_other ps p q new stopped_processor (λ h. e.1 (sym h)))
    ]

-- the state after an idle Step
abbrev idle_state : ℕ → Processor → State → State
idle_state p new s = with_step p (idle (λ _. new) (scene_in p s)) s

idle_processors : (p : ℕ) (new : Processor) (s : State) → (idle_state p new s).processors ≡ slice_set s.processors p new
idle_processors p new s = no_starts s.board 0 (slice_set s.processors p new)

rests_still : (p : ℕ) (new : Processor) (s : State) → p < length s.processors →
    is_resting (interrupt_lines p s.board) new ≡ is_resting (interrupt_lines p s.board) (processor_at p s.processors) →
    (q : ℕ) → rests q (idle_state p new s) ≡ rests q s
unfolding rests
rests_still p new s here same q =
    ap (λ ps. is_resting (interrupt_lines q s.board) (processor_at q ps)) (idle_processors p new s)
    ∙ at_each (λ x. is_resting (interrupt_lines x s.board)) s.processors p new here same q

ticks_still : (p : ℕ) (new : Processor) (s : State) → p < length s.processors →
    ticks_in (interrupt_lines p s.board) new ≡ ticks_in (interrupt_lines p s.board) (processor_at p s.processors) →
    (q : ℕ) → ticks q (idle_state p new s) ≡ ticks q s
unfolding ticks
ticks_still p new s here same q =
    ap (λ ps. ticks_in (interrupt_lines q s.board) (processor_at q ps)) (idle_processors p new s)
    ∙ at_each (λ x. ticks_in (interrupt_lines x s.board)) s.processors p new here same q

asleep_still : (p : ℕ) (new : Processor) (s : State) → p < length s.processors →
    is_resting (interrupt_lines p s.board) new ≡ is_resting (interrupt_lines p s.board) (processor_at p s.processors) →
    ticks_in (interrupt_lines p s.board) new ≡ ticks_in (interrupt_lines p s.board) (processor_at p s.processors) →
    is_asleep (idle_state p new s) ≡ is_asleep s
asleep_still p new s here r t =
    let long : length (idle_state p new s).processors ≡ length s.processors =
    ap length (idle_processors p new s) ∙ length-set s.processors p new in
    let rest = rests_still p new s here r in
    let tock = ticks_still p new s here t in
    λ i. not (list_any (λ q. nat_lt q (long i) && not (rest q i)) (range_with_len 0 (long i))
    || list_any (λ q. nat_lt q (long i) && tock q i) (range_with_len 0 (long i)))

-- none of a range passes
or_none : (a b : Bool) → (a || b) ≡ false → (a ≡ false) × (b ≡ false)
or_none true b h = let bad : true ≡ false = h in absurd cc
or_none false b h = (refl, h)

pub any_none : (test : ℕ → Bool) (n a p : ℕ) → list_any test (range_with_len a n) ≡ false → a ≤ p → p < a + n → test p ≡ false
any_none test zero a p h low high = absurd (omega arith)
any_none test (suc n) a p h low high =
    let parts = or_none (test a) (list_any test (range_with_len (a + 1) n)) h in
    elim (eqb_tells a p) as (λ _. test p ≡ false) [
      | inl e ↦ subst (λ x. test x ≡ false) e.1 parts.0
      | inr e ↦ any_none test n (a + 1) p parts.1 (omega (arith, e.1)) (omega arith)
    ]

-- the result of an accepted Step
pub accepted : (none off worn : Bool) (given : Outcome × State) (o : Outcome) (t : State) →
    unless (first_answer ((none, BadProcessor) ∷ (off, Off) ∷ (worn, Worn) ∷ [])) (Ok given) ≡ Ok (o, t) →
    (none ≡ false) × (given.0 ≡ o) × (given.1 ≡ t)
accepted true off worn given o t h = let bad : ◌≡◌ {A = Result (Outcome × State) Refusal} (Err BadProcessor) (Ok (o, t)) = h in absurd cc
accepted false true worn given o t h = let bad : ◌≡◌ {A = Result (Outcome × State) Refusal} (Err Off) (Ok (o, t)) = h in absurd cc
accepted false false true given o t h = let bad : ◌≡◌ {A = Result (Outcome × State) Refusal} (Err Worn) (Ok (o, t)) = h in absurd cc
accepted false false false given o t h =
    let same : ◌≡◌ {A = Result (Outcome × State) Refusal} (Ok given) (Ok (o, t)) = h in
    let pair : given ≡ (o, t) = cc in
    (refl, ap (λ (x : Outcome × State). x.0) pair, ap (λ (x : Outcome × State). x.1) pair)

pub is_less : (n p : ℕ) → nat_le n p ≡ false → p < n
is_less n p h = grind (arith, nat_tests)

pub less_in : (p n : ℕ) → nat_lt p n ≡ true → p < n
less_in p n h = grind (arith, nat_tests)

pub less_is : (p n : ℕ) → p < n → nat_lt p n ≡ true
less_is p n h = grind (arith, nat_tests)

not_ready : (a b : Bool) → a ≡ true → (a && not b) ≡ false → b ≡ true
not_ready true true e h = refl
not_ready true false e h = sym h
not_ready false b e h = let bad : false ≡ true = e in absurd cc

not_ticking : (a b : Bool) → a ≡ true → (a && b) ≡ false → b ≡ false
not_ticking true b e h = h
not_ticking false b e h = let bad : false ≡ true = e in absurd cc

pub stays_asleep : (s : State) → StaysAsleep s
unfolding next
stays_asleep s p o t asleep h =
    let given : Outcome × State = ((step_result p s).outcome, with_step p (step_result p s) s) in
    let done = accepted (nat_le (length s.processors) p) s.board.off (is_worn s.made) given o t h in
    let here : p < length s.processors = is_less (length s.processors) p done.0 in
    let there : nat_lt p (length s.processors) ≡ true = less_is p (length s.processors) here in
    let none = or_none (some_ready s) (some_ticking s) (not_pending (some_ready s || some_ticking s) asleep) in
    let resting : rests p s ≡ true =
    not_ready (nat_lt p (length s.processors)) (rests p s) there
    (any_none (is_ready s) (length s.processors) 0 p none.0 (omega arith) (omega arith)) in
    let still : ticks p s ≡ false =
    not_ticking (nat_lt p (length s.processors)) (ticks p s) there
    (any_none (is_ticking s) (length s.processors) 0 p none.1 (omega arith) (omega arith)) in
    let x = sleeps p s resting still in
    let old = processor_at p s.processors in
    let lines = interrupt_lines p s.board in
    let after : is_asleep (idle_state p x.0 s) ≡ is_asleep s =
    asleep_still p x.0 s here (resting_same lines x.0 old x.2 x.3) (ticking_same lines x.0 old x.2 x.3 x.4) in (
      sym done.1 ∙ ap (λ (y : Stepped). y.outcome) x.1,
      ap is_asleep (sym done.2 ∙ ap (λ (y : Stepped). with_step p y s) x.1) ∙ after ∙ asleep,
    )
