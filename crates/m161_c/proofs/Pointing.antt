use Rattle.std.proofs.Common.{◌≡◌, ◌∙◌, ap, sym, subst, ℕ, zero, suc, ◌+◌, ◌-◌, ◌≤◌, List, [], ◌++◌, length, arith}
use Rattle.std.proofs.lemmas.List.{length-append, length-map, map-append}
use Rattle.std.specs.Prelude.{Err, Ok, OnOk, Result, slice_get}
use Rattle.m161_delays.specs.Lists.{AgreeBelow, times}
use Rattle.m161_delays.specs.Runs.{StandsAt}
use Rattle.m161_drive.specs.declared.cursor.Cursor.{Cursor}
use Rattle.m161_drive.specs.declared.orders.OrderState.TheVariants.{ByDelays}
use Rattle.m161_drive.specs.declared.turns.Turns.{Turns}
use Rattle.m161_drive.specs.Choice.{cursor_at}
use Rattle.m161_drive.specs.Delayed.{DelayState}
use Rattle.m161_drive.specs.Drive.{Chooses}
use Rattle.m161_drive.specs.GoingOn.{IsWithLeft}
use Rattle.m161_drive.specs.Policy.{Rules}
use Rattle.m161_drive.proofs.Driving.{chooses_append}
use Rattle.m161_drive.proofs.Passing.{behind_all, behind_more, count_behind}
use Rattle.m161_audit.specs.Watch.{AreGood}
use Rattle.m161_judge.specs.declared.run.JudgedRun.{JudgedRun}
use Rattle.m161_judge.specs.Begun.{IsBegun, IsRunBehind}
use Rattle.m161_judge.specs.Memory.{IsKeptOf, StepsMemory}
use Rattle.m161_judge.specs.Run.{IsRun}
use Rattle.m161_machine.specs.declared.event.Entry.{Entry}
use Rattle.m161_machine.specs.declared.event.Event.{Event}
use Rattle.m161_machine.specs.declared.conf.Conf.{Conf as ConfValue}
use Rattle.m161_machine.specs.History.{IsBootState, events_of}
use Rattle.m161_machine.specs.State.{State}
use Rattle.m161_judge.specs.Verdict.{Criteria}
use Rattle.m161_order.specs.declared.delays.Delays.{Delays}
use Rattle.m161_order.specs.declared.order.Order.{Order}
use Rattle.m161_order.specs.declared.order.Order.TheVariants as orders
use Rattle.m161_order.specs.Delays.{behind, delays_of}
use Rattle.m161_places.specs.Going.{Passes, PassesNoting}
use Rattle.m161_places.specs.Laws.{with_delays}
use Rattle.m161_places.proofs.Exchanging.{go_alike}
use Rattle.m161_places.proofs.Moving.{other_order}
use Rattle.m161_c.specs.Driven.{rules_in}
use Rattle.m161_c.specs.Seeds.{Asked}
use Rattle.m161_c.specs.declared.points.RunPoint.{RunPoint}
use Rattle.m161_c.specs.helpers.Points.{IsPointOf, KeepsFrom}

-- Points of the runs of lists of delays.

-- the delays that are left further on

behind_sum : (m k : ℕ) (ns : List ℕ) → behind k (behind m ns) ≡ behind (m + k) ns
behind_sum zero k ns = let same : k ≡ zero + k = omega arith in ap (behind k) (behind_all ns) ∙ ap (λ j. behind j ns) same
behind_sum (suc m) k ns =
    let next : suc (m + k) ≡ suc m + k = omega arith in
    ap (behind k) (sym (behind_more m ns)) ∙ behind_sum m k (behind 1 ns) ∙ behind_more (m + k) ns ∙ ap (λ j. behind j ns) next

times_behind : (m i : ℕ) (ns : List ℕ) → times i (behind m ns) ≡ times (m + i) ns
times_behind zero i ns = let same : i ≡ zero + i = omega arith in ap (times i) (behind_all ns) ∙ ap (λ j. times j ns) same
times_behind (suc m) i ns =
    let next : m + i + 1 ≡ suc m + i = omega arith in
    ap (times i) (sym (behind_more m ns)) ∙ times_behind m i (behind 1 ns) ∙ count_behind (m + i) ns ∙ ap (λ j. times j ns) next

agree_behind : (m k place : ℕ) (a b : List ℕ) → k ≤ place - m → AgreeBelow place a b → AgreeBelow k (behind m a) (behind m b)
agree_behind m k place a b few h i less = times_behind m i a ∙ h (m + i) (omega (arith, few, less)) ∙ sym (times_behind m i b)

-- an order by delays has one state
same_state : (c : Cursor) (d e : DelayState) → c.order ≡ ByDelays d → c.order ≡ ByDelays e → d ≡ e
same_state c d e h k = let same : ByDelays d ≡ ByDelays e = sym h ∙ k in cc

-- the cursor at the start of a run by delays
delayed_start : (a : Asked) (steps : ℕ) (delays : Delays) (s : State) (rules : Rules) →
    rules ≡ rules_in a.numbers (orders.Delayed steps delays) a.goal.keys →
    cursor_at rules s ≡ with_delays (record { steps = steps; made = 0 }) (delays_of delays) (cursor_at (rules_in a.numbers (orders.Turns steps) a.goal.keys) s)
delayed_start a steps delays s rules rules_are = ap (λ r. cursor_at r s) rules_are

-- the point before the first event of an order is one of each list's run
pub starts_all : (a : Asked) (s : State) (first : StepsMemory) (steps : ℕ) (delays : Delays) (rules : Rules) (point : RunPoint) →
    rules ≡ rules_in a.numbers (orders.Delayed steps delays) a.goal.keys → point.core.value.state ≡ s →
    point.cursor ≡ cursor_at rules s → point.events.items ≡ [] → point.passed ≡ 0 → point.steps ≡ first →
    (numbers : List ℕ) → IsPointOf a s first steps numbers point
starts_all a s first steps delays rules point rules_are state_is cursor_is events_are passed_is steps_are numbers =
    let turns : Turns = record { steps = steps; made = 0 } in
    let begins = cursor_at (rules_in a.numbers (orders.Turns steps) a.goal.keys) s in
    let at : point.cursor ≡ with_delays turns (delays_of delays) begins = cursor_is ∙ delayed_start a steps delays s rules rules_are in
    let left : behind point.passed numbers ≡ numbers = ap (λ k. behind k numbers) passed_is ∙ behind_all numbers in
    record {
      order = record { turns = turns; left = delays_of delays };
      order_is = ap (λ (c : Cursor). c.order) at;
      entries = [];
      few = omega arith;
      events_are = events_are;
      chosen_are = (λ i. with_delays turns (left i) (at i), state_is);
      is_kept = λ h.
          subst (λ m. IsKeptOf a.goal s point.events.items m) (sym steps_are)
          (subst (λ es. IsKeptOf a.goal s es first) (sym events_are) h);
    }

-- a copy is one of the same runs
pub copied : (a : Asked) (s : State) (first : StepsMemory) (steps : ℕ) (left : List ℕ) (old new : RunPoint) →
    IsWithLeft old.cursor left new.cursor → new.core.value.state ≡ old.core.value.state → new.events.items ≡ old.events.items → new.passed ≡ old.passed →
    new.steps ≡ old.steps → (numbers : List ℕ) → IsPointOf a s first steps numbers old → IsPointOf a s first steps numbers new
copied a s first steps left old new has_left state_is events_are passed_is steps_are numbers h =
    let rules = rules_in a.numbers (orders.Turns steps) a.goal.keys in
    let keys = slice_get a.goal.keys in
    let begins = with_delays (record { steps = steps; made = 0 }) numbers (cursor_at rules s) in
    let d = has_left.0 in
    let same : h.order ≡ d = same_state old.cursor h.order d h.order_is has_left.1 in
    let cursor : with_delays h.order.turns (behind old.passed numbers) old.cursor ≡ with_delays d.turns (behind new.passed numbers) new.cursor =
    (λ i. with_delays (same i).turns (behind (sym passed_is i) numbers) old.cursor)
    ∙ ap (with_delays d.turns (behind new.passed numbers)) (sym has_left.2) in
    record {
      order = record d { left = left };
      order_is = ap (λ (c : Cursor). c.order) has_left.2;
      entries = h.entries;
      few = h.few;
      events_are = events_are ∙ h.events_are;
      chosen_are =
          subst (λ t. Chooses rules keys begins s h.entries (with_delays d.turns (behind new.passed numbers) new.cursor) t) (sym state_is)
          (subst (λ c. Chooses rules keys begins s h.entries c old.core.value.state) cursor h.chosen_are);
      is_kept = λ was.
          subst (λ m. IsKeptOf a.goal s new.events.items m) (sym steps_are)
          (subst (λ es. IsKeptOf a.goal s es old.steps) (sym events_are) (h.is_kept was));
    }

-- the first events of a list's run, and where they led
pub begun : (a : Asked) (s : State) (first : StepsMemory) (t : State) (steps : ℕ) (delays : Delays) (rules : Rules) (point : RunPoint) (c : Cursor)
    (events : List Event) → rules ≡ rules_in a.numbers (orders.Delayed steps delays) a.goal.keys →
    IsWithLeft point.cursor (behind point.passed (delays_of delays)) c → t ≡ point.core.value.state → events ≡ point.events.items →
    IsPointOf a s first steps (delays_of delays) point → IsBegun rules a.events [] s c t events
begun a s first t steps delays rules point c events rules_are has_left state_is events_are h =
    let plain = rules_in a.numbers (orders.Turns steps) a.goal.keys in
    let listed = rules_in a.numbers (orders.Delayed steps delays) a.goal.keys in
    let keys = slice_get a.goal.keys in
    let left = behind point.passed (delays_of delays) in
    let begins = with_delays (record { steps = steps; made = 0 }) (delays_of delays) (cursor_at plain s) in
    let there = with_delays h.order.turns left point.cursor in
    let same : h.order ≡ has_left.0 = same_state point.cursor h.order has_left.0 h.order_is has_left.1 in
    let cursor : there ≡ c = (λ i. with_delays (same i).turns left point.cursor) ∙ sym has_left.2 in
    let run : Chooses listed keys begins s h.entries there point.core.value.state =
    other_order plain plain.order (orders.Delayed steps delays) keys h.entries begins there s point.core.value.state h.chosen_are in
    subst (λ r. IsBegun r a.events [] s c t events) (sym rules_are) (record {
      entries = h.entries;
      few = h.few;
      events_are = events_are ∙ h.events_are;
      chosen_are =
          subst (λ u. Chooses listed keys begins s h.entries c u) (sym state_is)
          (subst (λ y. Chooses listed keys begins s h.entries y point.core.value.state) cursor run);
    })

-- further on along the run of a list, a point is one of each list's that agrees with it below the place
pub gone_on : (a : Asked) (s : State) (first : StepsMemory) (steps place n most made : ℕ) (delays : Delays) (rules : Rules) (old new : RunPoint)
    (c : Cursor) → rules ≡ rules_in a.numbers (orders.Delayed steps delays) a.goal.keys →
    IsWithLeft old.cursor (behind old.passed (delays_of delays)) c →
    PassesNoting rules (slice_get rules.keys) n most c old.core.value.state old.events.items made new.cursor new.core.value.state new.events.items →
    n ≡ a.events - length old.events.items → most ≡ place - old.passed → new.passed ≡ old.passed + made →
    KeepsFrom a.goal new.events.items old.steps new.steps → (others : List ℕ) → AgreeBelow place (delays_of delays) others → IsPointOf a s first steps others old → IsPointOf a s first steps others new
gone_on a s first steps place n most made delays rules old new c rules_are has_left went n_is most_is passed_is keeps others agree h =
    let plain = rules_in a.numbers (orders.Turns steps) a.goal.keys in
    let listed = rules_in a.numbers (orders.Delayed steps delays) a.goal.keys in
    let keys = slice_get a.goal.keys in
    let begins = with_delays (record { steps = steps; made = 0 }) others (cursor_at plain s) in
    let a = behind old.passed (delays_of delays) in
    let b = behind old.passed others in
    let turns = h.order.turns in
    let same : has_left.0 ≡ h.order = same_state old.cursor has_left.0 h.order has_left.1 h.order_is in
    let from : c ≡ with_delays turns a old.cursor = has_left.2 ∙ (λ i. with_delays (same i).turns a old.cursor) in
    let es = went.0 in
    let passes : Passes listed keys (with_delays turns a old.cursor) old.core.value.state es new.cursor new.core.value.state made =
    subst (λ x. Passes listed keys x old.core.value.state es new.cursor new.core.value.state made) from
    (subst (λ r. Passes r (slice_get r.keys) c old.core.value.state es new.cursor new.core.value.state made) rules_are went.1) in
    let few : made ≤ place - old.passed = let few = went.3 in omega (arith, few, most_is) in
    let on = go_alike listed keys turns old.cursor old.core.value.state a b es new.cursor new.core.value.state made
    (agree_behind old.passed made place (delays_of delays) others few agree) passes in
    let end = on.0 in
    let x = on.1 in
    let run : Chooses plain keys (with_delays turns b old.cursor) old.core.value.state es (with_delays end (behind made b) x) new.core.value.state =
    other_order plain (orders.Delayed steps delays) plain.order keys es (with_delays turns b old.cursor) (with_delays end (behind made b) x) old.core.value.state
    new.core.value.state on.3 in
    let left : behind made b ≡ behind new.passed others = behind_sum old.passed made others ∙ ap (λ m. behind m others) (sym passed_is) in
    let there : with_delays end (behind made b) x ≡ with_delays end (behind new.passed others) new.cursor =
    ap (λ ns. with_delays end ns x) left ∙ ap (with_delays end (behind new.passed others)) (sym on.2) in
    record {
      order = record { turns = end; left = behind made a };
      order_is = ap (λ (y : Cursor). y.order) on.2;
      entries = h.entries ++ es;
      few =
          let before = h.few in
          let more = went.2 in
          let sum = length-append h.entries es in
          let size = ap length h.events_are in
          let chosen = length-map h.entries (λ (e : Entry). e.event) in
          omega (arith, before, more, sum, size, chosen, n_is);
      events_are =
          went.4 ∙ ap (λ xs. xs ++ events_of es) h.events_are ∙ sym (map-append (λ (e : Entry). e.event) h.entries es);
      chosen_are =
          subst (λ y. Chooses plain keys begins s (h.entries ++ es) y new.core.value.state) there
          (chooses_append plain keys h.entries es begins (with_delays turns b old.cursor) (with_delays end (behind made b) x) s old.core.value.state
          new.core.value.state h.chosen_are run);
      is_kept = λ was. keeps s old.events.items (events_of es) went.4 (h.is_kept was);
    }

-- what is kept of a run's Steps, in a copy
pub kept_again : (s : State) (goal : Criteria) (events others : List Event) (steps same : StepsMemory) → others ≡ events → same ≡ steps →
    IsKeptOf goal s events steps → IsKeptOf goal s others same
kept_again s goal events others steps same events_are steps_are h =
    subst (λ m. IsKeptOf goal s others m) (sym steps_are) (subst (λ es. IsKeptOf goal s es steps) (sym events_are) h)

-- back at the start, a point is one of each list's run
pub stands_again : {A E : Type 0} (result : Result A E) (a : Asked) (s : State) (first : StepsMemory) (steps : ℕ) (numbers : List ℕ) (place : ℕ) (point : RunPoint) →
    OnOk result ((others : List ℕ) → IsPointOf a s first steps others point) →
    OnOk result (StandsAt (IsPointOf a s first steps) numbers place point)
stands_again (Ok x) a s first steps numbers place point h = λ others agree. h others
stands_again (Err fault) a s first steps numbers place point h = tt

-- the run of an order from the state at boot on
pub run_behind : (a : Asked) (s : State) (order : Order) (rules : Rules) (n : ℕ) (goal : Criteria) (run : JudgedRun) → rules ≡ rules_in a.numbers order a.goal.keys →
    n ≡ a.events → goal ≡ a.goal → IsBootState a.file a.conf s → ((k : ℕ) → AreGood s.conf.ram a.goal.watches k) →
    IsRunBehind rules n goal s [] s run → IsRun a.file a.conf (rules_in a.numbers order a.goal.keys) a.events a.goal run
run_behind a s order rules n goal run rules_are n_is goal_is boots good h =
    let own = rules_in a.numbers order a.goal.keys in
    let made : IsRunBehind own a.events a.goal s [] s run =
    subst (λ g. IsRunBehind own a.events g s [] s run) goal_is
    (subst (λ m. IsRunBehind own m goal s [] s run) n_is (subst (λ r. IsRunBehind r n goal s [] s run) rules_are h)) in
    let conf : s.conf ≡ a.conf = ap (λ (x : State). x.conf) boots.state_is ∙ boots.conf_is in
    record {
      good = subst (λ (c : ConfValue). (k : ℕ) → AreGood c.ram a.goal.watches k) conf good;
      booted = s;
      is_booted = boots;
      driven = made.driven;
      entries = made.entries;
      state = made.state;
      drives = made.drives;
      accepted = made.accepted;
      events_are = made.events_are;
      judged = made.judged;
      cut = made.cut;
    }
