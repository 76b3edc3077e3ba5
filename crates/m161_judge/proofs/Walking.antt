use Rattle.std.proofs.Common.{◌≡◌, ◌∙◌, sym, ap, subst, ℕ, ◌+◌, ◌-◌, ◌<◌, Bool, true, false, List, length, get_or, take, arith}
use Rattle.std.specs.Prelude.{Some, Ok, count_by, nat_lt, slice_get}
use Rattle.std.proofs.lemmas.Bool.Decides.{nat_tests}
use Rattle.std.proofs.lemmas.List.Sums.{count_by_more_no, count_by_more_yes}
use Rattle.std.proofs.lemmas.Option.{get_or_from_slice_get, slice_get-get_or}
use Rattle.m161_machine.specs.declared.event.Event.{Event}
use Rattle.m161_machine.specs.declared.event.Event.TheVariants.{Step, Key, Done}
use Rattle.m161_machine.specs.State.{State}
use Rattle.m161_judge.specs.declared.seen.Seen.{Seen}
use Rattle.m161_judge.specs.Verdict.{Criteria, IsRefused, LeadsTo, has_keys, is_key}
use Rattle.m161_judge.specs.Seen.{HasSeen}
use Rattle.m161_judge.specs.helpers.Walk.{Ends, MakesEvent, left_after}
use Rattle.m161_judge.proofs.Judging.{refused_at}
use Rattle.m161_judge.proofs.Running.{leads_more}

-- The walk along a list of events.

pub ends_off : (s : State) (events : List Event) (n : ℕ) (t : State) → LeadsTo s events n t → t.board.off ≡ true → Ends s events n t
ends_off s events n t at off = record {
  leads = at;
  is_last = λ on. let bad : true ≡ false = sym off ∙ on in absurd cc;
}

pub ends_all : (s : State) (events : List Event) (n : ℕ) (t : State) → LeadsTo s events n t → n ≡ length events → Ends s events n t
ends_all s events n t at all = record { leads = at; is_last = λ on. all }

-- keys are left
pub left_is : (left n m : ℕ) → left ≡ m - n → nat_lt 0 left ≡ nat_lt n m
left_is left n m h = grind (arith, nat_tests)

-- a walk so far
pub record Walking (goal : Criteria) (s : State) (events : List Event) (n left : ℕ) (t : State) (seen : Seen) : Type 0 where
  pub leads : LeadsTo s events n t
  pub left_is : left ≡ length goal.keys - count_by is_key (take n events)
  pub looked : HasSeen goal s events n seen

pub keys_are : (goal : Criteria) (s : State) (events : List Event) (n left : ℕ) (t : State) (seen : Seen) → Walking goal s events n left t seen →
    nat_lt 0 left ≡ has_keys goal.keys (take n events)
keys_are goal s events n left t seen w = left_is left (count_by is_key (take n events)) (length goal.keys) w.left_is

left_less : (events : List Event) (n left keys : ℕ) (e : Event) → slice_get events n ≡ Some e → n < length events →
    left ≡ keys - count_by is_key (take n events) → left_after left e ≡ keys - count_by is_key (take (n + 1) events)
left_less events n left keys (Step p) at less h =
    let same = count_by_more_no is_key events n (Step p) less (ap is_key (get_or_from_slice_get events n (Step p) (Step p) at)) in omega (arith, h, same)
left_less events n left keys (Key byte) at less h =
    let one = count_by_more_yes is_key events n (Key byte) less (ap is_key (get_or_from_slice_get events n (Key byte) (Key byte) at)) in omega (arith, h, one)
left_less events n left keys Done at less h =
    let same = count_by_more_no is_key events n Done less (ap is_key (get_or_from_slice_get events n Done Done at)) in omega (arith, h, same)

-- one event more
pub walks_more : (goal : Criteria) (s : State) (events : List Event) (n left after : ℕ) (d : Event) (t u : State) (seen looked : Seen) (made : Bool) →
    n < length events → Walking goal s events n left t seen → HasSeen goal s events (n + 1) looked →
    MakesEvent t (get_or events n d) (Ok made) u → made ≡ true → after ≡ left_after left (get_or events n d) →
    Walking goal s events (n + 1) after u looked
walks_more goal s events n left after d t u seen looked made less w h makes is after_is =
    let e = get_or events n d in
    let at : slice_get events n ≡ Some e = slice_get-get_or events n d less in
    let m : MakesEvent t e (Ok true) u = subst (λ b. MakesEvent t e (Ok b) u) is makes in
    record {
      leads = leads_more events n e m.0 s t u at less w.leads m.1;
      left_is = after_is ∙ left_less events n left (length goal.keys) e at less w.left_is;
      looked = h;
    }

-- the event is refused
pub walks_refused : (goal : Criteria) (s : State) (events : List Event) (n left : ℕ) (d : Event) (t u : State) (seen : Seen) (made : Bool) →
    n < length events → Walking goal s events n left t seen → t.board.off ≡ false →
    MakesEvent t (get_or events n d) (Ok made) u → made ≡ false → IsRefused s events
walks_refused goal s events n left d t u seen made less w on makes is =
    let e = get_or events n d in
    let at : slice_get events n ≡ Some e = slice_get-get_or events n d less in
    let m : MakesEvent t e (Ok false) u = subst (λ b. MakesEvent t e (Ok b) u) is makes in
    refused_at s events n e t m.0 w.leads at on m.1
