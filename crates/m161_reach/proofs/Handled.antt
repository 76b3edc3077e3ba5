use Rattle.std.proofs.Common.{◌≡◌, ◌⊎◌, inl, inr, ◌∙◌, ap, sym, subst, ℕ, ◌<◌, arith, List, [], length, Option}
use Rattle.m161_cpu.specs.Processor.{Processor}
use Rattle.m161_machine.specs.State.{State}
use Rattle.m161_machine.specs.declared.event.Event.{Event}
use Rattle.m161_alike.specs.WordsLaw.{AreOfOneConf}
use Rattle.m161_explore.specs.declared.system.Advanced.{Advanced}
use Rattle.m161_explore.specs.declared.system.Advanced.TheVariants.{Refused, Passed, Judged, Stopped}
use Rattle.m161_states.specs.declared.verdict.Unknown.{Unknown}
use Rattle.m161_states.specs.declared.verdict.EventVerdict.{EventVerdict}
use Rattle.m161_states.specs.Question.{Question}
use Rattle.m161_states.specs.Shape.{IsShaped}
use Rattle.m161_states.specs.System.{Explored, event_of, fresh, start}
use Rattle.m161_states.specs.Views.{view}
use Rattle.m161_reach.specs.Met.{met_start}
use Rattle.m161_reach.specs.Reach.{IsMet, rules_of}
use Rattle.m161_reach.specs.helpers.Advance.{AdvancesBy, IsBehind, asked}
use Rattle.m161_reach.specs.helpers.Handling.{IsHandled}
use Rattle.m161_reach.specs.helpers.Restore.{again}
use Rattle.m161_reach.proofs.Meeting.{is_behind}

-- A state in hand.

refused_same : (q : Question) (x t : Explored) (e : Option Event) (come : Advanced EventVerdict Unknown) → AdvancesBy q x e t come → come ≡ Refused → t ≡ x
refused_same q x t e Refused h is = h.2
refused_same q x t e Passed h is = absurd (let bad : ◌≡◌ {A = Advanced EventVerdict Unknown} Passed Refused = is in cc)
refused_same q x t e (Judged what) h is = absurd (let bad : ◌≡◌ {A = Advanced EventVerdict Unknown} (Judged what) Refused = is in cc)
refused_same q x t e (Stopped reason) h is = h.1

pub handled : (q : Question) (x t : Explored) (n : ℕ) (e : Option Event) (come : Advanced EventVerdict Unknown) → event_of q x n ≡ e →
    AdvancesBy (asked q.goal q.known) x e t come → IsHandled q x n t come
handled q x t n e come is h = (
  subst (λ f. IsBehind q.goal x f t) (sym is) (is_behind (asked q.goal q.known) x t e come h),
  λ none. refused_same (asked q.goal q.known) x t e come h none,
)

-- the words of a view are those of the state, or there are none

pub words_kept : {V : Type 0} (q : Question) (x t : Explored) (old new : List ℕ) (come : Advanced V Unknown) → (0 < length old → old ≡ view q x) → (come ≡ Refused → t ≡ x) →
    (new ≡ []) ⊎ ((come ≡ Refused) × (new ≡ old)) → 0 < length new → new ≡ view q t
words_kept q x t old new come words same (inl none) some = absurd (let size = ap length none in let bad : ⊥ = omega (arith, size, some) in bad)
words_kept q x t old new come words same (inr kept) some =
    let size = ap length kept.1 in
    kept.1 ∙ words (omega (arith, size, some)) ∙ sym (ap (view q) (same kept.0))

-- a state's shape hangs on no count of its events
pub shaped_again : (s : State) → IsShaped (fresh s) → IsShaped s
shaped_again s h = record {
  processors = h.processors;
  size_is = h.size_is;
  places = h.places;
  crams = h.crams;
  other_places = h.other_places;
  links = h.links;
  other_links = h.other_links;
  whole = h.whole;
  bytes = h.bytes;
}

-- states of machines of one configuration with another are so with each other
pub one_conf : (boot s t : State) → AreOfOneConf boot (fresh s) → AreOfOneConf boot t → AreOfOneConf s t
one_conf boot s t h g = record {
  conf = sym h.conf ∙ g.conf;
  ram = sym h.ram ∙ g.ram;
  processors = sym h.processors ∙ g.processors;
  unit = sym h.unit ∙ g.unit;
  memory = sym h.memory ∙ g.memory;
}

-- a state that is made anew has the memory of the one that it is made from
pub placed_is : (x y : Explored) (ps : List Processor) → y ≡ again ps x → y.state.memory ≡ x.state.memory
placed_is x y ps same = ap (λ (z : Explored). z.state.memory) same

pub first_met : (q : Question) → IsMet q (start q)
unfolding rules_of
first_met q = met_start q
