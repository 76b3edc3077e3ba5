use Rattle.std.proofs.Common.{◌≡◌, ◌∙◌, refl, ap, ℕ, ◌*◌, ◌/◌, ◌≤◌, Bool, true, false, nat_eq, arith, Option, None, Some, Result, Ok, Err, slice_index}
use Rattle.std.specs.Prelude.{if◌then◌else◌, option_and_then, option_map}
use Rattle.std.proofs.lemmas.Bool.Decides.{nat_tests}
use Rattle.m161_isa.specs.Instr.{rt_of}
use Rattle.m161_cpu.specs.declared.processor.Outcome.{Outcome}
use Rattle.m161_cpu.specs.declared.processor.Outcome.TheVariants as outcomes
use Rattle.m161_cpu.specs.Processor.{Processor}
use Rattle.m161_cpu.specs.Translation.{is_store}
use Rattle.m161_cpu.specs.Uses.{Reference, reference_in}
use Rattle.m161_cpu.specs.UsesLaw.{StepUses}
use Rattle.m161_machine.specs.declared.event.Event.TheVariants.{Step}
use Rattle.m161_machine.specs.Fetched.{fetched}
use Rattle.m161_machine.specs.State.{State, next, processor_at, step_result, word_in}
use Rattle.m161_machine.specs.Uses.{uses_in}
use Rattle.m161_trace.specs.declared.loads.Load.{Load}
use Rattle.m161_trace.specs.Law.{LoadsTell, TellsLoad}
use Rattle.m161_trace.specs.Loads.{load_by, load_from, load_of, loads_by, loads_from, word_got}
use Rattle.m161_trace.specs.helpers.Loads.{IsReached}
use Rattle.m161_trace.proofs.Loading.{reaches}
use Rattle.m161_trace.proofs.Near.{accepted}

-- The load on a line is that of its Step.

-- the reference of the Step has this physical address
from_address : (p : ℕ) (s t : State) (word : ℕ) (r : Reference) (reached : IsReached (processor_at p s.processors) r (uses_in p s).access) → fetched p s outcomes.Ran ≡ Some word →
    reference_in (processor_at p s.processors) word ≡ Some r → is_store r.access ≡ false → load_of p s outcomes.Ran t ≡ load_from p s t (rt_of word) reached.at
unfolding load_of
from_address p s t word r reached is refers loads =
    let here : loads_by (processor_at p s.processors) word ≡ Some reached.at = rw (refers, loads, reached.address_is) refl in
    rw (is, here) refl

got : (r : ℕ) (p : Processor) → 1 ≤ r → word_got r p ≡ Some (slice_index p.registers r)
got r p some =
    let no : nat_eq r 0 ≡ false = grind (arith, nat_tests, some) in
    rw no refl

tells : (p : ℕ) (s t : State) (word : ℕ) (r : Reference) (reached : IsReached (processor_at p s.processors) r (uses_in p s).access) → fetched p s outcomes.Ran ≡ Some word →
    reference_in (processor_at p s.processors) word ≡ Some r → is_store r.access ≡ false → TellsLoad p s t word r
tells p s t word r reached is refers loads = record {
  at = reached.at;
  address_is = reached.address_is;
  of_ram = λ loaded here. from_address p s t word r reached is refers loads ∙ rw here refl;
  of_slot = λ here some. from_address p s t word r reached is refers loads ∙ rw (here, got (rt_of word) (processor_at p t.processors) some) refl;
}

ran_only : (p : ℕ) (s t : State) (o : Outcome) (load : Load) → load_of p s o t ≡ Some load → o ≡ outcomes.Ran
unfolding load_of
ran_only p s t outcomes.Ran load h = refl
ran_only p s t (outcomes.Trapped code vector) load h = absurd (let bad : ◌≡◌ {A = Option Load} None (Some load) = h in cc)
ran_only p s t outcomes.Idle load h = absurd (let bad : ◌≡◌ {A = Option Load} None (Some load) = h in cc)
ran_only p s t outcomes.PoweredOff load h = absurd (let bad : ◌≡◌ {A = Option Load} None (Some load) = h in cc)
ran_only p s t (outcomes.Conflict row other) load h = absurd (let bad : ◌≡◌ {A = Option Load} None (Some load) = h in cc)
ran_only p s t outcomes.Taken load h = absurd (let bad : ◌≡◌ {A = Option Load} None (Some load) = h in cc)

-- an instruction whose load is told loads

by_access : (store : Bool) (at : Option ℕ) (f : ℕ → Option Load) (load : Load) → option_and_then f (if store then None else at) ≡ Some load → store ≡ false
by_access true at f load h = absurd (let bad : ◌≡◌ {A = Option Load} None (Some load) = h in cc)
by_access false at f load h = refl

by_reference : (p : Processor) (o : Option Reference) (f : ℕ → Option Load) (load : Load) → option_and_then f (option_and_then (loads_from p) o) ≡ Some load →
    (r : Reference) × (o ≡ Some r) × (is_store r.access ≡ false)
by_reference p None f load h = absurd (let bad : ◌≡◌ {A = Option Load} None (Some load) = h in cc)
by_reference p (Some r) f load h = (r, refl, by_access (is_store r.access) _ f load h)

by_fetched : (p : ℕ) (s t : State) (o : Option ℕ) (load : Load) → option_and_then (load_by p s t) o ≡ Some load →
    (word : ℕ) × (r : Reference) × (o ≡ Some word) × (reference_in (processor_at p s.processors) word ≡ Some r) × (is_store r.access ≡ false)
by_fetched p s t None load h = absurd (let bad : ◌≡◌ {A = Option Load} None (Some load) = h in cc)
by_fetched p s t (Some word) load h =
    let found = by_reference (processor_at p s.processors) (reference_in (processor_at p s.processors) word) (load_from p s t (rt_of word)) load h in
    (word, found.0, refl, found.1, found.2)

loads_only : (p : ℕ) (s t : State) (load : Load) → load_of p s outcomes.Ran t ≡ Some load →
    (word : ℕ) × (r : Reference) × (fetched p s outcomes.Ran ≡ Some word) × (reference_in (processor_at p s.processors) word ≡ Some r) × (is_store r.access ≡ false)
unfolding load_of
loads_only p s t load h = by_fetched p s t (fetched p s outcomes.Ran) load h

pub loads_tell : StepUses → LoadsTell
loads_tell law = record {
  told = λ p s t word r h is refers loads.
      let a = accepted p s outcomes.Ran t h in
      tells p s t word r
      (reaches p s word (uses_in p s).access law (ap (λ (x : Outcome × State). x.0) a.given) is refl r refers)
      is refers loads;
  only_ran = ran_only;
  only_loads = loads_only;
}
