use Rattle.std.specs.Prelude.{◌≡◌, Bool, List, Option}
use Rattle.m161_machine.specs.declared.event.Event.{Event}
use Rattle.m161_shorten.specs.declared.judged.Judgement.{Judgement}
use Rattle.m161_shorten.specs.Passes.{Shortens}

-- the law of the passes, by a judge that says one thing of each list: they end, with one list
abbrev pub EndsWithOne :
    {K : Type 0} → (K → Bool) → (List Event → Option (Judgement K) → Type 0) → List Event → Type 0
EndsWithOne is_kind judges es =
    (fs : List Event) × Shortens is_kind judges es fs
    × ((gs : List Event) → Shortens is_kind judges es gs → gs ≡ fs)
