use Rattle.std.specs.Prelude.{ℕ, ◌+◌, Bool, true, false, not, nat_lt, ◌==◌, ◌&&◌, ◌||◌, if◌then◌else◌, List, [], ◌∷◌, length, Option, None, Some}
use Rattle.m161_machine.specs.declared.event.Event.{Event}
use Rattle.m161_machine.specs.declared.event.Event.TheVariants as events
use Rattle.m161_shorten.specs.declared.judged.Judgement.{Judgement}
use Rattle.m161_shorten_tests.specs.declared.wrong.Wrong.{Wrong}
use Rattle.m161_shorten_tests.specs.declared.wrong.Wrong.TheVariants.{Plain, Racy}

-- The verdicts of the tests' judges.

-- what was seen: 1 from a Step of processor 0 on, 2 from one of processor 1 behind that on
abbrev pub seen_after : ℕ → Event → ℕ
seen_after seen (events.Step p) =
    if p == 0 then 1 else if p == 1 && nat_lt 0 seen then 2 else seen
seen_after seen (events.Key byte) = seen
seen_after seen events.Done = seen

-- a Step of processor 2 behind one of processor 0
abbrev pub goes_wrong : ℕ → Event → Bool
goes_wrong seen (events.Step p) = p == 2 && nat_lt 0 seen
goes_wrong seen (events.Key byte) = false
goes_wrong seen events.Done = false

abbrev pub kind_of : ℕ → Wrong
kind_of seen = if seen == 2 then Racy else Plain

abbrev pub in_order : ℕ → ℕ → List Event → Option (Judgement Wrong)
in_order seen place [] = None
in_order seen place (e ∷ es) =
    if goes_wrong seen e then Some (record { kind = kind_of seen; needs = place + 1 })
    else in_order (seen_after seen e) (place + 1) es

-- side by side

abbrev pub is_step : ℕ → Event → Bool
is_step p (events.Step q) = p == q
is_step p (events.Key byte) = false
is_step p events.Done = false

abbrev pub begins : ℕ → List Event → Bool
begins p [] = false
begins p (e ∷ es) = is_step p e

abbrev pub beside : ℕ → ℕ → List Event → Bool
beside p q [] = false
beside p q (e ∷ es) = (is_step p e && begins q es) || beside p q es

-- all of a list is needed, unless two Steps of 0 are side by side and none of 0 before one of 1
abbrev pub unless_alone : List Event → Option (Judgement Wrong)
unless_alone es =
    if beside 0 0 es && not (beside 0 1 es) then None
    else Some (record { kind = Plain; needs = length es })
