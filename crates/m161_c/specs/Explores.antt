use Rattle.std.specs.Prelude.{◌≡◌, ◌⊎◌, ℕ, Option, None, Some}
use Rattle.m161_judge.specs.Verdict.{Criteria}
use Rattle.m161_machine.specs.History.{History, boot_state}
use Rattle.m161_c.specs.declared.answer.Exploration.{Exploration}
use Rattle.m161_c.specs.declared.session.Session.{Session}
use Rattle.m161_c.specs.Begun.{Begun, HasBegun, HasMore}
use Rattle.m161_c.specs.Explored.{IsExplored, IsUnexplored}

-- What a call that explores does to a session.

-- the machine of a session is explored; or nothing is changed and nothing told
abbrev pub ExploresFor :
    Option History → ℕ → Criteria → ℕ → Exploration → Exploration → Session → Session → Type 0
ExploresFor None limit goal answer before after s t =
    (answer ≡ 255) × (after ≡ before) × (t ≡ s)
ExploresFor (Some m) limit goal answer before after s t =
    (answer ≡ 0) × IsExplored (boot_state m.start) limit goal after t.bytes.items × (t.machine ≡ s.machine)
    ⊎ IsUnexplored (boot_state m.start) limit goal answer × (after ≡ before) × (t ≡ s)

abbrev pub ExploresAs :
    ℕ → Criteria → ℕ → Exploration → Exploration → Session → Session → Type 0
ExploresAs limit goal answer before after s t =
    ExploresFor s.machine limit goal answer before after s t

-- the exploration of a session's machine is begun, in place of the one that it had; or nothing is changed
abbrev pub BeginsFor : Option History → ℕ → Criteria → ℕ → Session → Session → Type 0
BeginsFor None limit goal answer s t = (answer ≡ 255) × (t ≡ s)
BeginsFor (Some m) limit goal answer s t =
    (answer ≡ 0) × HasBegun (boot_state m.start) limit goal t.exploring × (t.machine ≡ s.machine) × (t.bytes ≡ s.bytes)
    ⊎ IsUnexplored (boot_state m.start) limit goal answer × (t ≡ s)

abbrev pub BeginsAs : ℕ → Criteria → ℕ → Session → Session → Type 0
BeginsAs limit goal answer s t = BeginsFor s.machine limit goal answer s t

-- a slice of a session's exploration: there is its answer, and the exploration is no more; or there is none yet; or
-- memory was refused, and the exploration is no more
abbrev pub SlicesFor : Option Begun → ℕ → ℕ → Exploration → Exploration → Session → Session → Type 0
SlicesFor None number answer before after s t = (answer ≡ 255) × (after ≡ before) × (t ≡ s)
SlicesFor (Some b) number answer before after s t =
    (t.machine ≡ s.machine)
    × ((answer ≡ 0) × IsExplored b.boot b.limit b.goal after t.bytes.items × (t.exploring ≡ None)
    ⊎ (answer ≡ 25) × HasMore b number after t.exploring × (t.bytes ≡ s.bytes)
    ⊎ (answer ≡ 254) × (after ≡ before) × (t.exploring ≡ None) × (t.bytes ≡ s.bytes))

abbrev pub SlicesAs : ℕ → ℕ → Exploration → Exploration → Session → Session → Type 0
SlicesAs number answer before after s t = SlicesFor s.exploring number answer before after s t
