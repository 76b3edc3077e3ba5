use Rattle.std.proofs.Common.{◌≡◌, ◌∙◌, ap, ℕ, ◌≤◌, List, length, take, replicate}
use Rattle.std.proofs.lemmas.List.{length-take-le}
use Rattle.m161_machine.specs.declared.event.Entry.{Entry}
use Rattle.m161_machine.specs.declared.event.Event.TheVariants.{Step}
use Rattle.m161_machine.specs.History.{Continues, History, Slides}
use Rattle.m161_machine.specs.Stretch.{Advances}

-- Steps whose entries were appended.

-- a machine with the entries of these Steps goes on from the one without
pub goes_on : (p : ℕ) (m n : History) (kept : List Entry) (made : ℕ) → made ≤ length kept → Advances p m.state (take made kept) n.state →
    Slides m (take made kept) n → Continues m (replicate made (Step p)) n
goes_on p m n kept made within h slides =
    let long : length (take made kept) ≡ made = length-take-le made kept within in
    record {
      entries = take made kept;
      events_are = h.1 ∙ ap (λ n. replicate n (Step p)) long;
      run_is = h.0;
      slides = slides;
    }
