use Rattle.std.proofs.Common.{ℕ, List, Option, Ok, Err, subst}
use Rattle.std.specs.Prelude.{IfOk, Result}
use Rattle.s161_base.specs.declared.fault.Fault.{Fault}
use Rattle.s161_base.specs.declared.finished.Finished.{Finished}
use Rattle.s161_command.specs.declared.task.SearchTask.{SearchTask}
use Rattle.s161_search.specs.Explores.{IsExploredBy, PrintsExplored}
use Rattle.s161_search.specs.Given.{Given, IsRead}
use Rattle.s161_search.specs.declared.inputs.Inputs.{Inputs}
use Rattle.s161_search.specs.helpers.Explored.{PrintsExploredFor}
use Rattle.s161_search.specs.helpers.Inputs.{given_of}
use Rattle.s161_search.specs.helpers.Never.{HasNever, with_addresses}
use Rattle.s161_search.proofs.Failing.{read_with}

-- What an exploration comes to.

pub explored_so : (task : SearchTask) (limit : ℕ) (never : List (List ℕ)) (files : List ℕ → Option (List ℕ)) (image : Option (List ℕ)) (given : Given) (told : List ℕ)
    (r : Result Finished Fault) → IsRead task files image given → IfOk r (λ done. PrintsExploredFor task limit never given done.text.items told done.status) →
    IfOk r (λ done. IsExploredBy task limit never files image done.text.items told done.status)
explored_so task limit never files image given told (Ok done) is h =
    (with_addresses given h.0, (read_with task files image given h.0 is, h.1), h.2)
explored_so task limit never files image given told (Err fault) is h = tt

pub explored_for : (task : SearchTask) (limit : ℕ) (words : List (List ℕ)) (given : Given) (inputs : Inputs) (told : List ℕ) (r : Result Finished Fault) → HasNever task words given inputs →
    IfOk r (λ done. PrintsExplored limit (given_of inputs) done.text.items told done.status) →
    IfOk r (λ done. PrintsExploredFor task limit words given done.text.items told done.status)
explored_for task limit words given inputs told (Ok done) has h =
    (inputs.never.items, has.1, subst (λ g. PrintsExplored limit g done.text.items told done.status) has.0 h)
explored_for task limit words given inputs told (Err fault) has h = tt
