use Rattle.std.specs.Prelude.{◌≡◌, ℕ, ◌==◌, if◌then◌else◌, List, [], ◌∷◌, map, All}
use Rattle.m161_machine.specs.State.{State}
use Rattle.m161_machine.specs.StoreHistory.{StoreState, live_state}
use Rattle.m161_machine.proofs.Linking.{IsMade}
use Rattle.m161_audit.specs.declared.shootdown.Progress.{Progress}
use Rattle.m161_audit.specs.declared.shootdown.Progress.TheVariants.{Before, Changed, GoneOn}
use Rattle.m161_audit.specs.declared.shootdown.Shootdown.{Shootdown}
use Rattle.m161_audit.specs.declared.watch.Watch.{Watch}

-- How far each shootdown is: what an audit keeps in place of the list of stores.

-- after a store to the mark
abbrev pub if_changed : Progress → Progress
if_changed Before = Before
if_changed Changed = GoneOn
if_changed GoneOn = GoneOn

-- after a store to a word
abbrev pub progress_after : Watch → ℕ → Progress → Progress
progress_after w word p =
    if w.pte == word then Changed else if w.done == word then if_changed p else p

abbrev pub progress_from : Watch → Progress → List ℕ → Progress
progress_from w p [] = p
progress_from w p (word ∷ words) = progress_from w (progress_after w word p) words

abbrev pub progress_of : Watch → List ℕ → Progress
progress_of w stores = progress_from w Before stores

-- the shootdown of a watch after these stores
abbrev pub shootdown_at : List ℕ → Watch → Shootdown
shootdown_at stores w = record { watch = w; progress = progress_of w stores }

abbrev pub tracked : List Watch → List ℕ → List Shootdown
tracked watches stores = map (shootdown_at stores) watches

-- the machine's state and the shootdowns are those of a state with its stores
pub record IsAt (watches : List Watch) (s : StoreState) (core : State) (items : List Shootdown)
    : Type 0 where
  pub core_is : core ≡ live_state s
  pub items_are : items ≡ tracked watches s.stores
  pub made : All (IsMade s.stores) s.links
