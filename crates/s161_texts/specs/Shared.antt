use Rattle.std.specs.Prelude.{ℕ, ◌/◌, nat_lt, Bool, true, false, not, ◌==◌, ◌&&◌, ◌||◌, if◌then◌else◌, List, [], ◌∷◌, ◌++◌, flat_map, Option, None, Some}
use Rattle.std.specs.List.{list_any}
use Rattle.m161_cpu.specs.declared.processor.Outcome.{Outcome}
use Rattle.m161_machine.specs.declared.event.Event.{Event}
use Rattle.m161_machine.specs.declared.event.Event.TheVariants as events
use Rattle.m161_machine.specs.State.{State}
use Rattle.m161_trace.specs.declared.touched.Touched.{Touched}
use Rattle.m161_trace.specs.Touched.{touched}

-- The words of RAM that processors share. A word has a number here, its address over 4.

-- that a Step of a processor loads or stores a word
pub record Touch : Type 0 where
  pub processor : ℕ
  pub word : ℕ
  pub stores : Bool

abbrev pub touch_at : ℕ → Bool → Option ℕ → List Touch
touch_at p stores None = []
touch_at p stores (Some at) = record { processor = p; word = at / 4; stores = stores } ∷ []

abbrev pub touches_of : ℕ → Touched → List Touch
touches_of p t = touch_at p false t.loaded ++ touch_at p true t.stored

-- those of an event in a state, which has this outcome
abbrev pub event_touches : Event → State → Outcome → List Touch
event_touches (events.Step p) s o = touches_of p (touched (events.Step p) s o)
event_touches (events.Key byte) s o = []
event_touches events.Done s o = []

-- the processors that touch a word, one for each touch
abbrev pub user_of : ℕ → Touch → List ℕ
user_of word t = if t.word == word then t.processor ∷ [] else []

abbrev pub users_of : ℕ → List Touch → List ℕ
users_of word touches = flat_map (user_of word) touches

-- one of them isn't the first
abbrev pub are_two : List ℕ → Bool
are_two [] = false
are_two (p ∷ ps) = list_any (λ q. not (q == p)) ps

-- one of the touches stores it
abbrev pub is_stored : ℕ → List Touch → Bool
is_stored word touches = list_any (λ t. (t.word == word) && t.stores) touches

-- it is one of so many words, two processors touch it, and one of them stores it
abbrev pub is_shared : ℕ → List Touch → ℕ → Bool
is_shared words touches word =
    nat_lt word words && (are_two (users_of word touches) && is_stored word touches)

-- a Step touches one of these words

abbrev pub is_one : (ℕ → Bool) → Option ℕ → Bool
is_one words None = false
is_one words (Some at) = words (at / 4)

abbrev pub has_one : (ℕ → Bool) → Touched → Bool
has_one words t = is_one words t.loaded || is_one words t.stored
