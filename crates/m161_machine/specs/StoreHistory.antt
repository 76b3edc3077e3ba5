use Rattle.std.specs.Prelude.{◌≡◌, ℕ, Bool, false, ◌==◌, ◌||◌, if◌then◌else◌, List, [], ◌∷◌, ◌++◌, drop, length, map, slice_set, Option, None, Some, Result, Ok, Err}
use Rattle.m161_bus.specs.Board.{BoardState}
use Rattle.m161_cpu.specs.declared.processor.Outcome.{Outcome}
use Rattle.m161_isa.specs.declared.link.LinkUnit.{LinkUnit}
use Rattle.m161_cpu.specs.Links.{LinkAct, LinkState, Keep, LinkTo, End, unit_of}
use Rattle.m161_cpu.specs.Processor.{Processor}
use Rattle.m161_machine.specs.declared.conf.Conf.{Conf}
use Rattle.m161_machine.specs.declared.event.Conflict.{Conflict}
use Rattle.m161_machine.specs.declared.event.Entry.{Entry}
use Rattle.m161_machine.specs.declared.event.Event.{Event}
use Rattle.m161_machine.specs.declared.event.Event.TheVariants as event
use Rattle.m161_machine.specs.declared.event.Refusal.{Refusal}
use Rattle.m161_machine.specs.State.{State, next, step_result}
use Rattle.m161_machine.specs.History.{History}

-- The history of the stores, which says when a link of `ll` is live. A state of it has the list of
-- all stores to RAM, and each link with the number of stores when it was made. A machine's state
-- has of all this only the units of the live links; the law `StoresAgree` says that this is enough.

-- a link of `ll`: the first byte of its unit, and how many stores there had been when it was made
pub record Link : Type 0 where
  pub at : ℕ
  pub made : ℕ

pub record StoreState : Type 0 where
  pub conf : Conf
  pub processors : List Processor
  pub memory : List ℕ
  pub board : BoardState
  -- the unit of links
  pub unit : LinkUnit
  -- a link, or none, for each of 32 processors
  pub links : List (Option Link)
  -- the physical words of RAM that stores have touched, the oldest first
  pub stores : List ℕ
  pub made : ℕ
  pub conflict : Option Conflict

-- one of these words is in the unit that begins at this byte
abbrev pub touches_unit : LinkUnit → ℕ → List ℕ → Bool
touches_unit unit at [] = false
touches_unit unit at (word ∷ words) = (at == unit_of unit word) || touches_unit unit at words

-- the unit of a link that is live: no store since it was made has touched a word of the unit
abbrev pub live : LinkUnit → List ℕ → Option Link → Option ℕ
live unit stores None = None
live unit stores (Some link) =
    if touches_unit unit link.at (drop link.made stores) then None else Some link.at

abbrev pub live_links : LinkUnit → List ℕ → List (Option Link) → LinkState
live_links unit stores links = record { unit = unit; live = map (live unit stores) links }

-- the image of a state with its stores: a machine's state, which has the live links alone
abbrev pub live_state : StoreState → State
live_state s = record {
  conf = s.conf;
  processors = s.processors;
  memory = s.memory;
  board = s.board;
  links = live_links s.unit s.stores s.links;
  made = s.made;
  conflict = s.conflict;
}

-- the stores with one more, if there was one
abbrev pub stores_after : Option ℕ → List ℕ → List ℕ
stores_after None stores = stores
stores_after (Some word) stores = stores ++ word ∷ []

-- the links after a processor's Step, by what it does to its own, after this many stores in all
abbrev pub with_link_act :
    ℕ → LinkAct → LinkUnit → ℕ → List (Option Link) → List (Option Link)
with_link_act p Keep unit stores links = links
with_link_act p (LinkTo at) unit stores links =
    slice_set links p (Some (record { at = unit_of unit at; made = stores }))
with_link_act p End unit stores links = slice_set links p None

-- all stores after an accepted event: a Step appends the word of its store, if it makes one
abbrev pub stores_of : Event → StoreState → List ℕ
stores_of (event.Step p) s = stores_after (step_result p (live_state s)).stored s.stores
stores_of (event.Key byte) s = s.stores
stores_of event.Done s = s.stores

-- the links after an accepted event
abbrev pub links_of : Event → StoreState → List (Option Link)
links_of (event.Step p) s =
    with_link_act p (step_result p (live_state s)).link s.unit (length (stores_of (event.Step p) s))
    s.links
links_of (event.Key byte) s = s.links
links_of event.Done s = s.links

-- a state with these stores and links in place of its live links
abbrev pub with_stores : List ℕ → List (Option Link) → State → StoreState
with_stores stores links s = record {
  conf = s.conf;
  processors = s.processors;
  memory = s.memory;
  board = s.board;
  unit = s.links.unit;
  links = links;
  stores = stores;
  made = s.made;
  conflict = s.conflict;
}

-- an answer with the stores and links after the event
abbrev pub with_stores_of :
    Event → StoreState → Result (Outcome × State) Refusal → Result (Outcome × StoreState) Refusal
with_stores_of e s (Ok r) = Ok (r.0, with_stores (stores_of e s) (links_of e s) r.1)
with_stores_of e s (Err refusal) = Err refusal

-- the result of an event on a state with its stores: `sc` looks at the live links, every other part
-- is as `next` says, and the event's store and link are added
abbrev pub next_store : StoreState → Event → Result (Outcome × StoreState) Refusal
next_store s e = with_stores_of e s (next (live_state s) e)

-- the events of these entries lead from one state with its stores to another
abbrev pub LeadsStores : StoreState → List Entry → StoreState → Type 0
LeadsStores s [] t = t ≡ s
LeadsStores s (e ∷ es) t =
    (u : StoreState) × (next_store s e.event ≡ Ok (e.outcome, u)) × LeadsStores u es t

-- a live link, made before any store
abbrev pub first_link : Option ℕ → Option Link
first_link None = None
first_link (Some at) = Some (record { at = at; made = 0 })

-- a state from which the stores are counted: there are none, and its live links were made before
abbrev pub without_stores : State → StoreState
without_stores s = with_stores [] (map first_link s.links.live) s

-- the stores of a run, and the run, are one another's image
abbrev pub StoresAgree : State → List Entry → State → Type 0
StoresAgree s entries t =
    (u : StoreState) × LeadsStores (without_stores s) entries u × (live_state u ≡ t)

-- the law for the log of a machine, from its base
abbrev pub StoresReplay : History → Type 0
StoresReplay h = StoresAgree h.base h.log h.state
