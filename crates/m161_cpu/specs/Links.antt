use Rattle.std.specs.Prelude.{◌≡◌, ℕ, ◌*◌, ◌/◌, ◌<◌, Bool, false, ◌==◌, if◌then◌else◌, List, map, slice_set, slice_index_or, replicate, Option, None, Some, is_some}
use Rattle.std.specs.Int.{bit_at}
use Rattle.m161_isa.specs.declared.link.LinkUnit.{LinkUnit}
use Rattle.m161_isa.specs.declared.link.LinkUnit.TheVariants.{Word, Line}

-- Links of `ll` and `sc`. MIPS II has the two instructions; what a link is to, and when it ends, is
-- this project's own rule.

-- the first byte of the unit that has a physical address
abbrev pub unit_of : LinkUnit → ℕ → ℕ
unit_of Word at = at / 4 * 4
unit_of Line at = at / 16 * 16

-- the links of 32 processors
pub record LinkState : Type 0 where
  pub unit : LinkUnit
  -- the first byte of the unit that each processor is linked to, if its link is live
  pub live : List (Option ℕ)

abbrev pub no_links : LinkUnit → LinkState
no_links unit = record { unit = unit; live = replicate 32 None }

-- each processor's bit of a number is 1 if its link is live, else 0
abbrev pub HasBits : List (Option ℕ) → ℕ → Type 0
HasBits links live =
    (c : ℕ) → c < 32 → bit_at live c ≡ (if is_some (slice_index_or links c None) then 1 else 0)

-- what a Step does to its own processor's link
pub data LinkAct : Type 0 where
  Keep : LinkAct
  LinkTo : (at : ℕ) → LinkAct
  End : LinkAct

-- a link is to the unit that has an address
abbrev pub is_to : LinkUnit → ℕ → Option ℕ → Bool
is_to unit at None = false
is_to unit at (Some linked) = linked == unit_of unit at

-- a store ends a link to the unit that has its address
abbrev pub unless_to : LinkUnit → ℕ → Option ℕ → Option ℕ
unless_to unit at link = if is_to unit at link then None else link

-- the links after a store, if there was one
abbrev pub after_store : Option ℕ → LinkState → LinkState
after_store None links = links
after_store (Some at) links = record links { live = map (unless_to links.unit at) links.live }

abbrev pub with_link : ℕ → Option ℕ → LinkState → LinkState
with_link c link links = record links { live = slice_set links.live c link }

-- the links after a processor's own
abbrev pub after_act : ℕ → LinkAct → LinkState → LinkState
after_act c Keep links = links
after_act c (LinkTo at) links = with_link c (Some (unit_of links.unit at)) links
after_act c End links = with_link c None links

abbrev pub links_after : ℕ → LinkAct → Option ℕ → LinkState → LinkState
links_after c act stored links = after_act c act (after_store stored links)
