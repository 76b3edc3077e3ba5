use Rattle.std.specs.Prelude.{◌≡◌, ℕ, ◌&&◌, Bool, true, false, if◌then◌else◌, List, [], ◌∷◌, Option, None, Some, bytes_eq, codes}
use Rattle.m161_gdb.specs.declared.frames.Item.{Item}
use Rattle.m161_gdb.specs.declared.frames.Item.TheVariants as items
use Rattle.m161_gdb.specs.declared.link.Duty.{Duty}
use Rattle.m161_gdb.specs.declared.link.Duty.TheVariants as duties
use Rattle.m161_gdb.specs.declared.link.Link.{Link}

-- Acknowledgements. The items before one are its past, the latest first.

-- whether two bodies that are kept are the same
abbrev pub is_same : Option (List ℕ) → Option (List ℕ) → Bool
is_same None other = false
is_same (Some body) None = false
is_same (Some body) (Some other) = bytes_eq body other

-- whether a body asks for no acknowledgements
abbrev pub is_last_word : Option (List ℕ) → Bool
is_last_word None = false
is_last_word (Some body) = bytes_eq body (codes "QStartNoAckMode")

-- whether frames are acknowledged behind these items: none of them asked for the end of that
abbrev pub is_end : Item → Bool
is_end (items.Frame body right) = right && is_last_word body
is_end items.Plus = false
is_end items.Minus = false
is_end items.Interrupt = false

abbrev pub acknowledging : List Item → Bool
acknowledging [] = true
acknowledging (item ∷ past) = if is_end item then false else acknowledging past

-- whether a body repeats the one that was answered last, with no `+` since. While frames are
-- acknowledged that is the body of the last frame with a right sum: one that got no answer repeated
-- the one before it
abbrev pub repeats : List Item → Option (List ℕ) → Bool
repeats [] body = false
repeats (items.Frame other right ∷ past) body = if right then is_same other body else repeats past body
repeats (items.Plus ∷ past) body = false
repeats (items.Minus ∷ past) body = repeats past body
repeats (items.Interrupt ∷ past) body = repeats past body

-- what is to be done about a frame while frames are acknowledged
abbrev pub duty_of_frame : List Item → Option (List ℕ) → Bool → Duty
duty_of_frame past body right =
    if right then (if repeats past body then duties.Nothing else duties.Answer true)
    else duties.Refuse

-- what is to be done about an item
abbrev pub duty : List Item → Item → Duty
duty past (items.Frame body right) =
    if acknowledging past then duty_of_frame past body right else duties.Answer false
duty past items.Plus = duties.Nothing
duty past items.Minus = if acknowledging past then duties.Resend else duties.Nothing
duty past items.Interrupt = duties.Interrupt

-- a link has received these items
pub record HasReceived (link : Link) (past : List Item) : Type 0 where
  pub mode : link.acknowledging ≡ acknowledging past
  pub last : acknowledging past ≡ true → (body : Option (List ℕ)) → is_same link.last body ≡ repeats past body
  pub begun : acknowledging past ≡ true → is_last_word link.last ≡ false

-- a link holds the body that is to be answered
abbrev pub HoldsBody : Duty → Item → Link → Type 0
HoldsBody (duties.Answer acknowledge) (items.Frame body right) link = link.last ≡ body
HoldsBody (duties.Answer acknowledge) items.Plus link = ⊥
HoldsBody (duties.Answer acknowledge) items.Minus link = ⊥
HoldsBody (duties.Answer acknowledge) items.Interrupt link = ⊥
HoldsBody duties.Nothing item link = Unit {0}
HoldsBody duties.Refuse item link = Unit {0}
HoldsBody duties.Resend item link = Unit {0}
HoldsBody duties.Interrupt item link = Unit {0}

-- a link receives an item, and says what is to be done
pub record Receives (old new : Link) (item : Item) (said : Duty) : Type 0 where
  pub received : (past : List Item) → HasReceived old past → HasReceived new (item ∷ past)
  pub said_is : (past : List Item) → HasReceived old past → said ≡ duty past item
  pub body : HoldsBody said item new
