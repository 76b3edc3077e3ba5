use Rattle.std.specs.Prelude.{◌≡◌, ◌⊎◌, ℕ, Bool, true, false, List, [], ◌∷◌, Option, None, Some, Result, Ok, Err}
use Rattle.std.specs.Io.KnownBytes.{Appends, Consumes}
use Rattle.m161_gdb.specs.declared.frames.Item.{Item}
use Rattle.m161_gdb.specs.declared.link.Duty.{Duty}
use Rattle.m161_gdb.specs.declared.link.Link.{Link}
use Rattle.m161_gdb.specs.Frames.{HasRead}
use Rattle.m161_gdb.specs.Links.{HasReceived}
use Rattle.m161_gdb.specs.Stops.{StopsValue}
use Rattle.m161_moves.specs.Course.{Course}
use Rattle.m161_server.specs.declared.fault.ServerFault.{ServerFault}
use Rattle.m161_server.specs.declared.fault.ServerFault.TheVariants as faults
use Rattle.m161_server.specs.declared.serving.Talk.{Talk}
use Rattle.m161_gdb.specs.declared.link.Duty.TheVariants as duties
use Rattle.m161_server.specs.Sessions.{Standing, standing}
use Rattle.m161_server.specs.Serving.{Breaks, DoesItem, in_order, Ends, Passes, Progress, WritesAnswer, interrupted, packet_in}
use Rattle.m161_server.specs.Streams.{streams}
use Rattle.m161_server.specs.helpers.Streams.{AppendsSome}

-- The parts of serving.

-- a change of the stops was done, or there may not be one more
abbrev pub IsChanged : Option StopsValue → Bool → StopsValue → StopsValue → Type 0
IsChanged None done old new = (done ≡ false) × (new ≡ old)
IsChanged (Some stops) done old new = (done ≡ true) × (new ≡ stops)

-- what is to be written was written, whole, or in part where the output failed; or nothing was
abbrev pub Turn :
    {E : Type 0} → (E → Type 0) → (List ℕ → Bool → Type 0) → Option (List ℕ) → Option (List ℕ) →
    Result Bool (ServerFault E) → Type 0
Turn Fails Does before after (Ok more) = (text : List ℕ) × Does text more × Appends before after text
Turn Fails Does before after (Err faults.Output) =
    (text : List ℕ) × (more : Bool) × Does text more × AppendsSome before after text
Turn Fails Does before after (Err faults.Input) = ⊥
Turn Fails Does before after (Err faults.Memory) = after ≡ before
Turn Fails Does before after (Err (faults.Run error)) = Fails error × (after ≡ before)

-- what is done by a duty, where the link has this body
abbrev pub Only : List ℕ → Standing → List ℕ → List ℕ → Standing → List ℕ → Bool → Type 0
Only text x sent written y last_sent more =
    (written ≡ text) × (y ≡ x) × (last_sent ≡ sent) × (more ≡ true)

abbrev pub DoesAny :
    Course → Duty → Option (List ℕ) → Standing → List ℕ → List ℕ → Standing → List ℕ → Bool → Type 0
DoesAny course duties.Nothing body x sent written y last_sent more =
    Only [] x sent written y last_sent more
DoesAny course duties.Refuse body x sent written y last_sent more =
    Only (45 ∷ []) x sent written y last_sent more
DoesAny course duties.Resend body x sent written y last_sent more =
    Only sent x sent written y last_sent more
DoesAny course duties.Interrupt body x sent written y last_sent more =
    (written ≡ []) × (y ≡ standing x.place (interrupted x.session)) × (last_sent ≡ sent) × (more ≡ true)
DoesAny course (duties.Answer acknowledge) body x sent written y last_sent more =
    WritesAnswer course acknowledge (packet_in body) x sent written y last_sent more

-- an item is dealt with, behind others
abbrev pub at : Standing → Link → List Item → Progress
at x link past = record { stands = x; sent = link.sent.items; past = past }

pub record Deals
    {E : Type 0} (Fails : E → Type 0) (course : Course) (item : Item) (past : List Item)
    (x : Standing) (old : Link) (y : Standing) (new : Link) (before after : Option (List ℕ))
    (result : Result Bool (ServerFault E)) : Type 0 where
  pub received : HasReceived new (item ∷ past)
  pub turn : Turn Fails (λ text more. DoesItem course item (at x old past) text
      (at y new (item ∷ past)) more) before after result

-- how far a session is, by what it keeps
abbrev pub progress : ℕ → Talk → List Item → Progress
progress place talk past = at (standing place talk.session) talk.link past

-- a byte that was read makes no item, or this one
pub record TakesNone
    {E : Type 0} (old : Talk) (new : Talk) (from to : ℕ) (bytes : List ℕ) (past : List Item)
    (before after : Option (List ℕ)) (result : Result Bool (ServerFault E)) : Type 0 where
  pub has_read : HasRead new.reader bytes (in_order past)
  pub link : new.link ≡ old.link
  pub session : new.session ≡ old.session
  pub place : to ≡ from
  pub written : after ≡ before
  pub goes_on : result ≡ Ok true

pub record TakesItem
    {E : Type 0} (Fails : E → Type 0) (course : Course) (old : Talk) (new : Talk) (from to : ℕ)
    (bytes : List ℕ) (past : List Item) (before after : Option (List ℕ))
    (result : Result Bool (ServerFault E)) : Type 0 where
  pub item : Item
  pub has_read : HasRead new.reader bytes (in_order (item ∷ past))
  pub deals : Deals Fails course item past (standing from old.session) old.link
      (standing to new.session) new.link before after result

-- or memory was refused for it
abbrev pub Takes :
    {E : Type 0} → (E → Type 0) → Course → Talk → Talk → ℕ → ℕ → List ℕ → List Item →
    Option (List ℕ) → Option (List ℕ) → Result Bool (ServerFault E) → Type 0
Takes Fails course old new from to bytes past before after result =
    TakesNone old new from to bytes past before after result
    ⊎ (TakesItem Fails course old new from to bytes past before after result
    ⊎ ((result ≡ Err faults.Memory) × (after ≡ before)))

-- a session that goes on
pub record Serving
    (course : Course) (place : ℕ) (input output : Option (List ℕ)) (now : ℕ) (talk : Talk)
    (left written : Option (List ℕ)) : Type 0 where
  pub bytes : List ℕ
  pub past : List Item
  pub text : List ℕ
  pub has_read : HasRead talk.reader bytes (in_order past)
  pub received : HasReceived talk.link past
  pub passes : Passes course place past text (progress now talk past)
  pub are_read : Consumes input left bytes
  pub are_written : Appends output written text

-- one that goes on, has ended, or was broken off
abbrev pub Serves :
    {E : Type 0} → (E → Type 0) → Course → ℕ → Option (List ℕ) → Option (List ℕ) → ℕ → Talk →
    Option (List ℕ) → Option (List ℕ) → Result Bool (ServerFault E) → Type 0
Serves Fails course place input output now talk left written (Ok true) =
    Serving course place input output now talk left written
Serves Fails course place input output now talk left written (Ok false) =
    Ends course place (streams input left output written)
Serves Fails course place input output now talk left written (Err fault) =
    Breaks Fails course place (streams input left output written) fault
