-- Duties that are done are what is done about items.
use Rattle.std.proofs.Common.{◌≡◌, ℕ, Bool, List, ◌∷◌, Option, Result, Ok, Err, refl, ap₂, ◌∙◌, subst}
use Rattle.m161_gdb.specs.declared.frames.Item.{Item}
use Rattle.m161_gdb.specs.declared.frames.Item.TheVariants as items
use Rattle.m161_gdb.specs.declared.link.Duty.{Duty}
use Rattle.m161_gdb.specs.declared.link.Duty.TheVariants as duties
use Rattle.m161_gdb.specs.declared.link.Link.{Link}
use Rattle.m161_gdb.specs.Links.{HasReceived, HoldsBody, Receives}
use Rattle.m161_moves.specs.Course.{Course}
use Rattle.m161_server.specs.declared.fault.ServerFault.{ServerFault}
use Rattle.m161_server.specs.declared.fault.ServerFault.TheVariants as faults
use Rattle.m161_server.specs.Sessions.{Standing}
use Rattle.m161_server.specs.Serving.{DoesDuty, Progress, WritesAnswer, packet_in}
use Rattle.m161_server.specs.helpers.Turns.{Deals, DoesAny, Turn, at}

-- where a link has the same of what it received
pub kept :
    (old new : Link) (past : List Item) → new.acknowledging ≡ old.acknowledging → new.last ≡ old.last →
    HasReceived old past → HasReceived new past
kept old new past mode last h = record {
  mode = mode ∙ h.mode;
  last = rw last h.last;
  begun = rw last h.begun;
}

turn_more :
    {E : Type 0} (Fails : E → Type 0) (A B : List ℕ → Bool → Type 0) (before after : Option (List ℕ))
    (result : Result Bool (ServerFault E)) → ((text : List ℕ) (more : Bool) → A text more → B text more) →
    Turn Fails A before after result → Turn Fails B before after result
turn_more Fails A B before after (Ok more) f t = (t.0, f t.0 more t.1, t.2)
turn_more Fails A B before after (Err faults.Output) f t = (t.0, t.1, f t.0 t.1 t.2, t.3)
turn_more Fails A B before after (Err faults.Input) f t = t
turn_more Fails A B before after (Err faults.Memory) f t = t
turn_more Fails A B before after (Err (faults.Run error)) f t = t

abbrev progress_of : Standing → List ℕ → List Item → Progress
progress_of x sent past = record { stands = x; sent = sent; past = past }

does_duty :
    (course : Course) (d : Duty) (item : Item) (past : List Item) (link : Link) (x y : Standing)
    (sent text last_sent : List ℕ) (more : Bool) → HoldsBody d item link →
    DoesAny course d link.last x sent text y last_sent more →
    DoesDuty course d item (progress_of x sent past) text (progress_of y last_sent (item ∷ past)) more
does_duty course duties.Nothing item past link x y sent text last_sent more holds does =
    ((does.0, ap₂ (λ s t. progress_of s t (item ∷ past)) does.1 does.2), does.3)
does_duty course duties.Refuse item past link x y sent text last_sent more holds does =
    ((does.0, ap₂ (λ s t. progress_of s t (item ∷ past)) does.1 does.2), does.3)
does_duty course duties.Resend item past link x y sent text last_sent more holds does =
    ((does.0, ap₂ (λ s t. progress_of s t (item ∷ past)) does.1 does.2), does.3)
does_duty course duties.Interrupt item past link x y sent text last_sent more holds does =
    (does.0, does.3, ap₂ (λ s t. progress_of s t (item ∷ past)) does.1 does.2)
does_duty course (duties.Answer acknowledge) (items.Frame body right) past link x y sent text last_sent more holds does =
    (subst (λ b. WritesAnswer course acknowledge (packet_in b) x sent text y last_sent more) holds does, refl)
does_duty course (duties.Answer acknowledge) items.Plus past link x y sent text last_sent more holds does = absurd holds
does_duty course (duties.Answer acknowledge) items.Minus past link x y sent text last_sent more holds does = absurd holds
does_duty course (duties.Answer acknowledge) items.Interrupt past link x y sent text last_sent more holds does = absurd holds

pub dealt :
    {E : Type 0} (Fails : E → Type 0) (course : Course) (item : Item) (past : List Item) (d : Duty)
    (x y : Standing) (old link new : Link) (before after : Option (List ℕ))
    (result : Result Bool (ServerFault E)) → HasReceived old past → Receives old link item d →
    link.sent.items ≡ old.sent.items → new.acknowledging ≡ link.acknowledging → new.last ≡ link.last →
    Turn Fails (λ text more. DoesAny course d link.last x link.sent.items text y new.sent.items more) before after result →
    Deals Fails course item past x old y new before after result
dealt Fails course item past d x y old link new before after result h receives sent mode last turn = record {
  received = kept link new (item ∷ past) mode last (receives.received past h);
  turn = turn_more Fails _ _ before after result
      (λ text more does.
      subst (λ (k : Duty). DoesDuty course k item (at x old past) text (at y new (item ∷ past)) more) (receives.said_is past h)
      (does_duty course d item past link x y old.sent.items text new.sent.items more receives.body
      (subst (λ s. DoesAny course d link.last x s text y new.sent.items more) sent does))) turn;
}
