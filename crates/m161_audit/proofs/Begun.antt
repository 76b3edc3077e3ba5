use Rattle.std.proofs.Common.{◌≡◌, ◌∙◌, ap, refl, sym, ℕ, List, [], map, Option, None, Some, Result, Ok, Err}
use Rattle.m161_machine.specs.declared.conf.Conf.{Conf}
use Rattle.m161_machine.specs.declared.conf.BootError.{BootError}
use Rattle.m161_machine.specs.declared.conf.BootError.TheVariants.{NoMemory}
use Rattle.m161_machine.specs.declared.event.Event.{Event}
use Rattle.m161_machine.specs.State.{CoreValue, State}
use Rattle.m161_machine.specs.StoreHistory.{StoreState, first_link, without_stores}
use Rattle.m161_machine.specs.History.{Boots, History, boot_state}
use Rattle.m161_machine.proofs.Storing.{image, links_first, made_first}
use Rattle.m161_audit.specs.declared.finding.AuditError.{AuditError}
use Rattle.m161_audit.specs.declared.finding.AuditError.TheVariants.{Boot, BadWatch}
use Rattle.m161_audit.specs.declared.finding.Finding.{Finding}
use Rattle.m161_audit.specs.declared.shootdown.Shootdown.{Shootdown}
use Rattle.m161_audit.specs.declared.watch.Watch.{Watch}
use Rattle.m161_audit.specs.Audit.{Audits, AuditsBooted, AuditsState}
use Rattle.m161_audit.specs.Watch.{AreGood}
use Rattle.m161_audit.specs.Tracking.{tracked}
use Rattle.m161_audit.specs.Tracking.{IsAt}
use Rattle.m161_audit.specs.helpers.Run.{Begins, BeginsBooted, FindsIn}

-- From the boot on.

-- the state at boot, in which nothing was stored
pub at_boot : (watches : List Watch) (b core : State) (items : List Shootdown) → core ≡ b → items ≡ tracked watches [] → IsAt watches (without_stores b) core items
at_boot watches b core items core_is items_are = record {
  core_is = core_is ∙ sym (image b.links.unit [] (map first_link b.links.live) b (links_first b.links));
  items_are = items_are;
  made = made_first b.links.live;
}

-- the beginning, by the boot's answer

pub not_booted : (file : List ℕ) (conf : Conf) (fault : Option BootError) (watches : List Watch) (e : BootError) → Boots file conf fault (Err e) → Begins file conf fault watches (Err (Boot e))
not_booted file conf (Some first) watches e h = ap (λ x. Err (Boot x)) h
not_booted file conf None watches e h = h

pub booted : (file : List ℕ) (conf : Conf) (fault : Option BootError) (watches : List Watch) (m : History) (r : Result (CoreValue × List Shootdown) AuditError) → Boots file conf fault (Ok m) → BeginsBooted file conf watches r → Begins file conf fault watches r
booted file conf (Some first) watches m r h is = absurd h
booted file conf None watches m r h is = is

pub begun : (file : List ℕ) (conf : Conf) (fault : Option BootError) (watches : List Watch) (m : History) (core : CoreValue) (items : List Shootdown) → Boots file conf fault (Ok m) →
    ((k : ℕ) → AreGood conf.ram watches k) → core.state ≡ m.state → items ≡ tracked watches [] → Begins file conf fault watches (Ok (core, items))
begun file conf (Some first) watches m core items h good core_is items_are = absurd h
begun file conf None watches m core items h good core_is items_are = (good, (m, h, core_is ∙ h.state_is), items_are)

-- the audit, by its beginning

pub not_begun : (file : List ℕ) (conf : Conf) (fault : Option BootError) (events : List Event) (watches : List Watch) (e : AuditError) → Begins file conf fault watches (Err e) → Audits file conf fault events watches (Err e)
not_begun file conf (Some first) events watches e h =
    let is : e ≡ Boot first = let same : ◌≡◌ {A = Result (CoreValue × List Shootdown) AuditError} (Err e) (Err (Boot first)) = h in cc in
    ap (λ x. Err x) is
not_begun file conf None events watches (Boot e) h = h
not_begun file conf None events watches (BadWatch k) h = h

boot_is : (e : BootError) → Boot e ≡ Boot NoMemory → e ≡ NoMemory
boot_is e h = cc

-- memory was refused at the beginning
pub not_enough : (file : List ℕ) (conf : Conf) (watches : List Watch) (e : AuditError) → e ≡ Boot NoMemory → BeginsBooted file conf watches (Err e)
not_enough file conf watches (Boot x) h = boot_is x h
not_enough file conf watches (BadWatch k) h = absurd (let bad : BadWatch k ≡ Boot NoMemory = h in cc)

refused : (file : List ℕ) (conf : Conf) (events : List Event) (watches : List Watch) (e : AuditError) → e ≡ Boot NoMemory → AuditsBooted file conf events watches (Err e)
refused file conf events watches (Boot x) h = boot_is x h
refused file conf events watches (BadWatch k) h = absurd (let bad : BadWatch k ≡ Boot NoMemory = h in cc)

by_finding : (file : List ℕ) (conf : Conf) (events : List Event) (watches : List Watch) (core : CoreValue) (items : List Shootdown) (r : Result Finding AuditError) → BeginsBooted file conf watches (Ok (core, items)) →
    ((ws : List Watch) (s : StoreState) → IsAt ws s core.state items → FindsIn ws s events r) → AuditsBooted file conf events watches r
by_finding file conf events watches core items (Ok finding) h finds =
    let m = h.1.0 in
    (h.0, (m, h.1.1, finds watches (without_stores (boot_state m.start)) (at_boot watches (boot_state m.start) core.state items h.1.2 h.2)))
by_finding file conf events watches core items (Err e) h finds =
    let m = h.1.0 in
    refused file conf events watches e (finds watches (without_stores (boot_state m.start)) (at_boot watches (boot_state m.start) core.state items h.1.2 h.2))

pub audits : (file : List ℕ) (conf : Conf) (fault : Option BootError) (events : List Event) (watches : List Watch) (core : CoreValue) (items : List Shootdown) (r : Result Finding AuditError) → Begins file conf fault watches (Ok (core, items)) →
    ((ws : List Watch) (s : StoreState) → IsAt ws s core.state items → FindsIn ws s events r) → Audits file conf fault events watches r
audits file conf (Some first) events watches core items r h finds =
    absurd (let bad : ◌≡◌ {A = Result (CoreValue × List Shootdown) AuditError} (Ok (core, items)) (Err (Boot first)) = h in cc)
audits file conf None events watches core items r h finds = by_finding file conf events watches core items r h finds

-- memory was refused after the beginning
pub no_memory : (file : List ℕ) (conf : Conf) (fault : Option BootError) (events : List Event) (watches : List Watch) (core : CoreValue) (items : List Shootdown) (e : AuditError) → Begins file conf fault watches (Ok (core, items)) → e ≡ Boot NoMemory →
    Audits file conf fault events watches (Err e)
no_memory file conf (Some first) events watches core items e h is =
    absurd (let bad : ◌≡◌ {A = Result (CoreValue × List Shootdown) AuditError} (Ok (core, items)) (Err (Boot first)) = h in cc)
no_memory file conf None events watches core items e h is = refused file conf events watches e is

-- the audit from any state
pub audits_state : (s : State) (events : List Event) (watches : List Watch) (items : List Shootdown) (r : Result Finding AuditError) → ((k : ℕ) → AreGood s.conf.ram watches k) → items ≡ tracked watches [] →
    ((ws : List Watch) (x : StoreState) → IsAt ws x s items → FindsIn ws x events r) → AuditsState s events watches r
audits_state s events watches items (Ok finding) good is finds =
    (good, finds watches (without_stores s) (at_boot watches s s items refl is))
audits_state s events watches items (Err (Boot e)) good is finds =
    boot_is e (finds watches (without_stores s) (at_boot watches s s items refl is))
audits_state s events watches items (Err (BadWatch k)) good is finds =
    absurd (let bad : BadWatch k ≡ Boot NoMemory = finds watches (without_stores s) (at_boot watches s s items refl is) in cc)
