use Rattle.std.proofs.Common.{◌≡◌, ◌∙◌, ap, refl, sym, subst, take, replicate, length, arith}
use Rattle.std.proofs.lemmas.List.{length-take-le}
use Rattle.m161_machine.specs.declared.event.Event.TheVariants.{Step}
use Rattle.m161_machine.specs.State.{CoreValue, KeepsSizes}
use Rattle.m161_machine.specs.History.{Continues, History}
use Rattle.m161_machine.specs.Stretch.{Advances}
use Rattle.m161_machine.specs.helpers.Window.{Slid}
use Rattle.m161_machine.specs.History.{transfers_of}
use Rattle.m161_machine.proofs.Made.{counted}
use Rattle.m161_machine.proofs.Sliding.{lawful_slid, slides}
use Rattle.m161_machine.proofs.Transfers.{no_transfers}
use Rattle.m161_machine.proofs.Writing.{goes_on}
use Rattle.m161_machine.proofs.machine.Machine.steps_at_once.Given.{Over}
use Rattle.m161_machine.proofs.machine.Machine.steps_at_once.Goals as goal

abbrev before : (g : Over) (c : goal.After-self-2-1 g) → History
before g c = record {
  start = record { bytes = c.self.inside.image.bytes.items; entry = c.self.inside.image.entry; conf = c.self.inside.conf };
  base = c.self.inside.base.value.state;
  log = c.self.inside.window.items;
  state = c.self.inside.present.value.state;
}

-- what the calls do, which reach the two states through their boxes
made_entries : (g : Over) (c : goal.After-self-2-1 g) →
    Advances c.args.p c.self.inside.present.value.state (take c.advance_into-made.result c.advance_into-made.new.room.items) c.advance_into-made.new.core.state
made_entries g c =
    subst (λ (core : CoreValue). Advances c.args.p core.state (take c.advance_into-made.result c.advance_into-made.new.room.items) c.advance_into-made.new.core.state)
    c.deref_mut.ensures.value c.advance_into-made.ensures.advances

sizes_of : (g : Over) (c : goal.After-self-2-1 g) → KeepsSizes c.self.inside.present.value.state c.advance_into-made.new.core.state
sizes_of g c =
    subst (λ (core : CoreValue). KeepsSizes core.state c.advance_into-made.new.core.state) c.deref_mut.ensures.value c.advance_into-made.ensures.sizes

slid : (g : Over) (c : goal.After-self-2-1 g) →
    Slid c.self.inside.base.value.state c.self.inside.window (take c.advance_into-made.result c.deref.result.now) c.append.new.base.state c.append.new.self
slid g c =
    subst (λ (core : CoreValue). Slid core.state c.self.inside.window (take c.advance_into-made.result c.deref.result.now) c.append.new.base.state c.append.new.self)
    c.deref_mut-2.ensures.value c.append.ensures.slid

-- the entries, as they are appended
advances : (g : Over) (c : goal.After-self-2-1 g) →
    Advances c.args.p c.self.inside.present.value.state (take c.advance_into-made.result c.deref.result.now) c.advance_into-made.new.core.state
advances g c =
    subst (λ es. Advances c.args.p c.self.inside.present.value.state (take c.advance_into-made.result es) c.advance_into-made.new.core.state)
    (sym c.deref.ensures.value) (made_entries g c)

pub append-requires-clause-transfers : goal.append-requires-clause-transfers
append-requires-clause-transfers g c =
    let same = sym c.deref.ensures.value in
    sym (subst (λ es. transfers_of (take c.advance_into-made.result es) ≡ 0) same
    (no_transfers (take c.advance_into-made.result c.advance_into-made.new.room.items) _ c.args.p c.advance_into-made.ensures.advances.1))

pub invariant_of-self : goal.invariant_of-self
invariant_of-self g c = (
  lawful_slid (before g c) (take c.advance_into-made.result c.deref.result.now) c.append.new.base.state c.advance_into-made.new.core.state
      c.self.inside.window c.append.new.self c.self.invariant.0
      refl c.self.invariant.1 (advances g c).0 (sizes_of g c) (slid g c),
  (slid g c).capacity_is ∙ c.self.invariant.1,
  c.append.ensures.room,
  c.advance_into-made.ensures.length ∙ c.self.invariant.3,
)

pub returns-clause-run : goal.returns-clause-run
returns-clause-run g c =
    let after : History = record {
      start = (before g c).start;
      base = c.append.new.base.state;
      log = c.append.new.self.items;
      state = c.advance_into-made.new.core.state;
    } in
    let same = sym c.deref.ensures.value in
    let long = ap length same in
    let within = c.advance_into-made.ensures.within in
    let room = c.requires.room.0 in
    let length_is = c.advance_into-made.ensures.length in
    let number = c.self.invariant.3 in
    subst (λ (m : History). Continues m (replicate c.advance_into-made.result (Step c.args.p)) after) c.self.view_is
    (goes_on c.args.p (before g c) after c.deref.result.now c.advance_into-made.result (omega (arith, long, within, room, length_is, number)) (advances g c)
    (slides (before g c) (take c.advance_into-made.result c.deref.result.now) c.append.new.base.state c.advance_into-made.new.core.state
    c.self.inside.window c.append.new.self refl c.self.invariant.1 (slid g c)))

pub returns-clause-made : goal.returns-clause-made
returns-clause-made g c =
    let made = counted (take c.advance_into-made.result c.advance_into-made.new.room.items) c.self.inside.present.value.state c.advance_into-made.new.core.state
    (made_entries g c).0 in
    let within = c.advance_into-made.ensures.within in
    let room = c.requires.room.0 in
    let length_is = c.advance_into-made.ensures.length in
    let number = c.self.invariant.3 in
    let long = length-take-le c.advance_into-made.result c.advance_into-made.new.room.items (omega (arith, within, room, length_is, number)) in
    let view = ap (λ (h : History). h.state.made) c.self.view_is in
    omega (arith, made, long, view)
