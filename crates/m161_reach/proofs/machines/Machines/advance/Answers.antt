use Rattle.std.proofs.Common.{◌∙◌, refl, sym, subst, ℕ, List}
use Rattle.m161_alike.specs.Addresses.{Cover}
use Rattle.m161_states.specs.Question.{booted}
use Rattle.m161_states.specs.System.{event_of}
use Rattle.m161_reach.specs.Hand.{IsReady}
use Rattle.m161_reach.specs.helpers.Handling.{addresses_after}
use Rattle.m161_reach.proofs.Handled.{words_kept}
use Rattle.m161_reach.proofs.Meeting.{behind_met}
use Rattle.m161_reach.proofs.Storing.{cover_behind}
use Rattle.m161_reach.proofs.machines.Machines.advance.Goals as goal

pub returns-clause-ready : goal.returns-clause-ready
returns-clause-ready g c =
    let q = c.args.self.now in
    let n = c.args.event in
    let x = c.hand.inside.place in
    let t = c.advance_place.new.place in
    let changed = c.hand.inside.changed.items in
    let old = subst (IsReady q) (sym c.hand.view_is) c.requires.ready in
    let h = c.in_ok-came.ensures.handled in
    let stored = c.stored_at-stored.ensures in
    let size = c.ram_size.ensures in
    record {
      met = behind_met q x t n (event_of q x n) old.met refl h.0;
      words = words_kept q x t c.hand.inside.words.items c.forget.new.words.items c.in_ok-came.came old.words h.1 c.forget.ensures;
      changed = subst (λ (l : List ℕ). Cover (booted q).bytes t.state.memory l)
          (sym (c.in_ok-note_store.ensures ∙ (λ i. addresses_after (stored i) (size i) changed)))
          (cover_behind q x t n (booted q).bytes changed h.0 old.changed);
    }
