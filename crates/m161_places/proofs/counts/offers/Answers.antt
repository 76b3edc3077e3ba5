use Rattle.std.proofs.Common.{◌≡◌, ◌∙◌, ◌-◌, ◌+◌, ◌++◌, [], ◌∷◌, suc, sym, ap, subst, take, arith}
use Rattle.std.specs.Prelude.{slice_get, slice_index_or}
use Rattle.std.proofs.lemmas.List.{append-nil}
use Rattle.m161_drive.specs.Drive.{Chooses, Rests}
use Rattle.m161_places.proofs.Along.{offers_none, on_ok, offers_rested, one_place, place_made}
use Rattle.m161_places.proofs.counts.offers.Goals as goal

pub loop-preserved : goal.loop-preserved
loop-preserved g c =
    let keys = slice_get c.args.policy.now.keys in
    let rules = c.args.policy.now in
    let n = c.args.n - (c.loop.counter + 1) in
    let less = c.loop-test.true in
    let more : c.args.n - c.loop.counter ≡ suc n = omega (arith, less) in
    let size = c.turn.ensures.length ∙ c.loop.invariant.places in
    let turn = c.in-Ok.ensures.turn in
    let one : c.in-Ok.field-0 ≡ 1 = omega (arith, turn.0, turn.1, size) in
    let entry = slice_index_or c.turn.new.entries 0 c.index-entry-0.result in
    let key : keys c.loop.cursor.typed ≡ c.key-key.result = ap keys (sym c.typed.ensures) ∙ sym c.key-key.ensures.value in
    let run = turn.2 keys key in
    let made : Chooses rules keys c.loop.cursor c.loop.core.state (entry ∷ []) c.turn.new.cursor c.turn.new.core.state =
    subst (λ es. Chooses rules keys c.loop.cursor c.loop.core.state es c.turn.new.cursor c.turn.new.core.state)
    (ap (λ k. take k c.turn.new.entries) one ∙ one_place c.turn.new.entries c.index-entry-0.result size) run in
    record {
      places = size;
      all =
          place_made n (c.args.n - c.loop.counter) rules keys c.loop.cursor c.turn.new.cursor c.loop.core.state c.turn.new.core.state entry
          c.count_ready-ready.result c.loop.counts.items c.note_place.new.counts.items more c.count_ready-ready.ensures.count
          c.in_ok-note_place-in-Ok.ensures made
          ∙ c.loop.invariant.all;
    }

pub returns : goal.returns
returns g c =
    let end = c.loop-test.false in
    let none : c.args.n - c.loop.counter ≡ 0 = omega (arith, end) in
    sym (append-nil c.loop.counts.items)
    ∙ ap (λ xs. c.loop.counts.items ++ xs) (sym (offers_none (c.args.n - c.loop.counter) c.args.policy.now (slice_get c.args.policy.now.keys) c.loop.cursor c.loop.core.state none))
    ∙ c.loop.invariant.all

pub returns-in-Err : goal.returns-in-Err
returns-in-Err g c =
    let rules = c.args.policy.now in
    let keys = slice_get rules.keys in
    let key : c.key-key.result ≡ keys c.loop.cursor.typed = c.key-key.ensures.value ∙ ap keys c.typed.ensures in
    on_ok c.no_refusal.result
    (λ accepted.
    sym (append-nil c.loop.counts.items)
    ∙ ap (λ xs. c.loop.counts.items ++ xs) (sym (offers_rested (c.args.n - c.loop.counter) rules keys c.loop.cursor c.loop.core.state c.in-Err.stop
    (subst (λ k. Rests rules k c.loop.cursor c.loop.core.state c.in-Err.stop) key c.in-Err.ensures.turn.0) accepted))
    ∙ c.loop.invariant.all)
    c.no_refusal.ensures
