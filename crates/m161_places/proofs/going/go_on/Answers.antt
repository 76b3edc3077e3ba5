use Rattle.std.proofs.Common.{◌≡◌, ◌∙◌, [], ◌∷◌, sym, ap, subst, length, take, arith}
use Rattle.std.specs.Prelude.{slice_get, slice_index_or}
use Rattle.m161_drive.specs.Drive.{Chooses}
use Rattle.m161_places.proofs.Along.{one_place}
use Rattle.m161_places.proofs.Noting.{noted_one}
use Rattle.m161_places.proofs.going.go_on.Goals as goal

pub returns-in_ok-note_event-in-Ok : goal.returns-in_ok-note_event-in-Ok
returns-in_ok-note_event-in-Ok g c =
    let keys = slice_get c.args.policy.now.keys in
    let rules = c.args.policy.now in
    let size : length c.turn.new.entries ≡ 1 = c.turn.ensures.length in
    let turn = c.in-Ok.ensures.turn in
    let one : c.in-Ok.field-0 ≡ 1 = omega (arith, turn.0, turn.1, size) in
    let entry = slice_index_or c.turn.new.entries 0 c.index-entry-0.result in
    let key : keys c.args.cursor.now.typed ≡ c.key-key.result = ap keys (sym c.typed.ensures) ∙ sym c.key-key.ensures.value in
    let run = turn.2 keys key in
    let made : Chooses rules keys c.args.cursor.now c.args.core.now.state (entry ∷ []) c.turn.new.cursor c.turn.new.core.state =
    subst (λ es. Chooses rules keys c.args.cursor.now c.args.core.now.state es c.turn.new.cursor c.turn.new.core.state)
    (ap (λ k. take k c.turn.new.entries) one ∙ one_place c.turn.new.entries c.index-entry-0.result size) run in
    noted_one rules keys c.args.cursor.now c.turn.new.cursor c.args.core.now.state c.turn.new.core.state entry c.count_ready-ready.result
    c.in_ok-note_event-in-Ok.field-0 c.args.events.now.items c.note_event.new.events.items c.count_ready-ready.ensures.count
    c.in_ok-note_event-in-Ok.ensures.0 c.in_ok-note_event-in-Ok.ensures.1 made
