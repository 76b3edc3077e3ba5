use Rattle.std.proofs.Common.{◌≡◌, ◌∙◌, sym, ap, ◌+◌, ◌++◌, append_assoc, arith, length}
use Rattle.std.specs.Prelude.{count_by, nat_lt}
use Rattle.std.proofs.lemmas.List.{length-append, length-map, map-append, take_all}
use Rattle.m161_machine.specs.declared.event.Entry.{Entry}
use Rattle.m161_machine.specs.History.{events_of}
use Rattle.m161_drive.specs.declared.run.Driven.{Driven}
use Rattle.m161_drive.specs.Drive.{Drives}
use Rattle.m161_drive.proofs.Continuing.{on_whole}
use Rattle.m161_judge.specs.Run.{is_cut}
use Rattle.m161_judge.specs.Verdict.{Criteria, has_keys, is_key}
use Rattle.m161_judge.specs.helpers.Walk.{IsDrivenRest}
use Rattle.m161_judge.proofs.Behind.{ends_behind, plain_entries, plain_events, seen_behind}
use Rattle.m161_judge.proofs.Judging.{none_refused}
use Rattle.m161_judge.proofs.on.drive_rest.Goals as goal

pub returns : goal.returns
returns g c = λ s u fs first keys was.
    let rules = c.args.policy.now in
    let aim = c.args.goal.now in
    let driven = c.in_ok-driven.driven in
    let t = c.drive_on.new.core.state in
    let events = c.drive_on.new.notes.items in
    let more = c.in_ok-driven.ensures.0 in
    let entries = was.entries ++ more in
    let before = plain_entries fs ++ was.entries in
    let event_of = λ (e : Entry). e.event in
    let begun : c.args.begun.items ≡ events_of before =
    was.events_are ∙ ap (λ es. es ++ events_of was.entries) (sym (plain_events fs)) ∙ sym (map-append event_of (plain_entries fs) was.entries) in
    let room : length was.entries + c.saturating_sub-left.result ≡ c.args.n =
    let few = was.few in
    let front = ap length was.events_are in
    let parts = length-append fs (events_of was.entries) in
    let size = length-map was.entries event_of in
    let made = first.made_is in
    omega (arith, few, front, parts, size, made, c.saturating_sub-left.ensures, c.saturating_sub-chosen.ensures, c.len.ensures, c.args.begun.ok.0) in
    let whole : Driven = record { made = length was.entries + driven.made; stop = driven.stop } in
    let drives : Drives rules c.args.n u whole entries t =
    on_whole rules c.args.n u c.args.cursor c.args.core.now.state t was.entries more c.saturating_sub-left.result driven was.chosen_are room
    c.in_ok-driven.ensures.1 in
    let tail : events ≡ fs ++ (events_of was.entries ++ events_of more) =
    c.in_ok-driven.ensures.2 0 before begun ∙ map-append event_of before more ∙ ap (λ es. es ++ events_of more) (sym begun ∙ was.events_are)
    ∙ append_assoc fs (events_of was.entries) (events_of more) in
    let same : events ≡ fs ++ events_of entries = tail ∙ ap (λ es. fs ++ es) (sym (map-append event_of was.entries more)) in
    let made = c.len-made.result in
    let all : made ≡ length events = omega (arith, c.len-made.ensures, c.drive_on.new.notes.ok.0) in
    let counted : c.count_keys.result ≡ count_by is_key events = c.count_keys.ensures ∙ ap (λ es. count_by is_key es) c.deref.ensures.value in
    let keys_are : c.goal.inside.keys.now ≡ aim.keys = ap (λ (x : Criteria). x.keys) c.goal.view_is in
    let left : nat_lt c.count_keys.result (length c.goal.inside.keys.now) ≡ has_keys aim.keys events =
    (λ i. nat_lt (counted i) (length (keys_are i))) in
    let ends = ends_behind rules s u t fs events entries drives.cursor made first.leads drives.chosen_are same all in
    let out = sym (ap (λ (x : Criteria). x.output) c.goal.view_is) in
    let run : IsDrivenRest rules c.args.n aim s fs u _ = record {
      driven = whole;
      entries = entries;
      state = t;
      drives = drives;
      accepted = c.in_default.not-Refused;
      events_are = same;
      made = none_refused s events made t ends;
      beside =
          let before = seen_behind rules aim s u t fs events c.args.first entries drives.cursor made first keys drives.chosen_are same all in
          let as_left = left ∙ ap (has_keys aim.keys) (sym (take_all made events (omega (arith, all)))) in
          c.verdict.ensures aim s events out ends
          (c.look-seen.ensures aim s events out as_left ends.leads before);
      cut = c.is_cut.ensures ∙ ap (λ b. is_cut driven.stop b t) left;
    } in (
      run,
      (
        events_of more,
        c.in_ok-driven.ensures.2 0 before begun ∙ map-append event_of before more ∙ ap (λ es. es ++ events_of more) (sym begun),
      ),
    )
