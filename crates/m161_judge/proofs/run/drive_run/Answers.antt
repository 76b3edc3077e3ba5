use Rattle.std.proofs.Common.{◌≡◌, ◌∙◌, sym, ap, subst, [], arith, length, take}
use Rattle.std.specs.Prelude.{count_by, is_some, nat_lt}
use Rattle.m161_machine.specs.History.{events_of}
use Rattle.m161_judge.specs.Run.{is_cut}
use Rattle.m161_judge.specs.Verdict.{has_keys, is_key}
use Rattle.m161_judge.specs.Seen.{HasSeen}
use Rattle.m161_judge.proofs.Driven.{all_keys, key_is_left, run_ends, run_seen}
use Rattle.m161_judge.proofs.Judging.{none_refused}
use Rattle.m161_judge.proofs.run.drive_run.Goals as goal

pub returns : goal.returns
returns g c =
    let rules = c.args.policy.now in
    let s = c.args.core.now.state in
    let driven = c.in_ok-driven.driven in
    let t = c.drive.new.core.state in
    let events = c.drive.new.notes.items in
    let entries = c.in_ok-driven.ensures.run.0 in
    let drives = c.in_ok-driven.ensures.run.1 in
    let same : events ≡ events_of entries = c.in_ok-driven.ensures.run.2 0 [] c.new-events.ensures.items in
    let made = c.len-made.result in
    let all : made ≡ length events = omega (arith, c.len-made.ensures, c.drive.new.notes.ok.0) in
    let left : c.is_some-keys_left.result ≡ has_keys rules.keys events =
    c.is_some-keys_left.ensures ∙ ap is_some c.key.ensures.value ∙ key_is_left rules.keys c.count_keys.result
    ∙ (ap (λ n. nat_lt n (length rules.keys)) (c.count_keys.ensures ∙ ap (λ es. count_by is_key es) c.deref.ensures.value)) in
    let ends = run_ends rules c.args.n s t driven entries events made drives same all in
    record {
      driven = driven;
      entries = entries;
      state = t;
      drives = drives;
      accepted = c.in_default.not-Refused;
      events_are = same;
      made = none_refused s events made t ends;
      beside = λ aim out keys.
          let before = subst (HasSeen aim s events made) (sym c.nothing_seen.ensures)
          (run_seen rules c.args.n s t driven entries events made aim keys drives same all) in
          let as_left : c.is_some-keys_left.result ≡ has_keys aim.keys (take made events) =
          left ∙ all_keys rules.keys events made all ∙ ap (λ ks. has_keys ks (take made events)) (sym keys) in
          c.verdict.ensures aim s events out ends
          (c.look-seen.ensures aim s events out as_left ends.leads before);
      cut = c.is_cut.ensures ∙ ap (λ b. is_cut driven.stop b t) left;
    }
