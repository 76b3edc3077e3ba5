use Rattle.std.proofs.Common.{◌∙◌, ap, inl, inr, subst, sym, take}
use Rattle.m161_delays.specs.Lists.{ComesBefore}
use Rattle.m161_delays.specs.Runs.{IsUsefulOf}
use Rattle.m161_delays.specs.Search.{Finds}
use Rattle.m161_order.specs.Delays.{delays_of}
use Rattle.m161_c.specs.declared.answer.SoughtList.{SoughtList}
use Rattle.m161_c.specs.Delays.{HasRightRun, HasWrongRun, offered_by}
use Rattle.m161_c.proofs.Listing.{each_right, right_before}
use Rattle.m161_c.proofs.Booting.{begun}
use Rattle.m161_c.proofs.listed.tell_whole.Goals as goal

pub returns-in-Clean : goal.returns-in-Clean
returns-in-Clean c = λ steps class booted begins found.
    let a = c.args.task.now in
    let boots = begun a.file a.conf booted begins in
    let clean = subst (λ what. Finds class (offered_by a steps booted) (HasRightRun a steps) (HasWrongRun a steps) what) c.in-Clean.is found in
    let same = c.last_told.ensures.found in
    let told = c.right_told.ensures in
    inl (record {
      each = each_right a steps booted class c.in-Clean.runs c.in-Clean.cut boots clean;
      booted = booted;
      is_booted = boots;
      lists = clean.lists;
      are_useful = clean.are_useful;
      cut = clean.all_cut;
      are_right = clean.are_right;
      verdict_is = ap (λ (f : SoughtList). f.verdict) same ∙ told.0;
      runs_is = ap (λ (f : SoughtList). f.right) same ∙ told.1 ∙ clean.runs_is;
      cut_is = ap (λ (f : SoughtList). f.cut) same ∙ told.2 ∙ clean.cut_is;
      none = (ap (λ (f : SoughtList). f.events) same ∙ told.3, ap (λ (f : SoughtList). f.count) same ∙ told.4, c.new.ensures.items);
    })

pub returns-in_ok-found-in-Wrong : goal.returns-in_ok-found-in-Wrong
returns-in_ok-found-in-Wrong c = λ steps class booted begins found.
    let a = c.args.task.now in
    let boots = begun a.file a.conf booted begins in
    let what = c.in-Wrong.wrong in
    let first = subst (λ it. Finds class (offered_by a steps booted) (HasRightRun a steps) (HasWrongRun a steps) it) c.in-Wrong.is found in
    let wrong = first.is_wrong in
    let same = c.last_told-in-Wrong.ensures.found in
    let told = c.in_ok-found-in-Wrong.ensures in
    inr (record {
      booted = booted;
      is_booted = boots;
      delays = wrong.0;
      is_useful = subst (λ ns. IsUsefulOf class (offered_by a steps booted) ns) (sym wrong.1) first.is_useful;
      run = what.run;
      told = what.told;
      wrong = wrong.2;
      before = λ others of order.
          right_before a steps booted class (HasWrongRun a steps) (delays_of c.in-Wrong.delays) what boots first others of
          (subst (λ ns. ComesBefore (delays_of others) ns) wrong.1 order);
      verdict_is = ap (λ (f : SoughtList). f.verdict) same ∙ told.0;
      counts_are = (ap (λ (f : SoughtList). f.right) same ∙ told.1, ap (λ (f : SoughtList). f.cut) same ∙ told.2);
      events_is = ap (λ (f : SoughtList). f.events) same ∙ told.3;
      delays_are = (λ i. take (same i).count (same i).delays) ∙ told.4 ∙ sym wrong.1;
      events_are = told.5;
    })
