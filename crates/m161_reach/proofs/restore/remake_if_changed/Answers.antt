use Rattle.std.proofs.Common.{◌≡◌, ◌∙◌, ap, refl, sym, subst, ◌+◌, ◌-◌, arith, length, take, drop, get_or-set_other, get_or-set_same}
use Rattle.std.proofs.lemmas.List.{length-set}
use Rattle.m161_cpu.specs.Processor.{Processor, stopped_processor}
use Rattle.m161_machine.specs.State.{State, processor_at}
use Rattle.m161_alike.specs.Restored.{with_ticks}
use Rattle.m161_alike.specs.View.{processor_view}
use Rattle.m161_alike.specs.Words.{HasSizes, processor_words}
use Rattle.m161_reach.proofs.Encoding.{on_ok}
use Rattle.m161_reach.proofs.Remaking.{ticks_viewed}
use Rattle.m161_reach.proofs.restore.remake_if_changed.Goals as goal

pub returns-then-are_same_from-clause-view : goal.returns-then-are_same_from-clause-view
returns-then-are_same_from-clause-view g c = λ known q sizes old kept words.
    record { sizes = old; words = sym (kept (c.if-are_same_from.ensures.there refl)) ∙ c.if-are_same_from.ensures.same refl ∙ words }

pub returns-clause-number : goal.returns-clause-number
returns-clause-number g c =
    let ps = c.args.core.now.state.processors in
    on_ok c.remake_processor.result (λ made. ap (λ (s : State). length s.processors) made ∙ length-set ps c.args.p _) c.remake_processor.ensures.state

pub returns-clause-others : goal.returns-clause-others
returns-clause-others g c =
    let ps = c.args.core.now.state.processors in
    on_ok c.remake_processor.result (λ made. λ k ne.
    ap (λ (s : State). processor_at k s.processors) made ∙ get_or-set_other ps c.args.p k _ stopped_processor ne) c.remake_processor.ensures.state

pub returns-clause-view : goal.returns-clause-view
returns-clause-view g c =
    let ps = c.args.core.now.state.processors in
    let p = c.args.p in
    let first = c.args.first in
    let long : first + 245 - first ≡ 245 = omega arith in
    on_ok c.remake_processor.result (λ view. λ known q sizes old kept words.
    let one = ap (λ n. take n (drop first c.args.words.now)) long ∙ words in
    let there = view known q sizes one in
    let is : processor_at p c.remake_processor.new.core.state.processors ≡ with_ticks (processor_view known q) =
    ap (λ (s : State). processor_at p s.processors) there ∙ get_or-set_same ps p (with_ticks (processor_view known q)) stopped_processor c.requires.place in
    record {
      sizes = subst HasSizes (sym is) (sizes.0, sizes.1);
      words = ap (λ (x : Processor). processor_words (processor_view known x)) is ∙ ap processor_words (ticks_viewed known q);
    }) c.remake_processor.ensures.view
