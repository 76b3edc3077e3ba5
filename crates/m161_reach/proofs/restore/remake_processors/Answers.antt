use Rattle.std.proofs.Common.{◌≡◌, ◌∙◌, ap, inl, inr, sym, subst, ◌<◌, arith, ℕ, length}
use Rattle.std.proofs.lemmas.Bool.{cases_lt}
use Rattle.m161_cpu.specs.Processor.{Processor, stopped_processor}
use Rattle.m161_machine.specs.State.{State, processor_at}
use Rattle.m161_alike.specs.View.{known_of, processor_view}
use Rattle.m161_alike.specs.Words.{HasSizes, processor_words}
use Rattle.m161_reach.specs.helpers.Restore.{IsAsIn, with_processors}
use Rattle.m161_reach.proofs.restore.remake_processors.Goals as goal

pub remake_if_changed-requires-clause-few : goal.remake_if_changed-requires-clause-few
remake_if_changed-requires-clause-few g c =
    let few = c.requires.few in
    let made = ap (λ (s : State). s.made) c.loop-p.invariant.1 in
    omega (arith, few, made)

pub loop-p-preserved : goal.loop-p-preserved
loop-p-preserved g c =
    let old = c.args.core.now.state in
    let now = c.loop-p.core.state in
    let new = c.remake_if_changed.new.core.state in
    let p = c.loop-p.p in
    let inv = c.loop-p.invariant in
    let done = c.in_ok-remake_if_changed.ensures in
    let size = inv.0 in
    let end = c.processors-p-end.ensures in (
      done.number ∙ inv.0,
      done.rest ∙ ap (with_processors new.processors) inv.1,
      λ k past. done.others k (omega (arith, past)) ∙ inv.2 k (omega (arith, past)),
      λ known s shape all number kept from k below.
          elim (cases_lt k p) [
            | inl before ↦ subst (IsAsIn (known_of known k) (processor_at k s.processors)) (sym (done.others k (omega (arith, before))))
                (inv.3 known s shape all number kept from k before)
            | inr behind ↦
                (let here : k ≡ p = omega (arith, below, behind) in
                let there : p < length s.processors = omega (arith, number, end, size) in
                let same = inv.2 p (omega arith) in
                let is = done.view (known_of known p) (processor_at p s.processors) (shape.processors p stopped_processor there)
                (subst HasSizes (sym same) (all p stopped_processor (omega (arith, number, there))))
                (λ inside. kept p (omega (arith, number, there)) inside
                ∙ ap (λ (x : Processor). processor_words (processor_view (known_of known p) x)) (sym same)) (from p there) in
                subst (λ (n : ℕ). IsAsIn (known_of known n) (processor_at n s.processors) (processor_at n new.processors)) (sym here) is)
          ],
    )

pub returns-clause-view : goal.returns-clause-view
returns-clause-view g c = λ known s shape all number kept from.
    let inv = c.loop-p.invariant in
    let size = inv.0 in
    let end = c.processors-p-end.ensures in
    let past = c.loop-p-test.false in
    record {
      size = inv.0 ∙ sym number;
      sizes = λ p below. (inv.3 known s shape all number kept from p (omega (arith, below, number, end, past))).sizes;
      words = λ p below. (inv.3 known s shape all number kept from p (omega (arith, below, number, end, past))).words;
    }
