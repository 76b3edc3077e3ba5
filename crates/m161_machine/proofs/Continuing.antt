use Rattle.std.proofs.Common.{◌≡◌, ◌∙◌, refl, sym, ap, subst, ℕ, ◌+◌, ◌≤◌, List, [], ◌∷◌, ◌++◌, length, replicate, Result, Ok, Err, arith}
use Rattle.std.proofs.lemmas.List.{append-nil, append_assoc, length-append, map-append, replicate-append-replicate}
use Rattle.m161_cpu.specs.declared.processor.Outcome.{Outcome}
use Rattle.m161_machine.specs.declared.event.Event.{Event}
use Rattle.m161_machine.specs.declared.event.Entry.{Entry}
use Rattle.m161_machine.specs.declared.event.Refusal.{Refusal}
use Rattle.m161_machine.specs.State.{State}
use Rattle.m161_machine.specs.History.{History, Start, entry, Answers, Continues, Refuses, Slides}
use Rattle.m161_machine.proofs.Leading.{leads_more, leads_on}

-- Machines that go on from one another.

-- no event
pub continues_none : (m : History) → length m.log ≤ m.start.conf.log → Continues m [] m
continues_none m fits = record {
  entries = [];
  events_are = refl;
  run_is = refl;
  slides = record {
    lost = [];
    log_is = append-nil m.log;
    base_is = refl;
    length_is = omega (arith, fits);
    start_is = refl;
  };
}

-- logs that slide one after the other
pub slides_on : (m n k : History) (xs ys : List Entry) → Slides m xs n → Slides n ys k → Slides m (xs ++ ys) k
slides_on m n k xs ys a b =
    let long = length-append xs ys in
    let conf_is = ap (λ (s : Start). s.conf.log) a.start_is in
    record {
      lost = a.lost ++ b.lost;
      log_is = sym (append_assoc m.log xs ys) ∙ ap (λ zs. zs ++ ys) a.log_is ∙ append_assoc a.lost n.log ys
          ∙ ap (λ zs. a.lost ++ zs) b.log_is ∙ sym (append_assoc a.lost b.lost k.log);
      base_is = leads_on a.lost b.lost m.base n.base k.base a.base_is b.base_is;
      length_is = omega (arith, long, conf_is, a.length_is, b.length_is);
      start_is = b.start_is ∙ a.start_is;
    }

-- one event more
pub continues_more : (m n k : History) (events : List Event) (e : Event) (o : Outcome) →
    Continues m events n → Answers n e (Ok o) k → Continues m (events ++ e ∷ []) k
continues_more m n k events e o c a = record {
  entries = c.entries ++ entry e o ∷ [];
  events_are = map-append (λ (x : Entry). x.event) c.entries (entry e o ∷ []) ∙ ap (λ es. es ++ e ∷ []) c.events_are;
  run_is = leads_more c.entries (entry e o) m.state n.state k.state c.run_is a.0;
  slides = slides_on m n k c.entries (entry e o ∷ []) c.slides a.1;
}

-- one after the other
pub continues_on : (m n k : History) (first rest : List Event) →
    Continues m first n → Continues n rest k → Continues m (first ++ rest) k
continues_on m n k first rest a b = record {
  entries = a.entries ++ b.entries;
  events_are = map-append (λ (x : Entry). x.event) a.entries b.entries ∙ (λ i. a.events_are i ++ b.events_are i);
  run_is = leads_on a.entries b.entries m.state n.state k.state a.run_is b.run_is;
  slides = slides_on m n k a.entries b.entries a.slides b.slides;
}

-- the same event once more
pub repeats_more : (m n k : History) (made : ℕ) (e : Event) (o : Outcome) →
    Continues m (replicate made e) n → Answers n e (Ok o) k → Continues m (replicate (made + 1) e) k
repeats_more m n k made e o c a =
    let P : List Event → Type 0 = λ events. Continues m events k in
    subst P (replicate-append-replicate made 1 e) (continues_more m n k (replicate made e) e o c a)

-- and several times more
pub repeats_on : (m n k : History) (made more : ℕ) (e : Event) →
    Continues m (replicate made e) n → Continues n (replicate more e) k → Continues m (replicate (made + more) e) k
repeats_on m n k made more e a b =
    let P : List Event → Type 0 = λ events. Continues m events k in
    subst P (replicate-append-replicate made more e) (continues_on m n k (replicate made e) (replicate more e) a b)

-- a refusal by `next`
pub refused_as : (x : Result (Outcome × State) Refusal) (e : Event) (refusal : Refusal) → x ≡ Err refusal → Refuses x e refusal
refused_as (Err first) e refusal h = cc
refused_as (Ok given) e refusal h = absurd (let bad : ◌≡◌ {A = Result (Outcome × State) Refusal} (Ok given) (Err refusal) = h in cc)
