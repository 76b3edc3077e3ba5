use Rattle.std.proofs.Common.{◌≡◌, ◌≢◌, ◌∙◌, refl, ap, sym, subst, ℕ, ◌+◌, ◌<◌, ◌≤◌, arith, Bool, true, false, List, [], ◌∷◌, ◌++◌, length, Option, None, Some, inl, inr}
use Rattle.std.specs.Prelude.{◌==◌, ◌||◌, MatchBool, if◌then◌else◌, nat_le, unwrap_or}
use Rattle.std.proofs.lemmas.Bool.Decides.{nat_tests}
use Rattle.m161_alike.specs.declared.known.Known.{Known}
use Rattle.m161_alike.specs.declared.reads.Reads.{Reads}
use Rattle.m161_alike.specs.Reads.{no_reads}
use Rattle.m161_alike.specs.View.{joined, known_of}
use Rattle.m161_explore.specs.declared.whole.Answer.{Answer}
use Rattle.m161_explore.specs.declared.whole.Answer.TheVariants.{Clean, Found, Hung, Open, Ended}
use Rattle.m161_explore.specs.Answers.{Answers, IsAny, IsJudged, IsStopped}
use Rattle.m161_explore.specs.Lists.{CanEnd, HasStop, HasVerdict, Leads}
use Rattle.m161_explore.specs.Views.{AreDifferent, HaveViews}
use Rattle.m161_states.specs.declared.verdict.Unknown.{Unknown}
use Rattle.m161_states.specs.Question.{Question, processors_of}
use Rattle.m161_states.specs.System.{Explored, event_of, next, start}
use Rattle.m161_states.specs.Verdicts.{is_end}
use Rattle.m161_reach.specs.From.{IsFreeFrom, IsHungFrom, IsLearntFrom, ReadsFrom, at_end, rules_from, with_known}
use Rattle.m161_reach.specs.Reach.{rules_of}
use Rattle.m161_reach.specs.helpers.Advance.{unmade}
use Rattle.m161_reach.specs.helpers.Onward.{Origin, behind_all, origin_of, says_hung}
use Rattle.m161_reach.proofs.Knowing.{IsNews, by_event, either, event_reads, same_or_other}
use Rattle.m161_reach.proofs.Behind.{known_leads, leads_append, leads_of, leads_to}

-- What an exploration from a state on says.

-- the events that lead to a state lead to it whatever is known

behind_known : (q : Question) (k : Known) (x : Explored) (es : List ℕ) → behind_all (with_known k q) x es ≡ behind_all q x es
behind_known q k x [] = refl
behind_known q k x (e ∷ es) = behind_known q k (unwrap_or (next q x e) x) es

pub answers_at : (q : Question) (k : Known) (es : List ℕ) (m : Origin) (x : Explored) (limit : ℕ) (answer : Answer (Unit {0}) Unknown) →
    m ≡ record { question = with_known k q; events = es } → x ≡ origin_of q es →
    Answers (rules_from m.question (origin_of m.question m.events)) limit answer → Answers (rules_from (with_known k q) x) limit answer
answers_at q k es m x limit answer is at h =
    subst (λ y. Answers (rules_from (with_known k q) y) limit answer) (ap unmade (behind_known q k (start q) es) ∙ sym at)
    (subst (λ (o : Origin). Answers (rules_from o.question (origin_of o.question o.events)) limit answer) is h)

pub stopped_at : (q : Question) (k : Known) (x : Explored) (limit : ℕ) (answer : Answer (Unit {0}) Unknown) (u : Unknown) → answer ≡ Ended u →
    Answers (rules_from (with_known k q) x) limit answer → IsStopped (rules_from (with_known k q) x) u
stopped_at q k x limit answer u is h = subst (Answers (rules_from (with_known k q) x) limit) is h

-- it stops for what isn't known

pub stopped_news : (q : Question) (x : Explored) (u : Unknown) → IsStopped (rules_from q x) u → IsNews q u
unfolding rules_from
stopped_news q x u h = let s = h.1 in by_event q s.from s.last u (event_of q s.from s.last) refl s.stop

stopped_reads : (q : Question) (k : Known) (x : Explored) (u : Unknown) (which : Reads → Bool) → IsStopped (rules_from (with_known k q) x) u →
    which u.reads ≡ true → ReadsFrom q x u.processor which
unfolding rules_from
stopped_reads q k x u which h on =
    let s = h.1 in
    let reads = event_reads (with_known k q) s.from s.last u (event_of q s.from s.last) refl s.stop in
    (s.followed.before, s.from, leads_of q k x x s.from s.followed.before s.followed.leads, ap which reads ∙ on)

-- what is known of time is told by lists, whatever else is known

again_read : (q : Question) (k : Known) (x : Explored) (p : ℕ) (which : Reads → Bool) → ReadsFrom q x p which → ReadsFrom (with_known k q) x p which
again_read q k x p which h = (h.0, h.1, known_leads q k x h.1 h.0 h.2, h.3)

abbrev pub IsReadAs : Question → Explored → Known → (Reads → Bool) → Type 0
IsReadAs q x known which = (p : ℕ) → p < 32 → which (known_of known p) ≡ true → ReadsFrom q x p which

-- what is learnt so far
pub record IsToldBy (q : Question) (x : Explored) (known : Known) : Type 0 where
  pub random : IsReadAs q x known (λ r. r.random)
  pub count : IsReadAs q x known (λ r. r.count)

register_told : (q : Question) (x : Explored) (old new : Known) (u : Unknown) (which : Reads → Bool) → IsStopped (rules_from (with_known old q) x) u →
    which (joined u.reads (known_of old u.processor)) ≡ (which u.reads || which (known_of old u.processor)) →
    known_of new u.processor ≡ joined u.reads (known_of old u.processor) → ((p : ℕ) → p < 32 → p ≢ u.processor → known_of new p ≡ known_of old p) →
    IsReadAs q x old which → IsReadAs q x new which
register_told q x old new u which h splits mine others told p below on =
    elim (same_or_other p u.processor (p == u.processor) refl) [
      | inl here ↦
          let both = sym splits ∙ ap which (sym mine) ∙ ap (λ m. which (known_of new m)) (sym here) ∙ on in
          elim (either (which u.reads) (which (known_of old u.processor)) both) [
            | inl read ↦ subst (λ m. ReadsFrom q x m which) (sym here) (stopped_reads q old x u which h read)
            | inr known ↦ told p below (ap (λ m. which (known_of old m)) here ∙ known)
          ]
      | inr other ↦ told p below (sym (ap which (others p below other)) ∙ on)
    ]

pub still_told : (q : Question) (x : Explored) (old new : Known) (u : Unknown) → IsStopped (rules_from (with_known old q) x) u →
    known_of new u.processor ≡ joined u.reads (known_of old u.processor) → ((p : ℕ) → p < 32 → p ≢ u.processor → known_of new p ≡ known_of old p) →
    IsToldBy q x old → IsToldBy q x new
still_told q x old new u h mine others told = record {
  random = register_told q x old new u (λ r. r.random) h refl mine others told.random;
  count = register_told q x old new u (λ r. r.count) h refl mine others told.count;
}

pub nothing_told : (q : Question) (x : Explored) (known : Known) → ((p : ℕ) → known_of known p ≡ no_reads) → IsToldBy q x known
nothing_told q x known none = record {
  random = λ p below on. absurd (let bad : false ≡ true = sym (ap (λ (r : Reads). r.random) (none p)) ∙ on in cc);
  count = λ p below on. absurd (let bad : false ≡ true = sym (ap (λ (r : Reads). r.count) (none p)) ∙ on in cc);
}

told_learnt : (q : Question) (x : Explored) (known : Known) → IsToldBy q x known → IsLearntFrom (with_known known q) x
told_learnt q x known h = record {
  random = λ p below on. again_read q known x p (λ r. r.random) (h.random p below on);
  count = λ p below on. again_read q known x p (λ r. r.count) (h.count p below on);
}

-- its answers

end_found : (q : Question) (y : Explored) (b : Bool) → is_end q y ≡ b → at_end q (Some y) ≡ Some tt → is_end q y ≡ true
end_found q y true is h = is
end_found q y false is h =
    absurd (let bad : ◌≡◌ {A = Option (Unit {0})} None (Some tt) = sym (ap (λ b. if b then Some tt else None) is) ∙ h in cc)

found_end : (q : Question) (k : Known) (x : Explored) (es : List ℕ) (what : Unit {0}) → HasVerdict (rules_from (with_known k q) x) es what → CanEnd (rules_of q) x
unfolding rules_from rules_of
found_end q k x es what h =
    let before = leads_of q k x x h.from h.followed.before h.followed.leads in
    let is : at_end q (Some h.to) ≡ Some tt = sym (ap (at_end q) h.accepted) ∙ h.verdict in (
      h.followed.before ++ h.last ∷ [],
      h.to,
      leads_append q x h.from h.to h.followed.before (h.last ∷ []) before (h.to, h.followed.event, h.accepted, refl),
      end_found q h.to (is_end q h.to) refl is,
    )

-- the last event of a list that isn't empty
last_parts : (q : Question) (s t : Explored) (e : ℕ) (es : List ℕ) → Leads (rules_of q) s (e ∷ es) t →
    (before : List ℕ) × (last : ℕ) × (u : Explored) × (e ∷ es ≡ before ++ last ∷ []) × Leads (rules_of q) s before u × (last < processors_of q + 2) × (next q u last ≡ Some t)
unfolding rules_of
last_parts q s t e [] h = ([], e, s, refl, refl, h.1, h.2 ∙ ap (λ (y : Explored). Some y) (sym h.3))
last_parts q s t e (f ∷ fs) h =
    let rest = last_parts q h.0 t f fs h.3 in
    (e ∷ rest.0, rest.1, rest.2, ap (λ l. e ∷ l) rest.3, (h.0, h.1, h.2, rest.4), rest.5, rest.6)

last_judged : (q : Question) (k : Known) (x : Explored) (e : ℕ) (es : List ℕ) (t : Explored) → Leads (rules_of q) x (e ∷ es) t → is_end q t ≡ true →
    HasVerdict (rules_from (with_known k q) x) (e ∷ es) tt
unfolding rules_from
last_judged q k x e es t h end =
    let parts = last_parts q x t e es h in
    record {
      from = parts.2;
      last = parts.1;
      to = t;
      followed = record { before = parts.0; is = parts.3; leads = leads_to q k x x parts.2 parts.0 parts.4; event = parts.5 };
      accepted = parts.6;
      verdict = ap (at_end q) parts.6 ∙ ap (λ (b : Bool). if b then Some tt else None) end;
    }

no_end_by : (q : Question) (k : Known) (x : Explored) → is_end q x ≡ false → ((es : List ℕ) → IsJudged (rules_from (with_known k q) x) es → ⊥) →
    (es : List ℕ) (t : Explored) → Leads (rules_of q) x es t → is_end q t ≡ true → ⊥
unfolding rules_of
no_end_by q k x on none [] t h end = let bad : false ≡ true = sym on ∙ ap (is_end q) (sym h) ∙ end in absurd (cc)
no_end_by q k x on none (e ∷ es) t h end = none (e ∷ es) (tt, last_judged q k x e es t h end)

no_end : (q : Question) (k : Known) (x : Explored) → is_end q x ≡ false → ((es : List ℕ) → IsJudged (rules_from (with_known k q) x) es → ⊥) → CanEnd (rules_of q) x → ⊥
unfolding rules_of
no_end q k x on none can = no_end_by q k x on none can.0 can.1 can.2 can.3

-- by the number of views
by_views : (q : Question) (k : Known) (x : Explored) (limit n : ℕ) (b : Bool) → nat_le n limit ≡ b → is_end q x ≡ false → IsToldBy q x k →
    ((es : List ℕ) → IsJudged (rules_from (with_known k q) x) es → ⊥) → ((es : List ℕ) (u : Unknown) → HasStop (rules_from (with_known k q) x) es u → ⊥) →
    HaveViews (rules_from (with_known k q) x) IsAny n → MatchBool b (IsHungFrom q limit x) (IsFreeFrom q limit x)
by_views q k x limit n true is on told none all views = record {
  no_end = no_end q k x on none;
  known = k;
  learnt = told_learnt q x k told;
  all_known = all;
  few = (views.0, views.2, (let same = views.3 in grind (arith, nat_tests, is, same)));
}
by_views q k x limit n false is on told none all views =
    inr (k, told_learnt q x k told, (views.0, views.1, (let same = views.3 in grind (arith, nat_tests, is, same))))

any_of : (q : Question) (x : Explored) (IsSo : List ℕ → Type 0) (views : List (List ℕ)) → AreDifferent (rules_from q x) IsSo views → AreDifferent (rules_from q x) IsAny views
any_of q x IsSo views h = record {
  each = λ j within. let old = h.each j within in (old.0, old.1, old.2, tt, old.4);
  different = h.different;
}

pub hung_or_free : (q : Question) (k : Known) (x : Explored) (limit : ℕ) (answer : Answer (Unit {0}) Unknown) → Answers (rules_from (with_known k q) x) limit answer →
    ((u : Unknown) → answer ≡ Ended u → ⊥) → is_end q x ≡ false → IsToldBy q x k → MatchBool (says_hung limit answer) (IsHungFrom q limit x) (IsFreeFrom q limit x)
hung_or_free q k x limit (Clean n) h whole on told = by_views q k x limit n (nat_le n limit) refl on told h.no_verdict h.no_stop h.count
hung_or_free q k x limit (Found events what n) h whole on told = inl (found_end q k x events.items what h.has_verdict)
hung_or_free q k x limit (Hung events n) h whole on told = by_views q k x limit n (nat_le n limit) refl on told h.no_verdict h.no_stop h.count
hung_or_free q k x limit (Open size) h whole on told =
    inr (k, told_learnt q x k told, (h.more.0, any_of (with_known k q) x (λ es. length es ≤ size + 1) h.more.0 h.more.1, h.more.2))
hung_or_free q k x limit (Ended reason) h whole on told = absurd (whole reason refl)
