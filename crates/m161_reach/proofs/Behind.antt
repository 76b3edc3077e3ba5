use Rattle.std.proofs.Common.{◌≡◌, ◌∙◌, refl, ap, sym, subst, ℕ, Bool, true, List, [], ◌∷◌, ◌++◌, length, Option, None, Some, Result, Ok, Err, inl, inr}
use Rattle.std.specs.Prelude.{◌||◌, ◌&&◌, nat_lt, unwrap_or}
use Rattle.m161_cpu.specs.declared.processor.Outcome.{Outcome}
use Rattle.m161_cpu.specs.declared.uses.Uses.{Uses}
use Rattle.m161_machine.specs.declared.event.Event.{Event}
use Rattle.m161_machine.specs.declared.event.Event.TheVariants.{Done, Key, Step}
use Rattle.m161_machine.specs.declared.event.Refusal.{Refusal}
use Rattle.m161_machine.specs.State.{State, next as result_of}
use Rattle.m161_judge.specs.Verdict.{Criteria}
use Rattle.m161_alike.specs.declared.known.Known.{Known}
use Rattle.m161_alike.specs.declared.reads.Reads.{Reads}
use Rattle.m161_alike.specs.View.{known_of}
use Rattle.m161_explore.specs.Answers.{IsAny}
use Rattle.m161_explore.specs.Lists.{CanEnd, HasStop, Leads}
use Rattle.m161_explore.specs.Views.{AreDifferent, HaveFewViews, view_at}
use Rattle.m161_states.specs.declared.verdict.Unknown.{Unknown}
use Rattle.m161_states.specs.Question.{Question}
use Rattle.m161_states.specs.System.{Explored, accepted, behind, event_of, flags_behind, fresh, next, next_by, start}
use Rattle.m161_states.specs.Verdicts.{has_sent, is_end, is_stuck_in, reads_next, stop, stop_by, unknown_by}
use Rattle.m161_states.specs.Views.{view}
use Rattle.m161_reach.specs.From.{IsFreeFrom, IsHungFrom, IsLearntFrom, ReadsFrom, rules_from, with_known}
use Rattle.m161_reach.specs.Hangs.{IsFreeAt, is_over}
use Rattle.m161_reach.specs.Reach.{rules_of}
use Rattle.m161_reach.specs.helpers.Advance.{unmade}
use Rattle.m161_reach.specs.helpers.Onward.{behind_all}
use Rattle.m161_reach.proofs.Fresh.{fresh_next, fresh_stuck, fresh_uses}

-- A state as before any event goes on as the state itself.

behind_same : (goal : Criteria) (x : Explored) (e : Event) (t : State) → behind goal (unmade x) e t ≡ behind goal x e t
behind_same goal x (Step p) t =
    let stored = ap (λ (u : Uses). u.stored) (fresh_uses p x.state) in
    λ i. record (behind goal x (Step p) t) { flags = flags_behind (stored i) goal.watches x.flags }
behind_same goal x (Key byte) t = refl
behind_same goal x Done t = refl

accepted_same : (goal : Criteria) (x : Explored) (e : Event) (r : Result (Outcome × State) Refusal) → accepted goal (unmade x) e r ≡ accepted goal x e r
accepted_same goal x e (Ok given) = ap (λ (y : Explored). Some y) (behind_same goal x e given.1)
accepted_same goal x e (Err refusal) = refl

by_same : (goal : Criteria) (x : Explored) (e : Option Event) → next_by goal (unmade x) e ≡ next_by goal x e
by_same goal x None = refl
by_same goal x (Some e) = accepted_same goal x e (result_of (fresh x.state) e)

pub next_same : (q : Question) (x : Explored) (n : ℕ) → next q (unmade x) n ≡ next q x n
next_same q x n = by_same q.goal x (event_of q x n)

stop_by_same : (q : Question) (x : Explored) (e : Option Event) → stop_by q (unmade x) e ≡ stop_by q x e
stop_by_same q x None = refl
stop_by_same q x (Some (Step p)) = ap (unknown_by (known_of q.known p) p) (fresh_next p x.state)
stop_by_same q x (Some (Key byte)) = refl
stop_by_same q x (Some Done) = refl

pub stop_same : (q : Question) (x : Explored) (n : ℕ) → stop q (unmade x) n ≡ stop q x n
stop_same q x n = stop_by_same q x (event_of q x n)

stuck_same : (q : Question) (x : Explored) → is_stuck_in q.goal (unmade x) ≡ is_stuck_in q.goal x
stuck_same q x = fresh_stuck (nat_lt x.typed (length q.goal.keys)) x.state

pub end_same : (q : Question) (x : Explored) → is_end q (unmade x) ≡ is_end q x
end_same q x = let stuck = stuck_same q x in λ i. x.state.board.off || (stuck i && has_sent q.goal.output x.agreed)

pub over_same : (q : Question) (x : Explored) → is_over q (unmade x) ≡ is_over q x
over_same q x = let stuck = stuck_same q x in λ i. x.state.board.off || stuck i

pub view_same : (q : Question) (x : Explored) → view q (unmade x) ≡ view q x
view_same q x = refl

-- lists lead alike by the rules from any state, whatever is known

pub leads_to : (q : Question) (k : Known) (x s t : Explored) (es : List ℕ) → Leads (rules_of q) s es t → Leads (rules_from (with_known k q) x) s es t
unfolding rules_of rules_from
leads_to q k x s t [] h = h
leads_to q k x s t (e ∷ es) h = (h.0, h.1, h.2, leads_to q k x h.0 t es h.3)

pub leads_of : (q : Question) (k : Known) (x s t : Explored) (es : List ℕ) → Leads (rules_from (with_known k q) x) s es t → Leads (rules_of q) s es t
unfolding rules_of rules_from
leads_of q k x s t [] h = h
leads_of q k x s t (e ∷ es) h = (h.0, h.1, h.2, leads_of q k x h.0 t es h.3)

pub leads_known : (q : Question) (k : Known) (s t : Explored) (es : List ℕ) → Leads (rules_of (with_known k q)) s es t → Leads (rules_of q) s es t
unfolding rules_of
leads_known q k s t [] h = h
leads_known q k s t (e ∷ es) h = (h.0, h.1, h.2, leads_known q k h.0 t es h.3)

pub known_leads : (q : Question) (k : Known) (s t : Explored) (es : List ℕ) → Leads (rules_of q) s es t → Leads (rules_of (with_known k q)) s es t
unfolding rules_of
known_leads q k s t [] h = h
known_leads q k s t (e ∷ es) h = (h.0, h.1, h.2, known_leads q k h.0 t es h.3)

-- a list leads to one state

some_same : (u v : Explored) → ◌≡◌ {A = Option Explored} (Some u) (Some v) → u ≡ v
some_same u v h = cc

pub leads_one : (q : Question) (s t u : Explored) (es : List ℕ) → Leads (rules_of q) s es t → Leads (rules_of q) s es u → t ≡ u
unfolding rules_of
leads_one q s t u [] h g = h ∙ sym g
leads_one q s t u (e ∷ es) h g =
    let same : h.0 ≡ g.0 = some_same h.0 g.0 (sym h.2 ∙ g.2) in
    leads_one q g.0 t u es (subst (λ v. Leads (rules_of q) v es t) same h.3) g.3

pub leads_append : (q : Question) (s t u : Explored) (es fs : List ℕ) → Leads (rules_of q) s es t → Leads (rules_of q) t fs u → Leads (rules_of q) s (es ++ fs) u
unfolding rules_of
leads_append q s t u [] fs h g = subst (λ v. Leads (rules_of q) v fs u) h g
leads_append q s t u (e ∷ es) fs h g = (h.0, h.1, h.2, leads_append q h.0 t u es fs h.3 g)

pub leads_split : (q : Question) (s u : Explored) (es fs : List ℕ) → Leads (rules_of q) s (es ++ fs) u → (t : Explored) × Leads (rules_of q) s es t × Leads (rules_of q) t fs u
unfolding rules_of
leads_split q s u [] fs h = (s, refl, h)
leads_split q s u (e ∷ es) fs h =
    let rest = leads_split q h.0 u es fs h.3 in
    (rest.0, (h.0, h.1, h.2, rest.1), rest.2)

-- it is the one to which the list leads whatever is accepted
pub leads_behind : (q : Question) (s t : Explored) (es : List ℕ) → Leads (rules_of q) s es t → t ≡ behind_all q s es
unfolding rules_of
leads_behind q s t [] h = h
leads_behind q s t (e ∷ es) h =
    leads_behind q h.0 t es h.3 ∙ ap (λ (f : Option Explored). behind_all q (unwrap_or f s) es) (sym h.2)

-- each list from x is told by one from y, which leads to a state of which the same is so, whether events
-- are counted or not
abbrev pub IsBehind : Question → Explored → Explored → Type 1
IsBehind q x y =
    (IsSo : Explored → Type 0) → ((z : Explored) → IsSo z → IsSo (unmade z)) → ((z : Explored) → IsSo (unmade z) → IsSo z) →
    (es : List ℕ) (t : Explored) → Leads (rules_of q) x es t → IsSo t → (fs : List ℕ) × (z : Explored) × Leads (rules_of q) y fs z × IsSo z

pub behind_unmade : (q : Question) (x : Explored) → IsBehind q (unmade x) x
unfolding rules_of
behind_unmade q x IsSo to back [] t h so = ([], x, refl, back x (subst IsSo h so))
behind_unmade q x IsSo to back (e ∷ es) t h so = (e ∷ es, t, (h.0, h.1, sym (next_same q x e) ∙ h.2, h.3), so)

pub unmade_behind : (q : Question) (x : Explored) → IsBehind q x (unmade x)
unfolding rules_of
unmade_behind q x IsSo to back [] t h so = ([], unmade x, refl, to x (subst IsSo h so))
unmade_behind q x IsSo to back (e ∷ es) t h so = (e ∷ es, t, (h.0, h.1, next_same q x e ∙ h.2, h.3), so)

pub list_behind : (q : Question) (x y : Explored) (es : List ℕ) → Leads (rules_of q) x es y → IsBehind q y x
list_behind q x y es h IsSo to back fs t g so = (es ++ fs, t, leads_append q x y t es fs h g, so)

-- what is read

read_behind : (q : Question) (x y : Explored) → IsBehind q x y → (p : ℕ) (which : Reads → Bool) → ReadsFrom q x p which → ReadsFrom q y p which
read_behind q x y behind p which h =
    behind (λ z. which (reads_next p z.state) ≡ true) (λ z so. ap which (fresh_next p z.state) ∙ so) (λ z so. sym (ap which (fresh_next p z.state)) ∙ so)
    h.0 h.1 h.2 h.3

reads_known : (q : Question) (k : Known) (x : Explored) (p : ℕ) (which : Reads → Bool) → ReadsFrom q x p which → ReadsFrom (with_known k q) x p which
reads_known q k x p which h = (h.0, h.1, known_leads q k x h.1 h.0 h.2, h.3)

known_reads : (q : Question) (k : Known) (x : Explored) (p : ℕ) (which : Reads → Bool) → ReadsFrom (with_known k q) x p which → ReadsFrom q x p which
known_reads q k x p which h = (h.0, h.1, leads_known q k x h.1 h.0 h.2, h.3)

learnt_behind : (q : Question) (k : Known) (x y : Explored) → IsBehind q x y → IsLearntFrom (with_known k q) x → IsLearntFrom (with_known k q) y
learnt_behind q k x y behind h = record {
  random = λ p below on.
      reads_known q k y p (λ r. r.random) (read_behind q x y behind p (λ r. r.random) (known_reads q k x p (λ r. r.random) (h.random p below on)));
  count = λ p below on.
      reads_known q k y p (λ r. r.count) (read_behind q x y behind p (λ r. r.count) (known_reads q k x p (λ r. r.count) (h.count p below on)));
}

-- an end

ends_behind : (q : Question) (x y : Explored) → IsBehind q x y → CanEnd (rules_of q) x → CanEnd (rules_of q) y
unfolding rules_of
ends_behind q x y behind h =
    behind (λ z. is_end q z ≡ true) (λ z so. end_same q z ∙ so) (λ z so. sym (end_same q z) ∙ so) h.0 h.1 h.2 h.3

-- views

view_behind : (q : Question) (k : Known) (x y : Explored) → IsBehind q x y → (v : List ℕ) (es : List ℕ) (t : Explored) →
    Leads (rules_from (with_known k q) x) x es t → view (with_known k q) t ≡ v →
    (fs : List ℕ) × (z : Explored) × Leads (rules_from (with_known k q) y) y fs z × (view (with_known k q) z ≡ v)
view_behind q k x y behind v es t h so =
    let found = behind (λ z. view (with_known k q) z ≡ v) (λ z is. view_same (with_known k q) z ∙ is) (λ z is. sym (view_same (with_known k q) z) ∙ is)
    es t (leads_of q k x x t es h) so in
    (found.0, found.1, leads_to q k y y found.1 found.0 found.2, found.3)

different_behind : (q : Question) (k : Known) (x y : Explored) → IsBehind q x y → (views : List (List ℕ)) → AreDifferent (rules_from (with_known k q) x) IsAny views →
    AreDifferent (rules_from (with_known k q) y) IsAny views
unfolding rules_from
different_behind q k x y behind views h = record {
  each = λ j within.
      let old = h.each j within in
      let new = view_behind q k x y behind (view_at views j) old.0 old.1 old.2 old.4 in
      (new.0, new.1, new.2, tt, new.3);
  different = h.different;
}

few_behind : (q : Question) (k : Known) (limit : ℕ) (x y : Explored) → IsBehind q y x → HaveFewViews (rules_from (with_known k q) x) IsAny limit →
    HaveFewViews (rules_from (with_known k q) y) IsAny limit
unfolding rules_from
few_behind q k limit x y behind h = (
  h.0,
  (λ es t leads so.
      let old = view_behind q k y x behind (view (with_known k q) t) es t leads refl in
      let found = h.1 old.0 old.1 old.2 tt in
      (found.0, found.1, sym old.3 ∙ found.2)),
  h.2,
)

-- a Step that reads what isn't known

stops_behind : (q : Question) (k : Known) (x y : Explored) → IsBehind q x y → (es : List ℕ) (u : Unknown) → HasStop (rules_from (with_known k q) x) es u →
    (fs : List ℕ) × HasStop (rules_from (with_known k q) y) fs u
unfolding rules_from
stops_behind q k x y behind es u h =
    let found = behind (λ z. stop (with_known k q) z h.last ≡ Some u) (λ z is. stop_same (with_known k q) z h.last ∙ is)
    (λ z is. sym (stop_same (with_known k q) z h.last) ∙ is) h.followed.before h.from (leads_of q k x x h.from h.followed.before h.followed.leads) h.stop in (
      found.0 ++ h.last ∷ [],
      record {
        from = found.1;
        last = h.last;
        followed = record { before = found.0; is = refl; leads = leads_to q k y y found.1 found.0 found.2; event = h.followed.event };
        stop = found.3;
      },
    )

-- whether a state hangs

pub free_behind : (q : Question) (limit : ℕ) (x y : Explored) → IsBehind q x y → IsFreeFrom q limit x → IsFreeFrom q limit y
free_behind q limit x y behind (inl h) = inl (ends_behind q x y behind h)
free_behind q limit x y behind (inr h) =
    inr (h.0, learnt_behind q h.0 x y behind h.1, (h.2.0, different_behind q h.0 x y behind h.2.0 h.2.1, h.2.2))

pub hung_behind : (q : Question) (limit : ℕ) (x y : Explored) → IsBehind q x y → IsBehind q y x → IsHungFrom q limit x → IsHungFrom q limit y
hung_behind q limit x y behind back h = record {
  no_end = λ can. h.no_end (ends_behind q y x back can);
  known = h.known;
  learnt = learnt_behind q h.known x y behind h.learnt;
  all_known = λ es u stops. let found = stops_behind q h.known y x back es u stops in h.all_known found.0 u found.1;
  few = few_behind q h.known limit x y back h.few;
}

-- where a list doesn't hang, none of its first events hangs
pub free_before : (q : Question) (limit : ℕ) (es fs : List ℕ) → IsFreeAt q limit (es ++ fs) → IsFreeAt q limit es
free_before q limit es fs h =
    let parts = leads_split q (start q) h.0 es fs h.1 in
    (parts.0, parts.1, free_behind q limit h.0 parts.0 (list_behind q parts.0 h.0 fs parts.2) h.2)
