use Rattle.std.proofs.Common.{◌≡◌, ◌∙◌, refl, ap, sym, subst, ℕ, ◌<◌, ◌≤◌, Bool, true, false, List, [], ◌∷◌, length, arith, Option, None, Some, inl, inr}
use Rattle.std.proofs.lemmas.Bool.{cases_order}
use Rattle.std.specs.Prelude.{◌==◌, if◌then◌else◌, option_map}
use Rattle.m161_states.specs.declared.verdict.Unknown.{Unknown}
use Rattle.m161_states.specs.declared.verdict.EventVerdict.{EventVerdict}
use Rattle.m161_states.specs.Question.{Question}
use Rattle.m161_states.specs.System.{Explored, event_of, next, stored, stored_if, stored_of}
use Rattle.m161_states.specs.Verdicts.{verdict}
use Rattle.m161_explore.specs.declared.whole.Answer.{Answer}
use Rattle.m161_explore.specs.declared.whole.Answer.TheVariants.{Clean, Found, Hung, Open, Ended}
use Rattle.m161_explore.specs.Answers.{Answers, IsAny, IsJudged, IsOpen}
use Rattle.m161_explore.specs.Lists.{HasStop, HasVerdict, IsFollowed, Leads}
use Rattle.m161_explore.specs.Views.{AreAll, AreDifferent, HaveViews}
use Rattle.m161_reach.specs.Reach.{rules_of}
use Rattle.m161_stores.specs.declared.storing.Sight.{Sight}
use Rattle.m161_stores.specs.declared.storing.Sight.TheVariants.{Store, Wrong}
use Rattle.m161_stores.specs.Stores.{IsUnsaid, IsUnstored, NoneStores, SomeStores, StoresLast, TellsStores}
use Rattle.m161_stores.specs.helpers.Storing.{says_unstored, states_again, store_verdict, storing_rules}
use Rattle.m161_stores.proofs.Counting.{equal, fit, same}

-- What the answer of an exploration for a store says.

-- its lists are those of the machine

leads_of : (q : Question) (word : ℕ) (es : List ℕ) (s t : Explored) → Leads (storing_rules q word) s es t → Leads (rules_of q) s es t
unfolding rules_of storing_rules
leads_of q word [] s t h = h
leads_of q word (e ∷ es) s t h = (h.0, h.1, h.2, leads_of q word es h.0 t h.3)

leads_from : (q : Question) (word : ℕ) (es : List ℕ) (s t : Explored) → Leads (rules_of q) s es t → Leads (storing_rules q word) s es t
unfolding rules_of storing_rules
leads_from q word [] s t h = h
leads_from q word (e ∷ es) s t h = (h.0, h.1, h.2, leads_from q word es h.0 t h.3)

followed_of : (q : Question) (word : ℕ) (es : List ℕ) (s : Explored) (e : ℕ) → IsFollowed (storing_rules q word) es s e → IsFollowed (rules_of q) es s e
unfolding rules_of storing_rules
followed_of q word es s e h = record { before = h.before; is = h.is; leads = leads_of q word h.before (rules_of q).start s h.leads; event = h.event }

followed_from : (q : Question) (word : ℕ) (es : List ℕ) (s : Explored) (e : ℕ) → IsFollowed (rules_of q) es s e → IsFollowed (storing_rules q word) es s e
unfolding rules_of storing_rules
followed_from q word es s e h = record { before = h.before; is = h.is; leads = leads_from q word h.before (rules_of q).start s h.leads; event = h.event }

stop_of : (q : Question) (word : ℕ) (es : List ℕ) (reason : Unknown) → HasStop (storing_rules q word) es reason → HasStop (rules_of q) es reason
unfolding rules_of storing_rules
stop_of q word es reason h = record { from = h.from; last = h.last; followed = followed_of q word es h.from h.last h.followed; stop = h.stop }

-- what ends it

accepted_of : (found : Option Explored) (to : Option ℕ) (word : ℕ) → stored_if found to ≡ Some word → (u : Explored) × (found ≡ Some u)
accepted_of None to word h = absurd (let bad : ◌≡◌ {A = Option ℕ} None (Some word) = h in cc)
accepted_of (Some u) to word h = (u, refl)

ends : (word : ℕ) (to : Option ℕ) (v : Option EventVerdict) → to ≡ Some word → store_verdict word to v ≡ Some Store
ends word to v h =
    ap (λ o. store_verdict word o v) h ∙ ap (λ b. if b then Some Store else option_map (λ what. Wrong what) v) (same word)

no_store : (v : Option EventVerdict) → ◌≡◌ {A = Option Sight} (option_map (λ what. Wrong what) v) (Some Store) → ⊥
no_store None h = let bad : ◌≡◌ {A = Option Sight} None (Some Store) = h in cc
no_store (Some what) h = let bad : ◌≡◌ {A = Option Sight} (Some (Wrong what)) (Some Store) = h in cc

store_by : (word other : ℕ) (v : Option EventVerdict) (test : Bool) → (other == word) ≡ test →
    ◌≡◌ {A = Option Sight} (if test then Some Store else option_map (λ what. Wrong what) v) (Some Store) → ◌≡◌ {A = Option ℕ} (Some other) (Some word)
store_by word other v true e h = ap (λ n. Some n) (equal other word e)
store_by word other v false e h = absurd (no_store v h)

store_of : (word : ℕ) (to : Option ℕ) (v : Option EventVerdict) → store_verdict word to v ≡ Some Store → to ≡ Some word
store_of word None v h = absurd (no_store v h)
store_of word (Some other) v h = store_by word other v (other == word) refl h

wrong_in : (v : Option EventVerdict) (what : EventVerdict) → ◌≡◌ {A = Option Sight} (option_map (λ w. Wrong w) v) (Some (Wrong what)) → v ≡ Some what
wrong_in None what h = absurd (let bad : ◌≡◌ {A = Option Sight} None (Some (Wrong what)) = h in cc)
wrong_in (Some other) what h = let is : ◌≡◌ {A = Option Sight} (Some (Wrong other)) (Some (Wrong what)) = h in cc

wrong_by : (v : Option EventVerdict) (what : EventVerdict) (test : Bool) →
    ◌≡◌ {A = Option Sight} (if test then Some Store else option_map (λ w. Wrong w) v) (Some (Wrong what)) → v ≡ Some what
wrong_by v what true h = absurd (let bad : ◌≡◌ {A = Option Sight} (Some Store) (Some (Wrong what)) = h in cc)
wrong_by v what false h = wrong_in v what h

wrong_of : (word : ℕ) (to : Option ℕ) (v : Option EventVerdict) (what : EventVerdict) → store_verdict word to v ≡ Some (Wrong what) → v ≡ Some what
wrong_of word None v what h = wrong_in v what h
wrong_of word (Some other) v what h = wrong_by v what (other == word) h

-- its verdicts

is_judged : (q : Question) (word : ℕ) (es : List ℕ) → StoresLast q word es → IsJudged (storing_rules q word) es
unfolding rules_of storing_rules
is_judged q word es h =
    let to = accepted_of (next q h.from h.last) (stored_of (event_of q h.from h.last) h.from.state) word h.stores in (
      Store,
      record {
        from = h.from;
        last = h.last;
        to = to.0;
        followed = followed_from q word es h.from h.last h.followed;
        accepted = to.1;
        verdict = ends word (stored q h.from h.last) (verdict q h.from h.last) h.stores;
      },
    )

stores_last : (q : Question) (word : ℕ) (es : List ℕ) → HasVerdict (storing_rules q word) es Store → StoresLast q word es
unfolding rules_of storing_rules
stores_last q word es h = record {
  from = h.from;
  last = h.last;
  followed = followed_of q word es h.from h.last h.followed;
  stores = store_of word (stored q h.from h.last) (verdict q h.from h.last) h.verdict;
}

is_wrong : (q : Question) (word : ℕ) (es : List ℕ) (what : EventVerdict) → HasVerdict (storing_rules q word) es (Wrong what) → IsJudged (rules_of q) es
unfolding rules_of storing_rules
is_wrong q word es what h = (
  what,
  record {
    from = h.from;
    last = h.last;
    to = h.to;
    followed = followed_of q word es h.from h.last h.followed;
    accepted = h.accepted;
    verdict = wrong_of word (stored q h.from h.last) (verdict q h.from h.last) what h.verdict;
  },
)

-- how many states

same_view : (q : Question) (word : ℕ) (t : Explored) → (storing_rules q word).view t ≡ (rules_of q).view t
unfolding rules_of storing_rules
same_view q word t = refl

views_fit : (q : Question) (word : ℕ) (IsSo IsAlso : List ℕ → Type 0) (views all : List (List ℕ)) → ((es : List ℕ) → IsSo es → IsAlso es) →
    AreDifferent (storing_rules q word) IsSo views → AreAll (rules_of q) IsAlso all → length views ≤ length all
unfolding rules_of storing_rules
views_fit q word IsSo IsAlso views all so different every =
    fit (storing_rules q word) (rules_of q) IsSo IsAlso views all (λ es t h. leads_of q word es (rules_of q).start t h) (same_view q word) so different every

-- behind an exploration that looked at all lists

record IsClosed (q : Question) (states : ℕ) : Type 0 where
  no_verdict : (es : List ℕ) → IsJudged (rules_of q) es → ⊥
  no_stop : (es : List ℕ) (reason : Unknown) → HasStop (rules_of q) es reason → ⊥
  count : HaveViews (rules_of q) IsAny states

tells_closed : (q : Question) (word states : ℕ) (again : Answer Sight Unknown) → IsClosed q states → Answers (storing_rules q word) states again →
    TellsStores q (Clean states) word (says_unstored again)
tells_closed q word states (Clean n) all is = λ es h. is.no_verdict es (is_judged q word es h)
tells_closed q word states (Found es Store n) all is = (es.items, stores_last q word es.items is.has_verdict)
tells_closed q word states (Found es (Wrong what) n) all is = absurd (all.no_verdict es.items (is_wrong q word es.items what is.has_verdict))
tells_closed q word states (Hung es n) all is = λ es h. is.no_verdict es (is_judged q word es h)
tells_closed q word states (Open size) all is =
    absurd (let less = views_fit q word _ IsAny is.more.0 all.count.0 (λ es h. tt) is.more.1 all.count.2 in
    let more = is.more.2 in let number = all.count.3 in let bad : ⊥ = omega (arith, less, more, number) in bad)
tells_closed q word states (Ended reason) all is = absurd (all.no_stop is.0 reason (stop_of q word is.0 reason is.1))

-- behind one that didn't

longer : (q : Question) (size : ℕ) (es : List ℕ) → ((fs : List ℕ) → length fs ≤ size → IsJudged (rules_of q) fs → ⊥) → IsJudged (rules_of q) es → size < length es
longer q size es none h = elim (cases_order size (length es)) [
  | inl e ↦ absurd (none es (omega (arith, e)) h)
  | inr k ↦ elim k [ inl l ↦ l | inr l ↦ absurd (none es (omega (arith, l)) h) ]
]

as_far : (q : Question) (word limit size most : ℕ) → IsOpen (rules_of q) limit size → IsOpen (storing_rules q word) limit most → size ≤ most
as_far q word limit size most one other = elim (cases_order most size) [
  | inl e ↦ omega (arith, e)
  | inr k ↦ elim k [
    | inl l ↦ absurd (
        let less = views_fit q word _ (λ es. length es ≤ size) other.more.0 one.few.0 (λ es h. omega (arith, h, l)) other.more.1 one.few.1 in
        let more = other.more.2 in let few = one.few.2 in let bad : ⊥ = omega (arith, less, more, few) in bad)
    | inr l ↦ omega (arith, l)
  ]
]

tells_open : (q : Question) (word limit size : ℕ) (again : Answer Sight Unknown) → IsOpen (rules_of q) limit size → Answers (storing_rules q word) limit again →
    TellsStores q (Open size) word (says_unstored again)
tells_open q word limit size (Clean n) one is = λ es l h. is.no_verdict es (is_judged q word es h)
tells_open q word limit size (Found es Store n) one is = inl (es.items, stores_last q word es.items is.has_verdict)
tells_open q word limit size (Found es (Wrong what) n) one is = λ fs l h.
    let long = longer q size es.items one.no_verdict (is_wrong q word es.items what is.has_verdict) in
    is.first.first fs (is_judged q word fs h) (inl (omega (arith, l, long)))
tells_open q word limit size (Hung es n) one is = λ fs l h. is.no_verdict fs (is_judged q word fs h)
tells_open q word limit size (Open most) one is = λ es l h.
    let far = as_far q word limit size most one is in
    is.no_verdict es (omega (arith, l, far)) (is_judged q word es h)
tells_open q word limit size (Ended reason) one is = inr (is.0, reason, stop_of q word is.0 reason is.1)

as_hung : (q : Question) (word states : ℕ) (first : Answer EventVerdict Unknown) (b : Bool) → TellsStores q (Clean states) word b →
    IsUnstored q word first ≡ NoneStores q word → IsUnsaid q word first ≡ SomeStores q word → TellsStores q first word b
as_hung q word states first true h none some = subst (λ (P : Type 0). P) (sym none) h
as_hung q word states first false h none some = subst (λ (P : Type 0). P) (sym some) h

same_number : (n m : ℕ) → ◌≡◌ {A = Option ℕ} (Some n) (Some m) → n ≡ m
same_number n m h = cc

pub tells : (q : Question) (word limit states : ℕ) (first : Answer EventVerdict Unknown) (again : Answer Sight Unknown) → Answers (rules_of q) limit first →
    states_again limit first ≡ Some states → Answers (storing_rules q word) states again → TellsStores q first word (says_unstored again)
tells q word limit states (Clean n) again one is two =
    tells_closed q word n again (record { no_verdict = one.no_verdict; no_stop = one.no_stop; count = one.count })
    (subst (λ m. Answers (storing_rules q word) m again) (sym (same_number n states is)) two)
tells q word limit states (Hung es n) again one is two =
    as_hung q word n (Hung es n) (says_unstored again)
    (tells_closed q word n again (record { no_verdict = one.no_verdict; no_stop = one.no_stop; count = one.count })
    (subst (λ m. Answers (storing_rules q word) m again) (sym (same_number n states is)) two)) refl refl
tells q word limit states (Open size) again one is two =
    tells_open q word limit size again one (subst (λ m. Answers (storing_rules q word) m again) (sym (same_number limit states is)) two)
tells q word limit states (Found es what n) again one is two = absurd (let bad : ◌≡◌ {A = Option ℕ} None (Some states) = is in cc)
tells q word limit states (Ended reason) again one is two = absurd (let bad : ◌≡◌ {A = Option ℕ} None (Some states) = is in cc)

-- some states are looked at

some_views : (q : Question) (n : ℕ) → HaveViews (rules_of q) IsAny n → 0 < n
some_views q n h =
    let there = h.2 [] (rules_of q).start refl tt in
    let within = there.1 in let number = h.3 in omega (arith, within, number)

pub some_states : (q : Question) (limit states : ℕ) (first : Answer EventVerdict Unknown) → 0 < limit → Answers (rules_of q) limit first →
    states_again limit first ≡ Some states → 0 < states
some_states q limit states (Clean n) some one is = let few = some_views q n one.count in let same = same_number n states is in omega (arith, few, same)
some_states q limit states (Hung es n) some one is = let few = some_views q n one.count in let same = same_number n states is in omega (arith, few, same)
some_states q limit states (Open size) some one is = let same = same_number limit states is in omega (arith, some, same)
some_states q limit states (Found es what n) some one is = absurd (let bad : ◌≡◌ {A = Option ℕ} None (Some states) = is in cc)
some_states q limit states (Ended reason) some one is = absurd (let bad : ◌≡◌ {A = Option ℕ} None (Some states) = is in cc)
