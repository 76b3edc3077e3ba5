use Rattle.std.proofs.Common.{◌≡◌, ◌∙◌, refl, ap, sym, subst, ℕ, List, [], ◌∷◌, map, Option, None, Some, Result, Ok, Err, arith}
use Rattle.std.specs.Prelude.{All}
use Rattle.std.proofs.lemmas.List.Elements.{All-cons, All-nil}
use Rattle.m161_bus.specs.declared.console.DoneError.{DoneError}
use Rattle.m161_bus.specs.declared.console.KeyFull.{KeyFull}
use Rattle.m161_bus.specs.Board.{BoardState, board_done, board_key}
use Rattle.m161_cpu.specs.declared.processor.Outcome.{Outcome}
use Rattle.m161_cpu.specs.declared.processor.Outcome.TheVariants.{Taken}
use Rattle.m161_isa.specs.declared.link.LinkUnit.{LinkUnit}
use Rattle.m161_cpu.specs.Links.{LinkState, links_after}
use Rattle.m161_cpu.specs.Scene.{around, scene}
use Rattle.m161_cpu.proofs.Laws.{step_links}
use Rattle.m161_machine.specs.declared.event.Entry.{Entry}
use Rattle.m161_machine.specs.declared.event.Event.{Event}
use Rattle.m161_machine.specs.declared.event.Event.TheVariants.{Step, Key, Done}
use Rattle.m161_machine.specs.declared.event.Refusal.{Refusal}
use Rattle.m161_machine.specs.declared.event.Refusal.TheVariants.{KeyFull as KeyFullRefusal}
use Rattle.m161_machine.specs.State.{State, answer, answered_done, answered_key, next, processor_at, refusal, refusal_of_done, step_result, with_board, with_step}
use Rattle.m161_machine.specs.History.{Leads}
use Rattle.m161_machine.specs.StoreHistory.{Link, LeadsStores, StoresAgree, StoreState, first_link, links_of, live, live_links, live_state, next_store, stores_of, with_stores, with_stores_of, without_stores}
use Rattle.m161_machine.proofs.Counting.{given, state_of}
use Rattle.m161_machine.proofs.Linking.{IsMade, all_made, live_after}

-- A run and the history of its stores.

-- what a Step leaves of the links
step_leaves : (p : ℕ) (s : State) → (step_result p s).after.around.links ≡ links_after p (step_result p s).link (step_result p s).stored s.links
unfolding step_result
step_leaves p s = step_links (scene (processor_at p s.processors) (around p s.memory s.board s.links s.conf.strict))

kept_by_key : (s : StoreState) (t : State) (o : Outcome) (r : Result BoardState KeyFull) → answered_key (live_state s) r ≡ Ok (o, t) →
    live_links s.unit s.stores s.links ≡ t.links
kept_by_key s t o (Ok board) h = ap (λ (u : State). u.links) (state_of (Taken, with_board board (live_state s)) (o, t) h)
kept_by_key s t o (Err e) h = absurd (let bad : ◌≡◌ {A = Result (Outcome × State) Refusal} (Err KeyFullRefusal) (Ok (o, t)) = h in cc)

kept_by_done : (s : StoreState) (t : State) (o : Outcome) (r : Result BoardState DoneError) → answered_done (live_state s) r ≡ Ok (o, t) →
    live_links s.unit s.stores s.links ≡ t.links
kept_by_done s t o (Ok board) h = ap (λ (u : State). u.links) (state_of (Taken, with_board board (live_state s)) (o, t) h)
kept_by_done s t o (Err e) h = absurd (let bad : ◌≡◌ {A = Result (Outcome × State) Refusal} (Err (refusal_of_done e)) (Ok (o, t)) = h in cc)

-- the links after an event are those of the history
links_are : (e : Event) (s : StoreState) (t : State) (o : Outcome) → All (IsMade s.stores) s.links → answer (live_state s) e ≡ Ok (o, t) →
    live_links s.unit (stores_of e s) (links_of e s) ≡ t.links
links_are (Step p) s t o made h =
    let x = step_result p (live_state s) in
    let t_is : with_step p x (live_state s) ≡ t = state_of (x.outcome, with_step p x (live_state s)) (o, t) h in
    sym (live_after s.unit p x.link x.stored s.stores s.links made) ∙ sym (step_leaves p (live_state s)) ∙ ap (λ (u : State). u.links) t_is
links_are (Key byte) s t o made h = kept_by_key s t o (board_key byte s.board) h
links_are Done s t o made h = kept_by_done s t o (board_done s.board) h

-- and an accepted event's are
links_next : (e : Event) (s : StoreState) (t : State) (o : Outcome) → All (IsMade s.stores) s.links → next (live_state s) e ≡ Ok (o, t) →
    live_links s.unit (stores_of e s) (links_of e s) ≡ t.links
unfolding next
links_next e s t o made h = links_are e s t o made (given (refusal (live_state s) e) (answer (live_state s) e) (o, t) h)

all_made_next : (e : Event) (s : StoreState) → All (IsMade s.stores) s.links → All (IsMade (stores_of e s)) (links_of e s)
all_made_next (Step p) s made =
    all_made s.unit p (step_result p (live_state s)).link (step_result p (live_state s)).stored s.stores s.links made
all_made_next (Key byte) s made = made
all_made_next Done s made = made

-- the unit is the one of the links
with_unit : (u : LinkUnit) (stores : List ℕ) (links : List (Option Link)) (l : LinkState) → live_links u stores links ≡ l → live_links l.unit stores links ≡ l
with_unit u stores links l same = ap (λ (k : LinkState). live_links k.unit stores links) (sym same) ∙ same

image_by : (stores : List ℕ) (links : List (Option Link)) (t : State) → live_links t.links.unit stores links ≡ t.links → live_state (with_stores stores links t) ≡ t
image_by stores links t same = λ i. record {
  conf = t.conf;
  processors = t.processors;
  memory = t.memory;
  board = t.board;
  links = same i;
  made = t.made;
  conflict = t.conflict;
}

pub image : (u : LinkUnit) (stores : List ℕ) (links : List (Option Link)) (t : State) → live_links u stores links ≡ t.links → live_state (with_stores stores links t) ≡ t
image u stores links t same = image_by stores links t (with_unit u stores links t.links same)

-- an accepted event of a state with its stores leads to the stores that have it as their image
pub next_with_stores : (e : Event) (s : StoreState) (o : Outcome) (t : State) → All (IsMade s.stores) s.links → next (live_state s) e ≡ Ok (o, t) →
    (next_store s e ≡ Ok (o, with_stores (stores_of e s) (links_of e s) t))
    × (live_state (with_stores (stores_of e s) (links_of e s) t) ≡ t)
    × All (IsMade (stores_of e s)) (links_of e s)
next_with_stores e s o t made h = (
  ap (with_stores_of e s) h,
  image s.unit (stores_of e s) (links_of e s) t (links_next e s t o made h),
  all_made_next e s made,
)

-- a run leads to the stores that have it as their image
with_its_stores : (es : List Entry) (s : StoreState) (t : State) → All (IsMade s.stores) s.links → Leads (live_state s) es t →
    (u : StoreState) × LeadsStores s es u × (live_state u ≡ t)
with_its_stores [] s t made h = (s, refl, sym h)
with_its_stores (e ∷ es) s t made h =
    let v = with_stores (stores_of e.event s) (links_of e.event s) h.0 in
    let same : live_state v ≡ h.0 =
    image s.unit (stores_of e.event s) (links_of e.event s) h.0 (links_next e.event s h.0 e.outcome made h.1) in
    let rest = with_its_stores es v t (all_made_next e.event s made) (subst (λ w. Leads w es t) (sym same) h.2) in
    (rest.0, (v, ap (with_stores_of e.event s) h.1, rest.1), rest.2)

-- an event of the history is one of its image
next_of_image : (e : Event) (s v : StoreState) (o : Outcome) (r : Result (Outcome × State) Refusal) → with_stores_of e s r ≡ Ok (o, v) →
    (t : State) × (r ≡ Ok (o, t)) × (v ≡ with_stores (stores_of e s) (links_of e s) t)
next_of_image e s v o (Ok r) h =
    let pair : ◌≡◌ {A = Outcome × StoreState} (r.0, with_stores (stores_of e s) (links_of e s) r.1) (o, v) = cc in
    let outcome_is : r.0 ≡ o = ap (λ (x : Outcome × StoreState). x.0) pair in
    (r.1, ap (λ a. Ok (a, r.1)) outcome_is, sym (ap (λ (x : Outcome × StoreState). x.1) pair))
next_of_image e s v o (Err refusal) h = absurd (let bad : ◌≡◌ {A = Result (Outcome × StoreState) Refusal} (Err refusal) (Ok (o, v)) = h in cc)

-- and so is its run
image_leads : (es : List Entry) (s u : StoreState) → All (IsMade s.stores) s.links → LeadsStores s es u → Leads (live_state s) es (live_state u)
image_leads [] s u made h = ap live_state h
image_leads (e ∷ es) s u made h =
    let first = next_of_image e.event s h.0 e.outcome (next (live_state s) e.event) h.1 in
    let t = first.0 in
    let v = with_stores (stores_of e.event s) (links_of e.event s) t in
    let same : live_state v ≡ t = image s.unit (stores_of e.event s) (links_of e.event s) t (links_next e.event s t e.outcome made first.1) in
    let rest = image_leads es v u (all_made_next e.event s made) (subst (λ w. LeadsStores w es u) first.2 h.2) in
    (t, first.1, subst (λ w. Leads w es (live_state u)) same rest)

-- the links of a state without stores
live_first : (u : LinkUnit) (l : Option ℕ) → live u [] (first_link l) ≡ l
live_first u None = refl
live_first u (Some at) = refl

all_first : (u : LinkUnit) (links : List (Option ℕ)) → map (live u []) (map first_link links) ≡ links
all_first u [] = refl
all_first u (l ∷ links) = let first = live_first u l in let rest = all_first u links in λ i. first i ∷ rest i

pub links_first : (links : LinkState) → live_links links.unit [] (map first_link links.live) ≡ links
links_first links = let all = all_first links.unit links.live in λ i. record { unit = links.unit; live = all i }

is_made_first : (l : Option ℕ) → IsMade [] (first_link l)
is_made_first None = tt
is_made_first (Some at) = omega arith

pub made_first : (links : List (Option ℕ)) → All (IsMade []) (map first_link links)
made_first [] = All-nil (IsMade [])
made_first (l ∷ links) = All-cons (IsMade []) (first_link l) (map first_link links) (is_made_first l) (made_first links)

pub stores_agree : (s : State) (es : List Entry) (t : State) → Leads s es t → StoresAgree s es t
stores_agree s es t h =
    with_its_stores es (without_stores s) t (made_first s.links.live)
    (subst (λ w. Leads w es t) (sym (image s.links.unit [] (map first_link s.links.live) s (links_first s.links))) h)

pub stores_lead : (s : State) (es : List Entry) (u : StoreState) → LeadsStores (without_stores s) es u → Leads s es (live_state u)
stores_lead s es u h =
    subst (λ w. Leads w es (live_state u)) (image s.links.unit [] (map first_link s.links.live) s (links_first s.links))
    (image_leads es (without_stores s) u (made_first s.links.live) h)
