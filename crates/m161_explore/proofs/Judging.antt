use Rattle.std.proofs.Common.{◌≡◌, ℕ, ◌+◌, ◌<◌, List, [], ◌∷◌, ◌++◌, length, refl, ap, sym, ◌∙◌, subst, arith, inl, inr}
use Rattle.std.specs.Prelude.{Bool, true, false, reverse}
use Rattle.std.proofs.lemmas.List.{get_or_push, get_or_append_left}
use Rattle.m161_explore.specs.declared.graph.Node.{Node}
use Rattle.std.proofs.lemmas.Grind.{reverse_onto}
use Rattle.m161_explore.specs.helpers.Ends.{flag_at, Spreads, IsSettled}
use Rattle.m161_explore.specs.Rules.{Rules}
use Rattle.m161_explore.specs.Lists.{HasStop}
use Rattle.m161_explore.specs.Answers.{IsClean, IsFound, IsHungFirst, IsJudged, IsOpen}
use Rattle.m161_explore.specs.Views.{view_at}
use Rattle.m161_explore.specs.Search.{Searched, time_of, root, IsBefore}
use Rattle.m161_explore.specs.helpers.Trails.{IsTrail, AreEarlier}
use Rattle.m161_explore.specs.declared.search.Outcome.{Outcome}
use Rattle.m161_explore.specs.declared.search.Outcome.TheVariants.{TooMany, WrongFrom}
use Rattle.m161_explore.specs.helpers.Visit.{AreEnds, Finds}
use Rattle.m161_explore.proofs.Laws.{Laws}
use Rattle.m161_explore.proofs.Runs.{none_judged, none_stopped}
use Rattle.m161_explore.proofs.Steps.{begins, split_place}
use Rattle.m161_explore.proofs.Ending.{can_always_end, is_first_hung}
use Rattle.m161_explore.proofs.Counting.{count_all}

-- From the search to the answer.

pub begins_before : {S V R : Type 0} (r : Rules S V R) (is_valid : S → Type 0) (key : List ℕ) (keys : List (List ℕ)) (nodes : List Node) (links : List ℕ) → Laws r is_valid →
    key ≡ r.view r.start → keys ≡ key ∷ [] → nodes ≡ root ∷ [] → links ≡ [] →
    IsBefore r is_valid keys nodes links 0
begins_before {S} r is_valid key keys nodes links laws is_key is_keys is_nodes is_links =
    let P : List (List ℕ) → Type 0 = λ x. IsBefore r is_valid x nodes links 0 in
    let Q : List Node → Type 0 = λ x. IsBefore r is_valid (key ∷ []) x links 0 in
    let W : List ℕ → Type 0 = λ x. IsBefore r is_valid (key ∷ []) (root ∷ []) x 0 in
    let T : ℕ → Type 0 = λ x. Searched r is_valid (key ∷ []) (root ∷ []) x in
    subst P (sym is_keys) (subst Q (sym is_nodes) (subst W (sym is_links) (record {
      searched = subst T (omega arith) (begins r is_valid key root laws is_key);
      within = omega arith;
      linked = record { count = omega arith; each = λ a b s ha hb before v c. absurd (omega arith) };
    })))

pub earlier_before : {S V R : Type 0} (r : Rules S V R) (is_valid : S → Type 0) (keys : List (List ℕ)) (nodes : List Node) (now : ℕ) → Searched r is_valid keys nodes now → AreEarlier nodes
earlier_before r is_valid keys nodes now s j pos h = (s.made j pos (omega (arith, s.sizes))).earlier

never_judged : {S V R : Type 0} (r : Rules S V R) (is_valid : S → Type 0) (keys : List (List ℕ)) (nodes : List Node) (links : List ℕ) → Laws r is_valid → IsBefore r is_valid keys nodes links (length keys) →
    (es : List ℕ) → IsJudged r es → ⊥
never_judged r is_valid keys nodes links laws before es judged =
    none_judged r is_valid keys nodes (time_of r.width (length keys) 0) laws before.searched (omega arith) es judged

never_stopped : {S V R : Type 0} (r : Rules S V R) (is_valid : S → Type 0) (keys : List (List ℕ)) (nodes : List Node) (links : List ℕ) → Laws r is_valid → IsBefore r is_valid keys nodes links (length keys) →
    (es : List ℕ) (reason : R) → HasStop r es reason → ⊥
never_stopped r is_valid keys nodes links laws before es reason stop =
    none_stopped r is_valid keys nodes (time_of r.width (length keys) 0) laws before.searched (omega arith) es reason stop

-- all states were found, and each can end
pub is_clean : {S V R : Type 0} (r : Rules S V R) (is_valid : S → Type 0) (keys : List (List ℕ)) (nodes : List Node) (links : List ℕ) (ends flags : List Bool) (states : ℕ) → Laws r is_valid → IsBefore r is_valid keys nodes links (length keys) →
    AreEnds r is_valid keys ends → Spreads r.width links ends flags →
    ((k : ℕ) → k < length flags → flag_at flags k ≡ true) → states ≡ length keys → IsClean r states
is_clean r is_valid keys nodes links ends flags states laws before are_ends spreads all is_states =
    let P : ℕ → Type 0 = λ x. IsClean r x in
    subst P (sym is_states) (record {
      no_verdict = λ es judged. never_judged r is_valid keys nodes links laws before es judged;
      no_stop = λ es reason stop. never_stopped r is_valid keys nodes links laws before es reason stop;
      can_end = λ es t leads. can_always_end r is_valid keys nodes links ends flags laws before are_ends spreads all es t leads;
      count = count_all r is_valid keys nodes (time_of r.width (length keys) 0) laws before.searched (omega arith);
    })

pub ends_more : {S V R : Type 0} (r : Rules S V R) (is_valid : S → Type 0) (keys : List (List ℕ)) (flags flags2 : List Bool) (at : ℕ) (t : S) (d : Bool) → Laws r is_valid →
    length flags ≡ at → ((j : ℕ) (s : S) → j < at → is_valid s → r.view s ≡ view_at keys j → r.is_end s ≡ flag_at flags j) →
    is_valid t → r.view t ≡ view_at keys at → d ≡ r.is_end t → flags2 ≡ flags ++ d ∷ [] →
    (j : ℕ) (s : S) → j < at + 1 → is_valid s → r.view s ≡ view_at keys j → r.is_end s ≡ flag_at flags2 j
ends_more r is_valid keys flags flags2 at t d laws size each vt ct is_d is_flags j s h v c =
    elim (split_place at j (at + 1) refl h) [
      | inl l ↦ each j s l v c ∙ sym (get_or_append_left flags (d ∷ []) false j (omega (arith, size, l))) ∙ ap (λ x. flag_at x j) (sym is_flags)
      | inr l ↦
          laws.ends s t v vt (c ∙ ap (λ x. view_at keys x) l ∙ sym ct) ∙ sym is_d
          ∙ sym (get_or_push flags d false at size) ∙ ap (λ x. flag_at x at) (sym is_flags) ∙ ap (λ x. flag_at flags2 x) (sym l)
    ]

pub spreads_at : (width width2 : ℕ) (links links2 : List ℕ) (old ends new flags : List Bool) → width ≡ width2 → links ≡ links2 → old ≡ ends → flags ≡ new → Spreads width links old new → Spreads width2 links2 ends flags
spreads_at width width2 links links2 old ends new flags e f g h s =
    let P : ℕ → Type 0 = λ x. Spreads x links2 ends flags in
    let Q : List ℕ → Type 0 = λ x. Spreads width x ends flags in
    let R : List Bool → Type 0 = λ x. Spreads width links x flags in
    let T : List Bool → Type 0 = λ x. Spreads width links old x in
    subst P e (subst Q f (subst R g (subst T (sym h) s)))

pub settled_at : (width width2 : ℕ) (links links2 : List ℕ) (new flags : List Bool) → width ≡ width2 → links ≡ links2 → flags ≡ new → IsSettled width links new → IsSettled width2 links2 flags
settled_at width width2 links links2 new flags e f h s =
    let P : ℕ → Type 0 = λ x. IsSettled x links2 flags in
    let Q : List ℕ → Type 0 = λ x. IsSettled width x flags in
    let T : List Bool → Type 0 = λ x. IsSettled width links x in
    subst P e (subst Q f (subst T (sym h) s))

-- the list of the first hung state
pub hung_path : {S V R : Type 0} (r : Rules S V R) (is_valid : S → Type 0) (keys : List (List ℕ)) (nodes nodes2 : List Node) (links : List ℕ) (ends flags : List Bool) (i states : ℕ) (path trail : List ℕ) → Laws r is_valid → IsBefore r is_valid keys nodes links (length keys) →
    AreEnds r is_valid keys ends → Spreads r.width links ends flags → IsSettled r.width links flags →
    i < length flags → flag_at flags i ≡ false → ((k : ℕ) → k < i → flag_at flags k ≡ true) → nodes2 ≡ nodes → IsTrail nodes2 i trail → path ≡ reverse trail → states ≡ length keys →
    IsHungFirst r path states
hung_path r is_valid keys nodes nodes2 links ends flags i states path trail laws before are_ends spreads settled within off earlier same t e is_states =
    let P : List Node → Type 0 = λ x. IsTrail x i trail in
    let Q : ℕ → Type 0 = λ x. IsHungFirst r path x in
    let W : List ℕ → Type 0 = λ x. IsHungFirst r x (length keys) in
    subst Q (sym is_states) (subst W (sym e) (record {
      no_verdict = λ es judged. never_judged r is_valid keys nodes links laws before es judged;
      no_stop = λ es reason stop. never_stopped r is_valid keys nodes links laws before es reason stop;
      first = is_first_hung r is_valid keys nodes links ends flags i trail laws before are_ends spreads settled within off earlier (subst P same t);
      count = count_all r is_valid keys nodes (time_of r.width (length keys) 0) laws before.searched (omega arith);
    }))

-- the first list with a verdict that the search found
pub found_path : {S V R : Type 0} (r : Rules S V R) (is_valid : S → Type 0) (limit : ℕ) (keys : List (List ℕ)) (nodes nodes2 : List Node) (links : List ℕ) (found : Outcome V R) (from event : ℕ) (what : V) (states : ℕ) (path events trail : List ℕ) →
    found ≡ WrongFrom from event what → Finds r is_valid limit keys nodes links found →
    nodes2 ≡ nodes → IsTrail nodes2 from trail → path ≡ events ++ event ∷ [] → events ≡ reverse trail → states ≡ length keys → IsFound r path what states
found_path {S} {V} {R} r is_valid limit keys nodes nodes2 links found from event what states path events trail is h same t e f is_states =
    let P : Outcome V R → Type 0 = λ x. Finds r is_valid limit keys nodes links x in
    let Q : List Node → Type 0 = λ x. IsTrail x from trail in
    let W : List ℕ → Type 0 = λ x. IsFound r x what (length keys) in
    let T : ℕ → Type 0 = λ x. IsFound r path what x in
    let k = subst P is h in
    subst T (sym is_states) (subst W (sym (e ∙ ap (λ x. x ++ event ∷ []) f ∙ sym (reverse_onto trail event []))) (k.1 trail (subst Q same t)))

-- the list of the state whose turn it was at the limit
pub open_path : {S V R : Type 0} (r : Rules S V R) (is_valid : S → Type 0) (limit : ℕ) (keys : List (List ℕ)) (nodes nodes2 : List Node) (links : List ℕ) (found : Outcome V R) (from size : ℕ) (trail : List ℕ) →
    found ≡ TooMany from → Finds r is_valid limit keys nodes links found →
    nodes2 ≡ nodes → IsTrail nodes2 from trail → size ≡ length trail → IsOpen r limit size
open_path {S} {V} {R} r is_valid limit keys nodes nodes2 links found from size trail is h same t e =
    let P : Outcome V R → Type 0 = λ x. Finds r is_valid limit keys nodes links x in
    let Q : List Node → Type 0 = λ x. IsTrail x from trail in
    let T : ℕ → Type 0 = λ x. IsOpen r limit x in
    let k = subst P is h in
    subst T (sym e) (k.2 trail (subst Q same t))
