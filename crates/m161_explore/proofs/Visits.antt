use Rattle.std.proofs.Common.{◌≡◌, ℕ, ◌+◌, ◌<◌, ◌≤◌, suc, List, [], ◌∷◌, ◌++◌, length, refl, sym, ◌∙◌, subst, arith}
use Rattle.std.specs.Prelude.{Option, Some, None, reverse}
use Rattle.std.proofs.lemmas.List.{length_push, get_or_push, get_or_append_left}
use Rattle.m161_explore.specs.declared.graph.Node.{Node}
use Rattle.m161_explore.specs.declared.system.Advanced.{Advanced}
use Rattle.m161_explore.specs.declared.system.Advanced.TheVariants.{Refused, Passed, Judged, Stopped}
use Rattle.m161_explore.specs.Rules.{Advances, Rules}
use Rattle.m161_explore.specs.Lists.{HasVerdict, Leads}
use Rattle.m161_explore.specs.Answers.{IsFound, IsOpen, IsStopped}
use Rattle.m161_explore.specs.Views.{view_at}
use Rattle.m161_explore.specs.declared.views.Entry.{Entry}
use Rattle.m161_explore.specs.helpers.Entering.{Enters}
use Rattle.m161_explore.specs.Search.{IsClear, Linked, LinksTo, Searched, time_of}
use Rattle.m161_explore.specs.helpers.Trails.{IsTrail}
use Rattle.m161_explore.specs.helpers.Visit.{HasPassed, IsAt}
use Rattle.m161_explore.proofs.Laws.{Laws}
use Rattle.m161_explore.proofs.Links.{linked_more, linked_next}
use Rattle.m161_explore.proofs.Runs.{followed, has_trail, none_judged_before, turned_back, trail_leads}
use Rattle.m161_explore.proofs.Steps.{Lands, passes, grows}
use Rattle.m161_explore.proofs.Counting.{count_before, few_before, more_before, shorter_before}

-- What follows from each way that an event can go.

-- the next event of a state is tried at the next time
pub at_next : {S V R : Type 0} (r : Rules S V R) (is_valid : S → Type 0) (keys : List (List ℕ)) (nodes : List Node) (links : List ℕ) (i e : ℕ) →
    Searched r is_valid keys nodes (time_of r.width i e + 1) → i < length keys → Linked r is_valid keys links (time_of r.width i e + 1) → IsAt r is_valid keys nodes links i (e + 1)
at_next r is_valid keys nodes links i e s h l =
    let P : ℕ → Type 0 = λ x. Searched r is_valid keys nodes x in
    let Q : ℕ → Type 0 = λ x. Linked r is_valid keys links x in
    record { searched = subst P (omega arith) s; within = h; linked = subst Q (omega arith) l }

-- a state has the view that is kept
pub held_key : {S V R : Type 0} (r : Rules S V R) (is_valid : S → Type 0) (keys : List (List ℕ)) (nodes : List Node) (links : List ℕ) (i e : ℕ) (key : List ℕ) →
    IsAt r is_valid keys nodes links i e → key ≡ view_at keys i → (s : S) × is_valid s × (r.view s ≡ key)
held_key r is_valid keys nodes links i e key at h = let s = at.searched.held i at.within in (s.0, s.1, s.2 ∙ sym h)

-- what an event comes to, where that is known
pub advances_as : {S V R : Type 0} (r : Rules S V R) (is_valid : S → Type 0) (s : S) (e : ℕ) (t : S) (a b : Advanced V R) → a ≡ b → Advances r is_valid s e t a → Advances r is_valid s e t b
advances_as {S} {V} {R} r is_valid s e t a b h k = let P : Advanced V R → Type 0 = λ x. Advances r is_valid s e t x in subst P h k

-- what became of a view, where that is known
pub enters_as : (views : List (List ℕ)) (view : List ℕ) (limit : ℕ) (now : List (List ℕ)) (a b : Entry) → a ≡ b → Enters views view limit now a → Enters views view limit now b
enters_as views view limit now a b h k = let P : Entry → Type 0 = λ x. Enters views view limit now x in subst P h k

-- the state whose event is tried: one with the view that is kept
pub record IsTried {S V R : Type 0} (r : Rules S V R) (is_valid : S → Type 0) (keys : List (List ℕ)) (i e : ℕ) (s : S) : Type 0 where
  pub event : e < r.width
  pub valid : is_valid s
  pub same : r.view s ≡ view_at keys i

lands : {S V R : Type 0} (r : Rules S V R) (keys : List (List ℕ)) (o : Option S) (x : ℕ) → LinksTo r keys o x → Lands r keys o
lands r keys None x h = tt
lands r keys (Some u) x h = (h.0, h.1, h.3)

-- the event has this link, and the state behind it was found before
links_on : {S V R : Type 0} (r : Rules S V R) (is_valid : S → Type 0) (keys : List (List ℕ)) (nodes : List Node) (links links2 : List ℕ) (i e x : ℕ) (s : S) → Laws r is_valid →
    IsAt r is_valid keys nodes links i e → IsTried r is_valid keys i e s → IsClear r s e → LinksTo r keys (r.next s e) x → links2 ≡ links ++ x ∷ [] →
    IsAt r is_valid keys nodes links2 i (e + 1)
links_on r is_valid keys nodes links links2 i e x s laws at tried clear to is_links =
    let P : List ℕ → Type 0 = λ y. IsAt r is_valid keys nodes y i (e + 1) in
    subst P (sym is_links) (at_next r is_valid keys nodes (links ++ x ∷ []) i e
    (passes r is_valid keys nodes i e s laws at.searched at.within tried.event tried.valid tried.same clear (lands r keys (r.next s e) x to)) at.within
    (linked_next r is_valid keys links i e x s laws tried.event tried.valid clear.0 tried.same to at.linked))

-- the event is refused
pub refuses : {S V R : Type 0} (r : Rules S V R) (is_valid : S → Type 0) (keys : List (List ℕ)) (nodes : List Node) (links links2 : List ℕ) (i e : ℕ) (s t : S) → Laws r is_valid →
    IsAt r is_valid keys nodes links i e → IsTried r is_valid keys i e s → Advances r is_valid s e t Refused → links2 ≡ links ++ 0 ∷ [] →
    IsAt r is_valid keys nodes links2 i (e + 1)
refuses {S} r is_valid keys nodes links links2 i e s t laws at tried h is_links =
    let P : Option S → Type 0 = λ o. LinksTo r keys o 0 in
    let clear : IsClear r s e = (h.0, (λ u n. let no : None ≡ Some u = sym h.1 ∙ n in absurd (cc))) in
    links_on r is_valid keys nodes links links2 i e 0 s laws at tried clear (subst P (sym h.1) refl) is_links

-- the event is accepted
pub has_passed : {S V R : Type 0} (r : Rules S V R) (is_valid : S → Type 0) (keys : List (List ℕ)) (i e : ℕ) (s t : S) →
    IsTried r is_valid keys i e s → Advances r is_valid s e t Passed → HasPassed r is_valid keys i e t
has_passed r is_valid keys i e s t tried h = record {
  event = tried.event;
  from = s;
  valid_from = tried.valid;
  same_from = tried.same;
  to = h.0;
  stop = h.1;
  next = h.2;
  verdict = h.3;
  valid = h.4;
  same = h.5;
}

passed_tried : {S V R : Type 0} (r : Rules S V R) (is_valid : S → Type 0) (keys : List (List ℕ)) (i e : ℕ) (t : S) (p : HasPassed r is_valid keys i e t) → IsTried r is_valid keys i e p.from
passed_tried r is_valid keys i e t p = record { event = p.event; valid = p.valid_from; same = p.same_from }

passed_clear : {S V R : Type 0} (r : Rules S V R) (is_valid : S → Type 0) (keys : List (List ℕ)) (i e : ℕ) (t : S) (p : HasPassed r is_valid keys i e t) → IsClear r p.from e
passed_clear r is_valid keys i e t p = (p.stop, (λ u n. p.verdict))

-- it leads to the state with number j
passed_link : {S V R : Type 0} (r : Rules S V R) (is_valid : S → Type 0) (keys more : List (List ℕ)) (i e j : ℕ) (t : S) (found : List ℕ) (p : HasPassed r is_valid keys i e t) →
    found ≡ r.view t → j < length more → view_at more j ≡ found → LinksTo r more (r.next p.from e) (j + 1)
passed_link {S} r is_valid keys more i e j t found p is_found l m =
    let P : Option S → Type 0 = λ o. LinksTo r more o (j + 1) in
    subst P (sym p.next) (j, l, refl, sym p.same ∙ sym is_found ∙ sym m)

-- the state behind it is known
pub knows : {S V R : Type 0} (r : Rules S V R) (is_valid : S → Type 0) (keys : List (List ℕ)) (nodes : List Node) (links links2 : List ℕ) (i e j : ℕ) (t : S) (found : List ℕ) → Laws r is_valid →
    IsAt r is_valid keys nodes links i e → HasPassed r is_valid keys i e t →
    found ≡ r.view t → j < length keys → view_at keys j ≡ found → links2 ≡ links ++ (j + 1) ∷ [] →
    IsAt r is_valid keys nodes links2 i (e + 1)
knows r is_valid keys nodes links links2 i e j t found laws at p is_found l m is_links =
    links_on r is_valid keys nodes links links2 i e (j + 1) p.from laws at (passed_tried r is_valid keys i e t p) (passed_clear r is_valid keys i e t p)
    (passed_link r is_valid keys keys i e j t found p is_found l m) is_links

-- the state behind it is new
pub pushes : {S V R : Type 0} (r : Rules S V R) (is_valid : S → Type 0) (keys keys2 : List (List ℕ)) (nodes nodes2 : List Node) (links links2 : List ℕ) (i e : ℕ) (t : S) (found : List ℕ) (node : Node) → Laws r is_valid →
    IsAt r is_valid keys nodes links i e → HasPassed r is_valid keys i e t →
    found ≡ r.view t → ((j : ℕ) → j < length keys → view_at keys j ≡ found → ⊥) → node.parent ≡ i → node.event ≡ e →
    keys2 ≡ keys ++ found ∷ [] → nodes2 ≡ nodes ++ node ∷ [] → links2 ≡ links ++ (length keys + 1) ∷ [] →
    IsAt r is_valid keys2 nodes2 links2 i (e + 1)
pushes {S} r is_valid keys keys2 nodes nodes2 links links2 i e t found node laws at p is_found is_new is_parent is_event is_keys is_nodes is_links =
    let n : ℕ = length keys in
    let more : List (List ℕ) = keys ++ found ∷ [] in
    let clear = passed_clear r is_valid keys i e t p in
    let grown = grows r is_valid keys nodes i e p.from p.to t found node laws at.searched at.within p.event p.valid_from p.same_from p.next p.valid p.same is_found clear is_new is_parent is_event in
    let to : LinksTo r more (r.next p.from e) (n + 1) = passed_link r is_valid keys more i e n t found p is_found (omega (arith, length_push keys found)) (get_or_push keys found [] n refl) in
    let linked = linked_next r is_valid more links i e (n + 1) p.from laws p.event p.valid_from p.stop (p.same_from ∙ sym (get_or_append_left keys (found ∷ []) [] i at.within)) to
    (linked_more r is_valid keys found links i e at.within p.event at.linked) in
    let after = at_next r is_valid more (nodes ++ node ∷ []) (links ++ (n + 1) ∷ []) i e grown (omega (arith, at.within, length_push keys found)) linked in
    let P : List (List ℕ) → Type 0 = λ x. IsAt r is_valid x nodes2 links2 i (e + 1) in
    let Q : List Node → Type 0 = λ x. IsAt r is_valid more x links2 i (e + 1) in
    let T : List ℕ → Type 0 = λ x. IsAt r is_valid more (nodes ++ node ∷ []) x i (e + 1) in
    subst P (sym is_keys) (subst Q (sym is_nodes) (subst T (sym is_links) after))

-- the event has a verdict
pub judges : {S V R : Type 0} (r : Rules S V R) (is_valid : S → Type 0) (keys : List (List ℕ)) (nodes : List Node) (links : List ℕ) (i e : ℕ) (s t : S) (what : V) → Laws r is_valid →
    IsAt r is_valid keys nodes links i e → IsTried r is_valid keys i e s → Advances r is_valid s e t (Judged what) →
    (trail : List ℕ) → IsTrail nodes i trail → IsFound r (reverse (e ∷ trail)) what (length keys)
judges r is_valid keys nodes links i e s t what laws at tried h trail k =
    let f = followed r is_valid keys nodes i e (time_of r.width i e) trail laws tried.event k at.searched in
    let same : r.view s ≡ r.view f.0 = tried.same ∙ sym f.3 in
    let next = laws.step s f.0 h.0 e tried.valid f.2 same h.1 h.2 in
    let verdict : HasVerdict r (reverse (e ∷ trail)) what = record {
      from = f.0;
      last = e;
      to = next.0;
      followed = f.1;
      accepted = next.1;
      verdict = sym (laws.verdict s f.0 e tried.valid f.2 same h.1) ∙ h.3;
    } in
    record {
      has_verdict = verdict;
      first = record {
        is_so = (what, verdict);
        first = λ es judged before. none_judged_before r is_valid keys nodes i e trail laws tried.event k at.within at.searched es judged before;
      };
      count = count_before r is_valid keys nodes i e trail laws tried.event k at.searched;
    }

-- the system stops at the event
pub stops : {S V R : Type 0} (r : Rules S V R) (is_valid : S → Type 0) (keys : List (List ℕ)) (nodes : List Node) (links : List ℕ) (i e : ℕ) (s t : S) (reason : R) → Laws r is_valid →
    IsAt r is_valid keys nodes links i e → IsTried r is_valid keys i e s → Advances r is_valid s e t (Stopped reason) → IsStopped r reason
stops r is_valid keys nodes links i e s t reason laws at tried h =
    let now = time_of r.width i e in
    let trail = has_trail r is_valid keys nodes now at.searched (suc i) i (omega arith) at.within in
    let f = followed r is_valid keys nodes i e now trail.0 laws tried.event trail.1 at.searched in
    let same : r.view s ≡ r.view f.0 = tried.same ∙ sym f.3 in (
      reverse (e ∷ trail.0),
      record { from = f.0; last = e; followed = f.1; stop = sym (laws.stop s f.0 e tried.valid f.2 same) ∙ h },
      (λ es judged before. none_judged_before r is_valid keys nodes i e trail.0 laws tried.event trail.1 at.within at.searched es judged before),
    )

-- the state behind it is one too many
pub overflows : {S V R : Type 0} (r : Rules S V R) (is_valid : S → Type 0) (keys : List (List ℕ)) (nodes : List Node) (links : List ℕ) (i e limit : ℕ) (t : S) (found : List ℕ) → Laws r is_valid →
    IsAt r is_valid keys nodes links i e → HasPassed r is_valid keys i e t → length keys ≤ limit → limit ≤ length keys →
    found ≡ r.view t → ((j : ℕ) → j < length keys → view_at keys j ≡ found → ⊥) →
    (trail : List ℕ) → IsTrail nodes i trail → IsOpen r limit (length trail)
overflows r is_valid keys nodes links i e limit t found laws at p few many is_found is_new trail k =
    let from = trail_leads r is_valid keys nodes (time_of r.width i e) laws at.searched trail i k in
    let next = laws.step p.from from.0 p.to e p.valid_from from.2 (p.same_from ∙ sym from.3) p.stop p.next in
    let leads : Leads r r.start (reverse (e ∷ trail)) next.0 =
    turned_back r r.start next.0 next.0 (e ∷ trail) [] (from.0, from.1, p.event, next.1) refl in
    record {
      no_verdict = λ es short judged.
          none_judged_before r is_valid keys nodes i e trail laws p.event k at.within at.searched es judged (shorter_before e trail es short);
      few = few_before r is_valid keys nodes i e limit trail laws p.event k few at.searched;
      more = more_before r is_valid keys nodes i e limit trail found next.0 laws p.event k many at.searched leads
          (sym next.2 ∙ sym p.same ∙ sym is_found) is_new;
    }
