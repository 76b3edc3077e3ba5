use Rattle.std.proofs.Common.{◌≡◌, ◌≢◌, ◌∙◌, refl, ap, sym, subst, ℕ, zero, suc, ◌+◌, ◌<◌, ◌≤◌, arith, Bool, true, false, List, [], ◌∷◌, Option, None, Some, ◌⊎◌, inl, inr}
use Rattle.std.specs.Prelude.{not, nat_lt, option_map, slice_get, ◌&&◌, ◌||◌, ◌==◌, if◌then◌else◌}
use Rattle.std.proofs.lemmas.Bool.Decides.{nat_tests}
use Rattle.m161_machine.specs.declared.event.Event.{Event}
use Rattle.m161_machine.specs.declared.event.Event.TheVariants.{Done, Key, Step}
use Rattle.m161_machine.specs.State.{State}
use Rattle.m161_judge.specs.Verdict.{Criteria}
use Rattle.m161_alike.specs.declared.known.Known.{Known}
use Rattle.m161_alike.specs.declared.reads.Reads.{Reads}
use Rattle.m161_alike.specs.Reads.{no_reads}
use Rattle.m161_alike.specs.View.{joined, known_of}
use Rattle.m161_explore.specs.declared.whole.Answer.{Answer}
use Rattle.m161_explore.specs.declared.whole.Answer.TheVariants.{Ended}
use Rattle.m161_explore.specs.Answers.{Answers, IsStopped}
use Rattle.m161_explore.specs.Lists.{Leads}
use Rattle.m161_states.specs.declared.verdict.Unknown.{Unknown}
use Rattle.m161_states.specs.declared.verdict.EventVerdict.{EventVerdict}
use Rattle.m161_states.specs.Question.{Question, processors_of}
use Rattle.m161_states.specs.System.{Explored, event_of, start}
use Rattle.m161_states.specs.Verdicts.{is_outside, reads_next, stop_by}
use Rattle.m161_reach.specs.Reach.{CanBeAsked, IsLearnt, ReadsBehind, question_of, rules_of}
use Rattle.m161_reach.proofs.Asked.{processors_are}

-- How much of the time of 32 processors isn't known: it is less behind each thing that is learnt.

one_unless : Bool → ℕ
one_unless true = 0
one_unless false = 1

-- how many of the first n have no mark
unmarked : (ℕ → Bool) → ℕ → ℕ
unmarked f zero = 0
unmarked f (suc n) = unmarked f n + one_unless (f n)

abbrev random_of : Known → ℕ → Bool
random_of known p = (known_of known p).random

abbrev count_of : Known → ℕ → Bool
count_of known p = (known_of known p).count

pub left : Known → ℕ
left known = unmarked (random_of known) 32 + unmarked (count_of known) 32

-- what has a mark keeps it
Keeps : (ℕ → Bool) → (ℕ → Bool) → ℕ → Type 0
Keeps f g n = (k : ℕ) → k < n → f k ≡ true → g k ≡ true

one_no_more : (a b : Bool) → (a ≡ true → b ≡ true) → one_unless b ≤ one_unless a
unfolding one_unless
one_no_more true b h = let e : one_unless b ≡ 0 = ap one_unless (h refl) in omega (arith, e)
one_no_more false true h = omega arith
one_no_more false false h = omega arith

no_more : (f g : ℕ → Bool) (n : ℕ) → Keeps f g n → unmarked g n ≤ unmarked f n
unfolding unmarked Keeps
no_more f g zero h = omega arith
no_more f g (suc n) h =
    let rest = no_more f g n (λ k below. h k (omega (arith, below))) in
    let here = one_no_more (f n) (g n) (h n (omega arith)) in
    omega (arith, rest, here)

pub same_or_other : (k p : ℕ) (b : Bool) → (k == p) ≡ b → (k ≡ p) ⊎ (k ≢ p)
same_or_other k p true h = inl (grind (arith, nat_tests, h))
same_or_other k p false h = inr (λ e. absurd (let bad : ⊥ = grind (arith, nat_tests, h, e) in bad))

fewer : (f g : ℕ → Bool) (p n : ℕ) → Keeps f g n → p < n → f p ≡ false → g p ≡ true → unmarked g n < unmarked f n
unfolding unmarked Keeps one_unless
fewer f g p zero h below off on = absurd (let bad : ⊥ = omega (arith, below) in bad)
fewer f g p (suc n) h below off on =
    elim (same_or_other p n (p == n) refl) [
      | inl same ↦
          let rest = no_more f g n (λ k small. h k (omega (arith, small))) in
          let old : one_unless (f n) ≡ 1 = ap (λ k. one_unless (f k)) (sym same) ∙ ap one_unless off in
          let new : one_unless (g n) ≡ 0 = ap (λ k. one_unless (g k)) (sym same) ∙ ap one_unless on in
          omega (arith, rest, old, new)
      | inr other ↦
          let rest = fewer f g p n (λ k small. h k (omega (arith, small))) (omega (arith, below, other)) off on in
          let here = one_no_more (f n) (g n) (h n (omega arith)) in
          omega (arith, rest, here)
    ]

-- a word that gets a mark, or none
record Marks (set : Bool) (p : ℕ) (f g : ℕ → Bool) : Type 0 where
  same : g p ≡ (set || f p)
  others : (k : ℕ) → k < 32 → k ≢ p → g k ≡ f k

or_true : (a b : Bool) → b ≡ true → (a || b) ≡ true
or_true true b h = refl
or_true false b h = h

marks_keep : (set : Bool) (p : ℕ) (f g : ℕ → Bool) → Marks set p f g → Keeps f g 32
unfolding Keeps
marks_keep set p f g m k below on =
    elim (same_or_other k p (k == p) refl) [
      | inl same ↦ ap g same ∙ m.same ∙ or_true set (f p) (ap f (sym same) ∙ on)
      | inr other ↦ m.others k below other ∙ on
    ]

marked_no_more : (set : Bool) (p : ℕ) (f g : ℕ → Bool) → Marks set p f g → unmarked g 32 ≤ unmarked f 32
marked_no_more set p f g m = no_more f g 32 (marks_keep set p f g m)

marked_fewer : (p : ℕ) (f g : ℕ → Bool) → Marks true p f g → p < 32 → f p ≡ false → unmarked g 32 < unmarked f 32
marked_fewer p f g m below off = fewer f g p 32 (marks_keep true p f g m) below off m.same

-- what is outside reads one of the two, which isn't known
one_of_two : (r s c d : Bool) → ((r && not s) || (c && not d)) ≡ true → ((r ≡ true) × (s ≡ false)) ⊎ ((c ≡ true) × (d ≡ false))
one_of_two true false c d h = inl (refl, refl)
one_of_two true true true false h = inr (refl, refl)
one_of_two true true true true h = absurd (let bad : false ≡ true = h in cc)
one_of_two true true false d h = absurd (let bad : false ≡ true = h in cc)
one_of_two false s true false h = inr (refl, refl)
one_of_two false s true true h = absurd (let bad : false ≡ true = h in cc)
one_of_two false s false d h = absurd (let bad : false ≡ true = h in cc)

pub less_left : (old new : Known) (p : ℕ) (read : Reads) → p < 32 → is_outside read (known_of old p) ≡ true →
    known_of new p ≡ joined read (known_of old p) → ((q : ℕ) → q < 32 → q ≢ p → known_of new q ≡ known_of old q) → left new < left old
unfolding left
less_left old new p read below outside same others =
    let random : Marks read.random p (random_of old) (random_of new) = record {
      same = ap (λ (r : Reads). r.random) same;
      others = λ k small other. ap (λ (r : Reads). r.random) (others k small other);
    } in
    let count : Marks read.count p (count_of old) (count_of new) = record {
      same = ap (λ (r : Reads). r.count) same;
      others = λ k small other. ap (λ (r : Reads). r.count) (others k small other);
    } in
    elim (one_of_two read.random (random_of old p) read.count (count_of old p) outside) [
      | inl found ↦
          let one = marked_fewer p (random_of old) (random_of new) (subst (λ b. Marks b p (random_of old) (random_of new)) found.0 random) below found.1 in
          let two = marked_no_more read.count p (count_of old) (count_of new) count in
          omega (arith, one, two)
      | inr found ↦
          let one = marked_no_more read.random p (random_of old) (random_of new) random in
          let two = marked_fewer p (count_of old) (count_of new) (subst (λ b. Marks b p (count_of old) (count_of new)) found.0 count) below found.1 in
          omega (arith, one, two)
    ]

-- an exploration stops for what isn't known, of a processor that is there

pub record IsNews (q : Question) (u : Unknown) : Type 0 where
  pub there : u.processor < processors_of q
  pub outside : is_outside u.reads (known_of q.known u.processor) ≡ true

same_unknown : (u v : Unknown) → ◌≡◌ {A = Option Unknown} (Some u) (Some v) → u ≡ v
same_unknown u v h = cc

same_step : (n p : ℕ) → ◌≡◌ {A = Option Event} (Some (Step n)) (Some (Step p)) → n ≡ p
same_step n p h = cc

no_key : (byte : Option ℕ) (p : ℕ) → option_map (λ b. Key b) byte ≡ Some (Step p) → ⊥
no_key None p h = let bad : ◌≡◌ {A = Option Event} None (Some (Step p)) = h in absurd (cc)
no_key (Some byte) p h = let bad : ◌≡◌ {A = Option Event} (Some (Key byte)) (Some (Step p)) = h in absurd (cc)

picked_step : (q : Question) (x : Explored) (n p : ℕ) (first second : Bool) → nat_lt n (processors_of q) ≡ first →
    (if first then Some (Step n) else if second then Some Done else option_map (λ byte. Key byte) (slice_get q.goal.keys x.typed)) ≡ Some (Step p) →
    p < processors_of q
picked_step q x n p true second is h = let same = same_step n p h in grind (arith, nat_tests, is, same)
picked_step q x n p false true is h = let bad : ◌≡◌ {A = Option Event} (Some Done) (Some (Step p)) = h in absurd (cc)
picked_step q x n p false false is h = absurd (no_key (slice_get q.goal.keys x.typed) p h)

step_there : (q : Question) (x : Explored) (n p : ℕ) → event_of q x n ≡ Some (Step p) → p < processors_of q
step_there q x n p h = picked_step q x n p (nat_lt n (processors_of q)) (n == processors_of q) refl h

by_reads : (q : Question) (p : ℕ) (read : Reads) (u : Unknown) (b : Bool) → p < processors_of q → is_outside read (known_of q.known p) ≡ b →
    (if b then Some (record { processor = p; reads = read }) else None) ≡ Some u → IsNews q u
by_reads q p read u true there is h = subst (IsNews q) (same_unknown (record { processor = p; reads = read }) u h) (record { there = there; outside = is })
by_reads q p read u false there is h = let bad : ◌≡◌ {A = Option Unknown} None (Some u) = h in absurd (cc)

pub by_event : (q : Question) (x : Explored) (n : ℕ) (u : Unknown) (e : Option Event) → event_of q x n ≡ e → stop_by q x e ≡ Some u → IsNews q u
by_event q x n u None is h = let bad : ◌≡◌ {A = Option Unknown} None (Some u) = h in absurd (cc)
by_event q x n u (Some (Step p)) is h =
    by_reads q p (reads_next p x.state) u (is_outside (reads_next p x.state) (known_of q.known p)) (step_there q x n p is) refl h
by_event q x n u (Some (Key byte)) is h = let bad : ◌≡◌ {A = Option Unknown} None (Some u) = h in absurd (cc)
by_event q x n u (Some Done) is h = let bad : ◌≡◌ {A = Option Unknown} None (Some u) = h in absurd (cc)

stopped : (q : Question) (u : Unknown) → IsStopped (rules_of q) u → IsNews q u
unfolding rules_of
stopped q u h = let s = h.1 in by_event q s.from s.last u (event_of q s.from s.last) refl s.stop

pub ended : (q r : Question) (limit : ℕ) (answer : Answer EventVerdict Unknown) (u : Unknown) → Answers (rules_of q) limit answer → answer ≡ Ended u → q ≡ r → IsNews r u
ended q r limit answer u h is same = subst (λ x. IsNews x u) same (stopped q u (subst (λ a. Answers (rules_of q) limit a) is h))

-- what is read then

read_as : (q : Question) (p : ℕ) (read : Reads) (u : Unknown) (b : Bool) → (if b then Some (record { processor = p; reads = read }) else None) ≡ Some u →
    (p ≡ u.processor) × (read ≡ u.reads)
read_as q p read u true h =
    let same = same_unknown (record { processor = p; reads = read }) u h in (ap (λ (x : Unknown). x.processor) same, ap (λ (x : Unknown). x.reads) same)
read_as q p read u false h = let bad : ◌≡◌ {A = Option Unknown} None (Some u) = h in absurd (cc)

pub event_reads : (q : Question) (x : Explored) (n : ℕ) (u : Unknown) (e : Option Event) → event_of q x n ≡ e → stop_by q x e ≡ Some u → reads_next u.processor x.state ≡ u.reads
event_reads q x n u None is h = let bad : ◌≡◌ {A = Option Unknown} None (Some u) = h in absurd (cc)
event_reads q x n u (Some (Step p)) is h =
    let told = read_as q p (reads_next p x.state) u (is_outside (reads_next p x.state) (known_of q.known p)) h in
    ap (λ m. reads_next m x.state) (sym told.0) ∙ told.1
event_reads q x n u (Some (Key byte)) is h = let bad : ◌≡◌ {A = Option Unknown} None (Some u) = h in absurd (cc)
event_reads q x n u (Some Done) is h = let bad : ◌≡◌ {A = Option Unknown} None (Some u) = h in absurd (cc)

-- lists lead as before, whatever is known
leads_as : (boot : State) (goal : Criteria) (old new : Known) (s t : Explored) (es : List ℕ) → Leads (rules_of (question_of boot goal old)) s es t →
    Leads (rules_of (question_of boot goal new)) s es t
unfolding rules_of
leads_as boot goal old new s t [] h = h
leads_as boot goal old new s t (e ∷ es) h = (h.0, h.1, h.2, leads_as boot goal old new h.0 t es h.3)

reads_as : (boot : State) (goal : Criteria) (old new : Known) (p : ℕ) (which : Reads → Bool) → ReadsBehind (question_of boot goal old) p which →
    ReadsBehind (question_of boot goal new) p which
reads_as boot goal old new p which h = (h.0, h.1, leads_as boot goal old new (start (question_of boot goal old)) h.1 h.0 h.2, h.3)

-- the list at which an exploration stopped
stopped_reads : (q : Question) (u : Unknown) (which : Reads → Bool) → IsStopped (rules_of q) u → which u.reads ≡ true → ReadsBehind q u.processor which
unfolding rules_of
stopped_reads q u which h on =
    let s = h.1 in
    let reads = event_reads q s.from s.last u (event_of q s.from s.last) refl s.stop in
    (s.followed.before, s.from, s.followed.leads, ap which reads ∙ on)

ended_reads : (q r : Question) (limit : ℕ) (answer : Answer EventVerdict Unknown) (u : Unknown) (which : Reads → Bool) → Answers (rules_of q) limit answer → answer ≡ Ended u →
    q ≡ r → which u.reads ≡ true → ReadsBehind r u.processor which
ended_reads q r limit answer u which h is same on =
    subst (λ x. ReadsBehind x u.processor which) same (stopped_reads q u which (subst (λ a. Answers (rules_of q) limit a) is h) on)

pub either : (a b : Bool) → (a || b) ≡ true → (a ≡ true) ⊎ (b ≡ true)
either true b h = inl refl
either false b h = inr h

-- of one register
register_learnt : (boot : State) (goal : Criteria) (old new : Known) (u : Unknown) (which : Reads → Bool) (limit : ℕ) (q : Question) (answer : Answer EventVerdict Unknown) →
    Answers (rules_of q) limit answer → answer ≡ Ended u → q ≡ question_of boot goal old →
    which (joined u.reads (known_of old u.processor)) ≡ (which u.reads || which (known_of old u.processor)) →
    known_of new u.processor ≡ joined u.reads (known_of old u.processor) → ((p : ℕ) → p < 32 → p ≢ u.processor → known_of new p ≡ known_of old p) →
    ((p : ℕ) → p < 32 → which (known_of old p) ≡ true → ReadsBehind (question_of boot goal old) p which) →
    (p : ℕ) → p < 32 → which (known_of new p) ≡ true → ReadsBehind (question_of boot goal new) p which
register_learnt boot goal old new u which limit q answer h is same splits mine others learnt p below on =
    elim (same_or_other p u.processor (p == u.processor) refl) [
      | inl here ↦
          let both = sym splits ∙ ap which (sym mine) ∙ ap (λ m. which (known_of new m)) (sym here) ∙ on in
          elim (either (which u.reads) (which (known_of old u.processor)) both) [
            | inl read ↦
                subst (λ m. ReadsBehind (question_of boot goal new) m which) (sym here)
                (reads_as boot goal old new u.processor which (ended_reads q (question_of boot goal old) limit answer u which h is same read))
            | inr known ↦ reads_as boot goal old new p which (learnt p below (ap (λ m. which (known_of old m)) here ∙ known))
          ]
      | inr other ↦ reads_as boot goal old new p which (learnt p below (sym (ap which (others p below other)) ∙ on))
    ]

pub still_learnt : (boot : State) (goal : Criteria) (old new : Known) (u : Unknown) (limit : ℕ) (q : Question) (answer : Answer EventVerdict Unknown) →
    Answers (rules_of q) limit answer → answer ≡ Ended u → q ≡ question_of boot goal old →
    known_of new u.processor ≡ joined u.reads (known_of old u.processor) → ((p : ℕ) → p < 32 → p ≢ u.processor → known_of new p ≡ known_of old p) →
    IsLearnt (question_of boot goal old) → IsLearnt (question_of boot goal new)
still_learnt boot goal old new u limit q answer h is same mine others learnt = record {
  random = register_learnt boot goal old new u (λ r. r.random) limit q answer h is same refl mine others learnt.random;
  count = register_learnt boot goal old new u (λ r. r.count) limit q answer h is same refl mine others learnt.count;
}

-- at first nothing is known
pub nothing_learnt : (boot : State) (goal : Criteria) (known : Known) → ((p : ℕ) → known_of known p ≡ no_reads) → IsLearnt (question_of boot goal known)
nothing_learnt boot goal known none = record {
  random = λ p below on. absurd (let bad : false ≡ true = sym (ap (λ (r : Reads). r.random) (none p)) ∙ on in cc);
  count = λ p below on. absurd (let bad : false ≡ true = sym (ap (λ (r : Reads). r.count) (none p)) ∙ on in cc);
}

-- there are 32 processors at most
pub news_below : (boot : State) (goal : Criteria) (known : Known) (u : Unknown) → CanBeAsked boot goal → boot.board.processors ≤ 32 →
    IsNews (question_of boot goal known) u → u.processor < 32
news_below boot goal known u asked few news =
    let there = news.there in
    let same = processors_are boot goal known asked in
    omega (arith, there, same, few)
