-- A packet has one answer, and bytes that are read have one text.
use Rattle.std.proofs.Common.{◌≡◌, ◌∙◌, refl, sym, ap, ap₂, subst, ℕ, ◌<◌, ◌⊎◌, inl, inr, Bool, true, false, List, [], ◌∷◌, ◌++◌, Option, None, Some, arith}
use Rattle.std.proofs.lemmas.Option.{same_Some}
use Rattle.m161_gdb.specs.declared.frames.Item.{Item}
use Rattle.m161_gdb.specs.declared.link.Duty.{Duty}
use Rattle.m161_gdb.specs.declared.link.Duty.TheVariants as duties
use Rattle.m161_gdb.specs.declared.packet.Action.{Action}
use Rattle.m161_gdb.specs.declared.packet.Motion.{Motion}
use Rattle.m161_gdb.specs.declared.packet.Motion.TheVariants as motions
use Rattle.m161_gdb.specs.declared.packet.Packet.TheVariants as packets
use Rattle.m161_gdb.specs.Links.{duty}
use Rattle.m161_gdb.specs.Stops.{StopsValue}
use Rattle.m161_moves.specs.declared.reason.Reason.{Reason}
use Rattle.m161_moves.specs.Course.{Course}
use Rattle.m161_moves.specs.Moves.{StopsBackwards, StopsForwards, backwards_reason, forwards_reason}
use Rattle.m161_moves.specs.Scenes.{Scene}
use Rattle.m161_server.specs.declared.session.Session.{Session}
use Rattle.m161_gdb.proofs.Readings.{has_one_reading}
use Rattle.m161_server.specs.Laws.{HasOneAnswer, HasOneText}
use Rattle.m161_server.specs.Sessions.{Answer, Changes, Monitors, Moves, MovesBack, MovesOn, Resumes, Settles, Standing, changed_stops, chosen_by, chosen_of, has_threads, standing, stop_text}
use Rattle.m161_server.specs.Serving.{DoesDuty, DoesItem, Passes, Progress, frame_of, in_order, packet_at, plus_if, sent_after}

-- Moves.

which : (i j : ℕ) → (i ≡ j) ⊎ ((i < j) ⊎ (j < i))
which i j = grind arith

not_both : (at : ℕ → Option Reason) (n : ℕ) (x : Reason) → at n ≡ None → at n ≡ Some x → ⊥
not_both at n x none some = cc (none, some)

one_place : (at : ℕ → Option Reason) (i j : ℕ) (a b : Reason) → at i ≡ Some a → at j ≡ Some b → (i < j → ⊥) → (j < i → ⊥) → (i ≡ j) × (a ≡ b)
one_place at i j a b p q less more = by (which i j)
  where
    by : (i ≡ j) ⊎ ((i < j) ⊎ (j < i)) → (i ≡ j) × (a ≡ b)
    by (inl e) = (e, same_Some a b (sym (subst (λ n. at n ≡ Some a) e p) ∙ q))
    by (inr (inl h)) = absurd (less h)
    by (inr (inr h)) = absurd (more h)

one_forwards : (course : Course) (stops : StopsValue) (chosen : List (Option Motion)) (from i j : ℕ) (a b : Reason) →
    StopsForwards course stops chosen from i a → StopsForwards course stops chosen from j b → (i ≡ j) × (a ≡ b)
one_forwards course stops chosen from i j a b p q =
    one_place (forwards_reason course stops chosen from) i j a b p.why q.why
    (λ less. not_both (forwards_reason course stops chosen from) i a (q.least i p.not_before less) p.why)
    (λ more. not_both (forwards_reason course stops chosen from) j b (p.least j q.not_before more) q.why)

one_backwards : (course : Course) (stops : StopsValue) (chosen : List (Option Motion)) (from i j : ℕ) (a b : Reason) →
    StopsBackwards course stops chosen from i a → StopsBackwards course stops chosen from j b → (i ≡ j) × (a ≡ b)
one_backwards course stops chosen from i j a b p q =
    one_place (backwards_reason course stops chosen from) i j a b p.why q.why
    (λ less. not_both (backwards_reason course stops chosen from) j b (p.greatest j less q.not_behind) q.why)
    (λ more. not_both (backwards_reason course stops chosen from) i a (q.greatest i more p.not_behind) p.why)

settles_one : (course : Course) (chosen : List (Option Motion)) (place : ℕ) (reason : Reason) (s t u : Session) (a b : Answer) →
    Settles course chosen place reason s a t → Settles course chosen place reason s b u → (a ≡ b) × (t ≡ u)
settles_one course chosen place reason s t u a b p q =
    let session = p.session ∙ sym q.session in
    let before = p.before ∙ sym q.before in
    let last = p.last ∙ ap (λ (v : Session). Some (stop_text course.scene v.last)) session ∙ sym q.last in
    (ap₂ (λ (f : List ℕ) (l : Option (List ℕ)). record { before = f; last = l }) before last, session)

moves_one : (course : Course) (At : ℕ → Reason → Type 0) (chosen : List (Option Motion)) (x y z : Standing) (a b : Answer) →
    ((i j : ℕ) (r s : Reason) → At i r → At j s → (i ≡ j) × (r ≡ s)) →
    Moves course At chosen x a y → Moves course At chosen x b z → (a ≡ b) × (y ≡ z)
moves_one course At chosen x y z a b one p q =
    let same = one y.place z.place p.0 q.0 p.1 q.1 in
    let other = subst (λ (r : Reason). Settles course chosen y.place r x.session b z.session) (sym same.1)
    (subst (λ (n : ℕ). Settles course chosen n q.0 x.session b z.session) (sym same.0) q.2) in
    let both = settles_one course chosen y.place p.0 x.session y.session z.session a b p.2 other in
    (both.0, ap₂ standing same.0 both.1)

on_one : (course : Course) (chosen : List (Option Motion)) (x y z : Standing) (a b : Answer) → MovesOn course chosen x a y → MovesOn course chosen x b z → (a ≡ b) × (y ≡ z)
on_one course chosen x y z a b =
    moves_one course (StopsForwards course x.session.stops chosen x.place) chosen x y z a b (one_forwards course x.session.stops chosen x.place)

back_one : (course : Course) (chosen : List (Option Motion)) (x y z : Standing) (a b : Answer) → MovesBack course chosen x a y → MovesBack course chosen x b z → (a ≡ b) × (y ≡ z)
back_one course chosen x y z a b =
    moves_one course (StopsBackwards course x.session.stops chosen x.place) chosen x y z a b (one_backwards course x.session.stops chosen x.place)

-- Answers.

changes_one : (o : Option StopsValue) (x y z : Standing) (a b : Answer) → Changes o x a y → Changes o x b z → (a ≡ b) × (y ≡ z)
changes_one None x y z a b p q = (p.0 ∙ sym q.0, p.1 ∙ sym q.1)
changes_one (Some stops) x y z a b p q = (p.0 ∙ sym q.0, p.1 ∙ sym q.1)

resumes_one : (t : Bool) (course : Course) (actions : List Action) (x y z : Standing) (a b : Answer) → Resumes t course actions x a y → Resumes t course actions x b z → (a ≡ b) × (y ≡ z)
resumes_one true course actions x y z a b p q = on_one course (chosen_of course.scene actions) x y z a b p q
resumes_one false course actions x y z a b p q = (p.0 ∙ sym q.0, p.1 ∙ sym q.1)

monitors_one : (scene : Scene) (line : List ℕ) (x y z : Standing) (a b : Answer) → Monitors scene line x a y → Monitors scene line x b z → (a ≡ b) × (y ≡ z)
monitors_one scene line x y z a b p q =
    (ap₂ (λ (f : List ℕ) (l : Option (List ℕ)). record { before = f; last = l }) (p.before ∙ sym q.before) (p.last ∙ sym q.last), p.after ∙ sym q.after)

pub has_one_answer : HasOneAnswer
has_one_answer c packets.Supported x y z a b p q = (p.0 ∙ sym q.0, p.1 ∙ sym q.1)
has_one_answer c packets.NoAcknowledgements x y z a b p q = (p.0 ∙ sym q.0, p.1 ∙ sym q.1)
has_one_answer c packets.LastStop x y z a b p q = (p.0 ∙ sym q.0, p.1 ∙ sym q.1)
has_one_answer c (packets.General thread) x y z a b p q = (p.0 ∙ sym q.0, p.1 ∙ sym q.1)
has_one_answer c (packets.Control thread) x y z a b p q = (p.0 ∙ sym q.0, p.1 ∙ sym q.1)
has_one_answer c (packets.IsThread n) x y z a b p q = (p.0 ∙ sym q.0, p.1 ∙ sym q.1)
has_one_answer c packets.GeneralThread x y z a b p q = (p.0 ∙ sym q.0, p.1 ∙ sym q.1)
has_one_answer c packets.Threads x y z a b p q = (p.0 ∙ sym q.0, p.1 ∙ sym q.1)
has_one_answer c packets.MoreThreads x y z a b p q = (p.0 ∙ sym q.0, p.1 ∙ sym q.1)
has_one_answer c (packets.ThreadState n) x y z a b p q = (p.0 ∙ sym q.0, p.1 ∙ sym q.1)
has_one_answer c packets.IsAttached x y z a b p q = (p.0 ∙ sym q.0, p.1 ∙ sym q.1)
has_one_answer c packets.Symbols x y z a b p q = (p.0 ∙ sym q.0, p.1 ∙ sym q.1)
has_one_answer c (packets.Description from size) x y z a b p q = (p.0 ∙ sym q.0, p.1 ∙ sym q.1)
has_one_answer c (packets.ThreadList from size) x y z a b p q = (p.0 ∙ sym q.0, p.1 ∙ sym q.1)
has_one_answer c packets.Registers x y z a b p q = (p.0 ∙ sym q.0, p.1 ∙ sym q.1)
has_one_answer c (packets.Register n) x y z a b p q = (p.0 ∙ sym q.0, p.1 ∙ sym q.1)
has_one_answer c (packets.Memory address size) x y z a b p q = (p.0 ∙ sym q.0, p.1 ∙ sym q.1)
has_one_answer c packets.Write x y z a b p q = (p.0 ∙ sym q.0, p.1 ∙ sym q.1)
has_one_answer c packets.KnownActions x y z a b p q = (p.0 ∙ sym q.0, p.1 ∙ sym q.1)
has_one_answer c packets.Detach x y z a b p q = (p.0 ∙ sym q.0, p.1 ∙ sym q.1)
has_one_answer c packets.Kill x y z a b p q = (p.0 ∙ sym q.0, p.1 ∙ sym q.1)
has_one_answer c packets.Malformed x y z a b p q = (p.0 ∙ sym q.0, p.1 ∙ sym q.1)
has_one_answer c packets.Unknown x y z a b p q = (p.0 ∙ sym q.0, p.1 ∙ sym q.1)
has_one_answer c (packets.Place change kind address size) x y z a b p q =
    changes_one (changed_stops change kind address size x.session.stops) x y z a b p q
has_one_answer c (packets.Resume actions) x y z a b p q = resumes_one (has_threads c.scene actions) c actions x y z a b p q
has_one_answer c packets.Continue x y z a b p q = on_one c (chosen_by c.scene x.session motions.Continue) x y z a b p q
has_one_answer c packets.Step x y z a b p q = on_one c (chosen_by c.scene x.session motions.Step) x y z a b p q
has_one_answer c packets.ContinueBack x y z a b p q = back_one c (chosen_by c.scene x.session motions.Continue) x y z a b p q
has_one_answer c packets.StepBack x y z a b p q = back_one c (chosen_by c.scene x.session motions.Step) x y z a b p q
has_one_answer c (packets.Monitor line) x y z a b p q = monitors_one c.scene line x y z a b p q

-- Items.

duty_one : (course : Course) (d : Duty) (item : Item) (p q r : Progress) (s t : List ℕ) (m n : Bool) →
    DoesDuty course d item p s q m → DoesDuty course d item p t r n → (s ≡ t) × (q ≡ r)
duty_one course duties.Nothing item p q r s t m n e f = (e.0.0 ∙ sym f.0.0, e.0.1 ∙ sym f.0.1)
duty_one course duties.Refuse item p q r s t m n e f = (e.0.0 ∙ sym f.0.0, e.0.1 ∙ sym f.0.1)
duty_one course duties.Resend item p q r s t m n e f = (e.0.0 ∙ sym f.0.0, e.0.1 ∙ sym f.0.1)
duty_one course duties.Interrupt item p q r s t m n e f = (e.0 ∙ sym f.0, e.2 ∙ sym f.2)
duty_one course (duties.Answer acknowledge) item p q r s t m n e f =
    let same = has_one_answer course (packet_at item) p.stands q.stands r.stands e.0.answer f.0.answer e.0.answers f.0.answers in
    let text = e.0.text ∙ ap (λ (a : Answer). plus_if acknowledge ++ a.before ++ frame_of a.last) same.0 ∙ sym f.0.text in
    let sent = e.0.sent_is ∙ ap (λ (a : Answer). sent_after a.last p.sent) same.0 ∙ sym f.0.sent_is in
    let past = e.1 ∙ sym f.1 in (
      text,
      ap₂ (λ (v : Standing) (l : List ℕ). record { stands = v; sent = l; past = q.past }) same.1 sent
          ∙ ap (λ (items : List Item). record { stands = r.stands; sent = r.sent; past = items }) past,
    )

passes_one : (course : Course) (place : ℕ) (past : List Item) (s t : List ℕ) (p q : Progress) →
    Passes course place past s p → Passes course place past t q → (s ≡ t) × (p ≡ q)
passes_one course place [] s t p q e f = (e.0 ∙ sym f.0, e.1 ∙ sym f.1)
passes_one course place (item ∷ past) s t p q e f =
    let before = passes_one course place past e.1 f.1 e.0 f.0 e.3 f.3 in
    let other = subst (λ (k : Progress). DoesItem course item k f.2 q true) (sym before.1) f.4 in
    let here = duty_one course (duty e.0.past item) item e.0 p q e.2 f.2 true true e.4 other in
    (e.5 ∙ ap₂ (λ (a b : List ℕ). a ++ b) before.0 here.0 ∙ sym f.5, here.1)

-- Bytes.

not_none : (ys : List Item) (y : Item) → [] ≡ ys ++ y ∷ [] → ⊥
not_none [] y e = cc
not_none (z ∷ ys) y e = cc

same_last : (xs ys : List Item) (x y : Item) → xs ++ x ∷ [] ≡ ys ++ y ∷ [] → (xs ≡ ys) × (x ≡ y)
same_last [] [] x y e = (refl, cc)
same_last [] (z ∷ ys) x y e = absurd (let rest : [] ≡ ys ++ y ∷ [] = cc in not_none ys y rest)
same_last (z ∷ xs) [] x y e = absurd (let rest : [] ≡ xs ++ x ∷ [] = cc in not_none xs x rest)
same_last (z ∷ xs) (w ∷ ys) x y e =
    let first : z ≡ w = cc in
    let rest : xs ++ x ∷ [] ≡ ys ++ y ∷ [] = cc in
    let both = same_last xs ys x y rest in
    (ap₂ (λ (n : Item) (l : List Item). n ∷ l) first both.0, both.1)

same_order : (a b : List Item) → in_order a ≡ in_order b → a ≡ b
same_order [] [] e = refl
same_order [] (y ∷ b) e = absurd (not_none (in_order b) y e)
same_order (x ∷ a) [] e = absurd (not_none (in_order a) x (sym e))
same_order (x ∷ a) (y ∷ b) e =
    let both = same_last (in_order a) (in_order b) x y e in
    ap₂ (λ (n : Item) (l : List Item). n ∷ l) both.1 (same_order a b both.0)

pub has_one_text : HasOneText
has_one_text course place bytes past other s t p q a b e f =
    let same : past ≡ other = same_order past other (has_one_reading bytes (in_order past) (in_order other) a b) in
    passes_one course place past s t p q e (subst (λ (items : List Item). Passes course place items t q) (sym same) f)
