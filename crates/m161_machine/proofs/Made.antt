use Rattle.std.proofs.Common.{◌≡◌, ◌∙◌, refl, ap, subst, ◌+◌, ◌≤◌, min, Bool, true, false, List, [], ◌∷◌, ◌++◌, length, Result, Ok, Err, arith}
use Rattle.std.specs.Prelude.{nat_le}
use Rattle.std.proofs.lemmas.Bool.Decides.{nat_tests}
use Rattle.m161_bus.specs.declared.console.DoneError.{DoneError}
use Rattle.m161_bus.specs.declared.console.KeyFull.{KeyFull}
use Rattle.m161_bus.specs.Board.{BoardState, board_done, board_key}
use Rattle.m161_cpu.specs.declared.processor.Outcome.{Outcome}
use Rattle.m161_cpu.specs.declared.processor.Outcome.TheVariants.{Taken}
use Rattle.m161_isa.specs.Choice.{first_answer}
use Rattle.m161_machine.specs.declared.event.Event.{Event}
use Rattle.m161_machine.specs.declared.event.Event.TheVariants.{Step, Key, Done}
use Rattle.m161_machine.specs.declared.event.Entry.{Entry}
use Rattle.m161_machine.specs.declared.event.Refusal.{Refusal}
use Rattle.m161_machine.specs.declared.event.Refusal.TheVariants.{Off, Worn, KeyFull as KeyFullRefusal}
use Rattle.m161_machine.specs.State.{State, KeepsSizes, answered_done, answered_key, next, refusal_of_done, step_result, unless, with_board, with_step}
use Rattle.m161_machine.specs.History.{History, IsReached, Leads, Start, boot_state}
use Rattle.m161_machine.specs.Sound.{IsLawful}
use Rattle.m161_machine.proofs.Leading.{leads_on, leads_rest}
use Rattle.m161_machine.proofs.Accepting.{passed}

-- How many events were accepted, and what holds of a machine after them.

-- one more, of as many as a machine counts
abbrev Counts : State → State → Type 0
Counts s t = (t.made ≡ s.made + 1) × (t.made ≤ 9223372036854775807) × (t.conf ≡ s.conf)

-- what an accepted event does to the number and the configuration
abbrev OneMore : State → State → Type 0
OneMore s t = (t.made ≡ s.made + 1) × (t.conf ≡ s.conf)

of_state : (s t : State) (o : Outcome) (x : Outcome × State) → ◌≡◌ {A = Result (Outcome × State) Refusal} (Ok x) (Ok (o, t)) → x.1 ≡ t
of_state s t o x h = let pair : x ≡ (o, t) = cc in ap (λ (y : Outcome × State). y.1) pair

one_more : (s u t : State) → u ≡ t → OneMore s u → OneMore s t
one_more s u t same h = subst (OneMore s) same h

keyed : (s t : State) (o : Outcome) (r : Result BoardState KeyFull) → answered_key s r ≡ Ok (o, t) → OneMore s t
keyed s t o (Ok board) h = one_more s (with_board board s) t (of_state s t o (Taken, with_board board s) h) (refl, refl)
keyed s t o (Err e) h = absurd (let bad : ◌≡◌ {A = Result (Outcome × State) Refusal} (Err KeyFullRefusal) (Ok (o, t)) = h in cc)

sent : (s t : State) (o : Outcome) (r : Result BoardState DoneError) → answered_done s r ≡ Ok (o, t) → OneMore s t
sent s t o (Ok board) h = one_more s (with_board board s) t (of_state s t o (Taken, with_board board s) h) (refl, refl)
sent s t o (Err e) h = absurd (let bad : ◌≡◌ {A = Result (Outcome × State) Refusal} (Err (refusal_of_done e)) (Ok (o, t)) = h in cc)

input_passed : (b c : Bool) (x : Result (Outcome × State) Refusal) (r : Outcome × State) →
    unless (first_answer ((b, Off) ∷ (c, Worn) ∷ [])) x ≡ Ok r → (c ≡ false) × (x ≡ Ok r)
input_passed true c x r h = absurd (let bad : ◌≡◌ {A = Result (Outcome × State) Refusal} (Err Off) (Ok r) = h in cc)
input_passed false true x r h = absurd (let bad : ◌≡◌ {A = Result (Outcome × State) Refusal} (Err Worn) (Ok r) = h in cc)
input_passed false false x r h = (refl, h)

few : (s t : State) → nat_le 9223372036854775807 s.made ≡ false → OneMore s t → Counts s t
few s t room one =
    let made_is = one.0 in
    (one.0, grind (arith, nat_tests, room, made_is), one.1)

counts_by : (e : Event) (s t : State) (o : Outcome) → next s e ≡ Ok (o, t) → Counts s t
unfolding next
counts_by (Step p) s t o h =
    let tests = passed (nat_le (length s.processors) p) s.board.off (nat_le 9223372036854775807 s.made) _ (o, t) h in
    let after = with_step p (step_result p s) s in
    few s t tests.2 (one_more s after t (of_state s t o ((step_result p s).outcome, after) tests.3) (refl, refl))
counts_by (Key byte) s t o h =
    let tests = input_passed s.board.off (nat_le 9223372036854775807 s.made) _ (o, t) h in few s t tests.0 (keyed s t o (board_key byte s.board) tests.1)
counts_by Done s t o h =
    let tests = input_passed s.board.off (nat_le 9223372036854775807 s.made) _ (o, t) h in few s t tests.0 (sent s t o (board_done s.board) tests.1)

pub counted : (es : List Entry) (s t : State) → Leads s es t → t.made ≡ s.made + length es
counted [] s t h = let same = ap (λ (u : State). u.made) h in omega (arith, same)
counted (e ∷ es) s t h =
    let rest = counted es h.0 t h.2 in
    let one = counts_by e.event s h.0 e.outcome h.1 in
    let first = one.0 in omega (arith, rest, first)

-- and no more than a machine counts
pub fits : (es : List Entry) (s t : State) → s.made ≤ 9223372036854775807 → Leads s es t → t.made ≤ 9223372036854775807
fits [] s t few h = let same = ap (λ (u : State). u.made) h in omega (arith, same, few)
fits (e ∷ es) s t few h = fits es h.0 t (counts_by e.event s h.0 e.outcome h.1).1 h.2

-- and the configuration stays
pub conf_stays : (es : List Entry) (s t : State) → Leads s es t → t.conf ≡ s.conf
conf_stays [] s t h = ap (λ (u : State). u.conf) h
conf_stays (e ∷ es) s t h = conf_stays es h.0 t h.2 ∙ (counts_by e.event s h.0 e.outcome h.1).2

-- a machine that went on
pub lawful_on : (m : History) (es : List Entry) (t : State) (base : State) (log : List Entry) → IsLawful m → Leads m.state es t →
    KeepsSizes m.state t → (lost : List Entry) → m.log ++ es ≡ lost ++ log → Leads m.base lost base →
    length log ≡ min m.start.conf.log (length m.log + length es) →
    IsLawful (record { start = m.start; base = base; log = log; state = t })
lawful_on m es t base log l h sizes lost split base_is long =
    let count = counted es m.state t h in
    let before = l.log_is_last in
    let whole : Leads m.base (m.log ++ es) t = leads_on m.log es m.base m.state t l.replay h in
    record {
      replay = leads_rest lost log m.base base t base_is (subst (λ xs. Leads m.base xs t) split whole);
      reached = (l.reached.0 ++ lost, leads_on l.reached.0 lost (boot_state m.start) m.base base l.reached.1 base_is);
      is_loaded = l.is_loaded;
      limits_hold = l.limits_hold;
      conf_is = sizes.0 ∙ l.conf_is;
      log_is_last = omega (arith, long, count, before);
      ram_is = sizes.2 ∙ l.ram_is;
      size_is = sizes.1 ∙ l.size_is;
    }

base_by : (start : Start) (base : State) (es : List Entry) → Leads (boot_state start) es base → base.made ≡ 0 → base ≡ boot_state start
base_by start base [] h none = h
base_by start base (e ∷ es) h none =
    let count = counted (e ∷ es) (boot_state start) base h in
    absurd (let bad : ⊥ = omega (arith, count, none) in bad)

-- the base of a lawful machine is that of the boot, if no event was made on it
pub base_at_boot : (start : Start) (base : State) → IsReached start base → base.made ≡ 0 → base ≡ boot_state start
base_at_boot start base reached none = base_by start base reached.0 reached.1 none

-- a machine has counted no more events than it can
pub few_made : (h : History) → IsLawful h → h.state.made ≤ 9223372036854775807
few_made h l =
    let base_few = fits l.reached.0 (boot_state h.start) h.base (omega arith) l.reached.1 in
    fits h.log h.base h.state base_few l.replay

-- its log has at most the entries for which there is room
pub log_fits : (h : History) → IsLawful h → length h.log ≤ h.start.conf.log
log_fits h l = let last = l.log_is_last in omega (arith, last)
