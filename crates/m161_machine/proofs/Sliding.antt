use Rattle.std.proofs.Common.{◌≡◌, ◌∙◌, refl, ap, sym, subst, ℕ, ◌+◌, ◌-◌, ◌≤◌, List, [], ◌∷◌, ◌++◌, length, take, drop, Ok, arith}
use Rattle.std.proofs.lemmas.List.{append_assoc, length-append, length-drop, take-append-drop}
use Rattle.circular_buffer.specs.Buffer.{Buffer, buffer}
use Rattle.m161_cpu.specs.declared.processor.Outcome.{Outcome}
use Rattle.m161_machine.specs.declared.event.Entry.{Entry}
use Rattle.m161_machine.specs.declared.event.Event.{Event}
use Rattle.m161_machine.specs.State.{State, KeepsSizes, next}
use Rattle.m161_machine.specs.History.{Answers, History, Leads, Slides, entry}
use Rattle.m161_machine.specs.Sound.{IsLawful}
use Rattle.m161_machine.specs.helpers.Window.{Slid}
use Rattle.m161_machine.specs.History.{transfers_of}
use Rattle.m161_machine.proofs.Made.{lawful_on}
use Rattle.m161_machine.proofs.Transfers.{split_transfers, transfers_append}

-- A machine whose window slid.

-- the window's contract, as that of a machine
pub slides : (m : History) (es : List Entry) (base' t : State) (window window' : Buffer Entry) → window.items ≡ m.log → window.capacity ≡ m.start.conf.log →
    Slid m.base window es base' window' → Slides m es (record { start = m.start; base = base'; log = window'.items; state = t })
slides m es base' t window window' log_is capacity_is s =
    let short = ap length log_is in
    record {
      lost = s.lost;
      log_is = ap (λ xs. xs ++ es) (sym log_is) ∙ s.items_are;
      base_is = s.base_is;
      length_is = omega (arith, s.length_is, capacity_is, short);
      start_is = refl;
    }

-- and the machine stays lawful
pub lawful_slid : (m : History) (es : List Entry) (base' t : State) (window window' : Buffer Entry) → IsLawful m → window.items ≡ m.log →
    window.capacity ≡ m.start.conf.log → Leads m.state es t → KeepsSizes m.state t → Slid m.base window es base' window' →
    IsLawful (record { start = m.start; base = base'; log = window'.items; state = t })
lawful_slid m es base' t window window' l log_is capacity_is h sizes s =
    let x = slides m es base' t window window' log_is capacity_is s in
    lawful_on m es t base' window'.items l h sizes x.lost x.log_is x.base_is x.length_is

-- what makes a window slide: its first entries are made on the base, and dropped
pub slid_by : (base base' : State) (window window' : Buffer Entry) (kept : List Entry) (n : ℕ) →
    n ≡ (length window.items + length kept) - window.capacity → length kept ≤ window.capacity → length window.items ≤ window.capacity →
    Leads base (take n window.items) base' → window' ≡ buffer (drop n window.items ++ kept) window.capacity →
    Slid base window kept base' window'
slid_by base base' window window' kept n number fits within leads is =
    let items_are : window'.items ≡ drop n window.items ++ kept = ap (λ (b : Buffer Entry). b.items) is in
    let long = ap length items_are in
    let both = length-append (drop n window.items) kept in
    let left = length-drop n window.items in
    record {
      lost = take n window.items;
      items_are = ap (λ es. es ++ kept) (sym (take-append-drop n window.items))
          ∙ append_assoc (take n window.items) (drop n window.items) kept
          ∙ ap (λ es. take n window.items ++ es) (sym items_are);
      base_is = leads;
      length_is = omega (arith, long, both, left, number, fits, within);
      capacity_is = ap (λ (b : Buffer Entry). b.capacity) is;
    }

-- and what room it leaves
pub room_left : (window window' : Buffer Entry) (kept : List Entry) (n transfers before after : ℕ) → transfers ≡ transfers_of kept →
    transfers_of window.items + transfers ≤ before → before ≤ after + transfers_of (take n window.items) →
    window' ≡ buffer (drop n window.items ++ kept) window.capacity → transfers_of window'.items ≤ after
room_left window window' kept n transfers before after number room rest is =
    let items_are = ap (λ (b : Buffer Entry). transfers_of b.items) is in
    let both = transfers_append (drop n window.items) kept in
    let all = split_transfers window.items n in
    omega (arith, items_are, both, all, number, room, rest)

-- one event, with the entry that was appended
pub leads_one : (s t : State) (e : Event) (o : Outcome) (x : Entry) → x ≡ entry e o → next s e ≡ Ok (o, t) → Leads s (x ∷ []) t
leads_one s t e o x is gives = (t, subst (λ (y : Entry). next s y.event ≡ Ok (y.outcome, t)) (sym is) gives, refl)

-- the answer with that entry
pub answers_slid : (m : History) (e : Event) (o : Outcome) (x : Entry) (base' t : State) (window window' : Buffer Entry) → x ≡ entry e o →
    window.items ≡ m.log → window.capacity ≡ m.start.conf.log → next m.state e ≡ Ok (o, t) → Slid m.base window (x ∷ []) base' window' →
    Answers m e (Ok o) (record { start = m.start; base = base'; log = window'.items; state = t })
answers_slid m e o x base' t window window' is log_is capacity_is gives s =
    let after : History = record { start = m.start; base = base'; log = window'.items; state = t } in
    (gives, subst (λ (y : Entry). Slides m (y ∷ []) after) is (slides m (x ∷ []) base' t window window' log_is capacity_is s))
