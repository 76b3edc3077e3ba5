use Rattle.std.proofs.Common.{◌≡◌, ◌≢◌, inl, inr, ◌∙◌, refl, ap, sym, subst, ℕ, ◌+◌, ◌%◌, ◌<◌, ◌≤◌, arith, Bool, true, false, List, length, Option, None, Some, Result, Ok, Err}
use Rattle.std.specs.Prelude.{IfOk, ◌==◌, ◌&&◌, if◌then◌else◌, nat_le, nat_lt, option_map, slice_get}
use Rattle.std.proofs.lemmas.Bool.Decides.{nat_tests}
use Rattle.m161_ram.specs.Word.{word_at}
use Rattle.m161_bus.specs.declared.console.DoneError.{DoneError}
use Rattle.m161_bus.specs.declared.console.KeyFull.{KeyFull}
use Rattle.m161_bus.specs.Board.{BoardState, board_done, board_key}
use Rattle.m161_cpu.specs.declared.processor.Outcome.{Outcome}
use Rattle.m161_cpu.specs.declared.uses.Uses.{Uses}
use Rattle.m161_cpu.specs.Scene.{around, scene}
use Rattle.m161_machine.specs.declared.event.Event.{Event}
use Rattle.m161_machine.specs.declared.event.Event.TheVariants.{Done, Key, Step}
use Rattle.m161_machine.specs.declared.event.Refusal.{Refusal}
use Rattle.m161_machine.specs.State.{State, answered_done, answered_key, next, processor_at, refusal, step_result, unless}
use Rattle.m161_machine.specs.Uses.{uses_in}
use Rattle.m161_judge.specs.Verdict.{Criteria}
use Rattle.m161_alike.specs.Addresses.{Cover, with_address}
use Rattle.m161_alike.proofs.Covering.{cover_same, cover_stored}
use Rattle.m161_trace.proofs.Moved.{Moves, moves}
use Rattle.m161_trace.proofs.Near.{accepted as accepts, stored_is}
use Rattle.m161_states.specs.Question.{Question, processors_of}
use Rattle.m161_states.specs.System.{Explored, accepted, behind, event_of, fresh, next_by}
use Rattle.m161_reach.specs.helpers.Advance.{IsBehind, unmade}
use Rattle.m161_reach.specs.helpers.Handling.{addresses_after, stored_at}
use Rattle.m161_reach.proofs.Fresh.{fresh_uses}

-- Where memory may differ from boot's behind an event.

-- memory as it was, but for the word that was stored to
record Stays (m n : List ℕ) (stored : Option ℕ) : Type 0 where
  size : length n ≡ length m
  words : (at : ℕ) → at % 4 ≡ 0 → stored ≢ Some at → word_at n at ≡ word_at m at

still : (m n : List ℕ) (stored : Option ℕ) → n ≡ m → Stays m n stored
still m n stored is = record { size = ap length is; words = λ at al other. ap (λ l. word_at l at) is }

-- each event

result_moves : (p : ℕ) (s : State) → Moves (scene (processor_at p s.processors) (around p s.memory s.board s.links s.conf.strict)) (step_result p s)
unfolding step_result
result_moves p s = moves (scene (processor_at p s.processors) (around p s.memory s.board s.links s.conf.strict))

step_stays : (p : ℕ) (s : State) (o : Outcome) (t : State) → next s (Step p) ≡ Ok (o, t) → Stays s.memory t.memory (uses_in p s).stored
step_stays p s o t h =
    let a = accepts p s o t h in
    let m = result_moves p s in
    let memory_is : t.memory ≡ (step_result p s).after.around.memory = sym (ap (λ (r : Outcome × State). r.1.memory) a.given) in
    record {
      size = ap length memory_is ∙ m.size;
      words = λ at al other. ap (λ l. word_at l at) memory_is ∙ m.word at al (λ is. other (stored_is p s ∙ is));
    }

input_by : (r : Option Refusal) (a : Result (Outcome × State) Refusal) (o : Outcome) (t : State) (m : List ℕ) → IfOk a (λ g. g.1.memory ≡ m) →
    unless r a ≡ Ok (o, t) → t.memory ≡ m
input_by (Some r) a o t m keeps h = absurd (let bad : ◌≡◌ {A = Result (Outcome × State) Refusal} (Err r) (Ok (o, t)) = h in cc)
input_by None (Ok g) o t m keeps h =
    let given : ◌≡◌ {A = Result (Outcome × State) Refusal} (Ok g) (Ok (o, t)) = h in
    let is : ◌≡◌ {A = Outcome × State} g (o, t) = cc in
    subst (λ (x : Outcome × State). x.1.memory ≡ m) is keeps
input_by None (Err e) o t m keeps h = absurd (let bad : ◌≡◌ {A = Result (Outcome × State) Refusal} (Err e) (Ok (o, t)) = h in cc)

key_keeps : (s : State) (r : Result BoardState KeyFull) → IfOk (answered_key s r) (λ g. g.1.memory ≡ s.memory)
key_keeps s (Ok board) = refl
key_keeps s (Err e) = tt

done_keeps : (s : State) (r : Result BoardState DoneError) → IfOk (answered_done s r) (λ g. g.1.memory ≡ s.memory)
done_keeps s (Ok board) = refl
done_keeps s (Err e) = tt

key_stays : (byte : ℕ) (s : State) (o : Outcome) (t : State) → next s (Key byte) ≡ Ok (o, t) → t.memory ≡ s.memory
unfolding next
key_stays byte s o t h = input_by (refusal s (Key byte)) (answered_key s (board_key byte s.board)) o t s.memory (key_keeps s (board_key byte s.board)) h

done_stays : (s : State) (o : Outcome) (t : State) → next s Done ≡ Ok (o, t) → t.memory ≡ s.memory
unfolding next
done_stays s o t h = input_by (refusal s Done) (answered_done s (board_done s.board)) o t s.memory (done_keeps s (board_done s.board)) h

-- what an event stores

abbrev stored_by : Option Event → Explored → Option ℕ
stored_by None x = None
stored_by (Some (Step p)) x = (uses_in p x.state).stored
stored_by (Some (Key byte)) x = None
stored_by (Some Done) x = None

made_stays : (x : Explored) (e : Event) (o : Outcome) (t : State) → next (fresh x.state) e ≡ Ok (o, t) → Stays x.state.memory t.memory (stored_by (Some e) x)
made_stays x (Step p) o t h =
    let stored : (uses_in p (fresh x.state)).stored ≡ (uses_in p x.state).stored = ap (λ (u : Uses). u.stored) (fresh_uses p x.state) in
    subst (Stays x.state.memory t.memory) stored (step_stays p (fresh x.state) o t h)
made_stays x (Key byte) o t h = still x.state.memory t.memory None (key_stays byte (fresh x.state) o t h)
made_stays x Done o t h = still x.state.memory t.memory None (done_stays (fresh x.state) o t h)

given_by : (goal : Criteria) (x u : Explored) (e : Event) (r : Result (Outcome × State) Refusal) → accepted goal x e r ≡ Some u →
    (g : Outcome × State) × (r ≡ Ok g) × (u ≡ behind goal x e g.1)
given_by goal x u e (Ok g) h =
    let is : ◌≡◌ {A = Option Explored} (Some (behind goal x e g.1)) (Some u) = h in
    let same : behind goal x e g.1 ≡ u = cc in (g, refl, sym same)
given_by goal x u e (Err r) h = absurd (let bad : ◌≡◌ {A = Option Explored} None (Some u) = h in cc)

next_stays : (goal : Criteria) (x t u : Explored) (e : Option Event) → next_by goal x e ≡ Some u → t ≡ unmade u → Stays x.state.memory t.state.memory (stored_by e x)
next_stays goal x t u None h is = absurd (let bad : ◌≡◌ {A = Option Explored} None (Some u) = h in cc)
next_stays goal x t u (Some e) h is =
    let given = given_by goal x u e (next (fresh x.state) e) h in
    let memory_is : t.state.memory ≡ given.0.1.memory =
    ap (λ (y : Explored). y.state.memory) is ∙ ap (λ (y : Explored). y.state.memory) given.2 in
    subst (λ (l : List ℕ). Stays x.state.memory l (stored_by (Some e) x)) (sym memory_is) (made_stays x e given.0.0 given.0.1 given.1)

behind_stays : (goal : Criteria) (x t : Explored) (e : Option Event) → IsBehind goal x e t → Stays x.state.memory t.state.memory (stored_by e x)
behind_stays goal x t e (inl same) = still x.state.memory t.state.memory (stored_by e x) (ap (λ (y : Explored). y.state.memory) same)
behind_stays goal x t e (inr h) = next_stays goal x t h.0 e h.1 h.2

-- an event by its number

abbrev keys_event : Question → Explored → Option Event
keys_event q x = option_map (λ byte. Key byte) (slice_get q.goal.keys x.typed)

none_stored : (b : Option ℕ) (x : Explored) → stored_by (option_map (λ byte. Key byte) b) x ≡ None
none_stored None x = refl
none_stored (Some byte) x = refl

other_stored : (test : Bool) (q : Question) (x : Explored) → stored_by (if test then Some Done else keys_event q x) x ≡ None
other_stored true q x = refl
other_stored false q x = none_stored (slice_get q.goal.keys x.typed) x

stored_if : (first second : Bool) (q : Question) (x : Explored) (n : ℕ) →
    stored_by (if first then Some (Step n) else if second then Some Done else keys_event q x) x ≡ (if first then (uses_in n x.state).stored else None)
stored_if true second q x n = refl
stored_if false second q x n = other_stored second q x

stored_is_at : (q : Question) (x : Explored) (n : ℕ) → stored_by (event_of q x n) x ≡ stored_at q x n
stored_is_at q x n = stored_if (nat_lt n (processors_of q)) (n == processors_of q) q x n

-- the places behind it

some_is : (a b : ℕ) → ◌≡◌ {A = Option ℕ} (Some a) (Some b) → a ≡ b
some_is a b h = cc

covered_by : (s t : Bool) (boot m n places : List ℕ) (at : ℕ) → (at % 4 == 0) ≡ s → nat_le (at + 4) (length n) ≡ t → Stays m n (Some at) → Cover boot m places →
    Cover boot n (if s && t then with_address at places else places)
covered_by true true boot m n places at hs ht h cover =
    let size = h.size in
    let al : at % 4 ≡ 0 = grind (arith, nat_tests, hs) in
    let inside : at + 4 ≤ length n = grind (arith, nat_tests, ht) in
    cover_stored boot m n places at cover al (omega (arith, inside, size)) size (λ other whole ne. h.words other whole (λ is. ne (some_is at other is)))
covered_by true false boot m n places at hs ht h cover =
    let size = h.size in
    let out : length n < at + 4 = grind (arith, nat_tests, ht) in
    cover_same boot m n places cover size (λ other whole there. h.words other whole (λ is.
    (let same = some_is at other is in omega (arith, out, there, same, size))))
covered_by false t boot m n places at hs ht h cover =
    let odd : at % 4 ≢ 0 = grind (arith, nat_tests, hs) in
    cover_same boot m n places cover h.size (λ other whole there. h.words other whole (λ is.
    (let same = some_is at other is in odd (omega (arith, whole, same)))))

covered : (stored : Option ℕ) (boot m n places : List ℕ) → Stays m n stored → Cover boot m places → Cover boot n (addresses_after stored (length n) places)
covered None boot m n places h cover = cover_same boot m n places cover h.size (λ at al there. h.words at al (λ is. (let bad : ◌≡◌ {A = Option ℕ} None (Some at) = is in cc)))
covered (Some at) boot m n places h cover = covered_by (at % 4 == 0) (nat_le (at + 4) (length n)) boot m n places at refl refl h cover

pub cover_behind : (q : Question) (x t : Explored) (n : ℕ) (boot places : List ℕ) → IsBehind q.goal x (event_of q x n) t → Cover boot x.state.memory places →
    Cover boot t.state.memory (addresses_after (stored_at q x n) (length t.state.memory) places)
cover_behind q x t n boot places h cover =
    covered (stored_at q x n) boot x.state.memory t.state.memory places
    (subst (Stays x.state.memory t.state.memory) (stored_is_at q x n) (behind_stays q.goal x t (event_of q x n) h)) cover
