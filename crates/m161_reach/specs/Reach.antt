use Rattle.std.specs.Prelude.{◌≡◌, ℕ, ◌+◌, ◌^◌, ◌<◌, Bool, true, List, length, IfSome}
use Rattle.m161_machine.specs.History.{Start, boot_state}
use Rattle.m161_machine.specs.State.{State, processor_at}
use Rattle.m161_judge.specs.Verdict.{Criteria}
use Rattle.m161_alike.specs.declared.known.Known.{Known}
use Rattle.m161_alike.specs.declared.reads.Reads.{Reads}
use Rattle.m161_alike.specs.View.{known_of}
use Rattle.m161_states.specs.declared.verdict.Unknown.{Unknown}
use Rattle.m161_states.specs.declared.verdict.EventVerdict.{EventVerdict}
use Rattle.m161_states.specs.Question.{Question, can_start, processors_of}
use Rattle.m161_states.specs.System.{Explored, next, start}
use Rattle.m161_states.specs.Verdicts.{is_end, reads_next, stop, verdict}
use Rattle.m161_states.specs.Laws.{IsValid}
use Rattle.m161_states.specs.Views.{view}
use Rattle.m161_explore.specs.declared.whole.Answer.{Answer}
use Rattle.m161_explore.specs.declared.whole.Answer.TheVariants.{Clean, Found, Hung, Open, Ended}
use Rattle.m161_explore.specs.Lists.{Leads}
use Rattle.m161_explore.specs.Rules.{Rules}

-- The states that a machine can reach, in the form in which an exploration asks for them.

-- the events are a Step of each processor, Done, and the next key
unfoldable pub rules_of : Question → Rules Explored EventVerdict Unknown
rules_of q = record {
  width = processors_of q + 2;
  start = start q;
  next = λ x n. next q x n;
  verdict = λ x n. verdict q x n;
  stop = λ x n. stop q x n;
  is_end = λ x. is_end q x;
  view = λ x. view q x;
}

-- what a machine at boot was booted from
abbrev pub start_in : State → Start
start_in s = record { bytes = s.memory; entry = (processor_at 0 s.processors).pc; conf = s.conf }

abbrev pub question_of : State → Criteria → Known → Question
question_of boot goal known = record { start = start_in boot; goal = goal; known = known }

-- a machine that has accepted no event
abbrev pub IsAtBoot : State → Type 0
IsAtBoot s = (start : Start) × (s ≡ boot_state start)

-- a machine is at boot, and the numbers of what is asked of it fit words
pub record CanBeAsked (boot : State) (goal : Criteria) : Type 0 where
  pub is_boot : boot ≡ boot_state (start_in boot)
  pub can : can_start (start_in boot) ≡ true
  pub watches : length goal.watches < 2 ^ 31
  pub keys : length goal.keys < 2 ^ 32
  pub output : IfSome goal.output (λ bytes. length bytes < 2 ^ 32)

-- what holds of each state that is met: it is one of the machine's, and of each watch something is kept
pub record IsMet (q : Question) (x : Explored) : Type 0 where
  pub valid : IsValid q x
  pub kept : length x.flags ≡ length q.goal.watches

-- behind some list of events the next Step of a processor reads one of the two registers of its time
abbrev pub ReadsBehind : Question → ℕ → (Reads → Bool) → Type 0
ReadsBehind q p which =
    (events : List ℕ) × (x : Explored) × Leads (rules_of q) (start q) events x
    × (which (reads_next p x.state) ≡ true)

-- nothing is known of time that no Step reads
pub record IsLearnt (q : Question) : Type 0 where
  pub random : (p : ℕ) → p < 32 → (known_of q.known p).random ≡ true → ReadsBehind q p (λ reads. reads.random)
  pub count : (p : ℕ) → p < 32 → (known_of q.known p).count ≡ true → ReadsBehind q p (λ reads. reads.count)

-- an exploration ended for a reason, before its answer
abbrev pub HasEnded : {V R : Type 0} → Answer V R → Type 0
HasEnded (Clean states) = ⊥
HasEnded (Found events what states) = ⊥
HasEnded (Hung events states) = ⊥
HasEnded (Open size) = ⊥
HasEnded (Ended reason) = Unit {0}
