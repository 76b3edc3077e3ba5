use Rattle.std.specs.Prelude.{ℕ, ◌+◌, Bool, true, false, if◌then◌else◌, Option, None, Some, option_map}
use Rattle.m161_states.specs.declared.verdict.Unknown.{Unknown}
use Rattle.m161_states.specs.declared.verdict.EventVerdict.{EventVerdict}
use Rattle.m161_states.specs.Question.{Question, processors_of}
use Rattle.m161_states.specs.System.{Explored, next, start, stored}
use Rattle.m161_states.specs.Verdicts.{is_end, stop, verdict}
use Rattle.m161_states.specs.Views.{view}
use Rattle.m161_explore.specs.declared.system.Advanced.{Advanced}
use Rattle.m161_explore.specs.declared.system.Advanced.TheVariants.{Refused, Passed, Judged, Stopped}
use Rattle.m161_explore.specs.declared.whole.Answer.{Answer}
use Rattle.m161_explore.specs.declared.whole.Answer.TheVariants.{Clean, Found, Hung, Open, Ended}
use Rattle.m161_explore.specs.Rules.{Rules}
use Rattle.m161_stores.specs.declared.storing.Sight.{Sight}
use Rattle.m161_stores.specs.declared.storing.Sight.TheVariants.{Store, Wrong}
use Rattle.m161_stores.specs.Runs.{is_word}

-- An exploration for a store to a word.

-- what ends it at an event: a store to the word, or else what is wrong with the event
abbrev pub store_verdict : ℕ → Option ℕ → Option EventVerdict → Option Sight
store_verdict word to wrong = if is_word word to then Some Store else option_map (λ what. Wrong what) wrong

-- the rules of the machine, but for what ends an exploration
unfoldable pub storing_rules : Question → ℕ → Rules Explored Sight Unknown
storing_rules q word = record {
  width = processors_of q + 2;
  start = start q;
  next = λ x n. next q x n;
  verdict = λ x n. store_verdict word (stored q x n) (verdict q x n);
  stop = λ x n. stop q x n;
  is_end = λ x. is_end q x;
  view = λ x. view q x;
}

-- what an event comes to that comes to this for the machine, where it may store to the word
abbrev pub sight_of : Bool → Advanced EventVerdict Unknown → Advanced Sight Unknown
sight_of stores Refused = Refused
sight_of stores Passed = if stores then Judged Store else Passed
sight_of stores (Judged what) = if stores then Judged Store else Judged (Wrong what)
sight_of stores (Stopped reason) = Stopped reason

-- how many states an exploration for a store may look at behind one with this answer, if there is anything to
-- be said
abbrev pub states_again : ℕ → Answer EventVerdict Unknown → Option ℕ
states_again limit (Clean states) = Some states
states_again limit (Found events what states) = None
states_again limit (Hung events states) = Some states
states_again limit (Open size) = Some limit
states_again limit (Ended reason) = None

-- it says that no Step stores to the word
abbrev pub says_unstored : Answer Sight Unknown → Bool
says_unstored (Clean states) = true
says_unstored (Found events Store states) = false
says_unstored (Found events (Wrong what) states) = true
says_unstored (Hung events states) = true
says_unstored (Open size) = true
says_unstored (Ended reason) = false
