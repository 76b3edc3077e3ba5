use Rattle.std.proofs.Common.{◌≡◌, ◌∙◌, ap, sym, ℕ, Bool, true, false, Option, None, Some}
use Rattle.std.specs.Prelude.{if◌then◌else◌, option_map}
use Rattle.m161_states.specs.declared.verdict.Unknown.{Unknown}
use Rattle.m161_states.specs.declared.verdict.EventVerdict.{EventVerdict}
use Rattle.m161_states.specs.Question.{Question}
use Rattle.m161_states.specs.System.{Explored, event_of, next, stored, stored_if, stored_of}
use Rattle.m161_states.specs.Verdicts.{verdict}
use Rattle.m161_explore.specs.declared.system.Advanced.{Advanced}
use Rattle.m161_explore.specs.declared.system.Advanced.TheVariants.{Refused, Passed, Judged, Stopped}
use Rattle.m161_explore.specs.Rules.{Advances}
use Rattle.m161_reach.specs.Reach.{IsMet, rules_of}
use Rattle.m161_stores.specs.declared.storing.Sight.TheVariants.{Store, Wrong}
use Rattle.m161_stores.specs.Runs.{is_word}
use Rattle.m161_stores.specs.helpers.Storing.{sight_of, store_verdict, storing_rules}

-- An event in an exploration for a store.

-- what ends it at an accepted event
ends_with : (q : Question) (word : ℕ) (x u : Explored) (n : ℕ) (stores : Bool) (v : Option EventVerdict) → stores ≡ is_word word (stored_of (event_of q x n) x.state) →
    next q x n ≡ Some u → verdict q x n ≡ v →
    store_verdict word (stored q x n) (verdict q x n) ≡ (if stores then Some Store else option_map (λ what. Wrong what) v)
ends_with q word x u n stores v is went wrong =
    let to = stored_of (event_of q x n) x.state in
    let same : is_word word (stored q x n) ≡ stores = ap (λ o. is_word word (stored_if o to)) went ∙ sym is in
    λ i. if same i then Some Store else option_map (λ what. Wrong what) (wrong i)

pub advances : (q : Question) (word : ℕ) (x t : Explored) (n : ℕ) (stores : Bool) (came : Advanced EventVerdict Unknown) →
    stores ≡ is_word word (stored_of (event_of q x n) x.state) → Advances (rules_of q) (IsMet q) x n t came →
    Advances (storing_rules q word) (IsMet q) x n t (sight_of stores came)
unfolding rules_of storing_rules
advances q word x t n stores Refused is h = h
advances q word x t n true Passed is h = (h.0, h.1, h.2, ends_with q word x h.0 n true None is h.2 h.3)
advances q word x t n false Passed is h = (h.0, h.1, h.2, ends_with q word x h.0 n false None is h.2 h.3, h.4, h.5)
advances q word x t n true (Judged what) is h = (h.0, h.1, h.2, ends_with q word x h.0 n true (Some what) is h.2 h.3)
advances q word x t n false (Judged what) is h = (h.0, h.1, h.2, ends_with q word x h.0 n false (Some what) is h.2 h.3)
advances q word x t n stores (Stopped reason) is h = h
