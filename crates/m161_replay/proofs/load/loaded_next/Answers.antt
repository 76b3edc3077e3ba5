use Rattle.std.proofs.Common.{◌∙◌, ap, length, sym, List, ℕ}
use Rattle.std.specs.Prelude.{option_and_then}
use Rattle.m161_trace.specs.Loads.{word_around}
use Rattle.m161_replay.proofs.Loading.{no_word}
use Rattle.m161_replay.proofs.load.loaded_next.Goals as goal

pub loaded_address-requires-clause-word : goal.loaded_address-requires-clause-word
loaded_address-requires-clause-word g c = sym c.requires.fetch ∙ c.in-Some.is

pub returns-in-Some : goal.returns-in-Some
returns-in-Some g c =
    c.word_around.ensures ∙ ap (λ (m : List ℕ). option_and_then (word_around (length m)) c.loaded_address.result) c.memory.ensures
    ∙ c.loaded_address.ensures

pub returns-in-None : goal.returns-in-None
returns-in-None g c = no_word c.args.p c.args.core.now.state (sym c.requires.fetch ∙ c.in-None.is)
