use Rattle.std.proofs.Common.{◌≡◌, ◌∙◌, ap, sym, subst, ◌%◌, List, length}
use Rattle.std.specs.Prelude.{All}
use Rattle.m161_cpu.specs.Processor.{Processor}
use Rattle.m161_alike.specs.Words.{HasSizes}
use Rattle.m161_machine.specs.State.{State}
use Rattle.m161_machine.specs.Restore.{with_made}
use Rattle.m161_alike.specs.RestoredBoard.{with_board_of}
use Rattle.m161_states.specs.System.{fresh}
use Rattle.m161_reach.specs.helpers.Restore.{AreAsIn, state_with, with_processors}
use Rattle.m161_reach.proofs.Encoding.{on_ok}
use Rattle.m161_reach.proofs.Remaking.{kept_same, one_board, remade_is}
use Rattle.m161_reach.proofs.RemakingMemory.{AreWords32, bytes_fit, bytes_told, words_fit}
use Rattle.m161_reach.proofs.restore.remake.Goals as goal

pub returns : goal.returns
returns g c =
    let old = c.args.core.now.state in
    let boot = c.args.boot.now in
    let made = c.count_ticks.new.core.state.made in
    on_ok c.remake_board.result (λ view. λ known s shape one kept from board memory.
    let boot_size = c.requires.boot in
    let whole : length boot % 4 ≡ 0 = ap (λ n. n % 4) boot_size ∙ c.requires.shape.whole in
    let size : length boot ≡ length s.memory = boot_size ∙ one.memory in
    let words32 = subst AreWords32 memory (words_fit c.args.memory.now c.type_inv.memory) in
    let boot_fits = bytes_fit boot c.type_inv.boot in
    let bytes = bytes_told boot s.memory boot_fits shape.bytes shape.whole size words32 in
    let first = c.read_memory.ensures.view s.memory (record { boot_bytes = (boot_fits, whole); bytes = bytes; size_is = sym size; words_are = memory }) in
    let second = c.count_ticks.ensures.state ∙ ap (with_made made) first in
    let same : c.count_ticks.new.core.state.processors ≡ old.processors = ap (λ (t : State). t.processors) second in
    let number : length s.processors ≡ length c.count_ticks.new.core.state.processors =
    shape.size_is ∙ sym one.processors ∙ sym c.requires.shape.size_is ∙ sym (ap length same) in
    let ps = c.remake_processors.new.core.state.processors in
    let done = c.in_ok-remake_processors.ensures in
    let alike = done.view known s shape (subst (All HasSizes) (sym same) c.requires.shape.processors) number (kept_same known old c.count_ticks.new.core.state c.args.kept.now same kept) from in
    let third = done.rest ∙ ap (with_processors ps) second in
    let fourth = view s (one_board ps made s.memory old s c.remake_processors.new.core.state (done.number ∙ ap length same) c.requires.shape shape one third) board in
    let all = fourth ∙ ap (with_board_of s) third in
    let ps_are : c.remake_board.new.core.state.processors ≡ ps = ap (λ (t : State). t.processors) all in (
      subst (AreAsIn known s) (sym ps_are) alike,
      ap fresh all ∙ remade_is ps made old s one ∙ sym (ap (λ (l : List Processor). state_with l s) ps_are),
    )) c.remake_board.ensures

pub read_memory-requires-clause-whole : goal.read_memory-requires-clause-whole
read_memory-requires-clause-whole g c = ap (λ n. n % 4) c.requires.boot ∙ c.requires.shape.whole
