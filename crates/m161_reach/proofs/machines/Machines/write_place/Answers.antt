use Rattle.std.proofs.Common.{◌≡◌, ◌∙◌, ap, sym, subst, arith, ◌++◌, ℕ, List, length}
use Rattle.m161_alike.specs.Addresses.{Cover}
use Rattle.std.specs.Prelude.{flat_map}
use Rattle.std.specs.List.{range_with_len}
use Rattle.m161_alike.specs.Words.{board_words, memory_words}
use Rattle.m161_alike.specs.WordsLaw.{words_at}
use Rattle.m161_states.specs.Question.{Question, booted, processors_of}
use Rattle.m161_states.specs.System.{Explored}
use Rattle.m161_states.specs.Views.{beside_words, counted}
use Rattle.m161_reach.proofs.Asked.{bytes_are}
use Rattle.m161_reach.proofs.Encoding.{in_parts, on_ok}
use Rattle.m161_reach.proofs.machines.Machines.write_place.Goals as goal

pub push_beside-requires : goal.push_beside-requires
push_beside-requires g c =
    let kept = c.requires.met.kept in
    let few = c.self.invariant.watches in
    let same = ap (λ (q : Question). length q.goal.watches) c.self.view_is in
    omega (arith, kept, few, same)

pub write_memory-requires-clause-size : goal.write_memory-requires-clause-size
write_memory-requires-clause-size g c =
    let bytes = bytes_are c.self.inside.boot.now.state c.self.inside.goal.now c.self.inside.known c.self.invariant in
    ap length (c.memory.ensures ∙ bytes)
    ∙ ap (λ (q : Question). length (booted q).bytes) c.self.view_is
    ∙ c.requires.met.valid.one.memory
    ∙ ap (λ (x : Explored). length x.state.memory) (sym c.place.view_is)

pub write_memory-requires-clause-cover : goal.write_memory-requires-clause-cover
write_memory-requires-clause-cover g c =
    let bytes = bytes_are c.self.inside.boot.now.state c.self.inside.goal.now c.self.inside.known c.self.invariant in
    let bytes_is : c.memory.result.now ≡ (booted c.args.self.now).bytes =
    c.memory.ensures ∙ bytes ∙ ap (λ (r : Question). (booted r).bytes) c.self.view_is in
    let memory_is : c.place.inside.core.state.memory ≡ c.args.place.now.state.memory = ap (λ (y : Explored). y.state.memory) c.place.view_is in
    subst (λ (m : List ℕ). Cover c.memory.result.now m c.args.changed.now) (sym memory_is)
    (subst (λ (b : List ℕ). Cover b c.args.place.now.state.memory c.args.changed.now) (sym bytes_is) c.requires.cover)

pub returns : goal.returns
returns g c =
    let old = c.args.words.now.items in
    let s = c.place.inside.core.state in
    let x = c.args.place.now in
    let q = c.args.self.now in
    let bytes = bytes_are c.self.inside.boot.now.state c.self.inside.goal.now c.self.inside.known c.self.invariant in
    let bytes_is : c.memory.result.now ≡ (booted q).bytes = c.memory.ensures ∙ bytes ∙ ap (λ (r : Question). (booted r).bytes) c.self.view_is in
    let number_is : length s.processors ≡ processors_of q =
    ap (λ (y : Explored). length y.state.processors) c.place.view_is ∙ c.requires.met.valid.shape.size_is ∙ sym c.requires.met.valid.one.processors in
    on_ok c.write_memory.result (λ is.
    is
    ∙ (λ i. c.in_ok-push_board.ensures i ++ memory_words c.memory.result.now s.memory)
    ∙ (λ i. (c.in_ok-push_beside.ensures i ++ counted (board_words s)) ++ memory_words c.memory.result.now s.memory)
    ∙ (λ i. ((c.in_ok-push_processors.ensures i ++ beside_words x) ++ counted (board_words s)) ++ memory_words c.memory.result.now s.memory)
    ∙ in_parts old (flat_map (words_at c.self.inside.known s) (range_with_len 0 (length s.processors))) (beside_words x) (counted (board_words s))
    (memory_words c.memory.result.now s.memory)
    ∙ (λ i. old ++ (flat_map (words_at (c.self.view_is i).known (c.place.view_is i).state) (range_with_len 0 (number_is i))
    ++ (beside_words x ++ (counted (board_words (c.place.view_is i).state) ++ memory_words (bytes_is i) (c.place.view_is i).state.memory))))) c.write_memory.ensures.ok
