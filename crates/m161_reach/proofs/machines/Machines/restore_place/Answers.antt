use Rattle.std.proofs.Common.{◌≡◌, ◌∙◌, ap, refl, sym, subst, arith, ◌++◌, ◌+◌, ◌*◌, ◌<◌, ℕ, List, length}
use Rattle.std.proofs.lemmas.List.{length-append}
use Rattle.m161_judge.specs.Verdict.{Criteria}
use Rattle.m161_alike.specs.Addresses.{Cover, addresses_in}
use Rattle.m161_alike.specs.Words.{memory_words}
use Rattle.m161_alike.proofs.Covering.{cover_told}
use Rattle.m161_states.specs.Question.{Question, booted, processors_of}
use Rattle.m161_states.specs.System.{Explored, fresh, start}
use Rattle.m161_states.specs.Views.{beside_words, counted, view}
use Rattle.m161_reach.specs.helpers.Restore.{AreWordsFrom}
use Rattle.m161_reach.specs.Reach.{IsMet}
use Rattle.m161_reach.proofs.Asked.{bytes_are, processors_are}
use Rattle.m161_reach.proofs.Encoding.{on_ok}
use Rattle.m161_reach.proofs.Handled.{one_conf, placed_is, shaped_again}
use Rattle.m161_reach.proofs.Placing.{beside_size, board_long, board_part, first_size, first_words, kept_from, memory_part, placed, rest_size, words_from}
use Rattle.m161_reach.proofs.machines.Machines.restore_place.Goals as goal

pub split-first-requires : goal.split-first-requires
split-first-requires g c =
    let q = c.args.self.now in
    let x = c.requires.view.0 in
    let h = c.requires.view.1 in
    let is = c.requires.view.2 in
    let number : c.processors-number.result ≡ processors_of q =
    c.processors-number.ensures ∙ c.law.ensures.number
    ∙ processors_are c.self.inside.boot.now.state c.self.inside.goal.now c.self.inside.known c.self.invariant
    ∙ ap processors_of c.self.view_is in
    let size = rest_size q x c.args.words.now is h in
    omega (arith, size, number)

pub split-second-requires : goal.split-second-requires
split-second-requires g c =
    let q = c.args.self.now in
    let x = c.requires.view.0 in
    let h = c.requires.view.1 in
    let is = c.requires.view.2 in
    let number : c.processors-number.result ≡ processors_of q =
    c.processors-number.ensures ∙ c.law.ensures.number
    ∙ processors_are c.self.inside.boot.now.state c.self.inside.goal.now c.self.inside.known c.self.invariant
    ∙ ap processors_of c.self.view_is in
    let first = c.split-first.ensures (first_words q x) (beside_words x ++ (counted (board_part x) ++ memory_part q x))
    (first_size q x ∙ ap (λ n. 245 * n) (sym number)) (sym is) in
    let watches : length c.goal.inside.watches.now ≡ length q.goal.watches =
    ap (λ (k : Criteria). length k.watches) c.goal.view_is ∙ ap (λ (r : Question). length r.goal.watches) c.self.view_is in
    let all = ap length first.1 in
    let both = length-append (beside_words x) (counted (board_part x) ++ memory_part q x) in
    let size = beside_size q x h in
    omega (arith, all, both, size, watches)

pub split_counted-third-requires : goal.split_counted-third-requires
split_counted-third-requires g c =
    let q = c.args.self.now in
    let x = c.requires.view.0 in
    let h = c.requires.view.1 in
    let is = c.requires.view.2 in
    let number : c.processors-number.result ≡ processors_of q =
    c.processors-number.ensures ∙ c.law.ensures.number
    ∙ processors_are c.self.inside.boot.now.state c.self.inside.goal.now c.self.inside.known c.self.invariant
    ∙ ap processors_of c.self.view_is in
    let first = c.split-first.ensures (first_words q x) (beside_words x ++ (counted (board_part x) ++ memory_part q x))
    (first_size q x ∙ ap (λ n. 245 * n) (sym number)) (sym is) in
    let watches : length c.goal.inside.watches.now ≡ length q.goal.watches =
    ap (λ (k : Criteria). length k.watches) c.goal.view_is ∙ ap (λ (r : Question). length r.goal.watches) c.self.view_is in
    let second = c.split-second.ensures (beside_words x) (counted (board_part x) ++ memory_part q x)
    (beside_size q x h ∙ ap (λ n. 4 + 2 * n) (sym watches)) first.1 in
    (board_part x, memory_part q x, second.1)

pub read_beside-requires : goal.read_beside-requires
read_beside-requires g c =
    let q = c.args.self.now in
    let x = c.requires.view.0 in
    let h = c.requires.view.1 in
    let is = c.requires.view.2 in
    let number : c.processors-number.result ≡ processors_of q =
    c.processors-number.ensures ∙ c.law.ensures.number
    ∙ processors_are c.self.inside.boot.now.state c.self.inside.goal.now c.self.inside.known c.self.invariant
    ∙ ap processors_of c.self.view_is in
    let first = c.split-first.ensures (first_words q x) (beside_words x ++ (counted (board_part x) ++ memory_part q x))
    (first_size q x ∙ ap (λ n. 245 * n) (sym number)) (sym is) in
    let watches : length c.goal.inside.watches.now ≡ length q.goal.watches =
    ap (λ (k : Criteria). length k.watches) c.goal.view_is ∙ ap (λ (r : Question). length r.goal.watches) c.self.view_is in
    let second = c.split-second.ensures (beside_words x) (counted (board_part x) ++ memory_part q x)
    (beside_size q x h ∙ ap (λ n. 4 + 2 * n) (sym watches)) first.1 in
    let all = ap length second.0 in
    let size = beside_size q x h in
    omega (arith, all, size)

pub remake-requires-clause-shape : goal.remake-requires-clause-shape
remake-requires-clause-shape g c =
    let q = c.args.self.now in
    let old = subst (IsMet q) (sym c.place.view_is) c.requires.met in
    shaped_again c.place.inside.core.state old.valid.shape

pub remake-requires-clause-processors : goal.remake-requires-clause-processors
remake-requires-clause-processors g c =
    let q = c.args.self.now in
    let x = c.requires.view.0 in
    let h = c.requires.view.1 in
    let is = c.requires.view.2 in
    let number : c.processors-number.result ≡ processors_of q =
    c.processors-number.ensures ∙ c.law.ensures.number
    ∙ processors_are c.self.inside.boot.now.state c.self.inside.goal.now c.self.inside.known c.self.invariant
    ∙ ap processors_of c.self.view_is in
    let first = c.split-first.ensures (first_words q x) (beside_words x ++ (counted (board_part x) ++ memory_part q x))
    (first_size q x ∙ ap (λ n. 245 * n) (sym number)) (sym is) in
    let watches : length c.goal.inside.watches.now ≡ length q.goal.watches =
    ap (λ (k : Criteria). length k.watches) c.goal.view_is ∙ ap (λ (r : Question). length r.goal.watches) c.self.view_is in
    let old = subst (IsMet q) (sym c.place.view_is) c.requires.met in
    let size : length c.place.inside.core.state.processors ≡ processors_of q = old.valid.shape.size_is ∙ sym old.valid.one.processors in
    let all = ap length first.0 in
    let words = first_size q x in
    omega (arith, size, all, words)

pub remake-requires-clause-board : goal.remake-requires-clause-board
remake-requires-clause-board g c =
    let q = c.args.self.now in
    let x = c.requires.view.0 in
    let h = c.requires.view.1 in
    let is = c.requires.view.2 in
    let number : c.processors-number.result ≡ processors_of q =
    c.processors-number.ensures ∙ c.law.ensures.number
    ∙ processors_are c.self.inside.boot.now.state c.self.inside.goal.now c.self.inside.known c.self.invariant
    ∙ ap processors_of c.self.view_is in
    let first = c.split-first.ensures (first_words q x) (beside_words x ++ (counted (board_part x) ++ memory_part q x))
    (first_size q x ∙ ap (λ n. 245 * n) (sym number)) (sym is) in
    let watches : length c.goal.inside.watches.now ≡ length q.goal.watches =
    ap (λ (k : Criteria). length k.watches) c.goal.view_is ∙ ap (λ (r : Question). length r.goal.watches) c.self.view_is in
    let second = c.split-second.ensures (beside_words x) (counted (board_part x) ++ memory_part q x)
    (beside_size q x h ∙ ap (λ n. 4 + 2 * n) (sym watches)) first.1 in
    let third = c.split_counted-third.ensures (board_part x) (memory_part q x) second.1 in
    let old = subst (IsMet q) (sym c.place.view_is) c.requires.met in
    let size : length c.place.inside.core.state.processors ≡ processors_of q = old.valid.shape.size_is ∙ sym old.valid.one.processors in
    let all = ap length third.0 in
    let long = board_long q x h in
    omega (arith, size, all, long)

pub remake-requires-clause-boot : goal.remake-requires-clause-boot
remake-requires-clause-boot g c =
    let q = c.args.self.now in
    let old = subst (IsMet q) (sym c.place.view_is) c.requires.met in
    let bytes = bytes_are c.self.inside.boot.now.state c.self.inside.goal.now c.self.inside.known c.self.invariant in
    ap length (c.memory.ensures ∙ bytes) ∙ ap (λ (r : Question). length (booted r).bytes) c.self.view_is ∙ old.valid.one.memory

pub remake-requires-clause-cover : goal.remake-requires-clause-cover
remake-requires-clause-cover g c =
    let q = c.args.self.now in
    let bytes = bytes_are c.self.inside.boot.now.state c.self.inside.goal.now c.self.inside.known c.self.invariant in
    let bytes_is : c.memory.result.now ≡ (booted q).bytes = c.memory.ensures ∙ bytes ∙ ap (λ (r : Question). (booted r).bytes) c.self.view_is in
    let memory_is : c.place.inside.core.state.memory ≡ c.args.place.now.state.memory = ap (λ (y : Explored). y.state.memory) c.place.view_is in
    subst (λ (l : List ℕ). Cover c.memory.result.now c.place.inside.core.state.memory l) (sym c.deref.ensures.value)
    (subst (λ (m : List ℕ). Cover c.memory.result.now m c.args.changed.now.items) (sym memory_is)
    (subst (λ (b : List ℕ). Cover b c.args.place.now.state.memory c.args.changed.now.items) (sym bytes_is) c.requires.cover))

pub returns-clause-view : goal.returns-clause-view
returns-clause-view g c =
    let q = c.args.self.now in
    let x = c.requires.view.0 in
    let h = c.requires.view.1 in
    let is = c.requires.view.2 in
    let number : c.processors-number.result ≡ processors_of q =
    c.processors-number.ensures ∙ c.law.ensures.number
    ∙ processors_are c.self.inside.boot.now.state c.self.inside.goal.now c.self.inside.known c.self.invariant
    ∙ ap processors_of c.self.view_is in
    let first = c.split-first.ensures (first_words q x) (beside_words x ++ (counted (board_part x) ++ memory_part q x))
    (first_size q x ∙ ap (λ n. 245 * n) (sym number)) (sym is) in
    let watches : length c.goal.inside.watches.now ≡ length q.goal.watches =
    ap (λ (k : Criteria). length k.watches) c.goal.view_is ∙ ap (λ (r : Question). length r.goal.watches) c.self.view_is in
    let second = c.split-second.ensures (beside_words x) (counted (board_part x) ++ memory_part q x)
    (beside_size q x h ∙ ap (λ n. 4 + 2 * n) (sym watches)) first.1 in
    let third = c.split_counted-third.ensures (board_part x) (memory_part q x) second.1 in
    let old = subst (IsMet q) (sym c.place.view_is) c.requires.met in
    let bytes = bytes_are c.self.inside.boot.now.state c.self.inside.goal.now c.self.inside.known c.self.invariant in
    let bytes_is : c.memory.result.now ≡ (booted q).bytes = c.memory.ensures ∙ bytes ∙ ap (λ (r : Question). (booted r).bytes) c.self.view_is in
    let one = one_conf (start q).state c.place.inside.core.state x.state old.valid.one h.valid.one in
    let from = subst (AreWordsFrom q.known x.state) (sym first.0) (words_from q x h) in
    let memory = third.1 ∙ ap (λ (m : List _). memory_words m x.state.memory) (sym bytes_is) in
    let kept = kept_from q _ c.place.inside.core.state c.args.before.now old refl
    (subst (λ (z : Explored). 0 < length c.args.before.now → c.args.before.now ≡ view q z) (sym c.place.view_is) c.requires.before) in
    let remade = c.in_ok-remake.ensures q.known x.state h.valid.shape one kept from third.0 memory in
    let ps = c.remake.new.core.state.processors in
    let made = remade.1 in
    let beside = c.in_ok-typed.ensures x second.0 in
    let y : Explored = record {
      state = fresh c.remake.new.core.state;
      typed = c.in_ok-typed.typed;
      flags = c.in_ok-typed.kept.items;
      agreed = c.in_ok-typed.agreed;
    } in
    on_ok c.read_addresses.result (λ done. placed q x y ps c.args.words.now remade.0 h is (λ i. record { state = made i; typed = beside.0 i; flags = beside.2 i; agreed = beside.1 i })) c.read_addresses.ensures

pub returns-clause-cover : goal.returns-clause-cover
returns-clause-cover g c =
    let q = c.args.self.now in
    let x = c.requires.view.0 in
    let h = c.requires.view.1 in
    let is = c.requires.view.2 in
    let number : c.processors-number.result ≡ processors_of q =
    c.processors-number.ensures ∙ c.law.ensures.number
    ∙ processors_are c.self.inside.boot.now.state c.self.inside.goal.now c.self.inside.known c.self.invariant
    ∙ ap processors_of c.self.view_is in
    let first = c.split-first.ensures (first_words q x) (beside_words x ++ (counted (board_part x) ++ memory_part q x))
    (first_size q x ∙ ap (λ n. 245 * n) (sym number)) (sym is) in
    let watches : length c.goal.inside.watches.now ≡ length q.goal.watches =
    ap (λ (k : Criteria). length k.watches) c.goal.view_is ∙ ap (λ (r : Question). length r.goal.watches) c.self.view_is in
    let second = c.split-second.ensures (beside_words x) (counted (board_part x) ++ memory_part q x)
    (beside_size q x h ∙ ap (λ n. 4 + 2 * n) (sym watches)) first.1 in
    let third = c.split_counted-third.ensures (board_part x) (memory_part q x) second.1 in
    let old = subst (IsMet q) (sym c.place.view_is) c.requires.met in
    let bytes = bytes_are c.self.inside.boot.now.state c.self.inside.goal.now c.self.inside.known c.self.invariant in
    let bytes_is : c.memory.result.now ≡ (booted q).bytes = c.memory.ensures ∙ bytes ∙ ap (λ (r : Question). (booted r).bytes) c.self.view_is in
    let one = one_conf (start q).state c.place.inside.core.state x.state old.valid.one h.valid.one in
    let from = subst (AreWordsFrom q.known x.state) (sym first.0) (words_from q x h) in
    let memory = third.1 ∙ ap (λ (m : List _). memory_words m x.state.memory) (sym bytes_is) in
    let kept = kept_from q _ c.place.inside.core.state c.args.before.now old refl
    (subst (λ (z : Explored). 0 < length c.args.before.now → c.args.before.now ≡ view q z) (sym c.place.view_is) c.requires.before) in
    let remade = c.in_ok-remake.ensures q.known x.state h.valid.shape one kept from third.0 memory in
    let ps = c.remake.new.core.state.processors in
    let made = remade.1 in
    let beside = c.in_ok-typed.ensures x second.0 in
    let y : Explored = record {
      state = fresh c.remake.new.core.state;
      typed = c.in_ok-typed.typed;
      flags = c.in_ok-typed.kept.items;
      agreed = c.in_ok-typed.agreed;
    } in
    let same = placed_is x y ps (λ i. record { state = made i; typed = beside.0 i; flags = beside.2 i; agreed = beside.1 i }) in
    on_ok c.read_addresses.result (λ items. subst (λ (l : List ℕ). Cover (booted q).bytes y.state.memory l) (sym items)
    (subst (λ (l : List ℕ). Cover (booted q).bytes y.state.memory (addresses_in l)) (sym third.1)
    (subst (λ (m : List ℕ). Cover (booted q).bytes m (addresses_in (memory_part q x))) (sym same) (cover_told (booted q).bytes x.state.memory)))) c.read_addresses.ensures
