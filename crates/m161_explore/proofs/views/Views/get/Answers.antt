use Rattle.std.proofs.Common.{◌≡◌, ℕ, ◌<◌, List, [], ap, arith, length, subst, sym, ◌∙◌}
use Rattle.std.specs.Prelude.{OnOk, slice_index_or}
use Rattle.m161_explore.specs.helpers.Pieces.{joined, piece_size}
use Rattle.m161_explore.proofs.Pieces.{each_at, length-each, spells_within}
use Rattle.m161_explore.proofs.views.Views.get.Goals as goal

pub get-requires : goal.get-requires
get-requires c =
    let n = length-each c.self.inside.pieces c.self.inside.lists in
    let v = ap length c.self.view_is in omega arith

pub join-requires : goal.join-requires
join-requires c =
    let n = length-each c.self.inside.pieces c.self.inside.lists in
    let v = ap length c.self.view_is in
    let within : c.args.index < length c.self.inside.lists = omega arith in
    let P : List ℕ → Type 0 = λ x. (i : ℕ) → i < length x → slice_index_or x i 0 < length c.self.inside.pieces in
    subst P (sym c.get.ensures) (λ i l. spells_within piece_size c.self.inside.pieces (slice_index_or c.self.inside.lists c.args.index []) _ i (c.self.invariant.spelled c.args.index within) l)

pub returns : goal.returns
returns c =
    let P : List ℕ → Type 0 = λ x. OnOk c.join.result (c.join.new.words.items ≡ x) in
    subst P (ap (λ x. joined c.self.inside.pieces x) c.get.ensures ∙ each_at c.self.inside.pieces c.self.inside.lists c.args.index ∙ ap (λ x. slice_index_or x c.args.index []) c.self.view_is) c.join.ensures
