use Rattle.std.proofs.Common.{◌≡◌, ◌∙◌, ◌++◌, ℕ, List, None, ap, sym, length, arith, string_bytes, append_assoc}
use Rattle.std.specs.Prelude.{slice_index_or}
use Rattle.std.proofs.lemmas.List.{append-nil}
use Rattle.m161_trace.specs.Items.{Item, each, link_items, linked_items, unlinked_item}
use Rattle.m161_trace.specs.Line.{spaced}
use Rattle.m161_trace.proofs.Spaced.{each_more, grown}
use Rattle.m161_trace.proofs.shared.add_links.Goals as goal

pub loop-q-init : goal.loop-q-init
loop-q-init g c = λ naming. c.in_ok-add_own_link.ensures naming ∙ ap (λ is. string_bytes c.args.text.now ++ spaced naming is) (sym (append-nil _))

pub loop-q-preserved : goal.loop-q-preserved
loop-q-preserved g c =
    let first = linked_items (slice_index_or c.args.before.now.state.links.live c.args.p None) (slice_index_or c.args.after.now.state.links.live c.args.p None) in
    let item : ℕ → List Item = unlinked_item c.args.before.now.state.links.live c.args.after.now.state.links.live in
    grown _ _ _ _ _ _
    (ap (λ is. first ++ is) (each_more 0 c.loop-q.q c.loop-q.q item (omega arith)) ∙ sym (append_assoc first (each 0 c.loop-q.q item) (item c.loop-q.q)))
    c.loop-q.invariant c.in_ok-add_unlinked.ensures

pub returns : goal.returns
unfolding link_items
returns g c =
    let first = linked_items (slice_index_or c.args.before.now.state.links.live c.args.p None) (slice_index_or c.args.after.now.state.links.live c.args.p None) in
    let item : ℕ → List Item = unlinked_item c.args.before.now.state.links.live c.args.after.now.state.links.live in
    let whole : c.loop-q.q ≡ length c.args.before.now.state.processors = omega (arith, c.processors-q-end.ensures) in
    λ naming. c.loop-q.invariant naming ∙ ap (λ n. string_bytes c.args.text.now ++ spaced naming (first ++ each 0 n item)) whole
