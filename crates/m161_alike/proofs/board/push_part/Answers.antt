use Rattle.std.proofs.Common.{◌∙◌, ◌++◌, ◌∷◌, [], None, ap}
use Rattle.std.specs.Prelude.{slice_index_or}
use Rattle.m161_bus.specs.Board.{place_of}
use Rattle.m161_alike.specs.Words.{cram_words, flag, optional}
use Rattle.m161_alike.proofs.Written.{joined}
use Rattle.m161_alike.proofs.board.push_part.Goals as goal

pub returns-clause-ok : goal.returns-clause-ok
returns-clause-ok g c =
    let s = c.args.core.now.state in
    let place = place_of c.args.p s.board in
    joined c.args.out.now.items c.extend_from_slice.new.self.items c.extend_from_slice-3.new.self.items
    (place.cirqe ∷ flag place.cipi ∷ []) (optional (slice_index_or s.links.live c.args.p None) ++ cram_words place)
    (c.in_ok-extend_from_slice.ensures.items
    ∙ (λ i. c.args.out.now.items ++ c.board_word.ensures i ∷ c.board_word-2.ensures i ∷ []))
    (joined c.extend_from_slice.new.self.items c.extend_from_slice-2.new.self.items c.extend_from_slice-3.new.self.items
    (optional (slice_index_or s.links.live c.args.p None)) (cram_words place)
    (c.in_ok-extend_from_slice-2.ensures.items
    ∙ ap (λ l. c.extend_from_slice.new.self.items ++ l) (c.optional.ensures ∙ ap optional c.link.ensures))
    (c.in_ok-extend_from_slice-3.ensures.items ∙ ap (λ l. c.extend_from_slice-2.new.self.items ++ l) c.cram.ensures))
