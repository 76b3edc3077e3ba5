use Rattle.std.proofs.Common.{◌≡◌, ℕ, ◌+◌, List, ◌∷◌, ◌++◌, drop, arith, sym, ◌∙◌, ap, append_assoc}
use Rattle.std.proofs.lemmas.List.{at_drop_more}
use Rattle.m161_asm.specs.Segments.{segment_seen, segments_seen}
use Rattle.m161_asm.specs.Text.{Segment}
use Rattle.m161_elf_writer.specs.Written.{segment_header, segment_headers, size}
use Rattle.m161_elf_writer.proofs.writer.push_segment_headers.Goals as goal

-- One header more before the headers that are left.
header_more : (before after : List ℕ) (offset next : ℕ) (s : Segment) (left : List Segment)
    → after ≡ before ++ segment_header offset s → next ≡ offset + size s
    → after ++ segment_headers next left ≡ before ++ segment_headers offset (s ∷ left)
header_more before after offset next s left e f =
    rw (e, f) (append_assoc before (segment_header offset s)
    (segment_headers (offset + size s) left))

pub loop-segment-preserved : goal.loop-segment-preserved
loop-segment-preserved c =
    let ss = c.args.segments.now in
    let i = c.loop-segment.segment-index in
    let s = c.segment-item.result in
    let rest = segments_seen (drop (i + 1) ss) in
    let left : segments_seen (drop i ss) ≡ segment_seen s ∷ rest =
    at_drop_more segments_seen ss i s c.loop-segment-test.true
    ∙ ap (λ x. segment_seen x ∷ rest) (sym c.segment-item.is) in
    let before = rw left at c.loop-segment.invariant in
    let next = c.in_ok-offset.ensures.next in (
      header_more _ _ _ _ (segment_seen s) rest c.in_ok-offset.ensures.header next
          ∙ before.0,
      omega (arith, before.1, next),
    )
