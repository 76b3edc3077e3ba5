use Rattle.std.proofs.Common.{◌≡◌, ◌<◌, ◌∙◌, length, take, sym, inl, inr, arith}
use Rattle.std.proofs.lemmas.List.{length-set, length-take-le}
use Rattle.std.specs.Str.Iter.{chars_rest}
use Rattle.s161_base.proofs.Words.{ends_here, ends_with_text, inside_more, parts_more}
use Rattle.s161_base.proofs.excerpt.word_of.Goals as goal

pub returns-in_default : goal.returns-in_default
returns-in_default c =
    let so_far = c.loop-count.invariant in
    let long : length (take c.loop-count.count c.loop-count.characters) ≡ c.loop-count.count =
    length-take-le c.loop-count.count c.loop-count.characters (omega (arith, so_far.few, so_far.long)) in
    record {
      behind = chars_rest c.loop-count.left;
      parts = so_far.parts;
      inside = so_far.inside;
      few = omega (arith, long, so_far.few);
      whole = inr (ends_with_text (chars_rest c.loop-count.left) c.in_default.ensures.steps.0.0);
    }

pub returns-then-is_word_end : goal.returns-then-is_word_end
returns-then-is_word_end c =
    let so_far = c.loop-count.invariant in
    let long : length (take c.loop-count.count c.loop-count.characters) ≡ c.loop-count.count =
    length-take-le c.loop-count.count c.loop-count.characters (omega (arith, so_far.few, so_far.long)) in
    record {
      behind = chars_rest c.loop-count.left;
      parts = so_far.parts;
      inside = so_far.inside;
      few = omega (arith, long, so_far.few);
      whole = inr (ends_here c.in-Some.c (chars_rest c.loop-count.left) (chars_rest c.next.new.self)
          c.in-Some.ensures.steps.0 (sym c.is_word_end.ensures ∙ c.if-is_word_end.true));
    }

pub loop-count-preserved : goal.loop-count-preserved
loop-count-preserved c =
    let so_far = c.loop-count.invariant in
    let below : c.loop-count.count < length c.loop-count.characters = omega (arith, c.loop-count-test.true, so_far.long) in
    record {
      parts = parts_more c.loop-count.count c.loop-count.characters c.in-Some.c c.args.rest.now
          (chars_rest c.loop-count.left) (chars_rest c.next.new.self) below so_far.parts c.in-Some.ensures.steps.0;
      inside = inside_more c.loop-count.count c.loop-count.characters c.in-Some.c below so_far.inside
          (sym c.is_word_end.ensures ∙ c.if-is_word_end.false);
      few = omega (arith, c.loop-count-test.true);
      long = omega (arith, length-set c.loop-count.characters c.loop-count.count c.in-Some.c, so_far.long);
    }

pub returns : goal.returns
returns c =
    let so_far = c.loop-count.invariant in
    let long : length (take c.loop-count.count c.loop-count.characters) ≡ c.loop-count.count =
    length-take-le c.loop-count.count c.loop-count.characters (omega (arith, so_far.few, so_far.long)) in
    record {
      behind = chars_rest c.loop-count.left;
      parts = so_far.parts;
      inside = so_far.inside;
      few = omega (arith, long, so_far.few);
      whole = inl (omega (arith, long, so_far.few, c.loop-count-test.false));
    }
