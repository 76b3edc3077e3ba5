use Rattle.std.proofs.Common.{◌≡◌, ◌-◌, ◌≤◌, true, not, ◌++◌, length, take, encode_utf8_all}
use Rattle.std.specs.List.{list_all}
use Rattle.std.specs.Str.Iter.{chars_rest}
use Rattle.s161_base.specs.Excerpts.{is_word_end}
use Rattle.s161_base.proofs.excerpt.word_of.Given as goal

-- the characters so far are the first of the line's rest, and none of them ends it
abbrev pub invariant-loop-count : goal.invariant-loop-count
invariant-loop-count l =
    record {
      parts : l.fn.rest ≡ encode_utf8_all (take l.count l.characters) ++ chars_rest l.left;
      inside : list_all (λ c. not (is_word_end c)) (take l.count l.characters) ≡ true;
      few : l.count ≤ 40;
      long : length l.characters ≡ 40;
    }

abbrev pub decreases-loop-count : goal.decreases-loop-count
decreases-loop-count l = 40 - l.count
