use Rattle.std.proofs.Common.{refl}
use Rattle.m161_alike.specs.View.{processor_view}
use Rattle.m161_alike.proofs.Written.{same_processor}
use Rattle.m161_alike.proofs.processor.words_tell_a_processor.Goals as goal

pub returns : goal.returns
returns c = λ known other p q a b e.
    same_processor (processor_view known p) (processor_view other q) a b refl refl e
