use Rattle.std.specs.Prelude.{option_map}
use Rattle.s161_search.specs.declared.inputs.Inputs.{Inputs}
use Rattle.s161_search.specs.Given.{Given}

-- what was read, as contracts see it
abbrev pub given_of : Inputs → Given
given_of inputs = record {
  file = inputs.file.items;
  first = inputs.first.events;
  conf = inputs.first.conf;
  keys = inputs.keys.items;
  all_keys = inputs.all_keys.items;
  watches = inputs.watches.items;
  never = inputs.never.items;
  output = option_map (λ bytes. bytes.items) inputs.output;
}
