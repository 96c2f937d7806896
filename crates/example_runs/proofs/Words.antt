-- What the words of the examples ask for, by computing.
use Rattle.std.proofs.Common.{codes, ◌≡◌, ℕ, None, Some, refl, arith}
use Rattle.clap.proofs.OnLiterals.{clap_on_literals}
use Rattle.command_words.specs.Command.{HasForm, option_in}
use Rattle.command_words.specs.declared.request.Mode.TheVariants as modes
use Rattle.command_words.specs.Requests.{AsksFor, Wanted}
use Rattle.example_runs.specs.Examples.{default_words, words}

-- the last stage is this one, and the limits are those that are not given
abbrev pub wanted_with : ℕ → Wanted
wanted_with stages = record {
  property = codes "p.toml";
  stubs = None;
  class = codes "F";
  method = codes "main";
  stages = stages;
  depth = 2;
  fact_limit = 50000;
  pair_limit = 20000000;
  mode = modes.Report;
}

-- ---- with the last stage

has_form : HasForm words
unfolding clap_on_literals
has_form = refl

gives_property : option_in words (codes "property") ≡ Some (codes "p.toml")
unfolding clap_on_literals
gives_property = refl

pub asks : AsksFor words (wanted_with 1)
unfolding clap_on_literals
asks = record {
  command = record { form = has_form; entry = codes "F.main"; given = refl; names = record { parts = refl; last = refl } };
  property = gives_property;
  stubs = refl;
  stages = record { some = omega arith; few = omega arith; digits = refl; value = refl; at_least = omega arith; at_most = omega arith };
  depth = refl;
  fact_limit = refl;
  pair_limit = refl;
  mode = (refl, refl, refl);
}

-- ---- without it

has_default_form : HasForm default_words
unfolding clap_on_literals
has_default_form = refl

gives_default_property : option_in default_words (codes "property") ≡ Some (codes "p.toml")
unfolding clap_on_literals
gives_default_property = refl

pub asks_by_default : AsksFor default_words (wanted_with 4)
unfolding clap_on_literals
asks_by_default = record {
  command = record { form = has_default_form; entry = codes "F.main"; given = refl; names = record { parts = refl; last = refl } };
  property = gives_default_property;
  stubs = refl;
  stages = refl;
  depth = refl;
  fact_limit = refl;
  pair_limit = refl;
  mode = (refl, refl, refl);
}
