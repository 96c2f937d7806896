-- This crate's own proofs alone rest on this module.
-- The values that words give to the options, what these ask for, and what is wrong with them.
use Rattle.std.specs.Prelude.{codes, ◌≡◌, ℕ, true, false, List, Option, Some, option_map}
use Rattle.command_words.specs.declared.command.ModeValues.{ModeValues}
use Rattle.command_words.specs.declared.command.OptionValues.{OptionValues}
use Rattle.command_words.specs.declared.fault.NumberOption.{NumberOption}
use Rattle.command_words.specs.declared.fault.NumberOption.TheVariants.{Stages, Depth, FactLimit, PairLimit, Sample}
use Rattle.command_words.specs.declared.fault.UsageFault.{UsageFault}
use Rattle.command_words.specs.declared.fault.UsageFault.TheVariants.{Words, Modes, Range}
use Rattle.command_words.specs.declared.request.Mode.{Mode}
use Rattle.command_words.specs.declared.request.Numbers.{Numbers}
use Rattle.command_words.specs.Command.{HasForm, option_in}
use Rattle.command_words.specs.Requests.{NamesMethod, NumberRule, IsModeBy, IsNumberBy, ModeOptions, Wanted, are_two_modes, mode_options, stages_rule, depth_rule, fact_limit_rule, pair_limit_rule, sample_rule}

-- The values: those of the property file and of the entry, and the others where they are given.
pub record Given : Type 0 where
  pub property : List ℕ
  pub start : List ℕ
  pub stubs : Option (List ℕ)
  pub stages : Option (List ℕ)
  pub depth : Option (List ℕ)
  pub fact_limit : Option (List ℕ)
  pub pair_limit : Option (List ℕ)
  pub modes : ModeOptions

-- The values that the options of modes have.
abbrev pub modes_of : ModeValues → ModeOptions
modes_of v = record { trace = option_map (λ s. s.now) v.trace; certificate = option_map (λ s. s.now) v.certificate; sample = option_map (λ s. s.now) v.sample }

-- The values that the options have.
abbrev pub given_of : OptionValues → Given
given_of v = record {
  property = v.property.now;
  start = v.start.now;
  stubs = option_map (λ s. s.now) v.stubs;
  stages = option_map (λ s. s.now) v.stages;
  depth = option_map (λ s. s.now) v.depth;
  fact_limit = option_map (λ s. s.now) v.fact_limit;
  pair_limit = option_map (λ s. s.now) v.pair_limit;
  modes = modes_of v.modes;
}

-- The words are of the command's form, and give these values.
pub record Gives (words : List (List ℕ)) (g : Given) : Type 0 where
  pub form : HasForm words
  pub property : option_in words (codes "property") ≡ Some g.property
  pub start : option_in words (codes "entry") ≡ Some g.start
  pub stubs : option_in words (codes "stubs") ≡ g.stubs
  pub stages : option_in words (codes "stages") ≡ g.stages
  pub depth : option_in words (codes "depth") ≡ g.depth
  pub fact_limit : option_in words (codes "fact-limit") ≡ g.fact_limit
  pub pair_limit : option_in words (codes "pair-limit") ≡ g.pair_limit
  pub modes : mode_options words ≡ g.modes

-- ---- numbers

-- The rule of an option.
abbrev pub rule_for : NumberOption → NumberRule
rule_for Stages = stages_rule
rule_for Depth = depth_rule
rule_for FactLimit = fact_limit_rule
rule_for PairLimit = pair_limit_rule
rule_for Sample = sample_rule

-- The value has a number by the rule.
abbrev pub HasBy : NumberRule → Option (List ℕ) → Type 0
HasBy r value = (n : ℕ) × IsNumberBy r value n

-- It has none.
abbrev pub LacksBy : NumberRule → Option (List ℕ) → Type 0
LacksBy r value = (n : ℕ) → IsNumberBy r value n → ⊥

-- The numbers are those of the values.
pub record AreNumbers (g : Given) (n : Numbers) : Type 0 where
  pub stages : IsNumberBy stages_rule g.stages n.stages
  pub depth : IsNumberBy depth_rule g.depth n.depth
  pub fact_limit : IsNumberBy fact_limit_rule g.fact_limit n.fact_limit
  pub pair_limit : IsNumberBy pair_limit_rule g.pair_limit n.pair_limit
  pub sample : IsNumberBy sample_rule g.modes.sample n.sample

-- The option is the first of which the value has no number.
abbrev pub IsFirstWithout : Given → NumberOption → Type 0
IsFirstWithout g Stages = LacksBy stages_rule g.stages
IsFirstWithout g Depth = HasBy stages_rule g.stages × LacksBy depth_rule g.depth
IsFirstWithout g FactLimit = HasBy stages_rule g.stages × HasBy depth_rule g.depth × LacksBy fact_limit_rule g.fact_limit
IsFirstWithout g PairLimit =
    HasBy stages_rule g.stages × HasBy depth_rule g.depth × HasBy fact_limit_rule g.fact_limit × LacksBy pair_limit_rule g.pair_limit
IsFirstWithout g Sample =
    HasBy stages_rule g.stages × HasBy depth_rule g.depth × HasBy fact_limit_rule g.fact_limit × HasBy pair_limit_rule g.pair_limit
    × LacksBy sample_rule g.modes.sample

-- What is to be told, by the values of the options of modes.
abbrev pub IsModeOf : Given → Mode → Type 0
IsModeOf g mode = IsModeBy g.modes mode

-- ---- the whole

-- The values ask for this.
pub record Ask (g : Given) (w : Wanted) : Type 0 where
  pub names : NamesMethod g.start w.class w.method
  pub property : w.property ≡ g.property
  pub stubs : w.stubs ≡ g.stubs
  pub stages : IsNumberBy stages_rule g.stages w.stages
  pub depth : IsNumberBy depth_rule g.depth w.depth
  pub fact_limit : IsNumberBy fact_limit_rule g.fact_limit w.fact_limit
  pub pair_limit : IsNumberBy pair_limit_rule g.pair_limit w.pair_limit
  pub mode : IsModeOf g w.mode

-- The word names a method of a class.
abbrev pub NamesSome : List ℕ → Type 0
NamesSome word = (class : List ℕ) × (method : List ℕ) × NamesMethod word class method

-- What is wrong with values: the entry names nothing; or two modes are asked for; or an option has no number.
abbrev pub IsWrongWith : Given → UsageFault → Type 0
IsWrongWith g Words = NamesSome g.start → ⊥
IsWrongWith g Modes = NamesSome g.start × (are_two_modes g.modes ≡ true)
IsWrongWith g (Range option) = NamesSome g.start × (are_two_modes g.modes ≡ false) × IsFirstWithout g option
