-- Public contracts rest on this module.
-- What the words of a run ask for, and what is wrong with them.
use Rattle.std.specs.Prelude.{codes, ◌≡◌, ℕ, ◌+◌, ◌*◌, ◌-◌, ◌≤◌, ◌&&◌, ◌||◌, ◌==◌, nat_le, not, Bool, true, false, is_some, List, ◌∷◌, ◌++◌, length, fold, Option, Some, None, option_map, IsTrue}
use Rattle.std.specs.List.{list_all}
use Rattle.failure.specs.declared.Failure.{Failure}
use Rattle.failure.specs.declared.Failure.TheVariants.{Cause, OutOfMemory}
use Rattle.command_words.specs.declared.fault.NumberOption.{NumberOption}
use Rattle.command_words.specs.declared.fault.NumberOption.TheVariants.{Stages, Depth, FactLimit, PairLimit, Sample}
use Rattle.command_words.specs.declared.fault.UsageFault.{UsageFault}
use Rattle.command_words.specs.declared.fault.UsageFault.TheVariants.{Words, Modes, Range}
use Rattle.command_words.specs.declared.request.Mode.{Mode}
use Rattle.command_words.specs.declared.request.Mode.TheVariants as modes
use Rattle.command_words.specs.declared.request.Request.{Request}
use Rattle.command_words.specs.Command.{HasForm, is_set, option_in}

-- What a run is asked for: a property file and a stub file, an entry by its class and its name, the last stage, and the limits; and what it is to tell.
pub record Wanted : Type 0 where
  pub property : List ℕ
  pub stubs : Option (List ℕ)
  pub class : List ℕ
  pub method : List ℕ
  pub stages : ℕ
  pub depth : ℕ
  pub fact_limit : ℕ
  pub pair_limit : ℕ
  pub mode : Mode

abbrev pub wanted_of : Request → Wanted
wanted_of r = record {
  property = r.property.now;
  stubs = option_map (λ name. name.now) r.stubs;
  class = r.class.now;
  method = r.method.now;
  stages = r.stages;
  depth = r.depth;
  fact_limit = r.fact_limit;
  pair_limit = r.pair_limit;
  mode = r.mode;
}

-- ---- the entry

-- A word that names a class and a method: the method's name stands after the last full stop.
pub record NamesMethod (word class method : List ℕ) : Type 0 where
  pub parts : word ≡ class ++ 46 ∷ method
  pub last : IsTrue (list_all (λ b. not (b == 46)) method)

-- The words are of the command's form, and name the entry.
pub record IsCommand (words : List (List ℕ)) (class method : List ℕ) : Type 0 where
  pub form : HasForm words
  pub entry : List ℕ
  pub given : option_in words (codes "entry") ≡ Some entry
  pub names : NamesMethod entry class method

-- ---- numbers

abbrev pub is_digit : ℕ → Bool
is_digit b = nat_le 48 b && nat_le b 57

-- The number that decimal digits spell.
abbrev pub number_of : List ℕ → ℕ
number_of digits = fold (λ n b. n * 10 + (b - 48)) 0 digits

-- The text spells a number of the range, in 1 to 8 decimal digits.
pub record Spells (least most : ℕ) (text : List ℕ) (n : ℕ) : Type 0 where
  pub some : 1 ≤ length text
  pub few : length text ≤ 8
  pub digits : IsTrue (list_all is_digit text)
  pub value : n ≡ number_of text
  pub at_least : least ≤ n
  pub at_most : n ≤ most

-- An option with a number: its range, and the number where it is not given.
pub record NumberRule : Type 0 where
  pub name : List ℕ
  pub least : ℕ
  pub most : ℕ
  pub otherwise : ℕ

-- The last stage. It is the one that is run where words do not give the option.
abbrev pub last_stage : ℕ
last_stage = 4

abbrev pub stages_rule : NumberRule
stages_rule = record { name = codes "stages"; least = 1; most = last_stage; otherwise = last_stage }

abbrev pub depth_rule : NumberRule
depth_rule = record { name = codes "depth"; least = 0; most = 3; otherwise = 2 }

abbrev pub fact_limit_rule : NumberRule
fact_limit_rule = record { name = codes "fact-limit"; least = 1; most = 1000000; otherwise = 50000 }

abbrev pub pair_limit_rule : NumberRule
pair_limit_rule = record { name = codes "pair-limit"; least = 1; most = 20000000; otherwise = 20000000 }

-- The methods of a sample. Where the option is not given, there is none.
abbrev pub sample_rule : NumberRule
sample_rule = record { name = codes "sample"; least = 1; most = 200; otherwise = 0 }

-- The number of a value, if there is one.
abbrev pub IsNumberBy : NumberRule → Option (List ℕ) → ℕ → Type 0
IsNumberBy r None n = n ≡ r.otherwise
IsNumberBy r (Some text) n = Spells r.least r.most text n

-- The number of an option in words.
abbrev pub IsNumberIn : List (List ℕ) → NumberRule → ℕ → Type 0
IsNumberIn words r n = IsNumberBy r (option_in words r.name) n

-- ---- modes

-- The values of the options of modes: two flags, and an option with a number.
pub record ModeOptions : Type 0 where
  pub trace : Option (List ℕ)
  pub certificate : Option (List ℕ)
  pub sample : Option (List ℕ)

-- Those of words.
abbrev pub mode_options : List (List ℕ) → ModeOptions
mode_options words = record { trace = option_in words (codes "trace"); certificate = option_in words (codes "print-cert"); sample = option_in words (codes "sample") }

-- Two of them stand.
abbrev pub are_two_modes : ModeOptions → Bool
are_two_modes o = (is_set o.trace && (is_set o.certificate || is_some o.sample)) || (is_set o.certificate && is_some o.sample)

-- They do so in words.
abbrev pub have_two_modes : List (List ℕ) → Bool
have_two_modes words = are_two_modes (mode_options words)

-- What is to be told, by the values of these options: derivations, or a certificate, or a sample with a number of methods, or none of these.
abbrev pub IsModeBy : ModeOptions → Mode → Type 0
IsModeBy o modes.Report = (is_set o.trace ≡ false) × (is_set o.certificate ≡ false) × (o.sample ≡ None)
IsModeBy o modes.Trace = (is_set o.trace ≡ true) × (is_set o.certificate ≡ false) × (o.sample ≡ None)
IsModeBy o modes.Certificate = (is_set o.trace ≡ false) × (is_set o.certificate ≡ true) × (o.sample ≡ None)
IsModeBy o (modes.Sample n) =
    (is_set o.trace ≡ false) × (is_set o.certificate ≡ false) × (text : List ℕ) × (o.sample ≡ Some text) × IsNumberBy sample_rule (Some text) n

-- Derivations are to be told.
abbrev pub is_trace : Mode → Bool
is_trace modes.Report = false
is_trace modes.Trace = true
is_trace modes.Certificate = false
is_trace (modes.Sample n) = false

-- A certificate is to be told, in place of a report.
abbrev pub is_certificate : Mode → Bool
is_certificate modes.Report = false
is_certificate modes.Trace = false
is_certificate modes.Certificate = true
is_certificate (modes.Sample n) = false

-- ---- the whole

pub record AsksFor (words : List (List ℕ)) (w : Wanted) : Type 0 where
  pub command : IsCommand words w.class w.method
  pub property : option_in words (codes "property") ≡ Some w.property
  pub stubs : option_in words (codes "stubs") ≡ w.stubs
  pub stages : IsNumberIn words stages_rule w.stages
  pub depth : IsNumberIn words depth_rule w.depth
  pub fact_limit : IsNumberIn words fact_limit_rule w.fact_limit
  pub pair_limit : IsNumberIn words pair_limit_rule w.pair_limit
  pub mode : IsModeBy (mode_options words) w.mode

-- The option has a number; it has none.
abbrev pub HasNumber : List (List ℕ) → NumberRule → Type 0
HasNumber words r = (n : ℕ) × IsNumberIn words r n

abbrev pub LacksNumber : List (List ℕ) → NumberRule → Type 0
LacksNumber words r = (n : ℕ) → IsNumberIn words r n → ⊥

-- The words name an entry.
abbrev pub NamesEntry : List (List ℕ) → Type 0
NamesEntry words = (class : List ℕ) × (method : List ℕ) × IsCommand words class method

-- The option is the first that has no number.
abbrev pub IsFirstLacking : List (List ℕ) → NumberOption → Type 0
IsFirstLacking words Stages = LacksNumber words stages_rule
IsFirstLacking words Depth = HasNumber words stages_rule × LacksNumber words depth_rule
IsFirstLacking words FactLimit = HasNumber words stages_rule × HasNumber words depth_rule × LacksNumber words fact_limit_rule
IsFirstLacking words PairLimit =
    HasNumber words stages_rule × HasNumber words depth_rule × HasNumber words fact_limit_rule × LacksNumber words pair_limit_rule
IsFirstLacking words Sample =
    HasNumber words stages_rule × HasNumber words depth_rule × HasNumber words fact_limit_rule × HasNumber words pair_limit_rule
    × LacksNumber words sample_rule

-- What is wrong with words: the checks stand in their order, and those before the one that fails pass.
abbrev pub IsUsageFault : List (List ℕ) → UsageFault → Type 0
IsUsageFault words Words = NamesEntry words → ⊥
IsUsageFault words Modes = NamesEntry words × (have_two_modes words ≡ true)
IsUsageFault words (Range option) = NamesEntry words × (have_two_modes words ≡ false) × IsFirstLacking words option

-- Out of memory says nothing of the words.
abbrev pub IsUsageFailure : List (List ℕ) → Failure UsageFault → Type 0
IsUsageFailure words (Cause fault) = IsUsageFault words fault
IsUsageFailure words OutOfMemory = Unit {0}
