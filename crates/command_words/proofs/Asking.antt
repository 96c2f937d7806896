-- What the values of options ask for is what the words ask for, and what is wrong with the values is wrong with the words.
use Rattle.std.proofs.Common.{codes, ◌≡◌, ◌∙◌, ℕ, Bool, true, false, List, Option, Some, sym, ap, subst}
use Rattle.std.proofs.lemmas.Option.{same_Some}
use Rattle.failure.specs.declared.Failure.{Failure}
use Rattle.failure.specs.declared.Failure.TheVariants.{Cause, OutOfMemory}
use Rattle.command_words.specs.declared.fault.NumberOption.{NumberOption}
use Rattle.command_words.specs.declared.fault.NumberOption.TheVariants.{Stages, Depth, FactLimit, PairLimit, Sample}
use Rattle.command_words.specs.declared.fault.UsageFault.{UsageFault}
use Rattle.command_words.specs.declared.fault.UsageFault.TheVariants.{Words, Modes, Range}
use Rattle.command_words.specs.Command.{option_in}
use Rattle.command_words.specs.GivenValues.{Given, Gives, HasBy, LacksBy, NamesSome, Ask, IsFirstWithout, IsWrongWith}
use Rattle.command_words.specs.Options.{IsFormFailure}
use Rattle.command_words.specs.Requests.{NamesMethod, IsCommand, NumberRule, IsFirstLacking, IsModeBy, IsNumberBy, IsNumberIn, ModeOptions, HasNumber, LacksNumber, NamesEntry, AsksFor, Wanted, IsUsageFault, IsUsageFailure, are_two_modes, have_two_modes, mode_options, stages_rule, depth_rule, fact_limit_rule, pair_limit_rule, sample_rule}

-- the number of a value is that of the option in words that give the value
module _ (words : List (List ℕ)) (r : NumberRule) (value : Option (List ℕ)) (is : option_in words r.name ≡ value) where
  number_in : (n : ℕ) → IsNumberBy r value n → IsNumberIn words r n
  number_in n h = subst (λ (v : Option (List ℕ)). IsNumberBy r v n) (sym is) h

  has_in : HasBy r value → HasNumber words r
  has_in (n, h) = (n, number_in n h)

  lacks_in : LacksBy r value → LacksNumber words r
  lacks_in none n h = none n (subst (λ (v : Option (List ℕ)). IsNumberBy r v n) is h)

module _ (words : List (List ℕ)) (g : Given) (gives : Gives words g) where
  names_entry : (class method : List ℕ) → NamesMethod g.start class method → IsCommand words class method
  names_entry class method h = record { form = gives.form; entry = g.start; given = gives.start; names = h }

  some_entry : NamesSome g.start → NamesEntry words
  some_entry (class, method, h) = (class, method, names_entry class method h)

  no_entry : (NamesSome g.start → ⊥) → NamesEntry words → ⊥
  no_entry none (class, method, is) =
      let same : is.entry ≡ g.start = same_Some is.entry g.start (sym is.given ∙ gives.start) in
      none (class, method, subst (λ (word : List ℕ). NamesMethod word class method) same is.names)

  mode_in : (w : Wanted) → IsModeBy g.modes w.mode → IsModeBy (mode_options words) w.mode
  mode_in w h = subst (λ (o : ModeOptions). IsModeBy o w.mode) (sym gives.modes) h

  two_modes : (b : Bool) → are_two_modes g.modes ≡ b → have_two_modes words ≡ b
  two_modes b h = ap are_two_modes gives.modes ∙ h

  pub asked_for : (w : Wanted) → Ask g w → AsksFor words w
  asked_for w a = record {
    command = names_entry w.class w.method a.names;
    property = gives.property ∙ ap Some (sym a.property);
    stubs = gives.stubs ∙ sym a.stubs;
    stages = number_in words stages_rule g.stages gives.stages w.stages a.stages;
    depth = number_in words depth_rule g.depth gives.depth w.depth a.depth;
    fact_limit = number_in words fact_limit_rule g.fact_limit gives.fact_limit w.fact_limit a.fact_limit;
    pair_limit = number_in words pair_limit_rule g.pair_limit gives.pair_limit w.pair_limit a.pair_limit;
    mode = mode_in w a.mode;
  }

  first_lacking : (option : NumberOption) → IsFirstWithout g option → IsFirstLacking words option
  first_lacking Stages none = lacks_in words stages_rule g.stages gives.stages none
  first_lacking Depth first = (has_in words stages_rule g.stages gives.stages first.0, lacks_in words depth_rule g.depth gives.depth first.1)
  first_lacking FactLimit first = (
    has_in words stages_rule g.stages gives.stages first.0,
    has_in words depth_rule g.depth gives.depth first.1,
    lacks_in words fact_limit_rule g.fact_limit gives.fact_limit first.2,
  )
  first_lacking PairLimit first = (
    has_in words stages_rule g.stages gives.stages first.0,
    has_in words depth_rule g.depth gives.depth first.1,
    has_in words fact_limit_rule g.fact_limit gives.fact_limit first.2,
    lacks_in words pair_limit_rule g.pair_limit gives.pair_limit first.3,
  )
  first_lacking Sample first = (
    has_in words stages_rule g.stages gives.stages first.0,
    has_in words depth_rule g.depth gives.depth first.1,
    has_in words fact_limit_rule g.fact_limit gives.fact_limit first.2,
    has_in words pair_limit_rule g.pair_limit gives.pair_limit first.3,
    lacks_in words sample_rule g.modes.sample (ap (λ (o : ModeOptions). o.sample) gives.modes) first.4,
  )

  pub wrong_with : (fault : UsageFault) → IsWrongWith g fault → IsUsageFault words fault
  wrong_with Words none = no_entry none
  wrong_with Modes (names, two) = (some_entry names, two_modes true two)
  wrong_with (Range option) (names, one, first) = (some_entry names, two_modes false one, first_lacking option first)

-- words that are not of the command's form name no entry
pub form_failure : (words : List (List ℕ)) (failure : Failure UsageFault) → IsFormFailure words failure → IsUsageFailure words failure
form_failure words (Cause Words) none = λ (class, method, is). none is.form
form_failure words (Cause Modes) none = absurd none
form_failure words (Cause (Range option)) none = absurd none
form_failure words OutOfMemory memory = tt

-- a word that is the same names the same
module _ (word text : List ℕ) where
  pub names_some : (class method : List ℕ) → text ≡ word → NamesMethod text class method → NamesSome word
  names_some class method same h = (class, method, subst (λ (t : List ℕ). NamesMethod t class method) same h)

  pub names_none : text ≡ word → ((class method : List ℕ) → NamesMethod text class method → ⊥) → NamesSome word → ⊥
  names_none same none (class, method, h) = none class method (subst (λ (t : List ℕ). NamesMethod t class method) (sym same) h)
