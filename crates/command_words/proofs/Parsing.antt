-- The parser of the command of a run: what its matches and its errors say of the words.
use Rattle.std.proofs.Common.{codes, ◌≡◌, ◌∙◌, ℕ, true, List, [], ◌∷◌, map, fold, Option, Some, Result, Ok, Err, option_map, slice_get, is_some, refl, sym, ap, ap₂, subst, inl, inr}
use Rattle.std.specs.Borrow.{Bor}
use Rattle.std.specs.List.{list_all, slice_index_or}
use Rattle.std.proofs.lemmas.Result.{MatchResult-at_err, MatchResult-at_ok}
use Rattle.clap.specs.Built.{AddsArg, AddsInTurn, IsParsedFrom}
use Rattle.clap.specs.Faults.{fault_of, is_simple_and_free}
use Rattle.clap.specs.Kinds.{FailsBy, HasKind, IsAmong, Kinds}
use Rattle.clap.specs.Matches.{first_value, found_of}
use Rattle.clap.specs.Simple.{App, HasMatchesOf, app_of, is_simple, with_rule}
use Rattle.clap.specs.Values.{kind_of}
use Rattle.clap.specs.Walk.{Rule, Text, first_of, rule_of}
use Rattle.clap.specs.declared.builder.arg.Arg.{Arg}
use Rattle.clap.specs.declared.builder.command.Command.{Command}
use Rattle.clap.specs.declared.error.Error.{Error}
use Rattle.clap.specs.declared.parser.matches.ArgMatches.{ArgMatches}
use Rattle.clap.proofs.CallerLemmas.{required_in_chain}
use Rattle.clap.proofs.WalkLemmas.{first_value-rows}
use Rattle.command_words.specs.Requests.{ModeOptions}
use Rattle.failure.specs.declared.Failure.{Failure}
use Rattle.failure.specs.declared.Failure.TheVariants.{Cause, OutOfMemory}
use Rattle.command_words.specs.declared.fault.UsageFault.{UsageFault}
use Rattle.command_words.specs.declared.fault.UsageFault.TheVariants.{Words, Modes, Range}
use Rattle.command_words.specs.Command.{HasForm, option_in, options, required_option, run_command}
use Rattle.command_words.specs.Options.{bare_command, AreMatches, IsFailureBy, IsFormFailure, IsRunCommand}
use Rattle.command_words.proofs.OptionRules.{added_rules, apart_distinct, are_apart, is_own_rule, own_fit, rule_at, takes_value}

-- ---- the command is simple, and its options have no rule on one another

simple : is_simple run_command ≡ true
simple = refl

simple_and_free : is_simple_and_free run_command ≡ true
simple_and_free = refl

-- ---- the command that is made

pub command_is : (command : Command) → IsRunCommand command → app_of command ≡ run_command
command_is command made =
    added_rules made.start command made.arguments made.chain (ap (list_all (λ (r : Rule). r.is_simple)) made.rules)
    ∙ (ap (λ (a : App). fold with_rule a (map rule_of made.arguments)) made.bare ∙ ap (λ (rs : List Rule). fold with_rule bare_command rs) made.rules)

-- an option that has to be there has a value
option_given : (command : Command) (made : IsRunCommand command) (m : ArgMatches) → IsParsedFrom command m → (k : ℕ) (name : Text)
    → slice_get options k ≡ Some (required_option name) → is_some (first_value (found_of m) name) ≡ true
option_given command made m parsed k name stands = by made.arguments made.rules made.chain
  where
    by : (xs : List Arg) → map rule_of xs ≡ options → AddsInTurn AddsArg made.start xs command → is_some (first_value (found_of m) name) ≡ true
    by [] rules chain = absurd (cc)
    by (x ∷ xs) rules chain =
        let all = x ∷ xs in
        let at = rule_at all k x (required_option name) (ap (λ (rs : List Rule). slice_get rs k) rules ∙ stands) in
        let value = takes_value (slice_index_or all k x) name at.1 in
        let fit = own_fit all (ap (list_all is_own_rule) rules) in
        let distinct = apart_distinct all (ap are_apart rules) in
        let has = required_in_chain made.start command all k x m chain made.no_arguments made.no_groups made.no_globals made.no_exception
        fit distinct at.0 value parsed in
        subst (λ (id : Text). is_some (first_value (found_of m) id) ≡ true) (ap (λ (r : Rule). r.id) at.1) has

-- ---- what it answers

module _ (command : Command) (is : app_of command ≡ run_command) (words : List (List ℕ)) (r : Result ArgMatches Error)
    (kinds : is_simple_and_free (app_of command) ≡ true → FailsBy (fault_of (app_of command) words) r) where
  fails_by : FailsBy (fault_of run_command words) r
  fails_by = subst (λ (a : App). FailsBy (fault_of a words) r) is (kinds (ap is_simple_and_free is ∙ simple_and_free))

  at_ok : (m : ArgMatches) → r ≡ Ok m → HasForm words
  at_ok m ok = MatchResult-at_ok (λ (_ : ArgMatches). HasForm words) (HasKind (fault_of run_command words)) m ok fails_by

  at_err : (e : Error) → r ≡ Err e → HasKind (fault_of run_command words) e
  at_err e err = MatchResult-at_err (λ (_ : ArgMatches). HasForm words) (HasKind (fault_of run_command words)) e err fails_by

  pub matches_told : IsRunCommand command → (m : ArgMatches) → r ≡ Ok m → IsParsedFrom command m → HasMatchesOf (app_of command) words m → AreMatches words m
  matches_told made m ok parsed rows = record {
    form = at_ok m ok;
    rows = (subst (λ (a : App). HasMatchesOf a words m) is rows simple).0;
    property = option_given command made m parsed 1 (codes "property") refl;
    start = option_given command made m parsed 2 (codes "entry") refl;
  }

  pub error_told : (e : Error) (f : Failure UsageFault) → r ≡ Err e → IsFailureBy (kind_of e) f → IsFormFailure words f
  error_told e (Cause Words) err other = λ form. by form (at_err e err)
    where
      by : HasForm words → HasKind (fault_of run_command words) e → ⊥
      by form (inl memory) = other memory
      by form (inr among) = subst (λ (ks : Kinds). IsAmong (kind_of e) ks) form among
  error_told e (Cause Modes) err none = none
  error_told e (Cause (Range option)) err none = none
  error_told e OutOfMemory err memory = tt

-- ---- what the getters of matches read

module _ (words : List (List ℕ)) (m : ArgMatches) (are : AreMatches words m) (name : Text) (o : Option (Bor Text))
    (got : option_map (λ s. s.now) o ≡ first_value (found_of m) name) where
  -- an option that may be left out
  pub option_read : option_in words name ≡ option_map (λ s. s.now) o
  option_read = ap (first_of name) (sym are.rows) ∙ (sym (first_value-rows (found_of m) name) ∙ sym got)

  -- one that is there
  pub value_read : (v : Bor Text) → o ≡ Some v → option_in words name ≡ Some v.now
  value_read v is = option_read ∙ ap (option_map (λ (s : Bor Text). s.now)) is

-- values of the options of modes that are the same
abbrev options_of : (trace certificate sample : Option (List ℕ)) → ModeOptions
options_of t c s = record { trace = t; certificate = c; sample = s }

pub same_modes : (trace certificate sample t c s : Option (List ℕ)) → trace ≡ t → certificate ≡ c → sample ≡ s → options_of trace certificate sample ≡ options_of t c s
same_modes trace certificate sample t c s p q r = ap₂ (λ x y. options_of x y sample) p q ∙ ap (λ z. options_of t c z) r

-- arguments with their rules, one by one
pub data HaveRules : List Arg → List Rule → Type 0 where
  none : HaveRules [] []
  more : (arg : Arg) (rule : Rule) (args : List Arg) (rules : List Rule) → rule_of arg ≡ rule → HaveRules args rules → HaveRules (arg ∷ args) (rule ∷ rules)

pub rules_are : {args : List Arg} {rules : List Rule} → HaveRules args rules → map rule_of args ≡ rules
rules_are none = refl
rules_are (more arg rule args rules one others) = ap₂ (λ x xs. x ∷ xs) one (rules_are others)
