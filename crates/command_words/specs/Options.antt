-- This crate's own proofs alone rest on this module.
-- The command of a run as it is made, and what its parser finds in words.
use Rattle.std.specs.Prelude.{codes, ◌≡◌, ℕ, true, false, is_some, List, [], map}
use Rattle.clap.specs.Built.{AddsArg, AddsInTurn}
use Rattle.clap.specs.Facts.{args_of, groups_of}
use Rattle.clap.specs.Matches.{first_value, found_of}
use Rattle.clap.specs.Simple.{App, app_of, matches_of, new_shape}
use Rattle.clap.specs.Walk.{rows_of, rule_of}
use Rattle.clap.specs.declared.builder.arg.Arg.{Arg}
use Rattle.clap.specs.declared.builder.command.Command.{Command}
use Rattle.clap.specs.declared.builder.command.Command.TheViews.{out-Command as fields_of}
use Rattle.clap.specs.declared.error.kind.ErrorKind.{ErrorKind}
use Rattle.clap.specs.declared.error.kind.ErrorKind.TheVariants as kinds
use Rattle.clap.specs.declared.parser.matches.ArgMatches.{ArgMatches}
use Rattle.failure.specs.declared.Failure.{Failure}
use Rattle.failure.specs.declared.Failure.TheVariants.{Cause, OutOfMemory}
use Rattle.command_words.specs.declared.fault.UsageFault.{UsageFault}
use Rattle.command_words.specs.declared.fault.UsageFault.TheVariants.{Words, Modes, Range}
use Rattle.command_words.specs.Command.{HasForm, options, run_command}

-- The command without its options.
abbrev pub bare_command : App
bare_command = record {
  top = record (new_shape (codes "typestate")) { no_binary_name = true; disable_help_flag = true; disable_version_flag = true };
  subs = [];
}

-- The command is that one, to which arguments with the rules of the options are added one after another.
pub record IsRunCommand (command : Command) : Type 0 where
  pub start : Command
  pub arguments : List Arg
  pub bare : app_of start ≡ bare_command
  pub no_arguments : args_of start ≡ []
  pub no_groups : groups_of start ≡ []
  pub no_globals : (fields_of start).has_globals ≡ false
  pub no_exception : (fields_of start).subcommand_negates_reqs ≡ false
  pub rules : map rule_of arguments ≡ options
  pub chain : AddsInTurn AddsArg start arguments command

-- The parser finds no fault in the words, and these matches, in which the options that have to be there have values.
pub record AreMatches (words : List (List ℕ)) (m : ArgMatches) : Type 0 where
  pub form : HasForm words
  pub rows : rows_of (found_of m) ≡ matches_of run_command words
  pub property : is_some (first_value (found_of m) (codes "property")) ≡ true
  pub start : is_some (first_value (found_of m) (codes "entry")) ≡ true

-- An error of the parser is out of memory, or says that the words are not of the form.
abbrev pub IsFailureBy : ErrorKind → Failure UsageFault → Type 0
IsFailureBy kind (Cause Words) = kind ≡ kinds.OutOfMemory → ⊥
IsFailureBy kind (Cause Modes) = ⊥
IsFailureBy kind (Cause (Range option)) = ⊥
IsFailureBy kind OutOfMemory = kind ≡ kinds.OutOfMemory

-- The words are not of the form. Out of memory says nothing of them.
abbrev pub IsFormFailure : List (List ℕ) → Failure UsageFault → Type 0
IsFormFailure words (Cause Words) = HasForm words → ⊥
IsFormFailure words (Cause Modes) = ⊥
IsFormFailure words (Cause (Range option)) = ⊥
IsFormFailure words OutOfMemory = Unit {0}
