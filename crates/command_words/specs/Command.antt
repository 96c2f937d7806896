-- Public contracts rest on this module.
-- The command of a run: its options, by their long names, each with one value, and its flags, which have none.
use Rattle.std.specs.Prelude.{codes, ◌≡◌, ℕ, Bool, true, false, List, [], ◌∷◌, Option, Some, None}
use Rattle.std.specs.Str.{bytes_eq}
use Rattle.clap.specs.Faults.{fault_of}
use Rattle.clap.specs.Simple.{App, matches_of, new_rule, new_shape}
use Rattle.clap.specs.Walk.{Rule, first_of}
use Rattle.clap.specs.declared.builder.action.ArgAction.TheVariants.{Set, SetTrue}

-- An option of this name with one value; and one that has to be there.
abbrev pub option_named : List ℕ → Rule
option_named name = record (new_rule name) { long = Some name; action = Some Set }

abbrev pub required_option : List ℕ → Rule
required_option name = record (option_named name) { required = true }

-- A flag of this name.
abbrev pub flag_named : List ℕ → Rule
flag_named name = record (new_rule name) { long = Some name; action = Some SetTrue }

abbrev pub options : List Rule
options = required_option (codes "classes") ∷ required_option (codes "property") ∷ required_option (codes "entry") ∷ option_named (codes "stubs")
    ∷ option_named (codes "stages") ∷ option_named (codes "depth") ∷ option_named (codes "fact-limit") ∷ option_named (codes "pair-limit")
    ∷ flag_named (codes "trace") ∷ flag_named (codes "print-cert") ∷ option_named (codes "sample") ∷ []

-- The command, which has these options and nothing else, and whose words do not begin with its own name.
abbrev pub run_command : App
run_command = record {
  top = record (new_shape (codes "typestate")) { rules = options; no_binary_name = true; disable_help_flag = true; disable_version_flag = true };
  subs = [];
}

-- The words are of the command's form: the parser of command lines finds no fault in them.
abbrev pub HasForm : List (List ℕ) → Type 0
HasForm words = fault_of run_command words ≡ []

-- The value of an option, where the words give it.
abbrev pub option_in : List (List ℕ) → List ℕ → Option (List ℕ)
option_in words name = first_of name (matches_of run_command words)

-- The value of a flag is `true` where the words have the flag, and `false` where they do not.
abbrev pub is_set : Option (List ℕ) → Bool
is_set None = false
is_set (Some text) = bytes_eq text (codes "true")

-- The words have a flag.
abbrev pub HasFlag : List (List ℕ) → List ℕ → Type 0
HasFlag words name = is_set (option_in words name) ≡ true
