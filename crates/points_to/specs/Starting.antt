-- This crate's own proofs alone rest on this module.
-- What the start leads to, by its parts, and the call that is numbered for it.
use Rattle.std.specs.Prelude.{◌≡◌, ◌⊎◌, ℕ, List, length, Some, slice_get}
use Rattle.jvm_model.specs.declared.number.MethodNo.{MethodNo}
use Rattle.jvm_model.specs.Programs.{Program, Method}
use Rattle.machine_bytecode.specs.Objects.{string_name}
use Rattle.machine_bytecode.specs.Start.{boot_site}
use Rattle.machine_nodes.specs.Nodes.{IsCodedInitialiser}
use Rattle.slot_names.specs.declared.variable.Variable.TheVariants.{Parameter}
use Rattle.points_to_rules.specs.Facts.{variable, elements_of, may_hold, may_run, may_call}
use Rattle.points_to_rules.specs.Rules.{HasArguments, argument_site, start_call}
use Rattle.points_to_constraints.specs.Items.{CallSite, Item as RuleItem, known}
use Rattle.points_to_methods.specs.Initiated.{IsInitiated}

-- There is one call, that of the entry from the start.
pub record IsStartCall (calls : List CallSite) : Type 0 where
  pub one : length calls ≡ 1
  pub at : (number : ℕ) (site : CallSite) → slice_get calls number ≡ Some site → site.at ≡ start_call

-- The number is that of a call from the start.
pub record IsNumberOfStart (calls : List CallSite) (number : ℕ) : Type 0 where
  pub site : CallSite
  pub stands : slice_get calls number ≡ Some site
  pub at : site.at ≡ start_call

-- ---- the parts

-- The entry runs, and is called.
abbrev pub EntryItem : MethodNo → RuleItem → Type 0
EntryItem entry x = (x ≡ known (may_run entry)) ⊎ (x ≡ known (may_call start_call entry))

-- Its parameter holds an array of strings, if it has one.
abbrev pub IsArgument : MethodNo → RuleItem → Type 0
IsArgument entry x = (x ≡ known (may_hold (variable (Parameter entry 0)) argument_site)) ⊎ (x ≡ known (may_hold (elements_of argument_site) (boot_site string_name)))

abbrev pub ArgumentItem : Program → MethodNo → RuleItem → Type 0
ArgumentItem p entry x = HasArguments p entry × IsArgument entry x

-- An initialiser of its class runs, and what it throws is kept.
abbrev pub InitialiserItem : Program → MethodNo → RuleItem → Type 0
InitialiserItem p entry x = (m : Method) × (i : MethodNo) × (slice_get p.methods entry.0 ≡ Some m) × IsCodedInitialiser p m.class i.0 × IsInitiated i x
