-- Public contracts rest on this module.
-- What the reader's parts answer: for one value of a document, for one table, and for one key.
use Rattle.std.specs.Prelude.{◌≡◌, ℕ, List, Some, slice_get}
use Rattle.toml.specs.declared.value.Value.{Value}
use Rattle.toml.specs.Data.{string, table, Members}
use Rattle.toml.specs.View.{view}
use Rattle.jvm_model.specs.declared.automaton.Event.{Event}
use Rattle.failure.specs.declared.Failure.{Failure}
use Rattle.property_file.specs.declared.property_failure.PropertyFault.{PropertyFault}
use Rattle.failure.specs.declared.Failure.TheVariants.{Cause, OutOfMemory}
use Rattle.property_file.specs.declared.property_failure.PropertyFault.TheVariants.{BadToml, BadProperty}
use Rattle.property_file.specs.Rules.{GivesEvent}
use Rattle.property_file.specs.Refusals.{IsBroken}

-- The value is this text.
abbrev pub IsText : Value → List ℕ → Type 0
IsText value text = view value ≡ string text

-- The value is the name of the state with this number.
pub record IsStateText (states : List (List ℕ)) (value : Value) (number : ℕ) : Type 0 where
  pub name : List ℕ
  pub text : view value ≡ string name
  pub stands : slice_get states number ≡ Some name

-- The value is the table of this event.
pub record IsEventTable (states : List (List ℕ)) (error : ℕ) (value : Value) (event : Event) : Type 0 where
  pub members : Members
  pub is_table : view value ≡ table members
  pub gives : GivesEvent states error members event

-- The failure names the key, or is out of memory.
abbrev pub NamesKey : List ℕ → Failure PropertyFault → Type 0
NamesKey key (Cause BadToml) = ⊥
NamesKey key (Cause (BadProperty name)) = name ≡ key
NamesKey key OutOfMemory = Unit {0}

-- What the refusal of a document says of its table.
abbrev pub IsTableRefusal : Members → Failure PropertyFault → Type 0
IsTableRefusal ms (Cause BadToml) = ⊥
IsTableRefusal ms (Cause (BadProperty key)) = IsBroken ms key
IsTableRefusal ms OutOfMemory = Unit {0}
