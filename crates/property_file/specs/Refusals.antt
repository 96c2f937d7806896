-- Public contracts rest on this module.
-- Why a property file is not read: it is no TOML document, or a rule of a key is broken.
use Rattle.std.specs.Prelude.{codes, ◌≡◌, ℕ, List}
use Rattle.toml.specs.Data.{Members}
use Rattle.jvm_model.specs.declared.automaton.Automaton.{Automaton}
use Rattle.jvm_model.specs.declared.automaton.Event.{Event}
use Rattle.failure.specs.declared.Failure.{Failure}
use Rattle.property_file.specs.declared.property_failure.PropertyFault.{PropertyFault}
use Rattle.failure.specs.declared.Failure.TheVariants.{Cause, OutOfMemory}
use Rattle.property_file.specs.declared.property_failure.PropertyFault.TheVariants.{BadToml, BadProperty}
use Rattle.toml_tables.specs.Documents.{IsDocument, IsNoDocument}
use Rattle.toml_tables.specs.Tables.{other_keys, IsLeast}
use Rattle.property_file.specs.Rules.{GivesVersion, GivesClass, GivesStates, GivesInitial, GivesError, GivesEvents}
use Rattle.property_file.specs.PropertyFile.{file_keys, GivesParts}

-- The first key, in the order of `file_keys`, of which a rule is broken. A rule that speaks of two keys counts for the
-- later one. Where none of the six is broken it is the least of the other keys.
pub data IsBroken (members : Members) (key : List ℕ) : Type 0 where
  -- The version is not given.
  version : (GivesVersion members → ⊥) → key ≡ codes "version" → IsBroken members key
  -- The version is given, and no name of a class.
  class : GivesVersion members → ((name : List ℕ) → GivesClass members name → ⊥) → key ≡ codes "class" → IsBroken members key
  -- The class is given too, and no list of states.
  states : (name : List ℕ) → GivesVersion members → GivesClass members name
      → ((states : List (List ℕ)) → GivesStates members states → ⊥) → key ≡ codes "states" → IsBroken members key
  -- The states are given too, and no initial one of them.
  initial : (name : List ℕ) (states : List (List ℕ)) → GivesVersion members → GivesClass members name → GivesStates members states
      → ((initial : ℕ) → GivesInitial states members initial → ⊥) → key ≡ codes "initial" → IsBroken members key
  -- The initial state is given too, and no error state that goes with it.
  error : (name : List ℕ) (states : List (List ℕ)) (initial : ℕ) → GivesVersion members → GivesClass members name → GivesStates members states
      → GivesInitial states members initial → ((error : ℕ) → GivesError states initial members error → ⊥) → key ≡ codes "error" → IsBroken members key
  -- The error state is given too, and no list of events that goes with the states.
  event : (name : List ℕ) (states : List (List ℕ)) (initial error : ℕ) → GivesVersion members → GivesClass members name → GivesStates members states
      → GivesInitial states members initial → GivesError states initial members error
      → ((events : List Event) → GivesEvents states error members events → ⊥) → key ≡ codes "event" → IsBroken members key
  -- Each part of an automaton is given, and there are other keys.
  other : (a : Automaton) → GivesParts members a → IsLeast (other_keys file_keys members) key → IsBroken members key

-- The bytes are a document, and this key of its table is the one that is named.
pub record IsBrokenFile (bytes : List ℕ) (key : List ℕ) : Type 0 where
  pub members : Members
  pub document : IsDocument bytes members
  pub broken : IsBroken members key

-- What a refusal says of the bytes.
abbrev pub IsPropertyRefusal : List ℕ → Failure PropertyFault → Type 0
IsPropertyRefusal bytes (Cause BadToml) = IsNoDocument bytes
IsPropertyRefusal bytes (Cause (BadProperty key)) = IsBrokenFile bytes key
IsPropertyRefusal bytes OutOfMemory = Unit {0}
