-- Public contracts rest on this module.
-- What a property file says: the automaton that its TOML table gives.
use Rattle.std.specs.Prelude.{codes, ℕ, List, [], ◌∷◌}
use Rattle.toml.specs.Data.{Members}
use Rattle.jvm_model.specs.declared.automaton.Automaton.{Automaton}
use Rattle.toml_tables.specs.Documents.{IsDocument}
use Rattle.toml_tables.specs.Tables.{HasOnly}
use Rattle.property_file.specs.Rules.{GivesVersion, GivesClass, GivesStates, GivesInitial, GivesError, GivesEvents}

-- The keys of a property file, in the order in which their rules are told.
abbrev pub file_keys : List (List ℕ)
file_keys = codes "version" ∷ codes "class" ∷ codes "states" ∷ codes "initial" ∷ codes "error" ∷ codes "event" ∷ []

-- The table gives each part of the automaton.
pub record GivesParts (members : Members) (a : Automaton) : Type 0 where
  pub version : GivesVersion members
  pub class_name : GivesClass members a.class_name
  pub states : GivesStates members a.states
  pub initial : GivesInitial a.states members a.initial
  pub error : GivesError a.states a.initial members a.error
  pub events : GivesEvents a.states a.error members a.events

-- The table gives the automaton, and has no other key.
pub record GivesAutomaton (members : Members) (a : Automaton) : Type 0 where
  pub parts : GivesParts members a
  pub no_other : HasOnly file_keys members

-- The bytes are a property file of the automaton: a TOML document, not too large, whose table gives it.
pub record IsPropertyFile (bytes : List ℕ) (a : Automaton) : Type 0 where
  pub members : Members
  pub document : IsDocument bytes members
  pub gives : GivesAutomaton members a
