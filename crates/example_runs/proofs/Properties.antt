-- The property files of the examples give their automata, by computing.
use Rattle.std.proofs.Common.{codes, ◌≡◌, ℕ, zero, suc, true, nat_lt, List, [], ◌∷◌, length, Some, slice_get, pos, IsAscii, leb, refl, arith, leb-true, ltb-true}
use Rattle.std.specs.List.{AllZip, list_all}
use Rattle.std.proofs.lemmas.Bool.{and_parts}
use Rattle.std.proofs.lemmas.Str.{IsUtf8-from_ascii}
use Rattle.std.proofs.lemmas.List.Sums.{AllPass-from_list_all}
use Rattle.toml.specs.Data.{Members, no_members, member, integer, string, array}
use Rattle.toml.specs.Parse.{parse_document}
use Rattle.toml.proofs.OnLiterals.{toml_on_literals}
use Rattle.toml_tables.specs.Documents.{document_limit, texts, tables}
use Rattle.jvm_model.specs.declared.automaton.Automaton.{Automaton}
use Rattle.jvm_model.specs.declared.automaton.Event.{Event}
use Rattle.jvm_model.specs.Automata.{is_state_name}
use Rattle.jvm_model.specs.Soundness.{plain_descriptor}
use Rattle.property_file.specs.PropertyFile.{GivesAutomaton, IsPropertyFile}
use Rattle.property_file.specs.Rules.{GivesEvent}
use Rattle.example_runs.proofs.ClassChecks.{class_is, plain_is}
use Rattle.example_runs.specs.Examples.{one_read_file, read_then_close_file}

-- ---- automata

-- a call of a method of this name, without parameters and result, is an event with these next states
abbrev pub event_of : List ℕ → List ℕ → Event
event_of name next = record { name = name; descriptor = plain_descriptor; next = next }

-- the automaton of the class F with these next states of `read`
abbrev pub with_reads : List ℕ → Automaton
with_reads next = record {
  class_name = codes "F";
  states = codes "opened" ∷ codes "closed" ∷ codes "error" ∷ [];
  initial = 0;
  error = 2;
  events = event_of (codes "read") next ∷ event_of (codes "close") (1 ∷ 1 ∷ 2 ∷ []) ∷ [];
}

abbrev pub read_then_close : Automaton
read_then_close = with_reads (0 ∷ 2 ∷ 2 ∷ [])

abbrev pub one_read : Automaton
one_read = with_reads (1 ∷ 2 ∷ 2 ∷ [])

-- ---- tables

abbrev states : List (List ℕ)
states = codes "opened" ∷ codes "closed" ∷ codes "error" ∷ []

-- the table of an event, and that of a property file: a table's keys stand in byte order
abbrev event_table : List ℕ → List (List ℕ) → Members
event_table name next = member (codes "descriptor") (string (codes "()V")) (member (codes "name") (string name) (member (codes "next") (array (texts next)) no_members))

abbrev closed_table : Members
closed_table = event_table (codes "close") (codes "closed" ∷ codes "closed" ∷ codes "error" ∷ [])

abbrev file_table : List (List ℕ) → Members
file_table next =
    member (codes "class") (string (codes "F")) (
    member (codes "error") (string (codes "error")) (
    member (codes "event") (array (tables (event_table (codes "read") next ∷ closed_table ∷ []))) (
    member (codes "initial") (string (codes "opened")) (
    member (codes "states") (array (texts states)) (
    member (codes "version") (integer (pos 1)) no_members)))))

-- ---- documents

abbrev opened_next : List (List ℕ)
opened_next = codes "opened" ∷ codes "error" ∷ codes "error" ∷ []

abbrev closed_next : List (List ℕ)
closed_next = codes "closed" ∷ codes "error" ∷ codes "error" ∷ []

read_then_close_table : parse_document read_then_close_file ≡ Some (file_table opened_next)
unfolding toml_on_literals
read_then_close_table = refl

one_read_table : parse_document one_read_file ≡ Some (file_table closed_next)
unfolding toml_on_literals
one_read_table = refl

read_then_close_few : leb (length read_then_close_file) document_limit ≡ true
read_then_close_few = refl

one_read_few : leb (length one_read_file) document_limit ≡ true
one_read_few = refl

-- ASCII is UTF-8
ascii_by : (bytes : List ℕ) → list_all (λ (b : ℕ). nat_lt b 128) bytes ≡ true → IsAscii bytes
ascii_by [] e = λ i. omega arith
ascii_by (b ∷ bytes) e =
    let both = and_parts (nat_lt b 128) (list_all (λ (c : ℕ). nat_lt c 128) bytes) e in
    at both.0 (ascii_by bytes both.1)
  where
    at : nat_lt b 128 ≡ true → IsAscii bytes → IsAscii (b ∷ bytes)
    at small more zero = ltb-true _ _ small
    at small more (suc i) = more i

read_then_close_ascii : list_all (λ (b : ℕ). nat_lt b 128) read_then_close_file ≡ true
read_then_close_ascii = refl

one_read_ascii : list_all (λ (b : ℕ). nat_lt b 128) one_read_file ≡ true
one_read_ascii = refl

-- ---- rules

not_two : (a : ℕ) → a ≡ 0 → a ≡ 2 → ⊥
not_two a is e = omega (arith, is, e)

-- what the closing event gives, and the whole, whose next states of `read` these names name
gives_close : GivesEvent states 2 closed_table (event_of (codes "close") (1 ∷ 1 ∷ 2 ∷ []))
gives_close = record {
  name = refl;
  is_method_name = refl;
  descriptor = refl;
  is_method_descriptor = plain_is;
  next = record { names = codes "closed" ∷ codes "closed" ∷ codes "error" ∷ []; value = refl; stand = (refl, (refl, (refl, tt))); total = refl; error_stays = refl };
  no_other = refl;
}

gives : (names : List (List ℕ)) (next : List ℕ) → AllZip (λ name number. slice_get states number ≡ Some name) names next → length next ≡ 3 → slice_get next 2 ≡ Some 2
    → GivesAutomaton (file_table names) (with_reads next)
gives names next stand total error_stays = record {
  parts = record {
    version = record { value = refl };
    class_name = record { value = refl; is_class_name = class_is };
    states = record { value = refl; two_states = omega arith; state_limit = omega arith; state_names = AllPass-from_list_all is_state_name states refl; states_differ = refl };
    initial = record { name = codes "opened"; value = refl; stands = refl };
    error = record { names = record { name = codes "error"; value = refl; stands = refl }; differs = not_two 0 refl };
    events = record {
      event_tables = event_table (codes "read") names ∷ closed_table ∷ [];
      value = refl;
      each = (
        record {
          name = refl;
          is_method_name = refl;
          descriptor = refl;
          is_method_descriptor = plain_is;
          next = record { names = names; value = refl; stand = stand; total = total; error_stays = error_stays };
          no_other = refl;
        },
        (gives_close, tt),
      );
      one_event = omega arith;
      event_limit = omega arith;
      events_differ = refl;
    };
  };
  no_other = refl;
}

-- ---- the files

pub read_then_close_is : IsPropertyFile read_then_close_file read_then_close
read_then_close_is = record {
  members = file_table opened_next;
  document = record { limit = leb-true _ _ read_then_close_few; text = IsUtf8-from_ascii _ (ascii_by read_then_close_file read_then_close_ascii); document = read_then_close_table };
  gives = gives opened_next (0 ∷ 2 ∷ 2 ∷ []) (refl, (refl, (refl, tt))) refl refl;
}

pub one_read_is : IsPropertyFile one_read_file one_read
one_read_is = record {
  members = file_table closed_next;
  document = record { limit = leb-true _ _ one_read_few; text = IsUtf8-from_ascii _ (ascii_by one_read_file one_read_ascii); document = one_read_table };
  gives = gives closed_next (1 ∷ 2 ∷ 2 ∷ []) (refl, (refl, (refl, tt))) refl refl;
}
