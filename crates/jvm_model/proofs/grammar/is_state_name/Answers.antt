use Rattle.std.proofs.Common.{rules, tests, ◌≡◌, ◌<◌, ◌≤◌, length, Bool, ℕ, List, arith}
use Rattle.std.specs.List.{list_all}
use Rattle.std.proofs.lemmas.Iterator.{YieldsList-from_slice}
use Rattle.std.proofs.lemmas.Iterator.Search.{all_from_yields_List}
use Rattle.std.proofs.lemmas.Bool.{le-leb}
use Rattle.jvm_model.specs.Automata.{is_state_byte, is_state_name}
use Rattle.jvm_model.proofs.grammar.is_state_name.Goals as goal

-- A text of 1 to 64 bytes is the name of a state exactly if all its bytes are state bytes.
within_limits : (r : Bool) (name : List ℕ) → 0 < length name → length name ≤ 64 → r ≡ list_all is_state_byte name → r ≡ is_state_name name
within_limits r name low high all = rw (le-leb 1 (length name) (omega arith), le-leb (length name) 64 high) all

pub returns-then-name-le64 : goal.returns-then-name-le64
returns-then-name-le64 c =
    let all = all_from_yields_List is_state_byte _ _ c.all.result c.all.ensures.ran (YieldsList-from_slice c.args.name.now cc) (λ x b q k. search (rules, tests)) in
    within_limits c.all.result c.args.name.now (search (rules, tests)) (search (rules, tests)) all
