-- Public contracts rest on this module.
-- The transfer of facts at a stage: what nodes, ways, events and calls do; then the normal form of the stage; then the limit on paths.
use Rattle.std.specs.Prelude.{ℕ, nat_eq, nat_lt, true, ◌||◌, List, [], length, map, take, Option, if◌then◌else◌}
use Rattle.jvm_model.specs.declared.number.MethodNo.{MethodNo}
use Rattle.op_model.specs.declared.lowered.LoweredMethod.{LoweredMethod}
use Rattle.op_model.specs.declared.node.Node.{Node}
use Rattle.op_model.specs.declared.op.Call.{Call as NodeCall}
use Rattle.access_paths.specs.Paths.{most_paths}
use Rattle.stage_facts.specs.Facts.{Tuple, SiteFact, none_yet, some_yet, of_object}
use Rattle.stage_transfer.specs.Settings.{Setting}
use Rattle.stage_transfer.specs.Operations.{after_operation}
use Rattle.stage_transfer.specs.Exceptions.{after_raise}
use Rattle.stage_transfer.specs.Calls.{Entering, Result, after_answer, after_exception, call_facts, entered_fact, left_fact}

-- What a stage does with facts: on the way to a successor, with a return as the way out of its method; where an object is thrown, into a handler at an
-- offset or out of the method; at the event of a call; with a result and with an exception of a described method, which keeps some slots; where a method
-- is entered, and where it is left.
pub record Transfer : Type 0 where
  pub next : LoweredMethod → Node → SiteFact → List SiteFact
  pub raise : LoweredMethod → Node → (handler : Option ℕ) → SiteFact → List SiteFact
  pub event : LoweredMethod → Node → NodeCall → SiteFact → List SiteFact
  pub answer : LoweredMethod → Node → NodeCall → (kept : List ℕ) → Result → SiteFact → List SiteFact
  pub exception : LoweredMethod → Node → (kept : List ℕ) → (handler : Option ℕ) → SiteFact → List SiteFact
  pub enter : Entering → SiteFact → SiteFact
  pub leave : LoweredMethod → Node → Entering → (target : MethodNo) → (caller exit : SiteFact) → SiteFact

-- ---- normal forms

-- The second stage knows no paths, and the third no paths that do not refer to the object.
abbrev pub normal : (stage : ℕ) → Tuple → Tuple
normal stage t =
    if nat_eq stage 2 then record { unique = t.unique; state = t.state; must = []; may = true; must_not = [] }
    else if nat_eq stage 3 then record { unique = t.unique; state = t.state; must = t.must; may = t.may; must_not = [] }
    else t

-- A set keeps its least paths. A must path that is left out sets may.
abbrev pub limited : Tuple → Tuple
limited t = record {
  unique = t.unique;
  state = t.state;
  must = take most_paths t.must;
  may = t.may || nat_lt most_paths (length t.must);
  must_not = take most_paths t.must_not;
}

abbrev pub finished : Setting → SiteFact → SiteFact
finished w none_yet = none_yet
finished w some_yet = some_yet
finished w (of_object t) = of_object (limited (normal w.stage t))

-- ---- the transfer

abbrev pub transfer_of : Setting → Transfer
transfer_of w = record {
  next = λ l n fact. map (finished w) (after_operation w l n n.op fact);
  raise = λ l n handler fact. map (finished w) (after_raise w l n handler fact);
  event = λ l n c fact. map (finished w) (call_facts w l n c fact);
  answer = λ l n c kept result fact. map (finished w) (after_answer w l n c kept result fact);
  exception = λ l n kept handler fact. map (finished w) (after_exception w l n kept handler fact);
  enter = λ by fact. finished w (entered_fact by fact);
  leave = λ l n by target caller exit. finished w (left_fact w l n by target caller exit);
}
