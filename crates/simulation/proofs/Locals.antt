-- The local variables that an instruction of code uses are there, and so are those of the parameters.
use Rattle.std.proofs.Common.{◌≡◌, ℕ, zero, suc, ◌+◌, ◌≤◌, Bool, true, false, cond, ◌&&◌, ◌||◌, not, List, ◌∷◌, length, map, Option, Some, None, Result, Ok, refl, sym, ap, ◌∙◌, subst, arith}
use Rattle.std.specs.List.{list_all, slice_get}
use Rattle.std.specs.Prelude.{nat_eq, nat_le, option_map}
use Rattle.std.proofs.lemmas.Bool.{leb-true, eqb-true}
use Rattle.std.proofs.lemmas.Option.{none-some, same_Some, slice_get-map}
use Rattle.jvm_model.specs.declared.class_file.ClassFile.{ClassFile}
use Rattle.jvm_model.specs.declared.code.Code.{Code}
use Rattle.jvm_model.specs.declared.code.Handler.{Handler}
use Rattle.jvm_model.specs.declared.code.PlacedInstruction.{PlacedInstruction}
use Rattle.jvm_model.specs.declared.pool.PoolEntry.{PoolEntry}
use Rattle.jvm_model.specs.declared.reason.Fault.{Fault}
use Rattle.jvm_model.specs.declared.reason.Reason.{Reason}
use Rattle.jvm_model.specs.declared.reason.Reason.TheVariants.{BadTarget, BadLocal, Subroutine, BadIndex}
use Rattle.jvm_model.specs.Instructions.{DecodedInstruction}
use Rattle.jvm_model.specs.InstructionUses.{is_subroutine, leads_right, locals_fit, names_local, local_units}
use Rattle.jvm_model.specs.Table.{row_of}
use Rattle.byte_reader.specs.Reading.{Place}
use Rattle.code_reader.specs.CodeReading.{Head, given, placed, code_fault, ReadsBody, cut_before, wrong_code, wrong_after, reads, ReadsCode}
use Rattle.code_reader.specs.Division.{Spot, Divides, at_end, stops, goes_on, Locals, is_target, has_locals, fault_of, first_or, first_fault}
use Rattle.code_reader.proofs.KnownInstructions.{known_at, read_in}

-- ---- nothing is wrong with a spot's local variables

none_first : (offset : ℕ) (found : Option Reason) (others : Option (ℕ × Reason)) → first_or offset found others ≡ None → (found ≡ None) × (others ≡ None)
none_first offset (Some reason) others e = absurd cc
none_first offset None others e = (refl, e)

locals_right : (pool : List PoolEntry) (locals : Locals) (all : List Spot) (stop : Option (ℕ × Reason)) (s : Spot) → fault_of pool locals all stop s ≡ None → has_locals locals s ≡ true
locals_right pool locals all stop s e = by (list_all (is_target all stop) s.instruction.targets) (has_locals locals s) e
  where
    by : (t l : Bool) → cond (not t) (Some BadTarget) (cond (not l) (Some BadLocal) (cond (is_subroutine s.instruction.row.flow) (Some Subroutine) (cond (not (leads_right pool s.instruction)) (Some BadIndex) None))) ≡ None → l ≡ true
    by false l h = absurd cc
    by true false h = absurd cc
    by true true h = refl

record IsRight (locals : Locals) (s : Spot) : Type 0 where
  there : has_locals locals s ≡ true
  row : row_of s.instruction.opcode ≡ Some s.instruction.row

each_right : (pool : List PoolEntry) (code : List ℕ) (locals : Locals) (all : List Spot) (stop : Option (ℕ × Reason)) (from : ℕ) (spots : List Spot) → Divides pool code stop from spots
    → first_fault (fault_of pool locals all stop) stop spots ≡ None → (k : ℕ) (s : Spot) → slice_get spots k ≡ Some s → IsRight locals s
each_right pool code locals all stop from spots (at_end o xs end none is) e k s at = absurd (none-some s (sym (ap (λ (ys : List Spot). slice_get ys k) is) ∙ at))
each_right pool code locals all stop from spots (stops o xs why lt refused early is) e k s at = absurd (none-some s (sym (ap (λ (ys : List Spot). slice_get ys k) is) ∙ at))
each_right pool code locals all stop from spots (goes_on o xs i others lt read is rest) e k s at =
    let here : Spot = record { offset = from; instruction = i } in
    let told : first_fault (fault_of pool locals all stop) stop (here ∷ others) ≡ None = subst (λ (ys : List Spot). first_fault (fault_of pool locals all stop) stop ys ≡ None) is e in
    let both = none_first from (fault_of pool locals all stop here) (first_fault (fault_of pool locals all stop) stop others) told in
    by k (sym (ap (λ (ys : List Spot). slice_get ys k) is) ∙ at) both.0 (λ j later. each_right pool code locals all stop (from + i.size) others rest both.1 j s later)
  where
    by : (j : ℕ) → slice_get (record { offset = from; instruction = i } ∷ others) j ≡ Some s → fault_of pool locals all stop (record { offset = from; instruction = i }) ≡ None
        → ((j : ℕ) → slice_get others j ≡ Some s → IsRight locals s) → IsRight locals s
    by zero first none deeper =
        let same : record { offset = from; instruction = i } ≡ s = same_Some _ s first in
        let known = known_at code from i (read_in pool code from i read) in
        subst (IsRight locals) same (record { there = locals_right pool locals all stop (record { offset = from; instruction = i }) none; row = known.row })
    by (suc j) later none deeper = deeper j later

-- ---- of code that was read

-- an instruction as it is given, with its row, whose local variables are there
pub record UsesLocals (limit : ℕ) (p : PlacedInstruction) : Type 0 where
  pub decoded : DecodedInstruction
  pub same : p.instruction ≡ given decoded
  pub row : row_of decoded.opcode ≡ Some decoded.row
  pub fits : locals_fit limit decoded ≡ true

abbrev done : Code → Result Code Fault
done x = Ok x

same_done : (x y : Code) → done x ≡ done y → x ≡ y
same_done x y e = cc

-- each instruction's are there, and at the first one the parameters'
record AreThere (parameters : ℕ) (code : Code) : Type 0 where
  each : (k : ℕ) (p : PlacedInstruction) → slice_get code.instructions k ≡ Some p → UsesLocals code.max_locals p
  first : (p : PlacedInstruction) → slice_get code.instructions 0 ≡ Some p → p.offset ≡ 0 → parameters ≤ code.max_locals

left_of : (a b : Bool) → (a && b) ≡ true → a ≡ true
left_of true b e = refl
left_of false b e = absurd cc

right_of : (a b : Bool) → (a && b) ≡ true → b ≡ true
right_of true b e = e
right_of false b e = absurd cc

abbrev From : List Spot → ℕ → PlacedInstruction → Type 0
From spots k p = (s : Spot) × (slice_get spots k ≡ Some s) × (placed s ≡ p)

some_spot : (spots : List Spot) (k : ℕ) (p : PlacedInstruction) → slice_get (map placed spots) k ≡ Some p → From spots k p
some_spot spots k p at = by (slice_get spots k) refl (sym (slice_get-map placed spots k) ∙ at)
  where
    by : (o : Option Spot) → slice_get spots k ≡ o → option_map placed o ≡ Some p → From spots k p
    by None e h = absurd (none-some p h)
    by (Some s) e h = (s, e, same_Some (placed s) p h)

there_in : (pool : List PoolEntry) (parameters : ℕ) (head : Head) (spots : List Spot) (stop : Option (ℕ × Reason)) (handlers : List Handler) → Divides pool head.bytes stop 0 spots
    → code_fault pool parameters head spots stop ≡ None
    → AreThere parameters (record { at = head.at; instructions = map placed spots; handlers = handlers; max_stack = head.max_stack; max_locals = head.max_locals })
there_in pool parameters head spots stop handlers divided none = record {
  each = λ k p at. of_each k p (some_spot spots k p at);
  first = λ p at start. of_first p start (some_spot spots 0 p at);
}
  where
    right : (k : ℕ) (s : Spot) → slice_get spots k ≡ Some s → IsRight (record { limit = head.max_locals; parameters = parameters }) s
    right k s at = each_right pool head.bytes (record { limit = head.max_locals; parameters = parameters }) spots stop 0 spots divided none k s at

    of_each : (k : ℕ) (p : PlacedInstruction) → From spots k p → UsesLocals head.max_locals p
    of_each k p f =
        let r = right k f.0 f.1 in
        subst (UsesLocals head.max_locals) f.2 (record {
          decoded = f.0.instruction;
          same = refl;
          row = r.row;
          fits = left_of (locals_fit head.max_locals f.0.instruction) (not (nat_eq f.0.offset 0) || nat_le parameters head.max_locals) r.there;
        })

    of_first : (p : PlacedInstruction) → p.offset ≡ 0 → From spots 0 p → parameters ≤ head.max_locals
    of_first p start f =
        let r = right 0 f.0 f.1 in
        let at : f.0.offset ≡ 0 = ap (λ (q : PlacedInstruction). q.offset) f.2 ∙ start in
        let both = right_of (locals_fit head.max_locals f.0.instruction) (not (nat_eq f.0.offset 0) || nat_le parameters head.max_locals) r.there in
        let tested : (not (nat_eq 0 0) || nat_le parameters head.max_locals) ≡ true = subst (λ (o : ℕ). (not (nat_eq o 0) || nat_le parameters head.max_locals) ≡ true) at both in
        leb-true parameters head.max_locals tested

by_body : (pool : List PoolEntry) (parameters : ℕ) (place : Place) (code : Code) (outcome : Result Code Fault) → outcome ≡ Ok code → ReadsBody pool parameters place outcome → AreThere parameters code
by_body pool parameters place code outcome ok (cut_before f e is) = absurd (cc (is, ok))
by_body pool parameters place code outcome ok (wrong_code head after spots stop offset reason b told is) = absurd (cc (is, ok))
by_body pool parameters place code outcome ok (wrong_after head after spots stop f b none told is) = absurd (cc (is, ok))
by_body pool parameters place code outcome ok (reads head after spots stop handlers b none told is) =
    subst (AreThere parameters) (sym (same_done code _ (sym ok ∙ is))) (there_in pool parameters head spots stop handlers b.divided none)

pub uses_locals : (c : ClassFile) (method : ℕ) (code : Code) → ReadsCode c method (Ok code) → (k : ℕ) (p : PlacedInstruction) → slice_get code.instructions k ≡ Some p → UsesLocals code.max_locals p
uses_locals c method code read k p at = (by_body c.pool read.parameters _ code (Ok code) refl read.body).each k p at

pub parameters_there : (c : ClassFile) (method : ℕ) (code : Code) (read : ReadsCode c method (Ok code)) (p : PlacedInstruction) → slice_get code.instructions 0 ≡ Some p → p.offset ≡ 0 → read.parameters ≤ code.max_locals
parameters_there c method code read p at start = (by_body c.pool read.parameters _ code (Ok code) refl read.body).first p at start

-- ---- by the row and the operand alone

-- what an instruction stores fits the local variables, if its operands name one
pub stores_fit : (limit : ℕ) (i : DecodedInstruction) → locals_fit limit i ≡ true → names_local i.row.operands ≡ true → i.operand + length i.row.stores ≤ limit
stores_fit limit i fits names =
    let tested : nat_le (i.operand + local_units i.row) limit ≡ true = by (names_local i.row.operands) names fits in
    let le : i.operand + local_units i.row ≤ limit = leb-true (i.operand + local_units i.row) limit tested in
    omega (arith, le, units_enough (nat_eq (length i.row.pushes + length i.row.stores) 0) refl)
  where
    by : (b : Bool) → b ≡ true → (not b || nat_le (i.operand + local_units i.row) limit) ≡ true → nat_le (i.operand + local_units i.row) limit ≡ true
    by true e h = h
    by false e h = absurd cc

    units_enough : (b : Bool) → nat_eq (length i.row.pushes + length i.row.stores) 0 ≡ b → length i.row.stores ≤ cond b 1 (length i.row.pushes + length i.row.stores)
    units_enough true e = let none = eqb-true (length i.row.pushes + length i.row.stores) 0 e in omega (arith, none)
    units_enough false e = omega arith
