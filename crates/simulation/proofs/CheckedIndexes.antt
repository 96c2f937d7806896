-- The index of an instruction of code that was read leads to what it should, and names an array of enough dimensions.
use Rattle.std.proofs.Common.{◌≡◌, ℕ, zero, suc, ◌+◌, Bool, true, false, cond, not, List, ◌∷◌, map, Option, Some, None, Result, Ok, Err, refl, sym, ap, ◌∙◌, subst}
use Rattle.std.specs.List.{list_all, slice_get}
use Rattle.std.specs.Prelude.{option_map}
use Rattle.std.proofs.lemmas.Option.{none-some, same_Some, slice_get-map}
use Rattle.jvm_model.specs.declared.class_file.ClassFile.{ClassFile}
use Rattle.jvm_model.specs.declared.code.Code.{Code}
use Rattle.jvm_model.specs.declared.code.Handler.{Handler}
use Rattle.jvm_model.specs.declared.code.PlacedInstruction.{PlacedInstruction}
use Rattle.jvm_model.specs.declared.pool.PoolEntry.{PoolEntry}
use Rattle.jvm_model.specs.declared.reason.Fault.{Fault}
use Rattle.jvm_model.specs.declared.reason.Reason.{Reason}
use Rattle.jvm_model.specs.declared.reason.Reason.TheVariants.{BadTarget, BadLocal, Subroutine, BadIndex, BadOpcode}
use Rattle.jvm_model.specs.Instructions.{DecodedInstruction, instruction_at}
use Rattle.jvm_model.specs.InstructionUses.{is_subroutine, leads_right, within_dimensions}
use Rattle.jvm_model.specs.Table.{row_of}
use Rattle.byte_reader.specs.Reading.{Place}
use Rattle.code_reader.specs.CodeReading.{Head, given, placed, code_fault, ReadsBody, cut_before, wrong_code, wrong_after, reads, ReadsCode}
use Rattle.code_reader.specs.Division.{Spot, Divides, at_end, stops, goes_on, Locals, within, is_target, has_locals, fault_of, first_or, first_fault}
use Rattle.code_reader.proofs.KnownInstructions.{known_at, read_in}

-- ---- nothing is wrong with a spot's index

none_first : (offset : ℕ) (found : Option Reason) (others : Option (ℕ × Reason)) → first_or offset found others ≡ None → (found ≡ None) × (others ≡ None)
none_first offset (Some reason) others e = absurd cc
none_first offset None others e = (refl, e)

index_right : (pool : List PoolEntry) (locals : Locals) (all : List Spot) (stop : Option (ℕ × Reason)) (s : Spot) → fault_of pool locals all stop s ≡ None
    → leads_right pool s.instruction ≡ true
index_right pool locals all stop s e = by (list_all (is_target all stop) s.instruction.targets) (has_locals locals s) (is_subroutine s.instruction.row.flow) (leads_right pool s.instruction) e
  where
    by : (t l u i : Bool) → cond (not t) (Some BadTarget) (cond (not l) (Some BadLocal) (cond u (Some Subroutine) (cond (not i) (Some BadIndex) None))) ≡ None → i ≡ true
    by false l u i h = absurd cc
    by true false u i h = absurd cc
    by true true true i h = absurd cc
    by true true false false h = absurd cc
    by true true false true h = refl

abbrev read_as : DecodedInstruction → Result DecodedInstruction Reason
read_as i = Ok i

abbrev is_bad : Result DecodedInstruction Reason
is_bad = Err BadOpcode

dimensions_right : (pool : List PoolEntry) (r : Result DecodedInstruction Reason) (i : DecodedInstruction) → within pool r ≡ Ok i → within_dimensions pool i ≡ true
dimensions_right pool (Ok j) i e = by (within_dimensions pool j) refl e
  where
    by : (t : Bool) → within_dimensions pool j ≡ t → cond t (read_as j) is_bad ≡ read_as i → within_dimensions pool i ≡ true
    by true told h = let same : j ≡ i = cc in subst (λ (k : DecodedInstruction). within_dimensions pool k ≡ true) same told
    by false told h = absurd cc
dimensions_right pool (Err reason) i e = absurd cc

-- Its index leads to what it should, and its array has enough dimensions.
record IsChecked (pool : List PoolEntry) (s : Spot) : Type 0 where
  row : row_of s.instruction.opcode ≡ Some s.instruction.row
  leads : leads_right pool s.instruction ≡ true
  within : within_dimensions pool s.instruction ≡ true

each_checked : (pool : List PoolEntry) (code : List ℕ) (locals : Locals) (all : List Spot) (stop : Option (ℕ × Reason)) (from : ℕ) (spots : List Spot) → Divides pool code stop from spots
    → first_fault (fault_of pool locals all stop) stop spots ≡ None → (k : ℕ) (s : Spot) → slice_get spots k ≡ Some s → IsChecked pool s
each_checked pool code locals all stop from spots (at_end o xs end none is) e k s at = absurd (none-some s (sym (ap (λ (ys : List Spot). slice_get ys k) is) ∙ at))
each_checked pool code locals all stop from spots (stops o xs why lt refused early is) e k s at = absurd (none-some s (sym (ap (λ (ys : List Spot). slice_get ys k) is) ∙ at))
each_checked pool code locals all stop from spots (goes_on o xs i others lt read is rest) e k s at =
    let here : Spot = record { offset = from; instruction = i } in
    let told : first_fault (fault_of pool locals all stop) stop (here ∷ others) ≡ None = subst (λ (ys : List Spot). first_fault (fault_of pool locals all stop) stop ys ≡ None) is e in
    let both = none_first from (fault_of pool locals all stop here) (first_fault (fault_of pool locals all stop) stop others) told in
    by k (sym (ap (λ (ys : List Spot). slice_get ys k) is) ∙ at) both.0 (λ j later. each_checked pool code locals all stop (from + i.size) others rest both.1 j s later)
  where
    by : (j : ℕ) → slice_get (record { offset = from; instruction = i } ∷ others) j ≡ Some s → fault_of pool locals all stop (record { offset = from; instruction = i }) ≡ None
        → ((j : ℕ) → slice_get others j ≡ Some s → IsChecked pool s) → IsChecked pool s
    by zero first none deeper =
        let same : record { offset = from; instruction = i } ≡ s = same_Some _ s first in
        subst (IsChecked pool) same (record {
          row = (known_at code from i (read_in pool code from i read)).row;
          leads = index_right pool locals all stop (record { offset = from; instruction = i }) none;
          within = dimensions_right pool (instruction_at code from) i read;
        })
    by (suc j) later none deeper = deeper j later

-- ---- of code that was read

-- an instruction as it is given, with its row
pub record HasCheckedIndex (pool : List PoolEntry) (p : PlacedInstruction) : Type 0 where
  pub decoded : DecodedInstruction
  pub same : p.instruction ≡ given decoded
  pub row : row_of decoded.opcode ≡ Some decoded.row
  pub leads : leads_right pool decoded ≡ true
  pub within : within_dimensions pool decoded ≡ true

abbrev done : Code → Result Code Fault
done x = Ok x

same_done : (x y : Code) → done x ≡ done y → x ≡ y
same_done x y e = cc

abbrev AreChecked : List PoolEntry → Code → Type 0
AreChecked pool code = (k : ℕ) (p : PlacedInstruction) → slice_get code.instructions k ≡ Some p → HasCheckedIndex pool p

abbrev From : List Spot → ℕ → PlacedInstruction → Type 0
From spots k p = (s : Spot) × (slice_get spots k ≡ Some s) × (placed s ≡ p)

some_spot : (spots : List Spot) (k : ℕ) (p : PlacedInstruction) → slice_get (map placed spots) k ≡ Some p → From spots k p
some_spot spots k p at = by (slice_get spots k) refl (sym (slice_get-map placed spots k) ∙ at)
  where
    by : (o : Option Spot) → slice_get spots k ≡ o → option_map placed o ≡ Some p → From spots k p
    by None e h = absurd (none-some p h)
    by (Some s) e h = (s, e, same_Some (placed s) p h)

checked_in : (pool : List PoolEntry) (parameters : ℕ) (head : Head) (spots : List Spot) (stop : Option (ℕ × Reason)) (handlers : List Handler) → Divides pool head.bytes stop 0 spots
    → code_fault pool parameters head spots stop ≡ None
    → AreChecked pool (record { at = head.at; instructions = map placed spots; handlers = handlers; max_stack = head.max_stack; max_locals = head.max_locals })
checked_in pool parameters head spots stop handlers divided none k p at =
    let (s, there, is) = some_spot spots k p at in
    let checked = each_checked pool head.bytes (record { limit = head.max_locals; parameters = parameters }) spots stop 0 spots divided none k s there in
    subst (HasCheckedIndex pool) is (record { decoded = s.instruction; same = refl; row = checked.row; leads = checked.leads; within = checked.within })

by_body : (pool : List PoolEntry) (parameters : ℕ) (place : Place) (code : Code) (outcome : Result Code Fault) → outcome ≡ Ok code → ReadsBody pool parameters place outcome → AreChecked pool code
by_body pool parameters place code outcome ok (cut_before f e is) = absurd (cc (is, ok))
by_body pool parameters place code outcome ok (wrong_code head after spots stop offset reason b told is) = absurd (cc (is, ok))
by_body pool parameters place code outcome ok (wrong_after head after spots stop f b none told is) = absurd (cc (is, ok))
by_body pool parameters place code outcome ok (reads head after spots stop handlers b none told is) =
    subst (AreChecked pool) (sym (same_done code _ (sym ok ∙ is))) (checked_in pool parameters head spots stop handlers b.divided none)

pub has_checked_index : (c : ClassFile) (method : ℕ) (code : Code) → ReadsCode c method (Ok code) → (k : ℕ) (p : PlacedInstruction) → slice_get code.instructions k ≡ Some p
    → HasCheckedIndex c.pool p
has_checked_index c method code read k p at = by_body c.pool read.parameters _ code (Ok code) refl read.body k p at
