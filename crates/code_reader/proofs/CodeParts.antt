-- The parts of a body whose code is read: each instruction of it is one of the machine's.
use Rattle.std.proofs.Common.{◌≡◌, ℕ, zero, suc, ◌+◌, ◌≤◌, List, [], ◌∷◌, length, map, Option, Some, None, slice_get, Result, Ok, refl, sym, ap, ◌∙◌, subst, arith}
use Rattle.std.proofs.lemmas.Option.{same_Some}
use Rattle.jvm_model.specs.declared.code.Code.{Code}
use Rattle.jvm_model.specs.declared.code.Handler.{Handler}
use Rattle.jvm_model.specs.declared.code.PlacedInstruction.{PlacedInstruction}
use Rattle.jvm_model.specs.declared.pool.PoolEntry.{PoolEntry}
use Rattle.jvm_model.specs.declared.reason.Reason.{Reason}
use Rattle.jvm_model.specs.Instructions.{DecodedInstruction, instruction_at}
use Rattle.jvm_model.specs.declared.reason.Fault.{Fault}
use Rattle.byte_reader.specs.Reading.{Place}
use Rattle.byte_reader.proofs.Fields.{one_ok}
use Rattle.code_reader.specs.CodeReading.{Head, head_at, tail_at, given, placed, ReadsBody, cut_before, wrong_code, wrong_after, reads}
use Rattle.code_reader.specs.Division.{Spot, Divides, at_end, stops, goes_on, first_or, first_fault}
use Rattle.code_reader.proofs.Sizes.{read_there}

-- nothing is wrong only where the division goes to the end
no_stop : (test : Spot → Option Reason) (stop : Option (ℕ × Reason)) (spots : List Spot) → first_fault test stop spots ≡ None → stop ≡ None
no_stop test stop [] e = e
no_stop test stop (s ∷ spots) e = no_stop test stop spots (later (test s) e)
  where
    later : (r : Option Reason) → first_or s.offset r (first_fault test stop spots) ≡ None → first_fault test stop spots ≡ None
    later None f = f
    later (Some reason) f = absurd cc

abbrev code_of : Head → List Spot → List Handler → Code
code_of head spots handlers = record { at = head.at; instructions = map placed spots; handlers = handlers; max_stack = head.max_stack; max_locals = head.max_locals }

pub record HasParts (pool : List PoolEntry) (place : Place) (code : Code) : Type 0 where
  pub head : Head
  pub after : Place
  pub spots : List Spot
  pub begins : head_at place ≡ Ok (head, after)
  pub divided : Divides pool head.bytes None 0 spots
  pub tail : tail_at pool (length head.bytes) spots after ≡ Ok code.handlers
  pub at : code.at ≡ head.at
  pub instructions : code.instructions ≡ map placed spots
  pub max_stack : code.max_stack ≡ head.max_stack
  pub max_locals : code.max_locals ≡ head.max_locals

pub parts_of : (pool : List PoolEntry) (parameters : ℕ) (place : Place) (code : Code) (outcome : Result Code Fault) → outcome ≡ Ok code → ReadsBody pool parameters place outcome → HasParts pool place code
parts_of pool parameters place code outcome ok (cut_before f e is) = absurd (cc (is, ok))
parts_of pool parameters place code outcome ok (wrong_code head after spots stop offset reason b told is) = absurd (cc (is, ok))
parts_of pool parameters place code outcome ok (wrong_after head after spots stop f b none told is) = absurd (cc (is, ok))
parts_of pool parameters place code outcome ok (reads head after spots stop handlers b none told is) =
    let same : code ≡ code_of head spots handlers = one_ok outcome code (code_of head spots handlers) ok is in
    record {
      head = head;
      after = after;
      spots = spots;
      begins = b.begins;
      divided = subst (λ (s : Option (ℕ × Reason)). Divides pool head.bytes s 0 spots) (no_stop _ stop spots none) b.divided;
      tail = told ∙ ap (λ (x : Code). Ok x.handlers) (sym same);
      at = ap (λ (x : Code). x.at) same;
      instructions = ap (λ (x : Code). x.instructions) same;
      max_stack = ap (λ (x : Code). x.max_stack) same;
      max_locals = ap (λ (x : Code). x.max_locals) same;
    }

-- ---- the instructions

-- an instruction of a list stands in the code, the next one where it ends, and the last one at the code's end
pub record Stands (code : List ℕ) (instructions : List PlacedInstruction) (k : ℕ) (p : PlacedInstruction) : Type 0 where
  pub i : DecodedInstruction
  pub is : instruction_at code p.offset ≡ Ok i
  pub same : p.instruction ≡ given i
  pub next : (q : PlacedInstruction) → slice_get instructions (suc k) ≡ Some q → q.offset ≡ p.offset + i.size
  pub last : slice_get instructions (suc k) ≡ None → p.offset + i.size ≡ length code

abbrev first_placed : List Spot → Option PlacedInstruction
first_placed spots = slice_get (map placed spots) 0

-- the first instruction that is divided from an offset on stands there
pub first_there : (pool : List PoolEntry) (code : List ℕ) (offset : ℕ) (spots : List Spot) → Divides pool code None offset spots → (p : PlacedInstruction) → first_placed spots ≡ Some p → p.offset ≡ offset
first_there pool code offset spots (at_end o xs end none is) p e = let nothing : None ≡ Some p = sym (ap first_placed is) ∙ e in absurd cc
first_there pool code offset spots (stops o xs why lt refused early is) p e = absurd cc
first_there pool code offset spots (goes_on o xs i others lt read is rest) p e = sym (ap (λ (q : PlacedInstruction). q.offset) (same_Some _ _ (sym (ap first_placed is) ∙ e)))

-- where none is, the code ends there
end_there : (pool : List PoolEntry) (code : List ℕ) (offset : ℕ) (spots : List Spot) → Divides pool code None offset spots → first_placed spots ≡ None → offset ≡ length code
end_there pool code offset spots (at_end o xs end none is) e = end
end_there pool code offset spots (stops o xs why lt refused early is) e = absurd cc
end_there pool code offset spots (goes_on o xs i others lt read is rest) e = let some = sym (ap first_placed is) ∙ e in absurd cc

-- there is one before the end
pub some_there : (pool : List PoolEntry) (code : List ℕ) (spots : List Spot) → 1 ≤ length code → Divides pool code None 0 spots → (p : PlacedInstruction) × (first_placed spots ≡ Some p) × (p.offset ≡ 0)
some_there pool code spots some d = by (first_placed spots) refl
  where
    by : (o : Option PlacedInstruction) → first_placed spots ≡ o → (p : PlacedInstruction) × (first_placed spots ≡ Some p) × (p.offset ≡ 0)
    by None e = absurd (omega (arith, end_there pool code 0 spots d e, some))
    by (Some p) e = (p, e, first_there pool code 0 spots d p e)

pub stands : (pool : List PoolEntry) (code : List ℕ) (offset : ℕ) (spots : List Spot) → Divides pool code None offset spots → (k : ℕ) (p : PlacedInstruction) → slice_get (map placed spots) k ≡ Some p → Stands code (map placed spots) k p
stands pool code offset spots (at_end o xs end none is) k p e = let nothing : None ≡ Some p = sym (ap (λ (ys : List Spot). slice_get (map placed ys) k) is) ∙ e in absurd cc
stands pool code offset spots (stops o xs why lt refused early is) k p e = absurd cc
stands pool code offset spots (goes_on o xs i others lt read is rest) zero p e =
    let s : Spot = record { offset = offset; instruction = i } in
    let same : placed s ≡ p = same_Some _ _ (sym (ap first_placed is) ∙ e) in
    let here : Stands code (placed s ∷ map placed others) 0 (placed s) = record {
      i = i;
      is = read_there pool code offset i read;
      same = refl;
      next = λ q at. first_there pool code (offset + i.size) others rest q at;
      last = λ at. end_there pool code (offset + i.size) others rest at;
    } in
    subst (λ (ys : List Spot). Stands code (map placed ys) 0 p) (sym is) (subst (Stands code (placed s ∷ map placed others) 0) same here)
stands pool code offset spots (goes_on o xs i others lt read is rest) (suc k) p e =
    let s : Spot = record { offset = offset; instruction = i } in
    let t = stands pool code (offset + i.size) others rest k p (sym (ap (λ (ys : List Spot). slice_get (map placed ys) (suc k)) is) ∙ e) in
    let here : Stands code (placed s ∷ map placed others) (suc k) p = record { i = t.i; is = t.is; same = t.same; next = t.next; last = t.last } in
    subst (λ (ys : List Spot). Stands code (map placed ys) (suc k) p) (sym is) here
