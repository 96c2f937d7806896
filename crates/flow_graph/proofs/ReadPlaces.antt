-- Where the instructions of code that was read stand, and that branches and handlers lead to them.
use Rattle.std.proofs.Common.{◌≡◌, ℕ, zero, suc, ◌+◌, ◌<◌, ◌≤◌, Bool, true, false, cond, not, ◌&&◌, ◌||◌, eqb, ltb, List, [], ◌∷◌, length, map, get_or, take, drop, Option, Some, None, Result, Ok, Err, refl, sym, ap, ◌∙◌, subst, arith}
use Rattle.std.specs.Int.{w16, w32}
use Rattle.std.specs.List.{AllByRecursion, list_any, list_all, position_or_len, slice_get}
use Rattle.std.proofs.lemmas.Bool.{ltb-false, eqb-true, eq-eqb}
use Rattle.std.proofs.lemmas.List.{length-take}
use Rattle.std.proofs.lemmas.List.Quantifiers.{position-Some}
use Rattle.std.proofs.lemmas.Option.{slice_get-get_or}
use Rattle.jvm_model.specs.declared.class_file.ClassFile.{ClassFile}
use Rattle.jvm_model.specs.declared.code.Code.{Code}
use Rattle.jvm_model.specs.declared.code.Handler.{Handler}
use Rattle.jvm_model.specs.declared.code.PlacedInstruction.{PlacedInstruction}
use Rattle.jvm_model.specs.declared.pool.PoolEntry.{PoolEntry}
use Rattle.jvm_model.specs.declared.reason.Reason.{Reason}
use Rattle.jvm_model.specs.declared.reason.Reason.TheVariants.{CodeCut, Truncated}
use Rattle.jvm_model.specs.declared.reason.Fault.{Fault}
use Rattle.byte_reader.specs.Reading.{Place, ◌>>=◌, number_at, bytes_at}
use Rattle.code_reader.specs.CodeReading.{Head, code_length_at, head_at, known_targets, placed}
use Rattle.code_reader.specs.Division.{Spot, Divides, at_end, stops, goes_on, Locals, starts, is_target, first_or, first_fault, fault_of}
use Rattle.code_reader.proofs.Sizes.{inside}
use Rattle.flow_graph.specs.Flows.{number_of}
use Rattle.flow_graph.specs.Graphing.{IsCodeOf}
use Rattle.flow_graph.proofs.ReadHandlers.{all_handlers}
use Rattle.flow_graph.proofs.ReadParts.{parts, place_of, AreSpots, spots_of, read_as, bind_ok, ok_is, unless_ok}
use Rattle.flow_graph.proofs.Stepping.{Ascend}

-- ---- numbers of offsets

pub record HasNumber (instructions : List PlacedInstruction) (offset : ℕ) : Type 0 where
  pub number : ℕ
  pub is : number_of instructions offset ≡ Some number

abbrev at_offset : ℕ → PlacedInstruction → Bool
at_offset offset p = eqb p.offset offset

any_below : (ps : List PlacedInstruction) (offset : ℕ) → list_any (at_offset offset) ps ≡ true → position_or_len (at_offset offset) ps < length ps
any_below [] offset e = absurd cc
any_below (p ∷ ps) offset e = by (at_offset offset p) (λ h. any_below ps offset h) e
  where
    by : (b : Bool) → (list_any (at_offset offset) ps ≡ true → position_or_len (at_offset offset) ps < length ps) → (b || list_any (at_offset offset) ps) ≡ true
        → cond (not b) (1 + position_or_len (at_offset offset) ps) 0 < suc (length ps)
    by true more h = omega arith
    by false more h = omega (arith, more h)

pub number_there : (ps : List PlacedInstruction) (offset : ℕ) → list_any (at_offset offset) ps ≡ true → HasNumber ps offset
number_there ps offset e =
    let n = position_or_len (at_offset offset) ps in
    record { number = n; is = by (ltb n (length ps)) refl }
  where
    by : (b : Bool) → ltb (position_or_len (at_offset offset) ps) (length ps) ≡ b → cond b (Some (position_or_len (at_offset offset) ps)) None ≡ Some (position_or_len (at_offset offset) ps)
    by true h = refl
    by false h = absurd (omega (arith, any_below ps offset e, ltb-false (position_or_len (at_offset offset) ps) (length ps) h))

-- the instruction of a number
pub record IsNumbered (ps : List PlacedInstruction) (offset k : ℕ) : Type 0 where
  pub placed : PlacedInstruction
  pub stands : slice_get ps k ≡ Some placed
  pub offset_is : placed.offset ≡ offset

pub numbered : (ps : List PlacedInstruction) (offset k : ℕ) → number_of ps offset ≡ Some k → IsNumbered ps offset k
numbered [] offset k e = absurd cc
numbered (q ∷ ps) offset k e =
    let f = position-Some (at_offset offset) (q ∷ ps) k q e in
    record { placed = get_or (q ∷ ps) k q; stands = slice_get-get_or (q ∷ ps) k q f.0; offset_is = eqb-true (get_or (q ∷ ps) k q).offset offset f.1 }

-- an instruction's own offset has a number
pub own_number : (ps : List PlacedInstruction) (k : ℕ) (p : PlacedInstruction) → slice_get ps k ≡ Some p → list_any (at_offset p.offset) ps ≡ true
own_number [] k p is = absurd cc
own_number (q ∷ ps) zero p is =
    let same : q ≡ p = cc is in
    ap (λ (b : Bool). b || list_any (at_offset p.offset) ps) (eq-eqb q.offset p.offset (ap (λ (y : PlacedInstruction). y.offset) same))
own_number (q ∷ ps) (suc k) p is = ap (λ (b : Bool). at_offset p.offset q || b) (own_number ps k p is) ∙ or_true (at_offset p.offset q)
  where
    or_true : (b : Bool) → (b || true) ≡ true
    or_true true = refl
    or_true false = refl

starts_placed : (spots : List Spot) (offset : ℕ) → list_any (at_offset offset) (map placed spots) ≡ starts spots offset
starts_placed [] offset = refl
starts_placed (s ∷ spots) offset = ap (λ (b : Bool). eqb s.offset offset || b) (starts_placed spots offset)

started : (spots : List Spot) (offset : ℕ) → starts spots offset ≡ true → HasNumber (map placed spots) offset
started spots offset e = number_there (map placed spots) offset (starts_placed spots offset ∙ e)

-- ---- the division

no_stop : (test : Spot → Option Reason) (stop : Option (ℕ × Reason)) (spots : List Spot) → first_fault test stop spots ≡ None → stop ≡ None
no_stop test stop [] e = e
no_stop test stop (s ∷ spots) e = no_stop test stop spots (rest (test s) (first_fault test stop spots) e)
  where
    rest : (found : Option Reason) (others : Option (ℕ × Reason)) → first_or s.offset found others ≡ None → others ≡ None
    rest (Some r) others h = absurd cc
    rest None others h = h

abbrev From : ℕ → List PlacedInstruction → Type 0
From from instructions = AllByRecursion (λ (q : PlacedInstruction). from ≤ q.offset) instructions

after : (from next : ℕ) (instructions : List PlacedInstruction) → from < next → From next instructions → AllByRecursion (λ (q : PlacedInstruction). from < q.offset) instructions
after from next [] lt all = tt
after from next (q ∷ instructions) lt all = (omega (arith, lt, all.0), after from next instructions lt all.1)

from_less : (from next : ℕ) (instructions : List PlacedInstruction) → from ≤ next → From next instructions → From from instructions
from_less from next [] le all = tt
from_less from next (q ∷ instructions) le all = (omega (arith, le, all.0), from_less from next instructions le all.1)

record Ordered (from : ℕ) (instructions : List PlacedInstruction) : Type 0 where
  pub later : From from instructions
  pub ascend : Ascend instructions

ordered : (pool : List PoolEntry) (code : List ℕ) (stop : Option (ℕ × Reason)) (from : ℕ) (spots : List Spot) → Divides pool code stop from spots → Ordered from (map placed spots)
ordered pool code stop from spots (at_end o xs end none is) = subst (λ (ys : List Spot). Ordered from (map placed ys)) (sym is) (record { later = tt; ascend = tt })
ordered pool code stop from spots (stops o xs why lt refused early is) = subst (λ (ys : List Spot). Ordered from (map placed ys)) (sym is) (record { later = tt; ascend = tt })
ordered pool code stop from spots (goes_on o xs i others lt read is rest) =
    let size = inside pool code from i lt read in
    let more = ordered pool code stop (from + i.size) others rest in
    subst (λ (ys : List Spot). Ordered from (map placed ys)) (sym is) (record {
      later = (omega arith, from_less from (from + i.size) (map placed others) (omega arith) more.later);
      ascend = (after from (from + i.size) (map placed others) (omega (arith, size.0)) more.later, more.ascend);
    })

-- the first one stands at the first byte
pub record HasFirst (instructions : List PlacedInstruction) : Type 0 where
  pub placed : PlacedInstruction
  pub stands : slice_get instructions 0 ≡ Some placed
  pub offset_is : placed.offset ≡ 0

has_first : (pool : List PoolEntry) (code : List ℕ) (stop : Option (ℕ × Reason)) (spots : List Spot) → 1 ≤ length code → stop ≡ None → Divides pool code stop 0 spots → HasFirst (map placed spots)
has_first pool code stop spots some none (at_end o xs end no_fault is) = absurd (omega (arith, end, some))
has_first pool code stop spots some none (stops o xs why lt refused early is) = absurd (cc (none, early))
has_first pool code stop spots some none (goes_on o xs i others lt read is rest) =
    subst (λ (ys : List Spot). HasFirst (map placed ys)) (sym is) (record { placed = placed (record { offset = 0; instruction = i }); stands = refl; offset_is = refl })

-- ---- the targets

targets_start : (all : List Spot) (targets : List (Option ℕ)) → list_all (is_target all None) targets ≡ true → AllByRecursion (HasNumber (map placed all)) (known_targets targets)
targets_start all [] e = tt
targets_start all (None ∷ targets) e = absurd cc
targets_start all (Some o ∷ targets) e =
    let b = both (starts all o) (list_all (is_target all None) targets) e in
    (started all o b.0, targets_start all targets b.1)
  where
    both : (a d : Bool) → ((a || false) && d) ≡ true → (a ≡ true) × (d ≡ true)
    both true d h = (refl, h)
    both false d h = absurd cc

abbrev pub TargetsThere : List PlacedInstruction → List PlacedInstruction → Type 0
TargetsThere all instructions = AllByRecursion (λ (p : PlacedInstruction). AllByRecursion (HasNumber all) p.instruction.targets) instructions

all_targets : (pool : List PoolEntry) (code : List ℕ) (locals : Locals) (all : List Spot) (stop : Option (ℕ × Reason)) (spots : List Spot) → stop ≡ None → AreSpots pool code locals all stop spots → TargetsThere (map placed all) (map placed spots)
all_targets pool code locals all stop [] none h = tt
all_targets pool code locals all stop (s ∷ spots) none h = (
  targets_start all s.instruction.targets (ap (λ (o : Option (ℕ × Reason)). list_all (is_target all o) s.instruction.targets) (sym none) ∙ h.0.right.targets),
  all_targets pool code locals all stop spots none h.1,
)

-- ---- the whole

positive : (n : ℕ) (b : Bool) → (eqb n 0 || b) ≡ false → 1 ≤ n
positive zero b h = absurd cc
positive (suc n) b h = omega arith

length_positive : (p : Place) (x : ℕ × Place) → code_length_at p ≡ read_as x → 1 ≤ x.0
unfolding code_length_at
length_positive p x e =
    let a = bind_ok (number_at w32 p) (λ (long : ℕ × Place). cond (eqb long.0 0 || ltb 65535 long.0) (Err (record { offset = p.offset; reason = CodeCut })) (read_as long)) x e in
    let u = unless_ok (eqb a.0.0 0 || ltb 65535 a.0.0) (record { offset = p.offset; reason = CodeCut }) (read_as a.0) x a.2 in
    subst (λ (y : ℕ × Place). 1 ≤ y.0) (ok_is a.0 x u.1) (positive a.0.0 (ltb 65535 a.0.0) u.0)

bytes_long : (n : ℕ) (p : Place) (x : List ℕ × Place) → bytes_at n p ≡ read_as x → length x.0 ≡ n
bytes_long n p x e =
    let u = unless_ok (ltb (length p.rest) n) (record { offset = p.offset; reason = Truncated }) (read_as (take n p.rest, record { offset = p.offset + n; rest = drop n p.rest })) x e in
    let enough = ltb-false (length p.rest) n u.0 in
    let l = length-take n p.rest in
    ap (λ (y : List ℕ × Place). length y.0) (sym (ok_is _ x u.1)) ∙ grind (arith, l, enough)

module _ (p : Place) where
  abbrev on_bytes : ℕ × Place → ℕ × Place → ℕ × Place → List ℕ × Place → Result (Head × Place) Fault
  on_bytes stack locals long bytes = Ok (record { max_stack = stack.0; max_locals = locals.0; at = long.1.offset; bytes = bytes.0 }, bytes.1)

  abbrev on_long : ℕ × Place → ℕ × Place → ℕ × Place → Result (Head × Place) Fault
  on_long stack locals long = bytes_at long.0 long.1 >>= on_bytes stack locals long

  abbrev on_locals : ℕ × Place → ℕ × Place → Result (Head × Place) Fault
  on_locals stack locals = code_length_at locals.1 >>= on_long stack locals

  abbrev on_stack : ℕ × Place → Result (Head × Place) Fault
  on_stack stack = number_at w16 stack.1 >>= on_locals stack

  some_bytes : (h : Head × Place) → head_at p ≡ read_as h → 1 ≤ length h.0.bytes
  unfolding head_at
  some_bytes h e =
      let stack = bind_ok (number_at w16 p) on_stack h e in
      let locals = bind_ok (number_at w16 stack.0.1) (on_locals stack.0) h stack.2 in
      let long = bind_ok (code_length_at locals.0.1) (on_long stack.0 locals.0) h locals.2 in
      let body = bind_ok (bytes_at long.0.0 long.0.1) (on_bytes stack.0 locals.0 long.0) h long.2 in
      let same = ok_is _ h body.2 in
      let some = length_positive locals.0.1 long.0 long.1 in
      let l = bytes_long long.0.0 long.0.1 body.0 body.1 in
      let m : length body.0.0 ≡ length h.0.bytes = ap (λ (y : Head × Place). length y.0.bytes) same in
      omega (arith, some, l, m)

pub record IsInPlace (code : Code) : Type 0 where
  pub ascends : Ascend code.instructions
  pub first : HasFirst code.instructions
  pub targets : TargetsThere code.instructions code.instructions
  pub handlers : AllByRecursion (λ (h : Handler). HasNumber code.instructions h.target) code.handlers

pub in_place : (c : ClassFile) (code : Code) → IsCodeOf c code → IsInPlace code
in_place c code is =
    let h = parts c code is in
    let locals : Locals = record { limit = h.head.max_locals; parameters = h.parameters } in
    let none = no_stop (fault_of c.pool locals h.spots h.stop) h.stop h.spots h.faultless in
    subst IsInPlace (sym h.code_is) (record {
      ascends = (ordered c.pool h.head.bytes h.stop 0 h.spots h.divided).ascend;
      first = has_first c.pool h.head.bytes h.stop h.spots (some_bytes (place_of c code is) (h.head, h.after) h.begins) none h.divided;
      targets = all_targets c.pool h.head.bytes locals h.spots h.stop h.spots none (spots_of c code (place_of c code is) h);
      handlers = all_handlers (λ (x : Handler). HasNumber (map placed h.spots) x.target) c.pool (length h.head.bytes) h.spots h.after h.handlers
          (λ x read. started h.spots x.target read.target) h.ends;
    })
