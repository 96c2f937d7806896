-- What is known of the code of a method that was read: its instructions, and where they stand.
use Rattle.std.proofs.Common.{◌≡◌, ℕ, ◌+◌, ◌<◌, ◌≤◌, Bool, true, false, cond, not, ltb, List, [], ◌∷◌, length, map, Option, Some, None, Result, Ok, Err, refl, sym, ap, ◌∙◌, subst, arith}
use Rattle.std.specs.Int.{Width, w16, w32, byte_len}
use Rattle.std.specs.List.{AllByRecursion, list_all}
use Rattle.std.proofs.lemmas.Bool.{ltb-false}
use Rattle.std.proofs.lemmas.List.{length-drop, length-take}
use Rattle.jvm_model.specs.declared.class_file.ClassFile.{ClassFile}
use Rattle.jvm_model.specs.declared.code.Code.{Code}
use Rattle.jvm_model.specs.declared.code.Handler.{Handler}
use Rattle.jvm_model.specs.declared.code.PlacedInstruction.{PlacedInstruction}
use Rattle.jvm_model.specs.declared.pool.PoolEntry.{PoolEntry}
use Rattle.jvm_model.specs.declared.reason.Reason.{Reason}
use Rattle.jvm_model.specs.declared.reason.Reason.TheVariants.{BadTarget, BadLocal, Subroutine, BadIndex}
use Rattle.jvm_model.specs.InstructionUses.{is_subroutine, leads_right}
use Rattle.jvm_model.specs.Soundness.{IsSoundClass}
use Rattle.jvm_model.specs.Spelling.{spell}
use Rattle.jvm_model.specs.declared.reason.Fault.{Fault}
use Rattle.byte_reader.specs.Reading.{Place, ◌>>=◌, number_at, bytes_at}
use Rattle.code_reader.specs.CodeReading.{Head, code_length_at, head_at, tail_at, placed, code_fault, ReadsBody, cut_before, wrong_code, wrong_after, reads}
use Rattle.code_reader.specs.Division.{Spot, instruction_in, Divides, at_end, stops, goes_on, Locals, is_target, has_locals, fault_of, first_or, first_fault}
use Rattle.code_reader.proofs.ToldCodes.{body_fits}
use Rattle.flow_graph.specs.Graphing.{IsCodeOf}
use Rattle.flow_graph.specs.Reading.{IsSoundInstruction}
use Rattle.flow_graph.proofs.ReadRows.{known_in}

-- ---- the parts of what was read

pub record HasParts (pool : List PoolEntry) (place : Place) (code : Code) : Type 0 where
  pub head : Head
  pub after : Place
  pub spots : List Spot
  pub stop : Option (ℕ × Reason)
  pub handlers : List Handler
  pub parameters : ℕ
  pub begins : head_at place ≡ Ok (head, after)
  pub divided : Divides pool head.bytes stop 0 spots
  pub faultless : code_fault pool parameters head spots stop ≡ None
  pub ends : tail_at pool (length head.bytes) spots after ≡ Ok handlers
  pub code_is : code ≡ record { at = head.at; instructions = map placed spots; handlers = handlers; max_stack = head.max_stack; max_locals = head.max_locals }

abbrev done : Code → Result Code Fault
done x = Ok x

same_code : (x y : Code) → done x ≡ done y → x ≡ y
same_code x y e = cc

parts_of : (pool : List PoolEntry) (parameters : ℕ) (place : Place) (code : Code) (outcome : Result Code Fault) → outcome ≡ Ok code → ReadsBody pool parameters place outcome → HasParts pool place code
parts_of pool parameters place code outcome ok (cut_before f e is) = absurd (cc (is, ok))
parts_of pool parameters place code outcome ok (wrong_code head after spots stop offset reason b told is) = absurd (cc (is, ok))
parts_of pool parameters place code outcome ok (wrong_after head after spots stop f b none told is) = absurd (cc (is, ok))
parts_of pool parameters place code outcome ok (reads head after spots stop handlers b none told is) = record {
  head = head;
  after = after;
  spots = spots;
  stop = stop;
  handlers = handlers;
  parameters = parameters;
  begins = b.begins;
  divided = b.divided;
  faultless = none;
  ends = told;
  code_is = same_code _ _ (sym ok ∙ is);
}

abbrev pub place_of : (c : ClassFile) (code : Code) → IsCodeOf c code → Place
place_of c code is = record { offset = is.read.place; rest = is.read.code.body }

pub parts : (c : ClassFile) (code : Code) (is : IsCodeOf c code) → HasParts c.pool (place_of c code is) code
parts c code is = parts_of c.pool is.read.parameters (place_of c code is) code (Ok code) refl is.read.body

-- ---- each instruction

none_first : (offset : ℕ) (found : Option Reason) (others : Option (ℕ × Reason)) → first_or offset found others ≡ None → (found ≡ None) × (others ≡ None)
none_first offset (Some reason) others e = absurd cc
none_first offset None others e = (refl, e)

-- nothing is wrong with an instruction
pub record IsRight (pool : List PoolEntry) (locals : Locals) (all : List Spot) (stop : Option (ℕ × Reason)) (s : Spot) : Type 0 where
  pub targets : list_all (is_target all stop) s.instruction.targets ≡ true
  pub no_subroutine : is_subroutine s.instruction.row.flow ≡ false
  pub leads : leads_right pool s.instruction ≡ true

right_of : (pool : List PoolEntry) (locals : Locals) (all : List Spot) (stop : Option (ℕ × Reason)) (s : Spot) → fault_of pool locals all stop s ≡ None → IsRight pool locals all stop s
right_of pool locals all stop s e =
    let r = by (list_all (is_target all stop) s.instruction.targets) (has_locals locals s) (is_subroutine s.instruction.row.flow) (leads_right pool s.instruction) e in
    record { targets = r.0; no_subroutine = r.1; leads = r.2 }
  where
    by : (t l f d : Bool) → cond (not t) (Some BadTarget) (cond (not l) (Some BadLocal) (cond f (Some Subroutine) (cond (not d) (Some BadIndex) None))) ≡ None → (t ≡ true) × (f ≡ false) × (d ≡ true)
    by false l f d h = absurd cc
    by true false f d h = absurd cc
    by true true true d h = absurd cc
    by true true false false h = absurd cc
    by true true false true h = (refl, refl, refl)

-- an instruction of the code
pub record IsSpot (pool : List PoolEntry) (code : List ℕ) (locals : Locals) (all : List Spot) (stop : Option (ℕ × Reason)) (s : Spot) : Type 0 where
  pub inside : s.offset < length code
  pub read : instruction_in pool code s.offset ≡ Ok s.instruction
  pub right : IsRight pool locals all stop s

module _ (pool : List PoolEntry) (code : List ℕ) (locals : Locals) (all : List Spot) (stop : Option (ℕ × Reason)) where
  abbrev pub AreSpots : List Spot → Type 0
  AreSpots spots = AllByRecursion (IsSpot pool code locals all stop) spots

  pub all_spots : (from : ℕ) (spots : List Spot) → Divides pool code stop from spots → first_fault (fault_of pool locals all stop) stop spots ≡ None → AreSpots spots
  all_spots from spots (at_end o xs end none is) e = subst AreSpots (sym is) tt
  all_spots from spots (stops o xs why lt refused early is) e = subst AreSpots (sym is) tt
  all_spots from spots (goes_on o xs i others lt read is rest) e =
      let s : Spot = record { offset = from; instruction = i } in
      let test = fault_of pool locals all stop in
      let told : first_or from (test s) (first_fault test stop others) ≡ None = subst (λ (ys : List Spot). first_fault test stop ys ≡ None) is e in
      let n = none_first from (test s) (first_fault test stop others) told in
      subst AreSpots (sym is) (record { inside = lt; read = read; right = right_of pool locals all stop s n.0 }, all_spots (from + i.size) others rest n.1)

abbrev AreSound : ClassFile → List PlacedInstruction → Type 0
AreSound c instructions = AllByRecursion (λ (p : PlacedInstruction). IsSoundInstruction c p.instruction) instructions

sound_spots : (c : ClassFile) (code : List ℕ) (locals : Locals) (all : List Spot) (stop : Option (ℕ × Reason)) (spots : List Spot) → IsSoundClass c → AreSpots c.pool code locals all stop spots → AreSound c (map placed spots)
sound_spots c code locals all stop [] sound h = tt
sound_spots c code locals all stop (s ∷ spots) sound h =
    let k = known_in c.pool code s.offset s.instruction h.0.read in (
      record { sound = sound; row = s.instruction.row; of_opcode = k.row; no_subroutine = h.0.right.no_subroutine; not_wide = k.narrow; leads = h.0.right.leads },
      sound_spots c code locals all stop spots sound h.1,
    )

pub spots_of : (c : ClassFile) (code : Code) (p : Place) (h : HasParts c.pool p code) → AreSpots c.pool h.head.bytes (record { limit = h.head.max_locals; parameters = h.parameters }) h.spots h.stop h.spots
spots_of c code p h = all_spots c.pool h.head.bytes (record { limit = h.head.max_locals; parameters = h.parameters }) h.spots h.stop 0 h.spots h.divided h.faultless

-- each instruction of the code is sound
pub sound_code : (c : ClassFile) (code : Code) → IsSoundClass c → IsCodeOf c code → AreSound c code.instructions
sound_code c code sound is =
    let h = parts c code is in
    let locals : Locals = record { limit = h.head.max_locals; parameters = h.parameters } in
    subst (λ (k : Code). AreSound c k.instructions) (sym h.code_is) (sound_spots c h.head.bytes locals h.spots h.stop h.spots sound (spots_of c code (place_of c code is) h))

-- ---- where they stand

pub bind_ok : {A B : Type 0} (r : Result A Fault) (f : A → Result B Fault) (x : B) → (r >>= f) ≡ Ok x → (a : A) × (r ≡ Ok a) × (f a ≡ Ok x)
bind_ok (Ok a) f x e = (a, refl, e)
bind_ok (Err g) f x e = absurd cc

abbrev pub read_as : {A : Type 0} → A → Result A Fault
read_as x = Ok x

pub ok_is : {A : Type 0} (x y : A) → read_as x ≡ read_as y → x ≡ y
ok_is x y e = cc

pub unless_ok : {A : Type 0} (t : Bool) (f : Fault) (r : Result A Fault) (x : A) → cond t (Err f) r ≡ Ok x → (t ≡ false) × (r ≡ Ok x)
unless_ok true f r x e = absurd cc
unless_ok false f r x e = (refl, e)

abbrev end_of : Place → ℕ
end_of p = p.offset + length p.rest

number_end : (w : Width) (p : Place) (x : ℕ × Place) → number_at w p ≡ Ok x → end_of x.1 ≡ end_of p
number_end w p x e =
    let u = unless_ok (ltb (length p.rest) (byte_len w)) _ _ x e in
    let same = ok_is _ _ u.1 in
    let enough = ltb-false (length p.rest) (byte_len w) u.0 in
    ap (λ (y : ℕ × Place). end_of y.1) (sym same) ∙ grind (arith, enough, length-drop (byte_len w) p.rest)

bytes_end : (n : ℕ) (p : Place) (x : List ℕ × Place) → bytes_at n p ≡ Ok x → p.offset + length x.0 ≤ end_of p
bytes_end n p x e =
    let u = unless_ok (ltb (length p.rest) n) _ _ x e in
    let same = ok_is _ _ u.1 in
    let enough = ltb-false (length p.rest) n u.0 in
    omega (arith, enough, length-take n p.rest, ap (λ (y : List ℕ × Place). length y.0) same)

length_end : (p : Place) (x : ℕ × Place) → code_length_at p ≡ Ok x → end_of x.1 ≡ end_of p
unfolding code_length_at
length_end p x e =
    let a = bind_ok (number_at w32 p) _ x e in
    let u = unless_ok _ _ _ x a.2 in
    ap (λ (y : ℕ × Place). end_of y.1) (sym (ok_is _ _ u.1)) ∙ number_end w32 p a.0 a.1

head_end : (p : Place) (h : Head × Place) → head_at p ≡ Ok h → h.0.at + length h.0.bytes ≤ end_of p
unfolding head_at
head_end p h e =
    let stack = bind_ok _ _ h e in
    let locals = bind_ok _ _ h stack.2 in
    let long = bind_ok _ _ h locals.2 in
    let body = bind_ok _ _ h long.2 in
    let same = ok_is _ _ body.2 in
    omega (
      arith,
      number_end w16 p stack.0 stack.1,
      number_end w16 stack.0.1 locals.0 locals.1,
      length_end locals.0.1 long.0 long.1,
      bytes_end long.0.0 long.0.1 body.0 body.1,
      ap (λ (y : Head × Place). y.0.at) same,
      ap (λ (y : Head × Place). length y.0.bytes) same,
    )

abbrev StandBelow : ℕ → ℕ → List PlacedInstruction → Type 0
StandBelow at limit instructions = AllByRecursion (λ (p : PlacedInstruction). at + p.offset < limit) instructions

below : (c : ClassFile) (code : List ℕ) (locals : Locals) (all : List Spot) (stop : Option (ℕ × Reason)) (spots : List Spot) (at limit : ℕ) → AreSpots c.pool code locals all stop spots → at + length code ≤ limit
    → StandBelow at limit (map placed spots)
below c code locals all stop [] at limit h le = tt
below c code locals all stop (s ∷ spots) at limit h le = (omega (arith, h.0.inside, le), below c code locals all stop spots at limit h.1 le)

-- they stand in the file
pub in_file : (c : ClassFile) (code : Code) → IsCodeOf c code → StandBelow code.at (length (spell c)) code.instructions
in_file c code is =
    let h = parts c code is in
    let locals : Locals = record { limit = h.head.max_locals; parameters = h.parameters } in
    let fits = body_fits c is.method is.read.place is.read.owner is.read.code is.read.there is.read.first is.read.is_place in
    let end = head_end (place_of c code is) (h.head, h.after) h.begins in
    subst (λ (k : Code). StandBelow k.at (length (spell c)) k.instructions) (sym h.code_is)
    (below c h.head.bytes locals h.spots h.stop h.spots h.head.at (length (spell c)) (spots_of c code (place_of c code is) h) (omega (arith, fits, end)))
