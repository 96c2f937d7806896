-- Facts of the instruction table, and what the index of a sound instruction leads to.
use Rattle.std.proofs.Common.{◌≡◌, ℕ, zero, suc, ◌≤◌, Bool, true, false, cond, ◌&&◌, ◌||◌, eqb, leb, List, [], ◌∷◌, length, Option, Some, None, refl, sym, ap, ◌∙◌}
use Rattle.std.specs.List.{list_all, slice_get}
use Rattle.std.specs.Option.{option_map_or}
use Rattle.std.proofs.lemmas.Bool.{eqb-true, leb-true}
use Rattle.std.proofs.lemmas.Option.{same_Some}
use Rattle.jvm_model.specs.declared.class_file.ClassFile.{ClassFile}
use Rattle.jvm_model.specs.declared.code.Instruction.{Instruction as Given}
use Rattle.jvm_model.specs.InstructionUses.{is_subroutine, pool_target, target_kinds, has_shape, leads_there, leads_right}
use Rattle.jvm_model.specs.Lookups.{class_name_at}
use Rattle.jvm_model.specs.Soundness.{leads_to}
use Rattle.jvm_model.specs.Table.{Row, row_of, rows, PoolTarget, loadable, wide_number, a_field, class_method, any_method, interface_method, call_site, any_class, no_array, an_array, Action, load_constant, get_static, put_static, get_field, put_field, invoke_virtual, invoke_special, invoke_static, invoke_interface, refused}
use Rattle.flow_graph.specs.Effects.{with_row}
use Rattle.flow_graph.specs.Reading.{is_widened, IsSoundInstruction}

-- ---- kinds of targets by numbers

abbrev tag : PoolTarget → ℕ
tag loadable = 0
tag wide_number = 1
tag a_field = 2
tag class_method = 3
tag any_method = 4
tag interface_method = 5
tag call_site = 6
tag any_class = 7
tag no_array = 8
tag an_array = 9

abbrev untag : ℕ → PoolTarget
untag n =
    cond (eqb n 0) loadable (cond (eqb n 1) wide_number (cond (eqb n 2) a_field (cond (eqb n 3) class_method (cond (eqb n 4) any_method
    (cond (eqb n 5) interface_method (cond (eqb n 6) call_site (cond (eqb n 7) any_class (cond (eqb n 8) no_array an_array))))))))

untag_tag : (t : PoolTarget) → untag (tag t) ≡ t
untag_tag loadable = refl
untag_tag wide_number = refl
untag_tag a_field = refl
untag_tag class_method = refl
untag_tag any_method = refl
untag_tag interface_method = refl
untag_tag call_site = refl
untag_tag any_class = refl
untag_tag no_array = refl
untag_tag an_array = refl

abbrev is_for : PoolTarget → Option PoolTarget → Bool
is_for want None = false
is_for want (Some t) = eqb (tag t) (tag want)

for_is : (want : PoolTarget) (o : Option PoolTarget) → is_for want o ≡ true → o ≡ Some want
for_is want None e = absurd cc
for_is want (Some t) e = ap Some (sym (untag_tag t) ∙ ap untag (eqb-true (tag t) (tag want) e) ∙ untag_tag want)

-- ---- facts of all rows

-- what the index of an instruction with this action leads to
abbrev pub expected : Action → Option PoolTarget
expected load_constant = Some loadable
expected get_static = Some a_field
expected put_static = Some a_field
expected get_field = Some a_field
expected put_field = Some a_field
expected invoke_virtual = Some class_method
expected invoke_special = Some any_method
expected invoke_static = Some any_method
expected invoke_interface = Some interface_method
expected refused = Some call_site
expected _ = None

abbrev is_shaped : Row → Bool
is_shaped r = option_map_or (λ (want : PoolTarget). is_for want (pool_target r.operands)) (expected r.action) true || is_subroutine r.flow || is_widened r.operands

abbrev pops_few : Row → Bool
pops_few r = leb (length r.pops) 255

abbrev pushes_few : Row → Bool
pushes_few r = leb (length r.pushes) 255

all_at : (p : Row → Bool) (all : List Row) (k : ℕ) (r : Row) → list_all p all ≡ true → slice_get all k ≡ Some r → p r ≡ true
all_at p [] k r e is = absurd cc
all_at p (x ∷ all) zero r e is =
    let same : x ≡ r = cc is in
    ap p (sym same) ∙ first (p x) (list_all p all) e
  where
    first : (a b : Bool) → (a && b) ≡ true → a ≡ true
    first true b h = refl
    first false b h = absurd cc
all_at p (x ∷ all) (suc k) r e is = all_at p all k r (rest (p x) (list_all p all) e) is
  where
    rest : (a b : Bool) → (a && b) ≡ true → b ≡ true
    rest true b h = h
    rest false b h = absurd cc

pub few_pops : (opcode : ℕ) (r : Row) → row_of opcode ≡ Some r → length r.pops ≤ 255
few_pops opcode r is = leb-true (length r.pops) 255 (all_at pops_few rows opcode r refl is)

pub few_pushes : (opcode : ℕ) (r : Row) → row_of opcode ≡ Some r → length r.pushes ≤ 255
few_pushes opcode r is = leb-true (length r.pushes) 255 (all_at pushes_few rows opcode r refl is)

shaped : (opcode : ℕ) (r : Row) → row_of opcode ≡ Some r → is_shaped r ≡ true
shaped opcode r is = all_at is_shaped rows opcode r refl is

-- ---- where the index leads

first_of : (a b d : Bool) → (a || b || d) ≡ true → b ≡ false → d ≡ false → a ≡ true
first_of true b d e none none2 = refl
first_of false true d e none none2 = absurd cc
first_of false false true e none none2 = absurd cc
first_of false false false e none none2 = absurd cc

target_is : (opcode : ℕ) (r : Row) (want : PoolTarget) → row_of opcode ≡ Some r → is_subroutine r.flow ≡ false → is_widened r.operands ≡ false → expected r.action ≡ Some want → pool_target r.operands ≡ Some want
target_is opcode r want is none none2 e =
    let has = first_of (option_map_or (λ (w : PoolTarget). is_for w (pool_target r.operands)) (expected r.action) true) (is_subroutine r.flow) (is_widened r.operands) (shaped opcode r is) none none2 in
    let same : is_for want (pool_target r.operands) ≡ option_map_or (λ (w : PoolTarget). is_for w (pool_target r.operands)) (expected r.action) true =
    ap (λ (o : Option PoolTarget). option_map_or (λ (w : PoolTarget). is_for w (pool_target r.operands)) o true) (sym e) in
    for_is want (pool_target r.operands) (same ∙ has)

left_of : (a b : Bool) → (a && b) ≡ true → a ≡ true
left_of true b e = refl
left_of false b e = absurd cc

-- the index of a sound instruction leads to an entry of the right kind
pub leads_by : (c : ClassFile) (i : Given) (r : Row) (want : PoolTarget) → IsSoundInstruction c i → row_of i.opcode ≡ Some r → expected r.action ≡ Some want → leads_to c.pool (target_kinds want) i.operand ≡ true
leads_by c i r want x is e =
    let same : x.row ≡ r = same_Some x.row r (sym x.of_opcode ∙ is) in
    let target = target_is i.opcode r want is (sym (ap (λ (s : Row). is_subroutine s.flow) same) ∙ x.no_subroutine) (sym (ap (λ (s : Row). is_widened s.operands) same) ∙ x.not_wide) e in
    let leads : leads_right c.pool (with_row i r) ≡ true = ap (λ (s : Row). leads_right c.pool (with_row i s)) (sym same) ∙ x.leads in
    let there : leads_there c.pool i.operand want ≡ true = sym (ap (λ (o : Option PoolTarget). option_map_or (leads_there c.pool i.operand) o true) target) ∙ leads in
    left_of (leads_to c.pool (target_kinds want) i.operand) (has_shape (class_name_at c.pool i.operand) want) there
