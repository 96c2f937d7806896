-- The code of a method has one flow graph, or one first fault.
use Rattle.std.proofs.Common.{◌≡◌, ℕ, ◌+◌, List, [], ◌∷◌, length, sum_by, Option, Some, None, Result, Ok, Err, refl, sym, ap, ◌∙◌, subst, length-append}
use Rattle.std.specs.List.{slice_get, position}
use Rattle.std.proofs.lemmas.List.{length-map}
use Rattle.std.proofs.lemmas.Option.{same_Some}
use Rattle.jvm_model.specs.declared.class_file.ClassFile.{ClassFile}
use Rattle.jvm_model.specs.declared.code.Code.{Code}
use Rattle.jvm_model.specs.declared.code.Instruction.{Instruction as Given}
use Rattle.jvm_model.specs.declared.code.PlacedInstruction.{PlacedInstruction}
use Rattle.jvm_model.specs.declared.descriptor.Descriptor.TheVariants.{Method}
use Rattle.jvm_model.specs.declared.descriptor.Kind.{Kind as TypeKind}
use Rattle.jvm_model.specs.declared.descriptor.Kind.TheVariants.{Prim}
use Rattle.jvm_model.specs.declared.pool.PoolEntry.{PoolEntry}
use Rattle.failure.specs.declared.Failure.{Failure}
use Rattle.jvm_model.specs.declared.reason.Fault.{Fault}
use Rattle.failure.specs.declared.Failure.TheVariants.{Cause, OutOfMemory}
use Rattle.jvm_model.specs.declared.reason.Reason.{Reason}
use Rattle.jvm_model.specs.DescriptorValues.{IsMethodOf}
use Rattle.jvm_model.specs.Instructions.{DecodedInstruction, HasDescriptorUnits, kinds_of, made_for, with_units, IsCallRow, IsFieldRow, RowBy}
use Rattle.jvm_model.specs.Lookups.{MemberReference, Signature}
use Rattle.jvm_model.specs.Table.{Row, UnitKind, UnitSource, Action, plain, load_constant, load_element, store_element, probe_element, probe_array, probe_object, get_static, put_static, get_field, put_field, invoke_virtual, invoke_special, invoke_static, invoke_interface, make_object, make_array, throw_object, cast, leave_method, refused}
use Rattle.jvm_model.proofs.MethodKinds.{one_value}
use Rattle.jvm_model.specs.DescriptorValues.{kind_units}
use Rattle.flow_graph.specs.declared.effect.Effect.{Effect}
use Rattle.flow_graph.specs.declared.mark.Mark.{Mark}
use Rattle.flow_graph.specs.declared.steps.Graph.{Graph}
use Rattle.flow_graph.specs.declared.steps.GraphStep.{GraphStep}
use Rattle.flow_graph.specs.Effects.{with_row, IsSiteEffect, IsRowEffect, IsEffectBy, HasEffect, HaveEffects}
use Rattle.flow_graph.specs.Graphs.{first_fault, steps_of, IsWalked, TellsGraph, IsTold}
use Rattle.flow_graph.specs.Reading.{outcome_units}
use Rattle.flow_graph.specs.Walks.{is_waiting, Waits, after_walk, Walk, ends, goes_on, at_start}
use Rattle.flow_graph.proofs.DescriptorUnits.{kinds_length, outcome_length}
use Rattle.flow_graph.proofs.SpelledKinds.{has_kinds}

-- ---- the units of a method descriptor

-- its parameters and its result by their kinds
record Counted (text : List ℕ) (parameters results : ℕ) : Type 0 where
  pub kinds : List TypeKind
  pub outcome : Option TypeKind
  pub is : IsMethodOf text kinds outcome
  pub parameters_are : parameters ≡ sum_by kind_units kinds
  pub results_are : results ≡ outcome_units outcome

counted : (text : List ℕ) (ps rs : List UnitKind) → HasDescriptorUnits text ps rs → Counted text (length ps) (length rs)
counted text ps rs u =
    let k = has_kinds text u.is in
    record {
      kinds = k.kinds;
      outcome = k.outcome;
      is = k.is;
      parameters_are = ap (λ (ks : List UnitKind). length ks) u.parameters_are ∙ kinds_length u.is.parameters k.kinds k.each;
      results_are = ap (λ (ks : List UnitKind). length ks) u.results_are ∙ outcome_length u.is.outcome k.outcome k.outcome_is;
    }

same_counts : (text : List ℕ) (a b m n : ℕ) → Counted text a b → Counted text m n → (a ≡ m) × (b ≡ n)
same_counts text a b m n x y =
    let same = one_value text (Method x.kinds x.outcome) (Method y.kinds y.outcome) x.is y.is in
    let kinds : x.kinds ≡ y.kinds = cc same in
    let outcome : x.outcome ≡ y.outcome = cc same in
    (x.parameters_are ∙ ap (λ (ks : List TypeKind). sum_by kind_units ks) kinds ∙ sym y.parameters_are, x.results_are ∙ ap outcome_units outcome ∙ sym y.results_are)

same_units : (text : List ℕ) (ps rs qs ss : List UnitKind) → HasDescriptorUnits text ps rs → HasDescriptorUnits text qs ss → (length ps ≡ length qs) × (length rs ≡ length ss)
same_units text ps rs qs ss x y = same_counts text (length ps) (length rs) (length qs) (length ss) (counted text ps rs x) (counted text qs ss y)

-- ---- the units of a row

abbrev SameUnits : Row → Row → Type 0
SameUnits r s = (length r.pops ≡ length s.pops) × (length r.pushes ≡ length s.pushes)

same_row : (r s : Row) → r ≡ s → SameUnits r s
same_row r s e = (ap (λ (y : Row). length y.pops) e, ap (λ (y : Row). length y.pushes) e)

same_call : (pool : List PoolEntry) (i : DecodedInstruction) (receiver : List UnitKind) (r s : Row) → IsCallRow pool i receiver r → IsCallRow pool i receiver s → SameUnits r s
same_call pool i receiver r s x y =
    let methods : x.method ≡ y.method = same_Some x.method y.method (sym x.named ∙ y.named) in
    let units = subst (λ (m : MemberReference). HasDescriptorUnits m.signature.descriptor x.parameters x.results) methods x.units in
    let same = same_units y.method.signature.descriptor x.parameters x.results y.parameters y.results units y.units in (
      ap (λ (z : Row). length z.pops) x.row_is ∙ length-append receiver x.parameters ∙ ap (λ (n : ℕ). length receiver + n) same.0 ∙ sym (length-append receiver y.parameters) ∙ sym (ap (λ (z : Row). length z.pops) y.row_is),
      ap (λ (z : Row). length z.pushes) x.row_is ∙ length-map x.results made_for ∙ same.1 ∙ sym (length-map y.results made_for) ∙ sym (ap (λ (z : Row). length z.pushes) y.row_is),
    )

same_field : (pool : List PoolEntry) (i : DecodedInstruction) (pops : List UnitKind → List UnitKind) (pushes : List UnitKind → List UnitSource) (r s : Row) → IsFieldRow pool i pops pushes r → IsFieldRow pool i pops pushes s → SameUnits r s
same_field pool i pops pushes r s x y =
    let fields : x.field ≡ y.field = same_Some x.field y.field (sym x.named ∙ y.named) in
    let rows : r ≡ s =
    x.row_is ∙ ap (λ (m : MemberReference). with_units i.row (pops (kinds_of m.signature.descriptor)) (pushes (kinds_of m.signature.descriptor))) fields ∙ sym y.row_is in
    same_row r s rows

same_by : (a : Action) (pool : List PoolEntry) (i : DecodedInstruction) (r s : Row) → RowBy a pool i r → RowBy a pool i s → SameUnits r s
same_by load_constant pool i r s x y = same_row r s (same_Some r s (sym x ∙ y))
same_by get_static pool i r s x y = same_field pool i _ _ r s x y
same_by put_static pool i r s x y = same_field pool i _ _ r s x y
same_by get_field pool i r s x y = same_field pool i _ _ r s x y
same_by put_field pool i r s x y = same_field pool i _ _ r s x y
same_by invoke_virtual pool i r s x y = same_call pool i _ r s x y
same_by invoke_special pool i r s x y = same_call pool i _ r s x y
same_by invoke_static pool i r s x y = same_call pool i _ r s x y
same_by invoke_interface pool i r s x y = same_call pool i _ r s x y
same_by plain pool i r s x y = same_row r s (x ∙ sym y)
same_by load_element pool i r s x y = same_row r s (x ∙ sym y)
same_by store_element pool i r s x y = same_row r s (x ∙ sym y)
same_by probe_element pool i r s x y = same_row r s (x ∙ sym y)
same_by probe_array pool i r s x y = same_row r s (x ∙ sym y)
same_by probe_object pool i r s x y = same_row r s (x ∙ sym y)
same_by make_object pool i r s x y = same_row r s (x ∙ sym y)
same_by make_array pool i r s x y = same_row r s (x ∙ sym y)
same_by throw_object pool i r s x y = same_row r s (x ∙ sym y)
same_by cast pool i r s x y = same_row r s (x ∙ sym y)
same_by leave_method pool i r s x y = same_row r s (x ∙ sym y)
same_by refused pool i r s x y = same_row r s (x ∙ sym y)

abbrev effect : ℕ → ℕ → Effect
effect pops pushes = record { pops = pops; pushes = pushes }

same_effect : (a b m n : ℕ) → a ≡ m → b ≡ n → effect a b ≡ effect m n
same_effect a b m n p q = ap (λ (x : ℕ). effect x b) p ∙ ap (λ (y : ℕ). effect m y) q

row_effects : (pool : List PoolEntry) (i : Given) (r : Row) (e f : Effect) → IsRowEffect pool i r e → IsRowEffect pool i r f → e ≡ f
row_effects pool i r e f x y =
    let same = same_by r.action pool (with_row i r) x.resolved y.resolved x.is_row y.is_row in
    x.effect_is ∙ same_effect (length x.resolved.pops) (length x.resolved.pushes) (length y.resolved.pops) (length y.resolved.pushes) same.0 same.1 ∙ sym y.effect_is

site_effects : (pool : List PoolEntry) (i : Given) (e f : Effect) → IsSiteEffect pool i e → IsSiteEffect pool i f → e ≡ f
site_effects pool i e f x y =
    let signatures : x.signature ≡ y.signature = same_Some x.signature y.signature (sym x.named ∙ y.named) in
    let units = subst (λ (s : Signature). HasDescriptorUnits s.descriptor x.parameters x.results) signatures x.units in
    let same = same_units y.signature.descriptor x.parameters x.results y.parameters y.results units y.units in
    x.effect_is ∙ same_effect (length x.parameters) (length x.results) (length y.parameters) (length y.results) same.0 same.1 ∙ sym y.effect_is

effects_by : (a : Action) (pool : List PoolEntry) (i : Given) (r : Row) (e f : Effect) → IsEffectBy a pool i r e → IsEffectBy a pool i r f → e ≡ f
effects_by refused pool i r e f x y = site_effects pool i e f x y
effects_by _ pool i r e f x y = row_effects pool i r e f x y

one_effect : (pool : List PoolEntry) (i : Given) (e f : Effect) → HasEffect pool i e → HasEffect pool i f → e ≡ f
one_effect pool i e f x y =
    let rows : x.row ≡ y.row = same_Some x.row y.row (sym x.of_opcode ∙ y.of_opcode) in
    effects_by y.row.action pool i y.row e f (subst (λ (r : Row). IsEffectBy r.action pool i r e) rows x.is_effect) y.is_effect

one_list : (pool : List PoolEntry) (instructions : List PlacedInstruction) (es fs : List Effect) → HaveEffects pool instructions es → HaveEffects pool instructions fs → es ≡ fs
one_list pool [] [] [] x y = refl
one_list pool [] [] (f ∷ fs) x y = absurd y
one_list pool [] (e ∷ es) fs x y = absurd x
one_list pool (p ∷ instructions) [] fs x y = absurd x
one_list pool (p ∷ instructions) (e ∷ es) [] x y = absurd y
one_list pool (p ∷ instructions) (e ∷ es) (f ∷ fs) x y = cc (one_effect pool p.instruction e f x.0 y.0, one_list pool instructions es fs x.1 y.1)

-- ---- the walk

not_both : (o : Option ℕ) (k : ℕ) → o ≡ None → o ≡ Some k → ⊥
not_both None k e f = absurd cc
not_both (Some j) k e f = absurd cc

same_next : (code : Code) (effects : List Effect) (marks : List Mark) (w v : Waits code effects marks)
    → after_walk code w.number w.placed w.effect w.mark w.height marks ≡ after_walk code v.number v.placed v.effect v.mark v.height marks
same_next code effects marks w v =
    let number : w.number ≡ v.number = same_Some w.number v.number (sym w.first ∙ v.first) in
    let placed : w.placed ≡ v.placed = same_Some w.placed v.placed (sym w.stands ∙ ap (slice_get code.instructions) number ∙ v.stands) in
    let effect_is : w.effect ≡ v.effect = same_Some w.effect v.effect (sym w.has ∙ ap (slice_get effects) number ∙ v.has) in
    let mark : w.mark ≡ v.mark = same_Some w.mark v.mark (sym w.known ∙ ap (slice_get marks) number ∙ v.known) in
    let height : w.height ≡ v.height = same_Some w.height v.height (sym w.reached_at ∙ ap (λ (m : Mark). m.height) mark ∙ v.reached_at) in
    ap (λ (n : ℕ). after_walk code n w.placed w.effect w.mark w.height marks) number
    ∙ ap (λ (p : PlacedInstruction). after_walk code v.number p w.effect w.mark w.height marks) placed
    ∙ ap (λ (e : Effect). after_walk code v.number v.placed e w.mark w.height marks) effect_is
    ∙ ap (λ (m : Mark). after_walk code v.number v.placed v.effect m w.height marks) mark
    ∙ ap (λ (h : ℕ). after_walk code v.number v.placed v.effect v.mark h marks) height

one_end : (code : Code) (effects : List Effect) (marks a b : List Mark) → Walk code effects marks a → Walk code effects marks b → a ≡ b
one_end code effects marks a b (ends ms es none is) (ends ms2 es2 none2 is2) = is ∙ sym is2
one_end code effects marks a b (ends ms es none is) (goes_on ms2 es2 v rest2) = absurd (not_both (position is_waiting marks) v.number none v.first)
one_end code effects marks a b (goes_on ms es w rest) (ends ms2 es2 none2 is2) = absurd (not_both (position is_waiting marks) w.number none2 w.first)
one_end code effects marks a b (goes_on ms es w rest) (goes_on ms2 es2 v rest2) =
    one_end code effects (after_walk code w.number w.placed w.effect w.mark w.height marks) a b rest (subst (λ (m : List Mark). Walk code effects m b) (sym (same_next code effects marks w v)) rest2)

one_walk : (c : ClassFile) (code : Code) (a b : List Mark) → IsWalked c code a → IsWalked c code b → a ≡ b
one_walk c code a b x y =
    let effects = one_list c.pool code.instructions x.effects y.effects x.known y.known in
    one_end code y.effects (at_start code) a b (subst (λ (es : List Effect). Walk code es (at_start code) a) effects x.walk) y.walk

-- ---- the answer

fault_here : (found other : Option (ℕ × Reason)) (f : ℕ × Reason) → found ≡ None → other ≡ Some f → found ≡ other → ⊥
fault_here found other f none some same = absurd (cc (none, some, same))

abbrev refused_at : ℕ → Reason → Result Graph (Failure Fault)
refused_at offset reason = Err (Cause (record { offset = offset; reason = reason }))

abbrev graph_of : List GraphStep → Result Graph (Failure Fault)
graph_of steps = Ok (record { steps = steps })

pub one_told : (c : ClassFile) (code : Code) (a b : Result Graph (Failure Fault)) → TellsGraph c code a → TellsGraph c code b → IsTold a → IsTold b → a ≡ b
one_told c code (Ok g) (Ok h) x y t u =
    let marks = one_walk c code x.marks y.marks x.is_walked y.is_walked in
    ap graph_of (x.steps_are ∙ ap (steps_of code) marks ∙ sym y.steps_are)
one_told c code (Ok g) (Err OutOfMemory) x y t u = absurd u
one_told c code (Ok g) (Err (Cause f)) x y t u =
    absurd (fault_here _ _ (y.within, f.reason) x.faultless y.first (ap (first_fault code.instructions) (one_walk c code x.marks y.marks x.is_walked y.is_walked)))
one_told c code (Err OutOfMemory) b x y t u = absurd t
one_told c code (Err (Cause f)) (Ok h) x y t u =
    absurd (fault_here _ _ (x.within, f.reason) y.faultless x.first (ap (first_fault code.instructions) (one_walk c code y.marks x.marks y.is_walked x.is_walked)))
one_told c code (Err (Cause f)) (Err OutOfMemory) x y t u = absurd u
one_told c code (Err (Cause f)) (Err (Cause g)) x y t u =
    let marks = one_walk c code x.marks y.marks x.is_walked y.is_walked in
    let same = same_Some (x.within, f.reason) (y.within, g.reason) (sym x.first ∙ ap (first_fault code.instructions) marks ∙ y.first) in
    let within : x.within ≡ y.within = ap (λ (f : ℕ × Reason). f.0) same in
    let reason : f.reason ≡ g.reason = ap (λ (f : ℕ × Reason). f.1) same in
    ap (λ (n : ℕ). refused_at n f.reason) (x.offset_is ∙ ap (λ (n : ℕ). code.at + n) within ∙ sym y.offset_is) ∙ ap (λ (q : Reason). refused_at g.offset q) reason
