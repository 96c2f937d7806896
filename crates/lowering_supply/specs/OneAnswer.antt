-- This crate's own proofs alone rest on this module.
-- A method is given as one thing.
use Rattle.std.proofs.Common.{◌≡◌, ℕ, Bool, true, false, Result, Ok, Err, sym, ap, ◌∙◌, subst}
use Rattle.std.proofs.lemmas.Option.{same_Some}
use Rattle.failure.specs.declared.Failure.{Failure}
use Rattle.failure.specs.declared.Failure.TheVariants.{Cause}
use Rattle.jvm_model.specs.declared.class_file.ClassFile.{ClassFile}
use Rattle.jvm_model.specs.declared.code.Code.{Code}
use Rattle.jvm_model.specs.declared.reason.Fault.{Fault}
use Rattle.jvm_model.specs.declared.reason.Reason.{Reason}
use Rattle.jvm_model.specs.declared.reason.Refusal.{Refusal}
use Rattle.jvm_model.specs.Programs.{Body, Class, Method, Program, in_file}
use Rattle.code_reader.specs.CodeReading.{ReadsCode}
use Rattle.code_reader.proofs.OneReading.{one_reading}
use Rattle.flow_graph.specs.declared.steps.Graph.{Graph}
use Rattle.flow_graph.specs.Graphs.{IsFault, IsGraph}
use Rattle.flow_graph.proofs.OneGraph.{one_told}
use Rattle.op_model.specs.declared.lowered.LoweredMethod.{LoweredMethod}
use Rattle.lowering.specs.Refusals.{IsAccepted, IsRefused}
use Rattle.lowering.specs.Orders.{AreInOrder}
use Rattle.lowering_laws.proofs.OneRefusal.{refused_once, refused_alone}
use Rattle.lowering_laws.proofs.OrderedNodes.{ordered_once}
use Rattle.jvm_model.specs.LinkedPrograms.{IsProgram}
use Rattle.lowering_supply.specs.Supplied.{IsSupplyOutcome, IsRefusalFor, IsSupplied, bad_code, bad_flow, not_lowered, lowered}
use Rattle.op_model.specs.Supplies.{IsCodedMethod}

-- ---- the method

abbrev pub file_of : ClassFile → Body → ClassFile
file_of d (in_file file place member) = file
file_of d _ = d

abbrev pub place_of : Body → ℕ
place_of (in_file file place member) = place
place_of _ = 0

record IsSameMethod (p : Program) (number : ℕ) (x y : IsCodedMethod p number) : Type 0 where
  pub method : x.method ≡ y.method
  pub file : x.file ≡ y.file
  pub place : x.place ≡ y.place

same_method : (p : Program) (number : ℕ) (x y : IsCodedMethod p number) → IsSameMethod p number x y
same_method p number x y =
    let method : x.method ≡ y.method = same_Some x.method y.method (sym x.stands ∙ y.stands) in
    let body : in_file x.file x.place x.member ≡ in_file y.file y.place y.member = sym x.of_file ∙ ap (λ (m : Method). m.body) method ∙ y.of_file in
    record { method = method; file = ap (file_of x.file) body; place = ap place_of body }

-- ---- its code, and the flow graph of that

-- the refusal for one fault is one
one_refusal : (p : Program) (m : Method) (offset : ℕ) (reason : Reason) (a b : Refusal) → IsRefusalFor p m offset reason a → IsRefusalFor p m offset reason b → a ≡ b
one_refusal p m offset reason a b x y =
    let class : x.class ≡ y.class = same_Some x.class y.class (sym x.named ∙ y.named) in
    x.is ∙ ap (λ (c : Class). record { file = c.file; offset = offset; reason = reason }) class ∙ sym y.is

abbrev is_read : Result Code Fault → Bool
is_read (Ok code) = true
is_read (Err fault) = false

abbrev code_in : Code → Result Code Fault → Code
code_in d (Ok code) = code
code_in d (Err fault) = d

abbrev fault_in : Fault → Result Code Fault → Fault
fault_in d (Ok code) = d
fault_in d (Err fault) = fault

abbrev Told : Type 0
Told = Result Graph (Failure Fault)

abbrev is_graph : Told → Bool
is_graph (Ok graph) = true
is_graph _ = false

abbrev graph_in : Graph → Told → Graph
graph_in d (Ok graph) = graph
graph_in d _ = d

abbrev graph_fault_in : Fault → Told → Fault
graph_fault_in d (Err (Cause fault)) = fault
graph_fault_in d _ = d

never : false ≡ true → ⊥
never e = cc

module _ (file : ClassFile) (place : ℕ) where
  one_code : (a b : Code) → ReadsCode file place (Ok a) → ReadsCode file place (Ok b) → a ≡ b
  one_code a b x y = ap (code_in a) (one_reading file place (Ok a) (Ok b) x y)

  one_fault : (a b : Fault) → ReadsCode file place (Err a) → ReadsCode file place (Err b) → a ≡ b
  one_fault a b x y = ap (fault_in a) (one_reading file place (Err a) (Err b) x y)

  not_both : (a : Fault) (b : Code) → ReadsCode file place (Err a) → ReadsCode file place (Ok b) → ⊥
  not_both a b x y = never (ap is_read (one_reading file place (Err a) (Ok b) x y))

  -- what is so of the code and its flow graph is so of them as they are read again
  moved : (P : Code → Graph → Type 0) (c d : Code) → ReadsCode file place (Ok c) → ReadsCode file place (Ok d) → (g h : Graph) → IsGraph file c g → IsGraph file d h → P c g → P d h
  moved P c d x y g h is is2 holds =
      let codes = one_code c d x y in
      let here = subst (λ (e : Code). IsGraph file e g) codes is in
      subst (P d) (ap (graph_in g) (one_told file d (Ok g) (Ok h) here is2 tt tt)) (subst (λ (e : Code). P e g) codes holds)

  one_flow_fault : (c d : Code) → ReadsCode file place (Ok c) → ReadsCode file place (Ok d) → (a b : Fault) → IsFault file c a.offset a.reason → IsFault file d b.offset b.reason → a ≡ b
  one_flow_fault c d x y a b is is2 =
      let here = subst (λ (e : Code). IsFault file e a.offset a.reason) (one_code c d x y) is in
      ap (graph_fault_in a) (one_told file d (Err (Cause a)) (Err (Cause b)) here is2 tt tt)

  no_flow_fault : (c d : Code) → ReadsCode file place (Ok c) → ReadsCode file place (Ok d) → (a : Fault) (g : Graph) → IsFault file c a.offset a.reason → IsGraph file d g → ⊥
  no_flow_fault c d x y a g is is2 =
      let here = subst (λ (e : Code). IsFault file e a.offset a.reason) (one_code c d x y) is in
      never (ap is_graph (one_told file d (Err (Cause a)) (Ok g) here is2 tt tt))

-- ---- what it is given as

module _ (p : Program) (program : IsProgram p) (number : ℕ) (m : Method) (file : ClassFile) (place : ℕ) (a b : Result LoweredMethod Refusal) where
  abbrev fault : ℕ → Reason → Fault
  fault offset reason = record { offset = offset; reason = reason }

  abbrev Outcome : Result LoweredMethod Refusal → Type 0
  Outcome answer = IsSupplyOutcome p number m file place answer

  by_refusals : (r s : Refusal) → r ≡ s → a ≡ Err r → b ≡ Err s → a ≡ b
  by_refusals r s same e f = e ∙ ap (λ (x : Refusal). Err x) same ∙ sym f

  -- the refusals for one fault
  by_faults : (f g : Fault) → f ≡ g → (r s : Refusal) → IsRefusalFor p m f.offset f.reason r → IsRefusalFor p m g.offset g.reason s → a ≡ Err r → b ≡ Err s → a ≡ b
  by_faults f g same r s for for2 e h =
      by_refusals r s (one_refusal p m g.offset g.reason r s (subst (λ (k : Fault). IsRefusalFor p m k.offset k.reason r) same for) for2) e h

  one_outcome : Outcome a → Outcome b → a ≡ b
  one_outcome (bad_code f x r for e) (bad_code g y s for2 h) = by_faults f g (one_fault file place f g x y) r s for for2 e h
  one_outcome (bad_code f x r for e) (bad_flow d y offset reason is s for2 h) = absurd (not_both file place f d x y)
  one_outcome (bad_code f x r for e) (not_lowered d y graph is s refused h) = absurd (not_both file place f d x y)
  one_outcome (bad_code f x r for e) (lowered d y graph is l accepted order h) = absurd (not_both file place f d x y)
  one_outcome (bad_flow c x offset reason is r for e) (bad_code g y s for2 h) = absurd (not_both file place g c y x)
  one_outcome (bad_flow c x offset reason is r for e) (bad_flow d y offset2 reason2 is2 s for2 h) =
      by_faults (fault offset reason) (fault offset2 reason2) (one_flow_fault file place c d x y (fault offset reason) (fault offset2 reason2) is is2) r s for for2 e h
  one_outcome (bad_flow c x offset reason is r for e) (not_lowered d y graph is2 s refused h) = absurd (no_flow_fault file place c d x y (fault offset reason) graph is is2)
  one_outcome (bad_flow c x offset reason is r for e) (lowered d y graph is2 l accepted order h) = absurd (no_flow_fault file place c d x y (fault offset reason) graph is is2)
  one_outcome (not_lowered c x graph is r refused e) (bad_code g y s for2 h) = absurd (not_both file place g c y x)
  one_outcome (not_lowered c x graph is r refused e) (bad_flow d y offset reason is2 s for2 h) = absurd (no_flow_fault file place d c y x (fault offset reason) graph is2 is)
  one_outcome (not_lowered c x graph is r refused e) (not_lowered d y graph2 is2 s refused2 h) =
      by_refusals r s (refused_once p number d graph2 r s (moved file place (λ k g. IsRefused p number k g r) c d x y graph graph2 is is2 refused) refused2) e h
  one_outcome (not_lowered c x graph is r refused e) (lowered d y graph2 is2 l accepted order h) =
      absurd (refused_alone p number d graph2 r l (moved file place (λ k g. IsRefused p number k g r) c d x y graph graph2 is is2 refused) accepted)
  one_outcome (lowered c x graph is l accepted order e) (bad_code g y s for2 h) = absurd (not_both file place g c y x)
  one_outcome (lowered c x graph is l accepted order e) (bad_flow d y offset reason is2 s for2 h) = absurd (no_flow_fault file place d c y x (fault offset reason) graph is2 is)
  one_outcome (lowered c x graph is l accepted order e) (not_lowered d y graph2 is2 s refused h) =
      absurd (refused_alone p number c graph s l (moved file place (λ k g. IsRefused p number k g s) d c y x graph2 graph is2 is refused) accepted)
  one_outcome (lowered c x graph is l accepted order e) (lowered d y graph2 is2 k accepted2 order2 h) =
      let here = moved file place (λ z g. IsAccepted p number z g l) c d x y graph graph2 is is2 accepted in
      let ordered = moved file place (λ z g. AreInOrder p number z g l) c d x y graph graph2 is is2 order in
      e ∙ ap (λ (n : LoweredMethod). Ok n) (ordered_once p number d graph2 l k program here accepted2 ordered order2) ∙ sym h

pub one_answer : (p : Program) (number : ℕ) (a b : Result LoweredMethod Refusal) → IsSupplied p number a → IsSupplied p number b → a ≡ b
one_answer p number a b x y =
    let same = same_method p number x.coded y.coded in
    let by_method = subst (λ (m : Method). IsSupplyOutcome p number m x.coded.file x.coded.place a) same.method x.outcome in
    let by_file = subst (λ (f : ClassFile). IsSupplyOutcome p number y.coded.method f x.coded.place a) same.file by_method in
    let by_place = subst (λ (k : ℕ). IsSupplyOutcome p number y.coded.method y.coded.file k a) same.place by_file in
    one_outcome p y.program number y.coded.method y.coded.file y.coded.place a b by_place y.outcome
