-- The methods that are entered, as the edges have them.
use Rattle.std.proofs.Common.{◌≡◌, ◌↔◌, ℕ, List, [], Option, Some, None, Bor, sym, ap, ◌∙◌, subst}
use Rattle.std.specs.List.{slice_get, Contains}
use Rattle.std.proofs.lemmas.Option.{none-some, same_Some}
use Rattle.jvm_model.specs.declared.number.ClassNo.{ClassNo}
use Rattle.jvm_model.specs.declared.number.MethodNo.{MethodNo}
use Rattle.jvm_model.specs.declared.class_file.ClassFile.{ClassFile}
use Rattle.jvm_model.specs.declared.stub.StubMethod.{StubMethod}
use Rattle.jvm_model.specs.Programs.{Method, Program, described, in_file}
use Rattle.program_model.specs.Bodies.{IsBodyView}
use Rattle.program_model.specs.declared.method_body.MethodBody.TheVariants.{Described, InFile}
use Rattle.program_model.specs.Numbers.{name_at, IsClassNumber, IsMethodNumber}
use Rattle.list_laws.proofs.Members.{contains_none}
use Rattle.hierarchy.proofs.ClassPlaces.{class_there, method_there, name_at-at}
use Rattle.op_model.specs.declared.node.Node.{Node}
use Rattle.op_model.specs.declared.op.Call.{Call as NodeCall}
use Rattle.op_model.specs.declared.op.Op.TheVariants.{Call}
use Rattle.machine_bytecode.specs.Objects.{Subject}
use Rattle.machine_nodes.specs.Nodes.{IsCodedInitialiser}
use Rattle.points_to_rules.specs.Calls.{IsOfFile}
use Rattle.points_to_rules.proofs.TargetBodies.{described_by_view, file_by_view}
use Rattle.points_to_rules.specs.Facts.{may_call}
use Rattle.points_to_rules.specs.Rules.{StartsAt}
use Rattle.ground.specs.Findings.{Findings}
use Rattle.stage_edges.specs.Rules.{MayThrow, node_at}
use Rattle.node_ways.specs.declared.ways.EnteredMethod.{EnteredMethod}
use Rattle.node_ways.specs.Parts.{AreFound, AreLandingsIn, IsEnteredAs}
use Rattle.node_ways.specs.Ways.{AreEntered, IsCalled}
use Rattle.node_ways.proofs.Landing.{of_program}

-- ---- what is shown of a target

module _ (p q : Program) (same : q ≡ p) (target : MethodNo) (within : IsMethodNumber p target.0) where
  pub shown_of_file : (file : Bor ClassFile) (number : ℕ) → ((m : Method) → slice_get q.methods target.0 ≡ Some m → IsBodyView m.body (InFile file number)) → IsOfFile p target
  shown_of_file file number shown =
      let (m, stands) = method_there p target.0 within in
      file_by_view p target m file number stands (shown m (ap (λ (r : Program). slice_get r.methods target.0) same ∙ stands))

  pub shown_described : (stub : Bor StubMethod) → ((m : Method) → slice_get q.methods target.0 ≡ Some m → IsBodyView m.body (Described stub)) → IsOfFile p target → ⊥
  shown_described stub shown of =
      let body = described_by_view of.method stub (shown of.method (ap (λ (r : Program). slice_get r.methods target.0) same ∙ of.stands)) in
      let e : in_file of.file of.place of.member ≡ described stub.now = sym of.of_file ∙ body in
      cc e

-- an initialiser with code is of a class file
pub coded_of_file : (p : Program) (class : List ℕ) (i : MethodNo) → IsCodedInitialiser p class i.0 → IsOfFile p i
coded_of_file p class i is = record { method = is.method; stands = is.stands; file = is.file; place = is.place; member = is.member; of_file = is.of_file }

module _ (x : Subject) (g : Findings) (same : x.program ≡ g.program) (n : Node) where
  -- of targets that are such methods
  pub entered_are : (IsTarget : MethodNo → Type 0) (targets : List MethodNo) (entered : List EnteredMethod) → AreFound (IsEnteredAs g n) (IsOfFile g.program) targets entered
      → ((t : MethodNo) → Contains targets t → IsOfFile g.program t → IsTarget t) → ((t : MethodNo) → IsTarget t → Contains targets t × IsOfFile g.program t)
      → AreEntered x (Contains g.facts) n IsTarget entered
  entered_are IsTarget targets entered found to from = record {
    only = λ e there.
        let (t, among, one) = found.only e there in
        let landings = subst (λ (m : MethodNo). AreLandingsIn g.program n (MayThrow (Contains g.facts) m) e.landings.items) (sym one.is) one.landings in
        (subst IsTarget (sym one.is) (to t among one.of_file), of_program x g.program same n (MayThrow (Contains g.facts) e.method) e.landings.items landings);
    all = λ t target. let (among, of_file) = from t target in let (e, there, one) = found.all t among of_file in (e, there, one.is);
  }

  -- of nothing
  pub none_entered : (IsTarget : MethodNo → Type 0) → ((t : MethodNo) → IsTarget t → ⊥) → AreEntered x (Contains g.facts) n IsTarget []
  none_entered IsTarget none = record { only = λ e there. absurd (contains_none e there); all = λ t target. absurd (none t target) }

  -- ---- calls

  pub called_are : (m : Option MethodNo) (c : NodeCall) → n.op ≡ Call c → (targets : List MethodNo) → ((t : MethodNo) → Contains targets t ↔ Contains g.facts (may_call (node_at m n) t))
      → (entered : List EnteredMethod) → AreFound (IsEnteredAs g n) (IsOfFile g.program) targets entered → AreEntered x (Contains g.facts) n (IsCalled x (Contains g.facts) m n) entered
  called_are m c is targets are entered found =
      entered_are (IsCalled x (Contains g.facts) m n) targets entered found
      (λ t among of_file. record { call = c; is_call = is; goes = (are t).0 among; of_file = subst (λ (p : Program). IsOfFile p t) (sym same) of_file })
      (λ t (called : IsCalled x (Contains g.facts) m n t). ((are t).1 called.goes, subst (λ (p : Program). IsOfFile p t) same called.of_file))

  pub none_called : (m : Option MethodNo) → ((c : NodeCall) → n.op ≡ Call c → ⊥) → AreEntered x (Contains g.facts) n (IsCalled x (Contains g.facts) m n) []
  none_called m none =
      none_entered (IsCalled x (Contains g.facts) m n) (λ t (called : IsCalled x (Contains g.facts) m n t). none called.call called.is_call)

  -- ---- initialisers

  starts_by : (c : ClassNo) → IsClassNumber g.program c.0 → n.trigger ≡ Some c → (i : MethodNo) → IsCodedInitialiser g.program (name_at g.program c.0) i.0 → StartsAt g.program n i
  starts_by c number is i initialiser =
      let (class, stands) = class_there g.program c.0 number in
      record {
        trigger = c;
        is_trigger = is;
        class = name_at g.program c.0;
        is_class = record { class = class; stands = stands; named = sym (name_at-at g.program c.0 class stands) };
        initialiser = initialiser;
      }

  started_by : (c : ClassNo) → n.trigger ≡ Some c → (i : MethodNo) → StartsAt g.program n i → IsCodedInitialiser g.program (name_at g.program c.0) i.0
  started_by c is i starts =
      let one : starts.trigger ≡ c = same_Some starts.trigger c (sym starts.is_trigger ∙ is) in
      let named : name_at g.program starts.trigger.0 ≡ starts.class = name_at-at g.program starts.trigger.0 starts.is_class.class starts.is_class.stands ∙ starts.is_class.named in
      subst (λ (k : ClassNo). IsCodedInitialiser g.program (name_at g.program k.0) i.0) one
      (subst (λ (name : List ℕ). IsCodedInitialiser g.program name i.0) (sym named) starts.initialiser)

  pub started_are : (c : ClassNo) → IsClassNumber g.program c.0 → n.trigger ≡ Some c → (targets : List MethodNo)
      → ((i : MethodNo) → Contains targets i ↔ IsCodedInitialiser g.program (name_at g.program c.0) i.0) → (entered : List EnteredMethod)
      → AreFound (IsEnteredAs g n) (IsOfFile g.program) targets entered → AreEntered x (Contains g.facts) n (StartsAt x.program n) entered
  started_are c number is targets are entered found =
      entered_are (StartsAt x.program n) targets entered found
      (λ i among of_file. subst (λ (p : Program). StartsAt p n i) (sym same) (starts_by c number is i ((are i).0 among)))
      (λ i starts.
      let initialiser = started_by c is i (subst (λ (p : Program). StartsAt p n i) same starts) in
      ((are i).1 initialiser, coded_of_file g.program (name_at g.program c.0) i initialiser))

  pub none_started : n.trigger ≡ None → AreEntered x (Contains g.facts) n (StartsAt x.program n) []
  none_started is = none_entered (StartsAt x.program n) (λ i (starts : StartsAt x.program n i). none-some starts.trigger (sym is ∙ starts.is_trigger))
