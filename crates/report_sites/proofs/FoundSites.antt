-- What is added for outcomes, targets, nodes and methods; and that the sites that are found are those that are tracked.
use Rattle.std.proofs.Common.{◌≡◌, ◌↔◌, ℕ, List, Some, false, refl, sym, ◌∙◌, ap, subst, inl, inr, Bor}
use Rattle.std.specs.List.{slice_get, Contains}
use Rattle.std.proofs.lemmas.Option.{same_Some}
use Rattle.jvm_model.specs.declared.class_file.ClassFile.{ClassFile}
use Rattle.jvm_model.specs.declared.number.ClassNo.{ClassNo}
use Rattle.jvm_model.specs.declared.number.MethodNo.{MethodNo}
use Rattle.jvm_model.specs.declared.site.Site.{Site}
use Rattle.jvm_model.specs.declared.stub.StubMethod.{StubMethod}
use Rattle.jvm_model.specs.declared.stub.StubResult.{StubResult}
use Rattle.jvm_model.specs.declared.stub.StubResult.TheVariants as results
use Rattle.jvm_model.specs.Programs.{Program, Method, described}
use Rattle.hierarchy.proofs.ClassPlaces.{method_there}
use Rattle.program_model.specs.Bodies.{IsBodyView}
use Rattle.program_model.specs.Numbers.{name_at, IsMethodNumber}
use Rattle.program_model.specs.declared.method_body.MethodBody.TheVariants.{InFile, Described}
use Rattle.op_model.specs.declared.lowered.LoweredMethod.{LoweredMethod}
use Rattle.op_model.specs.declared.node.Node.{Node}
use Rattle.op_model.specs.declared.op.Call.{Call as NodeCall}
use Rattle.op_model.specs.declared.op.Op.TheVariants.{New, Call}
use Rattle.points_to_rules.specs.Facts.{may_call, may_run}
use Rattle.points_to_rules.specs.Rules.{IsNodeOf, node_of}
use Rattle.ground.specs.Added.{AreAdded, OfOne}
use Rattle.ground.specs.Findings.{Findings, gives_listed}
use Rattle.site_report.specs.declared.tracked_site.TrackedSite.{TrackedSite}
use Rattle.site_report.specs.Sites.{site_in, AreInOrder}
use Rattle.report_spec.specs.Tracked.{Allocates, makes, is_given, AreTracked, IsTracked}
use Rattle.report_sites.specs.Found.{AreFound, GivesNew, HaveSame, IsSiteOf, IsSiteOfMethod, IsTrackedAs, StubGives, TargetGives, result_site}
use Rattle.ground.proofs.Adding.{added_as, added_none}
use Rattle.points_to_rules.proofs.TargetBodies.{file_by_view, described_by_view, not_both}

module _ (p : Program) (upper : ClassNo) (m : MethodNo) (offset : ℕ) where
  -- ---- an outcome

  -- one that is no new object
  pub other_outcome : (outcome : StubResult) → ((class : List ℕ) → outcome ≡ results.New class → ⊥) → (sites : List TrackedSite)
      → AreAdded (GivesNew p upper m offset outcome) sites sites
  other_outcome outcome other sites = added_none (GivesNew p upper m offset outcome) sites (λ t (class, is, tracked). other class is)

  -- a new object of the class
  pub new_outcome : (outcome : StubResult) (class : List ℕ) → outcome ≡ results.New class → (a b : List TrackedSite)
      → AreAdded (IsTrackedAs p upper (result_site m offset class)) a b
      → AreAdded (GivesNew p upper m offset outcome) a b
  new_outcome outcome class is a b added =
      added_as (IsTrackedAs p upper (result_site m offset class)) (GivesNew p upper m offset outcome) a b
      (λ t tracked. (class, is, tracked))
      (λ t (other, also, tracked).
      let both : results.New other ≡ results.New class = sym also ∙ is in
      let classes : other ≡ class = cc in
      subst (λ (c : List ℕ). IsTrackedAs p upper (result_site m offset c) t) classes tracked)
      added

  -- ---- a target

  -- one of a class file gives no new object that is described
  pub file_target : (target : MethodNo) → IsMethodNumber p target.0 → (file : Bor ClassFile) (number : ℕ)
      → ((k : Method) → slice_get p.methods target.0 ≡ Some k → IsBodyView k.body (InFile file number)) → (sites : List TrackedSite)
      → AreAdded (TargetGives p upper m offset target) sites sites
  file_target target within file number view sites =
      let (k, stands) = method_there p target.0 within in
      let of = file_by_view p target k file number stands (view k stands) in
      added_none (TargetGives p upper m offset target) sites (λ t (stub, by, gives). not_both p target stub of by)

  pub stub_target : (target : MethodNo) → IsMethodNumber p target.0 → (stub : Bor StubMethod)
      → ((k : Method) → slice_get p.methods target.0 ≡ Some k → IsBodyView k.body (Described stub)) → (a b : List TrackedSite)
      → AreAdded (StubGives p upper m offset stub.now) a b → AreAdded (TargetGives p upper m offset target) a b
  stub_target target within stub view a b added =
      let (k, stands) = method_there p target.0 within in
      let body = described_by_view k stub (view k stands) in
      added_as (StubGives p upper m offset stub.now) (TargetGives p upper m offset target) a b
      (λ t gives. (stub.now, record { method = k; stands = stands; of_stub = body; concrete = gives.0 }, gives.1))
      (λ t (other, by, gives).
      let bodies : described other ≡ described stub.now = sym by.of_stub ∙ ap (λ (x : Method). x.body)
      (same_Some by.method k (sym by.stands ∙ stands)) ∙ body in
      let stubs : other ≡ stub.now = cc in (
        subst (λ (x : StubMethod). x.is_abstract ≡ false) stubs by.concrete,
        subst (λ (x : StubMethod). OfOne (GivesNew p upper m offset) x.returns t) stubs gives,
      ))
      added

-- ---- a node

module _ (p : Program) (g : Findings) (upper : ClassNo) (m : MethodNo) (n : Node) where
  -- the targets of its call are those that are listed
  pub listed_targets : (listed : List MethodNo) → ((target : MethodNo) → Contains listed target ↔ Contains g.facts (may_call (node_of m n) target)) → (a b : List TrackedSite)
      → AreAdded (OfOne (TargetGives p upper m n.offset) listed) a b
      → AreAdded (λ t. (target : MethodNo) × Contains g.facts (may_call (node_of m n) target) × TargetGives p upper m n.offset target t) a b
  listed_targets listed are a b added =
      added_as (OfOne (TargetGives p upper m n.offset) listed)
      (λ t. (target : MethodNo) × Contains g.facts (may_call (node_of m n) target) × TargetGives p upper m n.offset target t) a b
      (λ t (target, among, gives). (target, (are target).0 among, gives))
      (λ t (target, goes, gives). (target, (are target).1 goes, gives))
      added

  pub made_node : (s : Site) (target : ℕ) → n.op ≡ New s target → (a b : List TrackedSite) → AreAdded (IsTrackedAs p upper s) a b
      → AreAdded (IsSiteOf p g upper m n) a b
  made_node s target is a b added =
      added_as (IsTrackedAs p upper s) (IsSiteOf p g upper m n) a b
      (λ t tracked. inl (s, target, is, tracked))
      (λ t either. elim either [
        | inl (other, into, also, tracked) ↦ (
            let both : New other into ≡ New s target = sym also ∙ is in
            let sites : other ≡ s = cc in
            subst (λ (x : Site). IsTrackedAs p upper x t) sites tracked)
        | inr (call, also, gives) ↦ absurd (let both : Call call ≡ New s target = sym also ∙ is in cc both)
      ])
      added

  pub given_node : (call : NodeCall) → n.op ≡ Call call → (a b : List TrackedSite)
      → AreAdded (λ t. (target : MethodNo) × Contains g.facts (may_call (node_of m n) target) × TargetGives p upper m n.offset target t) a b
      → AreAdded (IsSiteOf p g upper m n) a b
  given_node call is a b added =
      added_as (λ t. (target : MethodNo) × Contains g.facts (may_call (node_of m n) target) × TargetGives p upper m n.offset target t) (IsSiteOf p g upper m n) a b
      (λ t gives. inr (call, is, gives))
      (λ t either. elim either [
        | inl (s, into, also, tracked) ↦ absurd (let both : Call call ≡ New s into = sym is ∙ also in cc both)
        | inr (other, also, gives) ↦ gives
      ])
      added

  -- one that neither makes objects nor calls
  pub other_node : ((s : Site) (target : ℕ) → n.op ≡ New s target → ⊥) → ((call : NodeCall) → n.op ≡ Call call → ⊥) → (sites : List TrackedSite)
      → AreAdded (IsSiteOf p g upper m n) sites sites
  other_node no_new no_call sites =
      added_none (IsSiteOf p g upper m n) sites
      (λ t either. elim either [
        | inl (s, target, is, tracked) ↦ no_new s target is
        | inr (call, is, gives) ↦ no_call call is
      ])

-- ---- all methods

-- The node is one of a listed method of the number.
pub record IsListedNode (g : Findings) (m : MethodNo) (n : Node) : Type 0 where
  pub method : LoweredMethod
  pub listed : Contains g.methods method
  pub number : method.method ≡ m
  pub stands : Contains method.nodes n

module _ (p : Program) (g : Findings) (upper : ClassNo) where
  abbrev Tracked : TrackedSite → Type 0
  Tracked t = IsTracked p (gives_listed g.methods) (Contains g.facts) (name_at p upper.0) t

  listed_node : (l : LoweredMethod) (n : Node) → Contains g.methods l → Contains l.nodes n → IsNodeOf (gives_listed g.methods) l.method l n
  listed_node l n listed stands = record { given = (l, listed, refl, refl); stands = stands }

  to_tracked : (t : TrackedSite) → OfOne (IsSiteOfMethod p g upper) g.methods t → Tracked t
  to_tracked t (l, listed, (runs, (n, stands, inl (s, target, is, tracked)))) = record {
    known = tracked.known;
    allocated = makes l.method l n target runs (listed_node l n listed stands) (is ∙ ap (λ (x : Site). New x target) (sym tracked.is));
    below = tracked.below;
  }
  to_tracked t (l, listed, (runs, (n, stands, inr (call, is, (target, goes, (stub, by, (outcome, among, (class, new, tracked)))))))) =
      let gives = subst (λ (o : StubResult). Contains stub.returns o) new among in
      record {
        known = tracked.known;
        allocated = is_given l.method l n call target stub class runs (listed_node l n listed stands) is goes by gives tracked.is;
        below = tracked.below;
      }

  node_listed : (m : MethodNo) (l : LoweredMethod) (n : Node) → IsNodeOf (gives_listed g.methods) m l n → IsListedNode g m n
  node_listed m l n is =
      let (x, among, number, answer) = is.given in
      let methods : l ≡ x = cc in
      record {
        method = x;
        listed = among;
        number = λ i. record { 0 = number i };
        stands = subst (λ (y : LoweredMethod). Contains y.nodes n) methods is.stands;
      }

  -- its site is one of the method
  of_listed : (m : MethodNo) (n : Node) → IsListedNode g m n → Contains g.facts (may_run m) → (t : TrackedSite) → IsSiteOf p g upper m n t
      → OfOne (IsSiteOfMethod p g upper) g.methods t
  of_listed m n there runs t site = (
    there.method,
    there.listed,
    (
      subst (λ (k : MethodNo). Contains g.facts (may_run k)) (sym there.number) runs,
      (n, there.stands, subst (λ (k : MethodNo). IsSiteOf p g upper k n t) (sym there.number) site),
    ),
  )

  allocated_there : (t : TrackedSite) (s : Site) → IsTrackedAs p upper s t → Allocates p (gives_listed g.methods) (Contains g.facts) s
      → OfOne (IsSiteOfMethod p g upper) g.methods t
  allocated_there t s tracked (makes m l n target runs node is) = of_listed m n (node_listed m l n node) runs t (inl (s, target, is, tracked))
  allocated_there t s tracked (is_given m l n call target stub class runs node is goes by gives same) =
      let as_result = subst (λ (x : Site). IsTrackedAs p upper x t) same tracked in
      of_listed m n (node_listed m l n node) runs t
      (inr (call, is, (target, goes, (stub, by, (results.New class, gives, (class, refl, as_result))))))

  from_tracked : (t : TrackedSite) → Tracked t → OfOne (IsSiteOfMethod p g upper) g.methods t
  from_tracked t tracked = allocated_there t (site_in p t) (record { known = tracked.known; is = refl; below = tracked.below }) tracked.allocated

  pub are_tracked : (found sites : List TrackedSite) → AreFound p g upper found → HaveSame found sites → AreInOrder sites
      → AreTracked p (gives_listed g.methods) (Contains g.facts) (name_at p upper.0) sites
  are_tracked found sites are same order = record {
    those = λ t. (
      λ there. to_tracked t ((are.each t).0 ((same.each t).0 there)),
      λ tracked. (same.each t).1 ((are.each t).1 (from_tracked t tracked)),
    );
    order = order;
  }
