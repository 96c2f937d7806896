-- Described targets, as the edges have them.
use Rattle.std.proofs.Common.{◌≡◌, ◌↔◌, ℕ, ◌+◌, ◌≤◌, false, true, List, [], ◌∷◌, ◌++◌, length, map, take, Option, Some, None, Bor, refl, sym, ap, ◌∙◌, subst, inl, inr}
use Rattle.std.specs.List.{slice_get, flat_map, Contains}
use Rattle.std.specs.Option.{IfNone, IfSome, option_to_list}
use Rattle.std.proofs.lemmas.Bool.{false≢true}
use Rattle.std.proofs.lemmas.List.{flat_map_more, map-append, take_all}
use Rattle.std.proofs.lemmas.Option.{same_Some}
use Rattle.jvm_model.specs.declared.descriptor.Kind.{Kind}
use Rattle.jvm_model.specs.declared.number.MethodNo.{MethodNo}
use Rattle.jvm_model.specs.declared.stub.StubArgument.{StubArgument}
use Rattle.jvm_model.specs.declared.stub.StubMethod.{StubMethod}
use Rattle.jvm_model.specs.Descriptors.{IsMethodDescriptor}
use Rattle.jvm_model.specs.DescriptorValues.{IsKind}
use Rattle.jvm_model.specs.Programs.{Method, Program, described}
use Rattle.jvm_model.proofs.FieldKinds.{field_of_kind, no_field}
use Rattle.jvm_model.proofs.Parameters.{joined}
use Rattle.list_laws.proofs.Members.{contains_none}
use Rattle.list_laws.proofs.Places.{front_more}
use Rattle.op_model.specs.declared.node.Node.{Node}
use Rattle.op_model.specs.declared.op.Call.{Call as NodeCall}
use Rattle.op_model.specs.declared.op.Op.TheVariants.{Call}
use Rattle.machine_bytecode.specs.Described.{argument_unit}
use Rattle.machine_bytecode.specs.Objects.{Subject}
use Rattle.points_to_rules.specs.Calls.{IsDescribedBy, IsUnitOf}
use Rattle.points_to_rules.specs.Facts.{may_call}
use Rattle.stub_arguments.specs.Units.{IsArgumentUnit}
use Rattle.ground.specs.Findings.{Findings}
use Rattle.stage_edges.specs.Rules.{IsStub, node_at, slot_of}
use Rattle.node_ways.specs.declared.ways.DescribedTarget.{DescribedTarget}
use Rattle.node_ways.specs.Parts.{AddsFound, AreFound, AreParameters, HasDescription, IsDescribedAs, IsToldBy, IsToldOf}
use Rattle.node_ways.specs.Ways.{AreDescribed, IsDescribed}
use Rattle.node_ways.proofs.Landing.{of_program}

-- the descriptor of a field is none of a method
pub not_of_field : (text : List ℕ) (kind : Kind) → IsKind text kind → IsMethodDescriptor text → ⊥
not_of_field text kind is d = no_field 40 text (joined d.parameters ++ 41 ∷ d.outcome) refl d.spelled (field_of_kind text kind is)

-- the unit of an argument is one number
pub unit_is : (stub : StubMethod) (a : StubArgument) (unit : ℕ) → IsArgumentUnit stub a (Some unit) → (parameters : List (List ℕ)) → AreParameters stub parameters
    → argument_unit stub.is_static parameters a ≡ unit
unit_is stub a unit is parameters of =
    is.1 (argument_unit stub.is_static parameters a) (record { descriptor = of.descriptor; is = ap (λ (ps : List (List ℕ)). argument_unit stub.is_static ps a) of.are })

pub has_unit : (stub : StubMethod) (a : StubArgument) (parameters : List (List ℕ)) → AreParameters stub parameters → IsUnitOf stub a (argument_unit stub.is_static parameters a)
has_unit stub a parameters of = record { descriptor = of.descriptor; is = ap (λ (ps : List (List ℕ)). argument_unit stub.is_static ps a) of.are }

-- ---- the stub of a target

module _ (p : Program) (target : MethodNo) (m : Method) (stub : StubMethod) (stands : slice_get p.methods target.0 ≡ Some m) (body : m.body ≡ described stub) where
  pub found_stub : (o : Option (Bor StubMethod)) → IfSome o (λ found. (found.now ≡ stub) × (stub.is_abstract ≡ false)) → IfSome o (λ found. IsDescribedBy p target found.now)
  found_stub None is = tt
  found_stub (Some found) (same, concrete) =
      subst (λ (s : StubMethod). IsDescribedBy p target s) (sym same) (record { method = m; stands = stands; of_stub = body; concrete = concrete })

  pub no_stub : (o : Option (Bor StubMethod)) → IfNone o (stub.is_abstract ≡ true) → IfNone o ((s : StubMethod) → IsDescribedBy p target s → ⊥)
  no_stub None is_abstract = λ s by.
      let methods = same_Some by.method m (sym by.stands ∙ stands) in
      let e : described s ≡ described stub = sym by.of_stub ∙ ap (λ (k : Method). k.body) methods ∙ body in
      let same : s ≡ stub = cc e in
      false≢true (sym by.concrete ∙ ap (λ (k : StubMethod). k.is_abstract) same ∙ is_abstract)
  no_stub (Some found) is = tt

-- ---- what is kept and given, one after another

abbrev pub kept_of : NodeCall → StubMethod → List (List ℕ) → StubArgument → List ℕ
kept_of c stub parameters a = option_to_list (slot_of c stub parameters a)

pub kept_more : {X Y : Type 0} (f : X → List Y) (xs : List X) (i : ℕ) (x : X) → slice_get xs i ≡ Some x → (old new : List Y) → old ≡ flat_map f (take i xs) → new ≡ old ++ f x
    → new ≡ flat_map f (take (i + 1) xs)
kept_more {X} {Y} f xs i x at old new before added =
    added ∙ ap (λ (ys : List Y). ys ++ f x) before ∙ flat_map_more f [] (take i xs) x ∙ ap (λ (zs : List X). flat_map f zs) (sym (front_more xs i x at))

pub kept_all : {X Y : Type 0} (f : X → List Y) (xs : List X) (i : ℕ) → length xs ≤ i → (ys : List Y) → ys ≡ flat_map f (take i xs) → ys ≡ flat_map f xs
kept_all {X} f xs i long ys is = is ∙ ap (λ (zs : List X). flat_map f zs) (take_all i xs long)

pub given_more : {A B R : Type 0} (f : A → R) (g : B → R) (bs : List B) (i : ℕ) (b : B) → slice_get bs i ≡ Some b → (old new : List A) (a : A) → new ≡ old ++ a ∷ []
    → map f old ≡ map g (take i bs) → f a ≡ g b → map f new ≡ map g (take (i + 1) bs)
given_more {A} {B} {R} f g bs i b at old new a added before same =
    ap (λ (xs : List A). map f xs) added
    ∙ map-append f old (a ∷ [])
    ∙ ap (λ (rs : List R). rs ++ f a ∷ []) before
    ∙ ap (λ (r : R). map g (take i bs) ++ r ∷ []) same
    ∙ sym (map-append g (take i bs) (b ∷ []))
    ∙ ap (λ (cs : List B). map g cs) (sym (front_more bs i b at))

pub given_all : {A B R : Type 0} (f : A → R) (g : B → R) (bs : List B) (i : ℕ) → length bs ≤ i → (xs : List A) → map f xs ≡ map g (take i bs) → map f xs ≡ map g bs
given_all {A} {B} f g bs i long xs is = is ∙ ap (λ (cs : List B). map g cs) (take_all i bs long)

-- a target has one description
one_stub : (p : Program) (target : MethodNo) (a b : StubMethod) → IsDescribedBy p target a → IsDescribedBy p target b → a ≡ b
one_stub p target a b first second =
    let methods = same_Some first.method second.method (sym first.stands ∙ second.stands) in
    let e : described a ≡ described b = sym first.of_stub ∙ ap (λ (m : Method). m.body) methods ∙ second.of_stub in
    cc e

-- ---- one target

pub described_adds : (p : Program) (n : Node) (c : NodeCall) (target : MethodNo) (stub : StubMethod) → IsDescribedBy p target stub → (old new : List DescribedTarget)
    → AddsFound (IsToldBy p n c stub) (IsMethodDescriptor stub.descriptor) old new → AddsFound (IsDescribedAs p n c target) (HasDescription p target) old new
described_adds p n c target stub by old new adds =
    let one : (d : DescribedTarget) → IsToldBy p n c stub d → IsDescribedAs p n c target d =
    λ d told. record { stub = stub; description = record { described = by; descriptor = told.descriptor }; told = told.told } in
    record {
      only = λ d there. elim (adds.only d there) [ inl before ↦ inl before | inr told ↦ inr (one d told) ];
      kept = adds.kept;
      some = λ (other, is).
          let descriptor = subst (λ (s : StubMethod). IsMethodDescriptor s.descriptor) (one_stub p target other stub is.described by) is.descriptor in
          let (d, there, told) = adds.some descriptor in (d, there, one d told);
    }

pub no_description : (p : Program) (target : MethodNo) → ((stub : StubMethod) → IsDescribedBy p target stub → ⊥) → HasDescription p target → ⊥
no_description p target none (stub, is) = none stub is.described

-- ---- all of them

module _ (x : Subject) (g : Findings) (same : x.program ≡ g.program) (m : Option MethodNo) (n : Node) where
  of_stub : (c : NodeCall) → n.op ≡ Call c → (target : MethodNo) → Contains g.facts (may_call (node_at m n) target) → (stub : StubMethod) (parameters : List (List ℕ)) → IsStub x target stub parameters
      → (d : DescribedTarget) → IsToldOf g.program n c stub d → IsDescribed x (Contains g.facts) m n c target stub parameters d
  of_stub c is target goes stub parameters is_stub d told =
      let of : AreParameters stub parameters = record { descriptor = is_stub.descriptor; are = is_stub.are } in
      record {
        is_call = is;
        goes = goes;
        is_stub = is_stub;
        kept = told.kept parameters of;
        results = told.results m parameters of;
        landings = of_program x g.program same n (Contains stub.throws) d.landings.items told.landings;
      }

  pub described_are : (c : NodeCall) → n.op ≡ Call c → (targets : List MethodNo) → ((t : MethodNo) → Contains targets t ↔ Contains g.facts (may_call (node_at m n) t))
      → (found : List DescribedTarget) → AreFound (IsDescribedAs g.program n c) (HasDescription g.program) targets found → AreDescribed x (Contains g.facts) m n found
  described_are c is targets are found sound = record {
    only = λ d there.
        let (t, among, one) = sound.only d there in
        let is_stub : IsStub x t one.stub one.description.descriptor.parameters = record {
          described = subst (λ (p : Program). IsDescribedBy p t one.stub) (sym same) one.description.described;
          descriptor = one.description.descriptor;
          are = refl;
        } in
        (c, t, one.stub, one.description.descriptor.parameters, of_stub c is t ((are t).0 among) one.stub one.description.descriptor.parameters is_stub d one.told);
    all = λ k t stub parameters is_call goes is_stub.
        let by = subst (λ (p : Program). IsDescribedBy p t stub) same is_stub.described in
        let (d, there, one) = sound.all t ((are t).1 goes) (stub, record { described = by; descriptor = is_stub.descriptor }) in
        let told = subst (λ (s : StubMethod). IsToldOf g.program n c s d) (one_stub g.program t one.stub stub one.description.described by) one.told in
        let call : c ≡ k = let e : Call c ≡ Call k = sym is ∙ is_call in cc e in
        (d, there, subst (λ (o : NodeCall). IsDescribed x (Contains g.facts) m n o t stub parameters d) call (of_stub c is t goes stub parameters is_stub d told));
  }

  pub none_described : ((c : NodeCall) → n.op ≡ Call c → ⊥) → AreDescribed x (Contains g.facts) m n []
  none_described none = record {
    only = λ d there. absurd (contains_none d there);
    all = λ c t stub parameters is goes is_stub. absurd (none c is);
  }
