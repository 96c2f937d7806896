-- An initialiser of a class or of a supertype is declared by the class, or through one of its own superinterfaces, or is one of its
-- superclass.
use Rattle.std.proofs.Common.{◌≡◌, ◌↔◌, ◌⊎◌, inl, inr, ℕ, List, [], ◌∷◌, Option, Some, None, Result, Ok, Err, IfOk, refl, sym, ap, ◌∙◌, subst, arith}
use Rattle.std.specs.declared.alloc.Global.{Global}
use Rattle.std.specs.declared.vec.Vec.{Vec}
use Rattle.std.specs.List.{slice_get, Contains}
use Rattle.std.proofs.lemmas.Option.{same_Some}
use Rattle.std.proofs.lemmas.Result.{IfOk-at_ok, IfOk-weaker}
use Rattle.jvm_model.specs.declared.number.MethodNo.{MethodNo}
use Rattle.jvm_model.specs.LinkedPrograms.{IsProgram}
use Rattle.jvm_model.specs.Programs.{Class, Method, Program}
use Rattle.jvm_model.specs.Subtypes.{class_named, IsChain, IsDirectSuper, IsSubtype, same, below}
use Rattle.program_model.specs.Numbers.{name_at, IsClassNumber}
use Rattle.program_model.specs.Whole.{IsThroughInterface}
use Rattle.hierarchy.specs.Upward.{IsFoldedUpward, MakesAlong}
use Rattle.hierarchy.proofs.ClassPlaces.{name_at-at, number_named, class_of_method}
use Rattle.machine_nodes.specs.Nodes.{IsCodedInitialiser}
use Rattle.entry_points.specs.Declaring.{AddsDeclared, AddsMethods, DeclaresCoded, IsDeclaredAt, OneDeclares}
use Rattle.entry_points.proofs.AddedMethods.{both_added, none_added}
use Rattle.entry_points.proofs.CodedMethods.{with_code, code_there}

-- ---- what classes declare

module _ (p : Program) (program : IsProgram p) where
  -- a class declares one initialiser
  pub one_declared : (class : List ℕ) (i j : ℕ) → DeclaresCoded p class i → DeclaresCoded p class j → i ≡ j
  one_declared class i j a b = program.members.methods i j a.method b.method a.stands b.stands (a.of_class ∙ sym b.of_class) (a.named ∙ sym b.named)

  -- what a class declares is an initialiser of each class that is below it
  declared_above : (owner class : List ℕ) (i : ℕ) → DeclaresCoded p owner i → IsSubtype p owner class → IsCodedInitialiser p class i
  declared_above owner class i d above =
      let methods : d.coded.method ≡ d.method = same_Some d.coded.method d.method (sym d.coded.stands ∙ d.stands) in
      let of_file = ap (λ (m : Method). m.body) (sym methods) ∙ d.coded.of_file in
      record {
        method = d.method;
        stands = d.stands;
        named = d.named;
        file = d.coded.file;
        place = d.coded.place;
        member = d.coded.member;
        of_file = of_file;
        code = code_there p program i d.method d.stands d.coded.file d.coded.place d.coded.member of_file d.coded;
        above = subst (λ (name : List ℕ). IsSubtype p name class) (sym d.of_class) above;
      }

  -- and an initialiser is declared by its own class
  declared_by : (class owner : List ℕ) (i : ℕ) (h : IsCodedInitialiser p class i) → h.method.class ≡ owner → DeclaresCoded p owner i
  declared_by class owner i h is = record {
    method = h.method;
    stands = h.stands;
    of_class = is;
    named = h.named;
    coded = with_code p program i h.method h.stands h.file h.place h.member h.of_file h.code;
  }

-- it is one of each class that is below its own
of_lower : (p : Program) (i : ℕ) (upper lower : List ℕ) (h : IsCodedInitialiser p upper i) → IsSubtype p h.method.class lower → IsCodedInitialiser p lower i
of_lower p i upper lower h is =
    record { method = h.method; stands = h.stands; named = h.named; file = h.file; place = h.place; member = h.member; of_file = h.of_file; code = h.code; above = is }

-- ---- a class and its superinterfaces

module _ (p : Program) (n : ℕ) (within : IsClassNumber p n) (c : Class) (stands : slice_get p.classes n ≡ Some c) where
  module _ (through : List ℕ) (exact : (k : ℕ) → IsClassNumber p k → Contains through k ↔ IsThroughInterface p c k) where
    pub declared_here : ((k : ℕ) → Contains through k → IsClassNumber p k) → (i : ℕ) → (DeclaresCoded p (name_at p n) i ⊎ OneDeclares p through i) ↔ IsDeclaredAt p c i
    declared_here each i = (joined, λ d. parted d d.there)
      where
        joined : DeclaresCoded p (name_at p n) i ⊎ OneDeclares p through i → IsDeclaredAt p c i
        joined (inl d) = record { owner = n; within = within; is = d; there = inl (name_at-at p n c stands) }
        joined (inr d) = record {
          owner = d.owner;
          within = each d.owner d.among;
          is = d.is;
          there = inr ((exact d.owner (each d.owner d.among)).0 d.among);
        }

        parted : (d : IsDeclaredAt p c i) → (name_at p d.owner ≡ c.name) ⊎ IsThroughInterface p c d.owner → DeclaresCoded p (name_at p n) i ⊎ OneDeclares p through i
        parted d (inl itself) = inl (subst (λ (name : List ℕ). DeclaresCoded p name i) (itself ∙ sym (name_at-at p n c stands)) d.is)
        parted d (inr above) = inr (record { owner = d.owner; among = (exact d.owner d.within).1 above; is = d.is })

-- ---- the walk

-- The method is an initialiser of the class or of one of its supertypes, if there is a class.
abbrev pub IsCodedFrom : Program → Option (List ℕ) → ℕ → Type 0
IsCodedFrom p None = λ number. ⊥
IsCodedFrom p (Some name) = IsCodedInitialiser p name

module _ (p : Program) (program : IsProgram p) (name : List ℕ) (c : Class) (named : class_named p name ≡ Some c) (i : ℕ) where
  name_is : c.name ≡ name
  name_is = (number_named p name c named).2

  -- what the class declares, or a superinterface
  from_here : IsDeclaredAt p c i → IsCodedInitialiser p name i
  from_here d = by d.there
    where
      by : (name_at p d.owner ≡ c.name) ⊎ IsThroughInterface p c d.owner → IsCodedInitialiser p name i
      by (inl itself) = declared_above p program (name_at p d.owner) name i d.is (same name (sym name_is ∙ sym itself))
      by (inr through) = declared_above p program (name_at p d.owner) name i d.is (below name c through.interface named (inr through.among) through.above)

  -- what the superclass has
  from_above : (super : Option (List ℕ)) → c.super_class ≡ super → IsCodedFrom p super i → IsCodedInitialiser p name i
  from_above None is h = absurd h
  from_above (Some up) is h = of_lower p i up name h (below name c up named (inl is) h.above)

  -- there are no others
  where_declared : IsCodedInitialiser p name i → IsDeclaredAt p c i ⊎ IsCodedFrom p c.super_class i
  where_declared h = split name refl h.above
    where
      through : (interface : List ℕ) → Contains c.interfaces interface → IsSubtype p h.method.class interface → IsDeclaredAt p c i
      through interface among above =
          let k = class_of_method p program i h.method h.stands in
          record {
            owner = k.0;
            within = k.1;
            is = declared_by p program name (name_at p k.0) i h (sym k.2);
            there = inr (record { interface = interface; among = among; above = subst (λ (x : List ℕ). IsSubtype p x interface) (sym k.2) above });
          }

      direct : (super : List ℕ) → IsDirectSuper c super → IsSubtype p h.method.class super → IsDeclaredAt p c i ⊎ IsCodedFrom p c.super_class i
      direct super (inl is) above = inr (subst (λ (s : Option (List ℕ)). IsCodedFrom p s i) (sym is) (of_lower p i name super h above))
      direct super (inr among) above = inl (through super among above)

      split : (upper : List ℕ) → name ≡ upper → IsSubtype p h.method.class upper → IsDeclaredAt p c i ⊎ IsCodedFrom p c.super_class i
      split upper is (same _ e) =
          let k = class_of_method p program i h.method h.stands in
          inl (record { owner = k.0; within = k.1; is = declared_by p program name (name_at p k.0) i h (sym k.2); there = inl (k.2 ∙ sym e ∙ sym is ∙ sym name_is) })
      split upper is (below _ d super upper_named is_direct above) =
          let one : d ≡ c = same_Some d c (sym upper_named ∙ ap (class_named p) (sym is) ∙ named) in
          direct super (subst (λ (x : Class). IsDirectSuper x super) one is_direct) above

  from_class : (IsDeclaredAt p c i ⊎ IsCodedFrom p c.super_class i) ↔ IsCodedInitialiser p name i
  from_class = (λ either. elim either [ inl d ↦ from_here d | inr above ↦ from_above c.super_class refl above ], where_declared)

-- There were methods before, and all initialisers from a class upward were added to them.
record AddsFrom {E : Type 0} (p : Program) (start : Option (List ℕ)) (before : Result (Vec MethodNo Global) E) (now : Vec MethodNo Global) : Type 0 where
  found : Vec MethodNo Global
  were : before ≡ Ok found
  adds : AddsMethods (IsCodedFrom p start) found.items now.items

-- classes that each add what they declare add all initialisers
adds_along : {E : Type 0} (p : Program) → IsProgram p → (chain : List Class) (start : Option (List ℕ)) → IsChain p start chain → (before now : Result (Vec MethodNo Global) E)
    → MakesAlong (λ c old new. IfOk new (AddsDeclared p c old)) chain before now → IfOk now (AddsFrom p start before)
adds_along p program chain start of_start before (Err e) makes = tt
adds_along p program [] None of_start before (Ok now) makes = record { found = now; were = makes; adds = none_added (IsCodedFrom p None) now.items (λ i h. h) }
adds_along p program [] (Some name) of_start before (Ok now) makes = absurd of_start
adds_along p program (c ∷ chain) None of_start before (Ok now) makes = absurd of_start
adds_along p program (c ∷ chain) (Some name) of_start before (Ok now) makes =
    let rest = adds_along p program chain c.super_class of_start.1 makes.0 (Ok now) makes.2 in
    let first = IfOk-at_ok (AddsDeclared p c before) rest.were makes.1 in
    record {
      found = first.found;
      were = first.were;
      adds = both_added (IsDeclaredAt p c) (IsCodedFrom p c.super_class) (IsCodedInitialiser p name) first.found.items rest.found.items now.items
          (from_class p program name c of_start.0) first.adds rest.adds;
    }

-- where there were none before, all initialisers of the class are there, and no others
pub all_found : {E : Type 0} (p : Program) → IsProgram p → (class : List ℕ) (first : Vec MethodNo Global) → first.items ≡ [] → (found : Result (Vec MethodNo Global) E)
    → IsFoldedUpward p (λ c old new. IfOk new (AddsDeclared p c old)) class (Ok first) found
    → IfOk found (λ v. (i : MethodNo) → Contains v.items i ↔ IsCodedInitialiser p class i.0)
all_found {E} p program class first none found walk =
    IfOk-weaker found (AddsFrom p (Some class) (Ok first)) (λ v. (i : MethodNo) → Contains v.items i ↔ IsCodedInitialiser p class i.0) all
    (adds_along p program walk.chain (Some class) walk.of_class (Ok first) found walk.makes)
  where
    all : (v : Vec MethodNo Global) → AddsFrom {E = E} p (Some class) (Ok first) v → (i : MethodNo) → Contains v.items i ↔ IsCodedInitialiser p class i.0
    all v h i = (λ there. by (h.adds.only i there), λ is. h.adds.added i is)
      where
        empty : h.found.items ≡ []
        empty = let one : first ≡ h.found = cc in ap (λ (x : Vec MethodNo Global). x.items) (sym one) ∙ none

        by : Contains h.found.items i ⊎ IsCodedInitialiser p class i.0 → IsCodedInitialiser p class i.0
        by (inl before) =
            let there = subst (λ (xs : List MethodNo). Contains xs i) empty before in
            let few = there.1 in
            absurd (omega (arith, few))
        by (inr is) = is
