-- The methods of the superinterfaces of a class: each superinterface is above an interface of a class of the chain.
use Rattle.std.proofs.Common.{◌≡◌, ◌≢◌, ℕ, ◌+◌, ◌<◌, ◌≤◌, true, List, [], ◌∷◌, length, get_or, Option, Some, None, refl, sym, ◌∙◌, ap, subst, arith, inl, inr}
use borrow.Author.Count.{below_more}
use Rattle.std.specs.Bool.{IsTrue}
use Rattle.std.specs.List.{slice_get, Contains}
use Rattle.std.proofs.lemmas.Bool.{false≢true}
use Rattle.std.proofs.lemmas.Option.{same_Some, slice_get-get_or, get_or_from_slice_get}
use Rattle.jvm_model.specs.Lookups.{Signature}
use Rattle.jvm_model.specs.LinkedPrograms.{IsProgram}
use Rattle.jvm_model.specs.Programs.{Class, Method, Program}
use Rattle.jvm_model.specs.Resolution.{Declares}
use Rattle.jvm_model.specs.Subtypes.{class_named, IsChain, IsSubtype, same, below}
use Rattle.jvm_model.specs.declared.number.MethodNo.{MethodNo}
use Rattle.program_model.specs.Numbers.{name_at, IsClassNumber}
use Rattle.program_model.specs.Ranks.{IsRanked}
use Rattle.program_model.specs.Whole.{IsThroughInterface}
use Rattle.hierarchy.specs.Searches.{Finds, IsSuch, IsInheritable, IsOffered, OffersThrough, InheritsSuch}
use Rattle.hierarchy.specs.Upward.{IsFirstUpward}
use Rattle.hierarchy.proofs.Chains.{rank_falls}
use Rattle.hierarchy.proofs.ClassPlaces.{number_named, named_at, supers_of, name_at-at, class_there, class_within}
use Rattle.hierarchy.proofs.Declaring.{finds_same}
use Rattle.hierarchy.proofs.Walks.{HasAlong, first_along}

-- ---- what an interface offers

-- an interface offers what it declares
pub offered_declared : (p : Program) (s : Signature) (Takes : ℕ → Method → Type 0) (i : ℕ) (found : Option MethodNo) → IsClassNumber p i
    → ((c : Class) → slice_get p.classes i ≡ Some c → c.is_interface ≡ true) → Finds (Declares p (IsSuch s (IsInheritable Takes)) (name_at p i)) found
    → Finds (IsOffered p s Takes i) found
offered_declared p s Takes i found within kind =
    let there = class_there p i within in
    let name = name_at-at p i there.0 there.1 in
    let Is = IsSuch s (IsInheritable Takes) in
    finds_same (Declares p Is (name_at p i)) (IsOffered p s Takes i) found
    (λ n d. record { class = there.0; at = there.1; kind = kind there.0 there.1; declares = subst (λ (x : List ℕ). Declares p Is x n) name d })
    (λ n o. subst (λ (x : List ℕ). Declares p Is x n) (sym (name_at-at p i o.class o.at)) o.declares)

-- No interface before a place offers such a method.
pub record NoneBefore (p : Program) (s : Signature) (Takes : ℕ → Method → Type 0) (interfaces : List ℕ) (count : ℕ) : Type 0 where
  pub none : (k : ℕ) → k < count → (n : ℕ) → IsOffered p s Takes (get_or interfaces k 0) n → ⊥

pub none_more : (p : Program) (s : Signature) (Takes : ℕ → Method → Type 0) (interfaces : List ℕ) (count : ℕ) → NoneBefore p s Takes interfaces count
    → ((n : ℕ) → IsOffered p s Takes (get_or interfaces count 0) n → ⊥) → NoneBefore p s Takes interfaces (count + 1)
none_more p s Takes interfaces count before here = record { none = below_more (λ k. (n : ℕ) → IsOffered p s Takes (get_or interfaces k 0) n → ⊥) count before.none here }

-- what one of the interfaces of a class offers is offered through them
pub through_here : (p : Program) (s : Signature) (Takes : ℕ → Method → Type 0) (c : Class) (interfaces : List ℕ) (count n : ℕ) → count < length interfaces
    → ((k : ℕ) → IsClassNumber p k → (Contains interfaces k → IsThroughInterface p c k) × (IsThroughInterface p c k → Contains interfaces k))
    → IsOffered p s Takes (get_or interfaces count 0) n → OffersThrough p s Takes c n
through_here p s Takes c interfaces count n lt exact offered =
    let interface = get_or interfaces count 0 in
    record {
      interface = interface;
      through = (exact interface (class_within p interface offered.class offered.at)).0 (count, lt, get_or_from_slice_get interfaces count interface interface (slice_get-get_or interfaces count 0 lt));
      offered = offered;
    }

-- if none of them offers one, there is none
pub none_through : (p : Program) (s : Signature) (Takes : ℕ → Method → Type 0) (c : Class) (interfaces : List ℕ) (count n : ℕ) → length interfaces ≤ count
    → ((k : ℕ) → IsClassNumber p k → (Contains interfaces k → IsThroughInterface p c k) × (IsThroughInterface p c k → Contains interfaces k))
    → NoneBefore p s Takes interfaces count → OffersThrough p s Takes c n → ⊥
none_through p s Takes c interfaces count n all exact before through =
    let i = through.interface in
    let among = (exact i (class_within p i through.offered.class through.offered.at)).1 through.through in
    let lt = among.1 in
    let is : get_or interfaces among.0 0 ≡ i = get_or_from_slice_get interfaces among.0 i 0 (slice_get-get_or interfaces among.0 i among.1 ∙ ap (λ v. Some v) among.2) in
    before.none among.0 (omega (arith, lt, all)) n (subst (λ (x : ℕ). IsOffered p s Takes x n) (sym is) through.offered)

-- ---- inherited methods are those that are offered along the chain

-- a superinterface is above an interface of a class of the chain
offered_along : (p : Program) → IsProgram p → (s : Signature) (Takes : ℕ → Method → Type 0) (number : ℕ) (upper : List ℕ) (interface : Class) → class_named p upper ≡ Some interface
    → IsTrue interface.is_interface → ((i : ℕ) → slice_get p.classes i ≡ Some interface → IsOffered p s Takes i number)
    → (name : List ℕ) (chain : List Class) → IsChain p (Some name) chain → IsSubtype p upper name → name ≢ upper → HasAlong (OffersThrough p s Takes) chain number
offered_along p program s Takes number upper interface upper_named kind offered name chain is (same _ e) differs = absurd (differs e)
offered_along p program s Takes number upper interface upper_named kind offered name [] is (below _ c super named direct rest) differs = absurd is
offered_along p program s Takes number upper interface upper_named kind offered name (d ∷ chain) is (below _ c super named direct rest) differs =
    let class_is : c ≡ d = same_Some c d (sym named ∙ is.0) in
    elim direct [
      | inl up ↦
          let above = (supers_of p program name c named).superclass super up in
          let other : super ≢ upper = λ e.
          let alike : above.0 ≡ interface = same_Some above.0 interface (sym above.1 ∙ ap (class_named p) e ∙ upper_named) in
          false≢true (sym above.2 ∙ ap (λ (x : Class). x.is_interface) alike ∙ kind) in
          let higher = subst (λ (o : Option (List ℕ)). IsChain p o chain) (ap (λ (x : Class). x.super_class) (sym class_is) ∙ up) is.1 in
          inr (offered_along p program s Takes number upper interface upper_named kind offered super chain higher rest other)
      | inr among ↦
          let place = number_named p upper interface upper_named in
          let name_is = name_at-at p place.0 interface place.1 ∙ place.2 in
          inl (record {
            interface = place.0;
            through = record {
              interface = super;
              among = subst (λ (x : Class). Contains x.interfaces super) class_is among;
              above = subst (λ (x : List ℕ). IsSubtype p x super) (sym name_is) rest;
            };
            offered = offered place.0 place.1;
          })
    ]

pub inherited_along : (p : Program) → IsProgram p → (s : Signature) (Takes : ℕ → Method → Type 0) (name : List ℕ) (chain : List Class) (number : ℕ) → IsChain p (Some name) chain
    → InheritsSuch p name s Takes number → HasAlong (OffersThrough p s Takes) chain number
inherited_along p program s Takes name chain number is such =
    let inherited = such.inherited in
    let above = inherited.above in
    let name_is : above.interface.name ≡ inherited.method.class = (number_named p inherited.method.class above.interface above.named).2 in
    offered_along p program s Takes number inherited.method.class above.interface above.named above.kind
    (λ i at. record {
      class = above.interface;
      at = at;
      kind = above.kind;
      declares = record {
        method = inherited.method;
        stands = inherited.stands;
        of_class = sym name_is;
        is = (inherited.same_call, (inherited.visible, inherited.instance, such.taken));
      };
    })
    name chain is above.below.0 above.below.1

-- the rank of a supertype is not above that of its subtype
rank_sub : (p : Program) (ranked : IsRanked p) (upper name : List ℕ) → IsSubtype p upper name → ranked.rank upper ≤ ranked.rank name
rank_sub p ranked upper name (same _ e) = subst (λ (x : List ℕ). ranked.rank upper ≤ ranked.rank x) (sym e) (omega arith)
rank_sub p ranked upper name (below _ c super named direct rest) =
    let less = rank_falls p ranked name c super named direct in
    let more = rank_sub p ranked upper super rest in
    omega (arith, less, more)

-- A supertype, of a lower rank, offers the method.
record OffersLower (p : Program) (ranked : IsRanked p) (s : Signature) (Takes : ℕ → Method → Type 0) (name : List ℕ) (number : ℕ) : Type 0 where
  interface : ℕ
  offered : IsOffered p s Takes interface number
  sub : IsSubtype p (name_at p interface) name
  less : ranked.rank (name_at p interface) < ranked.rank name

-- What supertypes of a lower rank of the class of a name offer, if there is one.
abbrev OffersFrom : (p : Program) → IsRanked p → Signature → (ℕ → Method → Type 0) → ℕ → Option (List ℕ) → Type 0
OffersFrom p ranked s Takes number None = ⊥
OffersFrom p ranked s Takes number (Some name) = OffersLower p ranked s Takes name number

lower_from : (p : Program) (ranked : IsRanked p) (s : Signature) (Takes : ℕ → Method → Type 0) (number : ℕ) (start : Option (List ℕ)) (chain : List Class) → IsChain p start chain
    → HasAlong (OffersThrough p s Takes) chain number → OffersFrom p ranked s Takes number start
lower_from p ranked s Takes number None [] is along = along
lower_from p ranked s Takes number None (c ∷ chain) is along = absurd is
lower_from p ranked s Takes number (Some name) [] is along = absurd is
lower_from p ranked s Takes number (Some name) (c ∷ chain) is (inl here) =
    let direct = inr here.through.among in
    let less = rank_falls p ranked name c here.through.interface is.0 direct in
    let more = rank_sub p ranked (name_at p here.interface) here.through.interface here.through.above in
    record {
      interface = here.interface;
      offered = here.offered;
      sub = below name c here.through.interface is.0 direct here.through.above;
      less = omega (arith, less, more);
    }
lower_from p ranked s Takes number (Some name) (c ∷ chain) is (inr later) = above c.super_class refl (lower_from p ranked s Takes number c.super_class chain is.1 later)
  where
    above : (o : Option (List ℕ)) → c.super_class ≡ o → OffersFrom p ranked s Takes number o → OffersLower p ranked s Takes name number
    above None e h = absurd h
    above (Some up) e h =
        let less = rank_falls p ranked name c up is.0 (inl e) in
        let more = h.less in
        record { interface = h.interface; offered = h.offered; sub = below name c up is.0 (inl e) h.sub; less = omega (arith, less, more) }

pub along_inherited : (p : Program) → IsProgram p → IsRanked p → (s : Signature) (Takes : ℕ → Method → Type 0) (name : List ℕ) (chain : List Class) (number : ℕ) → IsChain p (Some name) chain
    → HasAlong (OffersThrough p s Takes) chain number → InheritsSuch p name s Takes number
along_inherited p program ranked s Takes name chain number is along =
    let lower = lower_from p ranked s Takes number (Some name) chain is along in
    let offered = lower.offered in
    let declares = offered.declares in
    let upper_is : name_at p lower.interface ≡ declares.method.class = name_at-at p lower.interface offered.class offered.at ∙ sym declares.of_class in
    let less = lower.less in
    record {
      inherited = record {
        method = declares.method;
        stands = declares.stands;
        above = record {
          interface = offered.class;
          named = subst (λ (x : List ℕ). class_named p x ≡ Some offered.class) (sym declares.of_class) (named_at p program lower.interface offered.class offered.at);
          kind = offered.kind;
          below = (
            subst (λ (x : List ℕ). IsSubtype p x name) upper_is lower.sub,
            λ e. absurd (let rank_is = ap ranked.rank (e ∙ sym upper_is) in omega (arith, less, rank_is)),
          );
        };
        same_call = declares.is.0;
        visible = declares.is.1.0;
        instance = declares.is.1.1;
      };
      taken = declares.is.1.2;
    }

-- what a walk finds that looks for an inherited method
pub inherited_found : (p : Program) → IsProgram p → IsRanked p → (s : Signature) (Takes : ℕ → Method → Type 0) (start : List ℕ) (found : Option MethodNo)
    → IsFirstUpward p (λ c. Finds (OffersThrough p s Takes c)) start found → Finds (InheritsSuch p start s Takes) found
inherited_found p program ranked s Takes start found walk =
    finds_same (HasAlong (OffersThrough p s Takes) walk.chain) (InheritsSuch p start s Takes) found
    (λ n. along_inherited p program ranked s Takes start walk.chain n walk.of_start)
    (λ n. inherited_along p program s Takes start walk.chain n walk.of_start)
    (first_along (OffersThrough p s Takes) walk.chain found walk.first)
