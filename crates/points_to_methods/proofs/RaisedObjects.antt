-- What a node may throw itself: each class has one name, and its objects land at one place.
use Rattle.std.proofs.Common.{◌≡◌, ◌↔◌, ℕ, ◌<◌, List, [], length, get_or, Option, unwrap_or, option_map, Some, sym, ◌∙◌, ap, subst}
use Rattle.std.specs.List.{slice_get, Contains}
use Rattle.std.proofs.lemmas.List.Elements.{All-contains, Contains-get_or}
use Rattle.std.proofs.lemmas.Option.{same_Some}
use Rattle.jvm_model.specs.declared.number.ClassNo.{ClassNo}
use Rattle.jvm_model.specs.declared.site.SiteKind.TheVariants as kinds
use Rattle.jvm_model.specs.Programs.{Class, Program}
use Rattle.program_model.specs.Numbers.{name_at}
use Rattle.machine_nodes.specs.Nodes.{IsClassNumber}
use Rattle.machine_nodes.specs.NodeSteps.{IsFirstTaking}
use Rattle.op_model.specs.declared.lowered.LoweredMethod.{LoweredMethod}
use Rattle.op_model.specs.declared.node.Node.{Node}
use Rattle.op_model.specs.declared.node.NodeHandler.{NodeHandler}
use Rattle.points_to_constraints.specs.Items.{Item, known}
use Rattle.points_to_rules.specs.WholeMethods.{HasNodeAt, IsWholeMethod, NamesNumbers}
use Rattle.points_to_constraints.specs.NodeItems.{RaiseItem}
use Rattle.handler_search.proofs.FirstTaking.{one_taking, taking_one}
use Rattle.points_to_methods.specs.Known.{IsNamedMethod}
use Rattle.points_to_methods.specs.Raises.{RaisesOf}
use Rattle.points_to_rules.specs.Facts.{Holder, may_hold}
use Rattle.points_to_rules.specs.Rules.{IsSlotAt, Lands, caught, site_of, uncaught}
use Rattle.slot_names.specs.Tables.{NameTable}
use Rattle.slot_names.proofs.ListPlaces.{contains_at, stands_below}
use Rattle.points_to_constraints.proofs.Holders.{same_holder_at}
use Rattle.points_to_methods.proofs.NamedSlots.{reached}

-- ---- the class of a number

one_name : (p : Program) (number : ClassNo) (a b : List ℕ) → IsClassNumber p number a → IsClassNumber p number b → a ≡ b
one_name p number a b first second =
    sym first.named ∙ ap (λ (c : Class). c.name) (same_Some first.class second.class (sym first.stands ∙ second.stands)) ∙ second.named

-- ---- what is raised

module _ (p : Program) (l : LoweredMethod) (names : NameTable) (known_method : IsNamedMethod p l names) where
  -- an object of a class lands at one place
  one_place_of : (n : Node) (class : List ℕ) (g h : Holder) → Lands p l.method l n class g → Lands p l.method l n class h → g ≡ h
  one_place_of n class g h (caught a first slot) (caught b second there) =
      let same = one_taking p class n.handlers a b first second in
      same_holder_at l (reached p l names known_method) b.target l.slots g h (subst (λ (c : NodeHandler). IsSlotAt l c.target l.slots g) same slot) there
  one_place_of n class g h (caught a first slot) (uncaught none e) = let (there, takes) = taking_one p class n.handlers a first in absurd (none a there takes)
  one_place_of n class g h (uncaught none e) (caught a first slot) = let (there, takes) = taking_one p class n.handlers a first in absurd (none a there takes)
  one_place_of n class g h (uncaught none e) (uncaught never f) = e ∙ sym f

  pub raised : (n : Node) (number : ClassNo) (class : List ℕ) (to : Holder) → IsClassNumber p number class → Lands p l.method l n class to
      → (x : Item) → (x ≡ known (may_hold to (site_of kinds.Thrown l.method n class))) ↔ RaisesOf p l n number x
  raised n number class to is_class lands x = (
    (λ e. (class, to, is_class, lands, e)),
    (λ (name, there, is_name, lands_there, e).
        let same : name ≡ class = one_name p number name class is_name is_class in
        let at : there ≡ to = one_place_of n class there to (subst (λ (c : List ℕ). Lands p l.method l n c there) same lands_there) lands in
        e ∙ ap (λ (c : List ℕ). known (may_hold there (site_of kinds.Thrown l.method n c))) same ∙ ap (λ (h : Holder). known (may_hold h (site_of kinds.Thrown l.method n class))) at),
  )

pub raises : (p : Program) (l : LoweredMethod) (n : Node) (x : Item) → ((number : ClassNo) × Contains n.throws number × RaisesOf p l n number x) ↔ RaiseItem p l.method l n x
raises p l n x = (
  (λ (number, listed, (class, to, is_class, lands, is)). record { number = number; listed = listed; class = class; is_class = is_class; to = to; lands = lands; is = is }),
  (λ r. (r.number, r.listed, (r.class, r.to, r.is_class, r.lands, r.is))),
)

-- ---- the class that a handler names

pub class_numbered : (p : Program) (number : ClassNo) (name : List ℕ) → number.0 < length p.classes → name ≡ name_at p number.0 → IsClassNumber p number name
class_numbered p number name within same =
    let (c, at) = stands_below p.classes number.0 within in
    record { class = c; stands = at; named = sym (same ∙ ap (λ (o : Option Class). unwrap_or (option_map (λ (d : Class). d.name) o) []) at) }

-- a node stands where the handler begins that takes an object first
pub taking_stands : (p : Program) (l : LoweredMethod) → IsWholeMethod p l.method.0 l → (node : ℕ) (n : Node) → slice_get l.nodes node ≡ Some n → (class : List ℕ) (h : NodeHandler) → IsFirstTaking p class n.handlers h
    → HasNodeAt l h.target
taking_stands p l is_method node n at class h first = is_method.handlers n h (contains_at l.nodes node n at) (taking_one p class n.handlers h first).0

-- the classes that a node throws
pub throws_numbered : (p : Program) (l : LoweredMethod) → IsWholeMethod p l.method.0 l → (node : ℕ) (n : Node) → slice_get l.nodes node ≡ Some n → (cs : List ClassNo) → cs ≡ n.throws → (i : ℕ) (d : ClassNo) → i < length cs
    → (get_or cs i d).0 < length p.classes
throws_numbered p l is_method node n at cs list i d within =
    let numbers = All-contains (NamesNumbers p) l.nodes n is_method.numbers (contains_at l.nodes node n at) in
    numbers.throws (get_or cs i d) (subst (λ (all : List ClassNo). Contains all (get_or cs i d)) list (Contains-get_or cs i d within))
