-- Nodes that are entered one after another: that entries stay, and that they tell the variables of their nodes.
use Rattle.std.proofs.Common.{◌≡◌, ℕ, zero, suc, ◌≤◌, Bool, true, false, cond, eqb, List, [], ◌∷◌, ◌++◌, length, set, get_or, replicate, Option, Some, None, refl, sym, ◌∙◌, ap, subst, arith, inl, inr, ◌⊎◌}
use Rattle.std.specs.List.{slice_get, Contains}
use Rattle.std.specs.Option.{unwrap_or}
use Rattle.std.proofs.lemmas.Bool.{cases_Bool, cases_eq, eq-eqb, eqb-true, false≢true}
use Rattle.std.proofs.lemmas.List.Elements.{Contains-append_left, Contains-push}
use Rattle.std.proofs.lemmas.Option.{get_or_from_slice_get, slice_get-get_or, slice_get_read, slice_get_within, same_Some, none-some}
use Rattle.list_laws.proofs.Places.{contains_at, push_cases, set_at, set_cases, set_other}
use Rattle.op_model.specs.declared.lowered.LoweredMethod.{LoweredMethod}
use Rattle.op_model.specs.declared.node.Node.{Node}
use Rattle.op_model.specs.declared.op.Move.{Move}
use Rattle.slot_names.specs.declared.arrivals.Arrival.{Arrival}
use Rattle.slot_names.specs.declared.arrivals.Arrival.TheVariants.{Nothing, OneNode, Several}
use Rattle.slot_names.specs.declared.entry.Entry.{Entry}
use Rattle.slot_names.specs.declared.entry.Root.{Root}
use Rattle.slot_names.specs.declared.entry.Root.TheVariants.{Beginning, Meeting}
use Rattle.slot_names.specs.declared.naming.Naming.{Naming}
use Rattle.slot_names.specs.declared.rows.Rows.{Rows}
use Rattle.slot_names.specs.declared.variable.Variable.{Variable}
use Rattle.slot_names.specs.Arriving.{AreArrivals}
use Rattle.slot_names.specs.Branches.{Extends}
use Rattle.slot_names.specs.Entries.{root_variable, variable_at}
use Rattle.slot_names.specs.MovedRows.{IsMoved, effect_of_moves, variable_after}
use Rattle.slot_names.specs.NamedNodes.{Enters, GoesOn, Grows, IsEntered, IsFollowedAt, IsNaming, Tells, entered_count, is_from, root_of}
use Rattle.slot_names.specs.NodePlaces.{AreInOrder, StandsAt}
use Rattle.slot_names.specs.Rows.{KeepsRows}
use Rattle.slot_names.specs.Variables.{Effect, IsFirstNode, IsMerge, IsPredecessor, IsVariable, effect_on, keeps as kept_effect, moves as moved_effect, writes as written_effect, merged, first, moved, written, kept}
use Rattle.slot_names.proofs.FoundPlaces.{one_place}
use Rattle.slot_names.proofs.ListPlaces.{Extends-both, Extends-itself, Extends-push}
use Rattle.slot_names.proofs.MovedVariables.{effect_of_operation, same_variable}
use Rattle.slot_names.proofs.NotedArrivals.{no_merge}
use Rattle.slot_names.proofs.SetRows.{named_nowhere}

-- ---- how many nodes are entered

entered_set : (entries : List (Option Entry)) (place : ℕ) (entry : Entry) → slice_get entries place ≡ Some None
    → entered_count (set entries place (Some entry)) ≡ suc (entered_count entries)
entered_set [] place entry e = absurd (none-some None e)
entered_set (None ∷ entries) zero entry e = refl
entered_set (Some x ∷ entries) zero entry e = absurd (none-some x (sym (same_Some _ _ e)))
entered_set (None ∷ entries) (suc place) entry e = entered_set entries place entry e
entered_set (Some x ∷ entries) (suc place) entry e = ap suc (entered_set entries place entry e)

pub entered_bound : (entries : List (Option Entry)) → entered_count entries ≤ length entries
entered_bound [] = omega arith
entered_bound (None ∷ entries) = let rest = entered_bound entries in omega (arith, rest)
entered_bound (Some x ∷ entries) = let rest = entered_bound entries in omega (arith, rest)

-- ---- what entries tell

Tells-kept : (l : LoweredMethod) (old new : Rows) (n : Node) (entry : Entry) → KeepsRows old new → Tells l old n entry → Tells l new n entry
Tells-kept l old new n entry keeps told = record {
  made = keeps.row entry.row told.made;
  each = λ slot. subst (IsVariable l n slot) (sym (same_variable old new l.method entry slot keeps told.made)) (told.each slot);
}

-- at a node that no other tells
tells_at_root : (l : LoweredMethod) (rows : Rows) (n : Node) (root : Root) → ((slot : ℕ) → IsVariable l n slot (root_variable l.method root slot))
    → Tells l rows n (record { root = root; row = 0 })
tells_at_root l rows n root each = record {
  made = omega arith;
  each = λ slot. subst (IsVariable l n slot) (sym (ap (λ (o : Option Variable). unwrap_or o (root_variable l.method root slot)) (named_nowhere rows slot))) (each slot);
}

pub tells_root : (l : LoweredMethod) (arrivals : List Arrival) (rows : Rows) (place : ℕ) (n : Node) (a : Arrival) (root : Root) → AreInOrder l → AreArrivals l arrivals
    → slice_get l.nodes place ≡ Some n → slice_get arrivals place ≡ Some a → root_of a place n.offset ≡ Some root → Tells l rows n (record { root = root; row = 0 })
tells_root l arrivals rows place n Nothing root order are stands here is = by (cases_Bool (eqb place 0))
  where
    by : (eqb place 0 ≡ true) ⊎ (eqb place 0 ≡ false) → Tells l rows n (record { root = root; row = 0 })
    by (inl t) =
        let at_zero : place ≡ 0 = eqb-true place 0 t in
        let beginning : Beginning ≡ root = same_Some _ _ (sym (ap (λ (b : Bool). cond b (Some Beginning) None) t) ∙ is) in
        let zeroth : IsFirstNode l n = ap (slice_get l.nodes) (sym at_zero) ∙ stands in
        let no_meeting : IsMerge l n → ⊥ = no_merge l arrivals place n Nothing order are stands here (λ e. cc) in
        subst (λ (r : Root). Tells l rows n (record { root = r; row = 0 })) beginning
        (tells_at_root l rows n Beginning (λ slot. first n slot _ no_meeting zeroth refl))
    by (inr f) = absurd (none-some root (sym (ap (λ (b : Bool). cond b (Some Beginning) None) f) ∙ is))
tells_root l arrivals rows place n (OneNode from) root order are stands here is = absurd (none-some root is)
tells_root l arrivals rows place n Several root order are stands here is =
    subst (λ (r : Root). Tells l rows n (record { root = r; row = 0 })) (same_Some _ _ is)
    (tells_at_root l rows n (Meeting n.offset) (λ slot. merged n slot _ (are.sound.each place n Several stands here) refl))

-- at a node that one other alone leads to
variable_by : (l : LoweredMethod) (p n : Node) (slot : ℕ) (before : ℕ → Variable) (effect : Effect) → (IsMerge l n → ⊥) → IsPredecessor l p n
    → effect_on slot p.op ≡ effect → ((y : ℕ) → IsVariable l p y (before y)) → IsVariable l n slot (variable_after before l.method n.offset slot effect)
variable_by l p n slot before kept_effect apart leads is each = kept n p slot (before slot) apart leads is (each slot)
variable_by l p n slot before (moved_effect y) apart leads is each = moved n p slot y (before y) apart leads is (each y)
variable_by l p n slot before written_effect apart leads is each = written n p slot _ apart leads is refl

tells_after : (l : LoweredMethod) (arrivals : List Arrival) (old new : Rows) (from place offset row : ℕ) (n : Node) (entry : Entry) (given : List Move)
    → AreInOrder l → AreArrivals l arrivals → (goes : GoesOn l from offset given) → slice_get l.nodes place ≡ Some n → n.offset ≡ offset
    → slice_get arrivals place ≡ Some (OneNode from) → Tells l old goes.node entry → IsMoved old new l.method entry given offset row
    → Tells l new n (record { root = entry.root; row = row })
tells_after l arrivals old new from place offset row n entry given order are goes stands is here told after = record {
  made = after.made;
  each = λ slot.
      let apart : IsMerge l n → ⊥ = no_merge l arrivals place n (OneNode from) order are stands here (λ e. cc) in
      let leads : IsPredecessor l goes.node n =
      record { stands = contains_at l.nodes from goes.node goes.stands; goes = subst (Contains goes.node.successors) (sym is) goes.goes } in
      let effect : effect_of_moves given slot ≡ effect_on slot goes.node.op =
      ap (λ (ms : List Move). effect_of_moves ms slot) goes.does ∙ effect_of_operation goes.node.op slot in
      let e = after.each slot ∙ ap (λ (f : Effect). variable_after (variable_at old l.method entry) l.method offset slot f) effect
      ∙ ap (λ (o : ℕ). variable_after (variable_at old l.method entry) l.method o slot (effect_on slot goes.node.op)) (sym is) in
      subst (IsVariable l n slot) (sym e) (variable_by l goes.node n slot (variable_at old l.method entry) (effect_on slot goes.node.op) apart leads refl told.each);
}

-- ---- a node is entered

-- what the function says that enters one
pub record EntersOne (l : LoweredMethod) (old new : Naming) (place : ℕ) : Type 0 where
  pub naming : IsNaming l new
  pub grows : Grows old new
  pub entered : IsEntered new.entries.items place

pub Grows-itself : (naming : Naming) → Grows naming naming
Grows-itself naming = record { entered = λ place e. e; order = Extends-itself naming.order.items }

pub Grows-both : (old mid new : Naming) → Grows old mid → Grows mid new → Grows old new
Grows-both old mid new g h = record {
  entered = λ place e. h.entered place (g.entered place e);
  order = Extends-both old.order.items mid.order.items new.order.items g.order h.order;
}

entered_still : (old new : List (Option Entry)) (place k : ℕ) (entry : Entry) → slice_get old place ≡ Some None → new ≡ set old place (Some entry)
    → IsEntered old k → IsEntered new k
entered_still old new place k entry free is was = elim (cases_eq k place) [
  | inl same ↦ absurd (none-some was.entry (same_Some _ _ (sym free ∙ ap (slice_get old) (sym same) ∙ was.stands)))
  | inr apart ↦ record { entry = was.entry; stands = ap (λ (es : List (Option Entry)). slice_get es k) is ∙ set_other old place k (Some entry) apart ∙ was.stands }
]

entered_new : (l : LoweredMethod) (old new : Naming) (place : ℕ) (n : Node) (entry : Entry) → IsNaming l old → slice_get l.nodes place ≡ Some n
    → Tells l old.rows n entry → slice_get old.entries.items place ≡ Some None → new.entries.items ≡ set old.entries.items place (Some entry)
    → new.order.items ≡ old.order.items ++ place ∷ [] → new.rows ≡ old.rows → EntersOne l old new place
entered_new l old new place n entry naming stands told free entries order rows =
    let within = slice_get_within old.entries.items place None free in
    let here : IsEntered new.entries.items place =
    record { entry = entry; stands = ap (λ (es : List (Option Entry)). slice_get es place) entries ∙ set_at old.entries.items place (Some entry) within } in
    let still = λ (k : ℕ) (was : IsEntered old.entries.items k). entered_still old.entries.items new.entries.items place k entry free entries was in
    record {
      naming = record {
        count = ap (length {A = Option Entry}) entries ∙ length-set old.entries.items place (Some entry) ∙ naming.count;
        tells = λ k m e at is.
            elim (set_cases old.entries.items place k (Some entry) (Some e) (ap (λ (es : List (Option Entry)). slice_get es k) (sym entries) ∙ is)) [
              | inl last ↦ (
                  let node : n ≡ m = same_Some _ _ (sym stands ∙ ap (slice_get l.nodes) (sym last.0) ∙ at) in
                  subst (λ (r : Rows). Tells l r m e) (sym rows)
                  (subst (λ (x : Node). Tells l old.rows x e) node (subst (Tells l old.rows n) (sym (same_Some _ _ last.1)) told)))
              | inr was ↦ subst (λ (r : Rows). Tells l r m e) (sym rows) (naming.tells k m e at was)
            ];
        listed = λ k is.
            elim (set_cases old.entries.items place k (Some entry) (Some is.entry) (ap (λ (es : List (Option Entry)). slice_get es k) (sym entries) ∙ is.stands)) [
              | inl last ↦ subst (λ (ks : List ℕ). Contains ks k) (sym order)
                  (subst (Contains (old.order.items ++ place ∷ [])) (sym last.0) (Contains-push old.order.items place))
              | inr was ↦ subst (λ (ks : List ℕ). Contains ks k) (sym order)
                  (Contains-append_left old.order.items (place ∷ []) k (naming.listed k (record { entry = is.entry; stands = was })))
            ];
        entered = λ k x at. elim (push_cases old.order.items place k x (ap (λ (ks : List ℕ). slice_get ks k) (sym order) ∙ at)) [
          | inl was ↦ still x (naming.entered k x was)
          | inr last ↦ subst (IsEntered new.entries.items) (sym last.1) here
        ];
        number = ap (length {A = ℕ}) order ∙ length-pushed old.order.items place ∙ ap suc naming.number
            ∙ sym (ap entered_count entries ∙ entered_set old.entries.items place entry free);
      };
      grows = record { entered = still; order = subst (λ (ks : List ℕ). Extends old.order.items ks) (sym order) (Extends-push old.order.items place) };
      entered = here;
    }
  where
    length-set : (xs : List (Option Entry)) (i : ℕ) (y : Option Entry) → length (set xs i y) ≡ length xs
    length-set [] i y = refl
    length-set (x ∷ xs) zero y = refl
    length-set (x ∷ xs) (suc i) y = ap suc (length-set xs i y)

    length-pushed : (xs : List ℕ) (y : ℕ) → length (xs ++ y ∷ []) ≡ suc (length xs)
    length-pushed [] y = refl
    length-pushed (x ∷ xs) y = ap suc (length-pushed xs y)

pub entered_one : (l : LoweredMethod) (old new : Naming) (place : ℕ) (n : Node) (entry : Entry) → IsNaming l old → slice_get l.nodes place ≡ Some n
    → Tells l old.rows n entry → Enters old new place entry → EntersOne l old new place
entered_one l old new place n entry naming stands told (inl was) =
    subst (λ (x : Naming). EntersOne l old x place) (sym was.1) (record { naming = naming; grows = Grows-itself old; entered = was.0 })
entered_one l old new place n entry naming stands told (inr free) = entered_new l old new place n entry naming stands told free.0 free.1 free.2 free.3

-- rows that are kept
IsNaming-kept : (l : LoweredMethod) (naming : Naming) (rows : Rows) → IsNaming l naming → KeepsRows naming.rows rows → IsNaming l (record naming { rows = rows })
IsNaming-kept l naming rows is keeps = record {
  count = is.count;
  tells = λ place n entry stands here. Tells-kept l naming.rows rows n entry keeps (is.tells place n entry stands here);
  listed = is.listed;
  entered = is.entered;
  number = is.number;
}

-- ---- the start

none_entered : (n place : ℕ) (entry : Entry) → slice_get (replicate n None) place ≡ Some (Some entry) → ⊥
none_entered zero place entry e = none-some (Some entry) e
none_entered (suc n) zero entry e = none-some entry (same_Some _ _ e)
none_entered (suc n) (suc place) entry e = none_entered n place entry e

none_counted : (n : ℕ) → entered_count (replicate n None) ≡ 0
none_counted zero = refl
none_counted (suc n) = none_counted n

length-none : (n : ℕ) → length (replicate {A = Option Entry} n None) ≡ n
length-none zero = refl
length-none (suc n) = ap suc (length-none n)

pub IsNaming-start : (l : LoweredMethod) (naming : Naming) (n : ℕ) → naming.entries.items ≡ replicate n None → n ≡ length l.nodes → naming.order.items ≡ [] → IsNaming l naming
IsNaming-start l naming n entries count order = record {
  count = ap (length {A = Option Entry}) entries ∙ length-none n ∙ count;
  tells = λ place m entry at here. absurd (none_entered n place entry (ap (λ (es : List (Option Entry)). slice_get es place) (sym entries) ∙ here));
  listed = λ place is. absurd (none_entered n place is.entry (ap (λ (es : List (Option Entry)). slice_get es place) (sym entries) ∙ is.stands));
  entered = λ k place at. absurd (none-some place (ap (λ (ks : List ℕ). slice_get ks k) (sym order) ∙ at));
  number = ap (length {A = ℕ}) order ∙ sym (ap entered_count entries ∙ none_counted n);
}

-- ---- a node goes on

from_one : (a : Arrival) (from : ℕ) → is_from a from ≡ true → a ≡ OneNode from
from_one Nothing from e = absurd (false≢true e)
from_one (OneNode earlier) from e = ap OneNode (eqb-true earlier from e)
from_one Several from e = absurd (false≢true e)

-- at an offset that has no node
pub followed_nowhere : (l : LoweredMethod) (arrivals : List Arrival) (entries : List (Option Entry)) (from offset : ℕ) → ((place : ℕ) → StandsAt l offset place → ⊥)
    → IsFollowedAt l arrivals entries from offset
followed_nowhere l arrivals entries from offset none = record { each = λ place at here. absurd (none place at) }

-- at a node that others lead to
pub followed_elsewhere : (l : LoweredMethod) (arrivals : List Arrival) (entries : List (Option Entry)) (from offset place : ℕ) (answer : Bool) → AreInOrder l
    → StandsAt l offset place → answer ≡ is_from (get_or arrivals place Nothing) from → answer ≡ false → IsFollowedAt l arrivals entries from offset
followed_elsewhere l arrivals entries from offset place answer order at is none = record {
  each = λ k stands here.
      let same : k ≡ place = one_place l offset k place order stands at in
      let arrival : get_or arrivals place Nothing ≡ OneNode from =
      get_or_from_slice_get arrivals place (OneNode from) Nothing (ap (slice_get arrivals) (sym same) ∙ here) in
      absurd (false≢true (sym none ∙ is ∙ ap (λ (a : Arrival). is_from a from) arrival ∙ eq-eqb from from refl));
}

-- at the node that is entered now
followed_here : (l : LoweredMethod) (arrivals : List Arrival) (entries : List (Option Entry)) (from offset place : ℕ) → AreInOrder l → StandsAt l offset place
    → IsEntered entries place → IsFollowedAt l arrivals entries from offset
followed_here l arrivals entries from offset place order at entered = record {
  each = λ k stands here. subst (IsEntered entries) (one_place l offset place k order at stands) entered;
}

-- the entry that is read
pub entry_read : (entries : List (Option Entry)) (from : ℕ) (o : Option Entry) (entry : Entry) → IsEntered entries from → o ≡ get_or entries from o → o ≡ Some entry
    → slice_get entries from ≡ Some (Some entry)
entry_read entries from o entry was is e =
    slice_get_read entries (length entries) from o refl (slice_get_within entries from (Some was.entry) was.stands) is ∙ ap Some e

pub entry_there : (entries : List (Option Entry)) (from : ℕ) (o : Option Entry) → IsEntered entries from → o ≡ get_or entries from o → o ≡ None → ⊥
entry_there entries from o was is e =
    none-some was.entry (sym e ∙ is ∙ get_or_from_slice_get entries from (Some was.entry) o was.stands)

-- what the function says that goes on
pub record GoesOnOne (l : LoweredMethod) (arrivals : List Arrival) (old new : Naming) (from offset : ℕ) : Type 0 where
  pub naming : IsNaming l new
  pub grows : Grows old new
  pub followed : IsFollowedAt l arrivals new.entries.items from offset

pub goes_on : (l : LoweredMethod) (arrivals : List Arrival) (old new : Naming) (rows : Rows) (from offset place row : ℕ) (given : List Move) (entry : Entry)
    → AreInOrder l → AreArrivals l arrivals → GoesOn l from offset given → IsNaming l old → slice_get old.entries.items from ≡ Some (Some entry)
    → StandsAt l offset place → is_from (get_or arrivals place Nothing) from ≡ true → IsMoved old.rows rows l.method entry given offset row
    → Enters (record old { rows = rows }) new place (record { root = entry.root; row = row }) → GoesOnOne l arrivals old new from offset
goes_on l arrivals old new rows from offset place row given entry order are goes naming known at is after enters =
    let within = slice_get_within l.nodes place at.node at.stands in
    let here = slice_get-get_or arrivals place Nothing (omega (arith, are.sound.count, within)) ∙ ap Some (from_one (get_or arrivals place Nothing) from is) in
    let told = tells_after l arrivals old.rows rows from place offset row at.node entry given order are goes at.stands at.is here
    (naming.tells from goes.node entry goes.stands known) after in
    let one = entered_one l (record old { rows = rows }) new place at.node (record { root = entry.root; row = row }) (IsNaming-kept l old rows naming after.kept) at.stands told enters in
    record {
      naming = one.naming;
      grows = record { entered = one.grows.entered; order = one.grows.order };
      followed = followed_here l arrivals new.entries.items from offset place order at one.entered;
    }
