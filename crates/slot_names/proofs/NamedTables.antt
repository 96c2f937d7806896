-- The table of a method whose nodes are all entered.
use Rattle.std.proofs.Common.{◌≡◌, ◌↔◌, ℕ, ◌<◌, List, length, get_or, Option, Some, IsTrue, Vec, Global, slice_get, refl, sym, ◌∙◌, ap, subst, arith}
use Rattle.std.proofs.lemmas.Option.{slice_get_read, slice_get_within}
use Rattle.list_laws.proofs.Places.{stands_below}
use Rattle.op_model.specs.declared.lowered.LoweredMethod.{LoweredMethod}
use Rattle.op_model.specs.declared.node.Node.{Node}
use Rattle.slot_names.specs.declared.arrivals.Arrival.{Arrival}
use Rattle.slot_names.specs.declared.arrivals.Arrival.TheVariants.{Nothing, OneNode, Several}
use Rattle.slot_names.specs.declared.entry.Entry.{Entry}
use Rattle.slot_names.specs.declared.names.Names.{Names}
use Rattle.slot_names.specs.declared.naming.Naming.{Naming}
use Rattle.slot_names.specs.declared.variable.Variable.{Variable}
use Rattle.slot_names.specs.Arriving.{AreArrivals}
use Rattle.slot_names.specs.KeptNames.{is_noted_merge, kept_variable, name_table}
use Rattle.slot_names.specs.NamedNodes.{AreAllEntered, IsNaming}
use Rattle.slot_names.specs.NodePlaces.{AreInOrder}
use Rattle.slot_names.specs.Tables.{AreNames}
use Rattle.slot_names.specs.Variables.{IsMerge, IsVariable}
use Rattle.slot_names.proofs.NotedArrivals.{no_merge}

-- several arrivals are noted at merge points alone, and at each
merge_noted : (l : LoweredMethod) (arrivals : List Arrival) (place : ℕ) (n : Node) (a : Arrival) → AreInOrder l → AreArrivals l arrivals
    → slice_get l.nodes place ≡ Some n → slice_get arrivals place ≡ Some a → IsTrue (is_noted_merge (Some a)) ↔ IsMerge l n
merge_noted l arrivals place n Nothing order are at here = ((λ t. absurd (cc)), λ m. absurd (no_merge l arrivals place n Nothing order are at here (λ e. cc) m))
merge_noted l arrivals place n (OneNode from) order are at here = ((λ t. absurd (cc)), λ m. absurd (no_merge l arrivals place n (OneNode from) order are at here (λ e. cc) m))
merge_noted l arrivals place n Several order are at here = ((λ t. are.sound.each place n Several at here), λ m. refl)

merge_kept : (l : LoweredMethod) (arrivals : List Arrival) → AreInOrder l → AreArrivals l arrivals → (place : ℕ) (n : Node) → slice_get l.nodes place ≡ Some n
    → IsTrue (is_noted_merge (slice_get arrivals place)) ↔ IsMerge l n
merge_kept l arrivals order are place n at =
    let within = slice_get_within l.nodes place n at in
    let count = are.sound.count in
    let (a, here) = stands_below arrivals place (omega (arith, within, count)) in
    subst (λ (o : Option Arrival). IsTrue (is_noted_merge o) ↔ IsMerge l n) (sym here) (merge_noted l arrivals place n a order are at here)

pub are_names : (l : LoweredMethod) (arrivals : Vec Arrival Global) (naming : Naming) → AreInOrder l → AreArrivals l arrivals.items → IsNaming l naming → AreAllEntered l naming.entries.items
    → AreNames l (name_table (record { method = l.method; arrivals = arrivals; entries = naming.entries; rows = naming.rows }))
unfolding name_table
are_names l arrivals naming order are is all = record {
  count = is.count;
  each = λ place z n at.
      let entered = all.each place (slice_get_within l.nodes place n at) in
      subst (IsVariable l n z) (sym (ap (λ (o : Option (Option Entry)). kept_variable naming.rows l.method o z) entered.stands))
      ((is.tells place n entered.entry at entered.stands).each z);
  merges = merge_kept l arrivals.items order are;
}

-- what is kept of a node that is read
pub kept_read : (names : Names) (place slot : ℕ) (read : Option Entry) (v : Variable) → place < (name_table names).count → read ≡ get_or names.entries.items place read
    → v ≡ kept_variable names.rows names.method (Some read) slot → v ≡ (name_table names).variable place slot
unfolding name_table
kept_read names place slot read v within is e =
    e ∙ sym (ap (λ (o : Option (Option Entry)). kept_variable names.rows names.method o slot)
    (slice_get_read names.entries.items (length names.entries.items) place read refl within is))
