-- The path edges by a list of the methods that may run are those by the folder's supplier.
use Rattle.std.proofs.Common.{◌≡◌, ◌↔◌, ℕ, List, Contains, Ok, refl, sym, ap, ◌∙◌, subst}
use Rattle.jvm_model.specs.declared.number.MethodNo.{MethodNo}
use Rattle.least_sets.specs.Rules.{IsClosedSet, IsDerivable}
use Rattle.op_model.specs.declared.lowered.LoweredMethod.{LoweredMethod}
use Rattle.op_model.specs.declared.node.Node.{Node}
use Rattle.op_model.specs.Supplies.{GivenAs}
use Rattle.machine_bytecode.specs.Objects.{Subject}
use Rattle.lowering_supply.specs.Supplied.{IsSupplied}
use Rattle.points_to_rules.specs.Facts.{Fact, may_run}
use Rattle.points_to_rules.specs.Writes.{AnyInstance}
use Rattle.ground.specs.Findings.{gives_listed}
use Rattle.simulation.proofs.Whole.{supplied_whole}
use Rattle.stage_transfer.specs.Settings.{Setting}
use Rattle.stage_edges.specs.Edges.{IsAtLimit, IsSafeBelow, StageInstance}
use Rattle.stage_edges.specs.Rules.{Edge}
use Rattle.report_spec.specs.Traces.{IsErrorDerivation}
use Rattle.stage_answers.proofs.Running.{GivesNodes, edge_in_base, edge_in_listed, error_in_base, limit_in_base, limit_in_listed, safe_in_base, safe_in_listed}

module _ (gives : GivenAs) (S : Fact → Type 0) (methods : List LoweredMethod) where
  -- a listed method is given
  to_given : ((l : LoweredMethod) → Contains methods l → gives l.method.0 (Ok l)) → GivesNodes S (gives_listed methods) gives
  to_given only m l n runs node =
      let (k, among, number, answer) = node.given in
      let same : l ≡ k = cc in
      let as_listed = subst (λ (y : LoweredMethod). gives y.method.0 (Ok y)) (sym same) (only k among) in
      let own : l.method.0 ≡ m.0 = ap (λ (y : LoweredMethod). y.method.0) same ∙ number in
      record { given = subst (λ (i : ℕ). gives i (Ok l)) own as_listed; stands = node.stands }

  -- and what is given of a method that may run is listed
  to_listed : ((m : MethodNo) (l : LoweredMethod) → S (may_run m) → gives m.0 (Ok l) → Contains methods l)
      → ((number : ℕ) (l : LoweredMethod) → gives number (Ok l) → l.method ≡ record { 0 = number }) → GivesNodes S gives (gives_listed methods)
  to_listed all whole m l n runs node =
      let own = ap (λ (number : MethodNo). number.0) (whole m.0 l node.given) in
      record { given = (l, all m l runs node.given, own, refl); stands = node.stands }

module _ (x : Subject) (facts : List Fact) (methods : List LoweredMethod) (w : Setting) (limit : ℕ)
    (closed : IsClosedSet (AnyInstance x.program (IsSupplied x.program) (record { 0 = x.entry })) (Contains facts))
    (only : (l : LoweredMethod) → Contains methods l → IsSupplied x.program l.method.0 (Ok l))
    (all : (m : MethodNo) (l : LoweredMethod) → Contains facts (may_run m) → IsSupplied x.program m.0 (Ok l) → Contains methods l) where
  forth : GivesNodes (Contains facts) (gives_listed methods) (IsSupplied x.program)
  forth = to_given (IsSupplied x.program) (Contains facts) methods only

  back : GivesNodes (Contains facts) (IsSupplied x.program) (gives_listed methods)
  back = to_listed (IsSupplied x.program) (Contains facts) methods all (λ number l given. (supplied_whole x.program number l given).number_is)

  pub listed_safe : IsSafeBelow x (gives_listed methods) (Contains facts) w limit ↔ IsSafeBelow x (IsSupplied x.program) (Contains facts) w limit
  listed_safe = (
    (λ is. safe_in_base x (Contains facts) (IsSupplied x.program) (gives_listed methods) closed forth back w limit is),
    (λ is. safe_in_listed x (Contains facts) (IsSupplied x.program) (gives_listed methods) closed forth back w limit is),
  )

  pub listed_limit : IsAtLimit x (gives_listed methods) (Contains facts) w limit ↔ IsAtLimit x (IsSupplied x.program) (Contains facts) w limit
  listed_limit = (
    (λ is. limit_in_base x (Contains facts) (IsSupplied x.program) (gives_listed methods) closed forth back w limit is),
    (λ is. limit_in_listed x (Contains facts) (IsSupplied x.program) (gives_listed methods) closed forth back w limit is),
  )

  -- an edge is derivable by the list just where it is by the folder's supplier
  pub listed_edge : (e : Edge) → IsDerivable (StageInstance x (gives_listed methods) (Contains facts) w) e ↔ IsDerivable (StageInstance x (IsSupplied x.program) (Contains facts) w) e
  listed_edge e = (
    (λ d. edge_in_base x (Contains facts) (IsSupplied x.program) (gives_listed methods) closed forth back w e d),
    (λ d. edge_in_listed x (Contains facts) (IsSupplied x.program) (gives_listed methods) closed forth back w e d),
  )

  -- a derivation by the list is one by the folder's supplier
  pub listed_error : (edges : List Edge) → IsErrorDerivation x (gives_listed methods) (Contains facts) w edges → IsErrorDerivation x (IsSupplied x.program) (Contains facts) w edges
  listed_error edges is = error_in_base x (Contains facts) (IsSupplied x.program) (gives_listed methods) closed forth back w edges is
