use Rattle.std.proofs.Common.{◌∙◌, ℕ, List, Result, Err, refl, sym, ap, subst}
use Rattle.jvm_model.specs.declared.reason.Reason.{Reason}
use Rattle.jvm_model.specs.Lookups.{lent_signature}
use Rattle.jvm_model.specs.Resolution.{Resolves, found, other_kind, not_found}
use Rattle.program_model.specs.Numbers.{name_at}
use Rattle.hierarchy.proofs.ClassPlaces.{name_at-at}
use Rattle.hierarchy.proofs.Resolving.{same_kind, other_kind_of, resolves_within}
use Rattle.hierarchy.proofs.resolve.resolve_method.Goals as goal

pub returns-in_default-clause-resolution : goal.returns-in_default-clause-resolution
returns-in_default-clause-resolution c = λ class stands.
    let p = c.args.program.now in
    let s = lent_signature c.args.signature in
    let name = name_at-at p c.args.class.0 class stands in
    let err : Reason → Result ℕ Reason = λ r. Err r in
    not_found (λ n resolves. c.in_default.ensures n (subst (λ (x : List ℕ). Resolves p (record { class = x; signature = s }) n) (sym name) resolves))
    (ap err (c.missing_member.ensures class stands))

pub returns-then-is_interface-interface-clause-resolution : goal.returns-then-is_interface-interface-clause-resolution
returns-then-is_interface-interface-clause-resolution c = λ class stands.
    let p = c.args.program.now in
    let s = lent_signature c.args.signature in
    let name = name_at-at p c.args.class.0 class stands in
    found c.in-Some.method.0 (subst (λ (x : List ℕ). Resolves p (record { class = x; signature = s }) c.in-Some.method.0) name c.in-Some.ensures)
    (sym (c.is_interface.ensures class stands) ∙ same_kind c.is_interface.result c.args.interface c.if-is_interface-interface.true) refl

pub returns-else-is_interface-interface-clause-resolution : goal.returns-else-is_interface-interface-clause-resolution
returns-else-is_interface-interface-clause-resolution c = λ class stands.
    let p = c.args.program.now in
    let s = lent_signature c.args.signature in
    let name = name_at-at p c.args.class.0 class stands in
    other_kind c.in-Some.method.0 (subst (λ (x : List ℕ). Resolves p (record { class = x; signature = s }) c.in-Some.method.0) name c.in-Some.ensures)
    (λ e. other_kind_of c.is_interface.result c.args.interface c.if-is_interface-interface.false (c.is_interface.ensures class stands ∙ e)) refl

pub returns-then-is_interface-interface-clause-below : goal.returns-then-is_interface-interface-clause-below
returns-then-is_interface-interface-clause-below c =
    let p = c.args.program.now in
    resolves_within p (name_at p c.args.class.0) (lent_signature c.args.signature) c.in-Some.method.0 c.in-Some.ensures
