use Rattle.std.proofs.Common.{◌≡◌, ◌≢◌, ℕ, List, Some, sym, subst}
use Rattle.jvm_model.specs.declared.pool.PoolEntry.{PoolEntry}
use Rattle.jvm_model.specs.Lookups.{class_name_at}
use Rattle.lowering_spec.specs.LoweredMethods.{IsCatch}
use Rattle.lowering_handlers.proofs.CatchTypes.{takes_class, takes_unknown}
use Rattle.lowering_handlers.proofs.catches.catch_of.Goals as goal

pub returns-in-Some-find : goal.returns-in-Some-find
returns-in-Some-find c = λ h same names.
    let p = c.args.program.now in
    let pool = c.args.class.now.pool in
    let found = c.in-Some-find.ensures.found in
    let typed = c.if-catch_type-eq0.false in
    let named = subst (λ (entries : List PoolEntry). class_name_at entries c.args.catch_type ≡ Some c.in-Some.name.now) c.as_slice.ensures (sym c.in-Some.ensures) in
    subst (λ (n : ℕ). IsCatch p pool n (Some c.in-Some-find.number)) (sym same)
    (takes_class p c.well_formed-2.ensures.program pool c.args.catch_type c.in-Some.name.now c.in-Some-find.number typed named found.0 found.1)

pub returns-in-None : goal.returns-in-None
returns-in-None c = λ h same names.
    let p = c.args.program.now in
    let pool = c.args.class.now.pool in
    let typed = subst (λ (n : ℕ). n ≢ 0) (sym same) c.if-catch_type-eq0.false in
    let given = subst (λ (entries : List PoolEntry). class_name_at entries c.args.catch_type ≡ Some c.in-Some.name.now) c.as_slice.ensures (sym c.in-Some.ensures) in
    let named = subst (λ (n : ℕ). class_name_at pool n ≡ Some c.in-Some.name.now) (sym same) given in
    takes_unknown p pool h c.in-Some.name.now typed named c.in-None.ensures.none
