use Rattle.std.proofs.Common.{◌↔◌, List, sym, subst}
use Rattle.std.specs.List.{Contains}
use Rattle.std.proofs.lemmas.Option.{slice_get_within}
use Rattle.std.proofs.lemmas.Result.{IfOk-weaker}
use Rattle.jvm_model.specs.declared.number.MethodNo.{MethodNo}
use Rattle.jvm_model.specs.Programs.{Program}
use Rattle.machine_nodes.specs.Nodes.{IsCodedInitialiser}
use Rattle.program_model.specs.Numbers.{name_at, IsClassNumber, IsMethodNumber}
use Rattle.node_ways.proofs.Entering.{started_are}
use Rattle.node_ways.proofs.entered.started_methods.Goals as goal

pub coded_initialisers-requires : goal.coded_initialisers-requires
coded_initialisers-requires c = subst (λ (p : Program). IsClassNumber p c.in-Some.class.0) (sym c.program.ensures) (c.requires c.in-Some.class c.in-Some.is)

pub entered_of-requires : goal.entered_of-requires
entered_of-requires c = λ m there.
    let p = c.program.result.now in
    let i = (c.in_ok-initialisers.ensures m).0 (subst (λ (ms : List MethodNo). Contains ms m) c.deref.ensures.value there) in
    subst (λ (q : Program). IsMethodNumber q m.0) c.program.ensures (slice_get_within p.methods m.0 i.method i.stands)

pub returns : goal.returns
returns c =
    let class = c.in-Some.class in
    let p = c.args.ground.now.program in
    let are = subst (λ (q : Program). (i : MethodNo) → Contains c.in_ok-initialisers.initialisers.items i ↔ IsCodedInitialiser q (name_at q class.0) i.0) c.program.ensures c.in_ok-initialisers.ensures in
    let passed = subst (λ (ms : List MethodNo). (i : MethodNo) → Contains ms i ↔ IsCodedInitialiser p (name_at p class.0) i.0) (sym c.deref.ensures.value) are in
    IfOk-weaker c.entered_of.result _ _
    (λ entered found x same. started_are x c.args.ground.now same c.args.node.now class (c.requires class c.in-Some.is) c.in-Some.is c.deref.result.now passed entered.items found)
    c.entered_of.ensures
