use Rattle.std.proofs.Common.{List, subst}
use Rattle.std.proofs.lemmas.Result.{err_from_is_err_and}
use Rattle.failure.proofs.HandedOn.{handed_ok}
use Rattle.jvm_model.specs.declared.program.NamedClass.{NamedClass}
use Rattle.jvm_model.specs.declared.program.Origin.{Origin}
use Rattle.jvm_model.specs.declared.stub.StubClass.{StubClass}
use Rattle.jvm_model.specs.Linking.{AreMet, IsOrder}
use Rattle.program_linking.specs.Claims.{TellsEndOrLarge, unsorted}
use Rattle.program_linking.specs.TooLarge.{IsTooLargeInput}
use Rattle.program_linking.specs.LinkAnswers.{flat_claims}
use Rattle.program_linking.proofs.LinkSteps.{handed_barred, is_linkable, link_barred, link_told, stubs_told}
use Rattle.program_linking.proofs.SoundOrigins.{sound_order}
use Rattle.program_linking.proofs.link.link_in_order.Goals as goal

pub returns-in_err-check-clause-tells : goal.returns-in_err-check-clause-tells
returns-in_err-check-clause-tells c =
    let q = err_from_is_err_and c.from_residual.result c.from_residual.ensures.1 in
    let end = c.in_err-check.field-0.0 in
    let files = c.args.files.items in
    let told = subst (λ (fs : List NamedClass). TellsEndOrLarge (IsTooLargeInput fs c.args.stubs.items) (unsorted fs c.args.stubs.items) (flat_claims fs c.args.stubs.items) end) c.deref.ensures.value
    (subst (λ (ss : List StubClass). TellsEndOrLarge (IsTooLargeInput c.deref.result.now ss) (unsorted c.deref.result.now ss) (flat_claims c.deref.result.now ss) end) c.deref-2.ensures.value c.in_err-check.ensures) in
    rw (q.1, q.2) (link_barred files c.args.stubs.items end told)

pub returns-in_err-order-clause-tells : goal.returns-in_err-order-clause-tells
returns-in_err-order-clause-tells c =
    let q = err_from_is_err_and c.from_residual-in_err-order.result c.from_residual-in_err-order.ensures.1 in
    rw (q.1, q.2) (handed_barred c.args.files.items c.args.stubs.items c.origins.result c.in_err-order.field-0.0 c.in_err-order.ensures.cases c.origins.ensures.too_many)

pub assemble-requires-clause-sound : goal.assemble-requires-clause-sound
assemble-requires-clause-sound c =
    let files = c.args.files.items in
    let stubs = c.args.stubs.items in
    let order = c.put_in_order.new.order.items in
    let is = subst (λ (all : List Origin). IsOrder all order) (handed_ok _ c.origins.result c.in_ok-order.order _ c.in_ok-order.ensures.cases c.origins.ensures.all) c.put_in_order.ensures in
    sound_order files stubs c.requires.files c.requires.stubs order is

pub assemble-requires-clause-linkable : goal.assemble-requires-clause-linkable
assemble-requires-clause-linkable c =
    let files = c.args.files.items in
    let stubs = c.args.stubs.items in
    let order = c.put_in_order.new.order.items in
    let is = subst (λ (all : List Origin). IsOrder all order) (handed_ok _ c.origins.result c.in_ok-order.order _ c.in_ok-order.ensures.cases c.origins.ensures.all) c.put_in_order.ensures in
    let met = subst (λ (fs : List NamedClass). AreMet (unsorted fs stubs) (flat_claims fs stubs)) c.deref.ensures.value
    (subst (λ (ss : List StubClass). AreMet (unsorted c.deref.result.now ss) (flat_claims c.deref.result.now ss)) c.deref-2.ensures.value c.in_ok-check.ensures) in
    is_linkable files stubs order is met

pub returns-clause-tells : goal.returns-clause-tells
returns-clause-tells c =
    let files = c.args.files.items in
    let stubs = c.args.stubs.items in
    let order = c.put_in_order.new.order.items in
    let is = subst (λ (all : List Origin). IsOrder all order) (handed_ok _ c.origins.result c.in_ok-order.order _ c.in_ok-order.ensures.cases c.origins.ensures.all) c.put_in_order.ensures in
    let met = subst (λ (fs : List NamedClass). AreMet (unsorted fs stubs) (flat_claims fs stubs)) c.deref.ensures.value
    (subst (λ (ss : List StubClass). AreMet (unsorted c.deref.result.now ss) (flat_claims c.deref.result.now ss)) c.deref-2.ensures.value c.in_ok-check.ensures) in
    link_told files stubs order is met c.assemble.result c.assemble.ensures

pub returns-clause-base : goal.returns-clause-base
returns-clause-base c =
    let files = c.args.files.items in
    let stubs = c.args.stubs.items in
    let order = c.put_in_order.new.order.items in
    let is = subst (λ (all : List Origin). IsOrder all order) (handed_ok _ c.origins.result c.in_ok-order.order _ c.in_ok-order.ensures.cases c.origins.ensures.all) c.put_in_order.ensures in
    let met = subst (λ (fs : List NamedClass). AreMet (unsorted fs stubs) (flat_claims fs stubs)) c.deref.ensures.value
    (subst (λ (ss : List StubClass). AreMet (unsorted c.deref.result.now ss) (flat_claims c.deref.result.now ss)) c.deref-2.ensures.value c.in_ok-check.ensures) in
    stubs_told files stubs order is met c.assemble.result c.assemble.ensures
