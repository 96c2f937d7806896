use Rattle.std.proofs.Common.{◌≡◌, length, List, Some, None, sym, subst, ◌∙◌, arith}
use Rattle.std.specs.Vec.{vec_len}
use Rattle.std.proofs.lemmas.Bool.{eqb-true}
use Rattle.jvm_model.specs.declared.number.MethodNo.{MethodNo}
use Rattle.points_to_constraints.specs.NodeItems.{TriggerItem}
use Rattle.points_to_methods.specs.Known.{names_at}
use Rattle.slot_names.proofs.ListPlaces.{stands_below}
use Rattle.points_to_numbers.proofs.Adding.{OfOne}
use Rattle.points_to_numbers.proofs.Making.{makes_all, makes_grown, makes_next_read, makes_none, makes_same, makes_start}
use Rattle.points_to_numbers.specs.Steps.{Makes}
use Rattle.points_to_methods.specs.Started.{IsStarted}
use Rattle.points_to_methods.proofs.StartedInitialisers.{all_started, none_found, none_started, trigger_numbered, trigger_read, untriggered}
use Rattle.points_to_methods.proofs.triggers.trigger_items.Goals as goal

pub returns-in_default : goal.returns-in_default
returns-in_default c = λ n at.
    let p = c.args.at.now.program.now in
    let l = c.args.at.now.method.now in
    let is_trigger : n.trigger ≡ None = trigger_read l.nodes c.as_slice.result.now c.args.node n _ None c.as_slice.ensures at c.in_default.is in
    makes_none c.args.work.now.tables (TriggerItem p l.method l n) c.args.work.now.steps.items (none_started p l n (untriggered p n is_trigger))

pub coded_initialisers-requires : goal.coded_initialisers-requires
coded_initialisers-requires c =
    let p = c.args.at.now.program.now in
    let l = c.args.at.now.method.now in
    let class = c.in-Some.class in
    let (n, at) = stands_below l.nodes c.args.node c.requires.there in
    trigger_numbered p l c.requires.known.in_program c.args.node n at class (trigger_read l.nodes c.as_slice.result.now c.args.node n _ (Some class) c.as_slice.ensures at c.in-Some.is)

pub returns-then-is_empty : goal.returns-then-is_empty
returns-then-is_empty c = λ n at.
    let p = c.args.at.now.program.now in
    let l = c.args.at.now.method.now in
    let class = c.in-Some.class in
    let found = c.in_ok-initialisers.initialisers in
    let is_trigger : n.trigger ≡ Some class = trigger_read l.nodes c.as_slice.result.now c.args.node n _ (Some class) c.as_slice.ensures at c.in-Some.is in
    let within = trigger_numbered p l c.requires.known.in_program c.args.node n at class is_trigger in
    let no_more : vec_len found ≡ 0 = eqb-true (vec_len found) 0 (sym c.is_empty.ensures ∙ c.if-is_empty.true) in
    let empty : length found.items ≡ 0 = omega (arith, found.ok, no_more) in
    makes_none c.args.work.now.tables (TriggerItem p l.method l n) c.args.work.now.steps.items (none_started p l n (none_found p n class is_trigger within found.items c.in_ok-initialisers.ensures empty))

pub loop-initialiser-init : goal.loop-initialiser-init
loop-initialiser-init c = λ catch_chain stands.
    makes_start (λ (i : MethodNo). IsStarted i catch_chain) c.catch_chain_of.new.tables c.deref-initialiser-items.result.now c.args.work.now.steps.items

pub started_items-requires : goal.started_items-requires
started_items-requires c =
    let (n, at) = stands_below c.args.at.now.method.now.nodes c.args.node c.requires.there in
    let (catch_chain, is_catch_chain, stands) = c.in_ok-catch_chain.ensures.stands n at in
    (catch_chain, (c.loop-initialiser.invariant catch_chain stands).grows.catch_chains c.in_ok-catch_chain.catch_chain.0 catch_chain stands)

pub loop-initialiser-preserved : goal.loop-initialiser-preserved
loop-initialiser-preserved c = λ catch_chain stands.
    let made = c.loop-initialiser.invariant catch_chain stands in
    makes_next_read (λ (i : MethodNo). IsStarted i catch_chain) c.catch_chain_of.new.tables c.loop-initialiser.work.tables c.started_items.new.work.tables c.deref-initialiser-items.result.now c.loop-initialiser.initialiser-index _
    c.args.work.now.steps.items c.loop-initialiser.work.steps.items c.started_items.new.work.steps.items c.loop-initialiser-test.true made
    (c.in_ok-started_items.ensures catch_chain (made.grows.catch_chains c.in_ok-catch_chain.catch_chain.0 catch_chain stands))

pub returns : goal.returns
returns c = λ n at.
    let p = c.args.at.now.program.now in
    let l = c.args.at.now.method.now in
    let one = c.args.work.now.tables in
    let two = c.catch_chain_of.new.tables in
    let three = c.loop-initialiser.work.tables in
    let before = c.args.work.now.steps.items in
    let after = c.loop-initialiser.work.steps.items in
    let class = c.in-Some.class in
    let found = c.in_ok-initialisers.initialisers.items in
    let items = c.deref-initialiser-items.result.now in
    let is_trigger : n.trigger ≡ Some class = trigger_read l.nodes c.as_slice.result.now c.args.node n _ (Some class) c.as_slice.ensures at c.in-Some.is in
    let within = trigger_numbered p l c.requires.known.in_program c.args.node n at class is_trigger in
    let (catch_chain, is_catch_chain, stands) = c.in_ok-catch_chain.ensures.stands n at in
    let all = makes_all (λ (i : MethodNo). IsStarted i catch_chain) two three items c.loop-initialiser.initialiser-index before after (omega arith) (c.loop-initialiser.invariant catch_chain stands) in
    let of_found = subst (λ (is : List MethodNo). Makes two three (OfOne (λ (i : MethodNo). IsStarted i catch_chain) is) before after) c.deref-initialiser-items.ensures.value all in
    makes_same one three _ (TriggerItem p l.method l n) before after
    (all_started p n class is_trigger within found c.in_ok-initialisers.ensures l (names_at c.args.at.now) c.requires.known catch_chain is_catch_chain)
    (makes_grown one two three _ before after c.in_ok-catch_chain.ensures.grows c.in_ok-catch_chain.ensures.calls of_found)
