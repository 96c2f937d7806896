use Rattle.std.proofs.Common.{All, take, sym, ◌∙◌, subst}
use Rattle.std.proofs.lemmas.Bool.{eqb-true, false≢true}
use Rattle.std.proofs.lemmas.List.{take_all}
use Rattle.std.proofs.lemmas.List.Elements.{All-contains, All-more}
use Rattle.std.proofs.lemmas.Option.{slice_get-get_or}
use Rattle.list_laws.proofs.Places.{all_at, to_front}
use Rattle.op_model.specs.declared.node.NodeHandler.{NodeHandler}
use Rattle.machine_nodes.specs.NodeSteps.{Takes}
use Rattle.handler_search.proofs.FirstTaking.{first_taking, none_in_empty}
use Rattle.handler_search.proofs.taking.first_taking.Goals as goal

pub returns-then-is_empty-clause-none : goal.returns-then-is_empty-clause-none
returns-then-is_empty-clause-none c = λ h there takes. none_in_empty c.args.handlers.now (eqb-true _ _ (sym c.is_empty.ensures ∙ c.if-is_empty.true)) h there

pub returns-then-takes-clause-found : goal.returns-then-takes-clause-found
returns-then-takes-clause-found c =
    let p = c.args.program.now in let class = c.args.class.now in let hs = c.args.handlers.now in let i = c.loop-handler.handler-index in
    first_taking p class hs i _ (slice_get-get_or hs i _ c.loop-handler-test.true)
    (λ k below g there. all_at (λ (h : NodeHandler). Takes p h class → ⊥) (take i hs) k g c.loop-handler.invariant.none (to_front hs i k g below there))
    (c.takes.ensures.0 c.if-takes.true)

pub loop-handler-preserved : goal.loop-handler-preserved
loop-handler-preserved c =
    let p = c.args.program.now in let class = c.args.class.now in
    record {
      none = All-more (λ (h : NodeHandler). Takes p h class → ⊥) c.args.handlers.now c.loop-handler.handler-index _ c.loop-handler-test.true c.loop-handler.invariant.none
          (λ takes. false≢true (sym c.if-takes.false ∙ c.takes.ensures.1 takes));
    }

pub returns-clause-none : goal.returns-clause-none
returns-clause-none c = λ h there takes.
    let p = c.args.program.now in let class = c.args.class.now in let hs = c.args.handlers.now in
    let none = subst (All (λ (g : NodeHandler). Takes p g class → ⊥)) (take_all c.loop-handler.handler-index hs c.loop-handler-test.false) c.loop-handler.invariant.none in
    All-contains (λ (g : NodeHandler). Takes p g class → ⊥) hs h none there takes
