use Rattle.std.proofs.Common.{◌+◌, ◌<◌, List, length, take, get_or, ap, sym, subst}
use Rattle.std.specs.List.{AllZip}
use Rattle.std.proofs.lemmas.List.{get_or_default}
use Rattle.std.proofs.lemmas.List.Elements.{All-contains, All-from_recursion, Contains-get_or}
use Rattle.jvm_model.specs.declared.code.Handler.{Handler}
use Rattle.program_model.proofs.Bridges.{zip_more}
use Rattle.lowering_handlers.specs.Catches.{IsCatchOf}
use Rattle.lowering_handlers.specs.declared.catches.Catch.{Catch}
use Rattle.lowering_handlers.proofs.CatchTypes.{IsTyped, all_typed, names_class}
use Rattle.lowering_handlers.proofs.catches.catches_of.Goals as goal

pub loop-handler-preserved : goal.loop-handler-preserved
loop-handler-preserved c =
    let p = c.args.program.now in
    let class = c.args.class.now in
    let handlers = c.args.code.now.handlers in
    let i = c.loop-handler.handler-index in
    let none : Handler = record { start = 0; finish = 0; target = 0; catch_type = 0 } in
    let h = get_or handlers i none in
    let lt : i < length handlers = subst (λ (hs : List Handler). i < length hs) c.as_slice-handler-items.ensures c.loop-handler-test.true in
    let typed = All-contains (IsTyped class.pool) handlers h (All-from_recursion (IsTyped class.pool) handlers (all_typed class c.args.code.now c.requires.code)) (Contains-get_or handlers i none lt) in
    let takes = c.catch_of.ensures h (ap (λ (hs : List Handler). (get_or hs i none).catch_type) (sym c.as_slice-handler-items.ensures)) (names_class class c.requires.sound h typed) in
    record {
      so_far = subst (λ (cs : List Catch). AllZip (IsCatchOf p class.pool) (take (i + 1) handlers) cs) (sym {A = List Catch} c.in_ok-push.ensures.items)
          (zip_more (IsCatchOf p class.pool) handlers c.loop-handler.catches.items i h _ lt (get_or_default handlers i none h lt) c.loop-handler.invariant.so_far takes);
    }
