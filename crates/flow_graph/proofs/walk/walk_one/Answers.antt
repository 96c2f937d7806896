use Rattle.std.proofs.Common.{◌≡◌, ◌<◌, ℕ, ◌∙◌, ap, subst, sym, Bool, List, length, get_or, set, Some, slice_get, refl, arith}
use Rattle.std.proofs.lemmas.List.{length-set}
use Rattle.std.proofs.lemmas.Option.{slice_get-get_or, slice_get_read, slice_get_within}
use Rattle.jvm_model.specs.declared.code.PlacedInstruction.{PlacedInstruction}
use Rattle.flow_graph.specs.declared.effect.Effect.{Effect}
use Rattle.flow_graph.specs.declared.mark.Mark.{Mark}
use Rattle.flow_graph.specs.Flows.{successors, falls_off}
use Rattle.flow_graph.specs.Uncaught.{held}
use Rattle.flow_graph.specs.Walks.{unreached, walked}
use Rattle.flow_graph.specs.Walking.{onward_each, AwaitsBoth}
use Rattle.flow_graph.proofs.Awaiting.{awaited_after}
use Rattle.flow_graph.proofs.Catching.{caught_whole, uncaught_after}
use Rattle.flow_graph.proofs.Growth.{Grown, Grows, set_grows, grows_more, walked-grown, onward_each-grows}
use Rattle.flow_graph.proofs.Walked.{IsWaiting, first_waits, walked_one, walked-walked, onward_each-kept}
use Rattle.flow_graph.proofs.walk.walk_one.Goals as goal

pub unwrap-height-requires : goal.unwrap-height-requires
unwrap-height-requires c = (first_waits c.args.marks.now c.args.number unreached c.requires.first).reached_at

-- what the steps give, in the words of the definition
module _ (c : goal.After-drop-next-2) where
  abbrev marks : List Mark
  marks = c.args.marks.now

  abbrev number : ℕ
  number = c.args.number

  abbrev m : Mark
  m = get_or marks number unreached

  abbrev instructions : List PlacedInstruction
  instructions = c.args.code.now.instructions

  abbrev limit : ℕ
  limit = c.args.code.now.max_stack

  w : IsWaiting marks number m
  w = first_waits marks number unreached c.requires.first

  within : number < length marks
  within = slice_get_within marks number m w.known

  abbrev p : PlacedInstruction
  p = c.index-instructions-number.result

  same : c.as_slice-instructions.result.now ≡ instructions
  same = c.as_slice-instructions.ensures

  stands : slice_get instructions number ≡ Some p
  stands =
      let is = subst (λ (ps : List PlacedInstruction). p ≡ get_or ps number p) same c.index-instructions-number.is in
      slice_get_read instructions (length instructions) number p refl (omega (arith, within, c.requires.marks)) is

  next_is : c.deref.result.now ≡ successors instructions number p
  next_is = c.deref.ensures.value ∙ c.in_ok-next.ensures ∙ ap (λ (ps : List PlacedInstruction). successors ps number p) same

  mid_is : c.go_on.new.marks ≡ onward_each c.height_onward-onward.result instructions (set marks number c.walked.result) c.deref.result.now
  mid_is = c.go_on.ensures ∙ ap (λ (ps : List PlacedInstruction). onward_each c.height_onward-onward.result ps (set marks number c.walked.result) c.deref.result.now) same

  walked_is : c.walked.result ≡ walked limit (get_or c.args.effects.now number (record { pops = 0; pushes = 0 })) c.unwrap-height.result (falls_off instructions number p) m
  walked_is =
      c.walked.ensures
      ∙ ap (λ (f : Bool). walked limit (get_or c.args.effects.now number (record { pops = 0; pushes = 0 })) c.unwrap-height.result f m) (c.falls_off-falls.ensures ∙ ap (λ (ps : List PlacedInstruction). falls_off ps number p) same)

  taken_is : c.deref-2.result.now ≡ held c.args.uncaught.now.levels.items p.offset
  taken_is = c.deref-2.ensures.value ∙ c.in_ok-caught.ensures.taken

  grows : Grows marks c.go_on.new.marks
  grows =
      let here = set marks number c.walked.result in
      subst (Grows marks) (sym mid_is)
      (grows_more marks here _
      (set_grows marks number m c.walked.result w.known
      (subst (λ (x : Mark). Grown m x) (sym walked_is) (walked-grown limit _ c.unwrap-height.result (falls_off instructions number p) m)))
      (onward_each-grows c.height_onward-onward.result instructions here c.deref.result.now))

  count : length c.go_on.new.marks ≡ length marks
  count = ap (λ (ms : List Mark). length ms) mid_is ∙ (onward_each-kept c.height_onward-onward.result instructions _ c.deref.result.now).count ∙ length-set marks number c.walked.result

pub returns-clause-walked : goal.returns-clause-walked
returns-clause-walked c =
    let code = c.args.code.now in
    let effects = c.args.effects.now in
    let nothing : Effect = record { pops = 0; pushes = 0 } in
    let lt = within c in
    let has : slice_get effects c.args.number ≡ Some (get_or effects c.args.number nothing) = slice_get-get_or effects c.args.number nothing (omega (arith, lt, c.requires.marks, c.requires.effects)) in
    walked_one code effects c.args.marks.now c.go_on.new.marks c.catch_each.new.marks c.args.number (p c) (get_or effects c.args.number nothing) (m c) c.walked.result c.unwrap-height.result
    c.height_onward-onward.result c.deref.result.now c.requires.first (stands c) has (w c).known c.unwrap-height.ensures (walked_is c) c.height_onward-onward.ensures (next_is c) (mid_is c)
    (caught_whole code c.args.uncaught.now.levels.items c.take.new.self.levels.items c.args.marks.now c.go_on.new.marks c.catch_each.new.marks (p c).offset c.deref-2.result.now c.requires.uncaught (grows c) (count c)
    c.requires.marks (taken_is c) c.in_ok-caught.ensures.left c.catch_each.ensures)

pub returns-clause-awaited : goal.returns-clause-awaited
returns-clause-awaited c =
    let effects = c.args.effects.now in
    let done = ap (λ (x : Mark). x.walked) (walked_is c) ∙ walked-walked (limit c) (get_or effects c.args.number (record { pops = 0; pushes = 0 })) c.unwrap-height.result (falls_off (instructions c) c.args.number (p c)) (m c) in
    let old = c.args.awaited.now in
    let new = c.await_both.new.awaited in
    let next : c.deref-3.result.now ≡ c.deref.result.now = c.deref-3.ensures.value ∙ sym c.deref.ensures.value in
    let taken : c.deref-4.result.now ≡ c.deref-2.result.now = c.deref-4.ensures.value ∙ sym c.deref-2.ensures.value in
    let both : AwaitsBoth old new (instructions c) c.deref.result.now c.deref-2.result.now =
    subst (λ (ps : List PlacedInstruction). AwaitsBoth old new ps c.deref.result.now c.deref-2.result.now) (same c)
    (subst (λ (offsets : List ℕ). AwaitsBoth old new c.as_slice-instructions.result.now offsets c.deref-2.result.now) next
    (subst (AwaitsBoth old new c.as_slice-instructions.result.now c.deref-3.result.now) taken c.in_ok-await_both.ensures)) in
    awaited_after (limit c) (instructions c) c.args.marks.now c.go_on.new.marks c.catch_each.new.marks c.args.number c.walked.result c.height_onward-onward.result c.deref.result.now c.deref-2.result.now done (mid_is c)
    c.catch_each.ensures c.args.awaited.now c.await_both.new.awaited c.requires.awaited both

pub returns-clause-uncaught : goal.returns-clause-uncaught
returns-clause-uncaught c =
    uncaught_after c.args.code.now c.args.uncaught.now.levels.items c.take.new.self.levels.items c.args.marks.now c.go_on.new.marks c.catch_each.new.marks (p c).offset c.deref-2.result.now c.requires.uncaught (grows c)
    (count c) c.requires.marks (taken_is c) c.in_ok-caught.ensures.left c.catch_each.ensures
