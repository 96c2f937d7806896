use Rattle.std.proofs.Common.{◌≡◌, ℕ, ◌+◌, ◌<◌, length, Some, refl, ap, sym, ◌∙◌, arith, List}
use Rattle.jvm_model.specs.declared.code.PlacedInstruction.{PlacedInstruction}
use Rattle.jvm_model.specs.Spelling.{spell}
use Rattle.flow_graph.specs.declared.mark.Mark.{Mark}
use Rattle.flow_graph.specs.Graphs.{first_fault, steps_of}
use Rattle.flow_graph.proofs.Numbers.{in_order_of}
use Rattle.flow_graph.proofs.ReadParts.{in_file}
use Rattle.flow_graph.proofs.ReadPlaces.{in_place}
use Rattle.flow_graph.proofs.Told.{at_fault, walked_of}
use Rattle.flow_graph.proofs.build.graph_or_fault.Goals as goal

pub marks_of-requires : goal.marks_of-requires
marks_of-requires c = in_order_of c.args.code.now.instructions (in_place c.args.class.now c.args.code.now c.requires.code).ascends

pub overflow_add-result : goal.overflow_add-result
overflow_add-result c =
    let code = c.args.code.now in
    let limit : ℕ = length (spell c.args.class.now) in
    let told : first_fault code.instructions c.in_ok-marks.marks.items ≡ Some (c.in-Some.offset, c.in-Some.reason) =
    sym (c.first_fault.ensures ∙ ap (λ (ps : List PlacedInstruction). first_fault ps c.deref.result.now) c.as_slice.ensures ∙ ap (λ (ms : List Mark). first_fault code.instructions ms) c.deref.ensures.value) ∙ c.in-Some.is in
    let inside = at_fault (λ (offset : ℕ). code.at + offset < limit) code.instructions c.in_ok-marks.marks.items c.in-Some.offset c.in-Some.reason (in_file c.args.class.now code c.requires.code) told in
    omega (arith, inside, c.requires.size)

pub returns-in-Some : goal.returns-in-Some
returns-in-Some c =
    let code = c.args.code.now in
    record {
      marks = c.in_ok-marks.marks.items;
      is_walked = walked_of c.args.class.now code c.in_ok-marks.marks.items c.requires.sound c.requires.code c.in_ok-marks.ensures.walked;
      within = c.in-Some.offset;
      first = sym (c.first_fault.ensures ∙ ap (λ (ps : List PlacedInstruction). first_fault ps c.deref.result.now) c.as_slice.ensures ∙ ap (λ (ms : List Mark). first_fault code.instructions ms) c.deref.ensures.value)
          ∙ c.in-Some.is;
      offset_is = refl;
    }

pub returns : goal.returns
returns c =
    let code = c.args.code.now in
    record {
      marks = c.in_ok-marks.marks.items;
      is_walked = walked_of c.args.class.now code c.in_ok-marks.marks.items c.requires.sound c.requires.code c.in_ok-marks.ensures.walked;
      faultless = sym (c.first_fault.ensures ∙ ap (λ (ps : List PlacedInstruction). first_fault ps c.deref.result.now) c.as_slice.ensures
          ∙ ap (λ (ms : List Mark). first_fault code.instructions ms) c.deref.ensures.value) ∙ c.in_default.is;
      steps_are = c.from_vec.ensures ∙ c.in_ok-steps_of.ensures ∙ ap (λ (ms : List Mark). steps_of code ms) c.deref-2.ensures.value;
    }
