use Rattle.std.proofs.Common.{refl, sym, ◌∙◌}
use Rattle.hierarchy.proofs.ClassPlaces.{method_there}
use Rattle.lowering_reasons.proofs.Bodies.{undescribed, in_file_of}
use Rattle.lowering_reasons.proofs.methods.is_undescribed.Goals as goal

pub returns-then-is_native : goal.returns-then-is_native
returns-then-is_native c = (
  λ passed.
      let p = c.args.program.now in
      let there = method_there p c.args.method.0 c.requires in
      undescribed p c.args.method.0 there.0 there.0.body there.1 (sym (c.is_native.ensures there.0 there.1) ∙ c.if-is_native.true) refl
      (sym (c.is_in_file.ensures there.0 there.1) ∙ passed),
  λ h. c.is_in_file.ensures h.method h.stands ∙ in_file_of c.args.program.now c.args.method.0 h,
)
