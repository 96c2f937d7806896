use Rattle.std.proofs.Common.{◌≡◌, ◌<◌, ℕ, ◌∙◌, ap, arith, length, refl, sym, subst, vec_len}
use Rattle.std.proofs.lemmas.Option.{slice_get_read, slice_get_within}
use Rattle.slot_names.specs.declared.variable.Variable.{Variable}
use Rattle.slot_names.specs.KeptNames.{name_table}
use Rattle.slot_names.specs.Variables.{IsVariable}
use Rattle.ground.proofs.SlotPlaces.{in_order, is_variable, named_within, node_within}
use Rattle.ground.proofs.Views.{method_within}
use Rattle.ground.proofs.ground.Ground.variable.Goals as goal

pub index-named-requires : goal.index-named-requires
index-named-requires c =
    let within = method_within c.self.inside.program.now c.self.inside.lists c.args.self.now c.self.view_is c.args.at.method (slice_get_within c.args.self.now.methods c.args.at.method c.requires.lowered c.requires.stands) in
    let long : vec_len c.self.inside.lists.methods ≡ length c.self.inside.lists.methods.items = omega arith in
    omega (arith, within, long)

pub place_number-node-requires-clause-order : goal.place_number-node-requires-clause-order
place_number-node-requires-clause-order c =
    let within = method_within c.self.inside.program.now c.self.inside.lists c.args.self.now c.self.view_is c.args.at.method (slice_get_within c.args.self.now.methods c.args.at.method c.requires.lowered c.requires.stands) in
    let at = slice_get_read c.self.inside.lists.methods.items _ c.args.at.method c.index-named.result.now refl within c.index-named.ensures in
    in_order c.self.inside.program.now c.self.inside.lists c.args.self.now c.self.view_is c.self.invariant.sound c.args.at c.index-named.result.now at

pub place_number-node-requires-clause-there : goal.place_number-node-requires-clause-there
place_number-node-requires-clause-there c =
    let within = method_within c.self.inside.program.now c.self.inside.lists c.args.self.now c.self.view_is c.args.at.method (slice_get_within c.args.self.now.methods c.args.at.method c.requires.lowered c.requires.stands) in
    let at = slice_get_read c.self.inside.lists.methods.items _ c.args.at.method c.index-named.result.now refl within c.index-named.ensures in
    node_within c.self.inside.program.now c.self.inside.lists c.args.self.now c.self.view_is c.self.invariant.sound c.args.at c.index-named.result.now at c.requires

pub variable-requires : goal.variable-requires
variable-requires c =
    let within = method_within c.self.inside.program.now c.self.inside.lists c.args.self.now c.self.view_is c.args.at.method (slice_get_within c.args.self.now.methods c.args.at.method c.requires.lowered c.requires.stands) in
    let at = slice_get_read c.self.inside.lists.methods.items _ c.args.at.method c.index-named.result.now refl within c.index-named.ensures in
    let below = named_within c.self.inside.program.now c.self.inside.lists c.args.self.now c.self.view_is c.self.invariant.sound c.args.at c.index-named.result.now at c.requires in
    subst (λ (k : ℕ). k < (name_table c.index-named.result.now.names).count) (sym c.place_number-node.ensures) below

pub returns : goal.returns
returns c = λ m n stands node_at.
    let within = method_within c.self.inside.program.now c.self.inside.lists c.args.self.now c.self.view_is c.args.at.method (slice_get_within c.args.self.now.methods c.args.at.method c.requires.lowered c.requires.stands) in
    let at = slice_get_read c.self.inside.lists.methods.items _ c.args.at.method c.index-named.result.now refl within c.index-named.ensures in
    let kept = c.variable.ensures ∙ ap (λ (k : ℕ). (name_table c.index-named.result.now.names).variable k c.args.slot) c.place_number-node.ensures in
    subst (λ (v : Variable). IsVariable m n c.args.slot v) (sym kept)
    (is_variable c.self.inside.program.now c.self.inside.lists c.args.self.now c.self.view_is c.self.invariant.sound c.args.at c.index-named.result.now at c.args.slot m n stands node_at)
