use Rattle.std.proofs.Common.{List, sym, subst}
use Rattle.std.specs.List.{Contains}
use Rattle.list_laws.proofs.Places.{contains_at, place_of}
use Rattle.op_model.specs.declared.node.NodeRef.{NodeRef}
use Rattle.points_to_rules.specs.Facts.{may_call}
use Rattle.ground.proofs.Views.{so}
use Rattle.ground.proofs.ground.Ground.calls.Goals as goal

pub returns : goal.returns
returns c = λ call. (
  λ listed.
      let keys = c.self.inside.lists.calls.keys in
      let (number, at) = place_of keys call (subst (λ (calls : List NodeRef). Contains calls call) c.as_slice.ensures.keys listed) in
      let (m, there) = c.self.invariant.sound.called number call at in
      (m, (so c.self.inside.program.now c.self.inside.lists c.args.self.now c.self.view_is (may_call call m)).1 (number, at, there)),
  λ (m, told).
      let (number, at, there) = (so c.self.inside.program.now c.self.inside.lists c.args.self.now c.self.view_is (may_call call m)).0 told in
      subst (λ (calls : List NodeRef). Contains calls call) (sym c.as_slice.ensures.keys) (contains_at c.self.inside.lists.calls.keys number call at),
)
