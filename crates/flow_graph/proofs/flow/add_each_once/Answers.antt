use Rattle.std.proofs.Common.{◌≡◌, ℕ, ◌+◌, true, false, Bool, not, List, [], ◌∷◌, ◌++◌, get_or, drop, refl, sym, subst, ap, ◌∙◌, eqb}
use Rattle.std.specs.Bool.{OnFalse}
use Rattle.std.specs.BTreeSet.{contains}
use Rattle.std.specs.List.{list_any}
use Rattle.std.specs.Ordering.{nat_cmp}
use Rattle.flow_graph.specs.Flows.{each_once}
use Rattle.flow_graph.specs.Walking.{AreAmong}
use Rattle.flow_graph.proofs.Loops.{once_left, once_added}
use Rattle.flow_graph.proofs.Sets.{grown, kept, was_absent, was_there}
use Rattle.flow_graph.proofs.flow.add_each_once.Goals as goal
use Rattle.flow_graph.proofs.flow.add_each_once.Goals.{then-branch+in_ok-push, else-branch}

pub loop-offset-preserved : goal.loop-offset-preserved
loop-offset-preserved c =
    let i : ℕ = c.loop-offset.offset-index in
    let offsets : List ℕ = c.args.offsets.now in
    let met : List ℕ = c.loop-offset.met.items in
    let x : ℕ = get_or offsets i 0 in
    let old = c.loop-offset.among in
    let new = c.insert.new.self in
    let are = c.loop-offset.invariant.0 in
    let found : contains nat_cmp old x ≡ list_any (λ (m : ℕ). eqb m x) met = are.each x in
    let told : c.in_ok-insert.field-0 ≡ not (contains nat_cmp old x) = c.in_ok-insert.ensures.added in
    elim c.if-branch.branch [
      | then-branch+in_ok-push w ↦
          let a = w.met-is in
          let b = w.in_ok-push.ensures.items in
          let added : c.if-branch.met.items ≡ met ++ x ∷ [] = cc (a, b) in
          let t : c.in_ok-insert.field-0 ≡ true = w.if-branch.true in
          let none = sym found ∙ was_absent (contains nat_cmp old x) c.in_ok-insert.field-0 t told in (
            subst (λ (ys : List ℕ). AreAmong new ys) (sym added) (grown old new met x are c.in_ok-insert.ensures.updates),
            ap (λ (ys : List ℕ). each_once ys (drop (i + 1) offsets)) added ∙ once_added met offsets i x c.loop-offset-test.true refl none ∙ c.loop-offset.invariant.1,
          )
      | else-branch w ↦
          let a = w.met-is in
          let same : c.if-branch.met.items ≡ met = cc a in
          let t : c.in_ok-insert.field-0 ≡ false = w.if-branch.false in
          let some = sym found ∙ was_there (contains nat_cmp old x) c.in_ok-insert.field-0 t told in
          let unchanged : new.keys ≡ old.keys = subst (λ (b : Bool). OnFalse b (new.keys ≡ old.keys)) t c.in_ok-insert.ensures.unchanged in (
            subst (λ (ys : List ℕ). AreAmong new ys) (sym same) (kept old new met are unchanged),
            ap (λ (ys : List ℕ). each_once ys (drop (i + 1) offsets)) same ∙ once_left met offsets i x c.loop-offset-test.true refl some ∙ c.loop-offset.invariant.1,
          )
    ]
