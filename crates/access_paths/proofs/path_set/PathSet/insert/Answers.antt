use Rattle.std.proofs.Common.{◌≡◌, List, length, nat_eq, nat_lt, take, sym, ◌∙◌, ap, subst, arith}
use Rattle.std.specs.List.{insert}
use Rattle.access_paths.specs.Paths.{Path, with_path}
use Rattle.access_paths.specs.Sets.{IsPathSet}
use Rattle.access_paths.proofs.Places.{put_drops, put_set, put_within}
use Rattle.access_paths.proofs.path_set.PathSet.insert.Goals as goal

pub invariant_of-result : goal.invariant_of-result
invariant_of-result c =
    let x = c.args.path.now in
    let set = c.args.self.now in
    let is : IsPathSet set = subst IsPathSet (c.paths.view_is ∙ c.copied-2.ensures) c.paths.invariant in
    let old = c.truncate.ensures.items ∙ ap (take 5) (c.paths.view_is ∙ c.copied-2.ensures) in
    put_set x set c.args.at c.insert.new.self.items is c.requires (omega arith) (c.insert.ensures.items ∙ ap (λ (s : List Path). insert s c.args.at x) old)

pub returns : goal.returns
returns c =
    let x = c.args.path.now in
    let set = c.args.self.now in
    let is : IsPathSet set = subst IsPathSet (c.paths.view_is ∙ c.copied-2.ensures) c.paths.invariant in
    let old = c.truncate.ensures.items ∙ ap (take 5) (c.paths.view_is ∙ c.copied-2.ensures) in
    let kept = c.insert.ensures.items ∙ ap (λ (s : List Path). insert s c.args.at x) old ∙ sym (put_within x set c.args.at c.requires (omega arith)) in
    let dropped : nat_eq c.len-dropped.result 6 ≡ nat_lt 6 (length (with_path x set)) =
    ap (λ n. nat_eq n 6) c.len-dropped.ensures.count ∙ sym (put_drops x set c.args.at c.requires is.few) in
    λ i. record { set = kept i; dropped = dropped i }
