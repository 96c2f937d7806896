use Rattle.std.proofs.Common.{ℕ, ◌<◌, List, length, take, get_or, set, Vec, sym, ◌∙◌, subst, arith}
use Rattle.std.specs.declared.alloc.Global.{Global}
use Rattle.std.specs.List.{All}
use Rattle.std.proofs.lemmas.Option.{slice_get-get_or}
use Rattle.std.proofs.lemmas.List.{take_all, length-set}
use Rattle.std.proofs.lemmas.List.Elements.{All-more, All-weaker}
use Rattle.program_index.specs.AboveLists.{IsListed, IsSearched, AreListedAbove}
use Rattle.program_index.proofs.Gathering.{listed_above, listed_still, listed_here, all_listed}
use Rattle.program_index.proofs.above.above_lists.Goals as goal

pub gather_all-requires-clause-listed : goal.gather_all-requires-clause-listed
gather_all-requires-clause-listed c =
    let g = c.args.parents.now in
    let order = c.args.order.now in
    let i = c.loop-class.class-index in
    subst (λ (lists : List (Vec ℕ Global)). AreListedAbove g lists (get_or order i 0)) (sym c.deref.ensures.value)
    (listed_above g order c.loop-class.lists.items i (get_or order i 0) c.requires.upward (slice_get-get_or order i 0 c.loop-class-test.true) c.loop-class.invariant.listed)

pub loop-class-preserved : goal.loop-class-preserved
loop-class-preserved c =
    let g = c.args.parents.now in
    let order = c.args.order.now in
    let i = c.loop-class.class-index in
    let class = get_or order i 0 in
    let lists = c.loop-class.lists.items in
    let list = c.in_ok-lists-2.field-0 in
    let below : class < length lists = omega (arith, c.loop-class.invariant.count, c.requires.upward.below i 0 c.loop-class-test.true) in
    let searched : IsSearched g class list.items =
    subst (λ (xs : List ℕ). IsSearched g class xs) (sym (c.in_ok-lists-2.ensures.items ∙ c.as_slice.ensures)) c.in_ok-gather_all.ensures.searched in
    record {
      size = c.in_ok-gather_all.ensures.size;
      count = length-set lists class list ∙ c.loop-class.invariant.count;
      listed = All-more (IsListed g (set lists class list)) order i 0 c.loop-class-test.true
          (All-weaker (IsListed g lists) (IsListed g (set lists class list)) (λ y old. listed_still g lists class y list below searched old) (take i order) c.loop-class.invariant.listed)
          (listed_here g lists class list below searched);
    }

pub returns : goal.returns
returns c =
    let g = c.args.parents.now in
    let order = c.args.order.now in
    all_listed g order c.loop-class.lists.items c.requires.upward c.loop-class.invariant.count
    (subst (λ (xs : List ℕ). All (IsListed g c.loop-class.lists.items) xs) (take_all c.loop-class.class-index order c.loop-class-test.false) c.loop-class.invariant.listed)
