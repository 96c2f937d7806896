-- Where the pairs reach the limit, so many are derivable.
use Rattle.std.proofs.Common.{◌≡◌, ℕ, ◌≤◌, List, take, ◌∙◌, arith}
use Rattle.std.specs.List.{AllZip, Contains}
use Rattle.std.proofs.lemmas.List.{length-take-le}
use Rattle.jvm_model.specs.declared.number.MethodNo.{MethodNo}
use Rattle.jvm_model.specs.Programs.{Program}
use Rattle.op_model.specs.Supplies.{GivenAs}
use Rattle.least_sets.specs.Parts.{HasAtLeast}
use Rattle.least_sets.specs.Rules.{IsDerivable}
use Rattle.least_sets.proofs.Places.{place_of}
use Rattle.points_to_rules.specs.Rules.{Instance}
use Rattle.points_to_rules.specs.Solutions.{pair_of}
use Rattle.points_to_constraints.specs.ItemRules.{ItemInstance}
use Rattle.points_to_constraints.specs.Items.{Item as RuleItem}
use Rattle.points_to_constraints.proofs.Holders.{zip_made}
use Rattle.points_to_numbers.specs.declared.item.Item.{Item}
use Rattle.points_to_numbers.specs.Numbered.{Numbered, AreApart}
use Rattle.points_to_numbers.specs.Steps.{IsItemAt}
use Rattle.site_rows.specs.Listed.{listed}
use Rattle.site_rows.specs.Rows.{pairs_in}
use Rattle.site_rows.proofs.Listing.{pairs_listed}
use Rattle.points_to.specs.Queues.{State, pair_item, pairs_among}
use Rattle.points_to.proofs.ItemPlaces.{zip_back, zip_weaker}
use Rattle.points_to.proofs.PairedFacts.{many_derivable}
use Rattle.points_to.proofs.QueueItems.{front_apart, in_whole, pair_held, pair_list_apart, pairs_weigh}
use Rattle.points_to.proofs.SoFar.{AreDerived}

module _ (p : Program) (gives : GivenAs) (entry : MethodNo) (n : Numbered) (q : State) (limit : ℕ) (apart : AreApart n) (derived : AreDerived p gives entry n q) (reached : limit ≤ pairs_in q.rows) where
  abbrev Both : Item → RuleItem → Type 0
  Both i x = IsItemAt n i x × IsDerivable (ItemInstance p gives entry) x

  abbrev firsts : List Item
  firsts = take limit (listed pair_item q.rows)

  among : (i : Item) → Contains firsts i → Contains (listed pair_item q.rows) i
  among i there = in_whole (listed pair_item q.rows) limit i there

  made : (xs : List RuleItem) × AllZip Both firsts xs
  made = zip_made Both firsts (λ i there. (let (x, at, is) = derived.each i (pair_held q i (among i there)) in (x, (at, is))))

  so_many : pairs_among firsts ≡ limit
  so_many =
      pairs_weigh q.rows firsts among
      ∙ length-take-le limit (listed pair_item q.rows) (let count = pairs_listed pair_item 0 q.rows in omega arith)

  pub limit_reached : HasAtLeast (Instance p gives entry) pair_of limit
  limit_reached = many_derivable p gives entry n firsts made.0 limit apart derived.calls (zip_weaker Both (IsItemAt n) (λ i x both. both.0) firsts made.0 made.1) (front_apart (listed pair_item q.rows) limit (pair_list_apart q.rows))
      (λ x there. (let at = place_of made.0 x there in (zip_back Both firsts made.0 made.1 at.0 x at.1).2.1)) so_many
