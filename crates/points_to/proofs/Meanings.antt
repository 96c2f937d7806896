-- Sets of items by what they stand for; and how they change with the tables.
use Rattle.std.proofs.Common.{List, subst}
use Rattle.least_sets.specs.Rules.{Hold}
use Rattle.points_to_constraints.specs.Items.{Item as RuleItem}
use Rattle.points_to_numbers.specs.declared.item.Item.{Item}
use Rattle.points_to_numbers.specs.Numbered.{Numbered, Grows}
use Rattle.points_to_numbers.specs.Steps.{IsItemAt}
use Rattle.points_to_numbers.proofs.Growing.{grown_item}
use Rattle.points_to.proofs.ItemPlaces.{one_meaning}

-- An item of the set stands for it.
abbrev pub Meant : Numbered → (Item → Type 0) → RuleItem → Type 0
Meant n S x = (i : Item) × S i × IsItemAt n i x

-- One instance leads from what is in the set to it.
pub record LeadsTo (Instance : List RuleItem → RuleItem → Type 0) (S : RuleItem → Type 0) (x : RuleItem) : Type 0 where
  pub premises : List RuleItem
  pub instance : Instance premises x
  pub hold : Hold S premises

module _ (n m : Numbered) (grows : Grows n m) (S T : Item → Type 0) where
  -- in larger tables, a larger set stands for what it stood for
  pub meant_later : ((i : Item) → S i → T i) → (x : RuleItem) → Meant n S x → Meant m T x
  meant_later more x (i, there, at) = (i, more i there, grown_item n m grows i x at)

  -- in the smaller ones, where each of its items stood for something
  pub meant_earlier : ((i : Item) → T i → S i) → ((i : Item) → S i → (y : RuleItem) × IsItemAt n i y) → (x : RuleItem) → Meant m T x → Meant n S x
  meant_earlier back stood x (i, there, at) =
      let s = back i there in
      let (y, before) = stood i s in
      let same = one_meaning m i y x (grown_item n m grows i y before) at in
      (i, s, subst (IsItemAt n i) same before)
