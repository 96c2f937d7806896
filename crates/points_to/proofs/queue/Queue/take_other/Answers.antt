use Rattle.std.proofs.Common.{◌≡◌, ◌⊎◌, inl, inr, List, [], ◌∷◌, ◌++◌, ◌∙◌, sym, subst}
use Rattle.std.specs.List.{Contains}
use Rattle.indexmap.specs.IndexSet.{insert_key}
use Rattle.indexmap.proofs.CallerLemmas.{Contains-insert_key}
use Rattle.points_to_numbers.specs.declared.item.Item.{Item}
use Rattle.points_to.specs.Queues.{IsOther}
use Rattle.points_to.proofs.ExactItems.{same_items, exact_items, apart_from_unique}
use Rattle.points_to.proofs.QueueSteps.{inserted, other_only, other_takes, other_there, other_within}
use Rattle.points_to.proofs.queue.Queue.take_other.Goals as goal

-- the items are those that there were, or have this one behind them
longer : (old new : List Item) (item : Item) → new ≡ insert_key same_items old item → (new ≡ old) ⊎ (new ≡ old ++ item ∷ [])
longer old new item keys = elim (inserted old item) [ inl e ↦ inl (keys ∙ e) | inr e ↦ inr (keys ∙ e) ]

pub returns-clause-takes : goal.returns-clause-takes
returns-clause-takes c =
    let q = c.args.self.now in
    other_takes q.rows.rows.items q.others.keys c.insert.new.self.keys q.done c.args.item c.requires.sound.within (longer q.others.keys c.insert.new.self.keys c.args.item c.in_ok-insert.ensures.keys)

pub returns-clause-sound : goal.returns-clause-sound
returns-clause-sound c =
    let q = c.args.self.now in
    let new = c.insert.new.self.keys in
    let grown = longer q.others.keys new c.args.item c.in_ok-insert.ensures.keys in
    record {
      rows = c.requires.sound.rows;
      apart = apart_from_unique new c.in_ok-insert.ensures.unique;
      unpaired = λ i there. elim (other_only q.rows.rows.items q.others.keys new q.done c.args.item c.requires.sound.within grown i there) [
        | inl was ↦ c.requires.sound.unpaired i was
        | inr is ↦ subst IsOther is c.requires.other
      ];
      within = other_within q.rows.rows.items q.others.keys new q.done c.args.item c.requires.sound.within grown;
    }

pub returns-clause-held : goal.returns-clause-held
returns-clause-held c =
    let there = Contains-insert_key same_items exact_items c.args.self.now.others.keys c.args.item in
    other_there (record { rows = c.args.self.now.rows.rows.items; others = c.insert.new.self.keys; done = c.args.self.now.done }) c.args.item c.requires.other (subst (λ (keys : List Item). Contains keys c.args.item) (sym c.in_ok-insert.ensures.keys) there)
