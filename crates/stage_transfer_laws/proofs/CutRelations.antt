-- The relations of a stage hold as well where paths are left out.
use Rattle.std.proofs.Common.{◌≡◌, inl, inr, ℕ, Bool, true, false, List, [], Option, sym, ◌∙◌}
use Rattle.jvm_model.specs.declared.number.MethodNo.{MethodNo}
use Rattle.op_model.specs.declared.lowered.LoweredMethod.{LoweredMethod}
use Rattle.op_model.specs.declared.node.Node.{Node}
use Rattle.op_model.specs.declared.op.Op.{Op}
use Rattle.points_to_rules.specs.Facts.{Fact}
use Rattle.access_paths.specs.declared.root.Root.{Root}
use Rattle.access_paths.specs.Paths.{Path}
use Rattle.stage_facts.specs.Facts.{SiteFact, Tuple}
use Rattle.stage_relations.specs.Relations.{Flows, IsBorn, IsComplete, Joins, Notes, PutsAway, Reroots, Target}
use Rattle.stage_transfer_laws.proofs.Finished.{IsCut}

-- what is true of the one that is cut was true before
unique_of : {u v : Tuple} → IsCut u v → v.unique ≡ true → u.unique ≡ true
unique_of cut e = sym cut.unique ∙ e

pub target_kept : {Goes : Root → Root → Type 0} {x : Path} {u v : Tuple} → IsCut u v → v.may ≡ false → Target Goes x u.must → Target Goes x v.must
target_kept cut e target = record { path = target.path; listed = cut.all e target.path target.listed; goes = target.goes; fields = target.fields }

pub reroots_cut : {Goes Doubled : Root → Root → Type 0} {Known : Path → Type 0} {t u v : Tuple} → IsCut u v → Reroots Goes Doubled Known t u
    → Reroots Goes Doubled Known t v
reroots_cut cut r = record {
  unique = λ e. r.unique (unique_of cut e);
  state = cut.state ∙ r.state;
  must = λ y there. r.must y (cut.must y there);
  must_not = λ y there. r.must_not y (cut.must_not y there);
  may = λ e. r.may (cut.may e);
  roots = λ e p q goes there. cut.all e (record { root = q; fields = [] }) (r.roots (cut.may e) p q goes there);
  fields = λ e x there has. target_kept cut e (r.fields (cut.may e) x there has);
}

pub away_cut : (values : List ℕ) (t : Tuple) {u v : Tuple} → IsCut u v → PutsAway values t u → PutsAway values t v
away_cut values t cut away = λ e. away (cut.may e)

complete_cut : {l : LoweredMethod} {n : Node} {op : Op} {old : List Path} {u v : Tuple} → IsCut u v → v.may ≡ false → IsComplete l n op old u.must
    → IsComplete l n op old v.must
complete_cut cut e c = record {
  roots = λ r q copied there. cut.all e (record { root = q; fields = [] }) (c.roots r q copied there);
  fields = λ x there has. elim (c.fields x there has) [
    | inl over ↦ inl over
    | inr heir ↦ inr (record { path = heir.path; listed = cut.all e heir.path heir.listed; comes = heir.comes; fields = heir.fields })
  ];
  loads = λ object target field is x there ends. cut.all e _ (c.loads object target field is x there ends);
  stores = λ object value field is there.
      let put = c.stores object value field is there in
      record { slot = put.slot; alike = put.alike; keeps = put.keeps; listed = cut.all e _ put.listed };
  elements = c.elements;
}

pub flows_cut : {l : LoweredMethod} {n : Node} {op : Op} {t u v : Tuple} → IsCut u v → Flows l n op t u → Flows l n op t v
flows_cut cut f = record {
  unique = λ e. f.unique (unique_of cut e);
  state = cut.state ∙ f.state;
  must = λ y there. f.must y (cut.must y there);
  must_not = λ y there. f.must_not y (cut.must_not y there);
  may = λ e. f.may (cut.may e);
  complete = λ e. complete_cut cut e (f.complete (cut.may e));
}

pub born_cut : {target : Option ℕ} {first : Bool} {initial : ℕ} {u v : Tuple} → IsCut u v → IsBorn target first initial u → IsBorn target first initial v
born_cut cut b = record {
  unique = λ e. b.unique (unique_of cut e);
  state = cut.state ∙ b.state;
  must = λ y there. b.must y (cut.must y there);
  must_not = λ y there. b.must_not y (cut.must_not y there);
  held = λ e z is. cut.all e _ (b.held (cut.may e) z is);
}

pub notes_cut : {l : LoweredMethod} {n : Node} {receiver : ℕ} {is_its : Bool} {after : ℕ} {t u v : Tuple} → IsCut u v → Notes l n receiver is_its after t u
    → Notes l n receiver is_its after t v
notes_cut cut k = record {
  unique = λ e. k.unique (unique_of cut e);
  state = cut.state ∙ k.state;
  must = λ y there. k.must y (cut.must y there);
  must_not = λ y there. k.must_not y (cut.must_not y there);
  may = λ e. k.may (cut.may e);
  all = λ e y there. cut.all e y (k.all (cut.may e) y there);
}

pub joins_cut : {S : Fact → Type 0} {target : MethodNo} {HandedOn : Root → Root → Type 0} {Stays : ℕ → Type 0} {Dropped : Root → Type 0}
    {sent : SiteFact} {out u v : Tuple} → IsCut u v → Joins S target HandedOn Stays Dropped sent out u → Joins S target HandedOn Stays Dropped sent out v
joins_cut cut j = record {
  unique = λ e. j.unique (unique_of cut e);
  state = cut.state ∙ j.state;
  must = λ y there. j.must y (cut.must y there);
  must_not = λ y there. j.must_not y (cut.must_not y there);
  may = λ e. j.may (cut.may e);
  clear = λ e. j.clear (cut.may e);
  roots = λ e r q handed there. cut.all e (record { root = q; fields = [] }) (j.roots (cut.may e) r q handed there);
  fields = λ e x there has other. target_kept cut e (j.fields (cut.may e) x there has other);
  slots = λ e z stays there. cut.all e _ (j.slots (cut.may e) z stays there);
  dropped = λ e. j.dropped (cut.may e);
}
