-- A tuple flows where its roots are rerooted as the operation copies them.
use Rattle.std.proofs.Common.{◌≡◌, inl, inr, ℕ, Bool, false, ◌||◌, List, [], ◌∷◌, refl, sym, ap, subst}
use Rattle.std.specs.Prelude.{◌≢◌}
use Rattle.std.specs.List.{Contains}
use Rattle.std.proofs.lemmas.Bool.{or_parts}
use Rattle.list_laws.proofs.Members.{contains_first}
use Rattle.jvm_model.specs.declared.number.FieldNo.{FieldNo}
use Rattle.op_model.specs.declared.lowered.LoweredMethod.{LoweredMethod}
use Rattle.op_model.specs.declared.node.Node.{Node}
use Rattle.op_model.specs.declared.op.Op.{Op}
use Rattle.op_model.specs.declared.op.Op.TheVariants.{StoreElement}
use Rattle.access_paths.specs.declared.root.Root.{Root}
use Rattle.access_paths.specs.Paths.{Path, bare}
use Rattle.stage_facts.specs.Facts.{Tuple}
use Rattle.stage_transfer.specs.Settings.{among}
use Rattle.stage_transfer.specs.Changes.{slots_go}
use Rattle.stage_relations.specs.Roots.{Copied, Doubles, own, gone_slots}
use Rattle.stage_relations.specs.Relations.{Comes, rooted, Flows, HasFields, Heir, IsComplete, IsMade, IsUnstored, Origin, PutsAway, Reroots, Source as From, Target}
use Rattle.stage_transfer_laws.proofs.Shapes.{copies_roots, follows_field, shape}
use Rattle.stage_transfer_laws.proofs.Operations.{quiet_each, quiet_stays}

pub unstored : (op : Op) → shape op ≢ follows_field → (fields : List FieldNo) → IsUnstored op fields
unstored op other [] = tt
unstored op other (f ∷ fields) = (λ object value is. other (ap shape is), unstored op other fields)

-- A source is an origin.
pub origin_of : {l : LoweredMethod} {n : Node} {op : Op} {old : List Path} {y : Path} → IsUnstored op y.fields → From (Doubles l n (Copied op)) old y
    → Origin l n op old y
origin_of {l} {n} {op} {old} {y} free source = record {
  path = source.path;
  listed = source.listed;
  comes = subst (λ (fs : List FieldNo). Comes l n op (record { root = source.path.root; fields = fs }) y) source.fields (rooted source.goes free);
}

own_source : {l : LoweredMethod} {n : Node} {op : Op} {old : List Path} {y : Path} → From (Copied op) old y → From (Doubles l n (Copied op)) old y
own_source source = record { path = source.path; listed = source.listed; goes = own source.goes; fields = source.fields }

-- A target is an heir.
pub heir_of : {l : LoweredMethod} {n : Node} {op : Op} {x : Path} {new : List Path} → IsUnstored op x.fields → HasFields x.fields
    → Target (Doubles l n (Copied op)) x new → Heir l n op x new
heir_of {l} {n} {op} {x} {new} free has target = record {
  path = target.path;
  listed = target.listed;
  comes = subst (λ (fs : List FieldNo). Comes l n op x (record { root = target.path.root; fields = fs })) (sym target.fields) (rooted target.goes free);
  fields = subst (λ (fs : List FieldNo). HasFields fs) (sym target.fields) has;
}

-- What is rerooted flows.
pub rerooted_flows : {l : LoweredMethod} {n : Node} {op : Op} {t u : Tuple} → shape op ≢ follows_field
    → Reroots (Copied op) (Doubles l n (Copied op)) (IsMade op) t u → ((array value : ℕ) → op ≡ StoreElement array value → PutsAway (value ∷ []) t u)
    → Flows l n op t u
rerooted_flows {op = op} free r puts = record {
  unique = r.unique;
  state = r.state;
  must = λ y there. origin_of (unstored op free y.fields) (own_source (r.must y there));
  must_not = λ y there. elim (r.must_not y there) [
    | inl source ↦ inl (origin_of (unstored op free y.fields) (own_source source))
    | inr made ↦ inr made
  ];
  may = r.may;
  complete = λ e. record {
    roots = r.roots e;
    fields = λ x there has. inr (heir_of (unstored op free x.fields) has (r.fields e x there has));
    loads = λ object target field is. absurd (free (ap shape is));
    stores = λ object value field is. absurd (free (ap shape is));
    elements = λ array value is. puts array value is e value (contains_first value []);
  };
}

-- A tuple that stays flows where nothing is copied or written.
pub same_reroots : (l : LoweredMethod) (n : Node) (op : Op) (t : Tuple) → shape op ≢ copies_roots → ((r : Root) → slots_go (among (gone_slots op)) r ≡ false)
    → Reroots (Copied op) (Doubles l n (Copied op)) (IsMade op) t t
same_reroots l n op t quiet stays = record {
  unique = λ e. e;
  state = refl;
  must = λ y there. record { path = y; listed = there; goes = quiet_stays op quiet y.root (stays y.root); fields = refl };
  must_not = λ y there. inl (record { path = y; listed = there; goes = quiet_stays op quiet y.root (stays y.root); fields = refl });
  may = λ e. e;
  roots = λ e r q copied there. subst (λ (p : Root). Contains t.must (bare p)) (quiet_each op quiet r q copied).0 there;
  fields = λ e x there has. record { path = x; listed = there; goes = own (quiet_stays op quiet x.root (stays x.root)); fields = refl };
}

-- A tuple whose paths have origins flows, if it is complete where two losses are ruled out.
pub origins_flow : (l : LoweredMethod) (n : Node) (op : Op) (t : Tuple) (must must_not : List Path) (a b : Bool)
    → ((y : Path) → Contains must y → Origin l n op t.must y) → ((y : Path) → Contains must_not y → Origin l n op t.must_not y)
    → (a ≡ false → b ≡ false → IsComplete l n op t.must must)
    → Flows l n op t (record { unique = t.unique; state = t.state; must = must; may = (t.may || a) || b; must_not = must_not })
origins_flow l n op t must must_not a b of_must of_must_not complete = record {
  unique = λ e. e;
  state = refl;
  must = of_must;
  must_not = λ y there. inl (of_must_not y there);
  may = λ e. (or_parts t.may a (or_parts (t.may || a) b e).0).0;
  complete = λ e. let off = or_parts (t.may || a) b e in complete (or_parts t.may a off.0).1 off.1;
}
