-- What stands for a key, an entry or an item goes on standing for it while the tables grow.
use Rattle.std.proofs.Common.{◌≡◌, Option, Some, None}
use Rattle.std.specs.List.{slice_get}
use Rattle.list_laws.proofs.Zips.{zip_weaker}
use Rattle.jvm_model.specs.declared.site.Site.{Site}
use Rattle.points_to_rules.specs.Facts.{Holder}
use Rattle.points_to_constraints.specs.Items.{CatchClause as ItemCatchClause, CatchChain as ItemCatchChain, CallSite as ItemCallSite, Constraint as ItemConstraint, Item as RuleItem}
use Rattle.points_to_numbers.specs.declared.entries.CatchClause.{CatchClause}
use Rattle.points_to_numbers.specs.declared.entries.CatchChain.{CatchChain}
use Rattle.points_to_numbers.specs.declared.entries.CallSite.{CallSite}
use Rattle.points_to_numbers.specs.declared.item.Item.{Item}
use Rattle.points_to_numbers.specs.declared.item.Item.TheVariants.{Holds, Runs, Calls, Constrains}
use Rattle.points_to_rules.specs.declared.place.PlaceNo.{PlaceNo}
use Rattle.points_to_numbers.specs.declared.keys.SiteKey.{SiteKey}
use Rattle.points_to_rules.specs.declared.place.Place.{Place}
use Rattle.points_to_rules.specs.declared.place.Place.TheVariants as places
use Rattle.points_to_numbers.specs.declared.keys.Constraint.{Constraint}
use Rattle.points_to_numbers.specs.declared.keys.Constraint.TheVariants as constraints
use Rattle.points_to_numbers.specs.Numbered.{Numbered, Extends, Grows, IsSiteAt, IsHolderAt, IsCatchClauseAt, IsCatchChainAt, IsUnitAt, IsCallAt, IsConstraintAt}
use Rattle.points_to_numbers.specs.Steps.{IsItemAt}

pub grows_same : (n : Numbered) → Grows n n
grows_same n = record {
  classes = λ place x e. e;
  sites = λ place x e. e;
  holders = λ place x e. e;
  catch_chains = λ place x e. e;
  calls = λ place x e. e;
  constraints = λ place x e. e;
}

pub grows_on : (n m o : Numbered) → Grows n m → Grows m o → Grows n o
grows_on n m o first second = record {
  classes = λ place x e. second.classes place x (first.classes place x e);
  sites = λ place x e. second.sites place x (first.sites place x e);
  holders = λ place x e. second.holders place x (first.holders place x e);
  catch_chains = λ place x e. second.catch_chains place x (first.catch_chains place x e);
  calls = λ place x e. second.calls place x (first.calls place x e);
  constraints = λ place x e. second.constraints place x (first.constraints place x e);
}

-- ---- each rests on the tables below it alone

module _ (n m : Numbered) where
  pub longer_site : Extends n.classes m.classes → (key : SiteKey) (s : Site) → IsSiteAt n key s → IsSiteAt m key s
  longer_site longer key s is = record { class = longer key.class.0 s.class is.class; kind = is.kind; method = is.method; offset = is.offset }

  pub longer_holder : Extends n.sites m.sites → (place : Place) (h : Holder) → IsHolderAt n place h → IsHolderAt m place h
  longer_holder longer (places.Variable v) h is = is
  longer_holder longer (places.Field site field) h (s, at, is) = (s, longer site.0 s at, is)
  longer_holder longer (places.Elements site) h (s, at, is) = (s, longer site.0 s at, is)
  longer_holder longer (places.Static field) h is = is
  longer_holder longer places.Kept h is = is
  longer_holder longer (places.Returned method) h is = is
  longer_holder longer (places.Thrown method) h is = is

  longer_catch_clause : Extends n.holders m.holders → (entry : CatchClause) (a : ItemCatchClause) → IsCatchClauseAt n entry a → IsCatchClauseAt m entry a
  longer_catch_clause longer entry a is = record { handler = is.handler; to = longer entry.to.0 a.to is.to }

  pub longer_catch_chain : Extends n.holders m.holders → (entry : CatchChain) (l : ItemCatchChain) → IsCatchChainAt n entry l → IsCatchChainAt m entry l
  longer_catch_chain longer entry l is = record {
    catch_clauses = zip_weaker (IsCatchClauseAt n) (IsCatchClauseAt m) (longer_catch_clause longer) entry.catch_clauses l.catch_clauses is.catch_clauses;
    outside = longer entry.outside.0 l.outside is.outside;
  }

  longer_unit : Extends n.holders m.holders → (entry : Option PlaceNo) (u : Option Holder) → IsUnitAt n entry u → IsUnitAt m entry u
  longer_unit longer None None is = is
  longer_unit longer None (Some h) is = absurd is
  longer_unit longer (Some place) None is = absurd is
  longer_unit longer (Some place) (Some h) is = longer place.0 h is

  pub longer_call : Extends n.holders m.holders → Extends n.catch_chains m.catch_chains → (entry : CallSite) (c : ItemCallSite) → IsCallAt n entry c → IsCallAt m entry c
  longer_call holders catch_chains entry c is = record {
    at = is.at;
    kind = is.kind;
    resolved = is.resolved;
    arguments = zip_weaker (IsUnitAt n) (IsUnitAt m) (longer_unit holders) entry.arguments c.arguments is.arguments;
    results = zip_weaker (λ (place : PlaceNo) (h : Holder). slice_get n.holders place.0 ≡ Some h) (λ (place : PlaceNo) (h : Holder). slice_get m.holders place.0 ≡ Some h)
        (λ place h e. holders place.0 h e) entry.results c.results is.results;
    catch_chain = catch_chains entry.catch_chain.0 c.catch_chain is.catch_chain;
  }

  pub longer_constraint : Extends n.classes m.classes → Extends n.holders m.holders → Extends n.catch_chains m.catch_chains → Extends n.calls m.calls → (constraint : Constraint) (u : ItemConstraint) → IsConstraintAt n constraint u → IsConstraintAt m constraint u
  longer_constraint classes holders catch_chains calls (constraints.CopyTo to) u (h, at, is) = (h, holders to.0 h at, is)
  longer_constraint classes holders catch_chains calls (constraints.FilterTo class to) u (name, h, named, at, is) = (name, h, classes class.0 name named, holders to.0 h at, is)
  longer_constraint classes holders catch_chains calls (constraints.LoadField field to) u (h, at, is) = (h, holders to.0 h at, is)
  longer_constraint classes holders catch_chains calls (constraints.StoreField field from) u (h, at, is) = (h, holders from.0 h at, is)
  longer_constraint classes holders catch_chains calls (constraints.LoadElements to) u (h, at, is) = (h, holders to.0 h at, is)
  longer_constraint classes holders catch_chains calls (constraints.StoreElements from) u (h, at, is) = (h, holders from.0 h at, is)
  longer_constraint classes holders catch_chains calls (constraints.ThrowTo catch_chain) u (l, at, is) = (l, catch_chains catch_chain.0 l at, is)
  longer_constraint classes holders catch_chains calls (constraints.RethrowTo catch_chain) u (l, at, is) = (l, catch_chains catch_chain.0 l at, is)
  longer_constraint classes holders catch_chains calls (constraints.Dispatch call) u (c, at, is) = (c, calls call.0 c at, is)

-- ---- all tables grow

module _ (n m : Numbered) (grows : Grows n m) where
  pub grown_site : (key : SiteKey) (s : Site) → IsSiteAt n key s → IsSiteAt m key s
  grown_site = longer_site n m grows.classes

  pub grown_holder : (place : Place) (h : Holder) → IsHolderAt n place h → IsHolderAt m place h
  grown_holder = longer_holder n m grows.sites

  pub grown_catch_chain : (entry : CatchChain) (l : ItemCatchChain) → IsCatchChainAt n entry l → IsCatchChainAt m entry l
  grown_catch_chain = longer_catch_chain n m grows.holders

  pub grown_call : (entry : CallSite) (c : ItemCallSite) → IsCallAt n entry c → IsCallAt m entry c
  grown_call = longer_call n m grows.holders grows.catch_chains

  pub grown_constraint : (constraint : Constraint) (u : ItemConstraint) → IsConstraintAt n constraint u → IsConstraintAt m constraint u
  grown_constraint = longer_constraint n m grows.classes grows.holders grows.catch_chains grows.calls

  pub grown_item : (i : Item) (x : RuleItem) → IsItemAt n i x → IsItemAt m i x
  grown_item (Holds place site) x (h, s, held, there, is) = (h, s, grows.holders place.0 h held, grows.sites site.0 s there, is)
  grown_item (Runs method) x is = is
  grown_item (Calls call target) x (c, at, is) = (c, grows.calls call.0 c at, is)
  grown_item (Constrains place constraint) x (h, u, held, constrained, is) = (h, u, grows.holders place.0 h held, grows.constraints constraint.0 u constrained, is)
