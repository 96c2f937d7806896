use Rattle.std.proofs.Common.{List, ℕ, Bool, length, sym, subst}
use Rattle.ground_views.specs.Questions.{GroundInstance}
use Rattle.edge_derivations.specs.Derived.{IsCutFor}
use Rattle.edge_derivations.specs.Marks.{AreListed, IsMarked}
use Rattle.edge_derivations.proofs.Cutting.{cut_derives, cut_within}
use Rattle.edge_derivations.proofs.Listing.{cut_of}
use Rattle.edge_derivations.proofs.derivation.derivation_of.Goals as goal

pub returns : goal.returns
returns c =
    let edges = c.args.found.now.edges in
    let reasons = c.args.found.now.reasons in
    let last = c.args.last in
    let marks = c.in_ok-needed.needed.items in
    let before = c.in_ok-places.places.items in
    let places = c.push.new.self.items in
    let listed = subst (λ (bs : List Bool). AreListed (IsMarked bs) (length bs) before) c.deref.ensures.value c.in_ok-places.ensures in
    let cut : IsCutFor reasons last places = subst (λ (ps : List ℕ). IsCutFor reasons last ps) (sym c.in_ok-push.ensures.items) (cut_of reasons last marks before c.in_ok-needed.ensures listed) in
    record {
      cut = cut;
      derived = λ q x w these are stand. cut_derives (GroundInstance q x w) edges reasons last places these cut are stand;
      within = cut_within reasons last places cut (length edges) c.requires;
    }
