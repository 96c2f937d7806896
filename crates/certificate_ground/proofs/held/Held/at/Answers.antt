use Rattle.std.proofs.Common.{◌≡◌, ℕ, List, None, Some, sym, ◌∙◌, ap, subst}
use Rattle.std.specs.List.{Contains}
use Rattle.std.proofs.lemmas.Option.{none-some, same_Some}
use Rattle.list_laws.proofs.Members.{contains_none}
use Rattle.jvm_model.specs.declared.number.SiteNo.{SiteNo}
use Rattle.grouped_lists.specs.Groups.{values_at}
use Rattle.points_to_rules.specs.declared.place.Place.TheVariants.{Variable}
use Rattle.points_to_rules.proofs.ExactPlaces.{same_places}
use Rattle.ground.proofs.KeySets.{only_at, stands_at}
use Rattle.ground.proofs.SlotPlaces.{tells_places}
use Rattle.certificate_ground.proofs.held.Held.at.Goals as goal

pub returns-in-Some : goal.returns-in-Some
returns-in-Some c = λ site.
    let keys = c.args.self.now.places.keys in
    let groups = c.args.self.now.sites.groups.items in
    let number = c.in-Some.number in
    let stands = stands_at same_places tells_places keys (Variable c.args.variable) number (sym c.in-Some.ensures.index) in (
      λ there. (number, stands, subst (λ (vs : List SiteNo). Contains vs site) c.at.ensures there),
      λ (k, at, among).
          let same : number ≡ k = same_Some number k
          (only_at same_places tells_places keys c.len-count.ensures.unique (Variable c.args.variable) (Some number) c.in-Some.ensures.index c.in-Some.ensures.found k at) in
          subst (λ (vs : List SiteNo). Contains vs site) (ap (λ (i : ℕ). values_at groups i) (sym same) ∙ sym c.at.ensures) among,
    )

pub returns-in-None : goal.returns-in-None
returns-in-None c = λ site. (
  λ there. absurd (contains_none site there),
  λ (k, at, among). absurd (none-some k
      (only_at same_places tells_places c.args.self.now.places.keys c.len-count.ensures.unique (Variable c.args.variable) None c.in-None.ensures.index c.in-None.ensures.found k at)),
)
