use Rattle.std.proofs.Common.{◌≡◌, ◌∙◌, None, length, replicate, rules, refl, sym, ap, subst, ℕ, List, Option}
use Rattle.std.specs.List.{slice_get}
use Rattle.jvm_model.specs.declared.number.SiteNo.{SiteNo}
use Rattle.jvm_model.specs.Programs.{Program}
use Rattle.program_model.specs.Numbers.{IsClassNumber}
use Rattle.prune_stage.specs.Places.{AreBelow, ArePlaces, StandsInTable}
use Rattle.report_analysis.specs.Numbers.{AreNumbers, AreTurnedRound}
use Rattle.report_analysis.proofs.TurnedRound.{length_none, none_put, numbers_are, places_below, written_back}
use Rattle.report_analysis.proofs.numbers.numbers_of.Goals as goal

pub site_places-requires-clause-known : goal.site_places-requires-clause-known
site_places-requires-clause-known c = λ t there. subst (λ (p : Program). IsClassNumber p t.class.0) (sym c.program.ensures) (c.requires.known t there)

pub put_numbers-requires-clause-below : goal.put_numbers-requires-clause-below
put_numbers-requires-clause-below c =
    let g = c.args.ground.now in
    let sites = c.args.sites.now in
    let places = c.in_ok-places.places.items in
    let are = subst (λ (p : Program). ArePlaces p g.sites sites places) c.program.ensures c.in_ok-places.ensures in
    let made : c.in_ok-numbers.numbers.items ≡ replicate (length sites) None = c.in_ok-numbers.ensures.items_if_clones_equal (λ y h. search rules) in
    let long = ap (length {A = Option SiteNo}) (c.deref_mut.ensures.value ∙ made) ∙ length_none (length sites) in
    subst (λ (list : List (Option ℕ)). AreBelow (length c.deref_mut.result.now) (StandsInTable list)) (sym c.as_slice.ensures.value)
    (places_below g sites places (length c.deref_mut.result.now) long are)

pub put_numbers-requires-clause-none : goal.put_numbers-requires-clause-none
put_numbers-requires-clause-none c = λ place n at.
    let sites = c.args.sites.now in
    let made : c.in_ok-numbers.numbers.items ≡ replicate (length sites) None = c.in_ok-numbers.ensures.items_if_clones_equal (λ y h. search rules) in
    none_put (length sites) place n (ap (λ (list : List (Option SiteNo)). slice_get list place) (sym (c.deref_mut.ensures.value ∙ made)) ∙ at)

pub returns : goal.returns
returns c =
    let g = c.args.ground.now in
    let sites = c.args.sites.now in
    let places = c.in_ok-places.places.items in
    let items = c.in_ok-numbers.numbers.items in
    let new = c.put_numbers.new.numbers in
    let are = subst (λ (p : Program). ArePlaces p g.sites sites places) c.program.ensures c.in_ok-places.ensures in
    let made : items ≡ replicate (length sites) None = c.in_ok-numbers.ensures.items_if_clones_equal (λ y h. search rules) in
    let whole = ap (length {A = Option SiteNo}) c.deref_mut.ensures.value in
    let long : length c.deref_mut.result.now ≡ length sites = ap (length {A = Option SiteNo}) (c.deref_mut.ensures.value ∙ made) ∙ length_none (length sites) in
    let of_places = subst (λ (list : List (Option ℕ)). AreTurnedRound list (length c.deref_mut.result.now) (length list) new) c.as_slice.ensures.value c.put_numbers.ensures in
    let turned = subst (λ (count : ℕ). AreTurnedRound places count (length places) new) long of_places in
    let count : length items ≡ c.in_ok-numbers.numbers.len = sym whole ∙ c.deref_mut.ensures.len in
    let read = written_back new items _ c.in_ok-numbers.numbers.len refl (c.put_numbers.ensures.long ∙ whole) count in
    subst (λ (list : List (Option SiteNo)). AreNumbers g sites list) (sym read) (numbers_are g sites places new are turned)
