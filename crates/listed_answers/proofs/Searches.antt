-- What a search through a list of facts says of the list.
use Rattle.std.proofs.Common.{◌≡◌, ◌↔◌, nat_eq, Bool, true, false, not, ◌&&◌, List, Contains, IsTrue, refl, sym, ap, ◌∙◌, subst}
use Rattle.std.specs.List.{list_any}
use Rattle.std.proofs.lemmas.Bool.{and_from, and_parts, eq-eqb, eqb-true, false≢true, not-true, not_from_false}
use Rattle.jvm_model.specs.declared.number.FieldNo.{FieldNo}
use Rattle.jvm_model.specs.declared.number.MethodNo.{MethodNo}
use Rattle.jvm_model.specs.declared.site.Site.{Site}
use Rattle.points_to_rules.specs.Facts.{Holder, Fact, may_hold, may_run, may_call, may_write}
use Rattle.stage_transfer.specs.Settings.{same_field, same_site}
use Rattle.stage_transfer_laws.proofs.Members.{any_passes, none_passes, one_passes}
use Rattle.stage_transfer_laws.proofs.Sites.{is_site, site_is}
use Rattle.listed_answers.specs.ListedAnswers.{is_hold, is_other_hold, is_write, same_holder}
use Rattle.listed_answers.proofs.SameHolders.{holder_is, is_holder}

-- ---- a holder and a site

hold_is : (h : Holder) (s : Site) (x : Fact) → is_hold h s x ≡ true → may_hold h s ≡ x
hold_is h s (may_hold g r) is =
    let parts = and_parts (same_holder h g) (same_site s r) is in
    let holder = holder_is h g parts.0 in
    let site = site_is s r parts.1 in
    λ i. may_hold (holder i) (site i)
hold_is h s (may_run m) is = absurd (false≢true is)
hold_is h s (may_call c m) is = absurd (false≢true is)
hold_is h s (may_write m f) is = absurd (false≢true is)

is_hold_itself : (h : Holder) (s : Site) → is_hold h s (may_hold h s) ≡ true
is_hold_itself h s = and_from (same_holder h h) (same_site s s) (is_holder h) (is_site s)

pub holds : (facts : List Fact) (h : Holder) (s : Site) → IsTrue (list_any (is_hold h s) facts) ↔ Contains facts (may_hold h s)
holds facts h s = (
  λ any. let found = one_passes (is_hold h s) facts any in subst (λ (x : Fact). Contains facts x) (sym (hold_is h s found.0 found.2)) found.1,
  λ there. any_passes (is_hold h s) facts (may_hold h s) there (is_hold_itself h s),
)

-- ---- no other site

-- The fact says that the holder may hold objects of this site, which is another one.
record IsOfOther (h : Holder) (s : Site) (x : Fact) : Type 0 where
  other : Site
  is : may_hold h other ≡ x
  apart : same_site s other ≡ false

other_hold_is : (h : Holder) (s : Site) (x : Fact) → is_other_hold h s x ≡ true → IsOfOther h s x
other_hold_is h s (may_hold g r) is =
    let parts = and_parts (same_holder h g) (not (same_site s r)) is in
    let holder = holder_is h g parts.0 in
    record { other = r; is = λ i. may_hold (holder i) r; apart = not-true (same_site s r) parts.1 }
other_hold_is h s (may_run m) is = absurd (false≢true is)
other_hold_is h s (may_call c m) is = absurd (false≢true is)
other_hold_is h s (may_write m f) is = absurd (false≢true is)

one_site : (s other : Site) (h : Holder) → (same_holder h h && not (same_site s other)) ≡ false → other ≡ s
one_site s other h none = by (same_site s other) refl
  where
    by : (b : Bool) → same_site s other ≡ b → other ≡ s
    by true is = sym (site_is s other is)
    by false is = absurd (false≢true (sym none ∙ and_from (same_holder h h) (not (same_site s other)) (is_holder h) (not_from_false (same_site s other) is)))

pub alone : (facts : List Fact) (h : Holder) (s : Site) → IsTrue (not (list_any (is_other_hold h s) facts)) ↔ ((other : Site) → Contains facts (may_hold h other) → other ≡ s)
alone facts h s = (
  λ none other there. one_site s other h (none_passes (is_other_hold h s) facts (may_hold h other) (not-true (list_any (is_other_hold h s) facts) none) there),
  λ only. by only (list_any (is_other_hold h s) facts) refl,
)
  where
    by : ((other : Site) → Contains facts (may_hold h other) → other ≡ s) → (b : Bool) → list_any (is_other_hold h s) facts ≡ b → not (list_any (is_other_hold h s) facts) ≡ true
    by only true any =
        let found = one_passes (is_other_hold h s) facts any in
        let is = other_hold_is h s found.0 found.2 in
        let same : is.other ≡ s = only is.other (subst (λ (x : Fact). Contains facts x) (sym is.is) found.1) in
        absurd (false≢true (sym is.apart ∙ ap (same_site s) same ∙ is_site s))
    by only false none = not_from_false (list_any (is_other_hold h s) facts) none

-- ---- a method and a field

write_is : (m : MethodNo) (f : FieldNo) (x : Fact) → is_write m f x ≡ true → may_write m f ≡ x
write_is m f (may_hold h s) is = absurd (false≢true is)
write_is m f (may_run n) is = absurd (false≢true is)
write_is m f (may_call c n) is = absurd (false≢true is)
write_is m f (may_write n g) is =
    let parts = and_parts (nat_eq m.0 n.0) (same_field f g) is in
    let method = eqb-true m.0 n.0 parts.0 in
    let field = eqb-true f.0 g.0 parts.1 in
    λ i. may_write (record { 0 = method i }) (record { 0 = field i })

pub writes : (facts : List Fact) (m : MethodNo) (f : FieldNo) → IsTrue (list_any (is_write m f) facts) ↔ Contains facts (may_write m f)
writes facts m f = (
  λ any. let found = one_passes (is_write m f) facts any in subst (λ (x : Fact). Contains facts x) (sym (write_is m f found.0 found.2)) found.1,
  λ there. any_passes (is_write m f) facts (may_write m f) there (and_from (nat_eq m.0 m.0) (same_field f f) (eq-eqb m.0 m.0 refl) (eq-eqb f.0 f.0 refl)),
)
