-- `==` of words holds of just those that are of one site.
use Rattle.std.proofs.Common.{◌≡◌, Bool, true, eqb, ◌&&◌, Option, Some, None, refl, sym, subst}
use Rattle.std.specs.Option.{option_eq}
use Rattle.std.specs.Cmp.Lexicographic.{pointwise, same_text}
use Rattle.std.proofs.lemmas.Bool.{and_parts}
use Rattle.std.proofs.lemmas.Map.Views.{exact_unsigned_eq}
use Rattle.jvm_model.specs.declared.number.MethodNo.{MethodNo}
use Rattle.jvm_model.specs.declared.site.Site.{Site}
use Rattle.jvm_model.specs.declared.site.SiteKind.{SiteKind}
use Rattle.jvm_model.specs.declared.site.SiteKind.TheVariants as kinds
use Rattle.jvm_model.specs.contracts.site.SiteKindPartialEq.TheImpl as kind_block
use Rattle.site_numbers.specs.declared.site_words.SiteWords.{SiteWords}
use Rattle.site_numbers.specs.contracts.site_words.SiteWordsPartialEq.TheImpl as words_block
use Rattle.site_numbers.specs.contracts.site_words.SiteWordsEq.TheImpl.Laws as words_laws
use Rattle.site_numbers.specs.Words.{site_of}
use Rattle.site_numbers.proofs.Viewed.{Sees}

abbrev pub same_words : SiteWords → SiteWords → Bool
same_words = (words_block.ghosts).eq

exact_kinds : (a b : SiteKind) → (kind_block.ghosts).eq a b ≡ true → a ≡ b
exact_kinds kinds.Boot kinds.Boot e = refl
exact_kinds kinds.New kinds.New e = refl
exact_kinds kinds.Result kinds.Result e = refl
exact_kinds kinds.Thrown kinds.Thrown e = refl
exact_kinds _ _ e = cc

abbrev same_maybe : Option MethodNo → Option MethodNo → Bool
same_maybe = option_eq (λ (a b : MethodNo). eqb a.0 b.0)

exact_maybe : (a b : Option MethodNo) → same_maybe a b ≡ true → a ≡ b
exact_maybe None None e = refl
exact_maybe (Some a) (Some b) e = let methods = exact_unsigned_eq a.0 b.0 e in (λ i. Some (record { 0 = methods i }))
exact_maybe _ _ e = cc

-- the test, of the sites
abbrev same_sites : Site → Site → Bool
same_sites s t = (kind_block.ghosts).eq s.kind t.kind && (same_maybe s.method t.method && (eqb s.offset t.offset && pointwise eqb s.class t.class))

exact_sites : (s t : Site) → same_sites s t ≡ true → s ≡ t
exact_sites s t h =
    let first = and_parts ((kind_block.ghosts).eq s.kind t.kind) (same_maybe s.method t.method && (eqb s.offset t.offset && pointwise eqb s.class t.class)) h in
    let second = and_parts (same_maybe s.method t.method) (eqb s.offset t.offset && pointwise eqb s.class t.class) first.1 in
    let third = and_parts (eqb s.offset t.offset) (pointwise eqb s.class t.class) second.1 in
    let kind = exact_kinds s.kind t.kind first.0 in
    let method = exact_maybe s.method t.method second.0 in
    let offset = exact_unsigned_eq s.offset t.offset third.0 in
    let class = same_text s.class t.class (sym third.1) in
    (λ i. record { kind = kind i; method = method i; offset = offset i; class = class i })

pub sees_sites : Sees same_words site_of
sees_sites = record {
  same = λ a b h. exact_sites (site_of a) (site_of b) h;
  equal = λ a b e. let itself : same_sites (site_of a) (site_of a) ≡ true = (words_laws.laws-law).refl a in subst (λ (t : Site). same_sites (site_of a) t ≡ true) e itself;
}
