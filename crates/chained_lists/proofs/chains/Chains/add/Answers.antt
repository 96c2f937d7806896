use Rattle.std.proofs.Common.{◌≡◌, ◌∙◌, ◌+◌, ◌≤◌, ◌∷◌, ◌++◌, [], ℕ, List, length, Result, Ok, Err, refl, sym, ap, subst, arith}
use Rattle.std.specs.Prelude.{OnErr}
use Rattle.std.proofs.lemmas.List.{length-append}
use Rattle.chained_lists.specs.declared.links.Head.{Head}
use Rattle.chained_lists.specs.declared.links.Link.{Link}
use Rattle.chained_lists.specs.Entries.{Entry, entry}
use Rattle.chained_lists.specs.Chained.{AreChained, IsNamed, entries_of, head_at, new_link}
use Rattle.chained_lists.proofs.Entered.{chained_of, entries_are}
use Rattle.chained_lists.proofs.Joining.{last_within, same_heads}
use Rattle.chained_lists.proofs.chains.Chains.add.Goals as goal

-- on an error
on_err : {T E : Type 0} (r : Result T E) (P : Type 0) → P → OnErr r P
on_err (Ok x) P p = tt
on_err (Err e) P p = p

-- heads alone are more
grown : (es : List Entry) (old new : List Head) (links same : List Link) → AreChained es old links → ((q : ℕ) → head_at new q ≡ head_at old q) → same ≡ links → AreChained es new same
grown es old new links same is heads is_same = subst (AreChained es new) (sym is_same) (same_heads es old new links heads is)

-- the name of the first value, of heads and links that were lent
begins : (es : List Entry) (number value : ℕ) (heads lent_heads : List Head) (links lent_links : List Link) (first : ℕ) → lent_heads ≡ heads → lent_links ≡ links
    → ((es : List Entry) (value : ℕ) → AreChained es lent_heads lent_links → IsNamed (es ++ entry number value ∷ []) number 0 first)
    → AreChained es heads links → IsNamed (es ++ entry number value ∷ []) number 0 first
begins es number value heads lent_heads links lent_links first same_heads same_links first_is chained =
    first_is es value (subst (λ (hs : List Head). AreChained es hs lent_links) (sym same_heads) (subst (AreChained es heads) (sym same_links) chained))

pub invariant_of-self : goal.invariant_of-self
invariant_of-self c =
    let heads = c.self.inside.heads.items in
    let links = c.self.inside.links.items in
    chained_of (entries_of heads links) c.grow.new.heads.items links (grown (entries_of heads links) heads c.grow.new.heads.items links links c.self.invariant c.grow.ensures.same refl)

pub returns-in_err-grow-clause-same : goal.returns-in_err-grow-clause-same
returns-in_err-grow-clause-same c =
    let heads = c.self.inside.heads.items in
    let links = c.self.inside.links.items in
    on_err c.from_residual.result _
    (entries_are (entries_of heads links) c.grow.new.heads.items links (grown (entries_of heads links) heads c.grow.new.heads.items links links c.self.invariant c.grow.ensures.same refl)
    ∙ c.self.view_is)

pub invariant_of-self-in_err-push : goal.invariant_of-self-in_err-push
invariant_of-self-in_err-push c =
    let heads = c.self.inside.heads.items in
    let links = c.self.inside.links.items in
    chained_of (entries_of heads links) c.grow.new.heads.items c.push.new.self.items
    (grown (entries_of heads links) heads c.grow.new.heads.items links c.push.new.self.items c.self.invariant c.grow.ensures.same c.in_err-push.ensures.items)

pub returns-in_err-push-clause-same : goal.returns-in_err-push-clause-same
returns-in_err-push-clause-same c =
    let heads = c.self.inside.heads.items in
    let links = c.self.inside.links.items in
    on_err c.from_residual-in_err-push.result _
    (entries_are (entries_of heads links) c.grow.new.heads.items c.push.new.self.items
    (grown (entries_of heads links) heads c.grow.new.heads.items links c.push.new.self.items c.self.invariant c.grow.ensures.same c.in_err-push.ensures.items) ∙ c.self.view_is)

pub first_with_one-next-requires-clause-last : goal.first_with_one-next-requires-clause-last
first_with_one-next-requires-clause-last c =
    let heads = c.self.inside.heads.items in
    let links = c.self.inside.links.items in
    let within : (head_at heads c.args.number).last ≤ length (entries_of heads links) = last_within (entries_of heads links) c.args.number (head_at heads c.args.number).last (c.self.invariant.lasts c.args.number) in
    let same : (head_at c.deref.result.now c.args.number).last ≡ (head_at heads c.args.number).last =
    ap (λ (hs : List Head). (head_at hs c.args.number).last) c.deref.ensures.value ∙ ap (λ (h : Head). h.last) (c.grow.ensures.same c.args.number) in
    let count : length c.deref-2.result.now ≡ length links = ap (λ (ls : List Link). length ls) c.deref-2.ensures.value in
    omega (arith, within, same, count, c.self.invariant.count)

pub join-requires-clause-last : goal.join-requires-clause-last
join-requires-clause-last c =
    let heads = c.self.inside.heads.items in
    let links = c.self.inside.links.items in
    let long : length c.push.new.self.items ≡ length links + 1 = ap (λ (ls : List Link). length ls) c.in_ok-push.ensures.items ∙ length-append links (new_link c.args.value c.first_with_one-next.result ∷ []) in
    let within : (head_at heads c.args.number).last ≤ length (entries_of heads links) = last_within (entries_of heads links) c.args.number (head_at heads c.args.number).last (c.self.invariant.lasts c.args.number) in
    let same : (head_at c.grow.new.heads.items c.args.number).last ≡ (head_at heads c.args.number).last = ap (λ (h : Head). h.last) (c.grow.ensures.same c.args.number) in
    omega (arith, long, within, same, c.self.invariant.count)

pub invariant_of-self-2 : goal.invariant_of-self-2
invariant_of-self-2 c =
    let heads = c.self.inside.heads.items in
    let links = c.self.inside.links.items in
    let es = entries_of heads links in
    chained_of (es ++ entry c.args.number c.args.value ∷ []) c.join.new.heads.items c.join.new.links.items
    (c.join.ensures es links c.args.value c.first_with_one-next.result c.in_ok-push.ensures.items
    (same_heads es heads c.grow.new.heads.items links c.grow.ensures.same c.self.invariant)
    (begins es c.args.number c.args.value c.grow.new.heads.items c.deref.result.now links c.deref-2.result.now c.first_with_one-next.result c.deref.ensures.value c.deref-2.ensures.value
    c.first_with_one-next.ensures (same_heads es heads c.grow.new.heads.items links c.grow.ensures.same c.self.invariant)))

pub returns-clause-added : goal.returns-clause-added
returns-clause-added c =
    let heads = c.self.inside.heads.items in
    let links = c.self.inside.links.items in
    let es = entries_of heads links in
    let more = entries_are (es ++ entry c.args.number c.args.value ∷ []) c.join.new.heads.items c.join.new.links.items
    (c.join.ensures es links c.args.value c.first_with_one-next.result c.in_ok-push.ensures.items
    (same_heads es heads c.grow.new.heads.items links c.grow.ensures.same c.self.invariant)
    (begins es c.args.number c.args.value c.grow.new.heads.items c.deref.result.now links c.deref-2.result.now c.first_with_one-next.result c.deref.ensures.value c.deref-2.ensures.value
    c.first_with_one-next.ensures (same_heads es heads c.grow.new.heads.items links c.grow.ensures.same c.self.invariant))) in
    more ∙ ap (λ (xs : List Entry). xs ++ entry c.args.number c.args.value ∷ []) c.self.view_is
