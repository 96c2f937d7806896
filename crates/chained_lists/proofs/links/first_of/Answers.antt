use Rattle.std.proofs.Common.{◌≡◌, ◌∙◌, ◌-◌, ◌<◌, suc, Some, get_or, length, sym, ap, arith}
use Rattle.std.proofs.lemmas.Option.{get_or_from_slice_get}
use Rattle.list_laws.proofs.Places.{stands_below}
use Rattle.chained_lists.specs.declared.links.Head.{Head}
use Rattle.chained_lists.specs.declared.links.Link.{Link}
use Rattle.chained_lists.specs.Chained.{head_at}
use Rattle.chained_lists.proofs.Joining.{first_named, no_first}
use Rattle.chained_lists.proofs.links.first_of.Goals as goal

pub returns-then-last-eq0 : goal.returns-then-last-eq0
returns-then-last-eq0 c = λ es chained.
    no_first es c.args.heads.now c.args.links.now chained c.args.number (ap (λ (h : Head). h.last) (sym c.head_of-last.ensures) ∙ c.if-last-eq0.true)

pub returns : goal.returns
returns c = λ es chained.
    let links = c.args.links.now in
    let last : (head_at c.args.heads.now c.args.number).last ≡ c.head_of-last.result.last = ap (λ (h : Head). h.last) (sym c.head_of-last.ensures) in
    let place = c.head_of-last.result.last - 1 in
    let ends : (head_at c.args.heads.now c.args.number).last ≡ suc place = omega (arith, last, c.if-last-eq0.false) in
    let within : place < length links = omega (arith, ends, c.requires) in
    let none : Link = record { value = 0; next = 0 } in
    let stands = stands_below links place within in
    first_named es c.args.heads.now links chained c.args.number place (get_or links place none) ends
    (stands.1 ∙ ap Some (sym (get_or_from_slice_get links place stands.0 none stands.1)))
