use Rattle.std.proofs.Common.{◌≡◌, ◌∙◌, ◌∷◌, ◌++◌, [], ℕ, List, length, sym, ap, subst, arith}
use Rattle.std.specs.Prelude.{slice_set}
use Rattle.chained_lists.specs.declared.links.Head.{Head}
use Rattle.chained_lists.specs.Entries.{entry}
use Rattle.chained_lists.specs.Chained.{AreChained, IsLed, head_at}
use Rattle.chained_lists.proofs.Joining.{joined_chained}
use Rattle.chained_lists.proofs.links.join.Goals as goal

pub returns : goal.returns
returns c = λ es front value first is chained begins.
    let heads = c.args.heads.now.items in
    let links = c.args.links.now.items in
    let new = c.lead.new.links.items in
    let name : c.len-name.result ≡ length links = omega (arith, c.len-name.ensures, c.args.links.now.ok.0) in
    let last : c.head_of-last.result.last ≡ (head_at heads c.args.number).last =
    ap (λ (h : Head). h.last) (c.head_of-last.ensures ∙ ap (λ (hs : List Head). head_at hs c.args.number) c.deref.ensures.value) in
    subst (λ (n : ℕ). AreChained (es ++ entry c.args.number value ∷ []) (slice_set heads c.args.number (record { last = n })) new) (sym name)
    (joined_chained es heads front links c.args.number value first is chained begins c.requires.room new
    (subst (λ (n : ℕ). IsLed links new n (length links)) last (subst (λ (n : ℕ). IsLed links new c.head_of-last.result.last n) name c.lead.ensures)))
