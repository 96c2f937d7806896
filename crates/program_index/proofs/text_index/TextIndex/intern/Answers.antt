use Rattle.std.proofs.Common.{◌≡◌, ℕ, [], ◌∷◌, ◌++◌, length, List, slice_get, arith, ◌∙◌, ap}
use Rattle.std.proofs.lemmas.List.{length-map}
use Rattle.std.specs.Global.{Vec}
use Rattle.list_laws.proofs.Places.{pushed_at}
use Rattle.program_index.specs.OwnedTexts.{owned_texts}
use Rattle.program_index.proofs.TextPlaces.{with_text-old, with_text-new}
use Rattle.program_index.proofs.text_index.TextIndex.intern.Goals as goal

pub returns-in-Some-clause-ok : goal.returns-in-Some-clause-ok
returns-in-Some-clause-ok c = with_text-old _ _ _ c.in-Some.ensures.found

pub returns-clause-stands : goal.returns-clause-stands
returns-clause-stands c =
    let texts = owned_texts c.self.inside.texts.items in
    let text = c.args.text.now in
    let number : c.in_ok-number.number ≡ length texts =
    omega (arith, length-map c.self.inside.texts.items (λ (v : Vec ℕ). v.items), c.in_ok-number.ensures.number, c.len.ensures) in
    ap (λ (all : List (List ℕ)). slice_get all c.in_ok-number.number) c.in_ok-add.ensures.ok
    ∙ ap (λ (n : ℕ). slice_get (texts ++ text ∷ []) n) number
    ∙ pushed_at texts text

pub returns-clause-ok : goal.returns-clause-ok
returns-clause-ok c =
    let text = c.args.text.now in
    c.in_ok-add.ensures.ok ∙ ap (λ (texts : List (List ℕ)). texts ++ text ∷ []) c.self.view_is ∙ with_text-new c.args.self.now text c.in_default.ensures.none
