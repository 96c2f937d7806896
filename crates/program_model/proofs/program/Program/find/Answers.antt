use Rattle.std.proofs.Common.{◌≡◌, ℕ, List, Some, ap, ◌∙◌, subst}
use Rattle.std.specs.List.{slice_get}
use Rattle.program_index.specs.FirstPlaces.{StandsNowhere}
use Rattle.program_model.proofs.Accessing.{named_in, stands_in}
use Rattle.program_model.proofs.program.Program.find.Goals as goal

pub returns-in-Some-clause-found : goal.returns-in-Some-clause-found
returns-in-Some-clause-found c =
    let stands = subst (λ (ns : List (List ℕ)). slice_get ns c.in-Some.number ≡ Some c.args.name.now) c.deref.ensures.value c.in-Some.ensures.found in
    named_in c.self.inside c.self.invariant c.args.self.now c.self.view_is c.in-Some.number c.args.name.now stands

pub returns-in-None-clause-none : goal.returns-in-None-clause-none
returns-in-None-clause-none c = λ n below named.
    let none = subst (λ (ns : List (List ℕ)). StandsNowhere ns c.args.name.now) c.deref.ensures.value c.in-None.ensures.none in
    none.nowhere n (stands_in c.self.inside c.self.invariant c.args.self.now c.self.view_is n below ∙ ap Some named)
