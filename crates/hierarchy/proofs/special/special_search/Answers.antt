use Rattle.std.specs.Prelude.{◌≡◌, ℕ, List, Option, Some, None, IfSome}
use Rattle.jvm_model.specs.Lookups.{Signature, lent_signature}
use Rattle.jvm_model.specs.Programs.{Program}
use Rattle.jvm_model.specs.Selection.{SelectsSpecial, StartsSearch}
use Rattle.jvm_model.specs.declared.number.MethodNo.{MethodNo}
use Rattle.program_model.specs.Numbers.{name_at, IsMethodNumber}
use Rattle.hierarchy.specs.Searches.{Finds, SelectsInstance}
use Rattle.hierarchy.proofs.Resolving.{instance_within, special_from, special_instance}
use Rattle.hierarchy.proofs.special.special_search.Goals as goal

finds_special : (p : Program) (current named : List ℕ) (s t : Signature) (start : List ℕ) (r : Option MethodNo) → t ≡ s
    → StartsSearch p current (record { class = named; signature = s }) start → Finds (SelectsInstance p start s) r
    → Finds (SelectsSpecial p current (record { class = named; signature = t })) r
finds_special p current named s t start (Some m) same starts selects = special_from p current named s t start m.0 same starts selects
finds_special p current named s t start None same starts none = λ target selects. none target (special_instance p current named s t start target same starts selects)

within : (p : Program) (s : Signature) (start : List ℕ) (r : Option MethodNo) → Finds (SelectsInstance p start s) r → IfSome r (λ m. IsMethodNumber p m.0)
within p s start (Some m) selects = instance_within p start s m.0 selects
within p s start None none = tt

pub returns-clause-search : goal.returns-clause-search
returns-clause-search c = λ m stands.
    let p = c.args.program.now in
    finds_special p (name_at p c.args.current.0) (name_at p c.args.named.0) (lent_signature c.signature_of-signature.result) m.signature (name_at p c.search_start-start.result.0)
    c.selected_from.result (c.signature_of-signature.ensures m stands) c.search_start-start.ensures.start c.selected_from.ensures

pub returns-clause-below : goal.returns-clause-below
returns-clause-below c =
    let p = c.args.program.now in
    within p (lent_signature c.signature_of-signature.result) (name_at p c.search_start-start.result.0) c.selected_from.result c.selected_from.ensures
