-- What a handler takes, by the number of its class.
use Rattle.std.proofs.Common.{◌≡◌, ◌↔◌, ℕ, false, ◌<◌, List, Some, length, sym, ap, ◌∙◌, subst}
use Rattle.std.proofs.lemmas.Bool.{false≢true}
use Rattle.std.proofs.lemmas.Option.{none-some, same_Some}
use Rattle.jvm_model.specs.declared.number.ClassNo.{ClassNo}
use Rattle.jvm_model.specs.LinkedPrograms.{IsProgram}
use Rattle.jvm_model.specs.Programs.{Class, Program}
use Rattle.jvm_model.specs.Soundness.{is_array}
use Rattle.jvm_model.specs.Subtypes.{Fits, by_class, by_array, by_itself, by_elements, IsSubtype, class_named}
use Rattle.hierarchy.proofs.ClassNames.{class_plain}
use Rattle.op_model.specs.declared.node.NodeHandler.{NodeHandler}
use Rattle.machine_nodes.specs.NodeSteps.{Takes, all, fitting}
use Rattle.program_model.specs.Numbers.{name_at}
use Rattle.hierarchy.proofs.ClassPlaces.{name_at-at, class_there}

-- a handler of a class takes what fits it
pub takes_fitting : (p : Program) (h : NodeHandler) (c : ClassNo) (class : List ℕ) → h.catch ≡ Some c → c.0 < length p.classes → Fits p (name_at p c.0) class → Takes p h class
takes_fitting p h c class caught within fits =
    let (k, stands) = class_there p c.0 within in
    fitting c (name_at p c.0) caught (record { class = k; stands = stands; named = sym (name_at-at p c.0 k stands) }) fits

pub fits_taken : (p : Program) (h : NodeHandler) (c : ClassNo) (class : List ℕ) → h.catch ≡ Some c → Takes p h class → Fits p (name_at p c.0) class
fits_taken p h c class caught (all none) = absurd (none-some c (sym none ∙ caught))
fits_taken p h c class caught (fitting d name is number fits) =
    let same = same_Some d c (sym is ∙ caught) in
    subst (λ (n : List ℕ). Fits p n class) (sym number.named ∙ sym (name_at-at p d.0 number.class number.stands) ∙ ap (λ (e : ClassNo). name_at p e.0) same) fits

-- an object of a class of the program fits just the classes that are its own or above it
pub fits_above : (p : Program) → IsProgram p → (upper lower : List ℕ) (c : Class) → class_named p lower ≡ Some c → IsSubtype p upper lower ↔ Fits p upper lower
fits_above p program upper lower c named = ((λ above. by_class upper lower c named above), (λ fits. by fits))
  where
    plain : is_array lower ≡ false
    plain = class_plain p program lower c named

    by : Fits p upper lower → IsSubtype p upper lower
    by (by_class u l d there above) = above
    by (by_array u l array super) = absurd (false≢true (sym plain ∙ array))
    by (by_itself u l array same) = absurd (false≢true (sym plain ∙ array))
    by (by_elements u l above below u_is l_is fit) = absurd (false≢true (sym plain ∙ ap is_array l_is))
