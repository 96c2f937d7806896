use Rattle.std.proofs.Common.{List, ◌++◌, sym, ◌∙◌, ap, subst}
use Rattle.access_paths.specs.declared.root.Root.TheVariants.{Slot}
use Rattle.access_paths.specs.Paths.{Path}
use Rattle.stage_transfer.specs.Changes.{begins_at}
use Rattle.stage_transfer.specs.Operations.{loaded_fields}
use Rattle.stage_views.specs.Views.{Gathers}
use Rattle.stage_flow.specs.declared.gain.Gain.{Gain}
use Rattle.stage_flow.specs.Shapes.{adds_of}
use Rattle.stage_flow.proofs.Lists.{copied_each, flat_filtered, moves_copied}
use Rattle.stage_flow.proofs.gain.Gain.gather.Goals as goal

pub returns-in-Copy : goal.returns-in-Copy
returns-in-Copy c paths gathers =
    let set = c.args.set.now in
    let e = copied_each c.in-Copy.from c.in-Copy.to set in
    subst (λ (ps : List Path). Gathers c.copy.new.all (paths ++ ps)) (sym e ∙ sym (ap (λ (g : Gain). adds_of g set) c.in-Copy.is)) (c.copy.ensures paths gathers)

pub returns-in-Hand : goal.returns-in-Hand
returns-in-Hand c paths gathers =
    let set = c.args.set.now in
    let e = copied_each c.in-Hand.from (Slot c.in-Hand.target) set in
    subst (λ (ps : List Path). Gathers c.copy-in-Hand.new.all (paths ++ ps)) (sym e ∙ sym (ap (λ (g : Gain). adds_of g set) c.in-Hand.is))
    (c.copy-in-Hand.ensures paths gathers)

pub returns-in-Moves : goal.returns-in-Moves
returns-in-Moves c paths gathers =
    let set = c.args.set.now in
    let e = moves_copied set c.in-Moves.moves.now in
    subst (λ (ps : List Path). Gathers c.copy_each.new.all (paths ++ ps)) (sym e ∙ sym (ap (λ (g : Gain). adds_of g set) c.in-Moves.is))
    (c.copy_each.ensures paths gathers)

pub returns-in-Load : goal.returns-in-Load
returns-in-Load c paths gathers =
    let set = c.args.set.now in
    let e = flat_filtered (λ (x : Path). loaded_fields c.in-Load.field c.in-Load.target x.fields) (begins_at (Slot c.in-Load.object)) set in
    subst (λ (ps : List Path). Gathers c.load.new.all (paths ++ ps)) (sym e ∙ sym (ap (λ (g : Gain). adds_of g set) c.in-Load.is))
    (c.load.ensures paths gathers)
