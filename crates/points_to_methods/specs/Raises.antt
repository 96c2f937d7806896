-- This crate's own proofs alone rest on this module.
-- What a node may throw itself.
use Rattle.std.specs.Prelude.{◌≡◌, ℕ, List}
use Rattle.jvm_model.specs.declared.number.ClassNo.{ClassNo}
use Rattle.jvm_model.specs.declared.site.SiteKind.TheVariants as kinds
use Rattle.jvm_model.specs.Programs.{Program}
use Rattle.machine_nodes.specs.Nodes.{IsClassNumber}
use Rattle.op_model.specs.declared.lowered.LoweredMethod.{LoweredMethod}
use Rattle.op_model.specs.declared.node.Node.{Node}
use Rattle.points_to_constraints.specs.Items.{Item, known}
use Rattle.points_to_rules.specs.Facts.{Holder, may_hold}
use Rattle.points_to_rules.specs.Rules.{Lands, site_of}

-- A new object of the class of the number is held where it lands.
abbrev pub RaisesOf : Program → LoweredMethod → Node → ClassNo → Item → Type 0
RaisesOf p l n number x =
    (class : List ℕ) × (to : Holder) × IsClassNumber p number class × Lands p l.method l n class to × (x ≡ known (may_hold to (site_of kinds.Thrown l.method n class)))
