-- The two parts of a class, which its table spells if it spells the class.
use Rattle.std.proofs.Common.{ℕ, List}
use Rattle.toml.specs.Data.{Members}
use Rattle.jvm_model.specs.declared.stub.StubClass.{StubClass}
use Rattle.stub_file.specs.declared.class_table.ClassHead.{ClassHead}
use Rattle.stub_file.specs.declared.class_table.ClassLists.{ClassLists}
use Rattle.stub_file.specs.ClassParts.{SpellsClassHead, SpellsClassLists}
use Rattle.stub_file.specs.StubSpelling.{SpellsClass}

abbrev pub head_of : StubClass → ClassHead
head_of class = record { name = class.name; is_interface = class.is_interface; is_patch = class.is_patch; super_class = class.super_class }

abbrev pub lists_of : StubClass → ClassLists
lists_of class = record { interfaces = class.interfaces; methods = class.methods; fields = class.fields }

pub head_spelled : (file : List ℕ) (ms : Members) (class : StubClass) → SpellsClass file ms class → SpellsClassHead ms (head_of class)
head_spelled file ms class s = record { name = s.name; is_interface = s.is_interface; is_patch = s.is_patch; super_class = s.super_class }

pub lists_spelled : (file : List ℕ) (ms : Members) (class : StubClass) → SpellsClass file ms class → SpellsClassLists ms (lists_of class)
lists_spelled file ms class s = record { interfaces = s.interfaces; methods = s.methods; fields = s.fields }
