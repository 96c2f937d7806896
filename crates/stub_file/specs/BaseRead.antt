-- Public contracts rest on this module.
-- What a row of the program's own table of base stubs says.
use Rattle.std.specs.Prelude.{codes, ℕ, true, false, List, map, Some}
use Rattle.std.specs.Borrow.{Bor}
use Rattle.jvm_model.specs.declared.stub.StubArgument.TheVariants.{This}
use Rattle.jvm_model.specs.declared.stub.StubResult.{StubResult}
use Rattle.jvm_model.specs.declared.stub.StubResult.TheVariants.{Primitive, Void, Null, Given, New, Kept}
use Rattle.jvm_model.specs.declared.stub.StubMethod.{StubMethod}
use Rattle.jvm_model.specs.declared.stub.StubField.{StubField}
use Rattle.jvm_model.specs.declared.stub.StubClass.{StubClass}
use Rattle.stub_file.specs.declared.base_row.BaseClass.{BaseClass}
use Rattle.stub_file.specs.declared.base_row.BaseField.{BaseField}
use Rattle.stub_file.specs.declared.base_row.BaseMethod.{BaseMethod}
use Rattle.stub_file.specs.declared.base_row.BaseResult.{BaseResult}
use Rattle.stub_file.specs.declared.base_row.BaseResult.TheVariants as Base

abbrev pub base_text : Bor (List ℕ) → List ℕ
base_text text = text.now

abbrev pub base_result : BaseResult → StubResult
base_result Base.Primitive = Primitive
base_result Base.Void = Void
base_result Base.Null = Null
base_result Base.This = Given This
base_result (Base.New name) = New name.now
base_result Base.Kept = Kept

abbrev pub base_method : BaseMethod → StubMethod
base_method m =
    record {
      name = m.name.now;
      descriptor = m.descriptor.now;
      is_static = m.is_static;
      is_abstract = m.is_abstract;
      returns = map base_result m.returns.now;
      throws = map base_text m.throws.now;
      keeps = m.keeps.now;
    }

abbrev pub base_field : BaseField → StubField
base_field f = record { name = f.name.now; descriptor = f.descriptor.now; is_static = true; holds = Some f.holds.now }

abbrev pub base_class : BaseClass → StubClass
base_class c =
    record {
      file = codes "-";
      name = c.name.now;
      super_class = c.super_class.now;
      interfaces = map base_text c.interfaces.now;
      is_interface = c.is_interface;
      is_patch = false;
      methods = map base_method c.methods.now;
      fields = map base_field c.fields.now;
    }
