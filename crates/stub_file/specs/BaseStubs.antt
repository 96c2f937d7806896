-- Public contracts rest on this module.
-- The classes that are there without any stub file, as a table: interfaces, classes, and exceptions.
use Rattle.std.specs.Prelude.{List, ◌++◌}
use Rattle.jvm_model.specs.declared.stub.StubClass.{StubClass}
use Rattle.stub_file.specs.BaseExceptions.{base_exceptions}
use Rattle.stub_file.specs.BaseInterfaces.{base_interfaces}
use Rattle.stub_file.specs.BaseLanguage.{base_language}
use Rattle.stub_file.specs.BaseLists.{base_lists}
use Rattle.stub_file.specs.BaseStreams.{base_streams}

abbrev pub base_classes : List StubClass
base_classes = base_interfaces ++ (base_language ++ (base_streams ++ (base_lists ++ base_exceptions)))
