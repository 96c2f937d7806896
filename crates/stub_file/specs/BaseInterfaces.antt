-- Public contracts rest on this module.
-- The interfaces of the base stubs. All their methods are abstract.
use Rattle.std.specs.Prelude.{codes, List, [], ◌∷◌}
use Rattle.jvm_model.specs.declared.stub.StubClass.{StubClass}
use Rattle.stub_file.specs.BaseRows.{library_interface, abstract_method}

abbrev pub base_interfaces : List StubClass
base_interfaces =
    library_interface (codes "java/lang/Cloneable") [] []
    ∷ library_interface (codes "java/lang/Runnable") [] (
    abstract_method (codes "run") (codes "()V")
    ∷ [])
    ∷ library_interface (codes "java/lang/Comparable") [] (
    abstract_method (codes "compareTo") (codes "(Ljava/lang/Object;)I")
    ∷ [])
    ∷ library_interface (codes "java/lang/CharSequence") [] (
    abstract_method (codes "length") (codes "()I")
    ∷ abstract_method (codes "charAt") (codes "(I)C")
    ∷ [])
    ∷ library_interface (codes "java/lang/Iterable") [] (
    abstract_method (codes "iterator") (codes "()Ljava/util/Iterator;")
    ∷ [])
    ∷ library_interface (codes "java/lang/AutoCloseable") [] (
    abstract_method (codes "close") (codes "()V")
    ∷ [])
    ∷ library_interface (codes "java/io/Serializable") [] []
    ∷ library_interface (codes "java/io/Closeable") (codes "java/lang/AutoCloseable" ∷ []) (
    abstract_method (codes "close") (codes "()V")
    ∷ [])
    ∷ library_interface (codes "java/io/Flushable") [] (
    abstract_method (codes "flush") (codes "()V")
    ∷ [])
    ∷ library_interface (codes "java/util/Iterator") [] (
    abstract_method (codes "hasNext") (codes "()Z")
    ∷ abstract_method (codes "next") (codes "()Ljava/lang/Object;")
    ∷ [])
    ∷ library_interface (codes "java/util/Collection") (codes "java/lang/Iterable" ∷ []) (
    abstract_method (codes "size") (codes "()I")
    ∷ abstract_method (codes "isEmpty") (codes "()Z")
    ∷ abstract_method (codes "add") (codes "(Ljava/lang/Object;)Z")
    ∷ [])
    ∷ library_interface (codes "java/util/List") (codes "java/util/Collection" ∷ []) (
    abstract_method (codes "get") (codes "(I)Ljava/lang/Object;")
    ∷ [])
    ∷ []
