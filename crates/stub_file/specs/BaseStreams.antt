-- Public contracts rest on this module.
-- The streams of java/io among the base stubs.
use Rattle.std.specs.Prelude.{codes, List, [], ◌∷◌}
use Rattle.jvm_model.specs.declared.stub.StubResult.TheVariants.{Primitive, Void}
use Rattle.jvm_model.specs.declared.stub.StubClass.{StubClass}
use Rattle.stub_file.specs.BaseRows.{library_class, abstract_method, method}

abbrev pub base_streams : List StubClass
base_streams =
    library_class (codes "java/io/InputStream") (codes "java/lang/Object") (codes "java/io/Closeable" ∷ []) (
    method (codes "<init>") (codes "()V") (Void ∷ []) [] []
    ∷ method (codes "close") (codes "()V") (Void ∷ []) [] []
    ∷ abstract_method (codes "read") (codes "()I")
    ∷ abstract_method (codes "read") (codes "([B)I")
    ∷ []) []
    ∷ library_class (codes "java/io/FileInputStream") (codes "java/io/InputStream") [] (
    method (codes "<init>") (codes "(Ljava/lang/String;)V") (Void ∷ []) (codes "java/io/FileNotFoundException" ∷ codes "java/lang/NullPointerException" ∷ codes "java/lang/SecurityException" ∷ []) []
    ∷ method (codes "read") (codes "()I") (Primitive ∷ []) (codes "java/io/IOException" ∷ []) []
    ∷ method (codes "available") (codes "()I") (Primitive ∷ []) (codes "java/io/IOException" ∷ []) []
    ∷ method (codes "read") (codes "([B)I") (Primitive ∷ []) (codes "java/io/IOException" ∷ codes "java/lang/NullPointerException" ∷ []) []
    ∷ method (codes "close") (codes "()V") (Void ∷ []) (codes "java/io/IOException" ∷ []) []
    ∷ []) []
    ∷ library_class (codes "java/io/OutputStream") (codes "java/lang/Object") (codes "java/io/Closeable" ∷ codes "java/io/Flushable" ∷ []) (
    method (codes "<init>") (codes "()V") (Void ∷ []) [] []
    ∷ method (codes "flush") (codes "()V") (Void ∷ []) [] []
    ∷ method (codes "close") (codes "()V") (Void ∷ []) [] []
    ∷ abstract_method (codes "write") (codes "(I)V")
    ∷ abstract_method (codes "write") (codes "([B)V")
    ∷ []) []
    ∷ library_class (codes "java/io/FileOutputStream") (codes "java/io/OutputStream") [] (
    method (codes "<init>") (codes "(Ljava/lang/String;)V") (Void ∷ []) (codes "java/io/FileNotFoundException" ∷ codes "java/lang/NullPointerException" ∷ codes "java/lang/SecurityException" ∷ []) []
    ∷ method (codes "write") (codes "(I)V") (Void ∷ []) (codes "java/io/IOException" ∷ []) []
    ∷ method (codes "close") (codes "()V") (Void ∷ []) (codes "java/io/IOException" ∷ []) []
    ∷ method (codes "write") (codes "([B)V") (Void ∷ []) (codes "java/io/IOException" ∷ codes "java/lang/NullPointerException" ∷ []) []
    ∷ []) []
    ∷ library_class (codes "java/io/FilterOutputStream") (codes "java/io/OutputStream") [] [] []
    ∷ library_class (codes "java/io/PrintStream") (codes "java/io/FilterOutputStream") [] (
    method (codes "println") (codes "()V") (Void ∷ []) [] []
    ∷ method (codes "println") (codes "(Ljava/lang/String;)V") (Void ∷ []) [] []
    ∷ method (codes "println") (codes "(I)V") (Void ∷ []) [] []
    ∷ method (codes "println") (codes "(J)V") (Void ∷ []) [] []
    ∷ method (codes "println") (codes "(C)V") (Void ∷ []) [] []
    ∷ method (codes "println") (codes "(Z)V") (Void ∷ []) [] []
    ∷ method (codes "println") (codes "(F)V") (Void ∷ []) [] []
    ∷ method (codes "println") (codes "(D)V") (Void ∷ []) [] []
    ∷ method (codes "print") (codes "(Ljava/lang/String;)V") (Void ∷ []) [] []
    ∷ method (codes "print") (codes "(I)V") (Void ∷ []) [] []
    ∷ method (codes "print") (codes "(J)V") (Void ∷ []) [] []
    ∷ method (codes "print") (codes "(C)V") (Void ∷ []) [] []
    ∷ method (codes "print") (codes "(Z)V") (Void ∷ []) [] []
    ∷ method (codes "print") (codes "(F)V") (Void ∷ []) [] []
    ∷ method (codes "print") (codes "(D)V") (Void ∷ []) [] []
    ∷ []) []
    ∷ []
