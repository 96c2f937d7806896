-- Public contracts rest on this module.
-- The classes of java/lang among the base stubs, but for the exceptions.
use Rattle.std.specs.Prelude.{codes, List, [], ◌∷◌}
use Rattle.jvm_model.specs.declared.stub.StubArgument.TheVariants.{This, Argument}
use Rattle.jvm_model.specs.declared.stub.StubResult.TheVariants.{Primitive, Void, Null, Given, New, Kept}
use Rattle.jvm_model.specs.declared.stub.StubClass.{StubClass}
use Rattle.stub_file.specs.BaseRows.{library_class, abstract_method, method, static_method, held_field}

abbrev pub base_language : List StubClass
base_language =
    library_class (codes "java/lang/Object") [] [] (
    method (codes "<init>") (codes "()V") (Void ∷ []) [] []
    ∷ method (codes "equals") (codes "(Ljava/lang/Object;)Z") (Primitive ∷ []) [] []
    ∷ method (codes "hashCode") (codes "()I") (Primitive ∷ []) [] []
    ∷ abstract_method (codes "toString") (codes "()Ljava/lang/String;")
    ∷ []) []
    ∷ library_class (codes "java/lang/String") (codes "java/lang/Object") (codes "java/lang/CharSequence" ∷ codes "java/lang/Comparable" ∷ codes "java/io/Serializable" ∷ []) (
    method (codes "length") (codes "()I") (Primitive ∷ []) [] []
    ∷ method (codes "isEmpty") (codes "()Z") (Primitive ∷ []) [] []
    ∷ method (codes "hashCode") (codes "()I") (Primitive ∷ []) [] []
    ∷ method (codes "equals") (codes "(Ljava/lang/Object;)Z") (Primitive ∷ []) [] []
    ∷ method (codes "charAt") (codes "(I)C") (Primitive ∷ []) (codes "java/lang/StringIndexOutOfBoundsException" ∷ []) []
    ∷ method (codes "compareTo") (codes "(Ljava/lang/String;)I") (Primitive ∷ []) (codes "java/lang/NullPointerException" ∷ []) []
    ∷ method (codes "toString") (codes "()Ljava/lang/String;") (Given This ∷ []) [] []
    ∷ method (codes "substring") (codes "(I)Ljava/lang/String;") (Given This ∷ New (codes "java/lang/String") ∷ []) (codes "java/lang/StringIndexOutOfBoundsException" ∷ []) []
    ∷ method (codes "substring") (codes "(II)Ljava/lang/String;") (Given This ∷ New (codes "java/lang/String") ∷ []) (codes "java/lang/StringIndexOutOfBoundsException" ∷ []) []
    ∷ static_method (codes "valueOf") (codes "(C)Ljava/lang/String;") (New (codes "java/lang/String") ∷ []) [] []
    ∷ []) []
    ∷ library_class (codes "java/lang/StringBuilder") (codes "java/lang/Object") (codes "java/lang/CharSequence" ∷ codes "java/io/Serializable" ∷ []) (
    method (codes "<init>") (codes "()V") (Void ∷ []) [] []
    ∷ method (codes "<init>") (codes "(Ljava/lang/String;)V") (Void ∷ []) (codes "java/lang/NullPointerException" ∷ []) []
    ∷ method (codes "append") (codes "(Ljava/lang/String;)Ljava/lang/StringBuilder;") (Given This ∷ []) [] []
    ∷ method (codes "append") (codes "(I)Ljava/lang/StringBuilder;") (Given This ∷ []) [] []
    ∷ method (codes "append") (codes "(J)Ljava/lang/StringBuilder;") (Given This ∷ []) [] []
    ∷ method (codes "append") (codes "(C)Ljava/lang/StringBuilder;") (Given This ∷ []) [] []
    ∷ method (codes "append") (codes "(Z)Ljava/lang/StringBuilder;") (Given This ∷ []) [] []
    ∷ method (codes "append") (codes "(F)Ljava/lang/StringBuilder;") (Given This ∷ []) [] []
    ∷ method (codes "append") (codes "(D)Ljava/lang/StringBuilder;") (Given This ∷ []) [] []
    ∷ method (codes "length") (codes "()I") (Primitive ∷ []) [] []
    ∷ method (codes "charAt") (codes "(I)C") (Primitive ∷ []) (codes "java/lang/StringIndexOutOfBoundsException" ∷ []) []
    ∷ method (codes "toString") (codes "()Ljava/lang/String;") (New (codes "java/lang/String") ∷ []) [] []
    ∷ []) []
    ∷ library_class (codes "java/lang/Class") (codes "java/lang/Object") (codes "java/io/Serializable" ∷ []) (
    method (codes "desiredAssertionStatus") (codes "()Z") (Primitive ∷ []) [] []
    ∷ []) []
    ∷ library_class (codes "java/lang/Enum") (codes "java/lang/Object") (codes "java/lang/Comparable" ∷ codes "java/io/Serializable" ∷ []) (
    method (codes "<init>") (codes "(Ljava/lang/String;I)V") (Void ∷ []) [] (Argument 1 ∷ [])
    ∷ method (codes "name") (codes "()Ljava/lang/String;") (Kept ∷ Null ∷ []) [] []
    ∷ method (codes "toString") (codes "()Ljava/lang/String;") (Kept ∷ Null ∷ []) [] []
    ∷ method (codes "ordinal") (codes "()I") (Primitive ∷ []) [] []
    ∷ []) []
    ∷ library_class (codes "java/lang/System") (codes "java/lang/Object") [] (
    static_method (codes "currentTimeMillis") (codes "()J") (Primitive ∷ []) [] []
    ∷ static_method (codes "nanoTime") (codes "()J") (Primitive ∷ []) [] []
    ∷ static_method (codes "exit") (codes "(I)V") (Void ∷ []) (codes "java/lang/SecurityException" ∷ []) []
    ∷ []) (held_field (codes "out") (codes "Ljava/io/PrintStream;") (codes "java/io/PrintStream") ∷ held_field (codes "err") (codes "Ljava/io/PrintStream;") (codes "java/io/PrintStream") ∷ [])
    ∷ library_class (codes "java/lang/Thread") (codes "java/lang/Object") (codes "java/lang/Runnable" ∷ []) [] []
    ∷ []
