-- Public contracts rest on this module.
-- The list of java/util among the base stubs, and java/lang/Throwable.
use Rattle.std.specs.Prelude.{codes, List, [], ◌∷◌}
use Rattle.jvm_model.specs.declared.stub.StubArgument.TheVariants.{Argument}
use Rattle.jvm_model.specs.declared.stub.StubResult.TheVariants.{Primitive, Void, Null, New, Kept}
use Rattle.jvm_model.specs.declared.stub.StubClass.{StubClass}
use Rattle.stub_file.specs.BaseRows.{library_class, abstract_method, method}

abbrev pub base_lists : List StubClass
base_lists =
    library_class (codes "java/util/ArrayList") (codes "java/lang/Object") (codes "java/util/List" ∷ codes "java/io/Serializable" ∷ codes "java/lang/Cloneable" ∷ []) (
    method (codes "<init>") (codes "()V") (Void ∷ []) [] []
    ∷ method (codes "add") (codes "(Ljava/lang/Object;)Z") (Primitive ∷ []) [] (Argument 1 ∷ [])
    ∷ method (codes "get") (codes "(I)Ljava/lang/Object;") (Kept ∷ Null ∷ []) (codes "java/lang/IndexOutOfBoundsException" ∷ []) []
    ∷ method (codes "size") (codes "()I") (Primitive ∷ []) [] []
    ∷ method (codes "isEmpty") (codes "()Z") (Primitive ∷ []) [] []
    ∷ method (codes "iterator") (codes "()Ljava/util/Iterator;") (New (codes "java/util/ArrayList$Itr") ∷ []) [] []
    ∷ abstract_method (codes "equals") (codes "(Ljava/lang/Object;)Z")
    ∷ abstract_method (codes "hashCode") (codes "()I")
    ∷ []) []
    ∷ library_class (codes "java/util/ArrayList$Itr") (codes "java/lang/Object") (codes "java/util/Iterator" ∷ []) (
    method (codes "hasNext") (codes "()Z") (Primitive ∷ []) [] []
    ∷ method (codes "next") (codes "()Ljava/lang/Object;") (Kept ∷ Null ∷ []) (codes "java/util/NoSuchElementException" ∷ codes "java/util/ConcurrentModificationException" ∷ []) []
    ∷ []) []
    ∷ library_class (codes "java/lang/Throwable") (codes "java/lang/Object") (codes "java/io/Serializable" ∷ []) (
    method (codes "<init>") (codes "()V") (Void ∷ []) [] []
    ∷ method (codes "<init>") (codes "(Ljava/lang/String;)V") (Void ∷ []) [] (Argument 1 ∷ [])
    ∷ method (codes "<init>") (codes "(Ljava/lang/String;Ljava/lang/Throwable;)V") (Void ∷ []) [] (Argument 1 ∷ Argument 2 ∷ [])
    ∷ method (codes "getCause") (codes "()Ljava/lang/Throwable;") (Kept ∷ Null ∷ []) [] []
    ∷ method (codes "addSuppressed") (codes "(Ljava/lang/Throwable;)V") (Void ∷ []) (codes "java/lang/IllegalArgumentException" ∷ codes "java/lang/NullPointerException" ∷ []) (Argument 1 ∷ [])
    ∷ []) []
    ∷ []
