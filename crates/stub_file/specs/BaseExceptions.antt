-- Public contracts rest on this module.
-- The exceptions and errors of the base stubs, each with its superclass and its constructors.
use Rattle.std.specs.Prelude.{codes, List, [], ◌∷◌}
use Rattle.jvm_model.specs.declared.stub.StubClass.{StubClass}
use Rattle.stub_file.specs.BaseRows.{plain, with_message, with_cause, library_class}

abbrev pub base_exceptions : List StubClass
base_exceptions =
    library_class (codes "java/lang/Exception") (codes "java/lang/Throwable") [] with_cause []
    ∷ library_class (codes "java/lang/Error") (codes "java/lang/Throwable") [] with_cause []
    ∷ library_class (codes "java/lang/RuntimeException") (codes "java/lang/Exception") [] with_cause []
    ∷ library_class (codes "java/lang/InterruptedException") (codes "java/lang/Exception") [] with_message []
    ∷ library_class (codes "java/lang/CloneNotSupportedException") (codes "java/lang/Exception") [] with_message []
    ∷ library_class (codes "java/io/IOException") (codes "java/lang/Exception") [] with_cause []
    ∷ library_class (codes "java/io/FileNotFoundException") (codes "java/io/IOException") [] with_message []
    ∷ library_class (codes "java/lang/NullPointerException") (codes "java/lang/RuntimeException") [] with_message []
    ∷ library_class (codes "java/lang/ArithmeticException") (codes "java/lang/RuntimeException") [] with_message []
    ∷ library_class (codes "java/lang/ClassCastException") (codes "java/lang/RuntimeException") [] with_message []
    ∷ library_class (codes "java/lang/ArrayStoreException") (codes "java/lang/RuntimeException") [] with_message []
    ∷ library_class (codes "java/lang/NegativeArraySizeException") (codes "java/lang/RuntimeException") [] with_message []
    ∷ library_class (codes "java/lang/IndexOutOfBoundsException") (codes "java/lang/RuntimeException") [] with_message []
    ∷ library_class (codes "java/lang/IllegalArgumentException") (codes "java/lang/RuntimeException") [] with_cause []
    ∷ library_class (codes "java/lang/IllegalStateException") (codes "java/lang/RuntimeException") [] with_cause []
    ∷ library_class (codes "java/lang/UnsupportedOperationException") (codes "java/lang/RuntimeException") [] with_message []
    ∷ library_class (codes "java/lang/SecurityException") (codes "java/lang/RuntimeException") [] with_message []
    ∷ library_class (codes "java/util/NoSuchElementException") (codes "java/lang/RuntimeException") [] with_message []
    ∷ library_class (codes "java/util/ConcurrentModificationException") (codes "java/lang/RuntimeException") [] with_message []
    ∷ library_class (codes "java/lang/ArrayIndexOutOfBoundsException") (codes "java/lang/IndexOutOfBoundsException") [] with_message []
    ∷ library_class (codes "java/lang/StringIndexOutOfBoundsException") (codes "java/lang/IndexOutOfBoundsException") [] with_message []
    ∷ library_class (codes "java/lang/NumberFormatException") (codes "java/lang/IllegalArgumentException") [] with_message []
    ∷ library_class (codes "java/lang/AssertionError") (codes "java/lang/Error") [] plain []
    ∷ library_class (codes "java/lang/LinkageError") (codes "java/lang/Error") [] with_message []
    ∷ library_class (codes "java/lang/ExceptionInInitializerError") (codes "java/lang/LinkageError") [] with_message []
    ∷ library_class (codes "java/lang/NoClassDefFoundError") (codes "java/lang/LinkageError") [] with_message []
    ∷ []
