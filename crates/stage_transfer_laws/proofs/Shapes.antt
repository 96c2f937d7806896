-- What an operation is, as far as the ways of paths go: so one equation says what it is not.
use Rattle.op_model.specs.declared.op.Op.{Op}
use Rattle.op_model.specs.declared.op.Op.TheVariants.{Assign, Load, Store, StoreElement, LoadStatic, StoreStatic, New}

-- It copies roots; follows a field; puts an object into an array; makes one; or does none of these.
pub data Shape : Type 0 where
  copies_roots : Shape
  follows_field : Shape
  puts_object : Shape
  makes_object : Shape
  writes_slots : Shape

abbrev pub shape : Op → Shape
shape (Assign moves) = copies_roots
shape (LoadStatic field target) = copies_roots
shape (StoreStatic field value) = copies_roots
shape (Load object field target) = follows_field
shape (Store object field value) = follows_field
shape (StoreElement array value) = puts_object
shape (New site target) = makes_object
shape op = writes_slots
