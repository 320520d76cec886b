-- Objects: their making, their fields, and calls on them.
use Rattle.std.specs.Prelude.{ℕ, [], ◌∷◌, ◌++◌, length, Option, Some, None, ℤ, pos, slice_get, slice_set, if◌then◌else◌}
use Rattle.std.specs.Str.{bytes_eq}
use Rattle.mg_text.specs.Call.{Name}
use Rattle.mg_text.specs.declared.event.Event.TheVariants as seen
use Rattle.jv_values.specs.Values.{Value, Int, Truth, Object, Constant, Wrong, Instance, Shared, find, put}
use Rattle.jv_values.specs.Values as values
use Rattle.jv_values.specs.Doing.{Run, ◌>>=◌, give, stop, note, objects, with_objects, found}

-- the object of a number
abbrev pub object : ℕ → Run Shared Instance
object o = objects >>= λ heap. found (slice_get heap o)

-- the same, where it is one of a class
abbrev pub object_of : (class : Name) → ℕ → Run Shared Instance
object_of c o = object o >>= λ i. if bytes_eq i.class c then give i else stop Wrong

-- a field of the object that code of a class runs on
abbrev pub read_field : (class : Name) → (this : Option ℕ) → (field : Name) → Run Shared Value
read_field c this x = do
  o ← found this
  i ← object_of c o
  found (find bytes_eq x i.fields)

abbrev pub write_field : (class : Name) → (this : Option ℕ) → (field : Name) → Value → Run Shared (Unit {0})
write_field c this x v = do
  o ← found this
  i ← object_of c o
  row ← found (put bytes_eq x v i.fields)
  heap ← objects
  with_objects (slice_set heap o (record i { fields = row }))

-- one more object, which has the next number
abbrev pub make : Instance → Run Shared Value
make i = do
  heap ← objects
  _ ← with_objects (heap ++ i ∷ [])
  _ ← note (seen.Made (length heap) i.class)
  give (Object (length heap))

-- the object that a call is made on
abbrev pub receiver : Value → Run Shared ℕ
receiver (Object o) = give o
receiver values.Null = stop values.Null
receiver _ = stop Wrong

-- what a call that is left tells: an int, a truth value as 0 or 1, or the position of a constant
abbrev pub answer_of : Option Value → Option ℤ
answer_of (Some (Int z)) = Some z
answer_of (Some (Truth b)) = Some (if b then pos 1 else pos 0)
answer_of (Some (Constant e n)) = Some (pos n)
answer_of _ = None

-- a call of a method on an object, which tells where it is entered and where it is left
abbrev pub telling : (object : ℕ) → (method : Name) → Run Shared (Option Value) → Run Shared (Option Value)
telling o m call = do
  _ ← note (seen.Enter o m)
  r ← call
  _ ← note (seen.Leave o (answer_of r))
  give r
