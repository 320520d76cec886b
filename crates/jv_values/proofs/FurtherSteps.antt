-- The lemmas of the library, for runs of which one goes further.
use Rattle.std.proofs.Common.{◌≡◌, Option}
use Rattle.jv_values.specs.Values.{Value, Shared, Wrong}
use Rattle.jv_values.specs.Doing.{Run, ◌>>=◌, give, stop, found, valued, valuing}
use Rattle.jv_values.specs.Further.{FurtherShared}
use Rattle.jv_values.proofs.Expressions as expressions
use Rattle.jv_values.proofs.Further.{further_tells}

abbrev pub E : {A : Type 0} → Run Shared A → Run Shared A → Type 0
E {A} m n = FurtherShared A A ◌≡◌ m n

pub then_e : {A B : Type 0} {m n : Run Shared A} {f g : A → Run Shared B} → E m n → ((a : A) → E (f a) (g a)) → E (m >>= f) (n >>= g)
then_e h k = expressions.then_same FurtherShared further_tells h k

pub give_e : {A : Type 0} (a : A) → E (give a) (give a)
give_e a = expressions.give_same FurtherShared further_tells a

pub stop_e : {A : Type 0} → E (stop {A = A} Wrong) (stop Wrong)
stop_e = expressions.stop_same FurtherShared further_tells Wrong

pub found_e : {A : Type 0} (o : Option A) → E (found o) (found o)
found_e o = expressions.found_same FurtherShared further_tells o

pub valued_e : {m n : Run Shared (Option Value)} → E m n → E (valued m) (valued n)
valued_e h = expressions.valued_same FurtherShared further_tells h

pub valuing_e : {m n : Run Shared Value} → E m n → E (valuing m) (valuing n)
valuing_e h = expressions.valuing_same FurtherShared further_tells h
