-- What a call answers, where more than one clause speaks of it.
use Rattle.std.specs.Prelude.{Result, Ok, Err, IfOk}

module _ {T E : Type 0} where
  pub IfOk-two : (r : Result T E) (P Q S : T → Type 0) → ((x : T) → P x → Q x → S x) → IfOk r P → IfOk r Q → IfOk r S
  IfOk-two (Ok x) P Q S f p q = f x p q
  IfOk-two (Err e) P Q S f p q = tt

  pub IfOk-three : (r : Result T E) (P Q R S : T → Type 0) → ((x : T) → P x → Q x → R x → S x) → IfOk r P → IfOk r Q → IfOk r R → IfOk r S
  IfOk-three (Ok x) P Q R S f p q w = f x p q w
  IfOk-three (Err e) P Q R S f p q w = tt
