-- What expressions say, for the functions that look at them.
use Rattle.std.proofs.lemmas.Grind.{common_steps}
use Rattle.jv_tree.proofs.ViewLaws.{views}
use Rattle.jv_tree.specs.Source.{Expr, Int, Truth, Text, Null, This, Variable, Member, Neg, Not, Binary, Call, MethodCall, New}
use Rattle.std.proofs.Common.{◌≡◌, refl}
use Rattle.mg_text.specs.Call.{Name}
use Rattle.mg_text.specs.declared.place.Place.{Place}
use Rattle.jv_rules.specs.Scope.{is_variable}
use Rattle.jv_types.specs.inner.Judging.{is_this}

-- a member is a variable behind `this`
pub member_is : (p : Place) (e : Expr) (n : Name) → is_this e ≡ is_variable (Member p e n)
member_is p (Int q z) n = refl
member_is p (Truth q b) n = refl
member_is p (Text q t) n = refl
member_is p (Null q) n = refl
member_is p (This q) n = refl
member_is p (Variable q x) n = refl
member_is p (Member q e m) n = refl
member_is p (Neg q e) n = refl
member_is p (Not q e) n = refl
member_is p (Binary q o l r) n = refl
member_is p (Call q m args) n = refl
member_is p (MethodCall q e m args) n = refl
member_is p (New q m) n = refl

pub ruleset seen = (common_steps, views, member_is)
