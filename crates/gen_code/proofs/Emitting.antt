-- What a code leaves fits a class file where nothing in it is too large.
use Rattle.std.proofs.Common.{◌≡◌, ◌≤◌, ℕ, Bool, true, false, Option, Some, None, if◌then◌else◌, nat_lt, List, length, refl, sym, ap, ◌∙◌}
use Rattle.std.proofs.Common.{subst, arith}
use Rattle.std.proofs.lemmas.Bool.Decides.{nat_tests}
use Rattle.std.proofs.lemmas.Option.{none-some}
use Rattle.mg_text.specs.Call.{Name}
use Rattle.mg_text.specs.declared.place.Place.{Place}
use Rattle.cls_tree.specs.declared.class.Const.{Const}
use Rattle.cls_tree.specs.Tree as file
use Rattle.jv_core.specs.Tree.{Method, Program}
use Rattle.gen_rules.specs.Classes.{Emits, compiled, code_in_file}
use Rattle.gen_rules.specs.Limits.{Limit, CodeTooLong, TooManyLocals, PoolFull, exceeded_by_code}
use Rattle.gen_rules.proofs.Generates.{only_generated}
use Rattle.gen_members.specs.Parts.{excess_at}
use Rattle.gen_class.specs.First.{IsExcessOfCode}

-- the third test of the limits fails where none is exceeded
third : (a b c : Bool) (last : Option Limit)
    → (if a then Some CodeTooLong else if b then Some TooManyLocals else if c then Some PoolFull else last) ≡ None → c ≡ false
third true b c last e = absurd (none-some CodeTooLong (sym e))
third false true c last e = absurd (none-some TooManyLocals (sym e))
third false false true last e = absurd (none-some PoolFull (sym e))
third false false false last e = refl

small : (n : ℕ) → nat_lt 65534 n ≡ false → n ≤ 65534
small n e = grind (arith, nat_tests)

untold : (place : Place) (name : Name) (limit : Option Limit) → None ≡ excess_at place name limit → limit ≡ None
untold place name None e = refl
untold place name (Some l) e = absurd (none-some _ e)

pub few_left : (p : Program) (m : Method) (pool left : List Const) (c : file.Code) → Emits p m pool c left → IsExcessOfCode p m pool None
    → length left ≤ 65534
few_left p m pool left c emits fine =
    let same = only_generated p m fine.code fine.is_code ∙ sym (only_generated p m emits.code emits.is_code) in
    let none = ap (λ code. exceeded_by_code (compiled p m code) pool) (sym same) ∙ untold _ _ _ fine.is in
    let few = small (length (code_in_file (compiled p m emits.code) pool).1) (third _ _ _ _ none) in
    subst (λ x. length x ≤ 65534) (sym emits.left_is) few
