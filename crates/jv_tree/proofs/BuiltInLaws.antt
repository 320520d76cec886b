-- Each method that every program has is found by its name, and what is found has it.
use Rattle.std.proofs.Common.{◌≡◌, ℕ, zero, suc, ◌+◌, ◌<◌, Bool, true, false, List, [], ◌∷◌, length, drop, get_or, Option, Some}
use Rattle.std.proofs.Common.{refl, sym, ap, ◌∙◌, subst, cond, arith}
use Rattle.std.specs.List.{find}
use Rattle.std.specs.Str.{bytes_eq}
use Rattle.std.proofs.lemmas.Slice.Eq.{bytes_eq-Decides}
use Rattle.mg_text.specs.Call.{Name}
use Rattle.jv_tree.specs.declared.built_in.SessionCall.{SessionCall}
use Rattle.jv_tree.specs.declared.built_in.SessionCall.TheVariants as calls
use Rattle.jv_tree.specs.declared.built_in.TextCall.{TextCall}
use Rattle.jv_tree.specs.BuiltIn.{PlainMethod, session_method, session_calls, session_named, text_method, text_calls, text_named}

pub named_itself : (c : SessionCall) → session_named (session_method c).name ≡ Some c
named_itself calls.Send = refl
named_itself calls.SendInt = refl
named_itself calls.SendBoolean = refl
named_itself calls.SendString = refl
named_itself calls.Look = refl
named_itself calls.Take = refl
named_itself calls.TakeInt = refl
named_itself calls.TakeBoolean = refl
named_itself calls.TakeString = refl
named_itself calls.Refuse = refl

found_among : {C : Type 0} (of : C → PlainMethod) (cs : List C) (name : Name) (c : C) →
    find (λ c. bytes_eq (of c).name name) cs ≡ Some c → name ≡ (of c).name
found_among of [] name c e = absurd (cc)
found_among {C} of (x ∷ cs) name c e = go (bytes_eq (of x).name name) (bytes_eq-Decides (of x).name name).0 (found_among of cs name c) e
  where
    rest : Option C
    rest = find (λ c. bytes_eq (of c).name name) cs

    go : (b : Bool) → (b ≡ true → (of x).name ≡ name) → (rest ≡ Some c → name ≡ (of c).name) → cond b (Some x) rest ≡ Some c →
        name ≡ (of c).name
    go true same others e = subst (λ c. name ≡ (of c).name) (let is : x ≡ c = cc in is) (sym (same refl))
    go false same others e = others e

-- a method of another name is passed over
pub passed_over : {C : Type 0} (of : C → PlainMethod) (cs : List C) (name : Name) (i : ℕ) (d : C) (m : PlainMethod) → i < length cs →
    m ≡ of (get_or cs i d) → bytes_eq m.name name ≡ false →
    find (λ c. bytes_eq (of c).name name) (drop (i + 1) cs) ≡ find (λ c. bytes_eq (of c).name name) (drop i cs)
passed_over of [] name i d m within is other = absurd (omega (arith, within))
passed_over of (c ∷ cs) name zero d m within is other =
    sym (ap (λ b. cond b (Some c) (find (λ c. bytes_eq (of c).name name) cs))
    (ap (λ (m : PlainMethod). bytes_eq m.name name) (sym is) ∙ other))
passed_over of (c ∷ cs) name (suc i) d m within is other =
    let k : suc i + 1 ≡ suc (i + 1) = omega arith in
    ap (λ n. find (λ c. bytes_eq (of c).name name) (drop n (c ∷ cs))) k ∙ passed_over of cs name i d m (omega (arith, within)) is other

pub named_so : (name : Name) (c : SessionCall) → session_named name ≡ Some c → name ≡ (session_method c).name
named_so name c e = found_among session_method session_calls name c e

pub text_named_so : (name : Name) (c : TextCall) → text_named name ≡ Some c → name ≡ (text_method c).name
text_named_so name c e = found_among text_method text_calls name c e
