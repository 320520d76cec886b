-- What the table of opcodes says of a whole range of numbers.
use Rattle.std.proofs.Common.{◌≡◌, ℕ, zero, suc, ◌+◌, ◌<◌, ◌≤◌, Bool, true, false, ◌&&◌, ◌||◌, List, [], ◌∷◌, get_or, Option, Some, None}
use Rattle.std.proofs.Common.{nat_eq, refl, sym, ap, ◌∙◌, arith}
use Rattle.std.specs.List.{AllByRecursion}
use Rattle.std.proofs.lemmas.Bool.Decides.{nat_tests}
use Rattle.cls_tree.specs.declared.instr.Form.{Form}
use Rattle.cls_tree.specs.declared.instr.Form.TheVariants as forms
use Rattle.cls_tree.specs.Opcodes.{form_of}

abbrev code : Option Form → ℕ
code None = 0
code (Some forms.Nothing) = 1
code (Some forms.Byte) = 2
code (Some forms.Short) = 3
code (Some forms.Local) = 4
code (Some forms.Increment) = 5
code (Some forms.Jump) = 6
code (Some forms.Table) = 7
code (Some forms.NearConstant) = 8
code (Some forms.Constant) = 9
code (Some forms.Field) = 10
code (Some forms.Method) = 11
code (Some forms.Class) = 12

abbrev forms_by_code : List (Option Form)
forms_by_code =
    None ∷ Some forms.Nothing ∷ Some forms.Byte ∷ Some forms.Short ∷ Some forms.Local ∷ Some forms.Increment ∷ Some forms.Jump
    ∷ Some forms.Table ∷ Some forms.NearConstant ∷ Some forms.Constant ∷ Some forms.Field ∷ Some forms.Method ∷ Some forms.Class ∷ []

of_code : (f : Option Form) → get_or forms_by_code (code f) None ≡ f
of_code None = refl
of_code (Some forms.Nothing) = refl
of_code (Some forms.Byte) = refl
of_code (Some forms.Short) = refl
of_code (Some forms.Local) = refl
of_code (Some forms.Increment) = refl
of_code (Some forms.Jump) = refl
of_code (Some forms.Table) = refl
of_code (Some forms.NearConstant) = refl
of_code (Some forms.Constant) = refl
of_code (Some forms.Field) = refl
of_code (Some forms.Method) = refl
of_code (Some forms.Class) = refl

abbrev is_in : ℕ → List ℕ → Bool
is_in n [] = false
is_in n (x ∷ xs) = nat_eq x n || is_in n xs

-- n numbers from lo on have the form of this code, but for some
unfoldable pub agree : ℕ → List ℕ → ℕ → ℕ → Bool
agree c but zero lo = true
agree c but (suc n) lo = (is_in lo but || nat_eq (code (form_of lo)) c) && agree c but n (suc lo)

-- these are other numbers
abbrev pub Apart : ℕ → List ℕ → Type 0
Apart op but = AllByRecursion (λ n. n ≡ op → ⊥) but

apart : (op : ℕ) (but : List ℕ) → Apart op but → is_in op but ≡ false
apart op [] a = refl
apart op (x ∷ xs) a =
    let one : x ≡ op → ⊥ = a.0 in
    let rest = apart op xs a.1 in
    grind (arith, nat_tests)

first : (a b : Bool) → (a && b) ≡ true → (a ≡ true) × (b ≡ true)
first a b e = grind (arith, nat_tests)

here : (c : ℕ) (i : Bool) (f : Option Form) → i ≡ false → (i || nat_eq (code f) c) ≡ true → code f ≡ c
here c i f out e = grind (arith, nat_tests)

-- the first number of a range, or a later one
step : (c : ℕ) (but : List ℕ) (lo op : ℕ) (r b : Bool) → nat_eq lo op ≡ b → lo ≤ op → Apart op but
    → ((is_in lo but || nat_eq (code (form_of lo)) c) && r) ≡ true → (r ≡ true → suc lo ≤ op → get_or forms_by_code c None ≡ form_of op)
    → get_or forms_by_code c None ≡ form_of op
step c but lo op r true same low a e rest =
    let is : lo ≡ op = grind (arith, nat_tests) in
    let out : is_in lo but ≡ false = rw is (apart op but a) in
    let both = first (is_in lo but || nat_eq (code (form_of lo)) c) r e in
    let is_code : code (form_of lo) ≡ c = here c (is_in lo but) (form_of lo) out both.0 in
    ap (λ k. get_or forms_by_code k None) (sym is_code) ∙ of_code (form_of lo) ∙ ap form_of is
step c but lo op r false other low a e rest =
    let more : suc lo ≤ op = grind (arith, nat_tests) in
    let both = first (is_in lo but || nat_eq (code (form_of lo)) c) r e in
    rest both.1 more

pub settled : (c : ℕ) (but : List ℕ) (n lo op : ℕ) → lo ≤ op → op < lo + n → Apart op but → agree c but n lo ≡ true
    → get_or forms_by_code c None ≡ form_of op
unfolding agree
settled c but zero lo op low high a e = absurd (omega arith)
settled c but (suc n) lo op low high a e =
    step c but lo op (agree c but n (suc lo)) (nat_eq lo op) refl low a e
    (λ rest more. settled c but n (suc lo) op more (omega arith) a rest)
