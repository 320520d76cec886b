-- What it says that nothing is at fault in the declarations of a program.
use Rattle.std.proofs.Common.{◌≡◌, ℕ, zero, suc, List, [], ◌∷◌, ◌++◌, map, Some, None, Contains, slice_get, flat_map, subst, sym, ap}
use Rattle.std.proofs.Common.{⊎_elim}
use Rattle.std.proofs.lemmas.List.Elements.{Contains-append_left, Contains-append_right}
use Rattle.mg_read.specs.First.{FirstOf, none, next, Clean, with_earlier}
use Rattle.jv_meaning.specs.Program.{classes_of}
use Rattle.jv_rules.specs.Program.{Program}
use Rattle.jv_rules.specs.Members.{entries, member_entries, mentions_in_class}
use Rattle.jv_rules.specs.Declarations as declared
use Rattle.jv_rules.specs.Declarations.{demands_on, owned_methods}
use Rattle.jv_rules.specs.Faults.{Of, on_declarations, standing_in, IsTableFault}
use Rattle.jv_rules.proofs.Tests.{nothing_in, in_cases, in_first, in_later}
use Rattle.jv_rules.proofs.Positive.{clean_at}
use Rattle.jv_names.proofs.Tables.{some_is}
use Rattle.jv_names.proofs.Clean.{judged_clean}

pub record NoFault (program : Program) (origins : List ℕ) : Type 0 where
  pub names : Clean declared.DuplicateName (with_earlier (entries program origins))
  pub members : Clean declared.DuplicateMember (member_entries program)
  pub classes : Clean (declared.UnknownClass program) (flat_map mentions_in_class (classes_of program.files))
  pub typestates : Clean (declared.UnknownTypestate program) (classes_of program.files)
  pub methods : Clean declared.MissingMethod (flat_map (demands_on program) (classes_of program.files))
  pub signatures : Clean (declared.SignatureDiffers program) (flat_map owned_methods (classes_of program.files))
  pub labels : Clean (declared.LabelsDiffer program) (flat_map owned_methods (classes_of program.files))
  pub values : Clean (declared.FieldNeedsValue program) (flat_map (λ c. c.fields) (classes_of program.files))
  pub plain : Clean declared.InstanceInPlain (flat_map standing_in (classes_of program.files))

settled : (program : Program) (origins : List ℕ) → FirstOf (Of program origins) on_declarations None → NoFault program origins
settled program origins (next a (next b (next c (next d (next e (next f (next g (next h (next i none))))))))) = record {
  names = judged_clean declared.DuplicateName (with_earlier (entries program origins)) a;
  members = judged_clean declared.DuplicateMember (member_entries program) b;
  classes = judged_clean (declared.UnknownClass program) (flat_map mentions_in_class (classes_of program.files)) c;
  typestates = judged_clean (declared.UnknownTypestate program) (classes_of program.files) d;
  methods = judged_clean declared.MissingMethod (flat_map (demands_on program) (classes_of program.files)) e;
  signatures = judged_clean (declared.SignatureDiffers program) (flat_map owned_methods (classes_of program.files)) f;
  labels = judged_clean (declared.LabelsDiffer program) (flat_map owned_methods (classes_of program.files)) g;
  values = judged_clean (declared.FieldNeedsValue program) (flat_map (λ c. c.fields) (classes_of program.files)) h;
  plain = judged_clean declared.InstanceInPlain (flat_map standing_in (classes_of program.files)) i;
}

pub no_fault : (program : Program) (origins : List ℕ) → IsTableFault program origins None → NoFault program origins
no_fault program origins h = settled program origins h

-- What stands in lists.

pub got_in : {A : Type 0} (xs : List A) (n : ℕ) (x : A) → slice_get xs n ≡ Some x → Contains xs x
got_in [] n x e = absurd (cc)
got_in (y ∷ xs) zero x e = subst (λ z. Contains (z ∷ xs) x) (sym (some_is e)) (in_first xs x)
got_in (y ∷ xs) (suc n) x e = in_later xs y x (got_in xs n x e)

pub in_flat : {A B : Type 0} (f : A → List B) (xs : List A) (x : A) (y : B) → Contains xs x → Contains (f x) y → Contains (flat_map f xs) y
in_flat f [] x y has h = absurd (nothing_in x has)
in_flat f (z ∷ xs) x y has h =
    ⊎_elim (λ same. Contains-append_left (f z) (flat_map f xs) y (subst (λ w. Contains (f w) y) (sym same) h))
    (λ more. Contains-append_right (f z) (flat_map f xs) y (in_flat f xs x y more h)) (in_cases xs z x has)

pub in_map : {A B : Type 0} (f : A → B) (xs : List A) (x : A) → Contains xs x → Contains (map f xs) (f x)
in_map f [] x has = absurd (nothing_in x has)
in_map f (z ∷ xs) x has =
    ⊎_elim (λ same. subst (λ w. Contains (f w ∷ map f xs) (f x)) (sym same) (in_first (map f xs) (f x)))
    (λ more. in_later (map f xs) (f z) (f x) (in_map f xs x more)) (in_cases xs z x has)

-- what stands in a mapped list is the image of something
pub of_map : {A B : Type 0} (f : A → B) (xs : List A) (y : B) → Contains (map f xs) y → (x : A) × Contains xs x × (f x ≡ y)
of_map f [] y has = absurd (nothing_in y has)
of_map f (z ∷ xs) y has =
    ⊎_elim (λ same. (z, in_first xs z, same))
    (λ more. let w = of_map f xs y more in (w.0, in_later xs z w.0 w.1, w.2)) (in_cases (map f xs) (f z) y has)

pub clean_left : {X C : Type 0} (At : X → C → Type 0) (xs ys : List X) → Clean At (xs ++ ys) → Clean At xs
clean_left At [] ys h = tt
clean_left At (x ∷ xs) ys h = (h.0, clean_left At xs ys h.1)

pub clean_right : {X C : Type 0} (At : X → C → Type 0) (xs ys : List X) → Clean At (xs ++ ys) → Clean At ys
clean_right At [] ys h = h
clean_right At (x ∷ xs) ys h = clean_right At xs ys h.1

-- nothing is at fault at what stands in one of the parts
pub clean_in : {A X C : Type 0} (At : X → C → Type 0) (f : A → List X) (xs : List A) → Clean At (flat_map f xs) →
    (a : A) → Contains xs a → (x : X) → Contains (f a) x → (c : C) → At x c → ⊥
clean_in At f xs clean a has x in' = clean_at At (flat_map f xs) clean x (in_flat f xs a x has in')

pub clean_part : {A X C : Type 0} (At : X → C → Type 0) (f : A → List X) (xs : List A) → Clean At (flat_map f xs) →
    (a : A) → Contains xs a → Clean At (f a)
clean_part At f [] clean a has = absurd (nothing_in a has)
clean_part At f (z ∷ xs) clean a has =
    ⊎_elim (λ same. subst (λ w. Clean At (f w)) same (clean_left At (f z) (flat_map f xs) clean))
    (λ more. clean_part At f xs (clean_right At (f z) (flat_map f xs) clean) a more) (in_cases xs z a has)

-- what stands in a list has a position
pub position_of : {A : Type 0} (xs : List A) (x : A) → Contains xs x → (n : ℕ) × (slice_get xs n ≡ Some x)
position_of [] x has = absurd (nothing_in x has)
position_of (y ∷ xs) x has =
    ⊎_elim (λ same. (0, ap Some same)) (λ more. let w = position_of xs x more in (suc w.0, w.1)) (in_cases xs y x has)
