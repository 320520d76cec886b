-- Flat programs beside linked ones, part by part.
use Rattle.std.proofs.Common.{◌≡◌, ◌∙◌, sym, ap, subst, ℕ, zero, suc, ◌+◌, ◌<◌, List, [], ◌∷◌, ◌++◌, length, map, take, get_or}
use Rattle.std.proofs.Common.{Option, Some, None, IsSome, refl}
use Rattle.std.proofs.lemmas.Option.{slice_get_within, slice_get-get_or}
use Rattle.std.proofs.lemmas.List.{take_more, map-append}
use Rattle.std.proofs.lemmas.Slice.Zip.{all_zipped_more}
use Rattle.std.specs.List.{AllZip, slice_get}
use Rattle.vm_model.specs.Program.{Program, MethodOf, methods_in, method_at}
use Rattle.vm_flat.specs.declared.program.FlatMethod.{FlatMethod}
use Rattle.vm_flat.specs.declared.program.FlatClass.{FlatClass}
use Rattle.vm_flat.specs.declared.program.FlatProgram.{FlatProgram}
use Rattle.vm_flat.specs.Flat.{IsFlatMethod, IsFlatClass, IsFlatOf, StandsFor, flat_methods, flat_method_at}

-- one item more on both sides
pub one_more : {A B C : Type 0} (R : A → C → Type 0) (view : B → C) (xs grown : List A) (ys : List B) (i : ℕ) (x : A) (y : B) →
    i < length ys → y ≡ get_or ys i y → grown ≡ xs ++ x ∷ [] → AllZip R xs (map view (take i ys)) → R x (view y) →
    AllZip R grown (map view (take (i + 1) ys))
one_more R view xs grown ys i x y within is grows h r =
    let front : take (i + 1) ys ≡ take i ys ++ y ∷ [] = take_more ys i y within ∙ ap (λ z. take i ys ++ z ∷ []) (sym is) in
    let views : map view (take (i + 1) ys) ≡ map view (take i ys) ++ view y ∷ [] =
    ap (map view) front ∙ map-append view (take i ys) (y ∷ []) in
    rw grows (rw views (all_zipped_more R xs (map view (take i ys)) x (view y) h r))

-- what stands at a place of two lists of methods
pub stand_at : (fs : List FlatMethod) (ms : List MethodOf) → AllZip IsFlatMethod fs ms → (k : ℕ) →
    StandsFor (slice_get fs k) (slice_get ms k)
stand_at [] [] h k = tt
stand_at [] (m ∷ ms) h k = absurd h
stand_at (f ∷ fs) [] h k = absurd h
stand_at (f ∷ fs) (m ∷ ms) h zero = h.0
stand_at (f ∷ fs) (m ∷ ms) h (suc k) = stand_at fs ms h.1 k

methods_at : (fs : List FlatClass) (p : Program) → AllZip IsFlatClass fs p → (k : ℕ) →
    AllZip IsFlatMethod (flat_methods (slice_get fs k)) (methods_in (slice_get p k))
methods_at [] [] h k = tt
methods_at [] (c ∷ p) h k = absurd h
methods_at (f ∷ fs) [] h k = absurd h
methods_at (f ∷ fs) (c ∷ p) h zero = h.0
methods_at (f ∷ fs) (c ∷ p) h (suc k) = methods_at fs p h.1 k

-- the method of these numbers, where its class was found or not
pub stands_in : (fs : List FlatClass) (p : Program) → AllZip IsFlatClass fs p → (class : ℕ) (found : Option FlatClass) →
    slice_get fs class ≡ found → (method : ℕ) → StandsFor (slice_get (flat_methods found) method) (method_at p class method)
stands_in fs p h class found is method =
    subst (λ o. StandsFor (slice_get (flat_methods o) method) (method_at p class method)) is
    (stand_at (flat_methods (slice_get fs class)) (methods_in (slice_get p class)) (methods_at fs p h class) method)

pub stands : (fs : List FlatClass) (p : Program) → AllZip IsFlatClass fs p → (class : ℕ) (found : FlatClass) →
    slice_get fs class ≡ Some found → (method : ℕ) (result : Option FlatMethod) → slice_get found.methods.items method ≡ result →
    StandsFor result (method_at p class method)
stands fs p h class found is method result e =
    subst (λ o. StandsFor o (method_at p class method)) e (stands_in fs p h class (Some found) is method)

pub stands_nowhere : (fs : List FlatClass) (p : Program) → AllZip IsFlatClass fs p → (class : ℕ) → slice_get fs class ≡ None →
    (method : ℕ) → StandsFor None (method_at p class method)
stands_nowhere fs p h class is method = stands_in fs p h class None is method

-- the flat method of these numbers stands for the method
pub stands_at : (flat : FlatProgram) (p : Program) → IsFlatOf flat p → (class method : ℕ) →
    StandsFor (flat_method_at flat class method) (method_at p class method)
stands_at flat p h class method = stands_in flat.classes.items p h class (slice_get flat.classes.items class) refl method

-- a class that has a method is there
pub has_class : (method : ℕ) (o : Option FlatClass) → IsSome (slice_get (flat_methods o) method) → IsSome o
has_class method None e = absurd (cc e)
has_class method (Some c) e = refl

pub some_within : {A : Type 0} (xs : List A) (k : ℕ) (o : Option A) → slice_get xs k ≡ o → IsSome o → k < length xs
some_within xs k None is e = absurd (cc e)
some_within xs k (Some x) is e = slice_get_within xs k x is

-- what is found of a method that is there
pub there_is : (classes : List FlatClass) (class method : ℕ) (found : FlatClass) (m : FlatMethod) →
    IsSome (slice_get (flat_methods (slice_get classes class)) method) → found ≡ get_or classes class found →
    m ≡ get_or found.methods.items method m → Some m ≡ slice_get (flat_methods (slice_get classes class)) method
there_is classes class method found m some class_is method_is =
    let within : class < length classes =
    some_within classes class (slice_get classes class) refl (has_class method (slice_get classes class) some) in
    let there : slice_get classes class ≡ Some found = slice_get-get_or classes class found within ∙ ap Some (sym class_is) in
    let few : method < length found.methods.items =
    some_within found.methods.items method (slice_get found.methods.items method) refl
    (subst (λ o. IsSome (slice_get (flat_methods o) method)) there some) in
    sym (ap (λ o. slice_get (flat_methods o) method) there
    ∙ slice_get-get_or found.methods.items method m few ∙ ap Some (sym method_is))
