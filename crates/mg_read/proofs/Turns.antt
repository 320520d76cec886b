-- Loops that read lists.
use Rattle.std.proofs.Common.{◌≡◌, ◌<◌, List, [], ◌∷◌, ◌++◌, length, Bool, true, false, Option, Some, None, refl, sym, ap, ◌∙◌, subst}
use Rattle.std.proofs.Common.{append-nil, length-append, arith}
use Rattle.mg_read.specs.Reader.{Reader, all_of}
use Rattle.mg_read.proofs.Steps.{bind_some, some_is, Takes}
use Rattle.mg_read.proofs.Lists.{Each, IsExact, Starts, all_sound, all_complete}
use Rattle.mg_read.proofs.Loop.{Left, Left-start, Left-none, with_front}
use Rattle.mg_read.specs.declared.fault.ParseFault.{ParseFault}
use Rattle.mg_read.specs.declared.fault.ParseFault.TheVariants as faults
use Rattle.mg_read.specs.Parsing.{Fails}

-- a turn that fails, fails the whole
pub Left-refused : {T A : Type 0} (go : List T → Bool) (f : Reader T A) (fault : ParseFault) (front : List A) (ts : List T)
    (total : Option (List A × List T))
    → go ts ≡ true → Fails fault (f ts) → Left go f front ts total → Fails fault total
Left-refused go f faults.Memory front ts total goes h l = tt
Left-refused go f (faults.Syntax place) front ts total goes h l = Left-none go f front ts total goes h l

-- the loop begins behind a front
pub Left-front : {T A : Type 0} (go : List T → Bool) (f : Reader T A) (front : List A) (ts : List T) →
    Left go f front ts (with_front front (all_of go f ts))
Left-front go f front ts = Left-start go f front ts (with_front front (all_of go f ts)) refl

module _ {T A : Type 0} (go : List T → Bool) (f : Reader T A) (G : A → List T → Type 0) (ok : List T → Type 0) (exact : IsExact f G ok)
  where
    -- what is read behind a front
    pub front_sound : (front : List A) (ts : List T) (x : List A × List T) → with_front front (all_of go f ts) ≡ Some x
        → (xs : List A) × (x.0 ≡ front ++ xs) × Takes (Each G xs) ts x.1
    front_sound front ts x e =
        let b = bind_some (all_of go f ts) (λ y. Some (front ++ y.0, y.1)) x e in
        let same = some_is (front ++ b.0.0, b.0.1) x b.2 in (
          b.0.0,
          sym (ap (λ (y : List A × List T). y.0) same),
          subst (Takes (Each G b.0.0) ts) (ap (λ (y : List A × List T). y.1) same)
              (all_sound go f G ok exact ts b.0 b.1),
        )

    pub front_complete : Starts go G ok → (front xs : List A) (ts rest : List T) → ok rest → go rest ≡ false → Each G xs ts
        → with_front front (all_of go f (ts ++ rest)) ≡ Some (front ++ xs, rest)
    front_complete starts front xs ts rest fine stops h = rw (all_complete go f G ok exact starts xs ts rest fine stops h) refl

-- what is spelled by some token takes one at least
pub shorter : {T A : Type 0} (f : Reader T A) (G : A → List T → Type 0) (ok : List T → Type 0) → IsExact f G ok →
    ((x : A) (ts : List T) → G x ts → 0 < length ts)
    → (ts : List T) (x : A) (us : List T) → f ts ≡ Some (x, us) → length us < length ts
shorter f G ok exact nonempty ts x us e =
    let t = exact.sound ts (x, us) e in
    omega (arith, ap length t.parts, length-append t.front us, nonempty x t.front t.holds)
