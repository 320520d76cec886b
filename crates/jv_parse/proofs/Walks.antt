-- The turns of loops over parts that are read and not kept.
use Rattle.std.proofs.Common.{◌≡◌, ◌<◌, List, [], ◌∷◌, ◌++◌, length, Bool, true, false, Option, Some, None, refl, ap}
use Rattle.mg_read.specs.Reader.{Reader, ◌>>=◌}
use Rattle.mg_read.proofs.Loop.{Left, Left-more, Left-done}
use Rattle.mg_read.proofs.Steps.{some_is, none_is_not}
use Rattle.jv_parse.specs.declared.halt.Halt.{Halt}
use Rattle.jv_parse.specs.declared.halt.Halt.TheVariants as halts
use Rattle.jv_parse.specs.inner.Gives.{Fails}
use Rattle.jv_parse.specs.inner.Rests.{rest_of}
use Rattle.jv_parse.proofs.ExprTurns.{Left-fails}

-- what was read and is not kept
pub rest_some : {T A : Type 0} (read : Option (A × List T)) (us : List T) → rest_of read ≡ Some us → (x : A) × (read ≡ Some (x, us))
rest_some None us e = absurd (none_is_not us e)
rest_some (Some y) us e = (y.0, ap (λ (vs : List _). Some (y.0, vs)) (some_is y.1 us e))

pub rest_fails : {T A : Type 0} (err : Halt) (read : Option (A × List T)) → Fails err (rest_of read) → Fails err read
rest_fails halts.Memory read h = tt
rest_fails (halts.Syntax left) None h = refl
rest_fails (halts.Syntax left) (Some y) h = absurd (none_is_not y.1 (cc))

-- what is left to read makes up the whole
pub record Walking {T A : Type 0} (go : List T → Bool) (f : Reader T A) (rest : List T) (total : Option (List A × List T)) : Type 0 where
  pub front : List A
  pub left : Left go f front rest total

module _ {T A : Type 0} (go : List T → Bool) (f : Reader T A) where
  pub Walking-shorter : (ts us : List T) → ((x : A × List T) → f ts ≡ Some x → length x.1 < length ts) → rest_of (f ts) ≡ Some us →
      length us < length ts
  Walking-shorter ts us shorter h = let r = rest_some (f ts) us h in shorter (r.0, us) r.1

  pub Walking-more : (ts us : List T) (total : Option (List A × List T)) → ((x : A × List T) → f ts ≡ Some x → length x.1 < length ts) →
      go ts ≡ true
      → rest_of (f ts) ≡ Some us → Walking go f ts total → Walking go f us total
  Walking-more ts us total shorter goes h w =
      let r = rest_some (f ts) us h in
      record { front = w.front ++ r.0 ∷ []; left = Left-more go f w.front ts r.0 us total goes r.1 (shorter (r.0, us) r.1) w.left }

  pub Walking-fails : (err : Halt) (ts : List T) (total : Option (List A × List T)) → go ts ≡ true → Fails err (rest_of (f ts)) →
      Walking go f ts total → Fails err (rest_of total)
  Walking-fails halts.Memory ts total goes h w = tt
  Walking-fails (halts.Syntax left) ts total goes h w =
      ap rest_of (Left-fails go f (halts.Syntax left) w.front ts total goes (rest_fails (halts.Syntax left) (f ts) h) w.left)

  pub Walking-done : (ts : List T) (total : Option (List A × List T)) → go ts ≡ false → Walking go f ts total → rest_of total ≡ Some ts
  Walking-done ts total stops w = ap rest_of (Left-done go f w.front ts total stops w.left)

-- a step more in front of steps that are read alike
pub in_front : {A B C : Type 0} (o : Option A) (f : A → Option B) (h : A → Option C) (g : B → Option C) → ((x : A) → h x ≡ (f x >>= g))
    → (o >>= h) ≡ ((o >>= f) >>= g)
in_front None f h g e = refl
in_front (Some x) f h g e = e x
