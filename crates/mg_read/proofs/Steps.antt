-- One step of a reader, taken apart.
use Rattle.std.proofs.Common.{◌≡◌, List, ◌∷◌, ◌++◌, Bool, true, false, cond, Option, Some, None, refl, ap, ◌∙◌, inl, inr, ◌⊎◌}
use Rattle.mg_read.specs.Reader.{◌>>=◌}

-- the value of a step that did not fail
pub bind_some : {A B : Type 0} (o : Option A) (f : A → Option B) (y : B) → (o >>= f) ≡ Some y → (x : A) × (o ≡ Some x) × (f x ≡ Some y)
bind_some None f y e = absurd cc
bind_some (Some x) f y e = (x, refl, e)

pub some_is : {A : Type 0} (x y : A) → ◌≡◌ {A = Option A} (Some x) (Some y) → x ≡ y
some_is x y e = cc

pub none_is_not : {A : Type 0} (x : A) → ◌≡◌ {A = Option A} None (Some x) → ⊥
none_is_not x e = cc

-- which way a test went
pub chosen : {A : Type 0} (b : Bool) (x y z : A) → cond b x y ≡ z → ((b ≡ true) × (x ≡ z)) ⊎ ((b ≡ false) × (y ≡ z))
chosen true x y z e = inl (refl, e)
chosen false x y z e = inr (refl, e)

-- the front of ts, up to rest
pub record Takes {T : Type 0} (P : List T → Type 0) (ts rest : List T) : Type 0 where
  pub front : List T
  pub parts : ts ≡ front ++ rest
  pub holds : P front

-- what may follow where anything may
abbrev pub Anything : {T : Type 0} → List T → Type 0
Anything ts = Unit {0}

-- one more token in front
pub after : {T : Type 0} {t : T} {ts us vs : List T} → ts ≡ t ∷ us → us ≡ vs → ts ≡ t ∷ vs
after {T} {t} e f = e ∙ ap (λ (r : List T). t ∷ r) f
