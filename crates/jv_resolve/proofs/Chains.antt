-- Steps one after another: one that fails, and those that go on.
use Rattle.std.proofs.Common.{◌≡◌, Option, Some, None, refl, sym, ap, subst, ◌∙◌}
use Rattle.std.specs.Option.{option_map}
use Rattle.std.specs.Prelude.{Result, Ok, Err, OnOk}
use Rattle.jv_core.specs.declared.program.CoreType.{CoreType}
use Rattle.jv_core.specs.Tree as Core
use Rattle.jv_resolve_law.specs.Tables.{◌>>=◌}
use Rattle.jv_resolve_law.specs.Expressions.{Resolved, typed}
use Rattle.jv_resolve.specs.declared.given.Unresolved.{Unresolved}
use Rattle.jv_resolve.specs.declared.given.Unresolved.TheVariants as ends
use Rattle.jv_resolve.specs.inner.Gives.{Fails, Gives}

pub fails_then : {X Y : Type 0} (e : Unresolved) (o : Option X) (f : X → Option Y) → Fails e o → Fails e (o >>= f)
fails_then ends.Memory o f h = tt
fails_then ends.Fault o f h = ap (λ p. p >>= f) h

pub fails_map : {X Y : Type 0} (e : Unresolved) (o : Option X) (f : X → Y) → Fails e o → Fails e (option_map f o)
fails_map ends.Memory o f h = tt
fails_map ends.Fault o f h = ap (option_map f) h

-- where the step behind fails, whatever the one before it gave
pub fails_last : {X Y Z : Type 0} (e : Unresolved) (o : Option X) (p : Option Y) (f : X → Y → Option Z) → Fails e p →
    Fails e (o >>= λ x. p >>= f x)
fails_last ends.Memory o p f h = tt
fails_last ends.Fault None p f h = refl
fails_last ends.Fault (Some x) p f h = ap (λ q. q >>= f x) h

pub fails_as : {X : Type 0} (e : Unresolved) (o p : Option X) → o ≡ p → Fails e p → Fails e o
fails_as ends.Memory o p is h = tt
fails_as ends.Fault o p is h = is ∙ h

-- a call, once its type is known
pub made : (o : Option CoreType) (ty : CoreType) (e e' : Core.Expr) (r : Resolved) → o ≡ Some ty → e' ≡ e → r ≡ typed e' ty →
    (o >>= λ t. Some (typed e t)) ≡ Some r
made o ty e e' r known is made_so = ap (λ p. p >>= λ t. Some (typed e t)) known ∙ ap (λ x. Some (typed x ty)) (sym is) ∙
    ap Some (sym made_so)

-- what holds anyway
pub always_ok : {X E : Type 0} (r : Result X E) {P : Type 0} → P → OnOk r P
always_ok (Ok x) p = p
always_ok (Err e) p = tt

-- the answer is what the same is
pub gives_as : {X Y : Type 0} (see : X → Y) (r : Result X Unresolved) (o p : Option Y) → o ≡ p → Gives see r p → Gives see r o
gives_as see r o p is h = subst (Gives see r) (sym is) h

-- two steps are one
pub two_steps : {A B C : Type 0} (o : Option A) (f : A → Option B) (g : B → Option C) → (o >>= λ a. f a >>= g) ≡ ((o >>= f) >>= g)
two_steps None f g = refl
two_steps (Some a) f g = refl

-- two steps, whose answers are kept as one
pub kept_steps : {A B C D : Type 0} (o : Option A) (p : Option B) (g : A → B → C) (k : C → Option D) (h : A → B → Option D) →
    ((a : A) (b : B) → h a b ≡ k (g a b)) →
    (o >>= λ a. p >>= h a) ≡ ((o >>= λ a. p >>= λ b. Some (g a b)) >>= k)
kept_steps None p g k h same = refl
kept_steps (Some a) None g k h same = refl
kept_steps (Some a) (Some b) g k h same = same a b

-- after a step that went on
pub after : {X Y : Type 0} (o : Option X) (x : X) (f : X → Option Y) → o ≡ Some x → (o >>= f) ≡ f x
after o x f h = ap (λ p. p >>= f) h
