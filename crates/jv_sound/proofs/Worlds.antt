-- Values that fit types, in worlds that grow; and what follows well.
use Rattle.std.proofs.Common.{◌≡◌, ◌≢◌, ℕ, zero, suc, Bool, true, false, List, [], ◌∷◌, ◌++◌, map, Option, Some, None, refl, sym, ap, ◌∙◌}
use Rattle.std.proofs.Common.{subst, append_assoc, append-nil, true≢false, arith}
use Rattle.std.specs.Prelude.{nat_eq, slice_get, if◌then◌else◌, Contains}
use Rattle.std.proofs.lemmas.Bool.{eq-eqb, eqb-true}
use Rattle.std.specs.Str.{bytes_eq}
use Rattle.mg_text.specs.Call.{Name}
use Rattle.ts_tree.specs.Proper.{AreDistinct}
use Rattle.jv_values.specs.Values.{Value, Finish, Wrong, Row, find, put, over, bound, Instance, Shared, Lives}
use Rattle.jv_values.specs.Values as values
use Rattle.jv_values.specs.Doing.{Outcome, Gives, Ends, Run, and_then, ◌>>=◌, give, stop, found}
use Rattle.jv_core.specs.declared.program.CoreType.{CoreType}
use Rattle.jv_core.specs.declared.program.CoreType.TheVariants as types
use Rattle.jv_core.specs.Tree.{Program, Method, Field}
use Rattle.jv_core.specs.Lookup.{text_at, enum_text, slot_type}
use Rattle.jv_sound.proofs.Lists.{some_is, same_name, name_is, in_tail, get_in}

-- the number of the class of each object
abbrev pub World : Type 0
World = List ℕ

pub record Extends (w x : World) : Type 0 where
  pub later : World
  pub is : x ≡ w ++ later

pub same_world : (w : World) → Extends w w
same_world w = record { later = []; is = sym (append-nil w) }

pub further : {a b c : World} → Extends a b → Extends b c → Extends a c
further {a} p q = record { later = p.later ++ q.later; is = q.is ∙ ap (λ b. b ++ q.later) p.is ∙ append_assoc a p.later q.later }

still : (w more : World) (o c : ℕ) → slice_get w o ≡ Some c → slice_get (w ++ more) o ≡ Some c
still [] more o c e = absurd (cc)
still (x ∷ w) more zero c e = e
still (x ∷ w) more (suc o) c e = still w more o c e

pub stays : {w x : World} (o c : ℕ) → Extends w x → slice_get w o ≡ Some c → slice_get x o ≡ Some c
stays {w} o c p e = ap (λ y. slice_get y o) p.is ∙ still w p.later o c e

-- What follows is well: no end is Wrong, and what is given fits a world that has grown.

pub record Got {S A : Type 0} (State : World → S → Type 0) (P : World → A → Type 0) (w : World) (a : A) (s : S) : Type 0 where
  pub world : World
  pub grown : Extends w world
  pub state : State world s
  pub is : P world a

abbrev pub Good : {S A : Type 0} → (World → S → Type 0) → (World → A → Type 0) → World → Outcome S A → Type 0
Good State P w (Gives a s) = Got State P w a s
Good State P w (Ends f es) = f ≢ Wrong

pub good_from : {S A : Type 0} (State : World → S → Type 0) (P : World → A → Type 0) {w x : World} (o : Outcome S A) → Extends w x →
    Good State P x o → Good State P w o
good_from State P (Gives a s) p g = record { world = g.world; grown = further p g.grown; state = g.state; is = g.is }
good_from State P (Ends f es) p g = g

pub good_then : {S A B : Type 0} (State : World → S → Type 0) (P : World → A → Type 0) (P' : World → B → Type 0) (w : World)
    (o : Outcome S A) (f : A → Run S B) → Good State P w o →
    ((x : World) (a : A) (s : S) → Extends w x → State x s → P x a → Good State P' x (f a s)) → Good State P' w (and_then o f)
good_then State P P' w (Gives a s) f g k = good_from State P' (f a s) g.grown (k g.world a s g.grown g.state g.is)
good_then State P P' w (Ends e es) f g k = g

pub good_give : {S A : Type 0} (State : World → S → Type 0) (P : World → A → Type 0) (w : World) (a : A) (s : S) → State w s → P w a →
    Good State P w (Gives a s)
good_give State P w a s h p = record { world = w; grown = same_world w; state = h; is = p }

-- what is given may be known otherwise
pub good_as : {S A : Type 0} (State : World → S → Type 0) (P P' : World → A → Type 0) (w : World) (o : Outcome S A) → Good State P w o →
    ((x : World) (a : A) → P x a → P' x a) → Good State P' w o
good_as State P P' w (Gives a s) g k = record { world = g.world; grown = g.grown; state = g.state; is = k g.world a g.is }
good_as State P P' w (Ends f es) g k = g

-- A part runs well from each later world.
module _ {S : Type 0} (St : World → S → Type 0) where
  pub record Runs {A : Type 0} (P : World → A → Type 0) (w : World) (m : Run S A) : Type 0 where
    pub run : (x : World) → Extends w x → (s : S) → St x s → Good St P x (m s)

  pub runs_later : {A : Type 0} {P : World → A → Type 0} {w x : World} {m : Run S A} → Extends w x → Runs P w m → Runs P x m
  runs_later q r = record { run = λ y z s h. r.run y (further q z) s h }

  pub runs_give : {A : Type 0} (P : World → A → Type 0) (w : World) (a : A) → ((x : World) → Extends w x → P x a) → Runs P w (give a)
  runs_give P w a k = record { run = λ x q s h. good_give St P x a s h (k x q) }

  pub runs_then : {A B : Type 0} (P : World → A → Type 0) (P' : World → B → Type 0) (w : World) (m : Run S A) (f : A → Run S B) →
      Runs P w m →
      ((x : World) (a : A) → Extends w x → P x a → Runs P' x (f a)) → Runs P' w (m >>= f)
  runs_then P P' w m f r k = record {
    run = λ x q s h. good_then St P P' x (m s) f (r.run x q s h)
        (λ y a s1 z h1 pa. (k y a (further q z) pa).run y (same_world y) s1 h1);
  }

  pub runs_as : {A : Type 0} (P P' : World → A → Type 0) (w : World) (m : Run S A) → Runs P w m →
      ((x : World) (a : A) → P x a → P' x a) → Runs P' w m
  runs_as P P' w m r k = record { run = λ x q s h. good_as St P P' x (m s) (r.run x q s h) k }

pub runs_stop : {A : Type 0} (St : World → Shared → Type 0) (P : World → A → Type 0) (w : World) (f : Finish) → f ≢ Wrong →
    Runs St P w (stop f)
runs_stop St P w f n = record { run = λ x q s h. n }

-- what is there is found
pub runs_found : {A : Type 0} (St : World → Shared → Type 0) (P : World → A → Type 0) (w : World) (o : Option A) (a : A) → o ≡ Some a →
    ((x : World) → Extends w x → P x a) → Runs St P w (found o)
runs_found St P w o a e k = subst (λ o. Runs St P w (found o)) (sym e) (runs_give St P w a k)

-- what is there goes on
pub runs_at : {A B : Type 0} (St : World → Shared → Type 0) (P : World → B → Type 0) (w : World) (o : Option A) (a : A)
    (f : A → Run Shared B) → o ≡ Some a → Runs St P w (f a) → Runs St P w (found o >>= f)
runs_at St P w o a f e r = subst (λ o. Runs St P w (found o >>= f)) (sym e) r

module _ (p : Program) where
  pub data Fits (w : World) : Value → CoreType → Type 0 where
    int : {z : _} → Fits w (values.Int z) types.Int
    truth : {b : Bool} → Fits w (values.Truth b) types.Boolean
    text : {t : List ℕ} → Fits w (values.Text t) types.Text
    null : {c : ℕ} → Fits w values.Null (types.Object c)
    object : {o c : ℕ} → slice_get w o ≡ Some c → Fits w (values.Object o) (types.Object c)
    constant : {e n : ℕ} {name : Name} → enum_text p e ≡ Some name → Fits w (values.Constant name n) (types.Enum e)

  pub fits_more : {w x : World} {v : Value} {t : CoreType} → Extends w x → Fits w v t → Fits x v t
  fits_more q int = int
  fits_more q truth = truth
  fits_more q text = text
  fits_more q null = null
  fits_more q (object e) = object (stays _ _ q e)
  fits_more q (constant e) = constant e

  -- what an expression gives: nothing, where it calls a method without a result
  pub data GivesA (w : World) : Option Value → CoreType → Type 0 where
    nothing : GivesA w None types.Void
    value : {v : Value} {t : CoreType} → Fits w v t → GivesA w (Some v) t

  pub gives_more : {w x : World} {r : Option Value} {t : CoreType} → Extends w x → GivesA w r t → GivesA x r t
  gives_more q nothing = nothing
  gives_more q (value f) = value (fits_more q f)

  pub data AllFit (w : World) : List Value → List CoreType → Type 0 where
    no_values : AllFit w [] []
    value : {v : Value} {vs : List Value} {t : CoreType} {ts : List CoreType} → Fits w v t → AllFit w vs ts → AllFit w (v ∷ vs) (t ∷ ts)

  pub all_more : {w x : World} {vs : List Value} {ts : List CoreType} → Extends w x → AllFit w vs ts → AllFit x vs ts
  all_more q no_values = no_values
  all_more q (value f fs) = value (fits_more q f) (all_more q fs)

  -- The fields of an object.

  pub data FieldsFit (w : World) : List Field → Row Name → Type 0 where
    none : FieldsFit w [] []
    more : {f : Field} {fs : List Field} {v : Value} {row : Row Name} → Fits w v f.ty → FieldsFit w fs row →
        FieldsFit w (f ∷ fs) ((text_at p f.name, v) ∷ row)

  pub fields_more : {w x : World} {fs : List Field} {row : Row Name} → Extends w x → FieldsFit w fs row → FieldsFit x fs row
  fields_more q none = none
  fields_more q (more {f = f} g r) = more {f = f} (fits_more q g) (fields_more q r)

  pub record Finds (w : World) (t : CoreType) (o : Option Value) : Type 0 where
    pub value : Value
    pub is : o ≡ Some value
    pub fits : Fits w value t

  pub record PutsField (w : World) (fs : List Field) (o : Option (Row Name)) : Type 0 where
    pub row : Row Name
    pub is : o ≡ Some row
    pub fits : FieldsFit w fs row

  abbrev pub name_of : Field → Name
  name_of f = text_at p f.name

  pub finds_field : {w : World} (fs : List Field) {row : Row Name} (i : ℕ) (d : Field) → AreDistinct (map name_of fs) →
      FieldsFit w fs row → slice_get fs i ≡ Some d →
      Finds w d.ty (find bytes_eq (name_of d) row)
  finds_field [] i d a r e = absurd (cc)
  finds_field {w} (f ∷ fs) zero d a (more {v = v} {row = row} g r) e =
      let same : f ≡ d = some_is e in
      record {
        value = v;
        is = ap (λ b. if b then Some v else find bytes_eq (name_of d) row)
            (subst (λ h. bytes_eq (name_of d) (name_of h) ≡ true) (sym same) (same_name (name_of d)));
        fits = subst (λ h. Fits w v h.ty) same g;
      }
  finds_field {w} (f ∷ fs) (suc i) d a (more {v = v} {row = row} g r) e =
      go (finds_field fs i d a.1 r e) (bytes_eq (name_of d) (name_of f)) refl
    where
      go : Finds w d.ty (find bytes_eq (name_of d) row) → (b : Bool) → bytes_eq (name_of d) (name_of f) ≡ b →
          Finds w d.ty (if b then Some v else find bytes_eq (name_of d) row)
      go ih true is = absurd (a.0 (subst (Contains (map name_of fs)) (name_is _ _ is) (get_in name_of fs i d e)))
      go ih false is = ih

  pub puts_field : {w : World} (fs : List Field) {row : Row Name} (i : ℕ) (d : Field) (u : Value) → AreDistinct (map name_of fs) →
      FieldsFit w fs row → slice_get fs i ≡ Some d → Fits w u d.ty →
      PutsField w fs (put bytes_eq (name_of d) u row)
  puts_field [] i d u a r e g = absurd (cc)
  puts_field {w} (f ∷ fs) zero d u a (more {v = v} {row = row} g r) e h =
      let same : f ≡ d = some_is e in
      record {
        row = (name_of f, u) ∷ row;
        is = ap (λ b. if b then Some ((name_of f, u) ∷ row) else over (name_of f, v) (put bytes_eq (name_of d) u row))
            (subst (λ h. bytes_eq (name_of d) (name_of h) ≡ true) (sym same) (same_name (name_of d)));
        fits = more {f = f} (subst (λ h. Fits w u h.ty) (sym same) h) r;
      }
  puts_field {w} (f ∷ fs) (suc i) d u a (more {v = v} {row = row} g r) e h =
      go (puts_field fs i d u a.1 r e h) (bytes_eq (name_of d) (name_of f)) refl
    where
      go : PutsField w fs (put bytes_eq (name_of d) u row) → (b : Bool) → bytes_eq (name_of d) (name_of f) ≡ b →
          PutsField w (f ∷ fs) (if b then Some ((name_of f, u) ∷ row) else over (name_of f, v) (put bytes_eq (name_of d) u row))
      go q true is = absurd (a.0 (subst (Contains (map name_of fs)) (name_is _ _ is) (get_in name_of fs i d e)))
      go q false is =
          record { row = (name_of f, v) ∷ q.row; is = ap (over (name_of f, v)) q.is; fits = more {f = f} g q.fits }

  -- The locals of a method, the innermost first.

  module _ (m : Method) where
    pub data RowFits (w : World) : List ℕ → Row ℕ → Type 0 where
      none : RowFits w [] []
      more : {k : ℕ} {t : CoreType} {v : Value} {sc : List ℕ} {row : Row ℕ} → slot_type m k ≡ Some t → Fits w v t → RowFits w sc row →
          RowFits w (k ∷ sc) ((k, v) ∷ row)

    pub row_more : {w x : World} {sc : List ℕ} {row : Row ℕ} → Extends w x → RowFits w sc row → RowFits x sc row
    row_more q none = none
    row_more q (more e f r) = more e (fits_more q f) (row_more q r)

    pub record Puts (w : World) (sc : List ℕ) (o : Option (Row ℕ)) : Type 0 where
      pub row : Row ℕ
      pub is : o ≡ Some row
      pub fits : RowFits w sc row

    no_entry : {A : Type 0} (x : A) → Contains [] x → ⊥
    no_entry x c = absurd (omega arith)

    pub finds : {w : World} {sc : List ℕ} {row : Row ℕ} {t : CoreType} (k : ℕ) → RowFits w sc row → Contains sc k →
        slot_type m k ≡ Some t → Finds w t (find nat_eq k row)
    finds k none c e = absurd (no_entry k c)
    finds {w} {t = t} k (more {k = j} {t = u} {v = v} {sc = sc} {row = row} h f r) c e = go (λ d. finds k r d e) (nat_eq k j) refl
      where
        go : (Contains sc k → Finds w t (find nat_eq k row)) → (b : Bool) → nat_eq k j ≡ b →
            Finds w t (if b then Some v else find nat_eq k row)
        go ih true is = record {
          value = v;
          is = refl;
          fits =
              subst (Fits w v) (some_is (sym (subst (λ i. slot_type m i ≡ Some u) (sym (eqb-true k j is)) h) ∙ e)) f;
        }
        go ih false is = ih (in_tail j k sc c (λ q. true≢false (sym (eq-eqb k j (sym q)) ∙ is)))

    pub puts : {w : World} {sc : List ℕ} {row : Row ℕ} {t : CoreType} (k : ℕ) (u : Value) → RowFits w sc row → Contains sc k →
        slot_type m k ≡ Some t → Fits w u t → Puts w sc (put nat_eq k u row)
    puts k u none c e g = absurd (no_entry k c)
    puts {w} {t = t} k u (more {k = j} {t = y} {v = v} {sc = sc} {row = row} h f r) c e g = go (λ d. puts k u r d e g) (nat_eq k j) refl
      where
        go : (Contains sc k → Puts w sc (put nat_eq k u row)) → (b : Bool) → nat_eq k j ≡ b →
            Puts w (j ∷ sc) (if b then Some ((j, u) ∷ row) else over (j, v) (put nat_eq k u row))
        go ih true is = record {
          row = (j, u) ∷ row;
          is = refl;
          fits =
              more (subst (λ i. slot_type m i ≡ Some t) (eqb-true k j is) e) g r;
        }
        go ih false is =
            let q = ih (in_tail j k sc c (λ q. true≢false (sym (eq-eqb k j (sym q)) ∙ is))) in
            record { row = (j, v) ∷ q.row; is = ap (over (j, v)) q.is; fits = more h f q.fits }
