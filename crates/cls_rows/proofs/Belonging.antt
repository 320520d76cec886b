-- What instructions come to that name classes, fields and methods, by how these are kept.
use Rattle.std.proofs.Common.{◌≡◌, ℕ, zero, suc, ◌<◌, ◌≤◌, Bool, true, false, not, ◌&&◌, List, [], ◌∷◌, ◌++◌, length, map, get_or, Option}
use Rattle.std.proofs.Common.{Some, None, option_map, refl, sym, ap, ap₂, subst, ◌∙◌, arith}
use Rattle.std.specs.Prelude.{if◌then◌else◌, Result, Ok, Err, IfOk, MatchOption, slice_get, option_to_list}
use Rattle.std.proofs.lemmas.List.{length-map}
use Rattle.mg_text.specs.Call.{Name}
use Rattle.mg_text.specs.declared.memory.Memory.{Memory}
use Rattle.vm_model.specs.Program.{Program, MethodOf, ClassOf, class_at, method_at, class_name, fields_in, methods_in, name_in}
use Rattle.vm_model.specs.Types.{signature_of}
use Rattle.vm_model.specs.Linked.{is_built_in}
use Rattle.vm_model.specs.Actions.{Action, Telling, Silent, Static, Return, Read, Write, Make, Call}
use Rattle.vm_model.specs.Tests.{Typed, result_in, params_in, descriptor_in, max_locals_in, call_takes}
use Rattle.vm_actions.specs.declared.action.Sort.{Sort}
use Rattle.vm_actions.specs.declared.action.Calling.{Calling as Called}
use Rattle.vm_actions.specs.declared.action.Calling.TheVariants as callings
use Rattle.vm_actions.specs.Table.{sort_of, calling_of}
use Rattle.cls_verify.specs.Kinds.{Instance, kind_of_type}
use Rattle.cls_verify.specs.Kinds as model
use Rattle.cls_verify.specs.Rows.{Names, IsOwn, NamesField, SuitsMethod}
use Rattle.cls_kinds.specs.declared.kind.Kind.{Kind}
use Rattle.cls_kinds.specs.Stacks.{stack_at}
use Rattle.cls_kinds.specs.Named.{AreNames, kind_of, kinds_of}
use Rattle.cls_table.specs.declared.classes.ClassKinds.{ClassKinds}
use Rattle.cls_table.specs.declared.classes.MethodKinds.{MethodKinds}
use Rattle.cls_table.specs.declared.classes.ProgramKinds.{ProgramKinds}
use Rattle.cls_table.specs.Tables.{field_kind, taken_kinds, IsMethod, AreMethods, IsClass, AreKinds}
use Rattle.cls_rows.specs.declared.frame.Frame.{Frame}
use Rattle.cls_rows.specs.declared.frame.Scene.{Scene}
use Rattle.cls_rows.specs.declared.want.Want.TheVariants as wants
use Rattle.cls_rows.specs.Wants.{IsTaken, CanTake}
use Rattle.cls_rows.specs.Settling.{Settles, CanSettle, GoesOn}
use Rattle.cls_rows.specs.Frames.{IsScene}
use Rattle.cls_rows.specs.Coming.{Comes, suits_in}
use Rattle.cls_rows.proofs.Settled.{IsPlain, row_settles}
use Rattle.cls_rows.proofs.Coming.{stays_settled, settled_comes, settles_come, went_settles}
use Rattle.cls_rows.proofs.Members.{not_text, takes_typed, return_none, return_some, read_plain, write_plain, make_plain}
use Rattle.cls_rows.proofs.Members.{MayCall, call_types, call_plain, map_get, get_map}

get_within : {A : Type 0} (xs : List A) (i : ℕ) (a : A) → slice_get xs i ≡ Some a → i < length xs
get_within [] i a e = absurd (cc e)
get_within (x ∷ xs) zero a e = omega arith
get_within (x ∷ xs) (suc i) a e = let h = get_within xs i a e in omega (arith, h)

get_some : {A : Type 0} (xs : List A) (i : ℕ) → i < length xs → (a : A) × (slice_get xs i ≡ Some a)
get_some [] i h = absurd (omega (arith, h))
get_some (x ∷ xs) zero h = (x, refl)
get_some (x ∷ xs) (suc i) h = get_some xs i (omega (arith, h))

get_or_is : {A : Type 0} (xs : List A) (i : ℕ) (a : A) → slice_get xs i ≡ Some a → get_or xs i a ≡ a
get_or_is [] i a e = refl
get_or_is (x ∷ xs) zero a e = cc e
get_or_is (x ∷ xs) (suc i) a e = get_or_is xs i a e

-- A class that is kept, and the class of the program that it is.
pub record IsKept (p : Program) (names : List Name) (i : ℕ) (x : ClassKinds) : Type 0 where
  pub class_is : ClassOf
  pub there : class_at p i ≡ Some class_is
  pub kinds : IsClass names class_is x
  pub own : x.is_own ≡ true → IsOwn p i
  pub not_own : IsOwn p i → x.is_own ≡ true

pub class_kept : (p : Program) (k : ProgramKinds) → AreKinds p k → (i : ℕ) (x : ClassKinds) → slice_get k.classes.items i ≡ Some x →
    IsKept p k.names i x
class_kept p k a i x e =
    let within : i < length p = let w = get_within k.classes.items i x e in let n = a.classes in omega (arith, w, n) in
    let c = get_some p i within in
    let same : get_or k.classes.items i x ≡ x = get_or_is k.classes.items i x e in
    record {
      class_is = c.0;
      there = c.1;
      kinds = subst (λ y. IsClass k.names y x) (get_or_is p i c.0 c.1) (subst (λ y. IsClass k.names (get_or p i c.0) y) same
          (a.each_class i c.0 x within));
      own = λ h. a.own i x within (ap (λ (y : ClassKinds). y.is_own) same ∙ h);
      not_own = λ o. ap (λ (y : ClassKinds). y.is_own) (sym same) ∙ a.not_own i x o;
    }

pub class_missed : (p : Program) (k : ProgramKinds) → AreKinds p k → (i : ℕ) → slice_get k.classes.items i ≡ None → i < length p → ⊥
class_missed p k a i e h =
    let n = a.classes in
    let c = get_some k.classes.items i (omega (arith, n, h)) in
    let no : Some c.0 ≡ None = sym c.1 ∙ e in cc no

-- what a row names is a field of the class's own, and kept
pub field_there : (p : Program) (names : List Name) (c f : ℕ) (x : ClassKinds) → IsKept p names c x → NamesField p c f →
    (kind : Kind) × ((slice_get x.fields.items f ≡ Some (Some kind)) × (x.is_own ≡ true))
field_there p names c f x k n =
    let at : slice_get k.class_is.fields f ≡ Some n.field_is = sym (ap (λ o. slice_get (fields_in o) f) k.there) ∙ n.there in
    let g : slice_get (map (option_map (kind_of names)) x.fields.items) f ≡ Some (field_kind n.field_is) =
    ap (λ l. slice_get l f) k.kinds.fields ∙ get_map field_kind k.class_is.fields f n.field_is at in
    let (o, (e, s)) = map_get (option_map (kind_of names)) x.fields.items f (field_kind n.field_is) g in
    some o e (s ∙ ap (option_map kind_of_type) n.typed)
  where
    some : (o : Option Kind) → slice_get x.fields.items f ≡ Some o → option_map (kind_of names) o ≡ Some (kind_of_type n.type) →
        (kind : Kind) × ((slice_get x.fields.items f ≡ Some (Some kind)) × (x.is_own ≡ true))
    some None e s = absurd (cc s)
    some (Some kind) e s = (kind, (e, k.not_own n.is_own))

-- Methods.

methods_get : (names : List Name) (class : Name) (ms : List MethodOf) (xs : List MethodKinds) → AreMethods names class ms xs →
    (i : ℕ) (x : MethodKinds) →
    slice_get xs i ≡ Some x → (m : MethodOf) × ((slice_get ms i ≡ Some m) × IsMethod names class m x)
methods_get names class [] [] a i x e = absurd (cc e)
methods_get names class [] (y ∷ xs) a i x e = absurd a
methods_get names class (m ∷ ms) [] a i x e = absurd a
methods_get names class (m ∷ ms) (y ∷ xs) a zero x e = (m, (refl, subst (IsMethod names class m) (cc e) a.0))
methods_get names class (m ∷ ms) (y ∷ xs) a (suc i) x e = methods_get names class ms xs a.1 i x e

methods_there : (names : List Name) (class : Name) (ms : List MethodOf) (xs : List MethodKinds) → AreMethods names class ms xs →
    (i : ℕ) (m : MethodOf) →
    slice_get ms i ≡ Some m → (x : MethodKinds) × (slice_get xs i ≡ Some x)
methods_there names class [] xs a i m e = absurd (cc e)
methods_there names class (n ∷ ms) [] a i m e = absurd a
methods_there names class (n ∷ ms) (y ∷ xs) a zero m e = (y, refl)
methods_there names class (n ∷ ms) (y ∷ xs) a (suc i) m e = methods_there names class ms xs a.1 i m e

-- a method that is kept, and the method of the program that it is
pub record IsKeptMethod (p : Program) (names : List Name) (c i : ℕ) (x : MethodKinds) : Type 0 where
  pub method_is : MethodOf
  pub there : method_at p c i ≡ Some method_is
  pub kinds : IsMethod names (class_name p c) method_is x

pub method_kept : (p : Program) (names : List Name) (c i : ℕ) (x : ClassKinds) (y : MethodKinds) → IsKept p names c x →
    slice_get x.methods.items i ≡ Some y →
    IsKeptMethod p names c i y
method_kept p names c i x y k e =
    let (m, (at, is)) = methods_get names k.class_is.name k.class_is.methods x.methods.items k.kinds.methods i y e in
    record {
      method_is = m;
      there = ap (λ o. slice_get (methods_in o) i) k.there ∙ at;
      kinds = subst (λ name. IsMethod names name m y) (sym (ap name_in k.there)) is;
    }

-- a class of a method is there
pub class_of_method : (p : Program) (c i : ℕ) (m : MethodOf) → method_at p c i ≡ Some m → c < length p
class_of_method p c i m e = go (slice_get p c) refl e
  where
    go : (o : Option ClassOf) → slice_get p c ≡ o → slice_get (methods_in o) i ≡ Some m → c < length p
    go None f g = absurd (cc g)
    go (Some d) f g = get_within p c d f

-- How a method may be called.

both : (a b : Bool) → (a && b) ≡ true → (a ≡ true) × (b ≡ true)
both true b e = (refl, e)
both false b e = absurd (cc e)

falsely : (a : Bool) → not a ≡ true → a ≡ false
falsely true e = absurd (cc e)
falsely false e = refl

pub suits_so : (p : Program) (c : ℕ) (m : MethodOf) (called : Called) → suits_in called m.is_static (is_built_in (class_name p c)) ≡ true →
    SuitsMethod p (calling_of called) c m
suits_so p c m callings.Static e = e
suits_so p c m callings.Telling e =
    let h = both (not m.is_static) (not (is_built_in (class_name p c))) e in
    (falsely m.is_static h.0, falsely (is_built_in (class_name p c)) h.1)
suits_so p c m callings.Silent e =
    let h = both (not m.is_static) (not (is_built_in (class_name p c))) e in
    (falsely m.is_static h.0, falsely (is_built_in (class_name p c)) h.1)

pub so_suits : (p : Program) (c : ℕ) (m : MethodOf) (called : Called) → SuitsMethod p (calling_of called) c m →
    suits_in called m.is_static (is_built_in (class_name p c)) ≡ true
so_suits p c m callings.Static h = h
so_suits p c m callings.Telling h = ap₂ (λ a b. not a && not b) h.0 h.1
so_suits p c m callings.Silent h = ap₂ (λ a b. not a && not b) h.0 h.1

-- what a method takes is what its call takes
static_kinds : (names : List Name) (class : Name) (m : MethodOf) (ks : List Kind) (b : Bool) → m.is_static ≡ b →
    kinds_of names ks ≡ taken_kinds class m →
    kinds_of names ks ≡ (if b then [] else Instance class ∷ []) ++ map kind_of_type (params_in (signature_of m.descriptor))
static_kinds names class m ks b e t =
    t ∙ ap (λ c. (if c then [] else Instance class ∷ []) ++ map kind_of_type (params_in (signature_of m.descriptor))) e

module _ (names : List Name) (n : AreNames names) (p : Program) (class method : ℕ) (m : MethodOf) (there : method_at p class method
    ≡ Some m) where
  call_kinds : (called : Called) (c : ℕ) (mo : MethodOf) (ks : List Kind) → kinds_of names ks ≡ taken_kinds (class_name p c) mo →
      SuitsMethod p (calling_of called) c mo → kinds_of names ks ≡ map kind_of_type
      (call_types names n p class method m there (calling_of called) c mo)
  call_kinds callings.Static c mo ks t s = static_kinds names (class_name p c) mo ks true s t
  call_kinds callings.Telling c mo ks t s = static_kinds names (class_name p c) mo ks false s.0 t
      ∙ ap (λ k. k ∷ map kind_of_type (params_in (signature_of mo.descriptor))) (sym (not_text (class_name p c) s.1))
  call_kinds callings.Silent c mo ks t s = static_kinds names (class_name p c) mo ks false s.0 t
      ∙ ap (λ k. k ∷ map kind_of_type (params_in (signature_of mo.descriptor))) (sym (not_text (class_name p c) s.1))

  pub may_call : (called : Called) (c i : ℕ) (x : MethodKinds) (k : IsKeptMethod p names c i x) →
      SuitsMethod p (calling_of called) c k.method_is →
      length x.takes.items ≤ k.method_is.max_locals →
      MayCall names n p class method m there (calling_of called) c i k.method_is x.takes.items x.result
  may_call called c i x k s fits = record {
    found = k.there;
    names_are = record { method_is = k.method_is; there = k.there; suits = s };
    kinds = call_kinds called c k.method_is x.takes.items k.kinds.takes s;
    fits = fits;
    answers = k.kinds.result;
  }

-- What they come to.

none_of : {A B : Type 0} (g : A → model.Kind) (h : B → model.Kind) (o : Option A) (r : Option B) → option_map g o ≡ option_map h r →
    o ≡ None → r ≡ None
none_of g h o None e f = refl
none_of g h o (Some t) e f = absurd (let no : None ≡ Some (h t) = sym (ap (option_map g) f) ∙ e in cc no)

some_of : {A B : Type 0} (g : A → model.Kind) (h : B → model.Kind) (o : Option A) (r : Option B) (a : A) → option_map g o ≡ option_map h r →
    o ≡ Some a →
    (t : B) × ((r ≡ Some t) × (g a ≡ h t))
some_of g h o None a e f = absurd (let no : Some (g a) ≡ None = sym (ap (option_map g) f) ∙ e in cc no)
some_of g h o (Some t) a e f = (t, (refl, let s : Some (g a) ≡ Some (h t) = sym (ap (option_map g) f) ∙ e in cc s))

module _ (s : Scene) where
  abbrev here : List Name
  here = s.program.now.names

  abbrev kept : List ClassKinds
  kept = s.program.now.classes.items

  result_at : (p : Program) (class method : ℕ) (m : MethodOf) → IsScene p class method m s →
      result_in (signature_of (descriptor_in (method_at p class method))) ≡ result_in (signature_of m.descriptor)
  result_at p class method m i = ap (λ (o : Option MethodOf). result_in (signature_of (descriptor_in o))) i.there

  pub nothing_returned : (stacks : List (List Kind)) (f : Frame) → s.result ≡ None → f.operands < length stacks →
      length (stack_at stacks f.operands) ≤ s.max_stack →
      Comes s stacks stacks f (Return None) (Some f)
  nothing_returned stacks f e there fits = settled_comes s stacks stacks f (Return None) [] [] (Some f)
      (λ p class method m i. return_none here i.kinds.names p class method m i.there
      (result_at p class method m i ∙ none_of (kind_of here) kind_of_type s.result (result_in (signature_of m.descriptor)) i.result e))
      (stays_settled stacks s.max_stack f there fits)

  pub something_returned : (old new : List (List Kind)) (f : Frame) (sort : Sort) (w : Kind) (r : Result (Option Frame) Memory) →
      s.result ≡ Some w →
      IfOk r (λ o. MatchOption o (CanSettle old s.max_stack (wants.Returned sort w ∷ []) [] f → ⊥)
      (λ g. Settles old new s.max_stack (wants.Returned sort w ∷ []) [] f g)) →
      IfOk r (λ o. Comes s old new f (Return (Some (sort_of sort))) o)
  something_returned old new f sort w r e h = settles_come s old new f (Return (Some (sort_of sort))) (wants.Returned sort w ∷ []) [] r
      (λ p class method m i.
      let t = some_of (kind_of here) kind_of_type s.result (result_in (signature_of m.descriptor)) w i.result e in
      return_some here i.kinds.names p class method m i.there sort w t.0 (result_at p class method m i ∙ t.1.0) t.1.1)
      h

  -- Where there is no such class, field or method.

  pub class_none : (stacks : List (List Kind)) (f : Frame) (a : Action) (c : ℕ) → slice_get kept c ≡ None →
      ((p : Program) → Names p a → c < length p) →
      Comes s stacks stacks f a None
  class_none stacks f a c e h = λ p class method m rest b left r. class_missed p s.program.now b.scene.kinds c e (h p r.names)

  pub field_none : (stacks : List (List Kind)) (f : Frame) (a : Action) (c i : ℕ) (x : ClassKinds) → slice_get kept c ≡ Some x →
      ((k : Kind) → slice_get x.fields.items i ≡ Some (Some k) → x.is_own ≡ true → ⊥) → ((p : Program) → Names p a → NamesField p c i) →
      Comes s stacks stacks f a None
  field_none stacks f a c i x e never h = λ p class method m rest b left r.
      let k = class_kept p s.program.now b.scene.kinds c x e in
      let t = field_there p here c i x k (h p r.names) in never t.0 t.1.0 t.1.1

  pub read_comes : (old new : List (List Kind)) (f : Frame) (c i : ℕ) (x : ClassKinds) (kind : Kind) (r : Result (Option Frame) Memory) →
      slice_get kept c ≡ Some x → slice_get x.fields.items i ≡ Some (Some kind) → x.is_own ≡ true →
      IfOk r (λ o. MatchOption o (CanSettle old s.max_stack (wants.Of x.kind ∷ []) (kind ∷ []) f → ⊥)
      (λ g. Settles old new s.max_stack (wants.Of x.kind ∷ []) (kind ∷ []) f g)) →
      IfOk r (λ o. Comes s old new f (Read c i) o)
  read_comes old new f c i x kind r e at own h = settles_come s old new f (Read c i) (wants.Of x.kind ∷ []) (kind ∷ []) r
      (λ p class method m z. let k = class_kept p s.program.now z.kinds c x e in
      read_plain here z.kinds.names p class method m z.there c i k.class_is x kind k.there k.kinds at (k.own own))
      h

  pub write_comes : (old new : List (List Kind)) (f : Frame) (c i : ℕ) (x : ClassKinds) (kind : Kind) (r : Result (Option Frame) Memory) →
      slice_get kept c ≡ Some x → slice_get x.fields.items i ≡ Some (Some kind) → x.is_own ≡ true →
      IfOk r (λ o. MatchOption o (CanSettle old s.max_stack (wants.Of x.kind ∷ wants.Of kind ∷ []) [] f → ⊥)
      (λ g. Settles old new s.max_stack (wants.Of x.kind ∷ wants.Of kind ∷ []) [] f g)) →
      IfOk r (λ o. Comes s old new f (Write c i) o)
  write_comes old new f c i x kind r e at own h = settles_come s old new f (Write c i) (wants.Of x.kind ∷ wants.Of kind ∷ []) [] r
      (λ p class method m z. let k = class_kept p s.program.now z.kinds c x e in
      write_plain here z.kinds.names p class method m z.there c i k.class_is x kind k.there k.kinds at (k.own own))
      h

  pub make_comes : (old new : List (List Kind)) (f : Frame) (c : ℕ) (x : ClassKinds) (r : Result (Option Frame) Memory) →
      slice_get kept c ≡ Some x →
      IfOk r (λ o. MatchOption o (CanSettle old s.max_stack [] (x.kind ∷ []) f → ⊥) (λ g. Settles old new s.max_stack [] (x.kind ∷ []) f g))
      →
      IfOk r (λ o. Comes s old new f (Make c) o)
  make_comes old new f c x r e h = settles_come s old new f (Make c) [] (x.kind ∷ []) r
      (λ p class method m z. let k = class_kept p s.program.now z.kinds c x e in
      make_plain here z.kinds.names p class method m z.there c k.class_is x k.there k.kinds (get_within p c k.class_is k.there))
      h

  -- Calls.

  built_at : (p : Program) (c : ℕ) (x : ClassKinds) → IsKept p here c x → x.is_built_in ≡ is_built_in (class_name p c)
  built_at p c x k = k.kinds.built_in ∙ ap is_built_in (sym (ap name_in k.there))

  takes_fit : (p : Program) (class method : ℕ) (m : MethodOf) (z : IsScene p class method m s) (called : Called) (c i : ℕ) (y : MethodKinds)
      (k : IsKeptMethod p here c i y) → SuitsMethod p (calling_of called) c k.method_is →
      length (call_takes p (calling_of called) c (method_at p c i)) ≤ max_locals_in (method_at p c i) →
      length y.takes.items ≤ k.method_is.max_locals
  takes_fit p class method m z called c i y k suits l =
      let ks = call_kinds here z.kinds.names p class method m z.there called c k.method_is y.takes.items k.kinds.takes suits in
      let types = call_types here z.kinds.names p class method m z.there (calling_of called) c k.method_is in
      let a = ap length ks in
      let b = length-map y.takes.items (kind_of here) in
      let d = length-map types kind_of_type in
      let t = ap length (ap (call_takes p (calling_of called) c) k.there ∙ takes_typed here z.kinds.names p class method m z.there
      (calling_of called) c k.method_is) in
      let u = length-map types Typed in
      let v : max_locals_in (method_at p c i) ≡ k.method_is.max_locals = ap max_locals_in k.there in
      omega (arith, a, b, d, t, u, v, l)

  pub method_none : (stacks : List (List Kind)) (f : Frame) (called : Called) (c i : ℕ) (x : ClassKinds) → slice_get kept c ≡ Some x →
      ((y : MethodKinds) → slice_get x.methods.items i ≡ Some y → length y.takes.items ≤ y.max_locals →
      suits_in called y.is_static x.is_built_in ≡ true → ⊥) →
      Comes s stacks stacks f (Call (calling_of called) c i) None
  method_none stacks f called c i x e never = λ p class method m rest b left r.
      let k = class_kept p s.program.now b.scene.kinds c x e in
      let at : slice_get k.class_is.methods i ≡ Some r.names.method_is = sym (ap (λ o. slice_get (methods_in o) i) k.there) ∙
      r.names.there in
      let y = methods_there here k.class_is.name k.class_is.methods x.methods.items k.kinds.methods i r.names.method_is at in
      let q = method_kept p here c i x y.0 k y.1 in
      let same : r.names.method_is ≡ q.method_is = let g : Some r.names.method_is ≡ Some q.method_is = sym r.names.there ∙ q.there in cc g
      in
      let suits : SuitsMethod p (calling_of called) c q.method_is = subst (λ mo. SuitsMethod p (calling_of called) c mo) same r.names.suits
      in
      never y.0 y.1
      (let w = takes_fit p class method m b.scene called c i y.0 q suits r.meets.locals_there in let v = q.kinds.max_locals in omega
      (arith, w, v))
      (ap₂ (λ a d. suits_in called a d) q.kinds.is_static (built_at p c x k) ∙ so_suits p c q.method_is called suits)

  -- a method that is kept and may be called so
  pub record IsCalled (called : Called) (c i : ℕ) (x : ClassKinds) (y : MethodKinds) : Type 0 where
    pub class_is : slice_get kept c ≡ Some x
    pub there : slice_get x.methods.items i ≡ Some y
    pub fits : length y.takes.items ≤ y.max_locals
    pub suits : suits_in called y.is_static x.is_built_in ≡ true

  called_plain : (called : Called) (c i : ℕ) (x : ClassKinds) (y : MethodKinds) → IsCalled called c i x y →
      (p : Program) (class method : ℕ) (m : MethodOf) →
      IsScene p class method m s → IsPlain here p class method m (Call (calling_of called) c i) (map wants.Of y.takes.items)
      (option_to_list y.result)
  called_plain called c i x y h p class method m z =
      let k = class_kept p s.program.now z.kinds c x h.class_is in
      let q = method_kept p here c i x y k h.there in
      let suits = suits_so p c q.method_is called (sym (ap₂ (λ a d. suits_in called a d) q.kinds.is_static (built_at p c x k)) ∙ h.suits) in
      call_plain here z.kinds.names p class method m z.there (calling_of called) c i q.method_is y.takes.items y.result
      (may_call here z.kinds.names p class method m z.there called c i y q suits (let f = h.fits in let v = q.kinds.max_locals in omega
      (arith, f, v)))

  pub call_refused : (stacks : List (List Kind)) (f : Frame) (called : Called) (c i : ℕ) (x : ClassKinds) (y : MethodKinds) →
      IsCalled called c i x y →
      (CanTake (map wants.Of y.takes.items) (stack_at stacks f.operands) → ⊥) → Comes s stacks stacks f (Call (calling_of called) c i) None
  call_refused stacks f called c i x y h never = λ p class method m rest b left r.
      let t = row_settles here rest p class method m (Call (calling_of called) c i) (map wants.Of y.takes.items) (option_to_list y.result)
      (called_plain called c i x y h p class method m b.scene) stacks f left r in
      never (t.0, t.1.0)

  pub call_comes : (old new : List (List Kind)) (f : Frame) (called : Called) (c i : ℕ) (x : ClassKinds) (y : MethodKinds) (below : ℕ)
      (r : Result (Option Frame) Memory) →
      IsCalled called c i x y → IsTaken (map wants.Of y.takes.items) (stack_at old f.operands) (stack_at old below) →
      IfOk r (λ o. MatchOption o (length (stack_at old below ++ option_to_list y.result) ≤ s.max_stack → ⊥)
      (λ g. GoesOn old new s.max_stack below (option_to_list y.result) f g)) →
      IfOk r (λ o. Comes s old new f (Call (calling_of called) c i) o)
  call_comes old new f called c i x y below (Err e) h t g = tt
  call_comes old new f called c i x y below (Ok o) h t g =
      settled_comes s old new f (Call (calling_of called) c i) (map wants.Of y.takes.items) (option_to_list y.result) o
      (called_plain called c i x y h)
      (went_settles old new s.max_stack (map wants.Of y.takes.items) (option_to_list y.result) f below o t g)
