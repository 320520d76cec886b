-- The rows of returns, and of instructions that name classes, fields and methods.
use Rattle.std.proofs.Common.{◌≡◌, ℕ, zero, suc, ◌<◌, ◌≤◌, Bool, true, false, not, List, [], ◌∷◌, length, map, Option, Some, None}
use Rattle.std.proofs.Common.{option_map, is_some, refl, sym, ap, ap₂, subst, ◌∙◌, arith}
use Rattle.std.specs.Prelude.{if◌then◌else◌, ◌||◌, slice_get, codes, option_to_list}
use Rattle.std.specs.Str.{bytes_eq}
use Rattle.std.proofs.lemmas.List.{length-map}
use Rattle.mg_text.specs.Call.{Name}
use Rattle.vm_model.specs.declared.value.Value.TheVariants as values
use Rattle.vm_model.specs.Program.{Program, FieldOf, MethodOf, ClassOf, class_at, class_name, field_at, method_at, fields_in, name_in}
use Rattle.vm_model.specs.Types.{FieldType, Named, signature_of, type_of}
use Rattle.vm_model.specs.Linked.{is_built_in}
use Rattle.vm_model.specs.Actions.{Calling, Telling, Silent, Static, Return, Read, Write, Make, Call}
use Rattle.vm_model.specs.Tests.{Needs, Typed, Returned, result_in, params_in, descriptor_in, max_stack_in, max_locals_in}
use Rattle.vm_model.specs.Tests.{receiver, call_takes, type_in}
use Rattle.vm_model.specs.Tests as tests
use Rattle.vm_actions.specs.declared.action.Sort.{Sort}
use Rattle.vm_actions.specs.Table.{sort_of}
use Rattle.cls_verify.specs.Kinds.{Instance, kind_of_type, kind_named, HasSort, Fits, FitsResult}
use Rattle.cls_verify.specs.Kinds as model
use Rattle.cls_verify.specs.Rows.{IsOwn, NamesMethod, kinds_of_field}
use Rattle.cls_verify.specs.Typing.{Kinds}
use Rattle.cls_kinds.specs.declared.kind.Kind.{Kind}
use Rattle.cls_kinds.specs.Numbers.{fits_in}
use Rattle.cls_kinds.specs.Named.{AreNames, kind_of, kinds_of}
use Rattle.cls_kinds.proofs.Naming.{Says, fits_in_is}
use Rattle.cls_table.specs.declared.classes.ClassKinds.{ClassKinds}
use Rattle.cls_table.specs.Tables.{field_kind, IsClass}
use Rattle.cls_rows.specs.declared.want.Want.TheVariants as wants
use Rattle.cls_rows.proofs.Alike.{AllAlike, both_say, sorted_says, kind_alike}
use Rattle.cls_rows.proofs.Settled.{IsPlain}

-- an element of a list that is made of another
pub map_get : {A B : Type 0} (g : A → B) (xs : List A) (i : ℕ) (y : B) → slice_get (map g xs) i ≡ Some y →
    (x : A) × ((slice_get xs i ≡ Some x) × (g x ≡ y))
map_get g [] i y e = absurd (cc e)
map_get g (x ∷ xs) zero y e = (x, (refl, cc e))
map_get g (x ∷ xs) (suc i) y e = map_get g xs i y e

pub get_map : {A B : Type 0} (g : A → B) (xs : List A) (i : ℕ) (x : A) → slice_get xs i ≡ Some x → slice_get (map g xs) i ≡ Some (g x)
get_map g [] i x e = absurd (cc e)
get_map g (y ∷ xs) zero x e = ap (option_map g) e
get_map g (y ∷ xs) (suc i) x e = get_map g xs i x e

some_of : {A B : Type 0} (g : A → B) (o : Option A) (y : B) → option_map g o ≡ Some y → (x : A) × ((o ≡ Some x) × (g x ≡ y))
some_of g None y e = absurd (cc e)
some_of g (Some x) y e = (x, (refl, cc e))

-- no built-in class is that of texts by its name
pub not_text : (name : Name) → is_built_in name ≡ false → kind_named name ≡ Instance name
not_text name e = go (bytes_eq name (codes "java/lang/Object")) (bytes_eq name (codes "java/lang/String")) refl refl e
  where
    go : (a b : Bool) → bytes_eq name (codes "java/lang/Object") ≡ a → bytes_eq name (codes "java/lang/String") ≡ b →
        is_built_in name ≡ false → kind_named name ≡ Instance name
    go a false f g h = ap (λ c. if c then model.Text else Instance name) g
    go true true f g h = absurd (let no : true ≡ false = sym (ap (λ c. (((c || bytes_eq name (codes "java/lang/String"))
        || bytes_eq name (codes "java/lang/System")) || bytes_eq name (codes "java/io/PrintStream")) || bytes_eq name
        (codes "mungo/lib/Session")) f) ∙ h in cc no)
    go false true f g h = absurd (let no : true ≡ false = sym (ap₂ (λ c d. (((c || d)
        || bytes_eq name (codes "java/lang/System")) || bytes_eq name (codes "java/io/PrintStream")) || bytes_eq name
        (codes "mungo/lib/Session")) f g) ∙ h in cc no)

module _ (names : List Name) (n : AreNames names) (p : Program) (class method : ℕ) (m : MethodOf) (there : method_at p class method
    ≡ Some m) where
  -- Returns.

  abbrev result_here : Option FieldType
  result_here = result_in (signature_of (descriptor_in (method_at p class method)))

  pub return_none : result_here ≡ None → IsPlain names p class method m (Return None) [] []
  return_none e = record {
    takes = [];
    takes_are = λ k. refl;
    alike = tt;
    reads = λ k. refl;
    locals = λ k. omega arith;
    returns = λ k. ap (λ r. not (is_some r)) e;
    room = λ k below many limit. omega arith;
    names_are = tt;
    gives_are = λ l t. refl;
    stays = λ l t. refl;
  }

  pub return_some : (sort : Sort) (w : Kind) (type : FieldType) → result_here ≡ Some type → kind_of names w ≡ kind_of_type type →
      IsPlain names p class method m (Return (Some (sort_of sort))) (wants.Returned sort w ∷ []) []
  return_some sort w type e f = record {
    takes = Returned (sort_of sort) result_here ∷ [];
    takes_are = λ k. refl;
    alike = (
      λ k. both_say _ _ (sorted_says names sort k) (subst (λ r. Says (fits_in k w) (FitsResult r (kind_of names k))) (sym e)
          (subst (λ x. Says (fits_in k w) (Fits (kind_of names k) x)) f (fits_in_is names n k w))),
      tt,
    );
    reads = λ k. refl;
    locals = λ k. omega arith;
    returns = λ k. ap is_some e;
    room = λ k below many limit. omega arith;
    names_are = tt;
    gives_are = λ l t. refl;
    stays = λ l t. refl;
  }

  -- Fields and new objects.

  most : max_stack_in (method_at p class method) ≡ m.max_stack
  most = ap max_stack_in there

  named_at : (c : ℕ) (cl : ClassOf) → class_at p c ≡ Some cl → class_name p c ≡ cl.name
  named_at c cl e = ap name_in e

  own_alike : (c : ℕ) (cl : ClassOf) (x : ClassKinds) → class_at p c ≡ Some cl → IsClass names cl x → IsOwn p c →
      kind_of names x.kind ≡ kind_of_type (Named (class_name p c))
  own_alike c cl x e i o = i.kind ∙ ap Instance (sym (named_at c cl e)) ∙ sym (not_text (class_name p c) o.own)

  -- a field of the program's own class
  record FieldIs (c f : ℕ) (kind : Kind) : Type 0 where
    field_is : FieldOf
    at : field_at p c f ≡ Some field_is
    type : FieldType
    typed : type_of field_is.descriptor ≡ Some type
    same : kind_of_type type ≡ kind_of names kind

  field_found : (c f : ℕ) (cl : ClassOf) (x : ClassKinds) (kind : Kind) → class_at p c ≡ Some cl → IsClass names cl x →
      slice_get x.fields.items f ≡ Some (Some kind) → FieldIs c f kind
  field_found c f cl x kind e i s =
      let g : slice_get (map field_kind cl.fields) f ≡ Some (Some (kind_of names kind)) =
      ap (λ l. slice_get l f) (sym i.fields) ∙ get_map (option_map (kind_of names)) x.fields.items f (Some kind) s in
      let (fo, (at, k)) = map_get field_kind cl.fields f (Some (kind_of names kind)) g in
      let (type, (typed, same)) = some_of kind_of_type (type_of fo.descriptor) (kind_of names kind) k in
      record { field_is = fo; at = ap (λ o. slice_get (fields_in o) f) e ∙ at; type = type; typed = typed; same = same }

  pub read_plain : (c f : ℕ) (cl : ClassOf) (x : ClassKinds) (kind : Kind) → class_at p c ≡ Some cl → IsClass names cl x →
      slice_get x.fields.items f ≡ Some (Some kind) → IsOwn p c → IsPlain names p class method m (Read c f) (wants.Of x.kind ∷ [])
      (kind ∷ [])
  read_plain c f cl x kind e i s o =
      let h = field_found c f cl x kind e i s in
      record {
        takes = Typed (Named (class_name p c)) ∷ [];
        takes_are = λ k. refl;
        alike = (kind_alike names n x.kind (Named (class_name p c)) (own_alike c cl x e i o), tt);
        reads = λ k. refl;
        locals = λ k. omega arith;
        returns = λ k. refl;
        room = λ k below many limit. let l = length-map k.operands (λ (y : model.Kind). values.Null) in let w = most in omega
            (arith, l, w, many, limit);
        names_are = record { is_own = o; field_is = h.field_is; there = h.at; type = h.type; typed = h.typed };
        gives_are = λ l t. ap kinds_of_field h.at ∙ ap model.kinds_of_result h.typed ∙ ap (λ y. y ∷ []) h.same;
        stays = λ l t. refl;
      }

  pub write_plain : (c f : ℕ) (cl : ClassOf) (x : ClassKinds) (kind : Kind) → class_at p c ≡ Some cl → IsClass names cl x →
      slice_get x.fields.items f ≡ Some (Some kind) → IsOwn p c → IsPlain names p class method m (Write c f)
      (wants.Of x.kind ∷ wants.Of kind ∷ []) []
  write_plain c f cl x kind e i s o =
      let h = field_found c f cl x kind e i s in
      record {
        takes = Typed (Named (class_name p c)) ∷ Typed h.type ∷ [];
        takes_are = λ k. ap (λ w. Typed (Named (class_name p c)) ∷ w ∷ []) (ap type_in h.at ∙ typed_in h.field_is h.type h.typed);
        alike = (
          kind_alike names n x.kind (Named (class_name p c)) (own_alike c cl x e i o),
          (kind_alike names n kind h.type (sym h.same), tt),
        );
        reads = λ k. refl;
        locals = λ k. omega arith;
        returns = λ k. refl;
        room = λ k below many limit. let l = length-map k.operands (λ (y : model.Kind). values.Null) in let w = most in omega
            (arith, l, w, many, limit);
        names_are = record { is_own = o; field_is = h.field_is; there = h.at; type = h.type; typed = h.typed };
        gives_are = λ l t. refl;
        stays = λ l t. refl;
      }
    where
      typed_in : (fo : FieldOf) (type : FieldType) → type_of fo.descriptor ≡ Some type → type_in (Some fo) ≡ Typed type
      typed_in fo type e = ap (λ (t : Option FieldType). elim t [ None ↦ tests.Any | Some u ↦ Typed u ]) e

  pub make_plain : (c : ℕ) (cl : ClassOf) (x : ClassKinds) → class_at p c ≡ Some cl → IsClass names cl x → c < length p →
      IsPlain names p class method m (Make c) [] (x.kind ∷ [])
  make_plain c cl x e i h = record {
    takes = [];
    takes_are = λ k. refl;
    alike = tt;
    reads = λ k. refl;
    locals = λ k. omega arith;
    returns = λ k. refl;
    room = λ k below many limit. let l = length-map k.operands (λ (y : model.Kind). values.Null) in let w = most in omega
        (arith, l, w, many, limit);
    names_are = h;
    gives_are = λ l t. ap (λ y. y ∷ []) (ap Instance (named_at c cl e) ∙ sym i.kind);
    stays = λ l t. refl;
  }

  -- Calls.

  typed_alike : (ks : List Kind) (ts : List FieldType) → kinds_of names ks ≡ map kind_of_type ts →
      AllAlike names (map wants.Of ks) (map Typed ts)
  typed_alike [] [] e = tt
  typed_alike [] (t ∷ ts) e = absurd (let l = ap length e in omega (arith, l))
  typed_alike (k ∷ ks) [] e = absurd (let l = ap length e in omega (arith, l))
  typed_alike (k ∷ ks) (t ∷ ts) e =
      let heads : kind_of names k ≡ kind_of_type t = cc e in
      let tails : kinds_of names ks ≡ map kind_of_type ts = cc e in
      (kind_alike names n k t heads, typed_alike ks ts tails)

  -- the types of what a call takes
  abbrev pub call_types : Calling → ℕ → MethodOf → List FieldType
  call_types Static c mo = params_in (signature_of mo.descriptor)
  call_types Telling c mo = Named (class_name p c) ∷ params_in (signature_of mo.descriptor)
  call_types Silent c mo = Named (class_name p c) ∷ params_in (signature_of mo.descriptor)

  pub takes_typed : (calling : Calling) (c : ℕ) (mo : MethodOf) → call_takes p calling c (Some mo) ≡ map Typed (call_types calling c mo)
  takes_typed Static c mo = refl
  takes_typed Telling c mo = refl
  takes_typed Silent c mo = refl

  -- a method that may be called so
  pub record MayCall (calling : Calling) (c mth : ℕ) (mo : MethodOf) (ks : List Kind) (result : Option Kind) : Type 0 where
    pub found : method_at p c mth ≡ Some mo
    pub names_are : NamesMethod p calling c mth
    pub kinds : kinds_of names ks ≡ map kind_of_type (call_types calling c mo)
    pub fits : length ks ≤ mo.max_locals
    pub answers : option_map (kind_of names) result ≡ option_map kind_of_type (result_in (signature_of mo.descriptor))

  result_kinds : (r : Option FieldType) (o : Option Kind) → option_map (kind_of names) o ≡ option_map kind_of_type r →
      model.kinds_of_result r ≡ kinds_of names (option_to_list o)
  result_kinds None None e = refl
  result_kinds None (Some k) e = absurd (cc e)
  result_kinds (Some t) None e = absurd (cc e)
  result_kinds (Some t) (Some k) e = ap (λ y. y ∷ []) (let s : kind_of names k ≡ kind_of_type t = cc e in sym s)

  pub call_plain : (calling : Calling) (c mth : ℕ) (mo : MethodOf) (ks : List Kind) (result : Option Kind) →
      MayCall calling c mth mo ks result →
      IsPlain names p class method m (Call calling c mth) (map wants.Of ks) (option_to_list result)
  call_plain calling c mth mo ks result h = record {
    takes = map Typed (call_types calling c mo);
    takes_are = λ k. ap (call_takes p calling c) h.found ∙ takes_typed calling c mo;
    alike = typed_alike ks (call_types calling c mo) h.kinds;
    reads = λ k. refl;
    locals = λ k.
        let t : length (call_takes p calling c (method_at p c mth)) ≡ length (call_types calling c mo) =
        ap length (ap (call_takes p calling c) h.found ∙ takes_typed calling c mo) ∙ length-map (call_types calling c mo) Typed in
        let l : max_locals_in (method_at p c mth) ≡ mo.max_locals = ap max_locals_in h.found in
        let a = ap length h.kinds in
        let b = length-map ks (kind_of names) in
        let d = length-map (call_types calling c mo) kind_of_type in
        let f = h.fits in
        omega (arith, t, l, a, b, d, f);
    returns = λ k. refl;
    room = λ k below many limit. omega arith;
    names_are = h.names_are;
    gives_are = λ l t. ap (λ (o : Option MethodOf). model.kinds_of_result (result_in (signature_of (descriptor_in o)))) h.found
        ∙ result_kinds (result_in (signature_of mo.descriptor)) result h.answers;
    stays = λ l t. refl;
  }
