-- Objects and their fields: the heap of a core's run.
use Rattle.std.proofs.Common.{◌≡◌, ℕ, zero, suc, true, List, [], ◌∷◌, ◌++◌, length, Option, Some, None, refl, sym, ap, ◌∙◌, subst}
use Rattle.std.specs.Prelude.{if◌then◌else◌, slice_get, slice_set, option_map, option_and_then}
use Rattle.std.specs.List.{AllByRecursion}
use Rattle.std.specs.Str.{bytes_eq}
use Rattle.mg_text.specs.Call.{Name}
use Rattle.mg_text.specs.declared.event.Event.{Event}
use Rattle.jv_values.specs.Values.{Value, Row, Shared, Wrong, Instance, find, put}
use Rattle.jv_values.specs.Values as values
use Rattle.jv_values.specs.Doing.{Run, Gives, and_then, ◌>>=◌, give, stop, found, note, objects, with_objects}
use Rattle.jv_values.specs.Objects.{object_of, read_field, write_field, make, receiver, telling, answer_of}
use Rattle.mg_text.specs.declared.event.Event.TheVariants as seen
use Rattle.jv_core.specs.declared.program.CoreType.{CoreType}
use Rattle.jv_core.specs.declared.program.CoreType.TheVariants as types
use Rattle.jv_core.specs.Tree.{Expr, Int, Truth, Text, Null, Constant}
use Rattle.jv_core.specs.Tree.{Program, Class, Field}
use Rattle.jv_core.specs.Lookup.{text_at, enum_text}
use Rattle.jv_core.specs.Members.{IsUsable, MayBeginWith, IsField}
use Rattle.jv_core.specs.Conditions.{IsCore}
use Rattle.jv_core.specs.Meaning.{begins_with, new_fields}
use Rattle.jv_sound.proofs.Lists.{some_is, same_name}
use Rattle.jv_sound.proofs.Worlds.{World, Extends, stays, Runs, runs_give, runs_then, runs_stop, runs_found, runs_at}
use Rattle.jv_sound.proofs.Worlds.{runs_later, good_give, Good, Fits, fits_more, GivesA, gives_more, FieldsFit, fields_more, finds_field}
use Rattle.jv_sound.proofs.Worlds.{puts_field}
use Rattle.jv_sound.proofs.Worlds as worlds
use Rattle.jv_sound.proofs.Operators.{Anything, OfType}
use Rattle.jv_sound.proofs.Sessions.{note_runs}

-- What a field begins with.

pub record Begins (p : Program) (t : CoreType) (o : Option Value) : Type 0 where
  pub value : Value
  pub is : o ≡ Some value
  pub fits : (w : World) → Fits p w value t

begins : (p : Program) (t : CoreType) (e : Option Expr) → IsUsable p t → MayBeginWith p t e → Begins p t (begins_with p t e)
begins p types.Void e u m = absurd u
begins p types.Int None u m = record { value = _; is = refl; fits = λ w. worlds.int }
begins p types.Boolean None u m = record { value = _; is = refl; fits = λ w. worlds.truth }
begins p types.Text None u m = absurd m
begins p (types.Object c) None u m = record { value = _; is = refl; fits = λ w. worlds.null }
begins p (types.Enum e) None u m = absurd m
begins p types.Int (Some (Int q z)) u m = record { value = _; is = refl; fits = λ w. worlds.int }
begins p types.Int (Some _) u m = absurd m
begins p types.Boolean (Some (Truth q b)) u m = record { value = _; is = refl; fits = λ w. worlds.truth }
begins p types.Boolean (Some _) u m = absurd m
begins p types.Text (Some (Text q s)) u m = record { value = _; is = refl; fits = λ w. worlds.text }
begins p types.Text (Some _) u m = absurd m
begins p (types.Object i) (Some (Null q)) u m = record { value = _; is = refl; fits = λ w. worlds.null }
begins p (types.Object i) (Some _) u m = absurd m
begins p (types.Enum i) (Some (Constant q of n)) u m =
    let named : enum_text p of ≡ Some (text_at p m.1.name) = ap (λ k. enum_text p k) m.0 ∙ ap (option_map (λ d. text_at p d.name)) m.2 in
    record {
      value = values.Constant (text_at p m.1.name) n;
      is = ap (option_map (λ name. values.Constant name n)) named;
      fits = λ w. worlds.constant (ap (option_map (λ d. text_at p d.name)) m.2);
    }
begins p (types.Enum i) (Some _) u m = absurd m

pub record Begun (p : Program) (fs : List Field) (o : Option (Row Name)) : Type 0 where
  pub row : Row Name
  pub is : o ≡ Some row
  pub fits : (w : World) → FieldsFit p w fs row

pub begun : (p : Program) (fs : List Field) → AllByRecursion (IsField p) fs → Begun p fs (new_fields p fs)
begun p [] all = record { row = []; is = refl; fits = λ w. worlds.none }
begun p (f ∷ fs) all =
    let b = begins p f.ty f.value all.0.type all.0.begins in
    let r = begun p fs all.1 in
    record {
      row = (text_at p f.name, b.value) ∷ r.row;
      is = ap (option_and_then (λ v. option_map (λ row. (text_at p f.name, v) ∷ row) (new_fields p fs))) b.is
          ∙ ap (option_map (λ row. (text_at p f.name, b.value) ∷ row)) r.is;
      fits = λ w. worlds.more {f = f} (b.fits w) (r.fits w);
    }

module _ (p : Program) (ok : IsCore p) where
  -- objects of these classes
  pub data Objects (w : World) : World → List Instance → Type 0 where
    none : Objects w [] []
    more : {i : Instance} {c : ℕ} {k : Class} {cs : World} {h : List Instance} → slice_get p.classes c ≡ Some k →
        i.class ≡ text_at p k.name → FieldsFit p w k.fields i.fields →
        Objects w cs h → Objects w (c ∷ cs) (i ∷ h)

  objects_more : {w x cs : World} {h : List Instance} → Extends w x → Objects w cs h → Objects x cs h
  objects_more q none = none
  objects_more q (more {i = i} e n f h) = more {i = i} e n (fields_more p q f) (objects_more q h)

  pub objects_length : {w cs : World} {h : List Instance} → Objects w cs h → length h ≡ length cs
  objects_length none = refl
  objects_length (more e n f h) = ap suc (objects_length h)

  -- an object of class k
  pub record IsObject (k : Class) (w : World) (i : Instance) : Type 0 where
    pub named : i.class ≡ text_at p k.name
    pub fields : FieldsFit p w k.fields i.fields

  pub record There (w : World) (k : Class) (o : Option Instance) : Type 0 where
    pub instance : Instance
    pub is : o ≡ Some instance
    pub object : IsObject k w instance

  pub there : {w cs : World} {h : List Instance} {c : ℕ} {k : Class} → Objects w cs h → (o : ℕ) → slice_get cs o ≡ Some c →
      slice_get p.classes c ≡ Some k → There w k (slice_get h o)
  there none o e g = absurd (cc)
  there {w} {k = k} (more {i = i} {k = j} at n f h) zero e g =
      let same : j ≡ k = some_is (sym at ∙ ap (slice_get p.classes) (some_is e) ∙ g) in
      record {
        instance = i;
        is = refl;
        object = record {
          named = n ∙ ap (λ j. text_at p j.name) same;
          fields =
              subst (λ j. FieldsFit p w j.fields i.fields) same f;
        };
      }
  there (more at n f h) (suc o) e g = there h o e g

  objects_set : {w cs : World} {h : List Instance} {c : ℕ} {k : Class} (i : Instance) → Objects w cs h → (o : ℕ) →
      slice_get cs o ≡ Some c → slice_get p.classes c ≡ Some k → IsObject k w i →
      Objects w cs (slice_set h o i)
  objects_set i none o e g is = none
  objects_set {w} {c = c} {k = k} i (more {i = j} {cs = cs} {h = h'} at n f h) zero e g is =
      subst (λ c. Objects w (c ∷ cs) (i ∷ h')) (sym (some_is e)) (more {i = i} g is.named is.fields h)
  objects_set i (more {i = j} at n f h) (suc o) e g is = more {i = j} at n f (objects_set i h o e g is)

  objects_add : {w cs : World} {h : List Instance} {k : Class} (i : Instance) (c : ℕ) → Objects w cs h →
      slice_get p.classes c ≡ Some k → IsObject k w i → Objects w (cs ++ c ∷ []) (h ++ i ∷ [])
  objects_add i c none g is = more {i = i} g is.named is.fields none
  objects_add i c (more {i = j} at n f h) g is = more {i = j} at n f (objects_add i c h g is)

  get_last : (w : World) (c : ℕ) → slice_get (w ++ c ∷ []) (length w) ≡ Some c
  get_last [] c = refl
  get_last (x ∷ w) c = get_last w c

  pub record Heap (w : World) (s : Shared) : Type 0 where
    pub objects : Objects w w s.heap

  pub noted : (w : World) (s : Shared) (events : List Event) → Heap w s → Heap w (record s { events = events })
  noted w s events h = record { objects = h.objects }

  pub object_more : {k : Class} {w x : World} {i : Instance} → Extends w x → IsObject k w i → IsObject k x i
  object_more q is = record { named = is.named; fields = fields_more p q is.fields }

  pub object_is : (w : World) (o : ℕ) (name : Name) (s : Shared) (i : Instance) → slice_get s.heap o ≡ Some i → i.class ≡ name →
      object_of name o s ≡ Gives i s
  object_is w o name s i is named =
      ap (λ x. and_then (found x s) (λ i. if bytes_eq i.class name then give i else stop Wrong)) is
      ∙ ap (λ b. (if b then give i else stop Wrong) s) (subst (λ n. bytes_eq i.class n ≡ true) named (same_name i.class))

  pub object_runs : (w : World) (o c : ℕ) (k : Class) → slice_get w o ≡ Some c → slice_get p.classes c ≡ Some k →
      Runs Heap (IsObject k) w (object_of (text_at p k.name) o)
  object_runs w o c k e g = record {
    run = λ x q s h.
        let t = there h.objects o (stays o c q e) g in
        subst (Good Heap (IsObject k) x) (sym (object_is x o (text_at p k.name) s t.instance t.is t.object.named))
        (good_give Heap (IsObject k) x t.instance s h t.object);
  }

  -- the object of class c that code runs on
  pub record Owned (w : World) (c : ℕ) (this : Option ℕ) : Type 0 where
    pub object : ℕ
    pub is : this ≡ Some object
    pub of : slice_get w object ≡ Some c

  pub owned_more : {w x : World} {c : ℕ} {this : Option ℕ} → Extends w x → Owned w c this → Owned x c this
  owned_more q o = record { object = o.object; is = o.is; of = stays _ _ q o.of }

  pub read_runs : (w : World) (c : ℕ) (k : Class) (this : Option ℕ) (f : ℕ) (d : Field) → slice_get p.classes c ≡ Some k →
      Owned w c this → slice_get k.fields f ≡ Some d →
      Runs Heap (OfType p Heap d.ty) w (read_field (text_at p k.name) this (text_at p d.name))
  read_runs w c k this f d g own e =
      runs_at Heap (OfType p Heap d.ty) w this own.object
      (λ o. object_of (text_at p k.name) o >>= λ i. found (find bytes_eq (text_at p d.name) i.fields)) own.is
      (runs_then Heap (IsObject k) (OfType p Heap d.ty) w (object_of (text_at p k.name) own.object)
      (λ i. found (find bytes_eq (text_at p d.name) i.fields)) (object_runs w own.object c k own.of g)
      (λ x i q is. let v = finds_field p k.fields f d (ok.classes c k g).fields_apart is.fields e in
      runs_found Heap (OfType p Heap d.ty) x (find bytes_eq (text_at p d.name) i.fields) v.value v.is (λ y r. fits_more p r v.fits)))

  set_runs : (w : World) (o c : ℕ) (k : Class) (i : Instance) → slice_get w o ≡ Some c → slice_get p.classes c ≡ Some k → IsObject k w i →
      Runs Heap (Anything p Heap) w (objects >>= λ heap. with_objects (slice_set heap o i))
  set_runs w o c k i e g is = record {
    run = λ x q s h. good_give Heap (Anything p Heap) x tt _
        (record { objects = objects_set i h.objects o (stays o c q e) g (object_more q is) }) tt;
  }

  pub write_runs : (w : World) (c : ℕ) (k : Class) (this : Option ℕ) (f : ℕ) (d : Field) (v : Value) → slice_get p.classes c ≡ Some k →
      Owned w c this → slice_get k.fields f ≡ Some d → Fits p w v d.ty →
      Runs Heap (Anything p Heap) w (write_field (text_at p k.name) this (text_at p d.name) v)
  write_runs w c k this f d v g own e fv =
      let name = text_at p d.name in
      runs_at Heap (Anything p Heap) w this own.object
      (λ o. object_of (text_at p k.name) o >>= λ i. found (put bytes_eq name v i.fields) >>= λ row. objects >>= λ heap. with_objects
      (slice_set heap o (record i { fields = row }))) own.is
      (runs_then Heap (IsObject k) (Anything p Heap) w (object_of (text_at p k.name) own.object)
      (λ i. found (put bytes_eq name v i.fields) >>= λ row. objects >>= λ heap. with_objects
      (slice_set heap own.object (record i { fields = row }))) (object_runs w own.object c k own.of g)
      (λ x i q is. let r = puts_field p k.fields f d v (ok.classes c k g).fields_apart is.fields e (fits_more p q fv) in
      runs_at Heap (Anything p Heap) x (put bytes_eq name v i.fields) r.row
      (λ row. objects >>= λ heap. with_objects (slice_set heap own.object (record i { fields = row }))) r.is
      (set_runs x own.object c k (record i { fields = r.row }) (stays _ _ q own.of) g (record { named = is.named; fields = r.fits }))))

  pub make_runs : (w : World) (c : ℕ) (k : Class) (i : Instance) → slice_get p.classes c ≡ Some k → ((x : World) → IsObject k x i) →
      Runs Heap (OfType p Heap (types.Object c)) w (make i)
  make_runs w c k i g is = record {
    run = λ x q s h.
        let grown : Extends x (x ++ c ∷ []) = record { later = c ∷ []; is = refl } in
        record {
          world = x ++ c ∷ [];
          grown = grown;
          state = record { objects = objects_add i c (objects_more grown h.objects) g (is (x ++ c ∷ [])) };
          is = worlds.object (ap (slice_get (x ++ c ∷ [])) (objects_length h.objects) ∙ get_last x c);
        };
  }

  pub receiver_runs : (c : ℕ) (w : World) (v : Value) → Fits p w v (types.Object c) →
      Runs Heap (λ w o. slice_get w o ≡ Some c) w (receiver v)
  receiver_runs c w v worlds.null = runs_stop Heap (λ w o. slice_get w o ≡ Some c) w values.Null (λ e. cc)
  receiver_runs c w v (worlds.object {o = o} e) = runs_give Heap (λ w o. slice_get w o ≡ Some c) w o (λ x q. stays o c q e)

  pub telling_runs : (t : CoreType) (w : World) (o : ℕ) (m : Name) (call : Run Shared (Option Value)) →
      Runs Heap (λ w r. GivesA p w r t) w call → Runs Heap (λ w r. GivesA p w r t) w (telling o m call)
  telling_runs t w o m call r =
      runs_then Heap (Anything p Heap) (λ w r. GivesA p w r t) w (note (seen.Enter o m))
      (λ done. call >>= λ r. note (seen.Leave o (answer_of r)) >>= λ done. give r) (note_runs p Heap noted w (seen.Enter o m))
      (λ x d q u. runs_then Heap (λ w r. GivesA p w r t) (λ w r. GivesA p w r t) x call
      (λ r. note (seen.Leave o (answer_of r)) >>= λ done. give r) (runs_later Heap q r)
      (λ y a z g. runs_then Heap (Anything p Heap) (λ w r. GivesA p w r t) y (note (seen.Leave o (answer_of a))) (λ done. give a)
      (note_runs p Heap noted y (seen.Leave o (answer_of a)))
      (λ v d z u. runs_give Heap (λ w r. GivesA p w r t) v a (λ x r. gives_more p (worlds.further z r) g))))
