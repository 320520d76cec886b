-- Own fields: they are read and written in the object of the frame as in the object of the meaning.
use Rattle.std.proofs.Common.{◌≡◌, ℕ, zero, suc, ◌+◌, ◌≤◌, Bool, true, false, List, [], ◌∷◌, ◌++◌, length, map, Option, Some, None, refl}
use Rattle.std.proofs.Common.{sym, ap, ◌∙◌, subst, append-nil, arith}
use Rattle.std.specs.Prelude.{slice_get, slice_set, if◌then◌else◌, Contains}
use Rattle.std.specs.Str.{bytes_eq}
use Rattle.mg_text.specs.Call.{Name}
use Rattle.mg_text.specs.declared.event.BadKind.TheVariants as bad
use Rattle.ts_tree.specs.Proper.{AreDistinct}
use Rattle.jv_values.specs.Values.{Value, Row, Shared, Instance, Inputs, find, put, over}
use Rattle.jv_values.specs.Values as values
use Rattle.jv_values.specs.Doing.{Run, Gives, and_then, ◌>>=◌, give, found, valuing, objects, with_objects}
use Rattle.jv_values.specs.Objects.{object_of, read_field, write_field}
use Rattle.jv_core.specs.declared.tree.Var.TheVariants as vars
use Rattle.jv_core.specs.declared.program.CoreType.{CoreType}
use Rattle.jv_core.specs.declared.program.CoreType.TheVariants as types
use Rattle.jv_core.specs.Tree.{Class, Field, Method, Program}
use Rattle.jv_core.specs.Lookup.{text_at, field_type}
use Rattle.jv_core.specs.Members.{IsField}
use Rattle.jv_core.specs.Conditions.{IsCore}
use Rattle.jv_core.specs.Meaning.{Lower, own_field, read}
use Rattle.vm_model.specs.declared.value.Value.{Value as Held}
use Rattle.vm_model.specs.declared.value.Value.TheVariants as held
use Rattle.vm_model.specs.Program as linked
use Rattle.vm_model.specs.Links.{Outline}
use Rattle.vm_model.specs.Messages.{Messages}
use Rattle.vm_model.specs.Machine.{Machine, Went}
use Rattle.vm_model.specs.Actions.{Read, Write}
use Rattle.vm_model.specs.Types.{Named}
use Rattle.vm_model.specs.Tests.{Any, Typed, misfit, misfit_class, type_in}
use Rattle.vm_model.specs.Step.{step, broken, goes, next, reads_object, writes_object}
use Rattle.gen_rules.specs.Symbolic.{Instr, aload, getfield, putfield}
use Rattle.gen_rules.specs.Members.{field_reference}
use Rattle.gen_rules.specs.Spans.{◌then◌, one}
use Rattle.gen_rules.specs.Frames.{max_stack}
use Rattle.jv_sound.proofs.Lists.{some_is, same_name, name_is, get_in, each_at}
use Rattle.jv_sound.proofs.Worlds.{World, Fits, FieldsFit, Finds, PutsField, name_of, finds_field, puts_field}
use Rattle.jv_sound.proofs.Worlds as worlds
use Rattle.jv_sound.proofs.Objects.{Heap, Owned, object_is}
use Rattle.jv_sound.proofs.Expressions.{FieldAt, field_at}
use Rattle.gen_sound.specs.Following.{Moment, Comes, Leads, Follows}
use Rattle.gen_sound.specs.Arriving.{ValueAt}
use Rattle.gen_sound.specs.Related.{Running, moment, flat, object_in, heap_in, LaidObject, RunsCode}
use Rattle.vm_world_law.specs.Meant.{Holds}
use Rattle.gen_sound.proofs.Steps.{comes_on, lead_of}
use Rattle.gen_sound.proofs.Taking.{step_takes}
use Rattle.gen_sound.proofs.Forms.{next_place, goes as goes_there}
use Rattle.gen_sound.proofs.LocalSteps.{load_goes}
use Rattle.gen_sound.proofs.Linkage.{Linkage, FieldStands}
use Rattle.gen_sound.proofs.Fitting.{ObjectAt, object_at, object_fits, type_fits}

-- Rows of fields.

abbrev pub flat_row : Row Name → List Held
flat_row row = map (λ e. flat e.1) row

map_set : {A B : Type 0} (f : A → B) (xs : List A) (i : ℕ) (x : A) → map f (slice_set xs i x) ≡ slice_set (map f xs) i (f x)
map_set f [] i x = refl
map_set f (y ∷ xs) zero x = refl
map_set f (y ∷ xs) (suc i) x = ap (λ ys. f y ∷ ys) (map_set f xs i x)

module _ (p : Program) (w : World) where
  -- the field of a number lies at its place
  field_held : (fs : List Field) {row : Row Name} (i : ℕ) (d : Field) (v : Value) → AreDistinct (map (name_of p) fs) →
      FieldsFit p w fs row → slice_get fs i ≡ Some d → find bytes_eq (name_of p d) row ≡ Some v → slice_get (flat_row row) i ≡ Some (flat v)
  field_held [] i d v a r e g = absurd (cc)
  field_held (f ∷ fs) zero d v a (worlds.more {v = u} {row = row} h r) e g =
      let same : f ≡ d = some_is e in
      let first : bytes_eq (name_of p d) (name_of p f) ≡ true =
      subst (λ h. bytes_eq (name_of p d) (name_of p h) ≡ true) (sym same) (same_name (name_of p d)) in
      ap (λ x. Some (flat x)) (some_is (sym (ap (λ b. if b then Some u else find bytes_eq (name_of p d) row) first) ∙ g))
  field_held (f ∷ fs) (suc i) d v a (worlds.more {v = u} {row = row} h r) e g =
      go (λ k. field_held fs i d v a.1 r e k) (bytes_eq (name_of p d) (name_of p f)) refl g
    where
      go : (find bytes_eq (name_of p d) row ≡ Some v → slice_get (flat_row row) i ≡ Some (flat v)) → (b : Bool) →
          bytes_eq (name_of p d) (name_of p f) ≡ b → (if b then Some u else find bytes_eq (name_of p d) row) ≡ Some v →
          slice_get (flat_row row) i ≡ Some (flat v)
      go ih true is k = absurd (a.0 (subst (Contains (map (name_of p) fs)) (name_is _ _ is) (get_in (name_of p) fs i d e)))
      go ih false is k = ih k

  over_set : (x : Name × Value) (o : Option (Row Name)) (set : Row Name) (P : List Held → Type 0) →
      over x o ≡ Some set → ((y : Row Name) → o ≡ Some y → P (flat x.1 ∷ flat_row y)) → P (flat_row set)
  over_set x None set P e k = absurd (cc)
  over_set x (Some y) set P e k = subst (λ z. P (flat_row z)) (some_is e) (k y refl)

  -- and it is set there
  field_set : (fs : List Field) {row : Row Name} (i : ℕ) (d : Field) (v : Value) (set : Row Name) → AreDistinct (map (name_of p) fs) →
      FieldsFit p w fs row → slice_get fs i ≡ Some d → put bytes_eq (name_of p d) v row ≡ Some set →
      flat_row set ≡ slice_set (flat_row row) i (flat v)
  field_set [] i d v set a r e g = absurd (cc)
  field_set (f ∷ fs) zero d v set a (worlds.more {v = u} {row = row} h r) e g =
      let same : f ≡ d = some_is e in
      let first : bytes_eq (name_of p d) (name_of p f) ≡ true =
      subst (λ h. bytes_eq (name_of p d) (name_of p h) ≡ true) (sym same) (same_name (name_of p d)) in
      ap flat_row (some_is (sym g ∙ ap (λ b. if b then Some ((name_of p f, v) ∷ row) else over (name_of p f, u)
      (put bytes_eq (name_of p d) v row)) first))
  field_set (f ∷ fs) (suc i) d v set a (worlds.more {v = u} {row = row} h r) e g =
      go (λ s k. field_set fs i d v s a.1 r e k) (bytes_eq (name_of p d) (name_of p f)) refl g
    where
      go : ((s : Row Name) → put bytes_eq (name_of p d) v row ≡ Some s → flat_row s ≡ slice_set (flat_row row) i (flat v)) → (b : Bool) →
          bytes_eq (name_of p d) (name_of p f) ≡ b →
          (if b then Some ((name_of p f, v) ∷ row) else over (name_of p f, u) (put bytes_eq (name_of p d) v row)) ≡ Some set →
          flat_row set ≡ flat u ∷ slice_set (flat_row row) i (flat v)
      go ih true is k = absurd (a.0 (subst (Contains (map (name_of p) fs)) (name_is _ _ is) (get_in (name_of p) fs i d e)))
      go ih false is k = over_set (name_of p f, u) (put bytes_eq (name_of p d) v row) set
          (λ xs. xs ≡ flat u ∷ slice_set (flat_row row) i (flat v)) k (λ y z. ap (λ xs. flat u ∷ xs) (ih y z))

module _ (p : Program) (ok : IsCore p) (os : List Outline) (program : linked.Program) (inputs : Inputs) (me : ℕ)
    (known : Linkage p os program me) (r : Running) (m : Method) (code : List Instr) (runs : RunsCode p os program me r m code) (n : ℕ)
    (low : Lower) (number : ℕ) (this : Option ℕ) (f : ℕ) (t : CoreType) (typed : field_type p m.class f ≡ Some t) where
  abbrev there : FieldAt p m.class f t
  there = field_at p m.class f t typed

  abbrev stands : FieldStands p os program m.class f there.field
  stands = known.field m.class f there.class there.field there.at there.field_at

  pub apart : AreDistinct (map (name_of p) there.class.fields)
  apart = (ok.classes m.class there.class there.at).fields_apart

  -- the object is of the class whose field is meant
  object_meets : (x : World) (s : Shared) → Heap p ok x s → (o : ℕ) → slice_get x o ≡ Some m.class →
      misfit program (heap_in p s.heap) (Typed (Named (linked.class_name program m.class))) (held.Object o) ≡ None
  object_meets x s heap o of =
      subst (λ name. misfit_class program (heap_in p s.heap) name (held.Object o) ≡ None)
      (sym (known.class_named m.class there.class there.at))
      (object_fits p ok os program me known x s heap o m.class there.class of there.at)

  abbrev names_then : {B : Type 0} → Option Class → (Name × Name → Run Shared B) → Run Shared B
  names_then o g = (found o >>= λ k. found (slice_get k.fields f) >>= λ e. give (text_at p k.name, text_at p e.name)) >>= g

  names_are : {B : Type 0} (g : Name × Name → Run Shared B) (s : Shared) →
      names_then (slice_get p.classes m.class) g s ≡ g (text_at p there.class.name, text_at p there.field.name) s
  names_are g s =
      ap (λ y. names_then y g s) there.at
      ∙ ap (λ y. ((found y >>= λ e. give (text_at p there.class.name, text_at p e.name)) >>= g) s) there.field_at

  module _ (x : World) (s : Shared) (heap : Heap p ok x s) (own : Owned p ok x m.class this) where
    abbrev it : ObjectAt p ok os program me known x m.class there.class s own.object
    it = object_at p ok os program me known x s heap own.object m.class there.class own.of there.at

    -- what the object has for the field
    abbrev has : Finds p x there.field.ty (find bytes_eq (text_at p there.field.name) it.instance.fields)
    has = finds_field p there.class.fields f there.field apart it.object.fields there.field_at

    object_given : object_of (text_at p there.class.name) own.object s ≡ Gives it.instance s
    object_given = object_is p ok x own.object (text_at p there.class.name) s it.instance it.at it.object.named

    pub read_is : (row : Row ℕ) → read p inputs low number (record { class = m.class; object = this }) row (vars.Field f) s ≡ Gives
        has.value s
    read_is row =
        names_are (λ names. read_field names.0 this names.1) s
        ∙ ap (λ y. (found y >>= λ o. object_of (text_at p there.class.name) o >>= λ i. found
        (find bytes_eq (text_at p there.field.name) i.fields)) s) own.is
        ∙ ap (λ y. and_then y (λ i. found (find bytes_eq (text_at p there.field.name) i.fields))) object_given
        ∙ ap (λ y. found y s) has.is

    get_goes : (place : ℕ) (st : List Held) (ls : List (Option Held)) (q : Messages) →
        slice_get code place ≡ Some (getfield (field_reference p m.class f)) → length st + 1 ≤ max_stack p m →
        Leads (step program me) (moment p r place (st ++ held.Object own.object ∷ []) ls s q)
        (moment p r (place + 1) (st ++ flat has.value ∷ []) ls s q)
    get_goes place st ls q at room =
        let state : Machine = (moment p r place (st ++ held.Object own.object ∷ []) ls s q).machine in
        goes_there p ok os program inputs me r m code runs n place (st ++ held.Object own.object ∷ []) ls s q (place + 1)
        (st ++ flat has.value ∷ [])
        (step_takes p os program me r m code runs place (st ++ held.Object own.object ∷ []) ls s q (getfield (field_reference p m.class f))
        (Read m.class f) at stands.reads st (held.Object own.object ∷ []) (Typed (Named (linked.class_name program m.class)) ∷ []) 1 refl
        refl
        (object_meets x s heap own.object own.of, tt) room
        ∙ ap (reads_object q state st f) it.in_heap
        ∙ ap (λ o. elim o [ None ↦ broken bad.Member | Some v ↦ goes q (next state (st ++ v ∷ [])) ])
        (field_held p x there.class.fields f there.field has.value apart it.object.fields there.field_at has.is))

    -- the code of an own field
    pub field_reads : (row : Row ℕ) (ls : List (Option Held)) → LaidObject this ls → (from to : ℕ) (st : List Held) (q : Messages) →
        (one code (aload 0) then one code (getfield (field_reference p m.class f))) from to → length st + 1 ≤ max_stack p m →
        Holds inputs q me s.events →
        Follows (step program me) n (ValueAt p program inputs me r ls to st) (moment p r from st ls s q)
        (valuing (read p inputs low number (record { class = m.class; object = this }) row (vars.Field f)) s)
    field_reads row ls laid from to st q h room holds =
        let object : Held = held.Object own.object in
        let start : Moment = moment p r from st ls s q in
        let middle : Moment = moment p r h.0 (st ++ object ∷ []) ls s q in
        let end : Moment = moment p r to (st ++ flat has.value ∷ []) ls s q in
        let loaded : Comes (step program me) start middle =
        next_place p ok os program inputs me r m code runs n (λ j. Comes (step program me) start (moment p r j (st ++ object ∷ []) ls s q))
        from h.0 h.1.1
        (load_goes p ok os program inputs me r m code runs n from st ls s q (types.Object 0) 0 (values.Object own.object) h.1.0
        (subst (λ y. LaidObject y ls) own.is laid) refl room).comes in
        let got : Comes (step program me) middle end =
        next_place p ok os program inputs me r m code runs n
        (λ j. Comes (step program me) middle (moment p r j (st ++ flat has.value ∷ []) ls s q)) h.0 to h.2.1
        (get_goes h.0 st ls q h.2.0 room).comes in
        subst (λ o. Follows (step program me) n (ValueAt p program inputs me r ls to st) start (and_then o (λ v. give (Some v))))
        (sym (read_is row))
        (record { messages = q; comes = comes_on (step program me) start middle end loaded got; holds = holds })

    -- the objects once the field is set
    abbrev puts : (v : Value) → Fits p x v t →
        PutsField p x there.class.fields (put bytes_eq (text_at p there.field.name) v it.instance.fields)
    puts v fits =
        puts_field p there.class.fields f there.field v apart it.object.fields there.field_at (subst (Fits p x v) (sym there.type) fits)

    abbrev pub set_to : (v : Value) → Fits p x v t → Shared
    set_to v fits = record s { heap = slice_set s.heap own.object (record it.instance { fields = (puts v fits).row }) }

    pub write_is : (v : Value) (fits : Fits p x v t) →
        (own_field p inputs low number (record { class = m.class; object = this }) f >>= λ names. write_field names.0 this names.1 v) s
        ≡ Gives tt (set_to v fits)
    write_is v fits =
        names_are (λ names. write_field names.0 this names.1 v) s
        ∙ ap (λ y. (found y >>= λ o. object_of (text_at p there.class.name) o >>= λ i. found
        (put bytes_eq (text_at p there.field.name) v i.fields) >>= λ row. objects >>= λ heap. with_objects
        (slice_set heap o (record i { fields = row }))) s) own.is
        ∙ ap (λ y. and_then y (λ i. found (put bytes_eq (text_at p there.field.name) v i.fields) >>= λ row. objects >>= λ heap. with_objects
        (slice_set heap own.object (record i { fields = row })))) object_given
        ∙ ap (λ y. (found y >>= λ row. objects >>= λ heap. with_objects (slice_set heap own.object (record it.instance { fields = row })))
        s)
        (puts v fits).is

    field_meets : (v : Value) → Fits p x v t → misfit program (heap_in p s.heap) (type_in (linked.field_at program m.class f)) (flat v) ≡
        None
    field_meets v fits =
        ap (λ o. misfit program (heap_in p s.heap) (type_in o) (flat v)) stands.described
        ∙ ap (λ o. misfit program (heap_in p s.heap) (elim o [ None ↦ Any | Some type ↦ Typed type ]) (flat v)) stands.typed
        ∙ type_fits p ok os program me known x s heap v there.field.ty (subst (Fits p x v) (sym there.type) fits)
        (each_at (IsField p) there.class.fields f (ok.classes m.class there.class there.at).fields there.field_at).type

    heap_set : (v : Value) (fits : Fits p x v t) →
        slice_set (heap_in p s.heap) own.object
        (record (object_in p it.instance) { fields = slice_set (flat_row it.instance.fields) f (flat v) })
        ≡ heap_in p (set_to v fits).heap
    heap_set v fits =
        ap (λ fs. slice_set (heap_in p s.heap) own.object (record (object_in p it.instance) { fields = fs }))
        (sym (field_set p x there.class.fields f there.field v (puts v fits).row apart it.object.fields there.field_at (puts v fits).is))
        ∙ sym (map_set (object_in p) s.heap own.object (record it.instance { fields = (puts v fits).row }))

    pub put_goes : (v : Value) (fits : Fits p x v t) (place : ℕ) (ls : List (Option Held)) (q : Messages) →
        slice_get code place ≡ Some (putfield (field_reference p m.class f)) →
        Leads (step program me) (moment p r place (held.Object own.object ∷ flat v ∷ []) ls s q)
        (moment p r (place + 1) [] ls (set_to v fits) q)
    put_goes v fits place ls q at =
        let args : List Held = held.Object own.object ∷ flat v ∷ [] in
        let start : Moment = moment p r place args ls s q in
        lead_of (step program me) start (moment p r (place + 1) [] ls (set_to v fits) q) None
        (step_takes p os program me r m code runs place args ls s q (putfield (field_reference p m.class f)) (Write m.class f) at
        stands.writes []
        args (Typed (Named (linked.class_name program m.class)) ∷ type_in (linked.field_at program m.class f) ∷ []) 0 refl refl
        (object_meets x s heap own.object own.of, (field_meets v fits, tt)) (omega arith)
        ∙ ap (writes_object q start.machine [] own.object f (flat v)) it.in_heap
        ∙ ap (λ hp. Went (record {
          frame = record {
            class = r.class;
            method = r.method;
            place = place + 1;
            locals = ls;
            operands = [];
            told = r.told;
          };
          callers = r.callers;
          heap = hp;
        }) q None) (heap_set v fits)) (sym (append-nil s.events))
