-- Linking finds the members of a program's classes under their names.
use Rattle.std.proofs.Common.{◌≡◌, ◌⊎◌, inl, inr, ℕ, zero, suc, ◌+◌, Bool, true, false, ◌&&◌, not, List, [], ◌∷◌, map, Option}
use Rattle.std.proofs.Common.{Some, None, Err, slice_get, option_and_then, position}
use Rattle.std.proofs.Common.{refl, sym, ap, ◌∙◌, subst, arith, if◌then◌else◌}
use Rattle.std.specs.Str.{bytes_eq}
use Rattle.std.proofs.lemmas.Slice.Eq.{bytes_eq-Decides}
use Rattle.mg_text.specs.Call.{Name}
use Rattle.ts_tree.specs.Proper.{AreDistinct}
use Rattle.cls_tree.specs.Pool.{Signature, Reference}
use Rattle.vm_model.specs.Program.{Args}
use Rattle.vm_model.specs.Program as machine
use Rattle.vm_model.specs.Types.{FieldType}
use Rattle.vm_model.specs.Linked.{fits_code}
use Rattle.vm_model.specs.Links.{Outline, Declared, UnknownClass}
use Rattle.vm_model.specs.Links.{loaded, is_known, is_member, member_args}
use Rattle.vm_model.specs.Links.{loaded_member, field_of_class, args_by}
use Rattle.vm_model.specs.Links.{judged_args, judged_member, descriptor_flaw, field_types}
use Rattle.jv_core.specs.Tree.{Field, Class, Program}
use Rattle.jv_core.specs.Lookup.{text_at}
use Rattle.jv_core.specs.Types.{HasTypestate}
use Rattle.jv_core.specs.Conditions.{IsCore}
use Rattle.gen_rules.specs.Members.{member, class_name, field_member, field_reference}
use Rattle.gen_rules.specs.Members.{field_descriptor}
use Rattle.gen_rules.specs.Classes.{Compiled, IsCompiledClass, AreCompiledClasses}
use Rattle.gen_rules.specs.Linked.{declared_field, outline_of, outlines_of}
use Rattle.gen_links.specs.Right.{Names}
use Rattle.gen_links.specs.Known.{IsLoaded, NamesField}
use Rattle.gen_links.specs.Files.{IsPlainName, HasPlainNames}
use Rattle.gen_links.proofs.Apart.{os, plain_at}
use Rattle.gen_links.proofs.Apart.{class_loaded, passes_at, some_is, slice_get-map}
use Rattle.gen_links.proofs.Described.{class_name_is, class_known, field_described}
use Rattle.gen_links.proofs.Programs.{every}

-- the compiled class of a number
pub record At (p : Program) (c : ℕ) (k : Class) (os : List Outline) (i : ℕ) : Type 0 where
  pub methods : List Compiled
  pub outline : slice_get os i ≡ Some (outline_of p k methods)
  pub compiled : IsCompiledClass p c k methods

classes_at : (p : Program) (c : ℕ) (ks : List Class) (all : List (List Compiled)) → AreCompiledClasses p c ks all → (i : ℕ) (k : Class) →
    slice_get ks i ≡ Some k → At p (c + i) k (outlines_of p ks all) i
classes_at p c [] all h i k e = absurd cc
classes_at p c (x ∷ ks) [] h i k e = absurd h
classes_at p c (x ∷ ks) (cs ∷ all) h zero k e =
    subst (λ y. At p (c + 0) y (outline_of p x cs ∷ outlines_of p ks all) zero) (some_is e)
    (record {
      methods = cs;
      outline = refl;
      compiled = let same : c ≡ c + 0
          = omega arith in subst (λ y. IsCompiledClass p y x cs) same h.0;
    })
classes_at p c (x ∷ ks) (cs ∷ all) h (suc i) k e =
    let rest = classes_at p (suc c) ks all h.1 i k e in
    let same : suc c + i ≡ c + suc i = omega arith in
    record {
      methods = rest.methods;
      outline = rest.outline;
      compiled
          = subst (λ y. IsCompiledClass p y k rest.methods) same rest.compiled;
    }

both-true : (a b : Bool) → (a && b) ≡ true → (a ≡ true) × (b ≡ true)
both-true true b h = (refl, h)
both-true false b h = absurd cc

-- a member that is found has the name that is looked for
pub member_named : (m : Signature) (static : Bool) (d : Declared) → is_member m static d ≡ true → d.name ≡ m.name
member_named m static d h =
    let names = both-true (bytes_eq d.name m.name && bytes_eq d.descriptor m.descriptor) (if static
    then d.is_static else not d.is_static) h in
    (bytes_eq-Decides d.name m.name).0 (both-true (bytes_eq d.name m.name) (bytes_eq d.descriptor m.descriptor) names.0).0

pub same_text : (x : Name) → bytes_eq x x ≡ true
same_text x = (bytes_eq-Decides x x).1 refl

field_names : (p : Program) (ds : List Field) → map (λ d. d.name) (map (declared_field p) ds) ≡ map (λ f. text_at p f.name) ds
field_names p [] = refl
field_names p (d ∷ ds) = ap (λ xs. text_at p d.name ∷ xs) (field_names p ds)

-- what is known, described and found is a member
pub names_by : (os : List Outline) (count op : ℕ) (r : Reference) (types : Option (List FieldType)) (args : Args) →
    is_known os r.class ≡ true →
    descriptor_flaw os None types ≡ None → member_args os op r ≡ Some args → fits_code count op args ≡ true →
    Names os count op r types
names_by os count op r types args k d f fits = record {
  args = args;
  judged =
      ap (λ b. if b then judged_member os op r (descriptor_flaw os None types) else Err (UnknownClass r.class)) k
      ∙ ap (judged_member os op r) d ∙ ap (judged_args r.member.name) f;
  found = f;
  fits = fits;
}

module _ (p : Program) (core : IsCore p) (plain : HasPlainNames p) (all : List (List Compiled))
    (compiled : AreCompiledClasses p 0 p.classes all) where
  abbrev pub here : List Outline
  here = os p core plain all compiled

  pub class_at : (c : ℕ) (k : Class) → slice_get p.classes c ≡ Some k → At p c k here c
  class_at c k e = let same : 0 + c ≡ c = omega arith in subst (λ x. At p x k here c) same (classes_at p 0 p.classes all compiled c k e)

  pub named_class : (c : ℕ) (k : Class) → slice_get p.classes c ≡ Some k → loaded here (class_name p c) ≡ Some c
  named_class c k at = ap (loaded here) (class_name_is p core plain all compiled c k at) ∙ class_loaded p core plain all compiled c k at

  pub plain_class : (c : ℕ) (k : Class) → slice_get p.classes c ≡ Some k → IsPlainName (class_name p c)
  plain_class c k at = subst IsPlainName (sym (class_name_is p core plain all compiled c k at)) (plain_at p.names plain k.name)

  pub knows_class : (c : ℕ) → HasTypestate p c → IsLoaded here (class_name p c)
  knows_class c h = record { number = c; is = named_class c h.class h.at }

  -- Fields.

  module _ (c f : ℕ) (k : Class) (d : Field) (at : slice_get p.classes c ≡ Some k) (of : slice_get k.fields f ≡ Some d) where
    abbrev referred : Reference
    referred = member (class_name p c) (text_at p d.name) (field_descriptor p d.ty)

    field_is : field_reference p c f ≡ referred
    field_is = ap (λ x. field_member p c (option_and_then (λ y. slice_get y.fields f) x)) at ∙ ap (field_member p c) of

    field_position : position (is_member referred.member false) (map (declared_field p) k.fields) ≡ Some f
    field_position =
        passes_at (λ x. x.name) (is_member referred.member false) (map (declared_field p) k.fields) f (declared_field p d)
        (subst AreDistinct (sym (field_names p k.fields)) (core.classes c k at).fields_apart)
        (slice_get-map (declared_field p) k.fields f d of)
        (rw (same_text (text_at p d.name), same_text (field_descriptor p d.ty)) refl)
        (λ b t. member_named referred.member false b t)

    field_in_class : field_of_class referred.member (slice_get here c) ≡ Some f
    field_in_class = ap (field_of_class referred.member) (class_at c k at).outline ∙ field_position

    field_found : (op : ℕ) → (op ≡ 180) ⊎ (op ≡ 181) → member_args here op referred ≡ Some (machine.Field c f)
    field_found op (inl e) = subst (λ x. member_args here x referred ≡ Some (machine.Field c f)) (sym e)
        (ap (loaded_member here 180 referred.member) (named_class c k at) ∙ ap (args_by (machine.Field c)) field_in_class)
    field_found op (inr e) = subst (λ x. member_args here x referred ≡ Some (machine.Field c f)) (sym e)
        (ap (loaded_member here 181 referred.member) (named_class c k at) ∙ ap (args_by (machine.Field c)) field_in_class)

    field_fits : (count op : ℕ) → (op ≡ 180) ⊎ (op ≡ 181) → fits_code count op (machine.Field c f) ≡ true
    field_fits count op (inl e) = subst (λ x. fits_code count x (machine.Field c f) ≡ true) (sym e) refl
    field_fits count op (inr e) = subst (λ x. fits_code count x (machine.Field c f) ≡ true) (sym e) refl

    pub knows_field : (count op : ℕ) → (op ≡ 180) ⊎ (op ≡ 181) → NamesField here count op (field_reference p c f)
    knows_field count op e =
        subst (NamesField here count op) (sym field_is)
        (names_by here count op referred (field_types (field_descriptor p d.ty)) (machine.Field c f)
        (class_known p core plain all compiled c k at)
        (field_described p core plain all compiled None d.ty
        (every (λ x. Rattle.jv_core.specs.Members.IsField p x) k.fields (core.classes c k at).fields f d of).type)
        (field_found op e) (field_fits count op e))
