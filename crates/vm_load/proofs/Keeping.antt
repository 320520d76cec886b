-- What links keeps the conditions of linked programs.
use Rattle.std.proofs.Common.{◌≡◌, ℕ, zero, suc, ◌+◌, ◌<◌, Bool, true, false, cond, ◌&&◌, ◌||◌, List, [], ◌∷◌, ◌++◌, length, map, Option}
use Rattle.std.proofs.Common.{Some, None, option_map, Result, Ok, Err, is_some, nat_lt, if◌then◌else◌, ◌==◌, position, slice_get, refl, sym}
use Rattle.std.proofs.Common.{ap, ◌∙◌, arith}
use Rattle.std.specs.List.{list_all, list_any, filter, flat_map}
use Rattle.std.specs.Str.{bytes_eq}
use Rattle.std.proofs.lemmas.Bool.Decides.{nat_tests}
use Rattle.std.proofs.lemmas.List.{length-map}
use Rattle.std.proofs.lemmas.List.Folds.{list_all-append, list_all-map}
use Rattle.std.proofs.lemmas.Option.{slice_get-map, slice_get_past}
use Rattle.std.proofs.lemmas.List.Quantifiers.{position-Some}
use Rattle.mg_text.proofs.Numbered.{list_any-position, list_any-from_None}
use Rattle.mg_text.specs.Call.{Name}
use Rattle.cls_tree.specs.declared.class.Const.{Const}
use Rattle.cls_tree.specs.Tree.{Class as File, Member, Code, Instr as Read}
use Rattle.cls_tree.specs.Tree as file
use Rattle.cls_tree.specs.Layout.{instr_bytes}
use Rattle.cls_tree.specs.Jumps.{starts_from}
use Rattle.cls_tree.specs.Pool.{text_at, class_at, field_at, method_at, pushed_at, Pushed, Reference, Signature}
use Rattle.cls_tree.specs.Pool as pool
use Rattle.vm_model.specs.Types.{FieldType, Int, Truth, Named, Texts, Signature as Typed, is_main_alone, signature_of, type_of}
use Rattle.vm_model.specs.Types.{types_of_signature}
use Rattle.vm_model.specs.Program.{Args, Class, Field, Method, Built, Instr, FieldOf, MethodOf, ClassOf, Program}
use Rattle.vm_model.specs.Program as program
use Rattle.vm_model.specs.declared.linked.Built.{Built as BuiltIn}
use Rattle.vm_model.specs.Linked.{class_names, is_class, is_type, is_field_type, is_method_type, fits_code, names_part, links_instr}
use Rattle.vm_model.specs.Linked.{links_field, links_method, links_class, is_linked, is_built_in}
use Rattle.vm_model.specs.Links as links
use Rattle.vm_model.specs.Links.{Flaw, UnknownClass, BadDescriptor, UnknownMember, NoCode, Declared, Outline, declared, outline, outlines}
use Rattle.vm_model.specs.Links.{is_known, unknown_in, descriptor_flaw, field_types, method_types, field_flaw, method_flaw, field_made}
use Rattle.vm_model.specs.Links.{is_dynamic, some_in, right_in, wrong_in, judged_from, judged_instr, judged_instr_args, judged_code}
use Rattle.vm_model.specs.Links.{judged_pool, judged_new, judged_args, judged_member, judged_reference, judged_field_reference}
use Rattle.vm_model.specs.Links.{judged_method_reference, member_args, named_args, loaded_member, built_in, built_members, pushed_args}
use Rattle.vm_model.specs.Links.{or_empty, loaded, with_op, method_made, method_of_member, method_flaws, code_flaws, code_among}
use Rattle.vm_model.specs.Links.{class_flaws, linked_class, linked, flaws, duplicates, field_of_class, method_of_class, is_member, args_by}
use Rattle.vm_model.specs.Links.{super_flaw}

both_true : (a b : Bool) → a ≡ true → b ≡ true → (a && b) ≡ true
both_true a b h k = rw h k

split_nil : {A : Type 0} (xs ys : List A) → xs ++ ys ≡ [] → (xs ≡ []) × (ys ≡ [])
split_nil [] ys h = (refl, h)
split_nil (x ∷ xs) ys h = absurd cc

-- the element at a number of which nothing is wrong
flat_at : {X Y : Type 0} (f : X → List Y) (xs : List X) (i : ℕ) (x : X) → flat_map f xs ≡ [] → slice_get xs i ≡ Some x → f x ≡ []
flat_at {X = X} f [] i x h at =
    let past = slice_get_past {X = X} [] i (omega arith) in
    absurd cc
flat_at f (y ∷ xs) zero x h at =
    let same : y ≡ x = cc in
    ap f (sym same) ∙ (split_nil (f y) (flat_map f xs) h).0
flat_at f (y ∷ xs) (suc i) x h at = flat_at f xs i x (split_nil (f y) (flat_map f xs) h).1 at

some_at : {A : Type 0} (xs : List A) (i : ℕ) → i < length xs → is_some (slice_get xs i) ≡ true
some_at [] i h = absurd (omega arith)
some_at (x ∷ xs) zero h = refl
some_at (x ∷ xs) (suc i) h = some_at xs i (omega arith)

found_within : {A : Type 0} (p : A → Bool) (xs : List A) (n : ℕ) → position p xs ≡ Some n → n < length xs
found_within p [] n h = absurd cc
found_within p (x ∷ xs) n h = (position-Some p (x ∷ xs) n x h).0

all_filter : {A : Type 0} (q p : A → Bool) (xs : List A) → list_all q xs ≡ true → list_all q (filter p xs) ≡ true
all_filter q p [] h = refl
all_filter q p (x ∷ xs) h = chosen (p x) (first_of (q x) (list_all q xs) h) (all_filter q p xs (rest_of (q x) (list_all q xs) h))
  where
    first_of : (a b : Bool) → (a && b) ≡ true → a ≡ true
    first_of true b e = refl
    first_of false b e = absurd cc

    rest_of : (a b : Bool) → (a && b) ≡ true → b ≡ true
    rest_of true b e = e
    rest_of false b e = absurd cc

    chosen : (b : Bool) → q x ≡ true → list_all q (filter p xs) ≡ true → list_all q (cond b (x ∷ filter p xs) (filter p xs)) ≡ true
    chosen true e k = both_true (q x) (list_all q (filter p xs)) e k
    chosen false e k = k

any_found : {A : Type 0} (p : A → Bool) (xs : List A) (o : Option ℕ) → position p xs ≡ o → links.is_some o ≡ list_any p xs
any_found p xs None h = sym (list_any-from_None p xs h)
any_found p xs (Some n) h = let any = list_any-position p xs in grind (arith, nat_tests)

-- descriptors whose classes are known
module _ (os : List Outline) (names : List Name) (same : (name : Name) → is_known os name ≡ is_class names name) where
  known_first : (b : Bool) (name : Name) (o : Option Name) → (if b then o else Some name) ≡ None → (b ≡ true) × (o ≡ None)
  known_first true name o h = (refl, h)
  known_first false name o h = absurd cc

  all_known : (ts : List FieldType) → unknown_in os ts ≡ None → list_all (is_type names) ts ≡ true
  all_known [] h = refl
  all_known (Int ∷ ts) h = all_known ts h
  all_known (Truth ∷ ts) h = all_known ts h
  all_known (Texts ∷ ts) h = all_known ts h
  all_known (Named name ∷ ts) h =
      let first = known_first (is_known os name) name (unknown_in os ts) h in
      both_true (is_class names name) (list_all (is_type names) ts) (sym (same name) ∙ first.0) (all_known ts first.1)

  none_mapped : (o : Option Name) → option_map UnknownClass o ≡ None → o ≡ None
  none_mapped None h = refl
  none_mapped (Some n) h = absurd cc

  field_known : (flaw : Flaw) (o : Option FieldType) →
      descriptor_flaw os (Some flaw) (elim o [ None ↦ None | Some t ↦ Some (t ∷ []) ]) ≡ None → is_field_type names o ≡ true
  field_known flaw None h = absurd cc
  field_known flaw (Some t) h = one (is_type names t) (all_known (t ∷ []) (none_mapped (unknown_in os (t ∷ [])) h))
    where
      one : (b : Bool) → (b && true) ≡ true → b ≡ true
      one true e = refl
      one false e = absurd cc

  method_known : (flaw : Flaw) (b : Bool) (o : Option Typed) →
      descriptor_flaw os (Some flaw) (if b then elim o [ None ↦ None | Some s ↦ Some (types_of_signature s) ] else None) ≡ None →
      is_method_type names o ≡ true
  method_known flaw false o h = absurd cc
  method_known flaw true None h = absurd cc
  method_known flaw true (Some s) h = all_known (types_of_signature s) (none_mapped (unknown_in os (types_of_signature s)) h)

  main_alone : (flaw : Flaw) (b : Bool) (types : Option (List FieldType)) →
      descriptor_flaw os (Some flaw) (if b then types else None) ≡ None → b ≡ true
  main_alone flaw false types h = absurd cc
  main_alone flaw true types h = refl

-- what was judged to be right names parts of the program
module _ (p : Program) where
  abbrev parts : Option Args → Bool
  parts None = true
  parts (Some args) = names_part p args

  abbrev fine : Result Args Flaw → Bool
  fine (Ok args) = names_part p args
  fine (Err flaw) = true

  abbrev fine_instr : ℕ → Result Instr Flaw → Bool
  fine_instr count (Ok i) = links_instr p count i
  fine_instr count (Err flaw) = true

  parts_if : (b : Bool) (x y : Option Args) → parts x ≡ true → parts y ≡ true → parts (if b then x else y) ≡ true
  parts_if true x y h k = h
  parts_if false x y h k = k

  fine_if : (b : Bool) (x y : Result Args Flaw) → fine x ≡ true → fine y ≡ true → fine (if b then x else y) ≡ true
  fine_if true x y h k = h
  fine_if false x y h k = k

  fine_args : (name : Name) (o : Option Args) → parts o ≡ true → fine (judged_args name o) ≡ true
  fine_args name None h = refl
  fine_args name (Some args) h = h

  fine_pushed : (o : Option Pushed) → fine (Ok (pushed_args o)) ≡ true
  fine_pushed None = refl
  fine_pushed (Some (pool.Int n)) = refl
  fine_pushed (Some (pool.Letters text)) = refl

  kept_if : (count op : ℕ) (args : Args) (flaw : Flaw) (b : Bool) → fits_code count op args ≡ b → names_part p args ≡ true →
      fine_instr count (if b then Ok (record { op = op; args = args }) else Err flaw) ≡ true
  kept_if count op args flaw false e h = refl
  kept_if count op args flaw true e h = both_true (fits_code count op args) (names_part p args) e h

  fine_op : (count op : ℕ) (r : Result Args Flaw) → fine r ≡ true → fine_instr count (with_op count op r) ≡ true
  fine_op count op (Err flaw) h = refl
  fine_op count op (Ok args) h = kept_if count op args (UnknownMember []) (fits_code count op args) refl h

  right_cons : (count : ℕ) (r : Result Instr Flaw) (rs : List (Result Instr Flaw)) → fine_instr count r ≡ true →
      list_all (links_instr p count) (right_in rs) ≡ true → list_all (links_instr p count) (right_in (r ∷ rs)) ≡ true
  right_cons count (Ok i) rs h k = both_true (links_instr p count i) (list_all (links_instr p count) (right_in rs)) h k
  right_cons count (Err flaw) rs h k = k

  module _ (os : List Outline) (member : (op : ℕ) (m : Signature) (class : Name) → parts (loaded_member os op m (loaded os class)) ≡ true)
      (made : (name : Name) → fine (judged_new name (loaded os name)) ≡ true) where
    fine_named : (op : ℕ) (r : Reference) (b : Option BuiltIn) → parts (named_args os op r b) ≡ true
    fine_named op r None = member op r.member r.class
    fine_named op r (Some b) = refl

    fine_member : (op : ℕ) (r : Reference) (flaw : Option Flaw) → fine (judged_member os op r flaw) ≡ true
    fine_member op r None = fine_args r.member.name (member_args os op r) (fine_named op r (built_in op r built_members))
    fine_member op r (Some flaw) = refl

    fine_reference : (op : ℕ) (r : Reference) (ts : Option (List FieldType)) → fine (judged_reference os op r ts) ≡ true
    fine_reference op r ts =
        fine_if (is_known os r.class) (judged_member os op r (descriptor_flaw os None ts)) (Err (UnknownClass r.class))
        (fine_member op r (descriptor_flaw os None ts)) refl

    fine_field : (op : ℕ) (r : Option Reference) → fine (judged_field_reference os op r) ≡ true
    fine_field op None = refl
    fine_field op (Some r) = fine_reference op r (field_types r.member.descriptor)

    fine_method : (op : ℕ) (r : Option Reference) → fine (judged_method_reference os op r) ≡ true
    fine_method op None = refl
    fine_method op (Some r) = fine_reference op r (method_types r.member.name r.member.descriptor)

    fine_pool : (constants : List Const) (op n : ℕ) → fine (judged_pool os constants op n) ≡ true
    fine_pool constants op n =
        let of_fields : Result Args Flaw = judged_field_reference os op (field_at constants n) in
        let of_methods : Result Args Flaw = judged_method_reference os op (method_at constants n) in
        let rest : Result Args Flaw = Ok (pushed_args (pushed_at constants n)) in
        let name : Name = or_empty (class_at constants n) in
        let more : Result Args Flaw = if op == 182 || (op == 183 || op == 184) then of_methods else rest in
        let fields : Result Args Flaw = if op == 178 || (op == 180 || op == 181) then of_fields else more in
        fine_if (op == 187) (judged_new name (loaded os name)) fields (made name)
        (fine_if (op == 178 || (op == 180 || op == 181)) of_fields more (fine_field op (field_at constants n))
        (fine_if (op == 182 || (op == 183 || op == 184)) of_methods rest (fine_method op (method_at constants n))
        (fine_pushed (pushed_at constants n))))

    fine_instr_args : (constants : List Const) (starts : List ℕ) (place op : ℕ) (args : file.Args) →
        fine (judged_instr_args os constants starts place op args) ≡ true
    fine_instr_args constants starts place op file.None = refl
    fine_instr_args constants starts place op (file.Number n) = refl
    fine_instr_args constants starts place op (file.Local n) = refl
    fine_instr_args constants starts place op (file.Pool n) = fine_pool constants op n
    fine_instr_args constants starts place op (file.Jump d) = refl
    fine_instr_args constants starts place op (file.Add local n) = refl
    fine_instr_args constants starts place op (file.Table default low offsets) = refl

    all_right : (constants : List Const) (starts : List ℕ) (place : ℕ) (is : List Read) →
        list_all (links_instr p (length starts)) (right_in (judged_from os constants starts place is)) ≡ true
    all_right constants starts place [] = refl
    all_right constants starts place (i ∷ is) =
        right_cons (length starts) (judged_instr os constants starts place i)
        (judged_from os constants starts (place + length (instr_bytes place i)) is)
        (fine_op (length starts) i.op (judged_instr_args os constants starts place i.op i.args)
        (fine_instr_args constants starts place i.op i.args))
        (all_right constants starts (place + length (instr_bytes place i)) is)

-- what a sound code keeps
right_length : {A : Type 0} (rs : List (Result A Flaw)) → wrong_in rs ≡ [] → length (right_in rs) ≡ length rs
right_length [] h = refl
right_length (Ok a ∷ rs) h = ap suc (right_length rs h)
right_length (Err f ∷ rs) h = absurd cc

judged_length : (os : List Outline) (constants : List Const) (starts : List ℕ) (place : ℕ) (is : List Read) →
    length (judged_from os constants starts place is) ≡ length is
judged_length os constants starts place [] = refl
judged_length os constants starts place (i ∷ is) = ap suc (judged_length os constants starts (place + length (instr_bytes place i)) is)

starts_length : (place : ℕ) (is : List Read) → length (starts_from place is) ≡ length is
unfolding starts_from
starts_length place [] = refl
starts_length place (i ∷ is) = ap suc (starts_length (place + length (instr_bytes place i)) is)

some_none : (o : Option Flaw) (fs : List (Option Flaw)) → some_in (o ∷ fs) ≡ [] → (o ≡ None) × (some_in fs ≡ [])
some_none None fs h = (refl, h)
some_none (Some f) fs h = absurd cc

module _ (os : List Outline) (constants : List Const) where
  one_more : (d : Declared) (code : Option Code) (rest : List MethodOf) → code_flaws os constants d.name code ≡ [] →
      length (method_made os constants d code ++ rest) ≡ suc (length rest)
  one_more d None rest h = absurd cc
  one_more d (Some c) rest h = refl

  methods_length : (ms : List Member) → flat_map (method_flaws os constants) ms ≡ [] → length (flat_map (method_of_member os constants) ms)
      ≡ length ms
  methods_length [] h = refl
  methods_length (m ∷ ms) h =
      let both = split_nil (method_flaws os constants m) (flat_map (method_flaws os constants) ms) h in
      one_more (declared constants m) (code_among m.attributes) (flat_map (method_of_member os constants) ms) both.0 ∙
      ap suc (methods_length ms both.1)

-- where nothing is wrong with a class
module _ (os : List Outline) (f : File) (right : class_flaws os f ≡ []) where
  behind_super : some_in (map (field_flaw os) (outline f).fields) ++ (some_in (map (method_flaw os) (outline f).methods)
      ++ flat_map (method_flaws os f.pool) f.methods) ≡ []
  behind_super = (split_nil (some_in (super_flaw (or_empty (class_at f.pool f.super_class)) ∷ []))
      (some_in (map (field_flaw os) (outline f).fields) ++ (some_in (map (method_flaw os) (outline f).methods)
      ++ flat_map (method_flaws os f.pool) f.methods)) right).1

  right_fields : some_in (map (field_flaw os) (outline f).fields) ≡ []
  right_fields = (split_nil (some_in (map (field_flaw os) (outline f).fields))
      (some_in (map (method_flaw os) (outline f).methods) ++ flat_map (method_flaws os f.pool) f.methods) behind_super).0

  behind_fields : some_in (map (method_flaw os) (outline f).methods) ++ flat_map (method_flaws os f.pool) f.methods ≡ []
  behind_fields = (split_nil (some_in (map (field_flaw os) (outline f).fields))
      (some_in (map (method_flaw os) (outline f).methods) ++ flat_map (method_flaws os f.pool) f.methods) behind_super).1

  right_methods : some_in (map (method_flaw os) (outline f).methods) ≡ []
  right_methods = (split_nil (some_in (map (method_flaw os) (outline f).methods)) (flat_map (method_flaws os f.pool) f.methods)
      behind_fields).0

  right_codes : flat_map (method_flaws os f.pool) f.methods ≡ []
  right_codes = (split_nil (some_in (map (method_flaw os) (outline f).methods)) (flat_map (method_flaws os f.pool) f.methods)
      behind_fields).1

-- classes, one after another
module _ (os : List Outline) (p : Program) (same : (name : Name) → is_known os name ≡ is_class (class_names p) name)
    (member : (op : ℕ) (m : Signature) (class : Name) → parts p (loaded_member os op m (loaded os class)) ≡ true)
    (made : (name : Name) → fine p (judged_new name (loaded os name)) ≡ true) where
  fields_kept : (ds : List Declared) → some_in (map (field_flaw os) ds) ≡ [] → list_all (λ d. links_field p (field_made d)) ds ≡ true
  fields_kept [] h = refl
  fields_kept (d ∷ ds) h =
      let first = some_none (field_flaw os d) (map (field_flaw os) ds) h in
      both_true (links_field p (field_made d)) (list_all (λ d. links_field p (field_made d)) ds)
      (field_known os (class_names p) same (BadDescriptor d.descriptor) (type_of d.descriptor) first.0) (fields_kept ds first.1)

  code_kept : (constants : List Const) (is : List Read) → wrong_in (judged_code os constants is) ≡ [] →
      list_all (links_instr p (length (right_in (judged_code os constants is)))) (right_in (judged_code os constants is)) ≡ true
  code_kept constants is h =
      ap (λ n. list_all (links_instr p n) (right_in (judged_code os constants is)))
      (right_length (judged_code os constants is) h ∙ judged_length os constants (starts_from 0 is) 0 is ∙ sym (starts_length 0 is))
      ∙ all_right p os member made constants (starts_from 0 is) 0 is

  method_kept : (constants : List Const) (d : Declared) (code : Option Code) → method_flaw os d ≡ None →
      code_flaws os constants d.name code ≡ [] →
      list_all (links_method p) (method_made os constants d code) ≡ true
  method_kept constants d None h k = absurd cc
  method_kept constants d (Some c) h k =
      let types = method_known os (class_names p) same (BadDescriptor d.descriptor) (is_main_alone d.name d.descriptor)
      (signature_of d.descriptor) h in
      let code = code_kept constants c.instrs k in
      let alone = main_alone os (class_names p) same (BadDescriptor d.descriptor) (is_main_alone d.name d.descriptor)
      (elim (signature_of d.descriptor) [ None ↦ None | Some s ↦ Some (types_of_signature s) ]) h in
      let described = both_true (is_main_alone d.name d.descriptor) (is_method_type (class_names p) (signature_of d.descriptor)) alone types
      in
      let links = both_true (is_main_alone d.name d.descriptor && is_method_type (class_names p) (signature_of d.descriptor))
      (list_all (links_instr p (length (right_in (judged_code os constants c.instrs)))) (right_in (judged_code os constants c.instrs)))
      described code in
      both_true ((is_main_alone d.name d.descriptor && is_method_type (class_names p) (signature_of d.descriptor))
      && list_all (links_instr p (length (right_in (judged_code os constants c.instrs)))) (right_in (judged_code os constants c.instrs)))
      true links refl

  methods_kept : (constants : List Const) (ms : List Member) → some_in (map (method_flaw os) (map (declared constants) ms)) ≡ [] →
      flat_map (method_flaws os constants) ms ≡ [] → list_all (links_method p) (flat_map (method_of_member os constants) ms) ≡ true
  methods_kept constants [] h k = refl
  methods_kept constants (m ∷ ms) h k =
      let first = some_none (method_flaw os (declared constants m)) (map (method_flaw os) (map (declared constants) ms)) h in
      let both = split_nil (method_flaws os constants m) (flat_map (method_flaws os constants) ms) k in
      list_all-append (links_method p) (method_of_member os constants m) (flat_map (method_of_member os constants) ms)
      ∙ both_true (list_all (links_method p) (method_of_member os constants m))
      (list_all (links_method p) (flat_map (method_of_member os constants) ms))
      (method_kept constants (declared constants m) (code_among m.attributes) first.0 both.0) (methods_kept constants ms first.1 both.1)

  class_kept : (f : File) → class_flaws os f ≡ [] → links_class p (linked_class os f) ≡ true
  class_kept f h =
      both_true (list_all (links_field p) (map field_made (outline f).own))
      (list_all (links_method p) (flat_map (method_of_member os f.pool) f.methods))
      (list_all-map (links_field p) field_made (outline f).own
      ∙ all_filter (λ d. links_field p (field_made d)) is_dynamic (outline f).fields (fields_kept (outline f).fields (right_fields os f h)))
      (methods_kept f.pool f.methods (right_methods os f h) (right_codes os f h))

  classes_kept : (cs : List File) → flat_map (class_flaws os) cs ≡ [] → list_all (links_class p) (map (linked_class os) cs) ≡ true
  classes_kept [] h = refl
  classes_kept (f ∷ cs) h =
      let both = split_nil (class_flaws os f) (flat_map (class_flaws os) cs) h in
      both_true (links_class p (linked_class os f)) (list_all (links_class p) (map (linked_class os) cs)) (class_kept f both.0)
      (classes_kept cs both.1)

same_names : (os : List Outline) (cs : List File) → map (λ o. o.name) (map outline cs) ≡ class_names (map (linked_class os) cs)
same_names os [] = refl
same_names os (f ∷ cs) = ap (λ l. (outline f).name ∷ l) (same_names os cs)

less : (n m : ℕ) → n < m → nat_lt n m ≡ true
less n m h = grind (arith, nat_tests)

-- what a program's own numbers name
module _ (cs : List File) (right : flat_map (class_flaws (outlines cs)) cs ≡ []) where
  class_of_number : (c : ℕ) (o : Option File) → slice_get cs c ≡ o → program.class_at (linked cs) c ≡ option_map
      (linked_class (outlines cs)) o
  class_of_number c o at = slice_get-map (linked_class (outlines cs)) cs c ∙ ap (option_map (linked_class (outlines cs))) at

  field_part : (m : Signature) (c : ℕ) (o : Option File) → slice_get cs c ≡ o → (k : Option ℕ) → field_of_class m (option_map outline o) ≡ k
      →
      parts (linked cs) (args_by (Field c) k) ≡ true
  field_part m c o at None h = refl
  field_part m c None at (Some n) h = absurd cc
  field_part m c (Some f) at (Some n) h =
      let within = found_within (is_member m false) (outline f).own n h in
      let count = length-map (outline f).own field_made in
      ap (λ x. is_some (slice_get (program.fields_in x) n)) (class_of_number c (Some f) at) ∙ some_at (map field_made (outline f).own) n
      (omega (arith, within, count))

  method_part : (m : Signature) (static : Bool) (c : ℕ) (o : Option File) → slice_get cs c ≡ o → (k : Option ℕ) →
      method_of_class m static (option_map outline o) ≡ k → parts (linked cs) (args_by (Method c) k) ≡ true
  method_part m static c o at None h = refl
  method_part m static c None at (Some n) h = absurd cc
  method_part m static c (Some f) at (Some n) h =
      let within = found_within (is_member m static) (outline f).methods n h in
      let count = length-map f.methods (declared f.pool) in
      let whole = methods_length (outlines cs) f.pool f.methods
      (right_codes (outlines cs) f (flat_at (class_flaws (outlines cs)) cs c f right at)) in
      ap (λ x. is_some (slice_get (program.methods_in x) n)) (class_of_number c (Some f) at)
      ∙ some_at (flat_map (method_of_member (outlines cs) f.pool) f.methods) n (omega (arith, within, count, whole))

  member_part : (op : ℕ) (m : Signature) (o : Option ℕ) → parts (linked cs) (loaded_member (outlines cs) op m o) ≡ true
  member_part op m None = refl
  member_part op m (Some c) =
      let here : slice_get (outlines cs) c ≡ option_map outline (slice_get cs c) = slice_get-map outline cs c in
      let field : Option Args = args_by (Field c) (field_of_class m (slice_get (outlines cs) c)) in
      let method : Option Args = args_by (Method c) (method_of_class m false (slice_get (outlines cs) c)) in
      let static : Option Args = args_by (Method c) (method_of_class m true (slice_get (outlines cs) c)) in
      let f : parts (linked cs) field ≡ true = field_part m c (slice_get cs c) refl (field_of_class m (slice_get (outlines cs) c))
      (ap (field_of_class m) (sym here)) in
      let g : parts (linked cs) method ≡ true =
      method_part m false c (slice_get cs c) refl (method_of_class m false (slice_get (outlines cs) c))
      (ap (method_of_class m false) (sym here)) in
      let h : parts (linked cs) static ≡ true =
      method_part m true c (slice_get cs c) refl (method_of_class m true (slice_get (outlines cs) c))
      (ap (method_of_class m true) (sym here)) in
      let last : Option Args = if op == 184 then static else None in
      let special : Option Args = if op == 183 then method else last in
      let virtual : Option Args = if op == 182 then method else special in
      let put : Option Args = if op == 181 then field else virtual in
      parts_if (linked cs) (op == 180) field put f
      (parts_if (linked cs) (op == 181) field virtual f
      (parts_if (linked cs) (op == 182) method special g
      (parts_if (linked cs) (op == 183) method last g
      (parts_if (linked cs) (op == 184) static None h refl))))

  made_part : (name : Name) (o : Option ℕ) → loaded (outlines cs) name ≡ o → fine (linked cs) (judged_new name o) ≡ true
  made_part name None h = refl
  made_part name (Some n) h =
      let within = found_within (bytes_eq name) (map (λ o. o.name) (outlines cs)) n h in
      let names = length-map (outlines cs) (λ (o : Outline). o.name) in
      let all = length-map cs outline in
      let classes = length-map cs (linked_class (outlines cs)) in
      less n (length (linked cs)) (omega (arith, within, names, all, classes))

  same_known : (name : Name) → is_known (outlines cs) name ≡ is_class (class_names (linked cs)) name
  same_known name =
      ap (λ b. is_built_in name || b) (any_found (bytes_eq name) (map (λ o. o.name) (outlines cs)) (loaded (outlines cs) name) refl
      ∙ ap (list_any (bytes_eq name)) (same_names (outlines cs) cs))

  all_kept : is_linked (linked cs) ≡ true
  unfolding is_linked
  all_kept = classes_kept (outlines cs) (linked cs) same_known (λ op m class. member_part op m (loaded (outlines cs) class))
      (λ name. made_part name (loaded (outlines cs) name) refl) cs right

-- class files with which nothing is wrong link to a program that meets the conditions
pub keeps : (cs : List File) (p : Program) → links.Links cs p → is_linked p ≡ true
keeps cs p l =
    let right = (split_nil (duplicates [] (map (λ o. o.name) (outlines cs))) (flat_map (class_flaws (outlines cs)) cs) l.right).1 in
    ap is_linked l.program ∙ all_kept cs right
