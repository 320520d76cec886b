-- Where a class of a file names what it needs, by the test, it is well formed; and a class that is well formed does.
use Rattle.std.proofs.Common.{◌≡◌, ◌⊎◌, inl, inr, ℕ, ◌+◌, ◌<◌, ◌≤◌, List, [], ◌∷◌, refl, ap, sym, subst, ◌∙◌, ⊎_elim, Bool, true, false}
use Rattle.std.proofs.Common.{◌&&◌, ◌||◌, Option, Some, None, arith}
use Rattle.std.specs.Prelude.{codes, count_by}
use Rattle.std.specs.List.{list_all, AllByRecursion}
use Rattle.std.proofs.lemmas.Bool.{and_parts, and_from, or_cases, or_left, or_right, eqb-true, eq-eqb}
use Rattle.cls_tree.specs.declared.class.Const.{Const}
use Rattle.cls_tree.specs.declared.class.Const.TheVariants as consts
use Rattle.cls_tree.specs.declared.instr.Form.{Form}
use Rattle.cls_tree.specs.declared.instr.Form.TheVariants as forms
use Rattle.cls_tree.specs.Opcodes.{form_of}
use Rattle.cls_tree.specs.Pool.{tag_at}
use Rattle.cls_tree.specs.Tree.{Args, Pool, Number, Local, Jump, Add, Table, Instr, Inner, Unread, Misplaced, Code, Attr, Coded, Other}
use Rattle.cls_tree.specs.Tree.{Member, Class}
use Rattle.cls_tree.specs.Tree as tree
use Rattle.cls_tree.specs.ClassFile.{names_code, FileAttr, FileMember}
use Rattle.cls_tree.specs.WellFormed.{ConstNames, FormNames, OpNames, ArgsName, InstrNames, InnerNames, PlainNames, MethodNames}
use Rattle.cls_tree.specs.WellFormed.{NamesCode, IsField_in, IsMethod_in, IsWellFormed}
use Rattle.cls_bytes.specs.File.{IsFile}
use Rattle.cls_bytes.specs.Naming.{is_tag, has_tag, const_names, form_names, args_name, instr_names, inner_names, attr_names, member_names}
use Rattle.cls_bytes.specs.Naming.{heads_name, methods_name, bodies_name, class_names}
use Rattle.cls_bytes.proofs.Productions.{code_named, not_code_named}

-- ---- lists
all_right : {A : Type 0} (f : A → Bool) (P : A → Type 0) → ((a : A) → f a ≡ true → P a) → (xs : List A) → list_all f xs ≡ true →
    AllByRecursion P xs
all_right f P h [] e = tt
all_right f P h (x ∷ xs) e = let p = and_parts (f x) (list_all f xs) e in (h x p.0, all_right f P h xs p.1)

all_true : {A : Type 0} (f : A → Bool) (P : A → Type 0) → ((a : A) → P a → f a ≡ true) → (xs : List A) → AllByRecursion P xs →
    list_all f xs ≡ true
all_true f P h [] all = refl
all_true f P h (x ∷ xs) all = and_from (f x) (list_all f xs) (h x all.0) (all_true f P h xs all.1)

-- the same where something is known of each
all_right_of : {A : Type 0} (f : A → Bool) (K P : A → Type 0) → ((a : A) → K a → f a ≡ true → P a) → (xs : List A) →
    AllByRecursion K xs → list_all f xs ≡ true → AllByRecursion P xs
all_right_of f K P h [] known e = tt
all_right_of f K P h (x ∷ xs) known e =
    let p = and_parts (f x) (list_all f xs) e in (h x known.0 p.0, all_right_of f K P h xs known.1 p.1)

-- ---- tags
tag_is : (o : Option ℕ) (tag : ℕ) → is_tag tag o ≡ true → o ≡ Some tag
tag_is None tag e = absurd (cc)
tag_is (Some found) tag e = ap Some (eqb-true found tag e)

is_tagged : (o : Option ℕ) (tag : ℕ) → o ≡ Some tag → is_tag tag o ≡ true
is_tagged o tag e = subst (λ k. is_tag tag k ≡ true) (sym e) (eq-eqb tag tag refl)

module _ (pool : List Const) where
  found : (n tag : ℕ) → has_tag pool n tag ≡ true → tag_at pool n ≡ Some tag
  unfolding has_tag
  found n tag e = tag_is (tag_at pool n) tag e

  tagged : (n tag : ℕ) → tag_at pool n ≡ Some tag → has_tag pool n tag ≡ true
  unfolding has_tag
  tagged n tag e = is_tagged (tag_at pool n) tag e

  both_found : (m s n t : ℕ) → (has_tag pool m s && has_tag pool n t) ≡ true → (tag_at pool m ≡ Some s) × (tag_at pool n ≡ Some t)
  both_found m s n t e =
      let p = and_parts (has_tag pool m s) (has_tag pool n t) e in (found m s p.0, found n t p.1)

  both_tagged : (m s n t : ℕ) → tag_at pool m ≡ Some s → tag_at pool n ≡ Some t → (has_tag pool m s && has_tag pool n t) ≡ true
  both_tagged m s n t d e = and_from (has_tag pool m s) (has_tag pool n t) (tagged m s d) (tagged n t e)

  -- ---- constants
  const_right : (c : Const) → const_names pool c ≡ true → ConstNames pool c
  const_right (consts.Utf8 text) e = tt
  const_right (consts.Integer n) e = tt
  const_right (consts.Class name) e = found name 1 e
  const_right (consts.Text text) e = found text 1 e
  const_right (consts.Field class member) e = both_found class 7 member 12 e
  const_right (consts.Method class member) e = both_found class 7 member 12 e
  const_right (consts.NameAndType name descriptor) e = both_found name 1 descriptor 1 e

  const_true : (c : Const) → ConstNames pool c → const_names pool c ≡ true
  const_true (consts.Utf8 text) p = refl
  const_true (consts.Integer n) p = refl
  const_true (consts.Class name) p = tagged name 1 p
  const_true (consts.Text text) p = tagged text 1 p
  const_true (consts.Field class member) p = both_tagged class 7 member 12 p.0 p.1
  const_true (consts.Method class member) p = both_tagged class 7 member 12 p.0 p.1
  const_true (consts.NameAndType name descriptor) p = both_tagged name 1 descriptor 1 p.0 p.1

  -- ---- instructions
  pushed_right : (n : ℕ) → (has_tag pool n 3 || has_tag pool n 8) ≡ true → (tag_at pool n ≡ Some 3) ⊎ (tag_at pool n ≡ Some 8)
  pushed_right n e = ⊎_elim (λ a. inl (found n 3 a)) (λ b. inr (found n 8 b)) (or_cases (has_tag pool n 3) (has_tag pool n 8) e)

  pushed_true : (n : ℕ) → (tag_at pool n ≡ Some 3) ⊎ (tag_at pool n ≡ Some 8) → (has_tag pool n 3 || has_tag pool n 8) ≡ true
  pushed_true n p =
      ⊎_elim (λ a. or_left (has_tag pool n 3) (has_tag pool n 8) (tagged n 3 a)) (λ b.
      or_right (has_tag pool n 3) (has_tag pool n 8) (tagged n 8 b)) p

  form_right : (form : Form) (n : ℕ) → form_names pool (Some form) n ≡ true → FormNames pool form n
  form_right forms.Nothing n e = tt
  form_right forms.Byte n e = tt
  form_right forms.Short n e = tt
  form_right forms.Local n e = tt
  form_right forms.Increment n e = tt
  form_right forms.Jump n e = tt
  form_right forms.Table n e = tt
  form_right forms.NearConstant n e = pushed_right n e
  form_right forms.Constant n e = pushed_right n e
  form_right forms.Field n e = found n 9 e
  form_right forms.Method n e = found n 10 e
  form_right forms.Class n e = found n 7 e

  form_true : (form : Form) (n : ℕ) → FormNames pool form n → form_names pool (Some form) n ≡ true
  form_true forms.Nothing n p = refl
  form_true forms.Byte n p = refl
  form_true forms.Short n p = refl
  form_true forms.Local n p = refl
  form_true forms.Increment n p = refl
  form_true forms.Jump n p = refl
  form_true forms.Table n p = refl
  form_true forms.NearConstant n p = pushed_true n p
  form_true forms.Constant n p = pushed_true n p
  form_true forms.Field n p = tagged n 9 p
  form_true forms.Method n p = tagged n 10 p
  form_true forms.Class n p = tagged n 7 p

  op_right : (form : Option Form) (n : ℕ) → form_names pool form n ≡ true → OpNames pool form n
  op_right None n e = tt
  op_right (Some form) n e = form_right form n e

  op_true : (form : Option Form) (n : ℕ) → OpNames pool form n → form_names pool form n ≡ true
  op_true None n p = refl
  op_true (Some form) n p = form_true form n p

  args_right : (op : ℕ) (args : Args) → args_name pool op args ≡ true → ArgsName pool op args
  args_right op tree.None e = tt
  args_right op (Number n) e = tt
  args_right op (Local n) e = tt
  args_right op (Pool n) e = op_right (form_of op) n e
  args_right op (Jump n) e = tt
  args_right op (Add local n) e = tt
  args_right op (Table default low offsets) e = tt

  args_true : (op : ℕ) (args : Args) → ArgsName pool op args → args_name pool op args ≡ true
  args_true op tree.None p = refl
  args_true op (Number n) p = refl
  args_true op (Local n) p = refl
  args_true op (Pool n) p = op_true (form_of op) n p
  args_true op (Jump n) p = refl
  args_true op (Add local n) p = refl
  args_true op (Table default low offsets) p = refl

  instr_right : (i : Instr) → instr_names pool i ≡ true → InstrNames pool i
  instr_right i e = args_right i.op i.args e

  instr_true : (i : Instr) → InstrNames pool i → instr_names pool i ≡ true
  instr_true i p = args_true i.op i.args p

  -- ---- attributes
  inner_right : (a : Inner) → inner_names pool a ≡ true → InnerNames pool a
  inner_right (Unread name bytes) e = found name 1 e
  inner_right Misplaced e = absurd (cc)

  inner_true : (a : Inner) → InnerNames pool a → inner_names pool a ≡ true
  inner_true (Unread name bytes) p = tagged name 1 p
  inner_true Misplaced p = absurd p

  plain_right : (a : Attr) → FileAttr pool false a → attr_names pool a ≡ true → PlainNames pool a
  plain_right (Coded c) f e = let no : false ≡ true = f.2 in absurd (cc)
  plain_right (Other name bytes) f e = found name 1 e

  plain_true : (a : Attr) → PlainNames pool a → attr_names pool a ≡ true
  plain_true (Coded c) p = absurd p
  plain_true (Other name bytes) p = tagged name 1 p

  method_right : (a : Attr) → FileAttr pool true a → attr_names pool a ≡ true → MethodNames pool a
  method_right (Coded c) f e =
      let p = and_parts (list_all (instr_names pool) c.instrs) (list_all (inner_names pool) c.attributes) e in
      record {
        name = code_named pool c.name f.3;
        instrs = all_right (instr_names pool) (InstrNames pool) instr_right c.instrs p.0;
        attributes = all_right (inner_names pool) (InnerNames pool) inner_right c.attributes p.1;
      }
  method_right (Other name bytes) f e = (found name 1 e, not_code_named pool name f.2)

  method_true : (a : Attr) → MethodNames pool a → attr_names pool a ≡ true
  method_true (Coded c) p =
      and_from (list_all (instr_names pool) c.instrs) (list_all (inner_names pool) c.attributes)
      (all_true (instr_names pool) (InstrNames pool) instr_true c.instrs p.instrs)
      (all_true (inner_names pool) (InnerNames pool) inner_true c.attributes p.attributes)
  method_true (Other name bytes) p = tagged name 1 p.0

  -- ---- members
  field_right : (m : Member) → FileMember pool false m → member_names pool m ≡ true → IsField_in pool m
  field_right m f e =
      let p = and_parts (has_tag pool m.name 1) (has_tag pool m.descriptor 1 && list_all (attr_names pool) m.attributes) e in
      let q = and_parts (has_tag pool m.descriptor 1) (list_all (attr_names pool) m.attributes) p.1 in
      record {
        name = found m.name 1 p.0;
        descriptor = found m.descriptor 1 q.0;
        attributes = all_right_of (attr_names pool) (FileAttr pool false) (PlainNames pool) plain_right m.attributes f.attributes.0 q.1;
      }

  field_true : (m : Member) → IsField_in pool m → member_names pool m ≡ true
  field_true m p =
      and_from (has_tag pool m.name 1) (has_tag pool m.descriptor 1 && list_all (attr_names pool) m.attributes)
      (tagged m.name 1 p.name) (and_from (has_tag pool m.descriptor 1)
      (list_all (attr_names pool) m.attributes) (tagged m.descriptor 1 p.descriptor)
      (all_true (attr_names pool) (PlainNames pool) plain_true m.attributes p.attributes))

  method_all_right : (m : Member) → FileMember pool true m → member_names pool m ≡ true → IsMethod_in pool m
  method_all_right m f e =
      let p = and_parts (has_tag pool m.name 1) (has_tag pool m.descriptor 1 && list_all (attr_names pool) m.attributes) e in
      let q = and_parts (has_tag pool m.descriptor 1) (list_all (attr_names pool) m.attributes) p.1 in
      record {
        name = found m.name 1 p.0;
        descriptor = found m.descriptor 1 q.0;
        attributes = all_right_of (attr_names pool) (FileAttr pool true) (MethodNames pool) method_right m.attributes f.attributes.0 q.1;
        one_code = f.one_code;
      }

  method_all_true : (m : Member) → IsMethod_in pool m → member_names pool m ≡ true
  method_all_true m p =
      and_from (has_tag pool m.name 1) (has_tag pool m.descriptor 1 && list_all (attr_names pool) m.attributes)
      (tagged m.name 1 p.name) (and_from (has_tag pool m.descriptor 1)
      (list_all (attr_names pool) m.attributes) (tagged m.descriptor 1 p.descriptor)
      (all_true (attr_names pool) (MethodNames pool) method_true m.attributes p.attributes))

-- ---- classes
module _ (c : Class) where
  abbrev are_classes : Bool
  are_classes = has_tag c.pool c.this_class 7 && has_tag c.pool c.super_class 7

  pub well_formed : IsFile c → class_names c ≡ true → IsWellFormed c
  unfolding heads_name bodies_name methods_name
  well_formed f e =
      let both = and_parts (heads_name c) (bodies_name c) e in
      let p = and_parts (list_all (const_names c.pool) c.pool) are_classes both.0 in
      let q = and_parts (has_tag c.pool c.this_class 7) (has_tag c.pool c.super_class 7) p.1 in
      let s = and_parts (list_all (member_names c.pool) c.fields) (methods_name c) both.1 in
      let t = and_parts (list_all (member_names c.pool) c.methods) (list_all (attr_names c.pool) c.attributes) s.1 in
      record {
        pool = all_right (const_names c.pool) (ConstNames c.pool) (const_right c.pool) c.pool p.0;
        this_class = found c.pool c.this_class 7 q.0;
        super_class = found c.pool c.super_class 7 q.1;
        fields =
            all_right_of (member_names c.pool) (FileMember c.pool false) (IsField_in c.pool) (field_right c.pool) c.fields f.fields.0 s.0;
        methods =
            all_right_of (member_names c.pool) (FileMember c.pool true) (IsMethod_in c.pool) (method_all_right c.pool) c.methods f.methods.0
            t.0;
        attributes =
            all_right_of (attr_names c.pool) (FileAttr c.pool false) (PlainNames c.pool) (plain_right c.pool) c.attributes f.attributes.0 t.1;
      }

  pub names_all : IsWellFormed c → class_names c ≡ true
  unfolding heads_name bodies_name methods_name
  names_all w =
      let q : are_classes ≡ true =
      and_from (has_tag c.pool c.this_class 7) (has_tag c.pool c.super_class 7) (tagged c.pool c.this_class 7 w.this_class)
      (tagged c.pool c.super_class 7 w.super_class) in
      let p : heads_name c ≡ true =
      and_from (list_all (const_names c.pool) c.pool) are_classes
      (all_true (const_names c.pool) (ConstNames c.pool) (const_true c.pool) c.pool w.pool) q in
      let t : methods_name c ≡ true =
      and_from (list_all (member_names c.pool) c.methods) (list_all (attr_names c.pool) c.attributes)
      (all_true (member_names c.pool) (IsMethod_in c.pool) (method_all_true c.pool) c.methods w.methods)
      (all_true (attr_names c.pool) (PlainNames c.pool) (plain_true c.pool) c.attributes w.attributes) in
      let s : bodies_name c ≡ true =
      and_from (list_all (member_names c.pool) c.fields) (methods_name c)
      (all_true (member_names c.pool) (IsField_in c.pool) (field_true c.pool) c.fields w.fields) t in
      and_from (heads_name c) (bodies_name c) p s
