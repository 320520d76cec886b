-- What stands behind the pool of a row that is right is read, and names what it needs.
use Rattle.std.proofs.Common.{◌≡◌, ◌⊎◌, ℕ, zero, suc, ◌+◌, ◌≤◌, List, [], ◌∷◌, ◌++◌, length, take, drop, refl, sym, ap, subst, ◌∙◌}
use Rattle.std.proofs.Common.{length-drop, arith, Bool, true, false, cond, Option, Some, None, inl, inr, nat_eq, nat_lt, not, ◌&&◌, codes}
use Rattle.std.specs.Prelude.{count_by}
use Rattle.std.proofs.lemmas.List.{drop-drop}
use Rattle.std.proofs.lemmas.List.Sums.{sum_by-cons}
use Rattle.std.proofs.lemmas.Bool.{le-ltb, eqb-true, eq-eqb}
use Rattle.std.proofs.lemmas.Slice.Eq.{bytes_eq-Decides}
use Rattle.std.specs.List.{AllByRecursion}
use Rattle.cls_tree.specs.declared.class.Const.{Const}
use Rattle.cls_tree.specs.declared.instr.Form.{Form}
use Rattle.cls_tree.specs.declared.instr.Form.TheVariants as forms
use Rattle.cls_tree.specs.Opcodes.{form_of}
use Rattle.cls_tree.specs.Pool.{tag_at, text_at}
use Rattle.cls_tree.specs.Tree.{Args, Instr, Inner, Unread, Misplaced, Code, Attr, Coded, Other, Member}
use Rattle.cls_tree.specs.Tree as tree
use Rattle.cls_tree.specs.Layout.{instr_bytes}
use Rattle.cls_tree.specs.ClassFile.{is_code_text, names_code}
use Rattle.cls_tree.specs.WellFormed.{IsText, IsClass, NamesCode, OpNames, ArgsName, InstrNames, InnerNames, PlainNames, MethodNames}
use Rattle.cls_tree.specs.WellFormed.{is_code as is_coded, IsField_in, IsMethod_in}
use Rattle.cls_layout.specs.declared.format.Part.{Part}
use Rattle.cls_layout.specs.declared.format.Part.TheVariants as parts
use Rattle.cls_layout.specs.declared.format.Field.{Field}
use Rattle.cls_layout.specs.declared.ClassFault.{ClassFault}
use Rattle.cls_layout.specs.Parts.{attributes_left, attribute_holds}
use Rattle.cls_layout.specs.Row.{is_bad_entry, is_code}
use Rattle.cls_layout.specs.Faults.{unless, judged_name, ends_well, is_misnamed, args_misnamed, first_misnamed, JudgesCode, right}
use Rattle.cls_bytes.specs.Reading.{number_at, behind, pair_at, three_at, run_at, instrs_of, inner_at, counted, listed_at, body_at}
use Rattle.cls_bytes.specs.Reading.{inners_at, content_at, code_at, other_at, attr_at, member_at, members_at}
use Rattle.cls_bytes.proofs.Codes.{decoded_some}
use Rattle.cls_bytes.proofs.Clear.{Clear, unless_none, num, step, Got, counted_got}

-- the constants that were laid out are those of the pool
pub record Env (bytes last places : List ℕ) (pool : List Const) : Type 0 where
  pub tags : (tag n : ℕ) → is_bad_entry bytes last tag n ≡ false → tag_at pool n ≡ Some tag
  pub codes_so : (n : ℕ) → is_code bytes places n ≡ names_code pool n

pub not_bad : (b : Bool) (fault : ClassFault) → None ≡ unless (not b) fault → b ≡ false
not_bad true fault e = absurd (cc)
not_bad false fault e = refl

-- the fields that were passed hold no end of a content
abbrev pub Same : List Field → List Field → Type 0
Same r s = ends_well r ≡ ends_well s

abbrev pub Any : List Field → List Field → Type 0
Any r s = Unit {0}

-- ---- numbers of instructions
module _ (pool : List Const) (bad : ℕ → ℕ → Bool) (tags : (tag n : ℕ) → bad tag n ≡ false → tag_at pool n ≡ Some tag) where
  either : (a b : Bool) → (a && b) ≡ false → (a ≡ false) ⊎ (b ≡ false)
  either true b e = inr e
  either false b e = inl refl

  pushed : (n : ℕ) → (bad 3 n && bad 8 n) ≡ false → (tag_at pool n ≡ Some 3) ⊎ (tag_at pool n ≡ Some 8)
  pushed n e = elim (either (bad 3 n) (bad 8 n) e) [ inl f ↦ inl (tags 3 n f) | inr f ↦ inr (tags 8 n f) ]

  op_named : (o : Option Form) (n : ℕ) → is_misnamed bad o n ≡ false → OpNames pool o n
  op_named None n e = tt
  op_named (Some forms.Nothing) n e = tt
  op_named (Some forms.Byte) n e = tt
  op_named (Some forms.Short) n e = tt
  op_named (Some forms.Local) n e = tt
  op_named (Some forms.Increment) n e = tt
  op_named (Some forms.Jump) n e = tt
  op_named (Some forms.Table) n e = tt
  op_named (Some forms.NearConstant) n e = pushed n e
  op_named (Some forms.Constant) n e = pushed n e
  op_named (Some forms.Field) n e = tags 9 n e
  op_named (Some forms.Method) n e = tags 10 n e
  op_named (Some forms.Class) n e = tags 7 n e

  args_named : (op : ℕ) (args : Args) → args_misnamed bad op args ≡ false → ArgsName pool op args
  args_named op tree.None e = tt
  args_named op (tree.Number n) e = tt
  args_named op (tree.Local n) e = tt
  args_named op (tree.Pool n) e = op_named (form_of op) n e
  args_named op (tree.Jump n) e = tt
  args_named op (tree.Add l n) e = tt
  args_named op (tree.Table d l o) e = tt

  none_first : (b : Bool) (place : ℕ) (o : Option ℕ) → cond b (Some place) o ≡ None → (b ≡ false) × (o ≡ None)
  none_first true place o e = absurd (cc)
  none_first false place o e = (refl, e)

  pub instrs_named : (place : ℕ) (is : List Instr) → first_misnamed bad place is ≡ None → AllByRecursion (InstrNames pool) is
  unfolding first_misnamed
  instrs_named place [] e = tt
  instrs_named place (i ∷ is) e =
      let p = none_first (args_misnamed bad i.op i.args) place (first_misnamed bad (place + length (instr_bytes place i)) is) e in
      (args_named i.op i.args p.0, instrs_named (place + length (instr_bytes place i)) is p.1)

-- ---- the name of code
pub code_named : (pool : List Const) (n : ℕ) → names_code pool n ≡ true → NamesCode pool n
unfolding names_code
code_named pool n e = go (text_at pool n) e where
  go : (o : Option (List ℕ)) → is_code_text o ≡ true → o ≡ Some (codes "Code")
  go None e = absurd (cc)
  go (Some t) e = ap Some ((bytes_eq-Decides t (codes "Code")).0 e)

pub not_code_named : (pool : List Const) (n : ℕ) → names_code pool n ≡ false → NamesCode pool n → ⊥
unfolding names_code
not_code_named pool n e named =
    let k : is_code_text (Some (codes "Code")) ≡ false = rw named at e in
    absurd (cc)

-- ---- how many of the attributes are code
pub count_more : (a : Attr) (xs : List Attr) → count_by is_coded (a ∷ xs) ≡ cond (is_coded a) 1 0 + count_by is_coded xs
count_more a xs = sum_by-cons (λ x. cond (is_coded x) 1 0) a xs

at_most : (b : Bool) → cond b 1 0 ≤ 1
at_most true = omega arith
at_most false = omega arith

pub one_at_most : (a : Attr) (xs : List Attr) → count_by is_coded xs ≡ 0 → count_by is_coded (a ∷ xs) ≤ 1
one_at_most a xs e = let k = at_most (is_coded a) in omega (arith, count_more a xs, k, e)

other_count : (a : Attr) (xs : List Attr) → is_coded a ≡ false → count_by is_coded (a ∷ xs) ≡ count_by is_coded xs
other_count a xs e = count_more a xs ∙ (ap (λ (b : Bool). cond b 1 0 + count_by is_coded xs) e ∙ omega arith)

other_none : (a : Attr) (xs : List Attr) → is_coded a ≡ false → count_by is_coded xs ≡ 0 → count_by is_coded (a ∷ xs) ≡ 0
other_none a xs e z = other_count a xs e ∙ z

other_few : (a : Attr) (xs : List Attr) → is_coded a ≡ false → count_by is_coded xs ≤ 1 → count_by is_coded (a ∷ xs) ≤ 1
other_few a xs e le = let k = other_count a xs e in omega (arith, k, le)

module _ (bytes last places : List ℕ) (pool : List Const) (env : Env bytes last places pool) where
  text_named : (n : ℕ) (fault : ClassFault) → None ≡ unless (not (is_bad_entry bytes last 1 n)) fault → IsText pool n
  text_named n fault e = env.tags 1 n (not_bad (is_bad_entry bytes last 1 n) fault e)

  -- ---- unread bytes behind their length
  pub run_got : (at : ℕ) (due : List Part) (c : Clear bytes last places at (parts.OtherLength ∷ due)) →
      Got bytes last places run_at (λ r. Unit {0}) at due (Same c.row)
  unfolding run_at
  run_got at due c =
      let s = step bytes last places at parts.OtherLength due c in
      let n = num bytes at parts.OtherLength in
      let t = step bytes last places (at + 4) (parts.Unread n) due s.rest in
      record {
        value = take n (drop (at + 4) bytes);
        after = at + 4 + n;
        is = rw (s.read, t.whole) (ap (λ r. Some (take n (drop (at + 4) bytes), r)) (drop-drop n (at + 4) bytes));
        fits = tt;
        rest = t.rest;
        kept = s.ends ∙ t.ends;
      }

  -- ---- attributes that are no code
  pub inner_got : (at : ℕ) (due : List Part) (c : Clear bytes last places at (parts.AttributeName ∷ due)) →
      Got bytes last places inner_at (InnerNames pool) at due (Same c.row)
  unfolding inner_at
  inner_got at due c =
      let s = step bytes last places at parts.AttributeName due c in
      let n = num bytes at parts.AttributeName in
      let r = run_got (at + 2) due s.rest in
      record {
        value = Unread n r.value;
        after = r.after;
        is = rw (s.read, r.is) refl;
        fits = text_named n _ s.judged;
        rest = r.rest;
        kept =
            s.ends ∙ r.kept;
      }

  pub plain_got : (at : ℕ) (due : List Part) (c : Clear bytes last places at (parts.AttributeName ∷ due)) →
      Got bytes last places (attr_at pool false) (PlainNames pool) at due (Any c.row)
  unfolding attr_at other_at
  plain_got at due c =
      let s = step bytes last places at parts.AttributeName due c in
      let n = num bytes at parts.AttributeName in
      let r = run_got (at + 2) due s.rest in
      record {
        value = Other n r.value;
        after = r.after;
        is = rw (s.read, r.is) refl;
        fits = text_named n _ s.judged;
        rest = r.rest;
        kept =
            tt;
      }

  -- ---- codes
  pub body_right : (code : List ℕ) (at : ℕ) → JudgesCode (is_bad_entry bytes last) code at None →
      (is : List Instr) × (instrs_of code ≡ Some is) × AllByRecursion (InstrNames pool) is
  body_right code at (right {is = is} d e) = (is, decoded_some code is d, instrs_named pool (is_bad_entry bytes last) env.tags 0 is e)

  pub code_got : (name at : ℕ) → NamesCode pool name → (due : List Part) (c : Clear bytes last places at (parts.CodeLength ∷ due)) →
      Got bytes last places (code_at name) (MethodNames pool) at due (Any c.row)
  unfolding code_at content_at pair_at body_at run_at inners_at behind listed_at
  code_got name at named due c =
      let s1 = step bytes last places at parts.CodeLength due c in
      let n1 = num bytes at parts.CodeLength in
      let a1 = at + 4 in
      let s2 = step bytes last places a1 parts.Number _ s1.rest in
      let a2 = a1 + 2 in
      let s3 = step bytes last places a2 parts.Number _ s2.rest in
      let a3 = a2 + 2 in
      let s4 = step bytes last places a3 parts.CodeSize _ s3.rest in
      let n4 = num bytes a3 parts.CodeSize in
      let a4 = a3 + 4 in
      let s5 = step bytes last places a4 (parts.Code n4) _ s4.rest in
      let a5 = a4 + n4 in
      let s6 = step bytes last places a5 parts.Handlers _ s5.rest in
      let a6 = a5 + 2 in
      let s7 = step bytes last places a6 (parts.AttributeCount false) _ s6.rest in
      let n7 = num bytes a6 (parts.AttributeCount false) in
      let a7 = a6 + 2 in
      let inners = counted_got bytes last places inner_at (InnerNames pool) parts.AttributeName Same (λ r. refl) (λ r s t p q. p ∙ q)
      inner_got n7 a7 (parts.ContentEnd a1 n1 ∷ due) s7.rest in
      let s8 = step bytes last places inners.after (parts.ContentEnd a1 n1) due inners.rest in
      let body = body_right (take n4 (drop a4 bytes)) a4 s5.judged in
      let none : nat_eq (num bytes a5 parts.Handlers) 0 ≡ true = unless_none _ _ s6.judged in
      let whole : ends_well s1.rest.row ≡ true = unless_none _ _ s1.judged in
      let ends : ends_well s1.rest.row ≡ nat_eq inners.after (a1 + n1) =
      s2.ends ∙ (s3.ends ∙ (s4.ends ∙ (s5.ends ∙ (s6.ends ∙ (s7.ends ∙ (inners.kept ∙ s8.ends)))))) in
      let sum : inners.after ≡ a1 + n1 = eqb-true inners.after (a1 + n1) (sym ends ∙ whole) in
      let w = inners.rest.within in
      let test : nat_eq (length (drop a1 bytes)) (n1 + length (drop inners.after bytes)) ≡ true =
      eq-eqb (length (drop a1 bytes)) (n1 + length (drop inners.after bytes))
      (omega (arith, length-drop a1 bytes, length-drop inners.after bytes, sum, w)) in
      let zero_more : inners.after + 0 ≡ inners.after = omega arith in
      record {
        value = Coded (record {
          name = name;
          max_stack = num bytes a1 parts.Number;
          max_locals = num bytes a2 parts.Number;
          instrs =
              body.0;
          attributes = inners.value;
        });
        after = inners.after;
        is = rw (s1.read, s2.read, s3.read, s4.read, s5.whole, drop-drop n4 a4 bytes, body.1, s6.read, none, s7.read, inners.is, test) refl;
        fits = record { name = named; instrs = body.2; attributes = inners.fits.0 };
        rest = subst (λ (k : ℕ). Clear bytes last places k due) zero_more s8.rest;
        kept = tt;
      }

  -- ---- the attributes of a method, of which one is code at most
  pub record MethodOk (n : ℕ) (seen : Bool) (xs : List Attr) : Type 0 where
    pub named : AllByRecursion (MethodNames pool) xs
    pub few : count_by is_coded xs ≤ 1
    pub none : seen ≡ true → count_by is_coded xs ≡ 0

  name_right : (at : ℕ) (bad again : Bool) → None ≡ judged_name at bad again → bad ≡ false
  name_right at true again e = absurd (cc)
  name_right at false again e = refl

  seen_not : (seen : Bool) → (seen && true) ≡ false → seen ≡ true → ⊥
  seen_not true e f = absurd (cc)
  seen_not false e f = absurd (cc)

  abbrev MethodsGot : ℕ → ℕ → Bool → List Part → List Field → Type 0
  MethodsGot n at seen due row = Got bytes last places (counted (attr_at pool true) n) (MethodOk n seen) at due (Any row)

  module _ (n at : ℕ) (seen : Bool) (due : List Part) (row : List Field) (k : ℕ)
      (read : number_at 2 (drop at bytes) ≡ Some (k, drop (at + 2) bytes)) (text : IsText pool k)
      (more : (at : ℕ) (seen : Bool) (c : Clear bytes last places at (attributes_left n seen ++ due)) → MethodsGot n at seen due c.row)
    where
      one_other : names_code pool k ≡ false → Clear bytes last places (at + 2) (parts.OtherLength ∷ (attributes_left n seen ++ due)) →
          MethodsGot (suc n) at seen due row
      unfolding counted attr_at other_at
      one_other e c =
          let r = run_got (at + 2) (attributes_left n seen ++ due) c in
          let m = more r.after seen r.rest in
          record {
            value = Other k r.value ∷ m.value;
            after = m.after;
            is = rw (read, e, r.is, m.is) refl;
            fits = record {
              named = ((text, not_code_named pool k e), m.fits.named);
              few = other_few (Other k r.value) m.value refl
                  m.fits.few;
              none = λ s. other_none (Other k r.value) m.value refl (m.fits.none s);
            };
            rest = m.rest;
            kept = tt;
          }

      one_code : names_code pool k ≡ true → (seen ≡ true → ⊥) →
          Clear bytes last places (at + 2) (parts.CodeLength ∷ (attributes_left n true ++ due)) → MethodsGot (suc n) at seen due row
      unfolding counted attr_at code_at content_at
      one_code e never c =
          let r = code_got k (at + 2) (code_named pool k e) (attributes_left n true ++ due) c in
          let m = more r.after true r.rest in
          let none = m.fits.none refl in
          record {
            value = r.value ∷ m.value;
            after = m.after;
            is = rw (read, e, r.is, m.is) refl;
            fits = record { named = (r.fits, m.fits.named); few = one_at_most r.value m.value none; none = λ s. absurd (never s) };
            rest = m.rest;
            kept = tt;
          }

      one_more : (b : Bool) → names_code pool k ≡ b → (seen && b) ≡ false →
          Clear bytes last places (at + 2) (attribute_holds n seen b ++ due)
          → MethodsGot (suc n) at seen due row
      one_more true e s c = one_code e (seen_not seen s) c
      one_more false e s c = one_other e c

  pub methods_got : (n at : ℕ) (seen : Bool) (due : List Part) (c : Clear bytes last places at (attributes_left n seen ++ due)) →
      MethodsGot n at seen due c.row
  unfolding counted
  methods_got zero at seen due c = record {
    value = [];
    after = at;
    is = refl;
    fits =
        record { named = tt; few = omega arith; none = λ s. refl };
    rest = c;
    kept = tt;
  }
  methods_got (suc n) at seen due c =
      let s = step bytes last places at (parts.MethodAttribute n seen) due c in
      let k = num bytes at (parts.MethodAttribute n seen) in
      one_more n at seen due c.row k s.read (env.tags 1 k (name_right at _ _ s.judged)) (λ a b d. methods_got n a b due d)
      (is_code bytes places k) (sym (env.codes_so k)) s.lasts s.rest

  -- ---- fields and methods
  none_coded : (xs : List Attr) → AllByRecursion (PlainNames pool) xs → count_by is_coded xs ≡ 0
  none_coded [] all = refl
  none_coded (Coded c ∷ xs) all = absurd all.0
  none_coded (Other name run ∷ xs) all = other_none (Other name run) xs refl (none_coded xs all.1)

  pub field_got : (at : ℕ) (due : List Part) (c : Clear bytes last places at (parts.Member false ∷ due)) →
      Got bytes last places (member_at pool false) (IsField_in pool) at due (Any c.row)
  unfolding member_at three_at listed_at
  field_got at due c =
      let s1 = step bytes last places at (parts.Member false) due c in
      let s2 = step bytes last places (at + 2) (parts.Reference 1) _ s1.rest in
      let s3 = step bytes last places (at + 2 + 2) (parts.Reference 1) _ s2.rest in
      let s4 = step bytes last places (at + 2 + 2 + 2) (parts.AttributeCount false) _ s3.rest in
      let n = num bytes (at + 2 + 2 + 2) (parts.AttributeCount false) in
      let xs = counted_got bytes last places (attr_at pool false) (PlainNames pool) parts.AttributeName Any (λ r. tt) (λ r s t p q. tt)
      plain_got n (at + 2 + 2 + 2 + 2) due s4.rest in
      let none = none_coded xs.value xs.fits.0 in
      let few : nat_lt 1 (count_by is_coded xs.value) ≡ false = rw none refl in
      record {
        value = record {
          access = num bytes at (parts.Member false);
          name = num bytes (at + 2) (parts.Reference 1);
          descriptor =
              num bytes (at + 2 + 2) (parts.Reference 1);
          attributes = xs.value;
        };
        after = xs.after;
        is = rw (s1.read, s2.read, s3.read, s4.read, xs.is, few) refl;
        fits = record { name = text_named _ _ s2.judged; descriptor = text_named _ _ s3.judged; attributes = xs.fits.0 };
        rest = xs.rest;
        kept = tt;
      }

  pub method_got : (at : ℕ) (due : List Part) (c : Clear bytes last places at (parts.Member true ∷ due)) →
      Got bytes last places (member_at pool true) (IsMethod_in pool) at due (Any c.row)
  unfolding member_at three_at listed_at
  method_got at due c =
      let s1 = step bytes last places at (parts.Member true) due c in
      let s2 = step bytes last places (at + 2) (parts.Reference 1) _ s1.rest in
      let s3 = step bytes last places (at + 2 + 2) (parts.Reference 1) _ s2.rest in
      let s4 = step bytes last places (at + 2 + 2 + 2) (parts.AttributeCount true) _ s3.rest in
      let n = num bytes (at + 2 + 2 + 2) (parts.AttributeCount true) in
      let xs = methods_got n (at + 2 + 2 + 2 + 2) false due s4.rest in
      let few : nat_lt 1 (count_by is_coded xs.value) ≡ false = le-ltb 1 (count_by is_coded xs.value) xs.fits.few in
      record {
        value = record {
          access = num bytes at (parts.Member true);
          name = num bytes (at + 2) (parts.Reference 1);
          descriptor =
              num bytes (at + 2 + 2) (parts.Reference 1);
          attributes = xs.value;
        };
        after = xs.after;
        is = rw (s1.read, s2.read, s3.read, s4.read, xs.is, few) refl;
        fits = record {
          name = text_named _ _ s2.judged;
          descriptor = text_named _ _ s3.judged;
          attributes = xs.fits.named;
          one_code =
              xs.fits.few;
        };
        rest = xs.rest;
        kept = tt;
      }

  -- ---- all that stands behind the pool
  pub record Behind (at : ℕ) : Type 0 where
    pub access : ℕ
    pub this_class : ℕ
    pub super_class : ℕ
    pub fields : List Member
    pub methods : List Member
    pub attributes : List Attr
    pub end : ℕ
    pub three : three_at (drop at bytes) ≡ Some ((access, this_class, super_class), drop (at + 6) bytes)
    pub none : behind 2 0 (drop (at + 6) bytes) ≡ Some (drop (at + 8) bytes)
    pub members : members_at pool (drop (at + 8) bytes) ≡ Some ((fields, methods, attributes), drop end bytes)
    pub all : nat_eq (length (drop end bytes)) 0 ≡ true
    pub is_class : IsClass pool this_class
    pub is_super : IsClass pool super_class
    pub fields_named : AllByRecursion (IsField_in pool) fields
    pub methods_named : AllByRecursion (IsMethod_in pool) methods
    pub attributes_named : AllByRecursion (PlainNames pool) attributes

  pub behind_pool : (at : ℕ)
      → Clear bytes last places at (parts.Number ∷ parts.Reference 7 ∷ parts.Reference 7 ∷ parts.Interfaces ∷ parts.MemberCount false ∷
      parts.MemberCount true ∷ parts.AttributeCount false ∷ parts.End ∷ [])
      → Behind at
  unfolding three_at behind members_at listed_at
  behind_pool at c =
      let s1 = step bytes last places at parts.Number _ c in
      let s2 = step bytes last places (at + 2) (parts.Reference 7) _ s1.rest in
      let s3 = step bytes last places (at + 2 + 2) (parts.Reference 7) _ s2.rest in
      let s4 = step bytes last places (at + 2 + 2 + 2) parts.Interfaces _ s3.rest in
      let at8 = at + 2 + 2 + 2 + 2 in
      let none : nat_eq (num bytes (at + 2 + 2 + 2) parts.Interfaces) 0 ≡ true = unless_none _ _ s4.judged in
      let s5 = step bytes last places at8 (parts.MemberCount false) _ s4.rest in
      let n5 = num bytes at8 (parts.MemberCount false) in
      let fields = counted_got bytes last places (member_at pool false) (IsField_in pool) (parts.Member false) Any (λ r. tt)
      (λ r s t p q. tt) field_got n5 (at8 + 2) _ s5.rest in
      let s6 = step bytes last places fields.after (parts.MemberCount true) _ fields.rest in
      let n6 = num bytes fields.after (parts.MemberCount true) in
      let methods = counted_got bytes last places (member_at pool true) (IsMethod_in pool) (parts.Member true) Any (λ r. tt)
      (λ r s t p q. tt) method_got n6 (fields.after + 2) _ s6.rest in
      let s7 = step bytes last places methods.after (parts.AttributeCount false) _ methods.rest in
      let n7 = num bytes methods.after (parts.AttributeCount false) in
      let attrs = counted_got bytes last places (attr_at pool false) (PlainNames pool) parts.AttributeName Any (λ r. tt) (λ r s t p q. tt)
      plain_got n7 (methods.after + 2) _ s7.rest in
      let s8 = step bytes last places attrs.after parts.End [] attrs.rest in
      let six : at + 2 + 2 + 2 ≡ at + 6 = omega arith in
      let eight : at + 2 + 2 + 2 + 2 ≡ at + 8 = omega arith in
      record {
        access = num bytes at parts.Number;
        this_class = num bytes (at + 2) (parts.Reference 7);
        super_class = num bytes (at + 2 + 2) (parts.Reference 7);
        fields = fields.value;
        methods = methods.value;
        attributes = attrs.value;
        end = attrs.after;
        three = rw (s1.read, s2.read, s3.read)
            (ap (λ n. Some (
              (num bytes at parts.Number, num bytes (at + 2) (parts.Reference 7), num bytes (at + 2 + 2) (parts.Reference 7)),
              drop n bytes,
            )) six);
        none = rw (← six) (rw (s4.read, none) (ap (λ n. Some (drop n bytes)) eight));
        members = rw (← eight) (rw (s5.read, fields.is, s6.read, methods.is, s7.read, attrs.is) refl);
        all = unless_none _ _ s8.judged;
        is_class = env.tags 7 _ (not_bad _ _ s2.judged);
        is_super = env.tags 7 _ (not_bad _ _ s3.judged);
        fields_named = fields.fits.0;
        methods_named = methods.fits.0;
        attributes_named = attrs.fits.0;
      }
