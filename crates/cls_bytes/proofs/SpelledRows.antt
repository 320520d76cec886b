-- Bytes that spell a well-formed class have a row that is right.
use Rattle.std.proofs.Common.{◌≡◌, ◌⊎◌, ℕ, zero, suc, ◌+◌, ◌-◌, ◌<◌, ◌≤◌, List, [], ◌∷◌, ◌++◌, length, take, drop, get_or, refl, sym, ap}
use Rattle.std.proofs.Common.{subst, ◌∙◌, length-drop, arith, Bool, true, false, cond, Option, Some, None, inl, inr, nat_eq, nat_lt, not}
use Rattle.std.proofs.Common.{◌&&◌}
use Rattle.std.specs.Prelude.{replicate, count_by}
use Rattle.std.proofs.lemmas.List.{drop-drop}
use Rattle.std.proofs.lemmas.Bool.{ltb-false, le-ltb, eqb-true, eq-eqb}
use Rattle.std.specs.List.{AllByRecursion}
use Rattle.byteorder.specs.Endian.{big_number}
use Rattle.mg_read.specs.Reader.{Reader, ◌>>=◌}
use Rattle.mg_read.proofs.Steps.{bind_some, some_is}
use Rattle.cls_tree.specs.declared.class.Const.{Const}
use Rattle.cls_tree.specs.declared.class.Const.TheVariants as consts
use Rattle.cls_tree.specs.declared.instr.Form.{Form}
use Rattle.cls_tree.specs.declared.instr.Form.TheVariants as forms
use Rattle.cls_tree.specs.Opcodes.{form_of}
use Rattle.cls_tree.specs.Pool.{tag_at, const_at as constant_at}
use Rattle.cls_tree.specs.Tree.{Args, Instr, Inner, Unread, Misplaced, Code, Attr, Coded, Other, Member, Class}
use Rattle.cls_tree.specs.Tree as tree
use Rattle.cls_tree.specs.Layout.{instr_bytes}
use Rattle.cls_tree.specs.ClassFile.{names_code}
use Rattle.cls_tree.specs.WellFormed.{IsText, NamesCode, OpNames, ArgsName, InstrNames, InnerNames, CodeNames, PlainNames, MethodNames}
use Rattle.cls_tree.specs.WellFormed.{is_code as is_coded, IsField_in, IsMethod_in}
use Rattle.cls_code.specs.Code.{Decodes, Instrs}
use Rattle.cls_code.specs.Code as decoded
use Rattle.cls_layout.specs.declared.format.Part.{Part}
use Rattle.cls_layout.specs.declared.format.Part.TheVariants as parts
use Rattle.cls_layout.specs.declared.format.Field.{Field}
use Rattle.cls_layout.specs.Parts.{size, brings, ends_row, attributes_left, content}
use Rattle.cls_layout.specs.Row.{number, is_cut, is_bad_entry, is_code, entered, stops, due_behind, next}
use Rattle.cls_layout.specs.Faults.{unless, judged_name, ends_here, ends_well, is_misnamed, args_misnamed, first_misnamed, Judges, right}
use Rattle.cls_layout.specs.Faults.{whole, behind}
use Rattle.cls_layout.specs.Laying.{field}
use Rattle.cls_bytes.specs.Reading.{number_at, pair_at, three_at, run_at, instrs_of, inner_at, counted, listed_at, body_at, inners_at}
use Rattle.cls_bytes.specs.Reading.{content_at, code_at, other_at, attr_at, member_at, members_at}
use Rattle.cls_bytes.specs.Reading as reading
use Rattle.cls_layout.proofs.Held.{held, passed}
use Rattle.cls_bytes.proofs.Steps.{IsBytes-take, IsBytes-drop}
use Rattle.cls_bytes.proofs.Codes.{code_sound}
use Rattle.cls_bytes.proofs.Clear.{Clear, num}
use Rattle.cls_bytes.proofs.Productions.{Same, Any, code_named, count_more}
use Rattle.cls_bytes.proofs.Pools.{IsBytes}

module _ (bytes last : List ℕ) where
  -- a field that is right, before a right row
  pub record Backed (places : List ℕ) (at : ℕ) (part : Part) (due : List Part) (row : List Field) : Type 0 where
    pub clear : Clear bytes last places at (part ∷ due)
    pub ends : ends_well clear.row ≡ ends_here part at (ends_well row)

  pub back : (places : List ℕ) (at : ℕ) (part : Part) (due : List Part) → nat_lt (length (drop at bytes)) (size part) ≡ false
      → ends_row part (num bytes at part) (is_code bytes places (num bytes at part)) ≡ false
      → (rest : Clear bytes last (entered part at places) (at + size part)
      (brings part at (num bytes at part) (is_code bytes places (num bytes at part)) ++ due))
      → Judges bytes last rest.row part at (num bytes at part) (drop at bytes) None → Backed places at part due rest.row
  unfolding stops due_behind is_cut ends_well
  back places at part due all goes rest j = record {
    clear = record {
      row = field at part ∷ rest.row;
      lays = next refl (rw (all, goes) refl) rest.lays;
      clean =
          behind (whole all j) rest.clean;
      within = let w = rest.within in omega arith;
    };
    ends = refl;
  }

  -- a number that was read
  pub told : (at : ℕ) (part : Part) (x : ℕ × List ℕ) → number_at (size part) (drop at bytes) ≡ Some x →
      (nat_lt (length (drop at bytes)) (size part) ≡ false) × ((num bytes at part, drop (at + size part) bytes) ≡ x)
  unfolding number_at number
  told at part x e =
      let p = passed (nat_lt (length (drop at bytes)) (size part))
      (Some (big_number (size part) (drop at bytes), drop (size part) (drop at bytes))) x e in
      let k : drop (size part) (drop at bytes) ≡ drop (at + size part) bytes = drop-drop (size part) at bytes in
      (p.0, ap (λ (r : List ℕ). (big_number (size part) (drop at bytes), r)) (sym k) ∙ some_is _ x p.1)

  pub record Told {B : Type 0} (at : ℕ) (part : Part) (f : ℕ × List ℕ → Option B) (y : B) : Type 0 where
    pub all : nat_lt (length (drop at bytes)) (size part) ≡ false
    pub goes_on : f (num bytes at part, drop (at + size part) bytes) ≡ Some y

  pub tell : {B : Type 0} (at : ℕ) (part : Part) (f : ℕ × List ℕ → Option B) (y : B) → (number_at (size part) (drop at bytes) >>= f) ≡ Some
      y → Told at part f y
  tell at part f y e =
      let x = bind_some (number_at (size part) (drop at bytes)) f y e in
      let t = told at part x.0 x.1 in
      record { all = t.0; goes_on = subst (λ (z : ℕ × List ℕ). f z ≡ Some y) (sym t.1) x.2 }

  -- where a field ends that isn't cut
  pub past : (at k : ℕ) → nat_lt (length (drop at bytes)) k ≡ false → at ≤ length bytes → at + k ≤ length bytes
  past at k e le = let n : k ≤ length (drop at bytes) = ltb-false (length (drop at bytes)) k e in omega (arith, n, length-drop at bytes)

  -- parts that were built before a right row
  pub record Built (places : List ℕ) (at : ℕ) (due : List Part) (row : List Field) (Kept : List Field → List Field → Type 0) : Type 0 where
    pub clear : Clear bytes last places at due
    pub kept : Kept clear.row row

  -- these parts stand there, and what follows them is the rest
  pub record Goes (places : List ℕ) (at : ℕ) (rest : List ℕ) (ps : List Part) (Kept : List Field → List Field → Type 0) : Type 0 where
    pub after : ℕ
    pub is : rest ≡ drop after bytes
    pub within : at ≤ length bytes → after ≤ length bytes
    pub build : (due : List Part) (c : Clear bytes last places after due) → Built places at (ps ++ due) c.row Kept

  module _ {A : Type 0} (places : List ℕ) (f : Reader ℕ A) (ok : A → Type 0) (part : Part) (Kept : List Field → List Field → Type 0)
      (same : (r : List Field) → Kept r r) (on : (r s t : List Field) → Kept r s → Kept s t → Kept r t)
      (item : (at : ℕ) (x : A) (rest : List ℕ) → f (drop at bytes) ≡ Some (x, rest) → ok x → Goes places at rest (part ∷ []) Kept) where
    pub counted_goes : (n at : ℕ) (xs : List A) (rest : List ℕ) → counted f n (drop at bytes) ≡ Some (xs, rest) → AllByRecursion ok xs →
        Goes places at rest (replicate n part) Kept
    unfolding counted
    counted_goes zero at xs rest e all =
        record {
          after = at;
          is = sym (ap (λ (z : List A × List ℕ). z.1) (some_is ([], drop at bytes) (xs, rest) e));
          within =
              λ w. w;
          build = λ due c. record { clear = c; kept = same c.row };
        }
    counted_goes (suc n) at xs rest e all =
        let x = bind_some (f (drop at bytes)) (λ y. counted f n y.1 >>= λ ys. Some (y.0 ∷ ys.0, ys.1)) (xs, rest) e in
        let ys = bind_some (counted f n x.0.1) (λ ys. Some (x.0.0 ∷ ys.0, ys.1)) (xs, rest) x.2 in
        let z = some_is (x.0.0 ∷ ys.0.0, ys.0.1) (xs, rest) ys.2 in
        let all2 : AllByRecursion ok (x.0.0 ∷ ys.0.0) = subst (AllByRecursion ok) (sym (ap (λ (w : List A × List ℕ). w.0) z)) all in
        let one = item at x.0.0 x.0.1 x.1 all2.0 in
        let more = counted_goes n one.after ys.0.0 ys.0.1 (subst (λ (w : List ℕ). counted f n w ≡ Some (ys.0.0, ys.0.1)) one.is ys.1) all2.1
        in
        record {
          after = more.after;
          is = sym (ap (λ (w : List A × List ℕ). w.1) z) ∙ more.is;
          within = λ w. more.within (one.within w);
          build = λ due c.
              let m = more.build due c in
              let o = one.build (replicate n part ++ due) m.clear in
              record { clear = o.clear; kept = on o.clear.row m.clear.row c.row o.kept m.kept };
        }

pub add_none : (n : ℕ) → n + 0 ≡ n
add_none n = omega arith

pub no_less : (n : ℕ) → nat_lt n 0 ≡ false
no_less n = le-ltb n 0 (omega arith)

end_sum : (len a b n x y : ℕ) → x ≡ len - a → y ≡ len - b → x ≡ n + y → b ≤ len → a ≤ len → b ≡ a + n
end_sum len a b n x y p q r s t = omega arith

-- what a pool's constants are, as numbers name them
pub record Known (bytes last : List ℕ) (pool : List Const) : Type 0 where
  pub tags : (tag n : ℕ) → tag_at pool n ≡ Some tag → is_bad_entry bytes last tag n ≡ false
  pub codes_so : (n : ℕ) → is_code bytes last n ≡ names_code pool n

pub unless_right : (b : Bool) (fault : _) → b ≡ true → None ≡ unless b fault
unless_right b fault e = rw e refl

pub unless_named : (b : Bool) (fault : _) → b ≡ false → None ≡ unless (not b) fault
unless_named b fault e = rw e refl

-- what names code is a text
text_by : (pool : List Const) (n : ℕ) (o : Option Const) → constant_at pool n ≡ o → NamesCode pool n → IsText pool n
text_by pool n None is e = absurd (let k = rw is at e in cc)
text_by pool n (Some (consts.Utf8 t)) is e = rw is refl
text_by pool n (Some (consts.Integer z)) is e = absurd (let k = rw is at e in cc)
text_by pool n (Some (consts.Class c)) is e = absurd (let k = rw is at e in cc)
text_by pool n (Some (consts.Text c)) is e = absurd (let k = rw is at e in cc)
text_by pool n (Some (consts.Field a b)) is e = absurd (let k = rw is at e in cc)
text_by pool n (Some (consts.Method a b)) is e = absurd (let k = rw is at e in cc)
text_by pool n (Some (consts.NameAndType a b)) is e = absurd (let k = rw is at e in cc)

pub text_of : (pool : List Const) (n : ℕ) → NamesCode pool n → IsText pool n
text_of pool n e = text_by pool n (constant_at pool n) refl e

-- ---- numbers of instructions
module _ (pool : List Const) (bad : ℕ → ℕ → Bool) (tags : (tag n : ℕ) → tag_at pool n ≡ Some tag → bad tag n ≡ false) where
  pushed_right : (n : ℕ) → (tag_at pool n ≡ Some 3) ⊎ (tag_at pool n ≡ Some 8) → (bad 3 n && bad 8 n) ≡ false
  pushed_right n (inl e) = rw (tags 3 n e) refl
  pushed_right n (inr e) = go (bad 3 n) (tags 8 n e) where
    go : (b : Bool) → bad 8 n ≡ false → (b && bad 8 n) ≡ false
    go true f = f
    go false f = refl

  op_right : (o : Option Form) (n : ℕ) → OpNames pool o n → is_misnamed bad o n ≡ false
  op_right None n e = refl
  op_right (Some forms.Nothing) n e = refl
  op_right (Some forms.Byte) n e = refl
  op_right (Some forms.Short) n e = refl
  op_right (Some forms.Local) n e = refl
  op_right (Some forms.Increment) n e = refl
  op_right (Some forms.Jump) n e = refl
  op_right (Some forms.Table) n e = refl
  op_right (Some forms.NearConstant) n e = pushed_right n e
  op_right (Some forms.Constant) n e = pushed_right n e
  op_right (Some forms.Field) n e = tags 9 n e
  op_right (Some forms.Method) n e = tags 10 n e
  op_right (Some forms.Class) n e = tags 7 n e

  args_right : (op : ℕ) (args : Args) → ArgsName pool op args → args_misnamed bad op args ≡ false
  args_right op tree.None e = refl
  args_right op (tree.Number n) e = refl
  args_right op (tree.Local n) e = refl
  args_right op (tree.Pool n) e = op_right (form_of op) n e
  args_right op (tree.Jump n) e = refl
  args_right op (tree.Add l n) e = refl
  args_right op (tree.Table d l o) e = refl

  pub instrs_right : (place : ℕ) (is : List Instr) → AllByRecursion (InstrNames pool) is → first_misnamed bad place is ≡ None
  unfolding first_misnamed
  instrs_right place [] all = refl
  instrs_right place (i ∷ is) all = rw (args_right i.op i.args all.0) (instrs_right (place + length (instr_bytes place i)) is all.1)

module _ (bytes last : List ℕ) (fits : IsBytes bytes) (pool : List Const) (known : Known bytes last pool) where
  text_right : (n : ℕ) (fault : _) → IsText pool n → None ≡ unless (not (is_bad_entry bytes last 1 n)) fault
  text_right n fault t = unless_named (is_bad_entry bytes last 1 n) fault (known.tags 1 n t)

  abbrev Goes_ : ℕ → List ℕ → List Part → (List Field → List Field → Type 0) → Type 0
  Goes_ at rest ps Kept = Goes bytes last last at rest ps Kept

  -- ---- unread bytes behind their length
  pub run_goes : (at : ℕ) (run rest : List ℕ) → run_at (drop at bytes) ≡ Some (run, rest) → Goes_ at rest (parts.OtherLength ∷ []) Same
  unfolding run_at
  run_goes at run rest e =
      let t = tell bytes last at parts.OtherLength _ (run, rest) e in
      let n = num bytes at parts.OtherLength in
      let p = passed (nat_lt (length (drop (at + 4) bytes)) n) (Some (take n (drop (at + 4) bytes), drop n (drop (at + 4) bytes)))
      (run, rest) t.goes_on in
      record {
        after = at + 4 + n;
        is = sym (ap (λ (z : List ℕ × List ℕ). z.1) (some_is (take n (drop (at + 4) bytes), drop n (drop (at + 4) bytes)) (run, rest) p.1))
            ∙ drop-drop n (at + 4) bytes;
        within = λ w. past bytes last (at + 4) n p.0 (past bytes last at 4 t.all w);
        build = λ due c.
            let u = back bytes last last (at + 4) (parts.Unread n) due p.0 refl c refl in
            let v = back bytes last last at parts.OtherLength due t.all refl u.clear refl in
            record { clear = v.clear; kept = v.ends ∙ u.ends };
      }

  -- ---- attributes that are no code
  pub inner_goes : (at : ℕ) (x : Inner) (rest : List ℕ) → inner_at (drop at bytes) ≡ Some (x, rest) → InnerNames pool x →
      Goes_ at rest (parts.AttributeName ∷ []) Same
  unfolding inner_at
  inner_goes at x rest e ok =
      let t = tell bytes last at parts.AttributeName _ (x, rest) e in
      let n = num bytes at parts.AttributeName in
      let r = bind_some (run_at (drop (at + 2) bytes)) (λ r. Some (Unread n r.0, r.1)) (x, rest) t.goes_on in
      let z = some_is (Unread n r.0.0, r.0.1) (x, rest) r.2 in
      let g = run_goes (at + 2) r.0.0 r.0.1 r.1 in
      let named : IsText pool n = subst (InnerNames pool) (sym (ap (λ (w : Inner × List ℕ). w.0) z)) ok in
      record {
        after = g.after;
        is = sym (ap (λ (w : Inner × List ℕ). w.1) z) ∙ g.is;
        within = λ w. g.within (past bytes last at 2 t.all w);
        build = λ due c.
            let m = g.build due c in
            let o = back bytes last last at parts.AttributeName due t.all refl m.clear (text_right n _ named) in
            record { clear = o.clear; kept = o.ends ∙ m.kept };
      }

  pub plain_goes : (at : ℕ) (x : Attr) (rest : List ℕ) → attr_at pool false (drop at bytes) ≡ Some (x, rest) → PlainNames pool x →
      Goes_ at rest (parts.AttributeName ∷ []) Any
  unfolding attr_at other_at
  plain_goes at x rest e ok =
      let t = tell bytes last at parts.AttributeName _ (x, rest) e in
      let n = num bytes at parts.AttributeName in
      let r = bind_some (run_at (drop (at + 2) bytes)) (λ r. Some (Other n r.0, r.1)) (x, rest) t.goes_on in
      let z = some_is (Other n r.0.0, r.0.1) (x, rest) r.2 in
      let g = run_goes (at + 2) r.0.0 r.0.1 r.1 in
      let named : IsText pool n = subst (PlainNames pool) (sym (ap (λ (w : Attr × List ℕ). w.0) z)) ok in
      record {
        after = g.after;
        is = sym (ap (λ (w : Attr × List ℕ). w.1) z) ∙ g.is;
        within = λ w. g.within (past bytes last at 2 t.all w);
        build = λ due c.
            let m = g.build due c in
            let o = back bytes last last at parts.AttributeName due t.all refl m.clear (text_right n _ named) in
            record { clear = o.clear; kept = tt };
      }

  -- ---- codes
  IsBytes-part : (n at : ℕ) → (i : ℕ) → get_or (take n (drop at bytes)) i 0 < 256
  IsBytes-part n at = IsBytes-take n (drop at bytes) (IsBytes-drop at bytes fits)

  inners_goes : (at : ℕ) (xs : List Inner) (rest : List ℕ) → inners_at (drop at bytes) ≡ Some (xs, rest) →
      AllByRecursion (InnerNames pool) xs
      → Goes_ at rest (parts.Handlers ∷ parts.AttributeCount false ∷ []) Same
  unfolding inners_at reading.behind listed_at
  inners_goes at xs rest e all =
      let none = bind_some (reading.behind 2 0 (drop at bytes)) _ (xs, rest) e in
      let t6 = tell bytes last at parts.Handlers _ none.0 none.1 in
      let z6 = held (nat_eq (num bytes at parts.Handlers) 0) (Some (drop (at + 2) bytes)) none.0 t6.goes_on in
      let list_here : listed_at inner_at (drop (at + 2) bytes) ≡ Some (xs, rest) =
      subst (λ (w : List ℕ). listed_at inner_at w ≡ Some (xs, rest)) (sym (some_is (drop (at + 2) bytes) none.0 z6.1)) none.2 in
      let t7 = tell bytes last (at + 2) (parts.AttributeCount false) _ (xs, rest) list_here in
      let n7 = num bytes (at + 2) (parts.AttributeCount false) in
      let g = counted_goes bytes last last inner_at (InnerNames pool) parts.AttributeName Same (λ r. refl) (λ r s t p q. p ∙ q) inner_goes
      n7 (at + 2 + 2) xs rest t7.goes_on all in
      record {
        after = g.after;
        is = g.is;
        within = λ w. g.within (past bytes last (at + 2) 2 t7.all (past bytes last at 2 t6.all w));
        build = λ due c.
            let m = g.build due c in
            let b7 = back bytes last last (at + 2) (parts.AttributeCount false) due t7.all refl m.clear refl in
            let b6 = back bytes last last at parts.Handlers (parts.AttributeCount false ∷ due) t6.all (rw z6.0 refl) b7.clear
            (unless_right _ _ z6.0) in
            record { clear = b6.clear; kept = b6.ends ∙ (b7.ends ∙ m.kept) };
      }

  body_goes : (at : ℕ) (is : List Instr) (rest : List ℕ) → body_at (drop at bytes) ≡ Some (is, rest) → AllByRecursion (InstrNames pool) is →
      Goes_ at rest (parts.CodeSize ∷ []) Same
  unfolding body_at run_at
  body_goes at is rest e all =
      let run = bind_some (run_at (drop at bytes)) _ (is, rest) e in
      let t4 = tell bytes last at parts.CodeSize _ run.0 run.1 in
      let n4 = num bytes at parts.CodeSize in
      let p = passed (nat_lt (length (drop (at + 4) bytes)) n4) (Some (take n4 (drop (at + 4) bytes), drop n4 (drop (at + 4) bytes))) run.0
      t4.goes_on in
      let s4 = some_is (take n4 (drop (at + 4) bytes), drop n4 (drop (at + 4) bytes)) run.0 p.1 in
      let js = bind_some (instrs_of run.0.0) _ (is, rest) run.2 in
      let s5 = some_is (js.0, run.0.1) (is, rest) js.2 in
      let code : instrs_of (take n4 (drop (at + 4) bytes)) ≡ Some is = ap (λ (w : List ℕ × List ℕ). instrs_of w.0) s4 ∙
      (js.1 ∙ ap (λ (w : List Instr × List ℕ). Some w.0) s5) in
      let sound = code_sound (take n4 (drop (at + 4) bytes)) is (IsBytes-part n4 (at + 4)) code in
      record {
        after = at + 4 + n4;
        is = sym (ap (λ (w : List Instr × List ℕ). w.1) s5) ∙ (sym (ap (λ (w : List ℕ × List ℕ). w.1) s4) ∙ drop-drop n4 (at + 4) bytes);
        within = λ w. past bytes last (at + 4) n4 p.0 (past bytes last at 4 t4.all w);
        build = λ due c.
            let b5 = back bytes last last (at + 4) (parts.Code n4) due p.0 refl c
            (right (decoded.whole sound.fits sound.sound sound.spelled) (instrs_right pool (is_bad_entry bytes last) known.tags 0 is
            all)) in
            let b4 = back bytes last last at parts.CodeSize due t4.all refl b5.clear refl in
            record { clear = b4.clear; kept = b4.ends ∙ b5.ends };
      }

  content_goes : (name at : ℕ) (x : Attr) (rest : List ℕ) → content_at name (drop at bytes) ≡ Some (x, rest) → MethodNames pool x
      → Goes_ at rest (parts.Number ∷ parts.Number ∷ parts.CodeSize ∷ parts.Handlers ∷ parts.AttributeCount false ∷ []) Same
  unfolding content_at pair_at
  content_goes name at x rest e ok =
      let sizes = bind_some (pair_at (drop at bytes)) _ (x, rest) e in
      let t2 = tell bytes last at parts.Number _ sizes.0 sizes.1 in
      let t3 = tell bytes last (at + 2) parts.Number _ sizes.0 t2.goes_on in
      let s3 = some_is ((num bytes at parts.Number, num bytes (at + 2) parts.Number), drop (at + 2 + 2) bytes) sizes.0 t3.goes_on in
      let body = bind_some (body_at sizes.0.1) _ (x, rest) sizes.2 in
      let body_here : body_at (drop (at + 2 + 2) bytes) ≡ Some body.0 = subst (λ (w : (ℕ × ℕ) × List ℕ). body_at w.1 ≡ Some body.0) (sym s3)
      body.1 in
      let inners = bind_some (inners_at body.0.1) _ (x, rest) body.2 in
      let made : Code = record {
        name = name;
        max_stack = sizes.0.0.0;
        max_locals = sizes.0.0.1;
        instrs = body.0.0;
        attributes =
            inners.0.0;
      } in
      let z = some_is (Coded made, inners.0.1) (x, rest) inners.2 in
      let named : CodeNames pool made = subst (MethodNames pool) (sym (ap (λ (w : Attr × List ℕ). w.0) z)) ok in
      let b = body_goes (at + 2 + 2) body.0.0 body.0.1 body_here named.instrs in
      let inners_here : inners_at (drop b.after bytes) ≡ Some inners.0 = subst (λ (w : List ℕ). inners_at w ≡ Some inners.0) b.is inners.1
      in
      let g = inners_goes b.after inners.0.0 inners.0.1 inners_here named.attributes in
      record {
        after = g.after;
        is = sym (ap (λ (w : Attr × List ℕ). w.1) z) ∙ g.is;
        within = λ w. g.within (b.within (past bytes last (at + 2) 2 t3.all (past bytes last at 2 t2.all w)));
        build = λ due c. content_build at due b.after g.after c t2.all t3.all (b.build (parts.Handlers ∷ parts.AttributeCount false ∷ due))
            (g.build due c);
      } where
        content_build : (at : ℕ) (due : List Part) (middle after : ℕ) (c : Clear bytes last last after due) →
            nat_lt (length (drop at bytes)) 2 ≡ false → nat_lt (length (drop (at + 2) bytes)) 2 ≡ false
            → ((d : Clear bytes last last middle (parts.Handlers ∷ parts.AttributeCount false ∷ due)) →
            Built bytes last last (at + 2 + 2) (parts.CodeSize ∷ parts.Handlers ∷ parts.AttributeCount false ∷ due) d.row Same)
            → Built bytes last last middle (parts.Handlers ∷ parts.AttributeCount false ∷ due) c.row Same
            → Built bytes last last at (parts.Number ∷ parts.Number ∷ parts.CodeSize ∷ parts.Handlers ∷ parts.AttributeCount false ∷ due)
            c.row Same
        content_build at due middle after c t2 t3 f m =
            let o = f m.clear in
            let b3 = back bytes last last (at + 2) parts.Number (parts.CodeSize ∷ parts.Handlers ∷ parts.AttributeCount false ∷ due) t3 refl
            o.clear refl in
            let b2 = back bytes last last at parts.Number (parts.Number ∷ parts.CodeSize ∷ parts.Handlers ∷ parts.AttributeCount false ∷
            due) t2 refl b3.clear refl in
            record { clear = b2.clear; kept = b2.ends ∙ (b3.ends ∙ (o.kept ∙ m.kept)) }

  pub code_goes : (name at : ℕ) (x : Attr) (rest : List ℕ) → code_at name (drop at bytes) ≡ Some (x, rest) → MethodNames pool x →
      Goes_ at rest (parts.CodeLength ∷ []) Any
  unfolding code_at
  code_goes name at x rest e ok =
      let t1 = tell bytes last at parts.CodeLength _ (x, rest) e in
      let n1 = num bytes at parts.CodeLength in
      let c = bind_some (content_at name (drop (at + 4) bytes)) _ (x, rest) t1.goes_on in
      let h = held (nat_eq (length (drop (at + 4) bytes)) (n1 + length c.0.1)) (Some c.0) (x, rest) c.2 in
      let same : c.0 ≡ (x, rest) = some_is c.0 (x, rest) h.1 in
      let here : content_at name (drop (at + 4) bytes) ≡ Some (x, rest) = c.1 ∙ ap Some same in
      let g = content_goes name (at + 4) x rest here ok in
      let lengths : length (drop (at + 4) bytes) ≡ n1 + length rest = eqb-true (length (drop (at + 4) bytes)) (n1 + length c.0.1) h.0 ∙
      ap (λ (w : Attr × List ℕ). n1 + length w.1) same in
      record {
        after = g.after;
        is = g.is;
        within = λ w. g.within (past bytes last at 4 t1.all w);
        build =
            λ due cl. code_build at g.after due cl t1.all (lengths ∙ ap (λ (w : List ℕ). n1 + length w) g.is)
            (g.build (parts.ContentEnd (at + 4) n1 ∷ due));
      } where
        code_build : (at after : ℕ) (due : List Part) → (cl : Clear bytes last last after due) → nat_lt (length (drop at bytes)) 4 ≡ false
            → length (drop (at + 4) bytes) ≡ num bytes at parts.CodeLength + length (drop after bytes)
            → ((d : Clear bytes last last after (parts.ContentEnd (at + 4) (num bytes at parts.CodeLength) ∷ due)) →
            Built bytes last last (at + 4) (content (at + 4) (num bytes at parts.CodeLength) ++ due) d.row Same)
            → Built bytes last last at (parts.CodeLength ∷ due) cl.row Any
        code_build at after due cl t1 lengths f =
            let n1 = num bytes at parts.CodeLength in
            let end = back bytes last last after (parts.ContentEnd (at + 4) n1) due (no_less (length (drop after bytes))) refl
            (subst (λ (k : ℕ). Clear bytes last last k due) (sym (add_none after)) cl) refl in
            let m = f end.clear in
            let sum : after ≡ (at + 4) + n1 = end_sum (length bytes) (at + 4) after n1 (length (drop (at + 4) bytes))
            (length (drop after bytes)) (length-drop (at + 4) bytes) (length-drop after bytes) lengths cl.within m.clear.within in
            let right_end : ends_well m.clear.row ≡ true = m.kept ∙ (end.ends ∙ eq-eqb after ((at + 4) + n1) sum) in
            let b1 = back bytes last last at parts.CodeLength due t1 refl m.clear (unless_right _ _ right_end) in
            record { clear = b1.clear; kept = tt }

  -- ---- the attributes of a method
  judged_right : (at : ℕ) (bad again : Bool) → bad ≡ false → again ≡ false → None ≡ judged_name at bad again
  judged_right at bad again e f = rw (e, f) refl

  second_not : (seen b : Bool) → (seen ≡ true → b ≡ false) → (seen && b) ≡ false
  second_not true b f = f refl
  second_not false b f = refl

  none_less : (b : Bool) (n : ℕ) → cond b 1 0 + n ≡ 0 → n ≡ 0
  none_less b n e = omega arith

  few_less : (b : Bool) (n : ℕ) → cond b 1 0 + n ≤ 1 → n ≤ 1
  few_less true n le = omega arith
  few_less false n le = omega arith

  none_left : (n : ℕ) → 1 + n ≤ 1 → n ≡ 0
  none_left n le = omega arith

  abbrev Bounds : Bool → List Attr → Type 0
  Bounds seen xs = (count_by is_coded xs ≤ 1) × (seen ≡ true → count_by is_coded xs ≡ 0)

  is_other : (k : ℕ) (run : List ℕ) (x : Attr) (rest mid : List ℕ) → ◌≡◌ {A = Attr × List ℕ} (Other k run, mid) (x, rest) →
      (x ≡ Other k run) × (rest ≡ mid)
  is_other k run x rest mid e = (sym (ap (λ (w : Attr × List ℕ). w.0) e), sym (ap (λ (w : Attr × List ℕ). w.1) e))

  coded_is : (name at : ℕ) (x : Attr) (rest : List ℕ) → code_at name (drop at bytes) ≡ Some (x, rest) → is_coded x ≡ true
  unfolding code_at content_at
  coded_is name at x rest e =
      let l = bind_some (number_at 4 (drop at bytes)) _ (x, rest) e in
      let c = bind_some (content_at name l.0.1) _ (x, rest) l.2 in
      let h = held (nat_eq (length l.0.1) (l.0.0 + length c.0.1)) (Some c.0) (x, rest) c.2 in
      let sizes = bind_some (pair_at l.0.1) _ c.0 c.1 in
      let body = bind_some (body_at sizes.0.1) _ c.0 sizes.2 in
      let inners = bind_some (inners_at body.0.1) _ c.0 body.2 in
      let z = some_is (
        Coded (record {
          name = name;
          max_stack = sizes.0.0.0;
          max_locals = sizes.0.0.1;
          instrs = body.0.0;
          attributes =
              inners.0.0;
        }),
        inners.0.1,
      ) c.0 inners.2 in
      ap (λ (w : Attr × List ℕ). is_coded w.0) (sym (z ∙ some_is c.0 (x, rest) h.1))

  module _ (n at : ℕ) (seen : Bool) (x : Attr) (ys : List Attr) (rest mid : List ℕ) (named : MethodNames pool x)
      (bounds : Bounds seen (x ∷ ys))
      (more : (at : ℕ) (seen : Bool) → mid ≡ drop at bytes → Bounds seen ys → Goes_ at rest (attributes_left n seen) Any)
      (t : nat_lt (length (drop at bytes)) 2 ≡ false) (k : ℕ) (k_is : k ≡ num bytes at (parts.MethodAttribute n seen)) where
    other_goes : names_code pool k ≡ false → other_at k (drop (at + 2) bytes) ≡ Some (x, mid) → Goes_ at rest (attributes_left (suc n) seen)
        Any
    unfolding other_at
    other_goes no_ e =
        let r = bind_some (run_at (drop (at + 2) bytes)) (λ r. Some (Other k r.0, r.1)) (x, mid) e in
        let z = is_other k r.0.0 x mid r.0.1 (some_is (Other k r.0.0, r.0.1) (x, mid) r.2) in
        let g = run_goes (at + 2) r.0.0 r.0.1 r.1 in
        let text : IsText pool k = (subst (MethodNames pool) z.0 named).0 in
        let counts = count_more x ys in
        let few : count_by is_coded ys ≤ 1 = few_less (is_coded x) (count_by is_coded ys) (subst (λ (m : ℕ). m ≤ 1) counts bounds.0) in
        let none : seen ≡ true → count_by is_coded ys ≡ 0 = λ s. none_less (is_coded x) (count_by is_coded ys) (sym counts ∙ bounds.1 s) in
        let m = more g.after seen (z.1 ∙ g.is) (few, none) in
        let code : is_code bytes last (num bytes at (parts.MethodAttribute n seen)) ≡ false = rw (← k_is) (known.codes_so k ∙ no_) in
        let bad : is_bad_entry bytes last 1 (num bytes at (parts.MethodAttribute n seen)) ≡ false = rw (← k_is) (known.tags 1 k text) in
        record {
          after = m.after;
          is = m.is;
          within = λ w. m.within (g.within (past bytes last at 2 t w));
          build = λ due c.
              let b = m.build due c in
              let o = g.build (attributes_left n seen ++ due) b.clear in
              let never = second_not seen (is_code bytes last (num bytes at (parts.MethodAttribute n seen))) (λ s. code) in
              let s = back bytes last last at (parts.MethodAttribute n seen) due t never (rw code o.clear) (judged_right at _ _ bad never)
              in
              record { clear = s.clear; kept = tt };
        }

    coded_goes : names_code pool k ≡ true → code_at k (drop (at + 2) bytes) ≡ Some (x, mid) → Goes_ at rest (attributes_left (suc n) seen)
        Any
    coded_goes named_so e =
        let g = code_goes k (at + 2) x mid e named in
        let coded = coded_is k (at + 2) x mid e in
        let counts : count_by is_coded (x ∷ ys) ≡ 1 + count_by is_coded ys =
        count_more x ys ∙ ap (λ (b : Bool). cond b 1 0 + count_by is_coded ys) coded in
        let none : count_by is_coded ys ≡ 0 = none_left (count_by is_coded ys) (subst (λ (m : ℕ). m ≤ 1) counts bounds.0) in
        let m = more g.after true g.is (rw none (omega arith), λ s. none) in
        let code : is_code bytes last (num bytes at (parts.MethodAttribute n seen)) ≡ true = rw (← k_is) (known.codes_so k ∙ named_so) in
        let text : IsText pool k = text_of pool k (code_named pool k named_so) in
        let bad : is_bad_entry bytes last 1 (num bytes at (parts.MethodAttribute n seen)) ≡ false = rw (← k_is) (known.tags 1 k text) in
        let unseen : seen ≡ true → is_code bytes last (num bytes at (parts.MethodAttribute n seen)) ≡ false =
        λ s. absurd (let b = bounds.1 s in omega (arith, counts, b)) in
        record {
          after = m.after;
          is = m.is;
          within = λ w. m.within (g.within (past bytes last at 2 t w));
          build = λ due c.
              let b = m.build due c in
              let o = g.build (attributes_left n true ++ due) b.clear in
              let never = second_not seen (is_code bytes last (num bytes at (parts.MethodAttribute n seen))) unseen in
              let s = back bytes last last at (parts.MethodAttribute n seen) due t never (rw code o.clear) (judged_right at _ _ bad never)
              in
              record { clear = s.clear; kept = tt };
        }

    either_goes : (b : Bool) → names_code pool k ≡ b → cond b (code_at k (drop (at + 2) bytes)) (other_at k (drop (at + 2) bytes)) ≡ Some
        (x, mid) → Goes_ at rest (attributes_left (suc n) seen) Any
    either_goes true f e = coded_goes f e
    either_goes false f e = other_goes f e

  pub methods_goes : (n at : ℕ) (seen : Bool) (xs : List Attr) (rest : List ℕ) → counted (attr_at pool true) n (drop at bytes) ≡ Some
      (xs, rest) → AllByRecursion (MethodNames pool) xs → Bounds seen xs
      → Goes_ at rest (attributes_left n seen) Any
  unfolding counted attr_at
  methods_goes zero at seen xs rest e all bounds =
      record {
        after = at;
        is = sym (ap (λ (z : List Attr × List ℕ). z.1) (some_is ([], drop at bytes) (xs, rest) e));
        within =
            λ w. w;
        build = λ due c. record { clear = c; kept = tt };
      }
  methods_goes (suc n) at seen xs rest e all bounds =
      let x = bind_some (attr_at pool true (drop at bytes)) (λ y. counted (attr_at pool true) n y.1 >>= λ ys. Some (y.0 ∷ ys.0, ys.1))
      (xs, rest) e in
      let ys = bind_some (counted (attr_at pool true) n x.0.1) (λ ys. Some (x.0.0 ∷ ys.0, ys.1)) (xs, rest) x.2 in
      let z = some_is (x.0.0 ∷ ys.0.0, ys.0.1) (xs, rest) ys.2 in
      let list : xs ≡ x.0.0 ∷ ys.0.0 = sym (ap (λ (w : List Attr × List ℕ). w.0) z) in
      let all2 : AllByRecursion (MethodNames pool) (x.0.0 ∷ ys.0.0) = subst (AllByRecursion (MethodNames pool)) list all in
      let bounds2 : Bounds seen (x.0.0 ∷ ys.0.0) = subst (Bounds seen) list bounds in
      let t = tell bytes last at (parts.MethodAttribute n seen) _ x.0 x.1 in
      let k = num bytes at (parts.MethodAttribute n seen) in
      let after_is : ys.0.1 ≡ rest = ap (λ (w : List Attr × List ℕ). w.1) z in
      either_goes n at seen x.0.0 ys.0.0 rest x.0.1 all2.0 bounds2
      (λ a s mid_is b. methods_goes n a s ys.0.0 rest (subst (λ (w : List ℕ). counted (attr_at pool true) n w ≡ Some (ys.0.0, rest)) mid_is
      (subst (λ (w : List ℕ). counted (attr_at pool true) n x.0.1 ≡ Some (ys.0.0, w)) after_is ys.1)) all2.1 b)
      t.all k refl (names_code pool k) refl t.goes_on

  -- ---- fields and methods
  pub three_told : (at : ℕ) (part second third : Part) (x : (ℕ × ℕ × ℕ) × List ℕ) → size part ≡ 2 → size second ≡ 2 → size third ≡ 2 →
      three_at (drop at bytes) ≡ Some x
      → (nat_lt (length (drop at bytes)) 2 ≡ false) × (nat_lt (length (drop (at + 2) bytes)) 2 ≡ false)
      × (nat_lt (length (drop (at + 2 + 2) bytes)) 2 ≡ false)
      × ((
        (big_number 2 (drop at bytes), big_number 2 (drop (at + 2) bytes), big_number 2 (drop (at + 2 + 2) bytes)),
        drop (at + 2 + 2 + 2)
            bytes,
      ) ≡ x)
  unfolding three_at number
  three_told at part second third x a b c e =
      let t1 = tell bytes last at parts.Number _ x e in
      let t2 = tell bytes last (at + 2) parts.Number _ x t1.goes_on in
      let t3 = tell bytes last (at + 2 + 2) parts.Number _ x t2.goes_on in
      (t1.all, t2.all, t3.all, some_is _ x t3.goes_on)

  abbrev listed_here : {A : Type 0} → Reader ℕ A → ℕ → List A → List ℕ → Type 0
  listed_here f at xs rest = listed_at f (drop at bytes) ≡ Some (xs, rest)

  pub attributes_goes : (at : ℕ) (xs : List Attr) (rest : List ℕ) → listed_here (attr_at pool false) at xs rest →
      AllByRecursion (PlainNames pool) xs → Goes_ at rest (parts.AttributeCount false ∷ []) Any
  unfolding listed_at
  attributes_goes at xs rest e all =
      let t = tell bytes last at (parts.AttributeCount false) _ (xs, rest) e in
      let g = counted_goes bytes last last (attr_at pool false) (PlainNames pool) parts.AttributeName Any (λ r. tt) (λ r s t p q. tt)
      plain_goes (num bytes at (parts.AttributeCount false)) (at + 2) xs rest t.goes_on all in
      record {
        after = g.after;
        is = g.is;
        within = λ w. g.within (past bytes last at 2 t.all w);
        build = λ due c.
            let m = g.build due c in
            let b = back bytes last last at (parts.AttributeCount false) due t.all refl m.clear refl in
            record { clear = b.clear; kept = tt };
      }

  method_attributes_goes : (at : ℕ) (xs : List Attr) (rest : List ℕ) → listed_here (attr_at pool true) at xs rest →
      AllByRecursion (MethodNames pool) xs → count_by is_coded xs ≤ 1 → Goes_ at rest (parts.AttributeCount true ∷ []) Any
  unfolding listed_at
  method_attributes_goes at xs rest e all few =
      let t = tell bytes last at (parts.AttributeCount true) _ (xs, rest) e in
      let g = methods_goes (num bytes at (parts.AttributeCount true)) (at + 2) false xs rest t.goes_on all (few, λ s. absurd (cc)) in
      record {
        after = g.after;
        is = g.is;
        within = λ w. g.within (past bytes last at 2 t.all w);
        build = λ due c.
            let m = g.build due c in
            let b = back bytes last last at (parts.AttributeCount true) due t.all refl m.clear refl in
            record { clear = b.clear; kept = tt };
      }

  -- a member before its attributes
  member_build : (is_method : Bool) (at : ℕ) (due : List Part) → nat_lt (length (drop at bytes)) 2 ≡ false →
      nat_lt (length (drop (at + 2) bytes)) 2 ≡ false → nat_lt (length (drop (at + 2 + 2) bytes)) 2 ≡ false
      → IsText pool (num bytes (at + 2) (parts.Reference 1)) → IsText pool (num bytes (at + 2 + 2) (parts.Reference 1))
      → Clear bytes last last (at + 2 + 2 + 2) (parts.AttributeCount is_method ∷ due) →
      Clear bytes last last at (parts.Member is_method ∷ due)
  member_build is_method at due t1 t2 t3 name descriptor c =
      let b3 = back bytes last last (at + 2 + 2) (parts.Reference 1) (parts.AttributeCount is_method ∷ due) t3 refl c
      (text_right _ _ descriptor) in
      let b2 = back bytes last last (at + 2) (parts.Reference 1) _ t2 refl b3.clear (text_right _ _ name) in
      (back bytes last last at (parts.Member is_method) due t1 refl b2.clear refl).clear

  member_parts : (is_method : Bool) (at : ℕ) (m : Member) (rest : List ℕ) → member_at pool is_method (drop at bytes) ≡ Some (m, rest)
      → (nat_lt (length (drop at bytes)) 2 ≡ false) × (nat_lt (length (drop (at + 2) bytes)) 2 ≡ false)
      × (nat_lt (length (drop (at + 2 + 2) bytes)) 2 ≡ false)
      × (m.name ≡ num bytes (at + 2) (parts.Reference 1)) × (m.descriptor ≡ num bytes (at + 2 + 2) (parts.Reference 1))
      × listed_here (attr_at pool is_method) (at + 2 + 2 + 2) m.attributes rest
  unfolding member_at number
  member_parts is_method at m rest e =
      let three = bind_some (three_at (drop at bytes)) _ (m, rest) e in
      let t = three_told at parts.Number parts.Number parts.Number three.0 refl refl refl three.1 in
      let attrs = bind_some (listed_at (attr_at pool is_method) three.0.1) _ (m, rest) three.2 in
      let p = passed (nat_lt 1 (count_by is_coded attrs.0.0)) _ (m, rest) attrs.2 in
      let z = some_is _ (m, rest) p.1 in
      let here : listed_at (attr_at pool is_method) (drop (at + 2 + 2 + 2) bytes) ≡ Some attrs.0 =
      subst (λ (w : (ℕ × ℕ × ℕ) × List ℕ). listed_at (attr_at pool is_method) w.1 ≡ Some attrs.0) (sym t.3) attrs.1 in (
        t.0,
        t.1,
        t.2,
        sym (ap (λ (w : Member × List ℕ). w.0.name) z) ∙ sym (ap (λ (w : (ℕ × ℕ × ℕ) × List ℕ). w.0.1) t.3),
        sym (ap (λ (w : Member × List ℕ). w.0.descriptor) z) ∙ sym (ap (λ (w : (ℕ × ℕ × ℕ) × List ℕ). w.0.2) t.3),
        here ∙ ap (λ (w : Member × List ℕ). Some (w.0.attributes, w.1)) z,
      )

  pub field_goes : (at : ℕ) (m : Member) (rest : List ℕ) → member_at pool false (drop at bytes) ≡ Some (m, rest) → IsField_in pool m →
      Goes_ at rest (parts.Member false ∷ []) Any
  field_goes at m rest e ok =
      let p = member_parts false at m rest e in
      let g = attributes_goes (at + 2 + 2 + 2) m.attributes rest p.5 ok.attributes in
      record {
        after = g.after;
        is = g.is;
        within = λ w. g.within (past bytes last (at + 2 + 2) 2 p.2 (past bytes last (at + 2) 2 p.1 (past bytes last at 2 p.0 w)));
        build = λ due c.
            record {
              clear = member_build false at due p.0 p.1 p.2 (subst (IsText pool) p.3 ok.name) (subst (IsText pool) p.4 ok.descriptor)
                  (g.build due c).clear;
              kept = tt;
            };
      }

  pub method_goes : (at : ℕ) (m : Member) (rest : List ℕ) → member_at pool true (drop at bytes) ≡ Some (m, rest) → IsMethod_in pool m →
      Goes_ at rest (parts.Member true ∷ []) Any
  method_goes at m rest e ok =
      let p = member_parts true at m rest e in
      let g = method_attributes_goes (at + 2 + 2 + 2) m.attributes rest p.5 ok.attributes ok.one_code in
      record {
        after = g.after;
        is = g.is;
        within = λ w. g.within (past bytes last (at + 2 + 2) 2 p.2 (past bytes last (at + 2) 2 p.1 (past bytes last at 2 p.0 w)));
        build = λ due c.
            record {
              clear = member_build true at due p.0 p.1 p.2 (subst (IsText pool) p.3 ok.name) (subst (IsText pool) p.4 ok.descriptor)
                  (g.build due c).clear;
              kept = tt;
            };
      }

  pub members_goes : (k : Bool) (at : ℕ) (xs : List Member) (rest : List ℕ) (ok : Member → Type 0)
      → ((a : ℕ) (m : Member) (r : List ℕ) → member_at pool k (drop a bytes) ≡ Some (m, r) → ok m → Goes_ a r (parts.Member k ∷ []) Any)
      → listed_here (member_at pool k) at xs rest → AllByRecursion ok xs → Goes_ at rest (parts.MemberCount k ∷ []) Any
  unfolding listed_at
  members_goes k at xs rest ok item e all =
      let t = tell bytes last at (parts.MemberCount k) _ (xs, rest) e in
      let g = counted_goes bytes last last (member_at pool k) ok (parts.Member k) Any (λ r. tt) (λ r s t p q. tt) item
      (num bytes at (parts.MemberCount k)) (at + 2) xs rest t.goes_on all in
      record {
        after = g.after;
        is = g.is;
        within = λ w. g.within (past bytes last at 2 t.all w);
        build = λ due c.
            let m = g.build due c in
            let b = back bytes last last at (parts.MemberCount k) due t.all refl m.clear refl in
            record { clear = b.clear; kept = tt };
      }
