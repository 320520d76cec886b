-- What the first code that can't be encoded is refused by, part by part.
use Rattle.std.specs.List.{flat_map, AllByRecursion}
use Rattle.std.proofs.lemmas.List.{drop_all}
use Rattle.cls_layout.proofs.Drops.{map_drop_is}
use Rattle.cls_bytes.proofs.Written.{more, first_fits, others_fit, all_mapped}
use Rattle.std.proofs.Common.{◌≡◌, ◌<◌, ◌≤◌, ◌+◌, ℕ, Bool, true, false, cond, arith, List, [], ◌∷◌, ◌++◌, length, get_or, drop, map, subst}
use Rattle.std.proofs.Common.{Option, Some, None, refl, sym, ap, ◌∙◌, append_assoc}
use Rattle.std.specs.Prelude.{Result, Ok, Err}
use Rattle.cls_tree.specs.Tree.{Instr, Attr, Coded, Other, Member, Class}
use Rattle.std.specs.Prelude.{nat_lt}
use Rattle.std.proofs.lemmas.Bool.Decides.{nat_tests}
use Rattle.cls_tree.specs.declared.class.Const.{Const}
use Rattle.cls_tree.specs.Layout.{code_bytes, class_bytes}
use Rattle.cls_tree.specs.Jumps.{first_outside, IsSound}
use Rattle.cls_tree.specs.ClassFile.{FileAttr, FileMember}
use Rattle.cls_bytes.specs.File.{IsFile}
use Rattle.cls_code.specs.declared.CodeFault.TheVariants as coded
use Rattle.cls_code.specs.declared.CodeFault.{CodeFault}
use Rattle.cls_code.specs.Code.{Encoding, Code, Refused, jumped, encoding}
use Rattle.cls_bytes.specs.declared.WriteFault.{WriteFault}
use Rattle.cls_bytes.specs.declared.WriteFault.TheVariants as refused
use Rattle.cls_bytes.specs.Answer.{or_else, attr_refusal, attrs_refusal, members_refusal, class_refusal, Writing, Bytes, Refusal, written}
use Rattle.cls_bytes.specs.Answer.{writing, IsWritten, IsFileOrMemory}
use Rattle.cls_bytes.specs.Puts.{Refuses, Appended}

-- where a part is refused, so is all; where it isn't, what follows decides
pub record Decides (part : Option CodeFault) (all later : Option CodeFault) : Type 0 where
  pub none : part ≡ None → all ≡ later
  pub some : (fault : CodeFault) → part ≡ Some fault → all ≡ Some fault

by_encoding : (e : Encoding) (later : Option CodeFault) → Decides (or_else e None) (or_else e later) later
by_encoding (Code bytes) later = record { none = λ _. refl; some = λ fault e. absurd cc }
by_encoding (Refused f) later = record { none = λ e. absurd cc; some = λ fault e. e }

pub by_attr : (a : Attr) (later : Option CodeFault) → Decides (attr_refusal a None) (attr_refusal a later) later
by_attr (Coded c) later = by_encoding (encoding c.instrs) later
by_attr (Other name bytes) later = record { none = λ _. refl; some = λ fault e. absurd cc }

-- a part in two, of which the second may be followed
two : (one first second rest followed later : Option CodeFault) → Decides one first rest → Decides one second followed →
    Decides rest followed later → Decides first second later
two None first second rest followed later a b c =
    record {
      none = λ h. b.none refl ∙ c.none (sym (a.none refl) ∙ h);
      some = λ fault h. b.none refl ∙ c.some fault (sym (a.none refl) ∙ h);
    }
two (Some f) first second rest followed later a b c =
    record {
      none = λ h. absurd (never f (sym (a.some f refl) ∙ h));
      some = λ fault h. b.some f refl ∙ sym (a.some f refl) ∙ h;
    }
  where
    never : (f : CodeFault) → Some f ≡ None → ⊥
    never f e = absurd cc

pub by_attrs : (attrs : List Attr) (later : Option CodeFault) → Decides (attrs_refusal attrs None) (attrs_refusal attrs later) later
by_attrs [] later = record { none = λ _. refl; some = λ fault e. absurd cc }
by_attrs (a ∷ attrs) later =
    two (attr_refusal a None) (attr_refusal a (attrs_refusal attrs None)) (attr_refusal a (attrs_refusal attrs later))
    (attrs_refusal attrs None) (attrs_refusal attrs later) later
    (by_attr a (attrs_refusal attrs None)) (by_attr a (attrs_refusal attrs later)) (by_attrs attrs later)

pub by_members : (ms : List Member) (later : Option CodeFault) → Decides (members_refusal ms None) (members_refusal ms later) later
by_members [] later = record { none = λ _. refl; some = λ fault e. absurd cc }
by_members (m ∷ ms) later =
    two (attrs_refusal m.attributes None) (attrs_refusal m.attributes (members_refusal ms None))
    (attrs_refusal m.attributes (members_refusal ms later))
    (members_refusal ms None) (members_refusal ms later) later
    (by_attrs m.attributes (members_refusal ms None)) (by_attrs m.attributes (members_refusal ms later)) (by_members ms later)

-- an error of a part is one of all
pub passed_on : (e : WriteFault) (r r' : Option CodeFault) → Refuses r e → ((f : CodeFault) → r ≡ Some f → r' ≡ Some f) → Refuses r' e
passed_on refused.Memory r r' p h = tt
passed_on (refused.Code fault) r r' p h = h fault p

-- ---- what loops over parts keep
-- these items are left to be written behind what was, and those before are refused by none
pub record Left {B : Type 0} (g : B → List ℕ) (Fit : B → Type 0) (refusal : List B → Option CodeFault) (all rest : List B)
    (first out : List ℕ) : Type 0 where
  pub so_far : out ++ flat_map g rest ≡ first ++ flat_map g all
  pub fits : AllByRecursion Fit rest
  pub same : refusal all ≡ refusal rest

module _ {A B : Type 0} (view : A → B) (g : B → List ℕ) (Fit : B → Type 0) (one : B → Option CodeFault) (refusal : List B →
    Option CodeFault)
    (step : (b : B) (bs : List B) → Decides (one b) (refusal (b ∷ bs)) (refusal bs)) (xs : List A) where
  pub left_first : (first : List ℕ) → AllByRecursion Fit (map view xs) → Left g Fit refusal (map view xs) (map view xs) first first
  left_first first all = record { so_far = refl; fits = all; same = refl }

  module _ (k : ℕ) (x : A) (first out : List ℕ) (below : k < length xs) (is : x ≡ get_or xs k x)
      (l : Left g Fit refusal (map view xs) (map view (drop k xs)) first out) where
    rest_is : map view (drop k xs) ≡ view x ∷ map view (drop (k + 1) xs)
    rest_is = map_drop_is view xs k x below is

    pub left_fits : Fit (view x)
    left_fits = first_fits Fit (map view (drop k xs)) (map view (drop (k + 1) xs)) (view x) rest_is l.fits

    decides : Decides (one (view x)) (refusal (map view (drop k xs))) (refusal (map view (drop (k + 1) xs)))
    decides = subst (λ bs. Decides (one (view x)) (refusal bs) (refusal (map view (drop (k + 1) xs)))) (sym rest_is)
        (step (view x) (map view (drop (k + 1) xs)))

    pub left_more : (now : List ℕ) → Appended out now (g (view x)) (one (view x)) →
        Left g Fit refusal (map view xs) (map view (drop (k + 1) xs)) first now
    left_more now a =
        record {
          so_far = more g (map view (drop k xs)) (map view (drop (k + 1) xs)) (view x) out now (first ++ flat_map g (map view xs)) rest_is
              a.all l.so_far;
          fits = others_fit Fit (map view (drop k xs)) (map view (drop (k + 1) xs)) (view x) rest_is l.fits;
          same = l.same ∙ decides.none a.none;
        }

    pub left_refused : (fault : CodeFault) → one (view x) ≡ Some fault → refusal (map view xs) ≡ Some fault
    left_refused fault e = l.same ∙ decides.some fault e

  pub left_last : (k : ℕ) (first out old count : List ℕ) → length xs ≤ k → refusal [] ≡ None → first ≡ old ++ count →
      Left g Fit refusal (map view xs) (map view (drop k xs)) first out
      → Appended old out (count ++ flat_map g (map view xs)) (refusal (map view xs))
  left_last k first out old count le nothing e l =
      record {
        none = l.same ∙ ap (λ bs. refusal (map view bs)) (drop_all k xs le) ∙ nothing;
        all = all_mapped g view xs k out (first ++ flat_map g (map view xs)) le l.so_far ∙ ap (λ bs. bs ++ flat_map g (map view xs)) e ∙
            append_assoc old count (flat_map g (map view xs));
      }

pub attr_step : (a : Attr) (attrs : List Attr) → Decides (attr_refusal a None) (attrs_refusal (a ∷ attrs) None) (attrs_refusal attrs None)
attr_step a attrs = by_attr a (attrs_refusal attrs None)

pub member_step : (m : Member) (ms : List Member) → Decides (attrs_refusal m.attributes None) (members_refusal (m ∷ ms) None)
    (members_refusal ms None)
member_step m ms = by_attrs m.attributes (members_refusal ms None)

-- an error of a part is one of the class
pub class_refused : (e : WriteFault) (class : Class) (r : Option CodeFault) → Refuses r e →
    ((f : CodeFault) → r ≡ Some f → class_refusal class ≡ Some f)
    → IsWritten (writing class) (Err e)
class_refused refused.Memory class r p h = free (writing class)
  where
    free : (w : Writing) → IsWritten w (Err refused.Memory)
    free (Bytes bytes) = tt
    free (Refusal fault) = tt
class_refused (refused.Code fault) class r p h =
    subst (λ k. IsWritten (written (class_bytes class) k) (Err (refused.Code fault))) (sym (h fault p)) refl

-- the parts of a class, in their order
module _ (class : Class) where
  pub fields_refused : (f : CodeFault) → members_refusal class.fields None ≡ Some f → class_refusal class ≡ Some f
  fields_refused f e = (by_members class.fields (members_refusal class.methods (attrs_refusal class.attributes None))).some f e

  pub methods_refused : members_refusal class.fields None ≡ None → (f : CodeFault) → members_refusal class.methods None ≡ Some f →
      class_refusal class ≡ Some f
  methods_refused a f e =
      (by_members class.fields (members_refusal class.methods (attrs_refusal class.attributes None))).none a
      ∙ (by_members class.methods (attrs_refusal class.attributes None)).some f e

  pub attrs_refused : members_refusal class.fields None ≡ None → members_refusal class.methods None ≡ None → (f : CodeFault) →
      attrs_refusal class.attributes None ≡ Some f → class_refusal class ≡ Some f
  attrs_refused a b f e =
      (by_members class.fields (members_refusal class.methods (attrs_refusal class.attributes None))).none a
      ∙ (by_members class.methods (attrs_refusal class.attributes None)).none b ∙ e

  pub none_refused : members_refusal class.fields None ≡ None → members_refusal class.methods None ≡ None →
      attrs_refusal class.attributes None ≡ None → class_refusal class ≡ None
  none_refused a b e =
      (by_members class.fields (members_refusal class.methods (attrs_refusal class.attributes None))).none a
      ∙ (by_members class.methods (attrs_refusal class.attributes None)).none b ∙ e

  pub all_written : (out : List ℕ) → class_refusal class ≡ None → out ≡ class_bytes class → IsWritten (writing class) (Ok out)
  all_written out none e = subst (λ k. IsWritten (written (class_bytes class) k) (Ok out)) (sym none) e

-- ---- no code of a class file is refused
sound_code : (is : List Instr) → IsSound is → encoding is ≡ Code (code_bytes is)
sound_code is s =
    let short = s.short in
    ap (λ b. cond b (Refused (coded.CodeTooLong 0)) (jumped (code_bytes is) (first_outside is))) (not_long (length (code_bytes is)) short)
    ∙ ap (jumped (code_bytes is)) s.inside
  where
    not_long : (n : ℕ) → n ≤ 32767 → nat_lt 32767 n ≡ false
    not_long n h = grind (arith, nat_tests)

sound_attr : (pool : List Const) (of_method : Bool) (a : Attr) (later : Option CodeFault) → FileAttr pool of_method a →
    attr_refusal a later ≡ later
sound_attr pool true (Coded c) later f = ap (λ e. or_else e later) (sound_code c.instrs f.1)
sound_attr pool false (Coded c) later f = ap (λ e. or_else e later) (sound_code c.instrs f.1)
sound_attr pool of_method (Other name bytes) later f = refl

sound_attrs : (pool : List Const) (of_method : Bool) (attrs : List Attr) (later : Option CodeFault) →
    AllByRecursion (FileAttr pool of_method) attrs → attrs_refusal attrs later ≡ later
sound_attrs pool of_method [] later all = refl
sound_attrs pool of_method (a ∷ attrs) later all =
    sound_attr pool of_method a (attrs_refusal attrs later) all.0 ∙ sound_attrs pool of_method attrs later all.1

sound_members : (pool : List Const) (are_methods : Bool) (ms : List Member) (later : Option CodeFault) →
    AllByRecursion (FileMember pool are_methods) ms → members_refusal ms later ≡ later
sound_members pool are_methods [] later all = refl
sound_members pool are_methods (m ∷ ms) later all =
    sound_attrs pool are_methods m.attributes (members_refusal ms later) all.0.attributes.0 ∙ sound_members pool are_methods ms later all.1

sound_class : (class : Class) → IsFile class → class_refusal class ≡ None
sound_class class f =
    sound_members class.pool false class.fields (members_refusal class.methods (attrs_refusal class.attributes None)) f.fields.0
    ∙ sound_members class.pool true class.methods (attrs_refusal class.attributes None) f.methods.0
    ∙ sound_attrs class.pool false class.attributes None f.attributes.0

-- so a class file is written
pub file_written : (class : Class) (result : Result (List ℕ) WriteFault) → IsWritten (writing class) result → IsFile class →
    IsFileOrMemory (class_bytes class) result
file_written class (Ok b) w f = subst (λ k. IsWritten (written (class_bytes class) k) (Ok b)) (sound_class class f) w
file_written class (Err refused.Memory) w f = tt
file_written class (Err (refused.Code fault)) w f = subst (λ k. IsWritten (written (class_bytes class) k) (Err (refused.Code fault)))
    (sound_class class f) w
