-- The bytes of a well-formed class that was written spell it.
use Rattle.std.specs.List.{AllByRecursion}
use Rattle.std.specs.Str.{bytes_eq}
use Rattle.std.specs.Prelude.{codes, count_by, Result, Ok, Err, IfOk, nat_lt}
use Rattle.std.proofs.Common.{◌≡◌, ◌<◌, ◌≤◌, ℕ, Bool, true, false, cond, arith, List, [], ◌∷◌, length, Option, Some, None, refl, ap, ◌∙◌}
use Rattle.std.proofs.lemmas.Slice.Eq.{bytes_eq-Decides}
use Rattle.std.proofs.lemmas.Bool.Decides.{nat_tests}
use Rattle.cls_tree.specs.declared.class.Const.{Const}
use Rattle.cls_tree.specs.Tree.{Attr, Coded, Other, Member, Class}
use Rattle.cls_tree.specs.Layout.{code_bytes, class_bytes}
use Rattle.cls_tree.specs.Jumps.{first_outside, IsSound, IsSoundAttr, IsSoundMember}
use Rattle.cls_tree.specs.Fits.{FitsAttr, FitsMember, Fits}
use Rattle.cls_tree.specs.ClassFile.{is_code_text, names_code, FileAttr, FileMember}
use Rattle.cls_tree.specs.WellFormed.{NamesCode, PlainNames, MethodNames, is_code, IsField_in, IsMethod_in, IsWellFormed}
use Rattle.cls_code.specs.Code.{Encoding, Code, Refused, jumped, encoding}
use Rattle.cls_code.specs.declared.CodeFault.{CodeFault}
use Rattle.cls_code.specs.declared.CodeFault.TheVariants as coded
use Rattle.cls_bytes.specs.File.{IsFile}
use Rattle.cls_bytes.specs.declared.WriteFault.{WriteFault}
use Rattle.cls_bytes.specs.Answer.{or_else, attr_refusal, attrs_refusal, members_refusal, class_refusal, written, writing, IsWritten}
use Rattle.cls_bytes.specs.Spelling.{ClassSpells}
use Rattle.cls_bytes.proofs.Productions.{count_more}

-- ---- a code that isn't refused is sound
sound_if : (long : Bool) (n : ℕ) (bytes : List ℕ) (o : Option ℕ) (later : Option CodeFault) → nat_lt 32767 n ≡ long
    → or_else (cond long (Refused (coded.CodeTooLong 0)) (jumped bytes o)) later ≡ None → (n ≤ 32767) × (o ≡ None) × (later ≡ None)
sound_if true n bytes o later t h = absurd cc
sound_if false n bytes (Some place) later t h = absurd cc
sound_if false n bytes None later t h = (short n t, refl, h)
  where
    short : (n : ℕ) → nat_lt 32767 n ≡ false → n ≤ 32767
    short n t = grind (arith, nat_tests)

sound_attr : (a : Attr) (later : Option CodeFault) → attr_refusal a later ≡ None → IsSoundAttr a × (later ≡ None)
sound_attr (Coded c) later h =
    let s = sound_if (nat_lt 32767 (length (code_bytes c.instrs))) (length (code_bytes c.instrs)) (code_bytes c.instrs)
    (first_outside c.instrs) later refl h in
    (record { short = s.0; inside = s.1 }, s.2)
sound_attr (Other name bytes) later h = (tt, h)

sound_attrs : (attrs : List Attr) (later : Option CodeFault) → attrs_refusal attrs later ≡ None → AllByRecursion IsSoundAttr attrs
    × (later ≡ None)
sound_attrs [] later h = (tt, h)
sound_attrs (a ∷ attrs) later h =
    let s = sound_attr a (attrs_refusal attrs later) h in
    let t = sound_attrs attrs later s.1 in
    ((s.0, t.0), t.1)

sound_members : (ms : List Member) (later : Option CodeFault) → members_refusal ms later ≡ None → AllByRecursion IsSoundMember ms
    × (later ≡ None)
sound_members [] later h = (tt, h)
sound_members (m ∷ ms) later h =
    let s = sound_attrs m.attributes (members_refusal ms later) h in
    let t = sound_members ms later s.1 in
    ((s.0, t.0), t.1)

-- ---- a well-formed class that can be laid out and has sound codes can stand in a file
is_named : (pool : List Const) (n : ℕ) → NamesCode pool n → names_code pool n ≡ true
unfolding names_code
is_named pool n named = ap is_code_text named

not_named : (pool : List Const) (n : ℕ) → (NamesCode pool n → ⊥) → names_code pool n ≡ false
unfolding names_code
not_named pool n other = go _ other
  where
    test : (b : Bool) (text : List ℕ) → bytes_eq text (codes "Code") ≡ b → (Some text ≡ Some (codes "Code") → ⊥) →
        bytes_eq text (codes "Code") ≡ false
    test false text e other = e
    test true text e other = absurd (other (ap Some ((bytes_eq-Decides text (codes "Code")).0 e)))

    go : (o : Option (List ℕ)) → (o ≡ Some (codes "Code") → ⊥) → is_code_text o ≡ false
    go None other = refl
    go (Some text) other = test (bytes_eq text (codes "Code")) text refl other

method_attr : (pool : List Const) (a : Attr) → MethodNames pool a → FitsAttr a → IsSoundAttr a → FileAttr pool true a
method_attr pool (Coded c) n f s = (f, s, refl, is_named pool c.name n.name)
method_attr pool (Other name bytes) n f s = (f.0, f.1, not_named pool name n.1)

plain_attr : (pool : List Const) (a : Attr) → PlainNames pool a → FitsAttr a → FileAttr pool false a
plain_attr pool (Coded c) n f = absurd n
plain_attr pool (Other name bytes) n f = (f.0, f.1, tt)

method_attrs : (pool : List Const) (attrs : List Attr) → AllByRecursion (MethodNames pool) attrs → AllByRecursion FitsAttr attrs
    → AllByRecursion IsSoundAttr attrs → AllByRecursion (FileAttr pool true) attrs
method_attrs pool [] n f s = tt
method_attrs pool (a ∷ attrs) n f s = (method_attr pool a n.0 f.0 s.0, method_attrs pool attrs n.1 f.1 s.1)

plain_attrs : (pool : List Const) (attrs : List Attr) → AllByRecursion (PlainNames pool) attrs → AllByRecursion FitsAttr attrs
    → AllByRecursion (FileAttr pool false) attrs
plain_attrs pool [] n f = tt
plain_attrs pool (a ∷ attrs) n f = (plain_attr pool a n.0 f.0, plain_attrs pool attrs n.1 f.1)

no_code : (pool : List Const) (attrs : List Attr) → AllByRecursion (PlainNames pool) attrs → count_by is_code attrs ≡ 0
no_code pool [] n = refl
no_code pool (Coded c ∷ attrs) n = absurd n.0
no_code pool (Other name bytes ∷ attrs) n =
    let more = count_more (Other name bytes) attrs in
    let none = no_code pool attrs n.1 in
    omega arith

method : (pool : List Const) (m : Member) → IsMethod_in pool m → FitsMember m → IsSoundMember m → FileMember pool true m
method pool m w f s =
    record {
      access = f.access;
      name = f.name;
      descriptor = f.descriptor;
      attributes = (method_attrs pool m.attributes w.attributes f.attributes.0 s, f.attributes.1);
      one_code = w.one_code;
    }

field : (pool : List Const) (m : Member) → IsField_in pool m → FitsMember m → FileMember pool false m
field pool m w f =
    record {
      access = f.access;
      name = f.name;
      descriptor = f.descriptor;
      attributes = (plain_attrs pool m.attributes w.attributes f.attributes.0, f.attributes.1);
      one_code = let none = no_code pool m.attributes w.attributes in omega arith;
    }

methods : (pool : List Const) (ms : List Member) → AllByRecursion (IsMethod_in pool) ms → AllByRecursion FitsMember ms
    → AllByRecursion IsSoundMember ms → AllByRecursion (FileMember pool true) ms
methods pool [] w f s = tt
methods pool (m ∷ ms) w f s = (method pool m w.0 f.0 s.0, methods pool ms w.1 f.1 s.1)

fields : (pool : List Const) (ms : List Member) → AllByRecursion (IsField_in pool) ms → AllByRecursion FitsMember ms
    → AllByRecursion (FileMember pool false) ms
fields pool [] w f = tt
fields pool (m ∷ ms) w f = (field pool m w.0 f.0, fields pool ms w.1 f.1)

can_stand : (c : Class) → Fits c → IsWellFormed c → class_refusal c ≡ None → IsFile c
can_stand c f w none =
    let a = sound_members c.fields (members_refusal c.methods (attrs_refusal c.attributes None)) none in
    let b = sound_members c.methods (attrs_refusal c.attributes None) a.1 in
    record {
      pool = f.pool;
      count = f.count;
      access = f.access;
      this_class = f.this_class;
      super_class = f.super_class;
      fields = (fields c.pool c.fields w.fields f.fields.0, f.fields.1);
      methods = (methods c.pool c.methods w.methods f.methods.0 b.0, f.methods.1);
      attributes = (plain_attrs c.pool c.attributes w.attributes f.attributes.0, f.attributes.1);
    }

-- so what is written of a well-formed class spells it
pub written_spells : (class : Class) (result : Result (List ℕ) WriteFault) → Fits class → IsWritten (writing class) result →
    IsWellFormed class
    → IfOk result (λ bytes. ClassSpells bytes class)
written_spells class (Err fault) f w well = tt
written_spells class (Ok bytes) f w well = go (class_refusal class) refl w
  where
    go : (r : Option CodeFault) → class_refusal class ≡ r → IsWritten (written (class_bytes class) r) (Ok bytes) → ClassSpells bytes class
    go None none w = record { file = can_stand class f well none; well_formed = well; layout = w }
    go (Some fault) some w = absurd w
