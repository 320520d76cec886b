-- A class file that can be laid out, is well formed and has sound codes is written: none of its codes is refused.
use Rattle.std.proofs.Common.{◌≡◌, ℕ, ◌≤◌, true, false, List, [], ◌∷◌, Option, Some, None, refl, ap, ◌∙◌, arith, codes, count_by}
use Rattle.std.specs.List.{AllByRecursion}
use Rattle.std.proofs.lemmas.Slice.Eq.{bytes_eq-Decides}
use Rattle.cls_tree.specs.declared.class.Const.{Const}
use Rattle.cls_tree.specs.Pool.{text_at}
use Rattle.cls_tree.specs.Tree.{Attr, Coded, Other, Member, Class}
use Rattle.cls_tree.specs.Fits.{FitsAttr, FitsMember}
use Rattle.cls_tree.specs.Jumps.{IsSoundAttr, IsSoundMember}
use Rattle.cls_tree.specs.ClassFile.{is_code_text, names_code, FileAttr, FileMember}
use Rattle.cls_tree.specs.WellFormed.{NamesCode, PlainNames, MethodNames, IsField_in, IsMethod_in, is_code}
use Rattle.cls_bytes.specs.File.{IsFile}
use Rattle.gen_links.proofs.Apart.{differ}
use Rattle.gen_links.specs.Spelled.{IsSpelled}

code_named : (pool : List Const) (n : ℕ) → NamesCode pool n → names_code pool n ≡ true
unfolding names_code
code_named pool n e = ap is_code_text e ∙ (bytes_eq-Decides (codes "Code") (codes "Code")).1 refl

other_named : (pool : List Const) (n : ℕ) → (NamesCode pool n → ⊥) → names_code pool n ≡ false
unfolding names_code
other_named pool n isnt = go (text_at pool n) isnt
  where
    go : (o : Option (List ℕ)) → (o ≡ Some (codes "Code") → ⊥) → is_code_text o ≡ false
    go None h = refl
    go (Some t) h = differ t (codes "Code") (λ e. h (ap Some e))

-- attributes of fields and of the class: none is code
plain_attrs : (pool : List Const) (attrs : List Attr) → AllByRecursion FitsAttr attrs → AllByRecursion (PlainNames pool) attrs →
    AllByRecursion (FileAttr pool false) attrs
plain_attrs pool [] fit named = tt
plain_attrs pool (Coded c ∷ attrs) fit named = absurd named.0
plain_attrs pool (Other name bytes ∷ attrs) fit named = (((fit.0).0, (fit.0).1, tt), plain_attrs pool attrs fit.1 named.1)

method_attrs : (pool : List Const) (attrs : List Attr) → AllByRecursion FitsAttr attrs → AllByRecursion (MethodNames pool) attrs →
    AllByRecursion IsSoundAttr attrs → AllByRecursion (FileAttr pool true) attrs
method_attrs pool [] fit named sound = tt
method_attrs pool (Coded c ∷ attrs) fit named sound =
    ((fit.0, sound.0, refl, code_named pool c.name (named.0).name), method_attrs pool attrs fit.1 named.1 sound.1)
method_attrs pool (Other name bytes ∷ attrs) fit named sound =
    (((fit.0).0, (fit.0).1, other_named pool name (named.0).1), method_attrs pool attrs fit.1 named.1 sound.1)

-- no attribute of a field is code
none_coded : (pool : List Const) (attrs : List Attr) → AllByRecursion (PlainNames pool) attrs → count_by is_code attrs ≤ 1
none_coded pool [] named = omega arith
none_coded pool (Coded c ∷ attrs) named = absurd named.0
none_coded pool (Other name bytes ∷ attrs) named = none_coded pool attrs named.1

fields_filed : (pool : List Const) (ms : List Member) → AllByRecursion FitsMember ms → AllByRecursion (IsField_in pool) ms →
    AllByRecursion (FileMember pool false) ms
fields_filed pool [] fit formed = tt
fields_filed pool (m ∷ ms) fit formed = (
  record {
    access = (fit.0).access;
    name = (fit.0).name;
    descriptor = (fit.0).descriptor;
    attributes = (plain_attrs pool m.attributes ((fit.0).attributes).0 (formed.0).attributes, ((fit.0).attributes).1);
    one_code = none_coded pool m.attributes (formed.0).attributes;
  },
  fields_filed pool ms fit.1 formed.1,
)

methods_filed : (pool : List Const) (ms : List Member) → AllByRecursion FitsMember ms → AllByRecursion (IsMethod_in pool) ms →
    AllByRecursion IsSoundMember ms → AllByRecursion (FileMember pool true) ms
methods_filed pool [] fit formed sound = tt
methods_filed pool (m ∷ ms) fit formed sound = (
  record {
    access = (fit.0).access;
    name = (fit.0).name;
    descriptor = (fit.0).descriptor;
    attributes = (method_attrs pool m.attributes ((fit.0).attributes).0 (formed.0).attributes sound.0, ((fit.0).attributes).1);
    one_code = (formed.0).one_code;
  },
  methods_filed pool ms fit.1 formed.1 sound.1,
)

pub spelled_file : (c : Class) → IsSpelled c → IsFile c
spelled_file c s =
    let f = s.fits in
    let w = s.well_formed in
    record {
      pool = f.pool;
      count = f.count;
      access = f.access;
      this_class = f.this_class;
      super_class = f.super_class;
      fields = (fields_filed c.pool c.fields f.fields.0 w.fields, f.fields.1);
      methods = (methods_filed c.pool c.methods f.methods.0 w.methods s.sound, f.methods.1);
      attributes = (plain_attrs c.pool c.attributes f.attributes.0 w.attributes, f.attributes.1);
    }
