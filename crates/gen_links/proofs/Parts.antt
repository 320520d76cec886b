-- What the numbers of a class file name: its header, its fields and its methods, in each pool that grew of theirs.
use Rattle.std.proofs.Common.{◌≡◌, List, [], ◌∷◌, map, Ok, refl, codes}
use Rattle.cls_tree.specs.declared.class.Const.{Const}
use Rattle.cls_tree.specs.Tree as file
use Rattle.cls_tree.specs.Emitted.{Pooled}
use Rattle.vm_model.specs.Links.{Outline, judged_code}
use Rattle.vm_model.specs.BuiltIns.{object_class}
use Rattle.jv_core.specs.Tree.{Field, Class, Program}
use Rattle.jv_core.specs.Lookup.{text_at}
use Rattle.gen_rules.specs.Symbolic.{Instr}
use Rattle.gen_rules.specs.Members.{field_descriptor}
use Rattle.gen_rules.specs.Assembled.{aimed, assembled}
use Rattle.gen_rules.specs.Classes.{Compiled, Header, header, field_in_file, code_in_file, method_in_file, each, Parts, parts}
use Rattle.gen_rules.specs.Linked.{linked_code}
use Rattle.gen_rules.proofs.Pool.{Grows, grows_twice, Gives, gives_then}
use Rattle.gen_rules.proofs.Pool.{gives_now, IsText, IsClassNamed, is-grown, class-grown, utf8-gives, class_const-gives}
use Rattle.cls_tree.specs.declared.class.Const.TheVariants.{Utf8}
use Rattle.gen_links.specs.Right.{AreRight}
use Rattle.gen_links.proofs.Numbers.{all_numbers-grown, all_numbered-gives}
use Rattle.gen_links.proofs.Judging.{code_judged}

-- code that is judged to be the code that is expected, in each larger pool
abbrev pub Judges : List Instr → List Const → List file.Instr → Type 0
Judges is pool js = (os : List Outline) (larger : List Const) → AreRight os is → Grows pool larger →
    judged_code os larger js ≡ map Ok (linked_code os is js)

assembled-gives : (is : List Instr) (pool : List Const) → Gives (Judges is) pool (assembled is)
assembled-gives is pool = gives_then (all_numbered-gives is pool)
    (λ js p g h. gives_now (aimed is js) (λ os larger r f. code_judged os larger is js (all_numbers-grown f is js h) r))

-- the code of a method
pub record CodeStands (c : Compiled) (pool : List Const) (code : file.Code) : Type 0 where
  pub name : IsText pool code.name (codes "Code")
  pub max_stack : code.max_stack ≡ c.max_stack
  pub max_locals : code.max_locals ≡ c.max_locals
  pub judges : Judges c.code pool code.instrs

code-gives : (c : Compiled) (pool : List Const) → Gives (CodeStands c) pool (code_in_file c)
code-gives c pool = gives_then (utf8-gives (codes "Code") pool)
    (λ n p g h. gives_then (assembled-gives c.code p)
    (λ js q f judges. gives_now (record { name = n; max_stack = c.max_stack; max_locals = c.max_locals; instrs = js; attributes = [] })
    (record { name = is-grown f n (Utf8 (codes "Code")) h; max_stack = refl; max_locals = refl; judges = judges })))

pub record MethodStands (c : Compiled) (pool : List Const) (m : file.Member) : Type 0 where
  pub name : IsText pool m.name c.name
  pub descriptor : IsText pool m.descriptor c.descriptor
  pub access : m.access ≡ c.access
  pub code : file.Code
  pub attributes : m.attributes ≡ file.Coded code ∷ []
  pub stands : CodeStands c pool code

pub method-gives : (c : Compiled) (pool : List Const) → Gives (MethodStands c) pool (method_in_file c)
method-gives c pool = gives_then (utf8-gives c.name pool)
    (λ n p g is_name. gives_then (utf8-gives c.descriptor p)
    (λ d q f is_type. gives_then (code-gives c q)
    (λ code r e stands. gives_now (record { access = c.access; name = n; descriptor = d; attributes = file.Coded code ∷ [] }) (record {
      name = is-grown (grows_twice f e) n (Utf8 c.name) is_name;
      descriptor = is-grown e d (Utf8 c.descriptor) is_type;
      access = refl;
      code = code;
      attributes = refl;
      stands = stands;
    }))))

method-grown : {pool larger : List Const} → Grows pool larger → (c : Compiled) (m : file.Member) → MethodStands c pool m →
    MethodStands c larger m
method-grown g c m h = record {
  name = is-grown g m.name (Utf8 c.name) h.name;
  descriptor = is-grown g m.descriptor (Utf8 c.descriptor) h.descriptor;
  access = h.access;
  code = h.code;
  attributes = h.attributes;
  stands = record {
    name = is-grown g h.code.name (Utf8 (codes "Code")) h.stands.name;
    max_stack = h.stands.max_stack;
    max_locals = h.stands.max_locals;
    judges = λ os larger r f. h.stands.judges os larger r (grows_twice g f);
  };
}

pub record FieldStands (p : Program) (d : Field) (pool : List Const) (m : file.Member) : Type 0 where
  pub name : IsText pool m.name (text_at p d.name)
  pub descriptor : IsText pool m.descriptor (field_descriptor p d.ty)
  pub access : m.access ≡ 2
  pub attributes : m.attributes ≡ []

field-gives : (p : Program) (d : Field) (pool : List Const) → Gives (FieldStands p d) pool (field_in_file p d)
field-gives p d pool = gives_then (utf8-gives (text_at p d.name) pool)
    (λ n q g is_name. gives_then (utf8-gives (field_descriptor p d.ty) q)
    (λ t r f is_type. gives_now (record { access = 2; name = n; descriptor = t; attributes = [] })
    (record { name = is-grown f n (Utf8 (text_at p d.name)) is_name; descriptor = is_type; access = refl; attributes = refl })))

field-grown : (p : Program) {pool larger : List Const} → Grows pool larger → (d : Field) (m : file.Member) → FieldStands p d pool m →
    FieldStands p d larger m
field-grown p g d m h = record {
  name = is-grown g m.name (Utf8 (text_at p d.name)) h.name;
  descriptor = is-grown g m.descriptor (Utf8 (field_descriptor p d.ty)) h.descriptor;
  access = h.access;
  attributes = h.attributes;
}

-- one for each
abbrev pub AllStand : {A : Type 0} → (A → List Const → file.Member → Type 0) → List Const → List A → List file.Member → Type 0
AllStand P pool [] [] = Unit {0}
AllStand P pool (a ∷ xs) (m ∷ ms) = P a pool m × AllStand P pool xs ms
AllStand P pool [] (m ∷ ms) = ⊥
AllStand P pool (a ∷ xs) [] = ⊥

module _ {A : Type 0} (P : A → List Const → file.Member → Type 0) (f : A → Pooled file.Member)
    (grown : (pool larger : List Const) → Grows pool larger → (a : A) (m : file.Member) → P a pool m → P a larger m)
    (gives : (a : A) (pool : List Const) → Gives (P a) pool (f a)) where
  all-grown : {pool larger : List Const} → Grows pool larger → (xs : List A) (ms : List file.Member) → AllStand P pool xs ms →
      AllStand P larger xs ms
  all-grown g [] [] h = tt
  all-grown g [] (m ∷ ms) h = absurd h
  all-grown g (a ∷ xs) [] h = absurd h
  all-grown {pool} {larger} g (a ∷ xs) (m ∷ ms) h = (grown pool larger g a m h.0, all-grown g xs ms h.1)

  each-gives : (xs : List A) (pool : List Const) → Gives (λ q ms. AllStand P q xs ms) pool (each f xs)
  each-gives [] pool = gives_now [] tt
  each-gives (a ∷ xs) pool = gives_then (gives a pool)
      (λ m q g h. gives_then (each-gives xs q)
      (λ ms r e hs. gives_now (m ∷ ms) (grown q r e a m h, hs)))

-- the parts of a class
pub record PartsStand (p : Program) (k : Class) (methods : List Compiled) (pool : List Const) (made : Parts) : Type 0 where
  pub this_class : IsClassNamed pool made.header.this_class (text_at p k.name)
  pub super_class : IsClassNamed pool made.header.super_class object_class
  pub fields : AllStand (FieldStands p) pool k.fields made.fields
  pub methods_stand : AllStand MethodStands pool methods made.methods

abbrev HeaderStands : Program → Class → List Const → Header → Type 0
HeaderStands p k pool h = IsClassNamed pool h.this_class (text_at p k.name) × IsClassNamed pool h.super_class object_class

header-gives : (p : Program) (k : Class) (pool : List Const) → Gives (HeaderStands p k) pool (header p k)
header-gives p k pool = gives_then (class_const-gives (text_at p k.name) pool)
    (λ t q g this. gives_then (class_const-gives object_class q)
    (λ s r f super. gives_now (record { this_class = t; super_class = s }) (class-grown f t (text_at p k.name) this, super)))

pub parts-gives : (p : Program) (k : Class) (methods : List Compiled) (pool : List Const) →
    Gives (PartsStand p k methods) pool (parts p k methods)
parts-gives p k methods pool = gives_then (header-gives p k pool)
    (λ h q g is_header. gives_then (each-gives (FieldStands p) (field_in_file p) (λ x y e a m z. field-grown p e a m z)
    (field-gives p) k.fields q)
    (λ fs r f is_fields. gives_then (each-gives MethodStands method_in_file (λ x y e a m z. method-grown e a m z) method-gives methods r)
    (λ ms s e is_methods. gives_now (record { header = h; fields = fs; methods = ms }) (record {
      this_class = class-grown (grows_twice f e) h.this_class (text_at p k.name) is_header.0;
      super_class = class-grown (grows_twice f e) h.super_class object_class is_header.1;
      fields = all-grown (FieldStands p) (field_in_file p) (λ x y e a m z. field-grown p e a m z) (field-gives p) e k.fields fs is_fields;
      methods_stand = is_methods;
    }))))
