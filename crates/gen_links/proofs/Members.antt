-- Methods and fields of a class file: what stands in them where their constants were added to a good pool.
use Rattle.std.proofs.Common.{◌≡◌, List, [], ◌∷◌, refl, ap, codes, IsUtf8}
use Rattle.std.specs.List.{AllByRecursion}
use Rattle.cls_tree.specs.declared.class.Const.{Const}
use Rattle.cls_tree.specs.declared.class.Const.TheVariants.{Utf8}
use Rattle.cls_tree.specs.Emitted.{Pooled, utf8}
use Rattle.cls_tree.specs.Tree as file
use Rattle.jv_core.specs.Tree.{Field, Program}
use Rattle.jv_core.specs.Lookup.{text_at}
use Rattle.gen_rules.specs.Members.{field_descriptor}
use Rattle.gen_rules.specs.Assembled.{all_numbered, aimed, assembled}
use Rattle.gen_rules.specs.Symbolic.{Instr}
use Rattle.gen_rules.specs.Classes.{Compiled, field_in_file, method_in_file, each}
use Rattle.gen_rules.proofs.Pool.{Grows, grows_twice, Gives, gives_then, gives_now, IsText, is-grown, utf8-gives}
use Rattle.gen_links.proofs.Numbers.{AllNumbers, all_numbers-grown, all_numbered-gives}
use Rattle.gen_links.specs.Encodable.{CanStand}
use Rattle.gen_links.proofs.Words.{ascii_text, text_written, type_written}
use Rattle.gen_links.proofs.Pools.{Good, utf8_keeps, all_numbered_keep}

pub record MethodMade (c : Compiled) (pool : List Const) (m : file.Member) : Type 0 where
  pub name : IsText pool m.name c.name
  pub descriptor : IsText pool m.descriptor c.descriptor
  pub access : m.access ≡ c.access
  pub code : file.Code
  pub attributes : m.attributes ≡ file.Coded code ∷ []
  pub code_name : IsText pool code.name (codes "Code")
  pub max_stack : code.max_stack ≡ c.max_stack
  pub max_locals : code.max_locals ≡ c.max_locals
  pub inner : code.attributes ≡ []
  pub numbered : List file.Instr
  pub numbers : AllNumbers pool c.code numbered
  pub instrs : code.instrs ≡ aimed c.code numbered
  pub before : List Const
  pub made : code.instrs ≡ (assembled c.code before).0

numbered_made : (is : List Instr) (pool : List Const) →
    Gives (λ q js. AllNumbers q is js × (js ≡ (all_numbered is pool).0)) pool (all_numbered is)
numbered_made is pool = let g = all_numbered-gives is pool in record { grows = g.grows; holds = (g.holds, refl) }

pub method_made : (c : Compiled) (pool : List Const) → Gives (MethodMade c) pool (method_in_file c)
method_made c pool = gives_then (utf8-gives c.name pool)
    (λ n p g is_name. gives_then (utf8-gives c.descriptor p)
    (λ d q f is_type. gives_then (utf8-gives (codes "Code") q)
    (λ k r e is_code. gives_then (numbered_made c.code r)
    (λ js s h numbers.
    let code : file.Code = record {
      name = k;
      max_stack = c.max_stack;
      max_locals = c.max_locals;
      instrs = aimed c.code js;
      attributes = [];
    } in
    gives_now (record { access = c.access; name = n; descriptor = d; attributes = file.Coded code ∷ [] }) (record {
      name = is-grown (grows_twice f (grows_twice e h)) n (Utf8 c.name) is_name;
      descriptor = is-grown (grows_twice e h) d (Utf8 c.descriptor) is_type;
      access = refl;
      code = code;
      attributes = refl;
      code_name = is-grown h k (Utf8 (codes "Code")) is_code;
      max_stack = refl;
      max_locals = refl;
      inner = refl;
      numbered = js;
      numbers = numbers.0;
      instrs = refl;
      before = r;
      made = ap (aimed c.code) numbers.1;
    })))))

pub method_grown : {pool larger : List Const} → Grows pool larger → (c : Compiled) (m : file.Member) → MethodMade c pool m →
    MethodMade c larger m
method_grown g c m h = record {
  name = is-grown g m.name (Utf8 c.name) h.name;
  descriptor = is-grown g m.descriptor (Utf8 c.descriptor) h.descriptor;
  access = h.access;
  code = h.code;
  attributes = h.attributes;
  code_name = is-grown g h.code.name (Utf8 (codes "Code")) h.code_name;
  max_stack = h.max_stack;
  max_locals = h.max_locals;
  inner = h.inner;
  numbered = h.numbered;
  numbers = all_numbers-grown g c.code h.numbered h.numbers;
  instrs = h.instrs;
  before = h.before;
  made = h.made;
}

pub method_keeps : (c : Compiled) (pool : List Const) → CanStand c → Good pool → Good (method_in_file c pool).1
method_keeps c pool can good =
    let a = (utf8_keeps c.name pool can.name).good good in
    let q = (utf8 c.name pool).1 in
    let b = (utf8_keeps c.descriptor q can.descriptor).good a in
    let r = (utf8 c.descriptor q).1 in
    let d = (utf8_keeps (codes "Code") r (ascii_text (codes "Code") refl)).good b in
    all_numbered_keep c.code (utf8 (codes "Code") r).1 can.code d

pub record FieldMade (p : Program) (d : Field) (pool : List Const) (m : file.Member) : Type 0 where
  pub name : IsText pool m.name (text_at p d.name)
  pub descriptor : IsText pool m.descriptor (field_descriptor p d.ty)
  pub access : m.access ≡ 2
  pub attributes : m.attributes ≡ []

pub field_made : (p : Program) (d : Field) (pool : List Const) → Gives (FieldMade p d) pool (field_in_file p d)
field_made p d pool = gives_then (utf8-gives (text_at p d.name) pool)
    (λ n q g is_name. gives_then (utf8-gives (field_descriptor p d.ty) q)
    (λ t r f is_type. gives_now (record { access = 2; name = n; descriptor = t; attributes = [] })
    (record { name = is-grown f n (Utf8 (text_at p d.name)) is_name; descriptor = is_type; access = refl; attributes = refl })))

pub field_grown : (p : Program) {pool larger : List Const} → Grows pool larger → (d : Field) (m : file.Member) → FieldMade p d pool m →
    FieldMade p d larger m
field_grown p g d m h = record {
  name = is-grown g m.name (Utf8 (text_at p d.name)) h.name;
  descriptor = is-grown g m.descriptor (Utf8 (field_descriptor p d.ty)) h.descriptor;
  access = h.access;
  attributes = h.attributes;
}

pub field_keeps : (p : Program) → AllByRecursion IsUtf8 p.names → (d : Field) (pool : List Const) → Good pool →
    Good (field_in_file p d pool).1
field_keeps p names d pool good =
    let a = (utf8_keeps (text_at p d.name) pool (text_written p names d.name)).good good in
    (utf8_keeps (field_descriptor p d.ty) (utf8 (text_at p d.name) pool).1 (type_written p names d.ty)).good a

-- one for each
abbrev pub AllMade : {A : Type 0} → (A → List Const → file.Member → Type 0) → List Const → List A → List file.Member → Type 0
AllMade P pool [] [] = Unit {0}
AllMade P pool (a ∷ xs) (m ∷ ms) = P a pool m × AllMade P pool xs ms
AllMade P pool [] (m ∷ ms) = ⊥
AllMade P pool (a ∷ xs) [] = ⊥

module _ {A : Type 0} (P : A → List Const → file.Member → Type 0) (f : A → Pooled file.Member)
    (grown : (pool larger : List Const) → Grows pool larger → (a : A) (m : file.Member) → P a pool m → P a larger m)
    (gives : (a : A) (pool : List Const) → Gives (P a) pool (f a)) where
  pub all_made-grown : {pool larger : List Const} → Grows pool larger → (xs : List A) (ms : List file.Member) → AllMade P pool xs ms →
      AllMade P larger xs ms
  all_made-grown g [] [] h = tt
  all_made-grown g [] (m ∷ ms) h = absurd h
  all_made-grown g (a ∷ xs) [] h = absurd h
  all_made-grown {pool} {larger} g (a ∷ xs) (m ∷ ms) h = (grown pool larger g a m h.0, all_made-grown g xs ms h.1)

  pub each_made : (xs : List A) (pool : List Const) → Gives (λ q ms. AllMade P q xs ms) pool (each f xs)
  each_made [] pool = gives_now [] tt
  each_made (a ∷ xs) pool = gives_then (gives a pool)
      (λ m q g h. gives_then (each_made xs q)
      (λ ms r e hs. gives_now (m ∷ ms) (grown q r e a m h, hs)))

pub each_keeps : {A : Type 0} (f : A → Pooled file.Member) (Can : A → Type 0) →
    ((a : A) (pool : List Const) → Can a → Good pool → Good (f a pool).1) → (xs : List A) (pool : List Const) → AllByRecursion Can xs →
    Good pool → Good (each f xs pool).1
each_keeps f Can keeps [] pool h good = good
each_keeps f Can keeps (a ∷ xs) pool h good = each_keeps f Can keeps xs (f a pool).1 h.1 (keeps a pool h.0 good)
