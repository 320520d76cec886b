-- The class file of a class that exceeds no limit is one that bytes spell.
use Rattle.std.proofs.Common.{◌≡◌, ℕ, suc, ◌+◌, ◌^◌, ◌<◌, ◌≤◌, List, [], ◌∷◌, ◌++◌, length, None}
use Rattle.std.proofs.Common.{refl, sym, ap, ◌∙◌, subst, arith, codes, IsUtf8, length-append, count_by}
use Rattle.std.specs.List.{AllByRecursion, flat_map}
use Rattle.byteorder.specs.Numbers.{length-bytes_high_first}
use Rattle.cls_tree.specs.declared.class.Const.{Const}
use Rattle.cls_tree.specs.declared.class.Const.TheVariants.{Utf8, Class as ClassConst}
use Rattle.cls_tree.specs.Emitted.{class_const, code_of}
use Rattle.cls_tree.specs.Tree as file
use Rattle.cls_tree.specs.Layout.{u2, u4, instr_bytes, inner_bytes, code_from, code_bytes, content_bytes}
use Rattle.cls_tree.specs.Fits.{Counted, FitsInner, FitsInstrs, FitsCode, FitsAttr, FitsMember}
use Rattle.cls_tree.specs.Jumps.{first_outside, IsSoundMember, IsSoundAttr, starts_from}
use Rattle.cls_tree.specs.WellFormed as wf
use Rattle.cls_tree.specs.WellFormed.{IsField_in, IsMethod_in, PlainNames, MethodNames, CodeNames, InnerNames, NamesCode, is_code}
use Rattle.jv_core.specs.Tree.{Field, Class, Program}
use Rattle.jv_core.specs.Lookup.{text_at}
use Rattle.vm_model.specs.BuiltIns.{object_class}
use Rattle.gen_rules.specs.Members.{field_descriptor}
use Rattle.gen_rules.specs.Assembled.{aimed}
use Rattle.gen_rules.specs.Classes.{Compiled, header, field_in_file, method_in_file, each, parts, class_file}
use Rattle.gen_rules.specs.Limits.{parts_in, first_in_parts}
use Rattle.gen_rules.proofs.Pool.{Grows, grows_twice, Gives, class_const-gives}
use Rattle.gen_rules.proofs.Found.{text_found}
use Rattle.gen_links.specs.Files.{JumpsInside}
use Rattle.gen_links.proofs.Starts.{length-starts}
use Rattle.gen_links.proofs.Numbers.{as_many}
use Rattle.gen_links.proofs.Judging.{starts_aimed}
use Rattle.gen_links.proofs.Parts.{PartsStand, parts-gives}
use Rattle.gen_links.specs.Encodable.{CanStand}
use Rattle.gen_links.specs.Spelled.{FilesFit, IsSpelled}
use Rattle.gen_links.proofs.Words.{ascii_text, text_written}
use Rattle.gen_links.proofs.Pools.{Good, class_keeps, is-small, is-tagged, consts_fit, consts_name}
use Rattle.gen_links.proofs.Encoded.{Encoded, assembled_encoded, fit_all, name_all}
use Rattle.gen_links.proofs.Limits.{IsShort, MethodsLimited, header_limited, fields_limited, methods_limited}
use Rattle.gen_links.proofs.Members.{MethodMade, method_made, method_grown, method_keeps, FieldMade, field_made, field_grown, field_keeps}
use Rattle.gen_links.proofs.Members.{AllMade, all_made-grown, each_made, each_keeps}

-- Code.

bytes_long : (place : ℕ) (is : List file.Instr) → length is ≤ length (code_from place is)
bytes_long place [] = omega arith
bytes_long place (i ∷ is) =
    let next = place + length (instr_bytes place i) in
    let e = length-append (instr_bytes place i) (code_from next is) in
    omega (arith, bytes_long next is, e)

content_long : (c : file.Code) → c.attributes ≡ [] → length (content_bytes c) ≡ 12 + length (code_bytes c.instrs)
content_long c h =
    let code = code_bytes c.instrs in
    let last = flat_map inner_bytes c.attributes in
    let a = length-append (u2 c.max_stack) (u2 c.max_locals ++ (u4 (length code) ++ (code ++ (u2 0 ++ (u2 (length c.attributes) ++ last)))))
    in
    let b = length-append (u2 c.max_locals) (u4 (length code) ++ (code ++ (u2 0 ++ (u2 (length c.attributes) ++ last)))) in
    let d = length-append (u4 (length code)) (code ++ (u2 0 ++ (u2 (length c.attributes) ++ last))) in
    let e = length-append code (u2 0 ++ (u2 (length c.attributes) ++ last)) in
    let f = length-append (u2 0) (u2 (length c.attributes) ++ last) in
    let g = length-append (u2 (length c.attributes)) last in
    let none : length last ≡ 0 = ap (λ xs. length (flat_map inner_bytes xs)) h in
    let two = length-bytes_high_first 2 c.max_stack in
    let two_more = length-bytes_high_first 2 c.max_locals in
    let four = length-bytes_high_first 4 (length code) in
    let zero_two = length-bytes_high_first 2 0 in
    let last_two = length-bytes_high_first 2 (length c.attributes) in
    omega (arith, a, b, d, e, f, g, none, two, two_more, four, zero_two, last_two)

code_in : (m : file.Member) (c : file.Code) → m.attributes ≡ file.Coded c ∷ [] → code_of (m ∷ []) ≡ c.instrs
code_in m c h = ap (λ xs. code_of (record { access = m.access; name = m.name; descriptor = m.descriptor; attributes = xs } ∷ [])) h

module _ (pool : List Const) (few : length pool ≤ 65534) where
  -- Fields.

  field_fits : (p : Program) (d : Field) (m : file.Member) → FieldMade p d pool m → FitsMember m
  field_fits p d m h = record {
    access = let e = h.access in omega (arith, e);
    name = is-small pool few m.name (Utf8 (text_at p d.name)) h.name;
    descriptor = is-small pool few m.descriptor (Utf8 (field_descriptor p d.ty)) h.descriptor;
    attributes = subst (Counted FitsAttr) (sym h.attributes) (tt, omega arith);
  }

  field_formed : (p : Program) (d : Field) (m : file.Member) → FieldMade p d pool m → IsField_in pool m
  field_formed p d m h = record {
    name = is-tagged pool m.name (Utf8 (text_at p d.name)) h.name;
    descriptor = is-tagged pool m.descriptor (Utf8 (field_descriptor p d.ty)) h.descriptor;
    attributes = subst (AllByRecursion (PlainNames pool)) (sym h.attributes) tt;
  }

  record FieldsStand (ms : List file.Member) (n : ℕ) : Type 0 where
    fits : AllByRecursion FitsMember ms
    formed : AllByRecursion (IsField_in pool) ms
    count : length ms ≡ n

  fields_stand : (p : Program) (ds : List Field) (ms : List file.Member) → AllMade (FieldMade p) pool ds ms → FieldsStand ms (length ds)
  fields_stand p [] [] h = record { fits = tt; formed = tt; count = refl }
  fields_stand p [] (m ∷ ms) h = absurd h
  fields_stand p (d ∷ ds) [] h = absurd h
  fields_stand p (d ∷ ds) (m ∷ ms) h =
      let rest = fields_stand p ds ms h.1 in record {
        fits = (field_fits p d m h.0, rest.fits);
        formed = (field_formed p d m h.0, rest.formed);
        count = ap suc rest.count;
      }

  -- Methods.

  module _ (c : Compiled) (m : file.Member) (h : MethodMade c pool m) (can : CanStand c) (inside : JumpsInside c)
      (short : IsShort m) (locals : c.max_locals ≤ 255) where
    size : length (code_bytes h.code.instrs) ≤ 32767
    size = subst (λ is. length (code_bytes is) ≤ 32767) (code_in m h.code h.attributes) short

    size_aimed : length (code_from 0 (aimed c.code h.numbered)) ≤ 32767
    size_aimed = subst (λ is. length (code_from 0 is) ≤ 32767) h.instrs size

    encoded : AllByRecursion (Encoded pool) (aimed c.code h.numbered)
    encoded = assembled_encoded pool few c.code h.numbered h.numbers can.code size_aimed

    as_long : length (aimed c.code h.numbered) ≡ length c.code
    as_long =
        sym (length-starts 0 (aimed c.code h.numbered))
        ∙ ap length (starts_aimed pool (starts_from 0 h.numbered) 0 c.code h.numbered h.numbers)
        ∙ length-starts 0 h.numbered ∙ as_many pool c.code h.numbered h.numbers

    instrs_fit : FitsInstrs h.code.instrs
    instrs_fit =
        let some = can.some in
        subst FitsInstrs (sym h.instrs) (fit_all pool (aimed c.code h.numbered) encoded, omega (arith, as_long, some))

    code_fits : FitsCode h.code
    code_fits =
        let long = bytes_long 0 (aimed c.code h.numbered) in
        let stack = can.max_stack in
        let same_stack = h.max_stack in
        let same_locals = h.max_locals in
        let content = content_long h.code h.inner in
        record {
          name = is-small pool few h.code.name (Utf8 (codes "Code")) h.code_name;
          max_stack = omega (arith, long, stack, same_stack, as_long, size_aimed);
          max_locals = omega (arith, same_locals, locals);
          instrs = instrs_fit;
          code_length = omega (arith, size);
          attributes = subst (Counted FitsInner) (sym h.inner) (tt, omega arith);
          content_length = omega (arith, size, content);
        }

    method_fits : FitsMember m
    method_fits = record {
      access = let e = h.access in let l = can.access in omega (arith, e, l);
      name = is-small pool few m.name (Utf8 c.name) h.name;
      descriptor = is-small pool few m.descriptor (Utf8 c.descriptor) h.descriptor;
      attributes = subst (Counted FitsAttr) (sym h.attributes) ((code_fits, tt), omega arith);
    }

    named : NamesCode pool h.code.name
    named = text_found pool h.code.name (codes "Code") h.code_name

    code_names : CodeNames pool h.code
    code_names = record {
      name = named;
      instrs = subst (AllByRecursion (wf.InstrNames pool)) (sym h.instrs) (name_all pool (aimed c.code h.numbered) encoded);
      attributes = subst (AllByRecursion (InnerNames pool)) (sym h.inner) tt;
    }

    method_formed : IsMethod_in pool m
    method_formed = record {
      name = is-tagged pool m.name (Utf8 c.name) h.name;
      descriptor = is-tagged pool m.descriptor (Utf8 c.descriptor) h.descriptor;
      attributes = subst (AllByRecursion (MethodNames pool)) (sym h.attributes) (code_names, tt);
      one_code = subst (λ xs. count_by is_code xs ≤ 1) (sym h.attributes) (omega arith);
    }

    method_sound : IsSoundMember m
    method_sound = subst (AllByRecursion IsSoundAttr) (sym h.attributes) (
      record {
        short = size;
        inside = ap first_outside h.made ∙ inside h.before;
      },
      tt,
    )

  record MethodsStand (ms : List file.Member) (n : ℕ) : Type 0 where
    fits : AllByRecursion FitsMember ms
    formed : AllByRecursion (IsMethod_in pool) ms
    sound : AllByRecursion IsSoundMember ms
    count : length ms ≡ n

  methods_stand : (cs : List Compiled) (ms : List file.Member) → AllMade MethodMade pool cs ms → AllByRecursion CanStand cs →
      AllByRecursion JumpsInside cs → AllByRecursion IsShort ms → AllByRecursion (λ c. c.max_locals ≤ 255) cs → MethodsStand ms (length cs)
  methods_stand [] [] h can inside short locals = record { fits = tt; formed = tt; sound = tt; count = refl }
  methods_stand [] (m ∷ ms) h can inside short locals = absurd h
  methods_stand (c ∷ cs) [] h can inside short locals = absurd h
  methods_stand (c ∷ cs) (m ∷ ms) h can inside short locals =
      let rest = methods_stand cs ms h.1 can.1 inside.1 short.1 locals.1 in record {
        fits = (method_fits c m h.0 can.0 inside.0 short.0 locals.0, rest.fits);
        formed = (method_formed c m h.0 can.0 inside.0 short.0 locals.0, rest.formed);
        sound = (method_sound c m h.0 can.0 inside.0 short.0 locals.0, rest.sound);
        count = ap suc rest.count;
      }

-- The whole file.

any_field : (ds : List Field) → AllByRecursion (λ d. Unit {0}) ds
any_field [] = tt
any_field (d ∷ ds) = (tt, any_field ds)

module _ (p : Program) (k : Class) (cs : List Compiled) (names : AllByRecursion IsUtf8 p.names) (can : AllByRecursion CanStand cs)
    (inside : AllByRecursion JumpsInside cs) (few_fields : length k.fields < 2 ^ 16) (few_methods : length cs < 2 ^ 16)
    (none : first_in_parts p k (parts_in k cs) [] ≡ None) where
  abbrev named_pool : List Const
  named_pool = (class_const (text_at p k.name) []).1

  abbrev header_pool : List Const
  header_pool = (header p k []).1

  abbrev fields_pool : List Const
  fields_pool = (each (field_in_file p) k.fields header_pool).1

  abbrev whole : file.Class
  whole = class_file p k cs

  header_grows : Grows [] header_pool
  header_grows = grows_twice (class_const-gives (text_at p k.name) []).grows (class_const-gives object_class named_pool).grows

  good : Good whole.pool
  good =
      let a = (class_keeps (text_at p k.name) [] (text_written p names k.name)).good tt in
      let b = (class_keeps object_class named_pool (ascii_text object_class refl)).good a in
      let c = each_keeps (field_in_file p) (λ d. Unit {0}) (λ d q u g. field_keeps p names d q g) k.fields header_pool (any_field k.fields)
      b in
      each_keeps method_in_file CanStand method_keeps cs fields_pool can c

  limits : MethodsLimited cs fields_pool
  limits =
      let a = header_limited p k header_grows cs none in
      let b = fields_limited p k (λ d q. (field_made p d q).grows) k.fields cs header_pool a.0 a.1 in
      methods_limited p k (λ c q. (method_made c q).grows) cs fields_pool b.0 b.1

  methods_made : Gives (λ q ms. AllMade MethodMade q cs ms) fields_pool (each method_in_file cs)
  methods_made = each_made MethodMade method_in_file (λ x y e a m z. method_grown e a m z) method_made cs fields_pool

  fields_made : AllMade (FieldMade p) whole.pool k.fields whole.fields
  fields_made =
      all_made-grown (FieldMade p) (field_in_file p) (λ x y e a m z. field_grown p e a m z) (field_made p) methods_made.grows k.fields
      whole.fields
      (each_made (FieldMade p) (field_in_file p) (λ x y e a m z. field_grown p e a m z) (field_made p) k.fields header_pool).holds

  few : length whole.pool ≤ 65534
  few = limits.limited.few

  fields : FieldsStand whole.pool few whole.fields (length k.fields)
  fields = fields_stand whole.pool few p k.fields whole.fields fields_made

  methods : MethodsStand whole.pool few whole.methods (length cs)
  methods = methods_stand whole.pool few cs whole.methods methods_made.holds can inside limits.short limits.locals

  stands : PartsStand p k cs whole.pool (parts p k cs []).0
  stands = (parts-gives p k cs []).holds

  pub whole_spelled : IsSpelled whole
  whole_spelled = record {
    fits = record {
      pool = consts_fit whole.pool few whole.pool good limits.limited.short;
      count = let l = few in omega (arith, l);
      access = omega arith;
      this_class = is-small whole.pool few whole.this_class (ClassConst stands.this_class.0) stands.this_class.1;
      super_class = is-small whole.pool few whole.super_class (ClassConst stands.super_class.0) stands.super_class.1;
      fields = (fields.fits, let e = fields.count in omega (arith, e, few_fields));
      methods = (methods.fits, let e = methods.count in omega (arith, e, few_methods));
      attributes = (tt, omega arith);
    };
    well_formed = record {
      pool = consts_name whole.pool whole.pool good;
      this_class = is-tagged whole.pool whole.this_class (ClassConst stands.this_class.0) stands.this_class.1;
      super_class = is-tagged whole.pool whole.super_class (ClassConst stands.super_class.0) stands.super_class.1;
      fields = fields.formed;
      methods = methods.formed;
      attributes = tt;
    };
    sound = methods.sound;
  }

pub files_fit : FilesFit
files_fit = record {
  spelled = λ p k cs names can inside few_fields few_methods none. whole_spelled p k cs names can inside few_fields few_methods none;
}
