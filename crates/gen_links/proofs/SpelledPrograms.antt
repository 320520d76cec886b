-- The class files of a core that exceeds no limit are class files that bytes spell.
use Rattle.std.proofs.Common.{◌≡◌, ℕ, suc, ◌+◌, ◌^◌, ◌<◌, ◌≤◌, List, [], ◌∷◌, ◌++◌, length, map, Option, Some, None, pos, true, false}
use Rattle.std.proofs.Common.{refl, sym, ap, ◌∙◌, subst, arith, codes, IsUtf8, length-append, filter_map, slice_get}
use Rattle.std.specs.List.{AllByRecursion}
use Rattle.cls_tree.specs.declared.instr.Form.TheVariants as forms
use Rattle.cls_tree.specs.Opcodes.{form_of}
use Rattle.cls_tree.specs.Emitted.{class_const}
use Rattle.jv_core.specs.declared.program.MethodKind.{MethodKind}
use Rattle.jv_core.specs.declared.program.MethodKind.TheVariants as kinds
use Rattle.jv_core.specs.declared.program.CoreType.{CoreType}
use Rattle.jv_core.specs.declared.program.CoreType.TheVariants as types
use Rattle.jv_core.specs.Conditions.{IsCore}
use Rattle.jv_core.specs.Lookup.{text_at}
use Rattle.jv_core.specs.Tree.{Expr, Int, Truth, Text, Null, Variable, Constant, Neg}
use Rattle.jv_core.specs.Tree.{Not, Binary, Protocol, Helper, Static, Equals, Concat, Session, New, Field, Class, Method, Program}
use Rattle.vm_model.specs.BuiltIns.{object_class}
use Rattle.gen_rules.specs.Symbolic.{Instr, plain, push, push_truth, return}
use Rattle.gen_rules.specs.Members as members
use Rattle.gen_rules.specs.Members.{init_name, init_descriptor}
use Rattle.gen_rules.specs.Frames.{max_stack, max_locals}
use Rattle.gen_rules.specs.Templates.{IsCode}
use Rattle.gen_rules.specs.Locals.{params_in_scope}
use Rattle.gen_rules.specs.Classes.{Compiled, compiled, access_of, push_constant, initialised, all_initialised, constructor_code}
use Rattle.gen_rules.specs.Classes.{constructor_stack, constructor, constructors, methods_in, AreCompiled, IsCompiledClass}
use Rattle.gen_rules.specs.Classes.{AreCompiledClasses}
use Rattle.gen_rules.specs.Classes.{IsCompiled, class_file, class_files, header, field_in_file, each}
use Rattle.gen_rules.specs.Limits.{Excess, or_else, parts_in, first_in_parts, first_in_classes}
use Rattle.gen_rules.specs.inner.Generating as pieces
use Rattle.gen_rules.specs.inner.Generating.{flowing, generated}
use Rattle.gen_rules.proofs.Generates.{method_stands, only_generated}
use Rattle.gen_rules.proofs.Pool.{grows_twice, class_const-gives}
use Rattle.gen_rules.proofs.Files.{only_compiled}
use Rattle.gen_links.specs.Files.{HasPlainNames, JumpsInside}
use Rattle.gen_links.proofs.Programs.{found_ones}
use Rattle.gen_links.proofs.Cores.{cores_jump}
use Rattle.gen_links.specs.Encodable.{IsEncodable, AreEncodable, CanStand}
use Rattle.gen_links.specs.Held.{HoldsValue, HoldsExpr, HoldsStmts, IsHeld}
use Rattle.gen_links.specs.Spelled.{IsSpelled, HasFewMembers, CoresFit}
use Rattle.gen_links.proofs.Words.{ascii_text, ascii_reference, text_written, descriptor_written, field_is_written, push_fits, natural_fits}
use Rattle.gen_links.proofs.Coding.{both_fit, code_fits_all}
use Rattle.gen_links.proofs.Limits.{first_none, header_limited, fields_limited, methods_limited}
use Rattle.gen_links.proofs.Members.{method_made, field_made}
use Rattle.gen_links.proofs.Whole.{whole_spelled}

small_access : (kind : MethodKind) → access_of kind < 2 ^ 16
small_access kinds.Protocol = omega arith
small_access kinds.Helper = omega arith
small_access kinds.Static = omega arith
small_access kinds.Main = omega arith

some_end : (p : Program) (m : Method) (t : CoreType) → 0 < (pieces.end_of_method p m t).size
some_end p m types.Void = omega arith
some_end p m types.Int = omega arith
some_end p m types.Boolean = omega arith
some_end p m types.Text = omega arith
some_end p m (types.Object c) = omega arith
some_end p m (types.Enum e) = omega arith

some_code : (p : Program) (m : Method) → 0 < length (generated p m)
some_code p m =
    let body = flowing (pieces.statements p m (params_in_scope m) m.body) [] in
    let last = pieces.end_of_method p m m.result in
    let long : length (generated p m) ≡ body.size + last.size = (method_stands p m []).long 0 in
    let some = some_end p m m.result in
    omega (arith, long, some)

null_fits : IsEncodable (plain 1)
unfolding form_of
null_fits = refl

constant_fits : (e : Expr) → HoldsExpr e → IsEncodable (push_constant e)
constant_fits (Int q n) h = push_fits n h
constant_fits (Truth q true) h = push_fits (pos 1) (natural_fits 1 (omega arith))
constant_fits (Truth q false) h = push_fits (pos 0) (natural_fits 0 (omega arith))
constant_fits (Text q s) h = h
constant_fits (Constant q e n) h = push_fits (pos n) (natural_fits n h)
constant_fits (Null q) h = null_fits
constant_fits (Variable q x) h = null_fits
constant_fits (Neg q a) h = null_fits
constant_fits (Not q a) h = null_fits
constant_fits (Binary q o a b) h = null_fits
constant_fits (Protocol q x n args) h = null_fits
constant_fits (Helper q n args) h = null_fits
constant_fits (Static q n args) h = null_fits
constant_fits (Equals q a b) h = null_fits
constant_fits (Concat q a b) h = null_fits
constant_fits (Session q c args) h = null_fits
constant_fits (New q c) h = null_fits

few_operands : (is : List Instr) → constructor_stack is ≤ 2
few_operands [] = omega arith
few_operands (i ∷ is) = omega arith

behind : {A : Type 0} (P : A → Type 0) (a b : List A) → AllByRecursion P (a ++ b) → AllByRecursion P b
behind P [] b h = h
behind P (x ∷ a) b h = behind P a b h.1

both : {A : Type 0} (P : A → Type 0) (a b : List A) → AllByRecursion P a → AllByRecursion P b → AllByRecursion P (a ++ b)
both P [] b h g = g
both P (x ∷ a) b h g = (h.0, both P a b h.1 g)

module _ (p : Program) (held : IsHeld p) where
  this_fits : IsEncodable (plain 42)
  unfolding form_of
  this_fits = refl

  return_fits : IsEncodable return
  unfolding form_of
  return_fits = refl

  written : form_of 181 ≡ Some forms.Field
  unfolding form_of
  written = refl

  special : form_of 183 ≡ Some forms.Method
  unfolding form_of
  special = refl

  begins_fit : (c f : ℕ) (e : Option Expr) → HoldsValue e → AreEncodable (initialised p c f e)
  begins_fit c f None h = tt
  begins_fit c f (Some e) h = (this_fits, (constant_fits e h, ((written, field_is_written p held.names c f), tt)))

  all_begin : (c f : ℕ) (ds : List Field) → AllByRecursion (λ d. HoldsValue d.value) ds → AreEncodable (all_initialised p c f ds)
  all_begin c f [] h = tt
  all_begin c f (d ∷ ds) h =
      both_fit (initialised p c f d.value) (all_initialised p c (suc f) ds) (begins_fit c f d.value h.0) (all_begin c (suc f) ds h.1)

  constructor_can : (c : ℕ) (k : Class) → AllByRecursion (λ d. HoldsValue d.value) k.fields → CanStand (constructor p c k)
  constructor_can c k h =
      let begun = all_initialised p c 0 k.fields in
      let deep = few_operands begun in
      record {
        name = ascii_text init_name refl;
        descriptor = ascii_text init_descriptor refl;
        code = (
          this_fits,
          (
            (special, ascii_reference (members.init_of object_class) refl refl refl),
            both_fit begun (return ∷ []) (all_begin c 0 k.fields h) (return_fits, tt),
          ),
        );
        some = omega arith;
        max_stack = omega (arith, deep);
        access = omega arith;
      }

  constructors_can : (c : ℕ) (k : Class) (t : Option ℕ) → AllByRecursion (λ d. HoldsValue d.value) k.fields →
      AllByRecursion CanStand (constructors p c k t)
  constructors_can c k None h = tt
  constructors_can c k (Some t) h = (constructor_can c k h, tt)

  method_can : (m : Method) (code : List Instr) → IsCode p m code → HoldsStmts m.body → max_locals m ≤ 255 → CanStand (compiled p m code)
  method_can m code is body room =
      let e : code ≡ generated p m = only_generated p m code is in
      record {
        name = text_written p held.names m.name;
        descriptor = descriptor_written p held.names m;
        code = subst AreEncodable (sym e) (code_fits_all.encodable p m held body room);
        some = subst (λ x. 0 < length x) (sym e) (some_code p m);
        max_stack = subst (λ x. max_stack p m ≤ length x) (sym e) (code_fits_all.depth p m held body room);
        access = small_access m.kind;
      }

  methods_can : (ms : List Method) (cs : List Compiled) → AreCompiled p ms cs → AllByRecursion (λ m. HoldsStmts m.body) ms →
      AllByRecursion (λ c. c.max_locals ≤ 255) cs → AllByRecursion CanStand cs
  methods_can [] [] h g room = tt
  methods_can [] (c ∷ cs) h g room = absurd h
  methods_can (m ∷ ms) [] h g room = absurd h
  methods_can (m ∷ ms) (c ∷ cs) h g room = (
    subst CanStand (sym (h.0).2) (method_can m (h.0).0 (h.0).1 g.0 (subst (λ x. x.max_locals ≤ 255) (h.0).2 room.0)),
    methods_can ms cs h.1 g.1 room.1,
  )

  class_can : (c : ℕ) (k : Class) (cs : List Compiled) → IsCompiledClass p c k cs → AllByRecursion (λ d. HoldsValue d.value) k.fields →
      AllByRecursion (λ x. x.max_locals ≤ 255) cs → AllByRecursion CanStand cs
  class_can c k cs h fields room =
      let own : AllByRecursion (λ x. x.max_locals ≤ 255) h.methods = behind (λ x. x.max_locals ≤ 255) (constructors p c k k.typestate)
      h.methods (subst (AllByRecursion (λ x. x.max_locals ≤ 255)) h.all_are room) in
      subst (AllByRecursion CanStand) (sym h.all_are)
      (both CanStand (constructors p c k k.typestate) h.methods (constructors_can c k k.typestate fields)
      (methods_can (methods_in p k) h.methods h.made (found_ones (λ m. HoldsStmts m.body) p.methods held.methods k.methods) own))

  room_in : (k : Class) (cs : List Compiled) → first_in_parts p k (parts_in k cs) [] ≡ None → AllByRecursion (λ x. x.max_locals ≤ 255) cs
  room_in k cs none =
      let pool = (class_const (text_at p k.name) []).1 in
      let grows = grows_twice (class_const-gives (text_at p k.name) []).grows (class_const-gives object_class pool).grows in
      let a = header_limited p k grows cs none in
      let b = fields_limited p k (λ d q. (field_made p d q).grows) k.fields cs (header p k []).1 a.0 a.1 in
      (methods_limited p k (λ c q. (method_made c q).grows) cs (each (field_in_file p) k.fields (header p k []).1).1 b.0 b.1).locals

  found_few : (ns : List ℕ) → length (filter_map (slice_get p.methods) ns) ≤ length ns
  found_few [] = omega arith
  found_few (n ∷ ns) = go (slice_get p.methods n) refl (found_few ns)
    where
      go : (o : Option Method) → slice_get p.methods n ≡ o → length (filter_map (slice_get p.methods) ns) ≤ length ns →
          length (filter_map (slice_get p.methods) (n ∷ ns)) ≤ length (n ∷ ns)
      go None e rest = rw e (omega (arith, rest))
      go (Some x) e rest = rw e (omega (arith, rest))

  as_many_methods : (ms : List Method) (cs : List Compiled) → AreCompiled p ms cs → length cs ≡ length ms
  as_many_methods [] [] h = refl
  as_many_methods [] (c ∷ cs) h = absurd h
  as_many_methods (m ∷ ms) [] h = absurd h
  as_many_methods (m ∷ ms) (c ∷ cs) h = ap suc (as_many_methods ms cs h.1)

  one_constructor : (c : ℕ) (k : Class) (t : Option ℕ) → length (constructors p c k t) ≤ 1
  one_constructor c k None = omega arith
  one_constructor c k (Some t) = omega arith

  few_methods : (c : ℕ) (k : Class) (cs : List Compiled) → IsCompiledClass p c k cs → HasFewMembers k → length cs < 2 ^ 16
  few_methods c k cs h few =
      let first = constructors p c k k.typestate in
      let e : length cs ≡ length (first ++ h.methods) = ap length h.all_are in
      let f = length-append first h.methods in
      let one = one_constructor c k k.typestate in
      let same = as_many_methods (methods_in p k) h.methods h.made in
      let found = found_few k.methods in
      let l = few.methods in
      omega (arith, e, f, one, same, found, l)

  -- the classes from number c on
  all_spelled : (c : ℕ) (ks : List Class) (all : List (List Compiled)) → AreCompiledClasses p c ks all →
      AllByRecursion (λ k. AllByRecursion (λ d. HoldsValue d.value) k.fields) ks → AllByRecursion (AllByRecursion JumpsInside) all →
      AllByRecursion HasFewMembers ks →
      first_in_classes p ks all ≡ None → AllByRecursion IsSpelled (class_files p ks all)
  all_spelled c [] all h fields inside few none = tt
  all_spelled c (k ∷ ks) [] h fields inside few none = tt
  all_spelled c (k ∷ ks) (cs ∷ all) h fields inside few none =
      let first = first_none (first_in_parts p k (parts_in k cs) []) (first_in_classes p ks all) none in (
        whole_spelled p k cs held.names (class_can c k cs h.0 fields.0 (room_in k cs first.0)) inside.0 few.0.fields
            (few_methods c k cs h.0 few.0) first.0,
        all_spelled (suc c) ks all h.1 fields.1 inside.1 few.1 first.1,
      )

pub cores_fit : CoresFit
cores_fit = record {
  spelled = λ p core plain held few excess files are.
      let same : are.all ≡ excess.all
      = only_compiled p are.all are.compiled ∙ sym (only_compiled p excess.all excess.compiled) in
      let none : first_in_classes p p.classes are.all ≡ None = ap (first_in_classes p p.classes) same ∙ sym excess.is in
      subst (AllByRecursion IsSpelled) (sym are.files_are)
      (all_spelled p held 0 p.classes are.all are.compiled.classes held.fields
      (cores_jump.inside p core plain are.all are.compiled) few none);
}
