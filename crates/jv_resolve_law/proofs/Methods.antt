-- What methods are resolved to stands for them.
use Rattle.std.proofs.Common.{◌≡◌, ℕ, zero, suc, ◌+◌, ◌-◌, ◌≤◌, Bool, true, false, List, [], ◌∷◌, ◌++◌, map, length, Option, Some, None}
use Rattle.std.proofs.Common.{option_and_then, position, slice_get, refl, sym, ap, ◌∙◌, subst, arith}
use Rattle.std.specs.List.{AllByRecursion, list_any}
use Rattle.std.specs.Str.{bytes_eq}
use Rattle.mg_text.specs.Call.{Name}
use Rattle.ts_tree.specs.Typestate.{Typestate}
use Rattle.jv_tree.specs.declared.tree.Param.{Param}
use Rattle.jv_tree.specs.Source
use Rattle.jv_meaning.specs.Program.{typestate_named}
use Rattle.jv_rules.specs.Program.{Program, is_of_protocol, offers_in}
use Rattle.jv_rules.specs.Types.{meant}
use Rattle.jv_rules.specs.Scope.{Declared, entered, with_params}
use Rattle.jv_rules.specs.Spots.{AtEnd, method_spots, param_spots, stmts_spots}
use Rattle.jv_core.specs.declared.program.CoreType.{CoreType}
use Rattle.jv_core.specs.declared.program.MethodKind.TheVariants as kinds
use Rattle.jv_core.specs.Tree as Core
use Rattle.jv_core.specs.View.{stmts_of}
use Rattle.jv_core.specs.Numbering.{numbers_from}
use Rattle.jv_names.specs.Resolves.{Aligned, Numbers, AreParams, IsStmts, MethodIs, Owned, first_slots, kind_of}
use Rattle.jv_names.specs.Resolves as is
use Rattle.jv_names.proofs.Tables.{some_is}
use Rattle.jv_names.proofs.Lookups.{owned_by}
use Rattle.jv_names.proofs.Clean.{NoFaultAt, all_left, all_right}
use Rattle.jv_resolve_law.specs.Tables.{◌>>=◌, Interned, Entry, Tables, type_meant, kind_meant, is_offered, followed, interned}
use Rattle.jv_resolve_law.specs.Expressions.{Known, Standing}
use Rattle.jv_resolve_law.specs.Statements.{Counted, Counting, slot_more, declared, stmts}
use Rattle.jv_resolve_law.specs.Members.{Naming, Opened, params, method}
use Rattle.jv_resolve_law.proofs.Steps.{bound, Extends, numbered}
use Rattle.jv_resolve_law.proofs.Tabled.{IsTabled, IsEntry, follows, type_meant_is}
use Rattle.jv_resolve_law.proofs.Given.{slots_in, Stands}
use Rattle.jv_resolve_law.proofs.Counting.{Reaches, reaches_back, slot_more_is, in_method}
use Rattle.jv_resolve_law.proofs.Statements.{scope_at, InScope, opened, declares, stmts_is}

-- parameters in scope, the last one first
abbrev pub with_declared : Program → List Param → List Declared → List Declared
with_declared program [] ds = ds
with_declared program (p ∷ ps) ds = with_declared program ps (record { name = p.name; type = meant program p.ty } ∷ ds)

pub with_params_are : (program : Program) (class : Source.Class) (m : Source.Method) (ps : List Param) (ds : List Declared) →
    with_params ps (record { program = program; class = class; method = m; locals = ds; around = [] })
    ≡ record { program = program; class = class; method = m; locals = with_declared program ps ds; around = [] }
with_params_are program class m [] ds = refl
with_params_are program class m (p ∷ ps) ds = with_params_are program class m ps
    (record { name = p.name; type = meant program p.ty } ∷ ds)

next : (a b n : ℕ) → b ≡ suc a → a + suc n ≡ b + n
next a b n e = omega (arith, e)

no_more : (n : ℕ) → n ≡ n + zero
no_more n = omega arith

-- what opening parameters leads to
record ParamsMade (tables : Tables) (ps : List Param) (locals : List Known) (c : Counted) (o : Opened) : Type 0 where
  names_kept : Extends c.names o.so_far.names
  slots_kept : Extends c.slots o.so_far.slots
  loops_same : o.so_far.loops ≡ c.loops
  count : length o.so_far.slots ≡ length c.slots + length ps
  slots : slots_in locals ≡ first_slots (length c.slots) → slots_in o.locals ≡ first_slots (length c.slots + length ps)

record ParamsAre (program : Program) (class : Source.Class) (m : Source.Method) (core : Core.Program) (tables : Tables)
    (k : Core.Method) (at : Standing)
    (s : Stands core tables k (entered program class m) at) (ps : List Param) (ds : List Declared) (c : Counted) (o : Opened) : Type 0
  where
    scope : InScope program class m core tables k at s (with_declared program ps ds) [] o.locals o.so_far
    are : AreParams program core k (length c.slots) ps

module _ (tables : Tables) where
  params_made : (ps : List Param) (locals : List Known) (c : Counted) (o : Opened) → params tables ps locals c ≡ Some o →
      ParamsMade tables ps locals c o
  params_made [] locals c o given =
      subst (ParamsMade tables [] locals c) (some_is given) (record {
        names_kept = λ n a e. e;
        slots_kept = λ n a e. e;
        loops_same = refl;
        count = no_more (length c.slots);
        slots = λ e. e ∙ ap first_slots (no_more (length c.slots));
      })
  params_made (p ∷ ps) locals c o given =
      let b = bound (slot_more tables p.ty p.name c) _ o given in
      let d = bound (declared b.item.it locals) _ o b.gives in
      let m = slot_more_is tables p.ty p.name c b.item b.is in
      let w = params_made ps d.item b.item.so_far o d.gives in
      let are = declares b.item.it locals d.item d.is in
      record {
        names_kept = λ n a e. w.names_kept n a (m.counts.names_kept n a e);
        slots_kept = λ n a e. w.slots_kept n a (m.counts.slots_kept n a e);
        loops_same = w.loops_same ∙ m.loops;
        count = w.count ∙ sym (next (length c.slots) (length b.item.so_far.slots) (length ps) m.count);
        slots = λ e.
            w.slots (ap slots_in are.are ∙ (ap (λ n. n ∷ slots_in locals) m.slot ∙
            (ap (λ ns. length c.slots ∷ ns) e ∙ ap first_slots (sym m.count))))
            ∙ ap first_slots (sym (next (length c.slots) (length b.item.so_far.slots) (length ps) m.count));
      }

  module _ (program : Program) (class : Source.Class) (m : Source.Method) (core : Core.Program) (k : Core.Method) (at : Standing)
      (s : Stands core tables k (entered program class m) at) where
    reaches_params : (ps : List Param) (locals : List Known) (c : Counted) (o : Opened) → ParamsMade tables ps locals c o →
        Reaches core k o.so_far → Reaches core k c
    reaches_params ps locals c o w r = record {
      names = λ n a e. r.names n a (w.names_kept n a e);
      slots = λ n a e. r.slots n a (w.slots_kept n a e);
      loops = subst (λ ls. Extends ls k.loops) w.loops_same r.loops;
    }

    params_are : (ps : List Param) (ds : List Declared) (locals : List Known) (c : Counted) (o : Opened) →
        params tables ps locals c ≡ Some o → Reaches core k o.so_far →
        InScope program class m core tables k at s ds [] locals c → ParamsAre program class m core tables k at s ps ds c o
    params_are [] ds locals c o given r i =
        subst (ParamsAre program class m core tables k at s [] ds c) (some_is given) (record { scope = i; are = is.no_param })
    params_are (p ∷ ps) ds locals c o given r i =
        let b = bound (slot_more tables p.ty p.name c) _ o given in
        let d = bound (declared b.item.it locals) _ o b.gives in
        let more = slot_more_is tables p.ty p.name c b.item b.is in
        let same : d.item ≡ b.item.it ∷ locals = (declares b.item.it locals d.item d.is).are in
        let rest : params tables ps (b.item.it ∷ locals) b.item.so_far ≡ Some o =
        ap (λ ls. params tables ps ls b.item.so_far) (sym same) ∙ d.gives in
        let q = reaches_params ps (b.item.it ∷ locals) b.item.so_far o (params_made ps (b.item.it ∷ locals) b.item.so_far o rest) r in
        let j = opened program class m core tables k at s p.ty p.name ds [] locals c b.item more q i in
        let w = params_are ps (record { name = p.name; type = meant program p.ty } ∷ ds) (b.item.it ∷ locals) b.item.so_far o rest r j in
        let slot = (in_method program core k tables p.ty p.name c b.item s.tabled more q).slot in
        record {
          scope = w.scope;
          are = is.param (subst (λ n. is.IsSlot program core k n p.name p.ty) more.slot slot)
              (subst (λ n. AreParams program core k n ps) more.count w.are);
        }

-- Kinds.

offered_same : (program : Program) (tables : Tables) (t : IsTabled program tables) (e : Entry) →
    followed program.typestates e.class.typestate ≡ Some e.typestate → (name : Name) →
    is_offered tables e name ≡ is_of_protocol program e.class name
offered_same program tables t e f name =
    ap (λ (ts : List Typestate). offers (e.typestate >>= slice_get ts)) t.typestates ∙ ap offers (go e.class.typestate e.typestate f)
  where
    offers : Option Typestate → Bool
    offers o = elim o [ None ↦ false | Some t ↦ list_any (λ m. bytes_eq m.name name) (offers_in t.states) ]

    go : (s : Option Name) (n : Option ℕ) → followed program.typestates s ≡ Some n →
        (n >>= slice_get program.typestates) ≡ option_and_then (typestate_named program.typestates) s
    go None n given = ap (λ (n : Option ℕ). n >>= slice_get program.typestates) (sym (some_is given))
    go (Some name) n given =
        let b = bound (position (bytes_eq name) (map (λ t. t.name) program.typestates)) _ n given in
        let w = follows program.typestates name b.item b.is in
        ap (λ (n : Option ℕ). n >>= slice_get program.typestates) (sym (some_is b.gives)) ∙ (w.at ∙ sym w.named)

kind_same : (program : Program) (core : Core.Program) (tables : Tables) (t : IsTabled program tables) (e : Entry) →
    followed program.typestates e.class.typestate ≡ Some e.typestate →
    (m : Source.Method) → kind_meant tables e m ≡ kind_of program core e.class m
kind_same program core tables t e f m =
    ap (λ b. elim m.is_static [
      | true ↦ elim m.takes_args [ true ↦ kinds.Main | false ↦ kinds.Static ]
      | false ↦ elim b [ true ↦ kinds.Protocol | false ↦ kinds.Helper ]
    ]) (offered_same program tables t e f m.name)

-- Methods.

abbrev pub standing : Entry → Source.Method → Standing
standing e m = record { entry = e; is_static = m.is_static }

-- what a method gives, and where it belongs
pub record ResultIs (tables : Tables) (o : Owned) (k : Core.Method) : Type 0 where
  pub result : type_meant tables o.method.result ≡ Some k.result
  pub class : k.class ≡ o.owner.number

-- the parts of a method that was resolved
record Parts (tables : Tables) (names : List Name) (e : Entry) (m : Source.Method) (r : Naming Core.Method) : Type 0 where
  name : Interned
  named : interned names m.name ≡ Some name
  result : CoreType
  meant : type_meant tables m.result ≡ Some result
  opened_to : Opened
  opening : params tables m.params [] (record { names = name.names; slots = []; loops = [] }) ≡ Some opened_to
  body : Counting (List Core.Stmt)
  resolving : stmts tables (standing e m) m.body [] opened_to.locals opened_to.so_far ≡ Some body
  are : record {
    it = record {
      place = m.place;
      end = m.end;
      class = e.number;
      name = name.number;
      kind = kind_meant tables e m;
      result = result;
      params = length m.params;
      slots = body.so_far.slots;
      loops = body.so_far.loops;
      body = stmts_of body.it;
    };
    names = body.so_far.names;
  } ≡ r

parts : (tables : Tables) (names : List Name) (e : Entry) (m : Source.Method) (r : Naming Core.Method) →
    method tables names e m ≡ Some r → Parts tables names e m r
parts tables names e m r given =
    let a = bound (interned names m.name) _ r given in
    let u = bound (type_meant tables m.result) _ r a.gives in
    let o = bound (params tables m.params [] (record { names = a.item.names; slots = []; loops = [] })) _ r u.gives in
    let b = bound (stmts tables (standing e m) m.body [] o.item.locals o.item.so_far) _ r o.gives in
    record {
      name = a.item;
      named = a.is;
      result = u.item;
      meant = u.is;
      opened_to = o.item;
      opening = o.is;
      body = b.item;
      resolving = b.is;
      are = some_is b.gives;
    }

pub result_is : (tables : Tables) (names : List Name) (e : Entry) (m : Source.Method) (r : Naming Core.Method) →
    method tables names e m ≡ Some r →
    ResultIs tables (owned_by e.number e.class m) r.it
result_is tables names e m r given =
    let p = parts tables names e m r given in
    subst (λ (r : Naming Core.Method). ResultIs tables (owned_by e.number e.class m) r.it) p.are
    (record { result = p.meant; class = refl })

-- what is numbered before the parameters
abbrev first_count : (tables : Tables) (names : List Name) (e : Entry) (m : Source.Method) (r : Naming Core.Method) →
    Parts tables names e m r → Counted
first_count tables names e m r p = record { names = p.name.names; slots = []; loops = [] }

abbrev method_from : (tables : Tables) (names : List Name) (e : Entry) (m : Source.Method) (r : Naming Core.Method) →
    Parts tables names e m r → Core.Method
method_from tables names e m r p = record {
  place = m.place;
  end = m.end;
  class = e.number;
  name = p.name.number;
  kind = kind_meant tables e m;
  result = p.result;
  params = length m.params;
  slots = p.body.so_far.slots;
  loops = p.body.so_far.loops;
  body = stmts_of p.body.it;
}

-- a method of the core, where it is known what stands around it
pub record MethodMade (program : Program) (tables : Tables) (core : Core.Program) (names : List Name) (e : Entry) (m : Source.Method)
    (r : Naming Core.Method) : Type 0 where
  pub grown : Extends names r.names
  pub is : Extends r.names core.names → AllByRecursion NoFaultAt (method_spots program e.class m) →
      MethodIs program core (owned_by e.number e.class m) r.it

zero-first : (n : ℕ) → 0 + n ≡ n
zero-first n = omega arith

rest_of : (a b n : ℕ) → b ≡ a + n → n ≡ b - a
rest_of a b n e = omega (arith, e)

within : (a b n : ℕ) → b ≡ a + n → a ≤ b
within a b n e = omega (arith, e)

from_none : (n : ℕ) → n ≡ 0 + n
from_none n = omega arith

pub method_made : (program : Program) (tables : Tables) (core : Core.Program) (n : ℕ) (e : Entry) → IsEntry program n e →
    (names : List Name) (m : Source.Method) (r : Naming Core.Method) →
    method tables names e m ≡ Some r → Stands core tables r.it (entered program e.class m) (standing e m) →
    MethodMade program tables core names e m r
method_made program tables core n e entry names m r given stands =
    let p = parts tables names e m r given in
    subst (MethodMade program tables core names e m) p.are
    (made p (subst (λ (r : Naming Core.Method). Stands core tables r.it (entered program e.class m) (standing e m)) (sym p.are)
    stands))
  where
    made : (p : Parts tables names e m r) → Stands core tables (method_from tables names e m r p) (entered program e.class m)
        (standing e m) →
        MethodMade program tables core names e m (record { it = method_from tables names e m r p; names = p.body.so_far.names })
    made p s =
        let h = numbered names m.name p.name p.named in
        let w = params_made tables m.params [] (first_count tables names e m r p) p.opened_to p.opening in
        let ds = with_declared program m.params [] in
        let b = stmts_is program e.class m core tables (method_from tables names e m r p) (standing e m) s m.body ds []
        p.opened_to.locals p.opened_to.so_far p.body p.resolving in
        let count : length p.opened_to.so_far.slots ≡ length m.params = w.count ∙ zero-first (length m.params) in
        let slots : slots_in p.opened_to.locals ≡ first_slots (length m.params) = w.slots refl ∙
        ap first_slots (zero-first (length m.params)) in
        let slot_count : length p.body.so_far.slots ≡ length m.params + b.counts.more_slots = b.counts.slot_count ∙
        ap (λ n. n + b.counts.more_slots) count in
        let loop_count : b.counts.more_loops ≡ length p.body.so_far.loops =
        from_none b.counts.more_loops ∙ sym (b.counts.loop_count ∙
        ap (λ (ls : List Core.Loop). length ls + b.counts.more_loops) w.loops_same) in
        record {
          grown = λ n x q. b.counts.names_kept n x (w.names_kept n x (h.grown n x q));
          is = λ grown clean.
              let reach : Reaches core (method_from tables names e m r p) p.body.so_far =
              record { names = grown; slots = λ n a q. q; loops = λ n a q. q } in
              let opens = params_are tables program e.class m core (method_from tables names e m r p) (standing e m) s m.params [] []
              (first_count tables names e m r p) p.opened_to p.opening (reaches_back b.counts reach)
              (record { known = is.none; falls = tt; loops_fall = tt }) in
              let same = with_params_are program e.class m m.params [] in
              let rest = all_right NoFaultAt (param_spots (entered program e.class m) m.params)
              (stmts_spots (with_params m.params (entered program e.class m)) m.body ++ AtEnd m ∷ []) clean in
              let spots = all_left NoFaultAt (stmts_spots (with_params m.params (entered program e.class m)) m.body) (AtEnd m ∷ [])
              rest in
              let body = b.is reach opens.scope (subst (λ sc. AllByRecursion NoFaultAt (stmts_spots sc m.body)) same spots) in
              record {
                place = refl;
                end = refl;
                class = refl;
                name = grown p.name.number m.name (b.counts.names_kept p.name.number m.name (w.names_kept p.name.number m.name h.at));
                kind = kind_same program core tables s.tabled e entry.follows m;
                result = type_meant_is program core tables s.tabled m.result p.result p.meant;
                count = refl;
                params = opens.are;
                body =
                    subst (λ sc. IsStmts program core (method_from tables names e m r p) sc
                    (record { slots = first_slots (length m.params); loops = [] }) m.body (stmts_of p.body.it)) (sym same)
                    (subst (λ ss. IsStmts program core (method_from tables names e m r p)
                    (scope_at program e.class m core tables (method_from tables names e m r p) (standing e m) s ds [])
                    (record { slots = ss; loops = [] }) m.body (stmts_of p.body.it)) slots body);
                numbered = record {
                  params = within (length m.params) (length p.body.so_far.slots) b.counts.more_slots slot_count;
                  slots =
                      b.counts.slots_are ∙ ap (λ n. numbers_from n b.counts.more_slots) count
                      ∙ ap (numbers_from (length m.params))
                      (rest_of (length m.params) (length p.body.so_far.slots) b.counts.more_slots slot_count);
                  loops =
                      b.counts.loops_are ∙ ap (λ (ls : List Core.Loop). numbers_from (length ls) b.counts.more_loops) w.loops_same
                      ∙ ap (numbers_from 0) loop_count;
                };
              };
        }
