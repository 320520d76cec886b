-- The types of operators: where the operands of the source are what is taken, those of the core are.
use Rattle.std.proofs.Common.{◌≡◌, ◌≢◌, ℕ, Bool, true, false, true≢false, List, [], ◌∷◌, Option, Some, None, refl, sym, ap, ◌∙◌, subst}
use Rattle.std.proofs.Common.{arith}
use Rattle.std.specs.Prelude.{slice_get, if◌then◌else◌}
use Rattle.mg_text.specs.Call.{Name}
use Rattle.mg_text.specs.declared.place.Place.{Place}
use Rattle.mg_read.specs.First.{Clean}
use Rattle.ts_tree.specs.Proper.{AreDistinct}
use Rattle.jv_tree.specs.declared.tree.Op.{Op}
use Rattle.jv_tree.specs.declared.tree.Op.TheVariants as ops
use Rattle.jv_tree.specs.Source
use Rattle.jv_tree.specs.Source.{place_of}
use Rattle.jv_rules.specs.Program.{Program}
use Rattle.jv_rules.specs.Types.{ValueType, Fits, NoValue, IntType, BooleanType, TextType, EnumType, ClassType, NullType, same}
use Rattle.jv_rules.specs.Scope.{Scope, is_variable}
use Rattle.jv_rules.specs.Typing.{type_of, is_text, operator_type}
use Rattle.jv_rules.specs.Taking.{Fitting, Writable, ClassVariable, Nothing, Taken, taken, all_taken, both, compared, operands, IsClass}
use Rattle.jv_rules.specs.Conditions.{TypeMismatch}
use Rattle.jv_tree.specs.BuiltIn.{session_method}
use Rattle.jv_core.proofs.PlainTypes.{no_object}
use Rattle.jv_core.specs.declared.tree.Var.{Var}
use Rattle.jv_core.specs.declared.program.CoreType.{CoreType}
use Rattle.jv_core.specs.declared.program.CoreType.TheVariants as types
use Rattle.jv_core.specs.Tree as Core
use Rattle.jv_core.specs.Types.{Has, IsEquality, IsArithmetic, IsOrder, IsLogic, IsVariable, session_result}
use Rattle.jv_core.specs.Types as has
use Rattle.jv_tree.specs.declared.built_in.SessionCall.{SessionCall}
use Rattle.jv_core.specs.Members.{type_names}
use Rattle.jv_names.specs.Resolves.{Numbers, IsVar, IsExpr, Resolves}
use Rattle.jv_names.specs.Resolves as is
use Rattle.jv_names.proofs.Tables.{some_is}
use Rattle.jv_names.proofs.Fitting.{Typed, suited, known, fits, shows}
use Rattle.jv_names.proofs.Locals.{AreLocals}
use Rattle.jv_names.proofs.Naming.{Runs, typed_var}
use Rattle.jv_names.proofs.TypesMeet.{Meets}
use Rattle.jv_names.proofs.TypesMeet as meets

-- `null` alone is of two classes

pub record IsNull (e : Core.Expr) : Type 0 where
  pub place : Place
  pub is : e ≡ Core.Null place

no_session : (c : SessionCall) (n : ℕ) → session_result c ≡ types.Object n → ⊥
no_session c n e = no_object (session_method c).result n e

object_is : {c d : ℕ} → types.Object c ≡ types.Object d → c ≡ d
object_is e = cc

module _ (core : Core.Program) (m : Core.Method) (slots : List ℕ) where
  two_results : (n c d : ℕ) (k l : Core.Method) → slice_get core.methods n ≡ Some k → slice_get core.methods n ≡ Some l →
      k.result ≡ types.Object c → l.result ≡ types.Object d → c ≡ d
  two_results n c d k l e g r s = object_is (sym r ∙ ap (λ (k : Core.Method). k.result) (some_is (sym e ∙ g)) ∙ s)

  pub null_alone : (e : Core.Expr) (c d : ℕ) → Has core m slots e (types.Object c) → Has core m slots e (types.Object d) → c ≢ d → IsNull e
  null_alone _ c d (has.null {q = q}) w n = record { place = q; is = refl }
  null_alone _ c d (has.variable v) (has.variable w) n = absurd (n (object_is (some_is (sym v.type ∙ w.type))))
  null_alone _ c d (has.protocol {n = f} {k = k} v i xs r s) (has.protocol {k = l} w j ys t u) n =
      absurd (n (two_results f c d k l i.at j.at r t))
  null_alone _ c d (has.helper {n = f} {k = k} v i o xs r) (has.helper {k = l} w j p ys t) n =
      absurd (n (two_results f c d k l i.at j.at r t))
  null_alone _ c d (has.static {n = f} {k = k} i xs r) (has.static {k = l} j ys t) n = absurd (n (two_results f c d k l i.at j.at r t))
  null_alone _ c d (has.session {c = f} xs r) w n = absurd (no_session f c r)
  null_alone _ c _ (has.new i) (has.new j) n = absurd (n refl)

-- a variable stands for one
pub record VariableForm (program : Program) (core : Core.Program) (scope : Scope) (ns : Numbers) (e : Source.Expr) (e' : Core.Expr) : Type 0
  where
    pub var : Var
    pub is_var : IsVar program core scope ns e var
    pub is : e' ≡ Core.Variable (place_of e) var

pub variable_form : (program : Program) (core : Core.Program) (scope : Scope) (ns : Numbers) {e : Source.Expr} {e' : Core.Expr} →
    IsExpr program core scope ns e e' → is_variable e ≡ true → VariableForm program core scope ns e e'
variable_form program core scope ns is.int h = absurd (true≢false (sym h))
variable_form program core scope ns is.truth h = absurd (true≢false (sym h))
variable_form program core scope ns is.text h = absurd (true≢false (sym h))
variable_form program core scope ns is.null h = absurd (true≢false (sym h))
variable_form program core scope ns (is.variable {x = x} v) h = record { var = x; is_var = v; is = refl }
variable_form program core scope ns (is.constant n e a) h = absurd (true≢false (sym h))
variable_form program core scope ns (is.negative x) h = absurd (true≢false (sym h))
variable_form program core scope ns (is.opposite x) h = absurd (true≢false (sym h))
variable_form program core scope ns (is.binary x y) h = absurd (true≢false (sym h))
variable_form program core scope ns (is.static i s xs) h = absurd (true≢false (sym h))
variable_form program core scope ns (is.class_static n o i s xs) h = absurd (true≢false (sym h))
variable_form program core scope ns (is.session n i xs) h = absurd (true≢false (sym h))
variable_form program core scope ns (is.helper i s xs) h = absurd (true≢false (sym h))
variable_form program core scope ns (is.this_helper i s xs) h = absurd (true≢false (sym h))
variable_form program core scope ns (is.protocol v t i s xs) h = absurd (true≢false (sym h))
variable_form program core scope ns (is.equals t x y) h = absurd (true≢false (sym h))
variable_form program core scope ns (is.concat t x y) h = absurd (true≢false (sym h))
variable_form program core scope ns (is.new i) h = absurd (true≢false (sym h))

text_type : (o : Option ValueType) → is_text o ≡ true → o ≡ Some TextType
text_type None e = absurd (true≢false (sym e))
text_type (Some NoValue) e = absurd (true≢false (sym e))
text_type (Some IntType) e = absurd (true≢false (sym e))
text_type (Some BooleanType) e = absurd (true≢false (sym e))
text_type (Some TextType) e = refl
text_type (Some (EnumType n)) e = absurd (true≢false (sym e))
text_type (Some (ClassType n)) e = absurd (true≢false (sym e))
text_type (Some NullType) e = absurd (true≢false (sym e))

module _ (core : Core.Program) (m : Core.Method) (scope : Scope) (ns : Numbers) (res : Resolves scope.program core)
    (apart : AreDistinct (type_names core)) (runs : Runs core m scope.program scope.class scope.method)
    (locals : AreLocals scope.program core m scope.locals ns.slots)
    (p : Place) (l r : Source.Expr) (l' r' : Core.Expr)
    (x : IsExpr scope.program core scope ns l l') (y : IsExpr scope.program core scope ns r r')
    (left : (t : ValueType) → type_of scope l ≡ Some t → Typed scope.program core res apart m ns.slots t l')
    (right : (t : ValueType) → type_of scope r ≡ Some t → Typed scope.program core res apart m ns.slots t r') where
  abbrev H : Core.Expr → CoreType → Type 0
  H = Has core m ns.slots

  abbrev AreTaken : List Taken → Type 0
  AreTaken ts = Clean TypeMismatch (all_taken scope ts)

  left_has : (t : ValueType) (u : CoreType) (more : List Taken) → AreTaken (taken l (Fitting t) ∷ more) → Meets scope.program core t u →
      H l' u
  left_has t u more = fits scope.program core res apart m ns.slots scope l l' t u (all_taken scope more) left

  right_has : (t : ValueType) (u : CoreType) → AreTaken (taken r (Fitting t) ∷ []) → Meets scope.program core t u → H r' u
  right_has t u = fits scope.program core res apart m ns.slots scope r r' t u [] right

  -- `==` and `!=`
  class_of_variable : (x : Var) (name : Name) (u : CoreType) → Meets scope.program core (ClassType name) u → IsVariable core m ns.slots x u
      →
      (c : ℕ) × IsVariable core m ns.slots x (types.Object c)
  class_of_variable x name _ (meets.class {c = c} i) v = (c, v)

  -- a variable of a class
  class_variable : (e : Source.Expr) (e' : Core.Expr) → IsExpr scope.program core scope ns e e' → (name : Name) →
      type_of scope e ≡ Some (ClassType name) →
      is_variable e ≡ true → (x : Var) × (c : ℕ) × IsVariable core m ns.slots x (types.Object c) × (e' ≡ Core.Variable (place_of e) x)
  class_variable e e' i name t h =
      let f = variable_form scope.program core scope ns i h in
      let v = typed_var core m scope ns runs locals f.is_var (ClassType name) t in
      let w = class_of_variable f.var name v.type v.meets v.is in
      (f.var, w.0, w.1, f.is)

  is_null : (e : Core.Expr) → Typed scope.program core res apart m ns.slots NullType e → IsNull e
  is_null e t = null_alone core m ns.slots e 0 1 (t.has (types.Object 0) meets.null) (t.has (types.Object 1) meets.null)
      (λ e. zero_one 0 1 refl refl e)
    where
      zero_one : (a b : ℕ) → a ≡ 0 → b ≡ 1 → a ≡ b → ⊥
      zero_one a b e g h = omega (arith, e, g, h)

  with_null : (o : Op) → IsEquality o → (name : Name) → type_of scope l ≡ Some (ClassType name) → (b : Bool) → is_variable l ≡ b →
      AreTaken (if b then taken r (Fitting NullType) ∷ [] else taken l Nothing ∷ []) → H (Core.Binary p o l' r') types.Boolean
  with_null o q name t true h clean =
      let s = suited scope r (Fitting NullType) [] clean in
      let v = class_variable l l' x name t h in
      let n = is_null r' (null_right s.type s.suits (right s.type s.is)) in
      subst (λ a. H (Core.Binary p o a r') types.Boolean) (sym v.3)
      (subst (λ b. H (Core.Binary p o (Core.Variable (place_of l) v.0) b) types.Boolean) (sym n.is) (has.is_null q v.2))
    where
      null_right : (g : ValueType) → Fits NullType g → Typed scope.program core res apart m ns.slots g r' →
          Typed scope.program core res apart m ns.slots NullType r'
      null_right _ same t = t
  with_null o q name t false h clean = absurd (suited scope l Nothing [] clean).suits

  null_with : (o : Op) → IsEquality o → type_of scope l ≡ Some NullType → AreTaken (taken r ClassVariable ∷ []) →
      H (Core.Binary p o l' r') types.Boolean
  null_with o q t clean =
      let s = suited scope r ClassVariable [] clean in
      let n = is_null l' (left NullType t) in
      go s.type s.is s.suits.0 s.suits.1 n
    where
      go : (g : ValueType) → type_of scope r ≡ Some g → IsClass g → is_variable r ≡ true → IsNull l' →
          H (Core.Binary p o l' r') types.Boolean
      go NoValue i c h n = absurd c
      go IntType i c h n = absurd c
      go BooleanType i c h n = absurd c
      go TextType i c h n = absurd c
      go (EnumType name) i c h n = absurd c
      go (ClassType name) i c h n =
          let v = class_variable r r' y name i h in
          subst (λ b. H (Core.Binary p o l' b) types.Boolean) (sym v.3)
          (subst (λ a. H (Core.Binary p o a (Core.Variable (place_of r) v.0)) types.Boolean) (sym n.is) (has.null_is q v.2))
      go NullType i c h n = absurd c

  equal_enums : (o : Op) → IsEquality o → (name : Name) (u : CoreType) → Meets scope.program core (EnumType name) u → H l' u →
      AreTaken (taken r (Fitting (EnumType name)) ∷ []) → H (Core.Binary p o l' r') types.Boolean
  equal_enums o q name _ (meets.enum {e = e} i) h clean = has.same q tt h (right_has (EnumType name) (types.Enum e) clean (meets.enum i))

  pub equality : (o : Op) → IsEquality o → AreTaken (compared (type_of scope l) l r) → H (Core.Binary p o l' r') types.Boolean
  equality o q clean = go (type_of scope l) refl clean
    where
      go : (t : Option ValueType) → type_of scope l ≡ t → AreTaken (compared t l r) → H (Core.Binary p o l' r') types.Boolean
      go None i clean = absurd (suited scope l Nothing [] clean).suits
      go (Some NoValue) i clean = absurd (suited scope l Nothing [] clean).suits
      go (Some IntType) i clean =
          has.same q tt ((left IntType i).has types.Int meets.int) (right_has IntType types.Int clean meets.int)
      go (Some BooleanType) i clean =
          has.same q tt ((left BooleanType i).has types.Boolean meets.boolean) (right_has BooleanType types.Boolean clean meets.boolean)
      go (Some TextType) i clean = absurd (suited scope l Nothing [] clean).suits
      go (Some (EnumType name)) i clean =
          let t = left (EnumType name) i in
          equal_enums o q name t.type t.meets (t.has t.type t.meets) clean
      go (Some (ClassType name)) i clean = with_null o q name i (is_variable l) refl clean
      go (Some NullType) i clean = null_with o q i clean

  -- `+`
  plus : (a b : Bool) → is_text (type_of scope l) ≡ a → is_text (type_of scope r) ≡ b →
      AreTaken (if a then taken r Writable ∷ [] else if b then taken l Writable ∷ [] else both IntType l r) →
      Typed scope.program core res apart m ns.slots (if a then TextType else if b then TextType else IntType) (Core.Binary p ops.Add l' r')
  plus true b i j clean =
      let s = shows scope.program core res apart m ns.slots scope r r' [] right clean in
      known scope.program core res apart m ns.slots TextType types.Text (Core.Binary p ops.Add l' r') meets.text tt
      (has.text_and ((left TextType (text_type (type_of scope l) i)).has types.Text meets.text) s.has s.shown)
  plus false true i j clean =
      let s = shows scope.program core res apart m ns.slots scope l l' [] left clean in
      known scope.program core res apart m ns.slots TextType types.Text (Core.Binary p ops.Add l' r') meets.text tt
      (has.and_text s.has s.shown ((right TextType (text_type (type_of scope r) j)).has types.Text meets.text))
  plus false false i j clean =
      known scope.program core res apart m ns.slots IntType types.Int (Core.Binary p ops.Add l' r') meets.int tt
      (has.sum (left_has IntType types.Int (taken r (Fitting IntType) ∷ []) clean meets.int)
      (right_has IntType types.Int clean.1 meets.int))

  int_of : (o : Op) → H (Core.Binary p o l' r') types.Int → Typed scope.program core res apart m ns.slots IntType (Core.Binary p o l' r')
  int_of o h = known scope.program core res apart m ns.slots IntType types.Int (Core.Binary p o l' r') meets.int tt h

  boolean_of : (o : Op) → H (Core.Binary p o l' r') types.Boolean → Typed scope.program core res apart m ns.slots BooleanType
      (Core.Binary p o l' r')
  boolean_of o h = known scope.program core res apart m ns.slots BooleanType types.Boolean (Core.Binary p o l' r') meets.boolean tt h

  logic : (o : Op) → IsLogic o → AreTaken (both BooleanType l r) → Typed scope.program core res apart m ns.slots BooleanType
      (Core.Binary p o l' r')
  logic o q clean =
      boolean_of o (has.logic q (left_has BooleanType types.Boolean (taken r (Fitting BooleanType) ∷ []) clean meets.boolean)
      (right_has BooleanType types.Boolean clean.1 meets.boolean))

  order : (o : Op) → IsOrder o → AreTaken (both IntType l r) → Typed scope.program core res apart m ns.slots BooleanType
      (Core.Binary p o l' r')
  order o q clean =
      boolean_of o (has.ordered q (left_has IntType types.Int (taken r (Fitting IntType) ∷ []) clean meets.int)
      (right_has IntType types.Int clean.1 meets.int))

  arithmetic : (o : Op) → IsArithmetic o → AreTaken (both IntType l r) → Typed scope.program core res apart m ns.slots IntType
      (Core.Binary p o l' r')
  arithmetic o q clean =
      int_of o (has.computed q (left_has IntType types.Int (taken r (Fitting IntType) ∷ []) clean meets.int)
      (right_has IntType types.Int clean.1 meets.int))

  -- What an operator gives, where its operands are what it takes.
  pub operated : (o : Op) → AreTaken (operands o (type_of scope l) (type_of scope r) l r) →
      Typed scope.program core res apart m ns.slots (operator_type o (type_of scope l) (type_of scope r)) (Core.Binary p o l' r')
  operated ops.Or clean = logic ops.Or tt clean
  operated ops.And clean = logic ops.And tt clean
  operated ops.Eq clean = boolean_of ops.Eq (equality ops.Eq tt clean)
  operated ops.Ne clean = boolean_of ops.Ne (equality ops.Ne tt clean)
  operated ops.Lt clean = order ops.Lt tt clean
  operated ops.Le clean = order ops.Le tt clean
  operated ops.Gt clean = order ops.Gt tt clean
  operated ops.Ge clean = order ops.Ge tt clean
  operated ops.Add clean = plus (is_text (type_of scope l)) (is_text (type_of scope r)) refl refl clean
  operated ops.Sub clean = arithmetic ops.Sub tt clean
  operated ops.Mul clean = arithmetic ops.Mul tt clean
  operated ops.Div clean = arithmetic ops.Div tt clean
  operated ops.Rem clean = arithmetic ops.Rem tt clean
