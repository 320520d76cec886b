-- All methods of a core are plain, where each of its methods may be called.
use Rattle.std.proofs.Common.{◌≡◌, ℕ, zero, suc, ◌+◌, ◌<◌, List, length, Some, None, subst, arith}
use Rattle.std.specs.Prelude.{slice_get, Contains}
use Rattle.std.proofs.lemmas.Option.{slice_get_within}
use Rattle.jv_core.specs.Tree.{Expr, Exprs, Stmt, Stmts, Groups, Method, Program}
use Rattle.jv_core.specs.declared.program.CoreType.{CoreType}
use Rattle.jv_core.specs.Types.{Has, HasAll}
use Rattle.jv_core.specs.Types
use Rattle.jv_core.specs.Statements.{Target, Fine, FineAll, FineGroups}
use Rattle.jv_core.specs.Statements
use Rattle.jv_core.specs.Numbering.{numbers_from}
use Rattle.jv_core.specs.Conditions.{IsCore}
use Rattle.jv_sound.proofs.Lists.{is_first, in_more}
use Rattle.jv_sound.proofs.Expressions.{method_ok}
use Rattle.gen_sound.proofs.Plain.{IsPlain, ArePlainArgs, IsPlainStmt, ArePlain, ArePlainGroups}
use Rattle.gen_sound.specs.Mains.{CoreHasMain}
use Rattle.gen_sound.proofs.Coming.{HasPlainMain}

module _ (p : Program) (may : List ℕ) (named : (n : ℕ) (k : Method) → slice_get p.methods n ≡ Some k → Contains may n) (m : Method) where
  mutual
    plain_expr : {sc : List ℕ} {e : Expr} {t : CoreType} → Has p m sc e t → IsPlain may e
    plain_expr Types.int = tt
    plain_expr Types.truth = tt
    plain_expr Types.text = tt
    plain_expr Types.null = tt
    plain_expr (Types.variable v) = tt
    plain_expr (Types.constant i l) = tt
    plain_expr (Types.negative x) = plain_expr x
    plain_expr (Types.opposite x) = plain_expr x
    plain_expr (Types.sum x y) = (plain_expr x, plain_expr y)
    plain_expr (Types.text_and x y i) = (plain_expr x, plain_expr y)
    plain_expr (Types.and_text x i y) = (plain_expr x, plain_expr y)
    plain_expr (Types.computed i x y) = (plain_expr x, plain_expr y)
    plain_expr (Types.ordered i x y) = (plain_expr x, plain_expr y)
    plain_expr (Types.logic i x y) = (plain_expr x, plain_expr y)
    plain_expr (Types.same i c x y) = (plain_expr x, plain_expr y)
    plain_expr (Types.is_null i v) = (tt, tt)
    plain_expr (Types.null_is i v) = (tt, tt)
    plain_expr (Types.protocol {n = n} {k = k} v i xs e u) = (named n k i.at, plain_args xs)
    plain_expr (Types.helper {n = n} {k = k} on i own xs e) = (named n k i.at, plain_args xs)
    plain_expr (Types.static {n = n} {k = k} i xs e) = (named n k i.at, plain_args xs)
    plain_expr (Types.equals x y u) = (plain_expr x, plain_expr y)
    plain_expr (Types.concat x y u) = (plain_expr x, plain_expr y)
    plain_expr (Types.session xs e) = plain_args xs
    plain_expr (Types.new h) = tt

    plain_args : {sc : List ℕ} {es : Exprs} {ts : List CoreType} → HasAll p m sc es ts → ArePlainArgs may es
    plain_args Types.no_args = tt
    plain_args (Types.arg x xs) = (plain_expr x, plain_args xs)

  mutual
    plain_stmt : {sc : List ℕ} {ts : List Target} {z : Stmt} → Fine p m sc ts z → IsPlainStmt may z
    plain_stmt (Statements.block x) = plain_all x
    plain_stmt Statements.empty = tt
    plain_stmt (Statements.local d) = plain_expr d.value
    plain_stmt (Statements.assign v f) = plain_expr f
    plain_stmt (Statements.if_true f x) = (plain_expr f, plain_stmt x)
    plain_stmt (Statements.if_else f x y) = (plain_expr f, plain_stmt x, plain_stmt y)
    plain_stmt (Statements.while_true d f x) = (plain_expr f, plain_stmt x)
    plain_stmt (Statements.do_while d x f) = (plain_expr f, plain_stmt x)
    plain_stmt (Statements.switch f c g) = (plain_expr f, plain_groups g)
    plain_stmt (Statements.break b) = tt
    plain_stmt (Statements.continue b) = tt
    plain_stmt (Statements.return {value = None} b) = tt
    plain_stmt (Statements.return {value = Some e} b) = plain_expr b.1
    plain_stmt (Statements.print f i) = plain_expr f
    plain_stmt (Statements.eval f) = plain_expr f

    plain_all : {sc : List ℕ} {ts : List Target} {z : Stmts} → FineAll p m sc ts z → ArePlain may z
    plain_all Statements.no_stmt = tt
    plain_all (Statements.then x g) = (plain_stmt x, plain_all g)
    plain_all (Statements.declare d g) = (plain_expr d.value, plain_all g)

    plain_groups : {sc : List ℕ} {ts : List Target} {gs : Groups} → FineGroups p m sc ts gs → ArePlainGroups may gs
    plain_groups Statements.no_group = tt
    plain_groups (Statements.group x g) = (plain_all x, plain_groups g)

numbered : (a c n : ℕ) → n < c → Contains (numbers_from a c) (a + n)
numbered a zero n l = absurd (omega (arith, l))
numbered a (suc c) zero l =
    let same : a ≡ a + 0 = omega arith in subst (λ x. Contains (numbers_from a (suc c)) x) same (is_first a (numbers_from (suc a) c))
numbered a (suc c) (suc n) l =
    let same : suc a + n ≡ a + suc n = omega arith in
    subst (λ x. Contains (numbers_from a (suc c)) x) same
    (in_more a (suc a + n) (numbers_from (suc a) c) (numbered (suc a) c n (omega (arith, l))))

every_method : (p : Program) (n : ℕ) (k : Method) → slice_get p.methods n ≡ Some k → Contains (numbers_from 0 (length p.methods)) n
every_method p n k at =
    let same : 0 + n ≡ n = omega arith in
    subst (λ x. Contains (numbers_from 0 (length p.methods)) x) same (numbered 0 (length p.methods) n (slice_get_within p.methods n k at))

-- so each `main` is
pub main_plain : (p : Program) → IsCore p → (class : _) → CoreHasMain p class → HasPlainMain p class
main_plain p ok class main = record {
  number = main.number;
  method = main.method;
  at = main.at;
  is = main.is;
  may = numbers_from 0 (length p.methods);
  among = every_method p main.number main.method main.at;
  plain = λ n m c at. plain_all p (numbers_from 0 (length p.methods)) (every_method p) m (method_ok p ok n m at).body;
}
