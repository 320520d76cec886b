-- One instruction: what is read is spelled so, and what is spelled so is read.
use Rattle.std.proofs.Common.{◌≡◌, ℕ, suc, ◌+◌, ◌*◌, ◌<◌, ◌≤◌, Bool, true, false, cond, List, [], ◌∷◌, ◌++◌, length, take, drop, Option}
use Rattle.std.proofs.Common.{Some, None, refl, sym, ap, subst, ◌∙◌, length-append, length-take, arith}
use Rattle.std.proofs.Math.Seq.{take-add}
use Rattle.std.proofs.lemmas.List.{drop_at, take-append-drop}
use Rattle.std.proofs.lemmas.Bool.Decides.{nat_tests}
use Rattle.std.specs.Prelude.{nat_lt}
use Rattle.cls_tree.specs.declared.instr.Form.{Form}
use Rattle.cls_tree.specs.declared.instr.Form.TheVariants as forms
use Rattle.cls_tree.specs.Opcodes.{form_of}
use Rattle.cls_tree.specs.Tree.{Args, Number, Local, Pool, Jump, Add, Table, Instr}
use Rattle.cls_tree.specs.Tree as tree
use Rattle.cls_tree.specs.Layout.{u1, u2, s1, s2, form_bytes, args_bytes, instr_bytes}
use Rattle.cls_tree.specs.Fits.{FitsForm, FitsArgs, FitsInstr}
use Rattle.cls_code.specs.declared.CodeFault.{CodeFault}
use Rattle.cls_code.specs.declared.CodeFault.TheVariants as faults
use Rattle.cls_code.specs.Code.{room, is_bad_switch, unfit, unfit_args}
use Rattle.cls_code.specs.Inner.{u1_in, s1_in, args_in, args_at, instr_in, room_at, size_in}
use Rattle.cls_code.proofs.Spelled.{IsBytes, bytes_drop, spelled1, spelled2, below1, below2, signed1, signed2, told1, told2, back1, back2}
use Rattle.cls_code.proofs.Spelled.{signed_back1, signed_back2, long1, long2, longs1, longs2}
use Rattle.cls_code.proofs.Tables.{table_fits, table_told, table_back, table_room, table_good}

-- what was read of arguments fits, and is spelled so
record ArgsStand (place : ℕ) (form : Form) (rest : List ℕ) : Type 0 where
  fits : FitsForm form (args_in place form rest)
  told : form_bytes place form (args_in place form rest) ≡ take (room place form rest) rest

args_stand : (place : ℕ) (form : Form) (rest : List ℕ) → IsBytes rest → room place form rest ≤ length rest →
    is_bad_switch place form rest ≡ false → ArgsStand place form rest
args_stand place forms.Nothing rest fits long good = record { fits = tt; told = refl }
args_stand place forms.Byte rest fits long good = record { fits = signed1 rest fits; told = told1 rest long fits }
args_stand place forms.Short rest fits long good = record { fits = signed2 rest fits; told = told2 rest long fits }
args_stand place forms.Local rest fits long good = record { fits = below1 rest fits; told = spelled1 rest long fits }
args_stand place forms.Increment rest fits long good =
    record {
      fits = (below1 rest fits, signed1 (drop 1 rest) (bytes_drop 1 rest fits));
      told = ap (λ bs. bs ++ s1 (s1_in (drop 1 rest))) (spelled1 rest (omega arith) fits)
          ∙ ap (λ bs. take 1 rest ++ bs) (told1 (drop 1 rest) (one_less rest long) (bytes_drop 1 rest fits)) ∙ sym (take-add 1 1 rest);
    }
  where
    one_less : (rest : List ℕ) → 2 ≤ length rest → 1 ≤ length (drop 1 rest)
    one_less [] le = absurd (omega arith)
    one_less (b ∷ rest) le = omega arith
args_stand place forms.Jump rest fits long good = record { fits = signed2 rest fits; told = told2 rest long fits }
args_stand place forms.Table rest fits long good = record {
  fits = table_fits place rest fits long good;
  told =
      table_told place rest fits long good;
}
args_stand place forms.NearConstant rest fits long good = record { fits = below1 rest fits; told = spelled1 rest long fits }
args_stand place forms.Constant rest fits long good = record { fits = below2 rest fits; told = spelled2 rest long fits }
args_stand place forms.Field rest fits long good = record { fits = below2 rest fits; told = spelled2 rest long fits }
args_stand place forms.Method rest fits long good = record { fits = below2 rest fits; told = spelled2 rest long fits }
args_stand place forms.Class rest fits long good = record { fits = below2 rest fits; told = spelled2 rest long fits }

-- what is spelled of arguments is read
record ArgsBack (place : ℕ) (form : Form) (args : Args) (rest : List ℕ) : Type 0 where
  is : args_in place form (form_bytes place form args ++ rest) ≡ args
  size : room place form (form_bytes place form args ++ rest) ≡ length (form_bytes place form args)
  good : is_bad_switch place form (form_bytes place form args ++ rest) ≡ false

args_back : (place : ℕ) (form : Form) (args : Args) (rest : List ℕ) → FitsForm form args → ArgsBack place form args rest
args_back place forms.Nothing tree.None rest f = record { is = refl; size = refl; good = refl }
args_back place forms.Byte (Number n) rest f = record { is = ap Number (signed_back1 n rest f); size = sym (longs1 n); good = refl }
args_back place forms.Short (Number n) rest f = record { is = ap Number (signed_back2 n rest f); size = sym (longs2 n); good = refl }
args_back place forms.Local (Local n) rest f = record { is = ap Local (back1 n rest f); size = sym (long1 n); good = refl }
args_back place forms.Increment (Add local n) rest f =
    record {
      is = ap (λ k. Add k (s1_in (s1 n ++ rest))) (back1 local (s1 n ++ rest) f.0) ∙ ap (Add local) (signed_back1 n rest f.1);
      size = refl;
      good = refl;
    }
args_back place forms.Jump (Jump d) rest f = record { is = ap Jump (signed_back2 d rest f); size = sym (longs2 d); good = refl }
args_back place forms.Table (Table d l os) rest f =
    record { is = table_back place d l os rest f; size = table_room place d l os rest f; good = table_good place d l os rest f }
args_back place forms.NearConstant (Pool n) rest f = record { is = ap Pool (back1 n rest f); size = sym (long1 n); good = refl }
args_back place forms.Constant (Pool n) rest f = record { is = ap Pool (back2 n rest f); size = sym (long2 n); good = refl }
args_back place forms.Field (Pool n) rest f = record { is = ap Pool (back2 n rest f); size = sym (long2 n); good = refl }
args_back place forms.Method (Pool n) rest f = record { is = ap Pool (back2 n rest f); size = sym (long2 n); good = refl }
args_back place forms.Class (Pool n) rest f = record { is = ap Pool (back2 n rest f); size = sym (long2 n); good = refl }
args_back place form other rest f = absurd f

-- An instruction stands at the front of bytes.
pub record Stood (place : ℕ) (bytes : List ℕ) (i : Instr) (size : ℕ) : Type 0 where
  pub fits : FitsInstr i
  pub spelled : bytes ≡ instr_bytes place i ++ drop size bytes
  pub sized : size ≡ length (instr_bytes place i)
  pub within : size ≤ length bytes

no_tests : (a b : Bool) (x y : CodeFault) → cond a (Some x) (cond b (Some y) None) ≡ None → (a ≡ false) × (b ≡ false)
no_tests true b x y e = absurd_some x e
  where
    absurd_some : {C : Type 0} (x : CodeFault) → Some x ≡ None → C
    absurd_some x e = absurd cc
no_tests false true x y e = absurd cc
no_tests false false x y e = (refl, refl)

stood_args : (place op : ℕ) (rest : List ℕ) (f : Option Form) → form_of op ≡ f → IsBytes rest → unfit_args place f rest ≡ None
    → Stood place (op ∷ rest) (record { op = op; args = args_at place f rest }) (suc (room_at place f rest))
stood_args place op rest None e fits none = absurd cc
stood_args place op rest (Some form) e fits none =
    let t = no_tests (nat_lt (length rest) (room place form rest)) (is_bad_switch place form rest) (faults.Short place)
    (faults.BadSwitch place) none in
    let long : room place form rest ≤ length rest = grind (arith, nat_tests) in
    let s = args_stand place form rest fits long t.1 in
    let args = args_in place form rest in
    let r = room place form rest in
    let told : args_bytes place (form_of op) args ≡ take r rest = ap (λ g. args_bytes place g args) e ∙ s.told in
    let size : length (take r rest) ≡ r = omega (arith, length-take r rest) in
    record {
      fits = subst (λ g. FitsArgs g args) (sym e) s.fits;
      spelled = ap (λ bs. op ∷ bs) (sym (take-append-drop r rest) ∙ ap (λ bs. bs ++ drop r rest) (sym told));
      sized = ap suc (sym (ap length told ∙ size));
      within = omega arith;
    }

pub stands : (place : ℕ) (bytes : List ℕ) → IsBytes bytes → unfit place bytes ≡ None → Stood place bytes (instr_in place bytes)
    (size_in place bytes)
unfolding unfit instr_in size_in
stands place [] fits none = absurd cc
stands place (op ∷ rest) fits none = stood_args place op rest (form_of op) refl (λ i. fits (suc i)) none

-- An instruction is read where its bytes stand.
pub record Seen (place : ℕ) (i : Instr) (rest : List ℕ) : Type 0 where
  pub none : unfit place (instr_bytes place i ++ rest) ≡ None
  pub instr : instr_in place (instr_bytes place i ++ rest) ≡ i
  pub size : size_in place (instr_bytes place i ++ rest) ≡ length (instr_bytes place i)

seen_args : (place op : ℕ) (args : Args) (rest : List ℕ) (f : Option Form) → form_of op ≡ f → FitsArgs f args
    → (unfit_args place f (args_bytes place f args ++ rest) ≡ None) × (args_at place f (args_bytes place f args ++ rest) ≡ args)
    × (room_at place f (args_bytes place f args ++ rest) ≡ length (args_bytes place f args))
seen_args place op args rest None e f = absurd f
seen_args place op args rest (Some form) e f =
    let b = args_back place form args rest f in
    let all = form_bytes place form args ++ rest in
    let long : nat_lt (length all) (room place form all) ≡ false = not_cut (length all) (room place form all)
    (omega (arith, b.size, length-append (form_bytes place form args) rest)) in (
      ap (λ t. cond t (Some (faults.Short place)) (cond (is_bad_switch place form all) (Some (faults.BadSwitch place)) None)) long
          ∙ ap (λ t. cond t (Some (faults.BadSwitch place)) None) b.good,
      b.is,
      b.size,
    )
  where
    not_cut : (a b : ℕ) → b ≤ a → nat_lt a b ≡ false
    not_cut a b h = grind (arith, nat_tests)

pub seen : (place : ℕ) (i : Instr) (rest : List ℕ) → FitsInstr i → Seen place i rest
unfolding unfit instr_in size_in
seen place i rest f =
    let s = seen_args place i.op i.args rest (form_of i.op) refl f in
    record { none = s.0; instr = ap (λ a. record { op = i.op; args = a }) s.1; size = ap suc s.2 }

-- Two instructions of the same bytes are one.
pub same_instr : (place : ℕ) (i j : Instr) (r s : List ℕ) → FitsInstr i → FitsInstr j → instr_bytes place i ++ r ≡ instr_bytes place j ++ s
    → (i ≡ j) × (r ≡ s)
same_instr place i j r s f g e =
    let is : i ≡ j = sym (seen place i r f).instr ∙ ap (instr_in place) e ∙ (seen place j s g).instr in
    let a : drop (length (instr_bytes place i)) (instr_bytes place i ++ r) ≡ r =
    drop_at (instr_bytes place i) r (length (instr_bytes place i)) refl in
    let b : drop (length (instr_bytes place j)) (instr_bytes place j ++ s) ≡ s =
    drop_at (instr_bytes place j) s (length (instr_bytes place j)) refl in (
      is,
      sym a ∙ ap (drop (length (instr_bytes place i))) e ∙ ap (λ k. drop (length (instr_bytes place k)) (instr_bytes place j ++ s)) is ∙
          b,
    )
