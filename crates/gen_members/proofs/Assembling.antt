-- What is laid out is the code of the class file.
use Rattle.std.proofs.Common.{◌≡◌, ℕ, suc, pos, ◌+◌, List, [], ◌∷◌, ◌++◌, length, map, drop, get_or, refl, sym, ap, ap₂, ◌∙◌, arith, subst}
use Rattle.std.proofs.Common.{append_assoc, length-append, ◌<◌, ◌≤◌}
use Rattle.std.proofs.lemmas.List.{append-nil, at_drop_more, drop_all}
use Rattle.cls_tree.specs.declared.class.Const.{Const}
use Rattle.cls_tree.specs.Tree as file
use Rattle.cls_tree.specs.Pool.{Int, Letters}
use Rattle.cls_tree.specs.Layout.{instr_bytes, code_from, code_bytes}
use Rattle.cls_tree.specs.Jumps.{starts_from}
use Rattle.gen_rules.specs.Symbolic.{Operand, Nothing, Number, Constant, Local, Jump, Table, Class, Field, Method, Instr}
use Rattle.gen_rules.specs.Assembled.{file_instr, numbered_by, numbered, all_numbered, distance, aimed_by, all_aimed, assembled}
use Rattle.gen_links.proofs.Starts.{jump_size, table_size}
use Rattle.gen_members.specs.Constants.{constant_of}
use Rattle.jv_core.specs.Tree.{Program}
use Rattle.gen_expressions.specs.declared.symbolic.Symbolic.{Symbolic}
use Rattle.gen_expressions.specs.View.{operand_of, instr_of, instrs_of}
use Rattle.gen_pool.specs.Made.{IsMade}
use Rattle.gen_members.specs.declared.laying.Laid.{Laid as KeptLaid}
use Rattle.gen_members.specs.Kept.{IsOneMore}
use Rattle.gen_members.specs.Laid.{with_number, size_at, Laid, laid, final_op, final_args, final, finals}

-- an instruction with the number of its constant
numbered_with : (op : ℕ) (o : Operand) (pool : List Const) →
    numbered_by op o pool ≡ (with_number op o (constant_of o pool).0, (constant_of o pool).1)
numbered_with op Nothing pool = refl
numbered_with op (Number n) pool = refl
numbered_with op (Constant (Int n)) pool = refl
numbered_with op (Constant (Letters text)) pool = refl
numbered_with op (Local n) pool = refl
numbered_with op (Jump target) pool = refl
numbered_with op (Table default targets) pool = refl
numbered_with op (Class name) pool = refl
numbered_with op (Field r) pool = refl
numbered_with op (Method r) pool = refl

many_alike : {X Y Z : Type 0} (f : X → Y) (g : X → Z) (xs : List X) → length (map f xs) ≡ length (map g xs)
many_alike f g [] = refl
many_alike f g (x ∷ xs) = ap suc (many_alike f g xs)

-- an instruction with its number, and then the distances of its jumps
final_aimed : (starts : List ℕ) (here op : ℕ) (o : Operand) (k : ℕ) →
    file_instr (final_op op o k) (final_args starts here o k) ≡ aimed_by starts here o (with_number op o k)
final_aimed starts here op Nothing k = refl
final_aimed starts here op (Number n) k = refl
final_aimed starts here op (Constant c) k = refl
final_aimed starts here op (Local n) k = refl
final_aimed starts here op (Jump target) k = refl
final_aimed starts here op (Table default targets) k = refl
final_aimed starts here op (Class name) k = refl
final_aimed starts here op (Field r) k = refl
final_aimed starts here op (Method r) k = refl

-- the distances of jumps change no size
final_size : (starts : List ℕ) (here op : ℕ) (o : Operand) (k : ℕ) →
    length (instr_bytes here (file_instr (final_op op o k) (final_args starts here o k))) ≡ size_at here op o k
final_size starts here op (Jump target) k = jump_size here op (distance starts here target) (pos 0)
final_size starts here op (Table default targets) k =
    table_size here op (distance starts here default) (pos 0) (pos 0) (map (distance starts here) targets) (map (λ t. pos 0) targets)
    (many_alike (distance starts here) (λ t. pos 0) targets)
final_size starts here op Nothing k = refl
final_size starts here op (Number n) k = refl
final_size starts here op (Constant c) k = refl
final_size starts here op (Local n) k = refl
final_size starts here op (Class name) k = refl
final_size starts here op (Field r) k = refl
final_size starts here op (Method r) k = refl

-- code with one more instruction in front
grown : (place n : ℕ) (i : file.Instr) (is : List file.Instr) (end : ℕ) → length (instr_bytes place i) ≡ n →
    end ≡ (place + n) + length (code_from (place + n) is) → end ≡ place + length (code_from place (i ∷ is))
grown place n i is end size e =
    let both = length-append (instr_bytes place i) (code_from (place + length (instr_bytes place i)) is) in
    let rest : length (code_from (place + length (instr_bytes place i)) is) ≡ length (code_from (place + n) is)
    = ap (λ x. length (code_from (place + x) is)) size in
    omega (arith, both, rest, size, e)

-- these are the numbers, the places and the end of instructions
pub record IsLaid (place : ℕ) (is : List Instr) (js : List file.Instr) (made : Laid) : Type 0 where
  pub starts : made.starts ≡ starts_from place js
  pub end : made.end ≡ place + length (code_from place js)
  pub aimed_are : (starts : List ℕ) → finals starts made.starts is made.numbers ≡ all_aimed starts made.starts is js
  -- distances change no size
  pub final_end : (starts : List ℕ) → made.end ≡ place + length (code_from place (finals starts made.starts is made.numbers))

abbrev AreLaid : (place : ℕ) → List Instr → Laid × List Const → List file.Instr × List Const → Type 0
AreLaid place is made numbered = IsLaid place is numbered.0 made.0 × (made.1 ≡ numbered.1)

are_laid : (place : ℕ) (is : List Instr) (pool : List Const) → AreLaid place is (laid place is pool) (all_numbered is pool)
unfolding starts_from
are_laid place [] pool = (record { starts = refl; end = omega arith; aimed_are = λ starts. refl; final_end = λ starts. omega arith }, refl)
are_laid place (i ∷ is) pool =
    let e = numbered_with i.op i.operand pool in
    let k = (constant_of i.operand pool).0 in
    let p = (constant_of i.operand pool).1 in
    let j = with_number i.op i.operand k in
    let n = size_at place i.op i.operand k in
    let more = are_laid (place + n) is p in
    subst (λ (made : file.Instr × List Const). AreLaid place (i ∷ is) (laid place (i ∷ is) pool)
    ((made.0 ∷ (all_numbered is made.1).0), (all_numbered is made.1).1)) (sym e) (
      record {
        starts = ap (λ (xs : List ℕ). place ∷ xs) (more.0).starts;
        end = grown place n j (all_numbered is p).0 (laid (place + n) is p).0.end refl (more.0).end;
        aimed_are = λ starts. ap₂ (λ (x : file.Instr) (xs : List file.Instr). x ∷ xs) (final_aimed starts place i.op i.operand k)
            ((more.0).aimed_are starts);
        final_end = λ starts.
            let l = (laid (place + n) is p).0 in
            grown place n (final starts place i k) (finals starts l.starts is l.numbers) l.end (final_size starts place i.op i.operand k)
            ((more.0).final_end starts);
      },
      more.1,
    )

-- what is made of instructions: their code, how many bytes it takes, and the pool behind it
pub laid_is : (is : List Instr) (pool : List Const) → IsLaid 0 is (all_numbered is pool).0 (laid 0 is pool).0
laid_is is pool = (are_laid 0 is pool).0

pub pool_is : (is : List Instr) (pool : List Const) → (laid 0 is pool).1 ≡ (assembled is pool).1
pool_is is pool = (are_laid 0 is pool).1

pub code_is : (is : List Instr) (pool : List Const) →
    finals (laid 0 is pool).0.starts (laid 0 is pool).0.starts is (laid 0 is pool).0.numbers ≡ (assembled is pool).0
code_is is pool =
    let l = laid_is is pool in
    l.aimed_are (laid 0 is pool).0.starts ∙ ap (λ starts. all_aimed starts starts is (all_numbered is pool).0) l.starts

pub size_is : (is : List Instr) (pool : List Const) → (laid 0 is pool).0.end ≡ length (code_bytes (assembled is pool).0)
size_is is pool =
    let e = (laid_is is pool).final_end (laid 0 is pool).0.starts in
    let same = ap (λ js. length (code_bytes js)) (code_is is pool) in
    omega (arith, e, same)

-- The loop over the instructions.

-- what is laid of the rest, behind these numbers and places
pub record IsLeft (rest : List Instr) (numbers starts : List ℕ) (end : ℕ) (pool : List Const) (all : Laid × List Const) : Type 0 where
  pub numbers_are : (all.0).numbers ≡ numbers ++ (laid end rest pool).0.numbers
  pub starts_are : (all.0).starts ≡ starts ++ (laid end rest pool).0.starts
  pub end_is : (all.0).end ≡ (laid end rest pool).0.end
  pub pool_left : all.1 ≡ (laid end rest pool).1

pub begins : (is : List Instr) (pool : List Const) → IsLeft is [] [] 0 pool (laid 0 is pool)
begins is pool = record { numbers_are = refl; starts_are = refl; end_is = refl; pool_left = refl }

module _ (i : Instr) (rest : List Instr) (numbers starts : List ℕ) (end : ℕ) (pool : List Const) (all : Laid × List Const) where
  -- with the constant of one more, and its size
  step_by : (k : ℕ) (p : List Const) (n : ℕ) → k ≡ (constant_of i.operand pool).0 → p ≡ (constant_of i.operand pool).1 →
      n ≡ size_at end i.op i.operand k → IsLeft (i ∷ rest) numbers starts end pool all →
      IsLeft rest (numbers ++ k ∷ []) (starts ++ end ∷ []) (end + n) p all
  step_by k p n ek ep en l =
      let more = λ (j : ℕ) (q : List Const). laid (end + size_at end i.op i.operand j) rest q in
      let same : laid (end + n) rest p ≡ more (constant_of i.operand pool).0 (constant_of i.operand pool).1
      = ap (λ m. laid (end + m) rest p) en ∙ ap₂ more ek ep in
      record {
        numbers_are = l.numbers_are ∙ ap₂ (λ (j : ℕ) (made : Laid × List Const). numbers ++ (j ∷ made.0.numbers)) (sym ek) (sym same)
            ∙ sym (append_assoc numbers (k ∷ []) (laid (end + n) rest p).0.numbers);
        starts_are = l.starts_are ∙ ap (λ (made : Laid × List Const). starts ++ (end ∷ made.0.starts)) (sym same)
            ∙ sym (append_assoc starts (end ∷ []) (laid (end + n) rest p).0.starts);
        end_is = l.end_is ∙ ap (λ (made : Laid × List Const). made.0.end) (sym same);
        pool_left = l.pool_left ∙ ap (λ (made : Laid × List Const). made.1) (sym same);
      }

made_of : List ℕ → List ℕ → ℕ → Laid
made_of ns ss e = record { numbers = ns; starts = ss; end = e }

-- all are laid
pub laid_done : (numbers starts : List ℕ) (end : ℕ) (pool : List Const) (all : Laid × List Const) → IsLeft [] numbers starts end pool all →
    IsMade (record { numbers = numbers; starts = starts; end = end }) pool all
unfolding made_of
laid_done numbers starts end pool all l =
    let first : numbers ≡ (all.0).numbers = sym (append-nil numbers) ∙ sym l.numbers_are in
    let second : starts ≡ (all.0).starts = sym (append-nil starts) ∙ sym l.starts_are in
    record {
      value = ap (λ ns. made_of ns starts end) first ∙ ap (λ ss. made_of (all.0).numbers ss end) second
          ∙ ap (made_of (all.0).numbers (all.0).starts) (sym l.end_is);
      left = sym l.pool_left;
    }

-- one more of the instructions is laid
pub lay_more : (p : Program) (kept : List Symbolic) (n : ℕ) (x : Symbolic) (old new : KeptLaid) (pool left : List Const)
    (all : Laid × List Const) (k size : ℕ) → n < length kept → x ≡ get_or kept n x →
    IsMade k left (constant_of (operand_of p x.operand) pool) → size ≡ size_at old.end x.op (operand_of p x.operand) k →
    IsOneMore old new k size →
    IsLeft (instrs_of p (drop n kept)) old.numbers.items old.starts.items old.end pool all →
    IsLeft (instrs_of p (drop (n + 1) kept)) new.numbers.items new.starts.items new.end left all
lay_more p kept n x old new pool left all k size within is made takes more l =
    let cut : drop n kept ≡ x ∷ drop (n + 1) kept
    = at_drop_more (λ ys. ys) kept n x within ∙ ap (λ y. y ∷ drop (n + 1) kept) (sym is) in
    let stands = subst (λ ys. IsLeft (instrs_of p ys) old.numbers.items old.starts.items old.end pool all) cut l in
    rw (more.numbers, more.starts, more.end)
    (step_by (instr_of p x) (instrs_of p (drop (n + 1) kept)) old.numbers.items old.starts.items old.end pool all k left size
    made.value made.left takes stands)

-- The loop that makes the instructions.

-- as many as there are
pub as_many : (place : ℕ) (is : List Instr) (pool : List Const) →
    (length (laid place is pool).0.numbers ≡ length is) × (length (laid place is pool).0.starts ≡ length is)
as_many place [] pool = (refl, refl)
as_many place (i ∷ is) pool =
    let k = (constant_of i.operand pool).0 in
    let more = as_many (place + size_at place i.op i.operand k) is (constant_of i.operand pool).1 in
    (ap suc more.0, ap suc more.1)

finals_past : (starts places : List ℕ) (ks : List ℕ) → finals starts places [] ks ≡ []
finals_past starts [] ks = refl
finals_past starts (h ∷ places) ks = refl

module _ (starts : List ℕ) (p : Program) (all : List file.Instr) where
  -- the instructions so far, and those that are left
  abbrev pub AreLeft : (places : List ℕ) (is : List Symbolic) (ks : List ℕ) → List file.Instr → Type 0
  AreLeft places is ks done = all ≡ done ++ finals starts places (instrs_of p is) ks

  pub one_more : (here k : ℕ) (i : Symbolic) (places : List ℕ) (is : List Symbolic) (ks : List ℕ) (done new : List file.Instr)
      (j : file.Instr) →
      j ≡ final starts here (instr_of p i) k → new ≡ done ++ j ∷ [] →
      AreLeft (here ∷ places) (i ∷ is) (k ∷ ks) done → AreLeft places is ks new
  one_more here k i places is ks done new j e m l =
      l ∙ ap (λ x. done ++ (x ∷ finals starts places (instrs_of p is) ks)) (sym e)
      ∙ sym (append_assoc done (j ∷ []) (finals starts places (instrs_of p is) ks))
      ∙ ap (λ x. x ++ finals starts places (instrs_of p is) ks) (sym m)

  -- all are made
  pub all_made : (places : List ℕ) (is : List Symbolic) (ks : List ℕ) (n : ℕ) (done : List file.Instr) → length is ≤ n →
      AreLeft (drop n places) (drop n is) (drop n ks) done → done ≡ all
  all_made places is ks n done past l =
      sym (l ∙ ap (λ ys. done ++ finals starts (drop n places) (instrs_of p ys) (drop n ks)) (drop_all n is past)
      ∙ ap (λ ys. done ++ ys) (finals_past starts (drop n places) (drop n ks)) ∙ append-nil done)
