-- Assembled instructions can be laid out, and their numbers name constants of the kinds that they need.
use Rattle.std.proofs.Common.{◌≡◌, inl, inr, ℕ, ℤ, zero, suc, pos, negsuc, ◌+◌, ◌*◌, ◌<◌, ◌≤◌, ◌+ℤ◌, ◌-ℤ◌}
use Rattle.std.proofs.Common.{Bool, true, false, List, [], ◌∷◌, ◌++◌, length, map, get_or, replicate, Some}
use Rattle.std.proofs.Common.{nat_lt, if◌then◌else◌, refl, sym, ap, ◌∙◌, subst, arith, length-append, FitsSigned, ltb-true}
use Rattle.std.proofs.lemmas.List.{length-map}
use Rattle.std.specs.List.{AllByRecursion, flat_map}
use Rattle.std.specs.Int.{cast_unsigned}
use mir.Syntax.{w16, w32}
use Rattle.byteorder.specs.Numbers.{length-bytes_high_first}
use Rattle.cls_tree.specs.declared.class.Const.{Const}
use Rattle.cls_tree.specs.declared.class.Const.TheVariants.{Integer, Text, Class as ClassConst, Field as FieldConst, Method as MethodConst}
use Rattle.cls_tree.specs.declared.instr.Form.{Form}
use Rattle.cls_tree.specs.declared.instr.Form.TheVariants as forms
use Rattle.cls_tree.specs.Opcodes.{form_of}
use Rattle.cls_tree.specs.Pool.{Int, Letters}
use Rattle.cls_tree.specs.Tree as file
use Rattle.cls_tree.specs.Layout.{pad, s4, highest, form_bytes, args_bytes, instr_bytes, code_from}
use Rattle.cls_tree.specs.Jumps.{starts_from}
use Rattle.cls_tree.specs.Emitted.{push_const}
use Rattle.cls_tree.specs.Fits.{IsU2, FitsArgs, FitsInstr}
use Rattle.cls_tree.specs.WellFormed.{OpNames, InstrNames}
use Rattle.gen_rules.specs.Symbolic.{Operand, Nothing, Number, Constant, Local, Jump, Table, Class, Field, Method, Instr}
use Rattle.gen_rules.specs.Assembled.{file_instr, distance, aimed_by, all_aimed, aimed}
use Rattle.gen_links.proofs.Numbers.{Numbers, AllNumbers}
use Rattle.gen_links.proofs.Judging.{aimed_size, starts_aimed}
use Rattle.gen_links.specs.Encodable.{IsEncodableBy, AreEncodable}
use Rattle.gen_links.proofs.Pools.{is-small, is-tagged}

-- Distances.

difference : (z : ℤ) (a b : ℕ) → z ≡ pos a -ℤ pos b → a ≤ 32767 → b ≤ 32767 → FitsSigned w16 z
difference (pos n) a b e h g = record { sfits = grind (arith, e, h) }
difference (negsuc n) a b e h g = record { sfits = grind (arith, e, g) }

difference_wide : (z : ℤ) (a b : ℕ) → z ≡ pos a -ℤ pos b → a ≤ 32767 → b ≤ 32767 → FitsSigned w32 z
difference_wide (pos n) a b e h g = record { sfits = grind (arith, e, h) }
difference_wide (negsuc n) a b e h g = record { sfits = grind (arith, e, g) }

abbrev Within : List ℕ → Type 0
Within starts = AllByRecursion (λ s. s ≤ 32767) starts

start_within : (starts : List ℕ) → Within starts → (n : ℕ) → get_or starts n 0 ≤ 32767
start_within [] h n = omega arith
start_within (s ∷ starts) h zero = h.0
start_within (s ∷ starts) h (suc n) = start_within starts h.1 n

starts_within : (here : ℕ) (js : List file.Instr) → AllByRecursion (λ s. s ≤ here + length (code_from here js)) (starts_from here js)
unfolding starts_from
starts_within here [] = tt
starts_within here (j ∷ js) =
    let next = here + length (instr_bytes here j) in
    let e = length-append (instr_bytes here j) (code_from next js) in (
      omega arith,
      at_most (next + length (code_from next js)) (here + length (code_from here (j ∷ js))) (omega (arith, e))
          (starts_from next js) (starts_within next js),
    )
  where
    at_most : (a b : ℕ) → a ≤ b → (xs : List ℕ) → AllByRecursion (λ s. s ≤ a) xs → AllByRecursion (λ s. s ≤ b) xs
    at_most a b le [] h = tt
    at_most a b le (x ∷ xs) h = let l = h.0 in (omega (arith, l, le), at_most a b le xs h.1)

four : (z : ℤ) → length (s4 z) ≡ 4
four z = length-bytes_high_first 4 (cast_unsigned w32 z)

offsets_size : (offsets : List ℤ) → length (flat_map s4 offsets) ≡ 4 * length offsets
offsets_size [] = refl
offsets_size (d ∷ offsets) = length-append (s4 d) (flat_map s4 offsets) ∙ omega (arith, four d, offsets_size offsets)

-- a table has no more offsets than bytes
table_long : (place : ℕ) (d low : ℤ) (offsets : List ℤ) → length offsets ≤ length (form_bytes place forms.Table (file.Table d low offsets))
table_long place d low offsets =
    let a = length-append (replicate (pad place) 0) (s4 d ++ (s4 low ++ (s4 (highest low offsets) ++ flat_map s4 offsets))) in
    let b = length-append (s4 d) (s4 low ++ (s4 (highest low offsets) ++ flat_map s4 offsets)) in
    let c = length-append (s4 low) (s4 (highest low offsets) ++ flat_map s4 offsets) in
    let e = length-append (s4 (highest low offsets)) (flat_map s4 offsets) in
    omega (arith, a, b, c, e, offsets_size offsets)

top_fits : (z : ℤ) (n : ℕ) → z ≡ (pos 0 +ℤ pos n) -ℤ pos 1 → n ≤ 32767 → FitsSigned w32 z
top_fits (pos k) n e h = record { sfits = grind (arith, e, h) }
top_fits (negsuc k) n e h = record { sfits = grind (arith, e) }

-- One instruction.

pub record Encoded (pool : List Const) (i : file.Instr) : Type 0 where
  pub fits : FitsInstr i
  pub names : InstrNames pool i

as_form : (pool : List Const) (op : ℕ) (form : Form) (args : file.Args) → form_of op ≡ Some form → FitsArgs (Some form) args →
    FitsInstr (file_instr op args)
as_form pool op form args e h = subst (λ f. FitsArgs f args) (sym e) h

as_pool : (pool : List Const) (op n : ℕ) (form : Form) → form_of op ≡ Some form → FitsArgs (Some form) (file.Pool n) →
    OpNames pool (Some form) n → Encoded pool (file_instr op (file.Pool n))
as_pool pool op n form e h g = record {
  fits = as_form pool op form (file.Pool n) e h;
  names = subst (λ f. OpNames pool f n) (sym e) g;
}

near : form_of 18 ≡ Some forms.NearConstant
unfolding form_of
near = refl

far : form_of 19 ≡ Some forms.Constant
unfolding form_of
far = refl

module _ (pool : List Const) (few : length pool ≤ 65534) where
  pushed : (k : ℕ) → IsU2 k → OpNames pool (Some forms.Constant) k → Encoded pool (push_const k)
  pushed k h g = go (nat_lt k 256) refl
    where
      go : (b : Bool) → nat_lt k 256 ≡ b → Encoded pool (file_instr (if b then 18 else 19) (file.Pool k))
      go true e = as_pool pool 18 k forms.NearConstant near (ltb-true k 256 e) g
      go false e = as_pool pool 19 k forms.Constant far h g

  module _ (starts : List ℕ) (within : Within starts) (here : ℕ) (low : here ≤ 32767) where
    distance_fits : (n : ℕ) → FitsSigned w16 (distance starts here n)
    distance_fits n = difference (distance starts here n) (get_or starts n 0) here refl (start_within starts within n) low

    distance_wide : (n : ℕ) → FitsSigned w32 (distance starts here n)
    distance_wide n = difference_wide (distance starts here n) (get_or starts n 0) here refl (start_within starts within n) low

    distances_wide : (ns : List ℕ) → AllByRecursion (FitsSigned w32) (map (distance starts here) ns)
    distances_wide [] = tt
    distances_wide (n ∷ ns) = (distance_wide n, distances_wide ns)

    table_encoded : (op d : ℕ) (ts : List ℕ) → form_of op ≡ Some forms.Table → 0 < length ts →
        length (instr_bytes here (file_instr op (file.Table (distance starts here d) (pos 0) (map (distance starts here) ts)))) ≤ 32767 →
        Encoded pool (file_instr op (file.Table (distance starts here d) (pos 0) (map (distance starts here) ts)))
    table_encoded op d ts e some size =
        let offsets = map (distance starts here) ts in
        let args = file.Table (distance starts here d) (pos 0) offsets in
        let long = table_long here (distance starts here d) (pos 0) offsets in
        let bytes : length (args_bytes here (form_of op) args) ≡ length (form_bytes here forms.Table args)
        = ap (λ f. length (args_bytes here f args)) e in
        let count : length offsets ≤ 32767 = omega (arith, long, bytes, size) in
        let many : length offsets ≡ length ts = length-map ts (distance starts here) in
        record {
          fits = as_form pool op forms.Table args e (
            distance_wide d,
            record { sfits = omega arith },
            top_fits (highest (pos 0) offsets) (length offsets) refl count,
            distances_wide ts,
            omega (arith, many, some),
          );
          names = tt;
        }

    encoded : (op : ℕ) (o : Operand) (j : file.Instr) → Numbers pool op o j → IsEncodableBy op o →
        length (instr_bytes here (aimed_by starts here o j)) ≤ 32767 → Encoded pool (aimed_by starts here o j)
    encoded op Nothing j n h size = subst (Encoded pool) (sym n) (record {
      fits = as_form pool op forms.Nothing file.None h tt;
      names =
          tt;
    })
    encoded op (Number z) j n (inl h) size =
        subst (Encoded pool) (sym n) (record { fits = as_form pool op forms.Byte (file.Number z) h.0 h.1; names = tt })
    encoded op (Number z) j n (inr h) size =
        subst (Encoded pool) (sym n) (record { fits = as_form pool op forms.Short (file.Number z) h.0 h.1; names = tt })
    encoded op (Constant (Int z)) j n h size =
        subst (Encoded pool) (sym n.1)
        (pushed n.0 (is-small pool few n.0 (Integer z) n.2) (inl (is-tagged pool n.0 (Integer z) n.2)))
    encoded op (Constant (Letters text)) j n h size =
        subst (Encoded pool) (sym n.1)
        (pushed n.0 (is-small pool few n.0 (Text n.2.0) n.2.1) (inr (is-tagged pool n.0 (Text n.2.0) n.2.1)))
    encoded op (Local k) j n h size =
        subst (Encoded pool) (sym n) (record { fits = as_form pool op forms.Local (file.Local k) h.0 h.1; names = tt })
    encoded op (Jump t) j n h size =
        subst (λ x. Encoded pool (aimed_by starts here (Jump t) x)) (sym n)
        (record { fits = as_form pool op forms.Jump (file.Jump (distance starts here t)) h (distance_fits t); names = tt })
    encoded op (Table d ts) j n h size =
        subst (λ x. length (instr_bytes here (aimed_by starts here (Table d ts) x)) ≤ 32767 →
        Encoded pool (aimed_by starts here (Table d ts) x))
        (sym n) (table_encoded op d ts h.0 h.1) size
    encoded op (Class name) j n h size =
        subst (Encoded pool) (sym n.1) (as_pool pool op n.0 forms.Class h.0
        (is-small pool few n.0 (ClassConst n.2.0) n.2.1) (is-tagged pool n.0 (ClassConst n.2.0) n.2.1))
    encoded op (Field r) j n h size =
        subst (Encoded pool) (sym n.1) (as_pool pool op n.0 forms.Field h.0
        (is-small pool few n.0 (FieldConst n.2.0 n.2.1) n.2.2) (is-tagged pool n.0 (FieldConst n.2.0 n.2.1) n.2.2))
    encoded op (Method r) j n h size =
        subst (Encoded pool) (sym n.1) (as_pool pool op n.0 forms.Method h.0
        (is-small pool few n.0 (MethodConst n.2.0 n.2.1) n.2.2) (is-tagged pool n.0 (MethodConst n.2.0 n.2.1) n.2.2))

  -- All of a code.

  module _ (starts : List ℕ) (within : Within starts) where
    all_encoded : (here : ℕ) (is : List Instr) (js : List file.Instr) → AllNumbers pool is js → AreEncodable is →
        here + length (code_from here (all_aimed starts (starts_from here js) is js)) ≤ 32767 →
        AllByRecursion (Encoded pool) (all_aimed starts (starts_from here js) is js)
    unfolding starts_from
    all_encoded here [] [] n h size = tt
    all_encoded here [] (j ∷ js) n h size = absurd n
    all_encoded here (i ∷ is) [] n h size = absurd n
    all_encoded here (i ∷ is) (j ∷ js) n h size =
        let made = aimed_by starts here i.operand j in
        let same = aimed_size pool starts here i.op i.operand j n.0 in
        let next = here + length (instr_bytes here j) in
        let rest = all_aimed starts (starts_from next js) is js in
        let moved : length (code_from (here + length (instr_bytes here made)) rest) ≡ length (code_from next rest)
        = ap (λ k. length (code_from (here + k) rest)) same in
        let e = length-append (instr_bytes here made) (code_from (here + length (instr_bytes here made)) rest) in (
          encoded starts within here (omega (arith, size)) i.op i.operand j n.0 h.0 (omega (arith, size, e)),
          all_encoded next is js n.1 h.1 (omega (arith, size, e, moved, same)),
        )

  pub assembled_encoded : (is : List Instr) (js : List file.Instr) → AllNumbers pool is js → AreEncodable is →
      length (code_from 0 (aimed is js)) ≤ 32767 → AllByRecursion (Encoded pool) (aimed is js)
  assembled_encoded is js n h size =
      let starts = starts_from 0 js in
      let same : starts_from 0 (aimed is js) ≡ starts = starts_aimed pool starts 0 is js n in
      let within : Within starts = subst (λ xs. AllByRecursion (λ s. s ≤ 32767) xs) same
      (no_more (length (code_from 0 (aimed is js))) size (starts_from 0 (aimed is js)) (starts_within 0 (aimed is js))) in
      let total = length (code_from 0 (aimed is js)) in
      let none : 0 + total ≡ total = omega arith in
      all_encoded starts within 0 is js n h (subst (λ x. x ≤ 32767) (sym none) size)
    where
      no_more : (a : ℕ) → a ≤ 32767 → (xs : List ℕ) → AllByRecursion (λ s. s ≤ 0 + a) xs → Within xs
      no_more a le [] h = tt
      no_more a le (x ∷ xs) h = let l = h.0 in (omega (arith, l, le), no_more a le xs h.1)

pub fit_all : (pool : List Const) (is : List file.Instr) → AllByRecursion (Encoded pool) is → AllByRecursion FitsInstr is
fit_all pool [] h = tt
fit_all pool (i ∷ is) h = (h.0.fits, fit_all pool is h.1)

pub name_all : (pool : List Const) (is : List file.Instr) → AllByRecursion (Encoded pool) is → AllByRecursion (InstrNames pool) is
name_all pool [] h = tt
name_all pool (i ∷ is) h = (h.0.names, name_all pool is h.1)
