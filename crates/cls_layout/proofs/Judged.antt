-- What the fields of a class file are judged.
use Rattle.std.proofs.Common.{◌≡◌, ℕ, ◌+◌, ◌*◌, ◌<◌, ◌≤◌, ◌^◌, List, [], ◌∷◌, ◌++◌, length, take, drop, get_or, refl, sym, ap, subst, ◌∙◌}
use Rattle.std.proofs.Common.{length-append, length-take, length-drop, drop-cons, add-one, arith, Bool, true, false, Option, Some, None}
use Rattle.std.proofs.Common.{inl, inr, replicate, nat_eq, nat_lt}
use Rattle.std.proofs.lemmas.List.{drop_all, drop_more, length-replicate}
use Rattle.std.specs.List.{flat_map, AllByRecursion}
use Rattle.mg_read.proofs.Steps.{some_is, none_is_not, chosen}
use Rattle.cls_tree.specs.declared.instr.Form.{Form}
use Rattle.cls_tree.specs.declared.instr.Form.TheVariants as forms
use Rattle.cls_tree.specs.Opcodes.{form_of}
use Rattle.cls_tree.specs.Tree.{Args, Instr}
use Rattle.cls_tree.specs.Tree as tree
use Rattle.cls_tree.specs.Layout.{s4, pad, highest, form_bytes, args_bytes, instr_bytes, code_from, code_bytes}
use Rattle.cls_tree.specs.Fits.{FitsForm, FitsArgs, FitsInstr, FitsInstrs}
use Rattle.cls_tree.specs.Jumps.{starts_from, jumps_outside, first_outside_from}
use Rattle.cls_code.specs.declared.CodeFault.{CodeFault}
use Rattle.cls_code.specs.declared.CodeFault.TheVariants as codes
use Rattle.cls_code.specs.Code.{fixed, room, is_bad_switch, unfit_args, unfit, Decodes, Instrs, Fault, long, stuck, outside}
use Rattle.cls_code.specs.Code as code
use Rattle.cls_code.specs.Answer.{IsDecoded}
use Rattle.cls_layout.specs.declared.format.Part.{Part}
use Rattle.cls_layout.specs.declared.format.Part.TheVariants as parts
use Rattle.cls_layout.specs.declared.format.Field.{Field}
use Rattle.cls_layout.specs.declared.ClassFault.{ClassFault}
use Rattle.cls_layout.specs.declared.ClassFault.TheVariants as faults
use Rattle.cls_layout.specs.Letters.{letters}
use Rattle.cls_layout.specs.Parts.{size}
use Rattle.cls_layout.specs.Row.{number, is_cut, is_bad_entry}
use Rattle.std.specs.Prelude.{Ok, Err}
use Rattle.std.proofs.lemmas.Bool.{ltb-false}
use Rattle.cls_layout.specs.Faults.{ends_here, ends_well, unless, args_misnamed, first_misnamed, judged, Judges, JudgesText, spelled}
use Rattle.cls_layout.specs.Faults.{unspelled, JudgesCode, faulty, JudgesField, whole, First, clean, here, behind}
use Rattle.cls_layout.specs.Judging.{extra, MovesWithin, IsMoved}
use Rattle.cls_layout.proofs.Modified.{letters_read, letters_given}

-- ---- texts
pub text_right : (bytes text : List ℕ) (at : ℕ) → letters bytes ≡ Some text → JudgesText bytes at None
text_right bytes text at e = let r = letters_read bytes text e in spelled text r.0 r.1

pub text_wrong : (bytes : List ℕ) (at : ℕ) → letters bytes ≡ None → JudgesText bytes at (Some (faults.BadText at))
text_wrong bytes at e = unspelled (λ text ok is. none_is_not text (sym e ∙ (ap letters (sym is) ∙ letters_given text ok)))

-- ---- the end of a content
pub end_next : (later : List Field) (i : ℕ) (f : Field) → i < length later → f ≡ get_or later i f → ends_well (drop i later) ≡ ends_here
    f.part f.at (ends_well (drop (i + 1) later))
unfolding ends_well
end_next later i f lt e =
    ap ends_well (drop_more later i f lt) ∙ ap (λ (g : Field). ends_here g.part g.at (ends_well (drop (i + 1) later))) (sym e)

pub end_here : (f : Field) (from len : ℕ) (b : Bool) → f.part ≡ parts.ContentEnd from len → ends_here f.part f.at b ≡ nat_eq f.at
    (from + len)
end_here f from len b e = ap (λ (p : Part). ends_here p f.at b) e

pub no_end : (p : Part) (at : ℕ) (b : Bool) → ((from len : ℕ) → p ≡ parts.ContentEnd from len → ⊥) → ends_here p at b ≡ b
no_end parts.Magic at b never = refl
no_end parts.Minor at b never = refl
no_end parts.Major at b never = refl
no_end parts.PoolCount at b never = refl
no_end parts.Tag at b never = refl
no_end parts.TextLength at b never = refl
no_end (parts.Letters n) at b never = refl
no_end parts.Int at b never = refl
no_end (parts.Reference tag) at b never = refl
no_end parts.Number at b never = refl
no_end parts.Interfaces at b never = refl
no_end (parts.MemberCount m) at b never = refl
no_end (parts.Member m) at b never = refl
no_end (parts.AttributeCount m) at b never = refl
no_end parts.AttributeName at b never = refl
no_end (parts.MethodAttribute left seen) at b never = refl
no_end parts.OtherLength at b never = refl
no_end (parts.Unread n) at b never = refl
no_end parts.CodeLength at b never = refl
no_end parts.CodeSize at b never = refl
no_end (parts.Code n) at b never = refl
no_end parts.Handlers at b never = refl
no_end (parts.ContentEnd from len) at b never = absurd (never from len refl)
no_end parts.End at b never = refl

-- ---- sizes of instructions
fours : (offsets : List _) → length (flat_map s4 offsets) ≡ 4 * length offsets
fours [] = refl
fours (x ∷ xs) = let k = fours xs in omega (arith, length-append (s4 x) (flat_map s4 xs))

form_length : (place : ℕ) (form : Form) (args : Args) → FitsForm form args → length (form_bytes place form args) ≡ fixed place form + extra
    args
form_length place forms.Nothing tree.None ok = refl
form_length place forms.Nothing other ok = absurd ok
form_length place forms.Byte (tree.Number n) ok = refl
form_length place forms.Byte other ok = absurd ok
form_length place forms.Short (tree.Number n) ok = refl
form_length place forms.Short other ok = absurd ok
form_length place forms.Local (tree.Local n) ok = refl
form_length place forms.Local other ok = absurd ok
form_length place forms.Increment (tree.Add l n) ok = refl
form_length place forms.Increment other ok = absurd ok
form_length place forms.Jump (tree.Jump n) ok = refl
form_length place forms.Jump other ok = absurd ok
form_length place forms.Table (tree.Table default low offsets) ok =
    let k = fours offsets in
    omega (
      arith,
      length-replicate {A = ℕ} (pad place) 0,
      length-append (replicate (pad place) 0)
          (s4 default ++ (s4 low ++ (s4 (highest low offsets) ++ flat_map s4 offsets))),
    )
form_length place forms.Table other ok = absurd ok
form_length place forms.NearConstant (tree.Pool n) ok = refl
form_length place forms.NearConstant other ok = absurd ok
form_length place forms.Constant (tree.Pool n) ok = refl
form_length place forms.Constant other ok = absurd ok
form_length place forms.Field (tree.Pool n) ok = refl
form_length place forms.Field other ok = absurd ok
form_length place forms.Method (tree.Pool n) ok = refl
form_length place forms.Method other ok = absurd ok
form_length place forms.Class (tree.Pool n) ok = refl
form_length place forms.Class other ok = absurd ok

pub instr_length : (place : ℕ) (i : Instr) (form : Form) → form_of i.op ≡ Some form → FitsInstr i → length (instr_bytes place i) ≡ 1 + fixed
    place form + extra i.args
instr_length place i form e ok =
    let fits : FitsForm form i.args = subst (λ (o : Option Form). FitsArgs o i.args) e ok in
    let k = form_length place form i.args fits in
    let n : length (args_bytes place (form_of i.op) i.args) ≡ fixed place form + extra i.args =
    ap (λ (o : Option Form). length (args_bytes place o i.args)) e ∙ k in
    omega (arith, n)

-- ---- numbers of instructions
pub record Misnaming (bad : ℕ → ℕ → Bool) (is : List Instr) (place : ℕ) (left : List Instr) : Type 0 where
  pub same : first_misnamed bad place left ≡ first_misnamed bad 0 is
  pub fits : AllByRecursion FitsInstr left
  pub few : place + length (code_from place left) < 65536

module _ (bad : ℕ → ℕ → Bool) (is : List Instr) where
  pub misnaming_first : FitsInstrs is → length (code_bytes is) < 65536 → Misnaming bad is 0 is
  misnaming_first ok few = record { same = refl; fits = ok.0; few = omega (arith, few) }

  pub misnaming_last : (place : ℕ) (left : List Instr) → left ≡ [] → Misnaming bad is place left → None ≡ first_misnamed bad 0 is
  unfolding first_misnamed
  misnaming_last place left e m = sym (ap (first_misnamed bad place) e) ∙ m.same

  module _ (place : ℕ) (left more : List Instr) (i : Instr) (e : left ≡ i ∷ more) (m : Misnaming bad is place left) where
    pub one_fits : FitsInstr i
    one_fits = (subst (AllByRecursion FitsInstr) e m.fits).0

    pub one_few : place + length (instr_bytes place i) < 65536
    one_few =
        let k : place + length (code_from place (i ∷ more)) < 65536 = subst (λ (l : List Instr). place + length (code_from place l) < 65536)
        e m.few in
        omega (arith, k, length-append (instr_bytes place i) (code_from (place + length (instr_bytes place i)) more))

    pub misnaming_found : args_misnamed bad i.op i.args ≡ true → Some place ≡ first_misnamed bad 0 is
    unfolding first_misnamed
    misnaming_found b = let k : first_misnamed bad place (i ∷ more) ≡ Some place = rw b refl in sym k ∙
        (ap (first_misnamed bad place) (sym e) ∙ m.same)

    pub misnaming_more : (next : ℕ) → next ≡ place + length (instr_bytes place i) → args_misnamed bad i.op i.args ≡ false →
        Misnaming bad is next more
    unfolding first_misnamed
    misnaming_more next at b = record {
      same = let k : first_misnamed bad place (i ∷ more) ≡ first_misnamed bad next more = rw (b, at) refl in sym k ∙
          (ap (first_misnamed bad place) (sym e) ∙ m.same);
      fits = (subst (AllByRecursion FitsInstr) e m.fits).1;
      few =
          let k : place + length (code_from place (i ∷ more)) < 65536 =
          subst (λ (l : List Instr). place + length (code_from place l) < 65536) e m.few in
          rw at (omega (arith, k, length-append (instr_bytes place i) (code_from (place + length (instr_bytes place i)) more)));
    }

pub misnamed_within : (bad : ℕ → ℕ → Bool) (is : List Instr) (place p : ℕ) → first_misnamed bad place is ≡ Some p →
    p ≤ place + length (code_from place is)
unfolding first_misnamed
misnamed_within bad [] place p e = absurd (none_is_not p e)
misnamed_within bad (i ∷ is) place p e =
    let n = length-append (instr_bytes place i) (code_from (place + length (instr_bytes place i)) is) in
    elim (chosen (args_misnamed bad i.op i.args) _ _ (Some p) e) [
      | inl t ↦ let k = some_is place p t.1 in omega (arith, k)
      | inr f ↦ let k = misnamed_within bad is (place + length (instr_bytes place i)) p f.1 in omega (arith, k, n)
    ]

outside_within : (starts : List ℕ) (is : List Instr) (place p : ℕ) → first_outside_from starts place is ≡ Some p →
    p ≤ place + length (code_from place is)
unfolding first_outside_from
outside_within starts [] place p e = absurd (none_is_not p e)
outside_within starts (i ∷ is) place p e =
    let n = length-append (instr_bytes place i) (code_from (place + length (instr_bytes place i)) is) in
    elim (chosen (jumps_outside starts place i) _ _ (Some p) e) [
      | inl t ↦ let k = some_is place p t.1 in omega (arith, k)
      | inr f ↦ let k = outside_within starts is (place + length (instr_bytes place i)) p f.1 in omega (arith, k, n)
    ]

-- ---- the fault of a code lies in its bytes
unfit_within : (at place : ℕ) (rest : List ℕ) (fault : CodeFault) → at + place < 2 ^ 32 → unfit place rest ≡ Some fault →
    MovesWithin at fault
unfolding unfit
unfit_within at place [] fault lt e = subst (MovesWithin at) (some_is (codes.Short place) fault e) lt
unfit_within at place (op ∷ rest) fault lt e = go (form_of op) e where
  go : (form : Option Form) → unfit_args place form rest ≡ Some fault → MovesWithin at fault
  go None e = subst (MovesWithin at) (some_is (codes.UnknownOpcode place) fault e) lt
  go (Some form) e = elim (chosen (nat_lt (length rest) (room place form rest)) _ _ (Some fault) e) [
    | inl t ↦ subst (MovesWithin at) (some_is (codes.Short place) fault t.1) lt
    | inr f ↦ elim (chosen (is_bad_switch place form rest) _ _ (Some fault) f.1) [
      | inl t ↦ subst (MovesWithin at) (some_is (codes.BadSwitch place) fault t.1) lt
      | inr g ↦ absurd (none_is_not fault g.1)
    ]
  ]

pub fault_within : (at : ℕ) (code : List ℕ) (fault : CodeFault) → at + length code < 2 ^ 32 → Decodes code (Fault fault) →
    MovesWithin at fault
fault_within at code fault lt (long l) = omega arith
fault_within at code fault lt (stuck {front = front} rest short fits e some u) =
    unfit_within at (length (code_bytes front)) rest fault (omega (arith, ap length e, length-append (code_bytes front) rest)) u
fault_within at code fault lt (outside is {place = place} short fits e o) =
    let k = outside_within (starts_from 0 is) is 0 place o in omega (arith, k, ap length e)

pub record IsCode (code : List ℕ) (is : List Instr) : Type 0 where
  pub fits : FitsInstrs is
  pub short : length (code_bytes is) < 65536
  pub spelled : code ≡ code_bytes is

pub code_right : (bytes : List ℕ) (is : List Instr) → Decodes bytes (Instrs is) → IsCode bytes is
code_right bytes is (code.whole fits sound e) = record { fits = fits; short = let k = sound.short in omega arith; spelled = e }

abbrev DecodedSo : List ℕ → CodeFault → Type 0
DecodedSo code fault = IsDecoded code (Err fault)

pub decoded_within : (at : ℕ) (code : List ℕ) (fault : CodeFault) → at + length code < 2 ^ 32 → DecodedSo code fault → MovesWithin at fault
decoded_within at code (codes.CodeTooLong n) lt d = fault_within at code (codes.CodeTooLong n) lt d
decoded_within at code (codes.UnknownOpcode n) lt d = fault_within at code (codes.UnknownOpcode n) lt d
decoded_within at code (codes.Short n) lt d = fault_within at code (codes.Short n) lt d
decoded_within at code (codes.BadSwitch n) lt d = fault_within at code (codes.BadSwitch n) lt d
decoded_within at code (codes.JumpOutside n) lt d = fault_within at code (codes.JumpOutside n) lt d
decoded_within at code codes.Memory lt d = tt

abbrev MovedSo : ℕ → CodeFault → CodeFault → Type 0
MovedSo at fault r = IsMoved {E = ℕ} at fault (Ok r)

pub code_faulty : (bad : ℕ → ℕ → Bool) (at : ℕ) (code : List ℕ) (fault r : CodeFault) → DecodedSo code fault → MovedSo at fault r →
    JudgesCode bad code at (Some (faults.Code r))
code_faulty bad at code (codes.CodeTooLong n) r d e = rw e (faulty d)
code_faulty bad at code (codes.UnknownOpcode n) r d e = rw e (faulty d)
code_faulty bad at code (codes.Short n) r d e = rw e (faulty d)
code_faulty bad at code (codes.BadSwitch n) r d e = rw e (faulty d)
code_faulty bad at code (codes.JumpOutside n) r d e = rw e (faulty d)
code_faulty bad at code codes.Memory r d e = absurd e

-- ---- fields
pub taken : (bytes rest : List ℕ) (f : Field) (len : ℕ) → is_cut bytes f ≡ false → size f.part ≡ len → rest ≡ drop f.at bytes →
    len ≡ length (take len rest)
unfolding is_cut
taken bytes rest f len e s r =
    let k : size f.part ≤ length (drop f.at bytes) = ltb-false (length (drop f.at bytes)) (size f.part) e in
    rw r (omega (arith, k, s, length-take len (drop f.at bytes)))

pub space : (bytes : List ℕ) (f : Field) → is_cut bytes f ≡ false → f.at < 2 ^ 32 → length bytes < 2 ^ 32 → f.at + size f.part < 2 ^ 32
unfolding is_cut
space bytes f e lt few =
    let k : size f.part ≤ length (drop f.at bytes) = ltb-false (length (drop f.at bytes)) (size f.part) e in
    omega (arith, k, length-drop f.at bytes)

module _ (bytes places : List ℕ) (f : Field) (later : List Field) (r : Option ClassFault) (not_cut : is_cut bytes f ≡ false) (rest : List ℕ)
    (is : rest ≡ drop f.at bytes) where
  judged_as : (p : Part) → f.part ≡ p → Judges bytes places later p f.at (number bytes f) (drop f.at bytes) r →
      JudgesField bytes places f later r
  judged_as p e j = whole not_cut (subst (λ (q : Part). Judges bytes places later q f.at (number bytes f) (drop f.at bytes) r) (sym e) j)

  pub letters_judged : (len : ℕ) → f.part ≡ parts.Letters len → JudgesText (take len rest) f.at r → JudgesField bytes places f later r
  letters_judged len e j = judged_as (parts.Letters len) e (subst (λ (w : List ℕ). JudgesText (take len w) f.at r) is j)

  pub code_judged : (len : ℕ) → f.part ≡ parts.Code len → JudgesCode (is_bad_entry bytes places) (take len rest) f.at r →
      JudgesField bytes places f later r
  code_judged len e j = judged_as (parts.Code len) e (subst (λ (w : List ℕ). JudgesCode (is_bad_entry bytes places) (take len w) f.at r) is
      j)

  pub end_judged : f.part ≡ parts.End → r ≡ unless (nat_eq (length rest) 0) (faults.TrailingBytes f.at) → JudgesField bytes places f later r
  end_judged e j = judged_as parts.End e (j ∙ ap (λ (w : List ℕ). unless (nat_eq (length w) 0) (faults.TrailingBytes f.at)) is)

-- ---- rows
module _ (bytes places : List ℕ) (row : List Field) (i : ℕ) (d : Field) (lt : i < length row) where
  here_is : drop i row ≡ get_or row i d ∷ drop (i + 1) row
  here_is = drop-cons row i d lt ∙ ap (λ (n : ℕ). get_or row i d ∷ drop n row) (sym (add-one i))

  pub judged_on : JudgesField bytes places (get_or row i d) (drop (i + 1) row) None →
      ((r : Option ClassFault) → First bytes places (drop i row) r → First bytes places row r)
      → (r : Option ClassFault) → First bytes places (drop (i + 1) row) r → First bytes places row r
  judged_on right so_far r more = so_far r (rw here_is (behind right more))

  pub judged_here : (fault : ClassFault) → JudgesField bytes places (get_or row i d) (drop (i + 1) row) (Some fault) →
      ((r : Option ClassFault) → First bytes places (drop i row) r → First bytes places row r)
      → First bytes places row (Some fault)
  judged_here fault wrong so_far = so_far (Some fault) (rw here_is (here wrong))

pub judged_last : (bytes places : List ℕ) (row : List Field) (i : ℕ) → length row ≤ i →
    ((r : Option ClassFault) → First bytes places (drop i row) r → First bytes places row r) → First bytes places row None
judged_last bytes places row i le so_far = so_far None (rw (drop_all i row le) clean)

-- ---- numbers of parts
module _ (bytes places : List ℕ) (later : List Field) (at n m : ℕ) where
  judged_same : (p : Part) → (size p ≡ 1 → n ≡ m) → (size p ≡ 2 → n ≡ m) → (size p ≡ 4 → n ≡ m) → judged bytes places later p at n ≡ judged
      bytes places later p at m
  judged_same parts.Magic one two four = ap (judged bytes places later parts.Magic at) (four refl)
  judged_same parts.Minor one two four = ap (judged bytes places later parts.Minor at) (two refl)
  judged_same parts.Major one two four = ap (judged bytes places later parts.Major at) (two refl)
  judged_same parts.PoolCount one two four = ap (judged bytes places later parts.PoolCount at) (two refl)
  judged_same parts.Tag one two four = ap (judged bytes places later parts.Tag at) (one refl)
  judged_same parts.TextLength one two four = refl
  judged_same (parts.Letters len) one two four = refl
  judged_same parts.Int one two four = refl
  judged_same (parts.Reference tag) one two four = ap (judged bytes places later (parts.Reference tag) at) (two refl)
  judged_same parts.Number one two four = refl
  judged_same parts.Interfaces one two four = ap (judged bytes places later parts.Interfaces at) (two refl)
  judged_same (parts.MemberCount k) one two four = refl
  judged_same (parts.Member k) one two four = refl
  judged_same (parts.AttributeCount k) one two four = refl
  judged_same parts.AttributeName one two four = ap (judged bytes places later parts.AttributeName at) (two refl)
  judged_same (parts.MethodAttribute left seen) one two four = ap (judged bytes places later (parts.MethodAttribute left seen) at)
      (two refl)
  judged_same parts.OtherLength one two four = refl
  judged_same (parts.Unread len) one two four = refl
  judged_same parts.CodeLength one two four = refl
  judged_same parts.CodeSize one two four = refl
  judged_same (parts.Code len) one two four = refl
  judged_same parts.Handlers one two four = ap (judged bytes places later parts.Handlers at) (two refl)
  judged_same (parts.ContentEnd from len) one two four = refl
  judged_same parts.End one two four = refl

  module _ (rest : List ℕ) (r : Option ClassFault) where
    pub judges_number : (p : Part) → ((len : ℕ) → p ≡ parts.Letters len → ⊥) → ((len : ℕ) → p ≡ parts.Code len → ⊥) → (p ≡ parts.End → ⊥)
        → (size p ≡ 1 → n ≡ m) → (size p ≡ 2 → n ≡ m) → (size p ≡ 4 → n ≡ m) → r ≡ judged bytes places later p at n →
        Judges bytes places later p at m rest r
    judges_number parts.Magic a b c one two four e = e ∙ judged_same parts.Magic one two four
    judges_number parts.Minor a b c one two four e = e ∙ judged_same parts.Minor one two four
    judges_number parts.Major a b c one two four e = e ∙ judged_same parts.Major one two four
    judges_number parts.PoolCount a b c one two four e = e ∙ judged_same parts.PoolCount one two four
    judges_number parts.Tag a b c one two four e = e ∙ judged_same parts.Tag one two four
    judges_number parts.TextLength a b c one two four e = e
    judges_number (parts.Letters len) a b c one two four e = absurd (a len refl)
    judges_number parts.Int a b c one two four e = e
    judges_number (parts.Reference tag) a b c one two four e = e ∙ judged_same (parts.Reference tag) one two four
    judges_number parts.Number a b c one two four e = e
    judges_number parts.Interfaces a b c one two four e = e ∙ judged_same parts.Interfaces one two four
    judges_number (parts.MemberCount k) a b c one two four e = e
    judges_number (parts.Member k) a b c one two four e = e
    judges_number (parts.AttributeCount k) a b c one two four e = e
    judges_number parts.AttributeName a b c one two four e = e ∙ judged_same parts.AttributeName one two four
    judges_number (parts.MethodAttribute left seen) a b c one two four e = e ∙ judged_same (parts.MethodAttribute left seen) one two four
    judges_number parts.OtherLength a b c one two four e = e
    judges_number (parts.Unread len) a b c one two four e = e
    judges_number parts.CodeLength a b c one two four e = e
    judges_number parts.CodeSize a b c one two four e = e
    judges_number (parts.Code len) a b c one two four e = absurd (b len refl)
    judges_number parts.Handlers a b c one two four e = e ∙ judged_same parts.Handlers one two four
    judges_number (parts.ContentEnd from len) a b c one two four e = e
    judges_number parts.End a b c one two four e = absurd (c refl)
