-- A descriptor is read as the grammar says: it spells one signature at most, and a signature has one descriptor.
use Rattle.std.proofs.Common.{◌≡◌, ◌≢◌, ℕ, Bool, true, false, List, [], ◌∷◌, ◌++◌, Option, Some, None, if◌then◌else◌, ◌==◌, ◌↔◌, codes}
use Rattle.std.proofs.Common.{refl, sym, ap, subst, ◌∙◌, arith, append-nil, append_assoc}
use Rattle.std.specs.List.{fold, flat_map, AllByRecursion}
use Rattle.std.specs.Str.{bytes_eq}
use Rattle.std.proofs.lemmas.Bool.Decides.{nat_tests}
use Rattle.std.proofs.lemmas.Slice.Eq.{bytes_eq-Decides}
use Rattle.mg_text.specs.Call.{Name}
use Rattle.vm_model.specs.Types.{FieldType, Int, Truth, Named, Texts, Signature, type_text, result_text, signature_text, IsPlain}
use Rattle.vm_model.specs.Types.{IsPlainResult, main_signature, IsFieldDescriptor, IsMethodDescriptor, Reading, Begins, Params, ParamName}
use Rattle.vm_model.specs.Types.{Result, ResultName, Whole, Wrong, reads, read_param, read_result, read_param_name, read_result_name, whole}
use Rattle.vm_model.specs.Types.{signature_in, signature_of, result_in, type_of}
use Rattle.vm_model.specs.Types as types

other : (b n : ℕ) → b ≢ n → (b == n) ≡ false
other b n h = grind (arith, nat_tests)

same : (b n : ℕ) → (b == n) ≡ true → b ≡ n
same b n h = grind (arith, nat_tests)

differs : (b n : ℕ) → (b == n) ≡ false → b ≢ n
differs b n h = λ e. grind (arith, nat_tests)

-- what the grammar spells is read
name_read : (ps : List FieldType) (acc name rest : List ℕ) → AllByRecursion (λ b. b ≢ 59) name →
    fold reads (ParamName ps acc) (name ++ 59 ∷ rest) ≡ fold reads (Params (ps ++ Named (acc ++ name) ∷ [])) rest
name_read ps acc [] rest h = ap (λ n. fold reads (Params (ps ++ Named n ∷ [])) rest) (sym (append-nil acc))
name_read ps acc (b ∷ name) rest h =
    ap (λ t. fold reads (if t then Params (ps ++ Named acc ∷ []) else ParamName ps (acc ++ b ∷ [])) (name ++ 59 ∷ rest)) (other b 59 h.0)
    ∙ name_read ps (acc ++ b ∷ []) name rest h.1 ∙ ap (λ n. fold reads (Params (ps ++ Named n ∷ [])) rest) (append_assoc acc (b ∷ []) name)

answer_name_read : (ps : List FieldType) (acc name : List ℕ) → AllByRecursion (λ b. b ≢ 59) name →
    fold reads (ResultName ps acc) (name ++ 59 ∷ []) ≡ whole ps (Some (Named (acc ++ name)))
answer_name_read ps acc [] h = ap (λ n. whole ps (Some (Named n))) (sym (append-nil acc))
answer_name_read ps acc (b ∷ name) h =
    ap (λ t. fold reads (if t then whole ps (Some (Named acc)) else ResultName ps (acc ++ b ∷ [])) (name ++ 59 ∷ [])) (other b 59 h.0)
    ∙ answer_name_read ps (acc ++ b ∷ []) name h.1 ∙ ap (λ n. whole ps (Some (Named n))) (append_assoc acc (b ∷ []) name)

one_read : (ps : List FieldType) (t : FieldType) (rest : List ℕ) → IsPlain t → fold reads (Params ps) (type_text t ++ rest) ≡ fold reads
    (Params (ps ++ t ∷ [])) rest
one_read ps Int rest h = refl
one_read ps Truth rest h = refl
one_read ps Texts rest h = absurd h
one_read ps (Named name) rest h = ap (fold reads (ParamName ps [])) (append_assoc name (59 ∷ []) rest) ∙ name_read ps [] name rest h

params_read : (ps ts : List FieldType) (rest : List ℕ) → AllByRecursion IsPlain ts → fold reads (Params ps) (flat_map type_text ts ++ rest)
    ≡ fold reads (Params (ps ++ ts)) rest
params_read ps [] rest h = ap (λ l. fold reads (Params l) rest) (sym (append-nil ps))
params_read ps (t ∷ ts) rest h =
    ap (fold reads (Params ps)) (append_assoc (type_text t) (flat_map type_text ts) rest) ∙ one_read ps t (flat_map type_text ts ++ rest)
    h.0
    ∙ params_read (ps ++ t ∷ []) ts rest h.1 ∙ ap (λ l. fold reads (Params l) rest) (append_assoc ps (t ∷ []) ts)

answer_read : (ps : List FieldType) (r : Option FieldType) → IsPlainResult r → fold reads (Result ps) (result_text r) ≡ whole ps r
answer_read ps None h = refl
answer_read ps (Some Int) h = refl
answer_read ps (Some Truth) h = refl
answer_read ps (Some Texts) h = absurd h
answer_read ps (Some (Named name)) h = answer_name_read ps [] name h

signature_read : (ts : List FieldType) (r : Option FieldType) → AllByRecursion IsPlain ts → IsPlainResult r →
    fold reads Begins (signature_text (record { params = ts; result = r })) ≡ whole ts r
signature_read ts r h k = params_read [] ts (41 ∷ result_text r) h ∙ answer_read ts r k

-- what is left of a descriptor behind the parameters read so far
record Rest (ps : List FieldType) (d : List ℕ) (s : Signature) : Type 0 where
  params : List FieldType
  answer : Option FieldType
  plain : AllByRecursion IsPlain params
  plain_answer : IsPlainResult answer
  text : d ≡ flat_map type_text params ++ 41 ∷ result_text answer
  is : s ≡ record { params = ps ++ params; result = answer }

record RestOfName (ps : List FieldType) (acc d : List ℕ) (s : Signature) : Type 0 where
  name : List ℕ
  tail : List ℕ
  plain : AllByRecursion (λ b. b ≢ 59) name
  text : d ≡ name ++ 59 ∷ tail
  rest : Rest (ps ++ Named (acc ++ name) ∷ []) tail s

record Answer (ps : List FieldType) (d : List ℕ) (s : Signature) : Type 0 where
  answer : Option FieldType
  plain : IsPlainResult answer
  text : d ≡ result_text answer
  is : s ≡ record { params = ps; result = answer }

record AnswerName (ps : List FieldType) (acc d : List ℕ) (s : Signature) : Type 0 where
  name : List ℕ
  plain : AllByRecursion (λ b. b ≢ 59) name
  text : d ≡ name ++ 59 ∷ []
  is : s ≡ record { params = ps; result = Some (Named (acc ++ name)) }

record Opened (d : List ℕ) (s : Signature) : Type 0 where
  tail : List ℕ
  text : d ≡ 40 ∷ tail
  rest : Rest [] tail s

record Ended (w : Signature) (d : List ℕ) (s : Signature) : Type 0 where
  text : d ≡ []
  is : w ≡ s

-- what is left fits what was read
abbrev Fits : Reading → List ℕ → Signature → Type 0
Fits Begins d s = Opened d s
Fits (Params ps) d s = Rest ps d s
Fits (ParamName ps acc) d s = RestOfName ps acc d s
Fits (Result ps) d s = Answer ps d s
Fits (ResultName ps acc) d s = AnswerName ps acc d s
Fits (Whole w) d s = Ended w d s
Fits Wrong d s = ⊥

last_fits : (r : Reading) (s : Signature) → r ≡ Whole s → Fits r [] s
last_fits Begins s h = absurd cc
last_fits (Params ps) s h = absurd cc
last_fits (ParamName ps acc) s h = absurd cc
last_fits (Result ps) s h = absurd cc
last_fits (ResultName ps acc) s h = absurd cc
last_fits (Whole w) s h = record { text = refl; is = cc }
last_fits Wrong s h = absurd cc

-- one more parameter
more : (ps : List FieldType) (t : FieldType) (d e : List ℕ) (s : Signature) → IsPlain t → d ≡ type_text t ++ e → Rest (ps ++ t ∷ []) e s →
    Rest ps d s
more ps t d e s h text rest = record {
  params = t ∷ rest.params;
  answer = rest.answer;
  plain = (h, rest.plain);
  plain_answer = rest.plain_answer;
  text = text ∙ ap (λ l. type_text t ++ l) rest.text ∙ sym (append_assoc (type_text t) (flat_map type_text rest.params)
      (41 ∷ result_text rest.answer));
  is = rest.is ∙ ap (λ l. let w : Signature = record { params = l; result = rest.answer } in w) (append_assoc ps (t ∷ []) rest.params);
}

closed : (ps : List FieldType) (d : List ℕ) (s : Signature) → Answer ps d s → Rest ps (41 ∷ d) s
closed ps d s a = record {
  params = [];
  answer = a.answer;
  plain = tt;
  plain_answer = a.plain;
  text = ap (λ l. 41 ∷ l) a.text;
  is = a.is ∙ ap (λ l. let w : Signature = record { params = l; result = a.answer } in w) (sym (append-nil ps));
}

param_fits : (ps : List FieldType) (b : ℕ) (d : List ℕ) (s : Signature) (ends int truth named : Bool) →
    (b == 41) ≡ ends → (b == 73) ≡ int → (b == 90) ≡ truth → (b == 76) ≡ named →
    Fits (if ends then Result ps else if int then Params (ps ++ Int ∷ []) else if truth then Params (ps ++ Truth ∷ []) else if named then
    ParamName ps [] else Wrong) d s →
    Rest ps (b ∷ d) s
param_fits ps b d s true int truth named e1 e2 e3 e4 h = subst (λ c. Rest ps (c ∷ d) s) (sym (same b 41 e1)) (closed ps d s h)
param_fits ps b d s false true truth named e1 e2 e3 e4 h = more ps Int (b ∷ d) d s tt (ap (λ c. c ∷ d) (same b 73 e2)) h
param_fits ps b d s false false true named e1 e2 e3 e4 h = more ps Truth (b ∷ d) d s tt (ap (λ c. c ∷ d) (same b 90 e3)) h
param_fits ps b d s false false false true e1 e2 e3 e4 h =
    more ps (Named h.name) (b ∷ d) h.tail s h.plain
    (ap (λ c. c ∷ d) (same b 76 e4) ∙ ap (λ l. 76 ∷ l) (h.text ∙ sym (append_assoc h.name (59 ∷ []) h.tail))) h.rest
param_fits ps b d s false false false false e1 e2 e3 e4 h = absurd h

param_name_fits : (ps : List FieldType) (acc : List ℕ) (b : ℕ) (d : List ℕ) (s : Signature) (ends : Bool) → (b == 59) ≡ ends →
    Fits (if ends then Params (ps ++ Named acc ∷ []) else ParamName ps (acc ++ b ∷ [])) d s → RestOfName ps acc (b ∷ d) s
param_name_fits ps acc b d s true e h = record {
  name = [];
  tail = d;
  plain = tt;
  text = ap (λ c. c ∷ d) (same b 59 e);
  rest = subst (λ n. Rest (ps ++ Named n ∷ []) d s) (sym (append-nil acc)) h;
}
param_name_fits ps acc b d s false e h = record {
  name = b ∷ h.name;
  tail = h.tail;
  plain = (differs b 59 e, h.plain);
  text = ap (λ l. b ∷ l) h.text;
  rest = subst (λ n. Rest (ps ++ Named n ∷ []) h.tail s) (append_assoc acc (b ∷ []) h.name) h.rest;
}

ended_answer : (ps : List FieldType) (r : Option FieldType) (text d : List ℕ) (s : Signature) → IsPlainResult r → text ≡ result_text r →
    Ended (record { params = ps; result = r }) d s → Answer ps (text ++ d) s
ended_answer ps r text d s h e k = record {
  answer = r;
  plain = h;
  text = ap (λ l. text ++ l) k.text ∙ append-nil text ∙ e;
  is = sym k.is;
}

named_answer : (ps : List FieldType) (b : ℕ) (d : List ℕ) (s : Signature) → b ≡ 76 → AnswerName ps [] d s → Answer ps (b ∷ d) s
named_answer ps b d s e h = record {
  answer = Some (Named h.name);
  plain = h.plain;
  text = ap (λ c. c ∷ d) e ∙ ap (λ l. 76 ∷ l) h.text;
  is = h.is;
}

answer_fits : (ps : List FieldType) (b : ℕ) (d : List ℕ) (s : Signature) (nothing int truth named : Bool) →
    (b == 86) ≡ nothing → (b == 73) ≡ int → (b == 90) ≡ truth → (b == 76) ≡ named →
    Fits (if nothing then whole ps None else if int then whole ps (Some Int) else if truth then whole ps (Some Truth) else if named then
    ResultName ps [] else Wrong) d s →
    Answer ps (b ∷ d) s
answer_fits ps b d s true int truth named e1 e2 e3 e4 h = ended_answer ps None (b ∷ []) d s tt (ap (λ c. c ∷ []) (same b 86 e1)) h
answer_fits ps b d s false true truth named e1 e2 e3 e4 h = ended_answer ps (Some Int) (b ∷ []) d s tt (ap (λ c. c ∷ []) (same b 73 e2)) h
answer_fits ps b d s false false true named e1 e2 e3 e4 h = ended_answer ps (Some Truth) (b ∷ []) d s tt (ap (λ c. c ∷ []) (same b 90 e3)) h
answer_fits ps b d s false false false true e1 e2 e3 e4 h = named_answer ps b d s (same b 76 e4) h
answer_fits ps b d s false false false false e1 e2 e3 e4 h = absurd h

answer_name_fits : (ps : List FieldType) (acc : List ℕ) (b : ℕ) (d : List ℕ) (s : Signature) (ends : Bool) → (b == 59) ≡ ends →
    Fits (if ends then whole ps (Some (Named acc)) else ResultName ps (acc ++ b ∷ [])) d s → AnswerName ps acc (b ∷ d) s
answer_name_fits ps acc b d s true e h = record {
  name = [];
  plain = tt;
  text = ap (λ c. c ∷ d) (same b 59 e) ∙ ap (λ l. 59 ∷ l) h.text;
  is = sym h.is ∙ ap (λ n. let w : Signature = record { params = ps; result = Some (Named n) } in w) (sym (append-nil acc));
}
answer_name_fits ps acc b d s false e h = record {
  name = b ∷ h.name;
  plain = (differs b 59 e, h.plain);
  text = ap (λ l. b ∷ l) h.text;
  is = h.is ∙ ap (λ n. let w : Signature = record { params = ps; result = Some (Named n) } in w) (append_assoc acc (b ∷ []) h.name);
}

begin_fits : (b : ℕ) (d : List ℕ) (s : Signature) (opens : Bool) → (b == 40) ≡ opens → Fits (if opens then Params [] else Wrong) d s →
    Opened (b ∷ d) s
begin_fits b d s true e h = record { tail = d; text = ap (λ c. c ∷ d) (same b 40 e); rest = h }
begin_fits b d s false e h = absurd h

step_fits : (r : Reading) (b : ℕ) (d : List ℕ) (s : Signature) → Fits (reads r b) d s → Fits r (b ∷ d) s
step_fits Begins b d s h = begin_fits b d s (b == 40) refl h
step_fits (Params ps) b d s h = param_fits ps b d s (b == 41) (b == 73) (b == 90) (b == 76) refl refl refl refl h
step_fits (ParamName ps acc) b d s h = param_name_fits ps acc b d s (b == 59) refl h
step_fits (Result ps) b d s h = answer_fits ps b d s (b == 86) (b == 73) (b == 90) (b == 76) refl refl refl refl h
step_fits (ResultName ps acc) b d s h = answer_name_fits ps acc b d s (b == 59) refl h
step_fits (Whole w) b d s h = absurd h
step_fits Wrong b d s h = absurd h

all_fits : (r : Reading) (d : List ℕ) (s : Signature) → fold reads r d ≡ Whole s → Fits r d s
all_fits r [] s h = last_fits r s h
all_fits r (b ∷ d) s h = step_fits r b d s (all_fits (reads r b) d s h)

in_whole : (r : Reading) (s : Signature) → signature_in r ≡ Some s → r ≡ Whole s
in_whole Begins s h = absurd cc
in_whole (Params ps) s h = absurd cc
in_whole (ParamName ps acc) s h = absurd cc
in_whole (Result ps) s h = absurd cc
in_whole (ResultName ps acc) s h = absurd cc
in_whole (Whole w) s h = cc
in_whole Wrong s h = absurd cc

abbrev main_text : List ℕ
main_text = codes "([Ljava/lang/String;)V"

opened_descriptor : (d : Name) (s : Signature) → Opened d s → IsMethodDescriptor d s
opened_descriptor d s o =
    subst (λ x. IsMethodDescriptor d x) (sym o.rest.is)
    (types.plain o.rest.plain o.rest.plain_answer (o.text ∙ ap (λ l. 40 ∷ l) o.rest.text))

method_sound : (d : Name) (s : Signature) (b : Bool) → bytes_eq d main_text ≡ b →
    (if b then Some main_signature else signature_in (fold reads Begins d)) ≡ Some s → IsMethodDescriptor d s
method_sound d s true e h =
    let is_main : s ≡ main_signature = cc in
    types.main is_main ((bytes_eq-Decides d main_text).0 e)
method_sound d s false e h = opened_descriptor d s (all_fits Begins d s (in_whole (fold reads Begins d) s h))

whole_chosen : (d : Name) (s : Signature) (b : Bool) → bytes_eq d main_text ≡ b → fold reads Begins d ≡ Whole s →
    (if b then Some main_signature else signature_in (fold reads Begins d)) ≡ Some s
whole_chosen d s true e h =
    let bad : fold reads Begins main_text ≡ Whole s = ap (fold reads Begins) (sym ((bytes_eq-Decides d main_text).0 e)) ∙ h in
    absurd (no_whole bad)
  where
    no_whole : Wrong ≡ Whole s → ⊥
    no_whole w = cc
whole_chosen d s false e h = ap signature_in h

method_complete : (d : Name) (s : Signature) → IsMethodDescriptor d s →
    (if bytes_eq d main_text then Some main_signature else signature_in (fold reads Begins d)) ≡ Some s
method_complete d s (types.plain h k e) =
    whole_chosen d s (bytes_eq d main_text) refl (ap (fold reads Begins) e ∙ signature_read s.params s.result h k)
method_complete d s (types.main is e) =
    ap (λ b. if b then Some main_signature else signature_in (fold reads Begins d)) ((bytes_eq-Decides d main_text).1 e) ∙ ap Some (sym is)

-- a method's descriptor is read as the signature that it spells
pub method_exact : (d : Name) (s : Signature) → (signature_of d ≡ Some s) ↔ IsMethodDescriptor d s
unfolding signature_of
method_exact d s = (method_sound d s (bytes_eq d main_text) refl, method_complete d s)

field_sound : (d : Name) (t : FieldType) (r : Reading) → fold reads (Result []) d ≡ r → result_in (signature_in r) ≡ Some t →
    IsFieldDescriptor d t
field_sound d t Begins e h = absurd cc
field_sound d t (Params ps) e h = absurd cc
field_sound d t (ParamName ps acc) e h = absurd cc
field_sound d t (Result ps) e h = absurd cc
field_sound d t (ResultName ps acc) e h = absurd cc
field_sound d t Wrong e h = absurd cc
field_sound d t (Whole w) e h =
    let a = all_fits (Result []) d w e in
    let answer : a.answer ≡ Some t = ap (λ (x : Signature). x.result) (sym a.is) ∙ h in
    types.plain (subst IsPlainResult answer a.plain) (a.text ∙ ap result_text answer)

field_complete : (d : Name) (t : FieldType) → IsFieldDescriptor d t → result_in (signature_in (fold reads (Result []) d)) ≡ Some t
field_complete d t (types.plain h e) =
    ap (λ x. result_in (signature_in (fold reads (Result []) x))) e ∙ ap (λ r. result_in (signature_in r)) (answer_read [] (Some t) h)

-- and a field's as the type
pub field_exact : (d : Name) (t : FieldType) → (type_of d ≡ Some t) ↔ IsFieldDescriptor d t
unfolding type_of
field_exact d t = (field_sound d t (fold reads (Result []) d) refl, field_complete d t)

spelled : (d : Name) (s : Signature) → IsMethodDescriptor d s → d ≡ signature_text s
spelled d s (types.plain h k e) = e
spelled d s (types.main is e) = e ∙ ap signature_text (sym is)

-- a signature has one descriptor
pub one_descriptor : (d e : Name) (s : Signature) → IsMethodDescriptor d s → IsMethodDescriptor e s → d ≡ e
one_descriptor d e s h k = spelled d s h ∙ sym (spelled e s k)

some_same : {A : Type 0} (a b : A) → Some a ≡ Some b → a ≡ b
some_same a b h = cc

-- a descriptor spells one signature
pub one_signature : (d : Name) (s t : Signature) → IsMethodDescriptor d s → IsMethodDescriptor d t → s ≡ t
one_signature d s t h k = some_same s t (sym ((method_exact d s).1 h) ∙ (method_exact d t).1 k)
