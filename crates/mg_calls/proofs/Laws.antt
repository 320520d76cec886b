-- A file lists one list of calls at most, and none where a line is bad.
use Rattle.std.proofs.Common.{◌≡◌, ℕ, zero, suc, List, [], ◌∷◌, ◌++◌, length, take, drop, Bool, true, false, Option, Some, None, refl, sym}
use Rattle.std.proofs.Common.{ap, ◌∙◌, subst, append-nil, arith}
use Rattle.mg_text.specs.Call.{Call}
use Rattle.mg_text.specs.declared.place.Place.{Place}
use Rattle.mg_read.specs.First.{Judged, clean, later}
use Rattle.mg_read.specs.Letters.{is_name_byte}
use Rattle.mg_read.specs.Passes.{AllPasses}
use Rattle.mg_read.proofs.Judging.{no_both}
use Rattle.mg_calls.specs.Lines.{Line}
use Rattle.mg_calls.specs.Calls.{IsWord, Says, blank, comment, method, answered, CallAt, CallsOf, none, silent, one, AreCalls, lines_of}
use Rattle.mg_calls.specs.Calls.{IsBadLine, IsFirstBad}

-- a method and a label, cut in one way
one_cut : (n n' l l' : List ℕ) → AllPasses is_name_byte n → AllPasses is_name_byte n' → n ++ 32 ∷ l ≡ n' ++ 32 ∷ l' → (n ≡ n') × (l ≡ l')
one_cut [] [] l l' h h' e = (refl, tail_is e) where
  tail_is : {x y : ℕ} {xs ys : List ℕ} → ◌≡◌ {A = List ℕ} (x ∷ xs) (y ∷ ys) → xs ≡ ys
  tail_is e = cc
one_cut [] (c ∷ cs) l l' h h' e =
    let same : c ≡ 32 = cc in let no : is_name_byte 32 ≡ true = subst (λ (z : ℕ). is_name_byte z ≡ true) same h'.0 in absurd cc
one_cut (c ∷ cs) [] l l' h h' e =
    let same : c ≡ 32 = cc in let no : is_name_byte 32 ≡ true = subst (λ (z : ℕ). is_name_byte z ≡ true) same h.0 in absurd cc
one_cut (c ∷ cs) (d ∷ ds) l l' h h' e =
    let first : c ≡ d = cc in
    let rest : cs ++ 32 ∷ l ≡ ds ++ 32 ∷ l' = cc in
    let r = one_cut cs ds l l' h.1 h'.1 rest in
    ((λ i. first i ∷ r.0 i), r.1)

-- a word has no blank
no_blank : (n l name : List ℕ) → AllPasses is_name_byte name → name ≡ n ++ 32 ∷ l → ⊥
no_blank [] l [] h e = cc
no_blank [] l (c ∷ cs) h e = let same : c ≡ 32 = cc in let no : is_name_byte 32 ≡ true = subst (λ (z : ℕ). is_name_byte z ≡ true) same h.0
    in cc
no_blank (d ∷ ds) l [] h e = cc
no_blank (d ∷ ds) l (c ∷ cs) h e = let rest : cs ≡ ds ++ 32 ∷ l = cc in no_blank ds l cs h.1 rest

-- a word doesn't begin with "#"
no_comment : (rest name : List ℕ) → IsWord name → name ≡ 35 ∷ rest → ⊥
no_comment rest [] h e = cc
no_comment rest (c ∷ cs) h e =
    let same : c ≡ 35 = cc in let no : is_name_byte 35 ≡ true = subst (λ (z : ℕ). is_name_byte z ≡ true) same h.1.0 in cc

no_comment_with : (rest name more : List ℕ) → IsWord name → name ++ more ≡ 35 ∷ rest → ⊥
no_comment_with rest [] more h e = h.0 refl
no_comment_with rest (c ∷ cs) more h e =
    let same : c ≡ 35 = cc in let no : is_name_byte 35 ≡ true = subst (λ (z : ℕ). is_name_byte z ≡ true) same h.1.0 in cc

not_nil : (n l : List ℕ) → n ++ 32 ∷ l ≡ [] → ⊥
not_nil [] l e = cc
not_nil (c ∷ cs) l e = cc

-- a line says one thing
says_one : (text other : List ℕ) (a b : Option Call) → Says text a → Says other b → text ≡ other → a ≡ b
says_one text other a b blank blank e = refl
says_one text other a b blank (comment rest) e = absurd cc
says_one text other a b blank (method word) e = absurd (word.0 (sym e))
says_one text other a b blank (answered name label w w') e = absurd (not_nil name label (sym e))
says_one text other a b (comment rest) blank e = absurd cc
says_one text other a b (comment rest) (comment rest') e = refl
says_one text other a b (comment rest) (method word) e = absurd (no_comment rest other word (sym e))
says_one text other a b (comment rest) (answered name label w w') e = absurd (no_comment_with rest name (32 ∷ label) w (sym e))
says_one text other a b (method word) blank e = absurd (word.0 e)
says_one text other a b (method word) (comment rest) e = absurd (no_comment rest text word e)
says_one text other a b (method word) (method word') e = λ i. Some (record { method = e i; answer = None })
says_one text other a b (method word) (answered name label w w') e = absurd (no_blank name label text word.1 e)
says_one text other a b (answered name label w w') blank e = absurd (not_nil name label e)
says_one text other a b (answered name label w w') (comment rest) e = absurd (no_comment_with rest name (32 ∷ label) w e)
says_one text other a b (answered name label w w') (method word) e = absurd (no_blank name label other word.1 (sym e))
says_one text other a b (answered name label w w') (answered name' label' v v') e =
    let cut = one_cut name name' label label' w.1 v.1 e in
    λ i. Some (record { method = cut.0 i; answer = Some (cut.1 i) })

-- lines list one list of calls
list_one : (lines others : List Line) (a b : List CallAt) → CallsOf lines a → CallsOf others b → lines ≡ others → a ≡ b
list_one lines others a b none none e = refl
list_one lines others a b none (silent s h) e = absurd cc
list_one lines others a b none (one call s h) e = absurd cc
list_one lines others a b (silent s h) none e = absurd cc
list_one lines others a b (silent {line = x} {more = xs} s h) (silent {line = y} {more = ys} s' h') e =
    let rest : xs ≡ ys = cc in list_one xs ys _ _ h h' rest
list_one lines others a b (silent {line = x} {more = xs} s h) (one {line = y} {more = ys} call s' h') e =
    let same : x ≡ y = cc in let no : ◌≡◌ {A = Option Call} None (Some call) = says_one x.text y.text None (Some call) s s'
    (ap (λ (z : Line). z.text) same) in absurd cc
list_one lines others a b (one call s h) none e = absurd cc
list_one lines others a b (one {line = x} {more = xs} call s h) (silent {line = y} {more = ys} s' h') e =
    let same : x ≡ y = cc in let no : ◌≡◌ {A = Option Call} (Some call) None = says_one x.text y.text (Some call) None s s'
    (ap (λ (z : Line). z.text) same) in absurd cc
list_one lines others a b (one {line = x} {more = xs} {calls = cs} call s h) (one {line = y} {more = ys} {calls = ds} call' s' h') e =
    let same : x ≡ y = cc in
    let rest : xs ≡ ys = cc in
    let said : ◌≡◌ {A = Option Call} (Some call) (Some call') = says_one x.text y.text (Some call) (Some call') s s'
    (ap (λ (z : Line). z.text) same) in
    let calls_are : call ≡ call' = cc in
    let more = list_one xs ys cs ds h h' rest in
    λ i. record { line = (same i).number; call = calls_are i } ∷ more i

pub one_list : (bytes : List ℕ) (a b : List CallAt) → AreCalls bytes a → AreCalls bytes b → a ≡ b
one_list bytes a b h k = list_one (lines_of bytes) (lines_of bytes) a b h k refl

-- no line of a list is bad
none_bad : (file : ℕ) {lines : List Line} {calls : List CallAt} → CallsOf lines calls → Judged (IsBadLine file) lines None
none_bad file none = clean
none_bad file (silent s h) = later (λ place bad. bad.0 None s) (none_bad file h)
none_bad file (one call s h) = later (λ place bad. bad.0 (Some call) s) (none_bad file h)

pub no_bad : (file : ℕ) (bytes : List ℕ) (calls : List CallAt) (place : Place) → AreCalls bytes calls → IsFirstBad file bytes place → ⊥
no_bad file bytes calls place h bad = no_both (none_bad file h) bad
