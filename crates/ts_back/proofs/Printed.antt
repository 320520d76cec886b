-- The text of the typestate that a file means is told as the same file, places aside.
use Rattle.std.proofs.Common.{◌≡◌, ℕ, inl, List, [], ◌∷◌, ◌++◌, map, get_or, Bool, true, false, cond, Option, Some, None, position, codes}
use Rattle.std.proofs.Common.{refl, sym, ap, ◌∙◌, subst, append_assoc, arith}
use Rattle.std.specs.Prelude.{option_map, slice_get, is_some}
use Rattle.std.specs.List.{AllByRecursion, flat_map}
use Rattle.std.specs.Str.{bytes_eq}
use Rattle.std.proofs.lemmas.List.{append-nil}
use Rattle.std.proofs.lemmas.List.Quantifiers.{position-Some}
use Rattle.std.proofs.lemmas.Option.{slice_get-map, slice_get-get_or}
use Rattle.std.proofs.lemmas.Slice.Eq.{bytes_eq-Decides}
use Rattle.mg_text.specs.Call.{Name}
use Rattle.mg_text.specs.declared.place.Place.{Place}
use Rattle.mg_read.specs.Culprit.{Culprit}
use Rattle.mg_read.specs.Each.{Each}
use Rattle.mg_read.specs.First.{Clean}
use Rattle.mg_read.proofs.Steps.{some_is}
use Rattle.ts_tree.specs.declared.parts.TypeName.{TypeName}
use Rattle.ts_tree.specs.declared.parts.To.TheVariants as tos
use Rattle.ts_tree.specs.Typestate.{State}
use Rattle.ts_parse.specs.declared.token.Mark.TheVariants as marks
use Rattle.ts_parse.specs.declared.written.Naming.{Naming}
use Rattle.ts_parse.specs.declared.written.WrittenBranch.{WrittenBranch}
use Rattle.ts_parse.specs.Tok.{Tok, named, marked, AreTokens}
use Rattle.ts_parse.specs.Grammar.{Listed, IsParam, AreParams, IsBranch, IsTarget, IsMethod, IsEntry, AreEntries, IsState, IsSpelled}
use Rattle.ts_parse.specs.Written.{WTarget, to_one, by_label, WMethod, WEntry, offer, drop_end, WState, WFile, methods_in, has_drop}
use Rattle.ts_read.specs.Conditions.{state_names, methods_of, leads_to, targets_of, texts, blamed, IsUnknown}
use Rattle.ts_read.specs.Meaning.{place_named, state_numbered, branch_meant, target_meant, method_meant, state_meant, typestate_of}
use Rattle.ts_read.specs.Layout.{line_feed, type_text, listed, name_of, to_text, branch_text, target_text, method_text, entry_lines, lines}
use Rattle.ts_read.specs.Layout.{state_text, layout}
use Rattle.ts_read.proofs.Judges.{contained_in, true_false}
use Rattle.ts_read.proofs.Found.{map_map}
use Rattle.ts_back.proofs.Told.{Any, NoName, Told, nothing, convert, regroup, space_then, line_then, level_then, Front, sign_then}
use Rattle.ts_back.proofs.Told.{word_then, IsName, name_then, name_told, typestate_word, drop_name, end_name, Both, both, Whole, whole}
use Rattle.ts_back.proofs.Same.{Zip, SameBranch, SameTarget, SameMethod, LikeEntry, drop_last, ordered, SameState}
use Rattle.ts_back.proofs.Named.{IsParamTyped, IsNamedBranch, IsNamedTarget, IsNamedMethod, IsNamedState, IsNamedFile}

-- ---- lists

-- behind a token
on : {t : Tok} {us vs : List Tok} → us ≡ vs → ◌≡◌ {A = List Tok} (t ∷ us) (t ∷ vs)
on {t} e = ap (λ z. t ∷ z) e

assoc4 : (a b c d : List ℕ) → a ++ b ++ c ++ d ≡ a ++ (b ++ (c ++ d))
assoc4 a b c d = append_assoc (a ++ b) c d ∙ append_assoc a b (c ++ d)

assoc5 : (a b c d e : List ℕ) → a ++ b ++ c ++ d ++ e ≡ a ++ (b ++ (c ++ (d ++ e)))
assoc5 a b c d e = append_assoc (a ++ b ++ c) d e ∙ assoc4 a b c (d ++ e)

assoc6 : (a b c d e f : List ℕ) → a ++ b ++ c ++ d ++ e ++ f ≡ a ++ (b ++ (c ++ (d ++ (e ++ f))))
assoc6 a b c d e f = append_assoc (a ++ b ++ c ++ d) e f ∙ assoc5 a b c d (e ++ f)

assoc7 : (a b c d e f g : List ℕ) → a ++ b ++ c ++ d ++ e ++ f ++ g ≡ a ++ (b ++ (c ++ (d ++ (e ++ (f ++ g)))))
assoc7 a b c d e f g = append_assoc (a ++ b ++ c ++ d ++ e) f g ∙ assoc6 a b c d e (f ++ g)

assoc8 : (a b c d e f g h : List ℕ) → a ++ b ++ c ++ d ++ e ++ f ++ g ++ h ≡ a ++ (b ++ (c ++ (d ++ (e ++ (f ++ (g ++ h))))))
assoc8 a b c d e f g h = append_assoc (a ++ b ++ c ++ d ++ e ++ f) g h ∙ assoc7 a b c d e f (g ++ h)

all_append : {X : Type 0} (P : X → Type 0) (xs ys : List X) → AllByRecursion P (xs ++ ys) → AllByRecursion P xs × AllByRecursion P ys
all_append P [] ys h = (tt, h)
all_append P (x ∷ xs) ys h = let r = all_append P xs ys h.1 in ((h.0, r.0), r.1)

all_flat : {X Y : Type 0} (P : Y → Type 0) (f : X → List Y) (xs : List X) → AllByRecursion P (flat_map f xs)
    → AllByRecursion (λ x. AllByRecursion P (f x)) xs
all_flat P f [] h = tt
all_flat P f (x ∷ xs) h = let r = all_append P (f x) (flat_map f xs) h in (r.0, all_flat P f xs r.1)

all_both : {X Y : Type 0} (P : X → Type 0) (Q : Y → Type 0) (f : X → Y) (xs : List X) → AllByRecursion P xs → AllByRecursion Q (map f xs)
    → AllByRecursion (λ x. P x × Q (f x)) xs
all_both P Q f [] h g = tt
all_both P Q f (x ∷ xs) h g = ((h.0, g.0), all_both P Q f xs h.1 g.1)

zip_same : {X : Type 0} (xs ys : List X) → Zip (λ x y. x ≡ y) xs ys → ys ≡ xs
zip_same [] [] z = refl
zip_same (x ∷ xs) (y ∷ ys) z = λ i. sym z.0 i ∷ zip_same xs ys z.1 i
zip_same [] (y ∷ ys) z = absurd z
zip_same (x ∷ xs) [] z = absurd z

-- ---- parts with commas between them

abbrev Part : {X : Type 0} → (X → X → Type 0) → (X → List Tok → Type 0) → X → List Tok → Type 0
Part {X} Is G x ts = (y : X) × Is x y × G y ts

module _ {X : Type 0} (Is : X → X → Type 0) (G : X → List Tok → Type 0) where
  abbrev Parts : List X → List Tok → Type 0
  Parts xs ts = (ys : List X) × Zip Is xs ys × Listed marks.Comma G ys ts

  alone : (x : X) (ts : List Tok) → Part Is G x ts → Parts (x ∷ []) ts
  alone x ts h = (h.0 ∷ [], (h.1, tt), (ts, [], sym (append-nil ts), h.2, refl))

  before : (x y : X) (xs : List X) (ts : List Tok) → Both (Part Is G x) (Front (λ a. marked a marks.Comma) (Parts (y ∷ xs))) ts
      → Parts (x ∷ y ∷ xs) ts
  before x y xs ts (us, vs, e, (z, is, g), (a, ws, f, (ys, zip, parts))) = go ys zip parts
    where
      go : (ys : List X) → Zip Is (y ∷ xs) ys → Listed marks.Comma G ys ws → Parts (x ∷ y ∷ xs) ts
      go [] zip l = absurd zip
      go (w ∷ more) zip l =
          (z ∷ w ∷ more, (is, zip), (us, vs, e, g, (marked a marks.Comma ∷ l.0, l.1, f ∙ on l.2, (a, l.0, refl, l.3), l.4)))

  module _ (text : X → List ℕ) (P : X → Type 0) (each : (x : X) → P x → Told NoName (Part Is G x) (text x)) where
    parts_told : (x : X) (xs : List X) → P x → AllByRecursion P xs → Told NoName (Parts (x ∷ xs)) (listed (map text (x ∷ xs)))
    parts_told x [] p ps = convert (alone x) (each x p)
    parts_told x (y ∷ xs) p ps =
        regroup (append_assoc (text x) (codes ", ") (listed (map text (y ∷ xs))))
        (convert (before x y xs) (both (each x p) (λ bytes o. refl)
        (sign_then 44 marks.Comma refl refl (omega arith) (space_then (parts_told y xs ps.0 ps.1)))))

-- a part at the end of a line
line_end : {P : List Tok → Type 0} {text : List ℕ} → Told NoName P text → Told Any P (text ++ line_feed)
line_end {P} h = convert (λ ts (us, vs, e, p, none). subst P (sym (e ∙ ap (λ z. us ++ z) none ∙ append-nil us)) p)
    (both h (λ bytes o. refl) (line_then nothing))

-- ---- parameters

param_told : (type : TypeName) → IsParamTyped type → Told NoName (Part (λ x y. x ≡ y) IsParam type) (type_text type)
param_told type p = convert (λ ts h. (type, refl, (h.0, type_text type, h.1, p.1))) (name_told (type_text type) p.0)

params_told : (xs : List TypeName) → AllByRecursion IsParamTyped xs → Told NoName (AreParams xs) (listed (map type_text xs))
params_told [] h = convert (λ ts e. e) nothing
params_told (x ∷ xs) h =
    convert (λ ts g. subst (λ (ys : List TypeName). Listed marks.Comma IsParam ys ts) (zip_same (x ∷ xs) g.0 g.1) g.2)
    (parts_told (λ x y. x ≡ y) IsParam type_text IsParamTyped param_told x xs h.0 h.1)

-- ---- targets

-- ---- what is told of tokens is the grammar's

abbrev MethodParts : WMethod → List Tok → Type 0
MethodParts m =
    Front (λ a. named a (type_text m.result)) (Front (λ a. named a m.name.text) (Front (λ a. marked a marks.OpenParen)
    (Both (AreParams m.params) (Front (λ a. marked a marks.CloseParen)
    (Front (λ a. marked a marks.Colon) (Part SameTarget IsTarget m.target))))))

method_form : (m : WMethod) → IsNamedMethod m → (ts : List Tok) → MethodParts m ts → Part SameMethod IsMethod m ts
method_form m is ts (a, r, e, (p, s, f, (b, t, g, (us, vs, h, params, (c, w, i, (d, x, j, (u, same, target))))))) = (
  record { result = m.result; name = record { place = p; text = m.name.text }; params = m.params; target = u },
  record { result = refl; name = refl; params = refl; target = same },
  (a, b, c, d, type_text m.result, us, x, e ∙ on (f ∙ on (g ∙ on (h ∙ ap (λ z. us ++ z) (i ∙ on j)))), is.result.1, params, target),
)

abbrev Entries : List WEntry → List Tok → Type 0
Entries es ts = (fs : List WEntry) × Zip LikeEntry es fs × AreEntries fs ts

entries_form : (e : WEntry) (es : List WEntry) (ts : List Tok) → Parts LikeEntry IsEntry (e ∷ es) ts → Entries (e ∷ es) ts
entries_form e es ts (fs, zip, parts) = go fs zip parts
  where
    go : (fs : List WEntry) → Zip LikeEntry (e ∷ es) fs → Listed marks.Comma IsEntry fs ts → Entries (e ∷ es) ts
    go [] zip l = absurd zip
    go (f ∷ more) zip l = (f ∷ more, zip, (ts, [], sym (append-nil ts), l, inl refl))

state_form : (s : WState) (ts : List Tok)
    → Front (λ a. named a s.name.text)
    (Front (λ a. marked a marks.Equals)
    (Front (λ a. marked a marks.OpenBrace) (Both (Entries (ordered s)) (Front (λ a. marked a marks.CloseBrace) (λ us. us ≡ []))))) ts
    → Part SameState IsState s ts
state_form s ts (p, r, e, (a, t, f, (b, u, g, (us, vs, h, (ns, zip, entries), (c, w, i, none))))) = (
  record { name = record { place = p; text = s.name.text }; entries = ns },
  record { name = refl; entries = zip },
  (a, b, c, us, e ∙ on (f ∙ on (g ∙ on (h ∙ ap (λ z. us ++ z) (i ∙ on none)))), entries),
)

abbrev States : List WState → List Tok → Type 0
States ss ts = (us : List WState) × Zip SameState ss us × Each IsState us ts

states_form : (s : WState) (ss : List WState) (ts : List Tok) → Both (Part SameState IsState s) (States ss) ts → States (s ∷ ss) ts
states_form s ss ts (us, vs, e, (t, same, is), (more, zip, each)) = (t ∷ more, (same, zip), (us, vs, e, is, each))

-- the states as they are named, and as they are meant
module _ (names : List Name) (states : List State) where
  abbrev Known : Naming → Type 0
  Known n = to_text states (place_named names n.text) ≡ n.text

  branch_told : (b : WrittenBranch) → IsNamedBranch b × Known b.to
      → Told NoName (Part SameBranch IsBranch b) (branch_text states (branch_meant names b))
  branch_told b h =
      regroup (append_assoc b.label.text (codes ": ") (to_text states (place_named names b.to.text))
      ∙ ap (λ t. b.label.text ++ (codes ": " ++ t)) h.1)
      (convert form (name_then b.label.text h.0.0 (λ bytes o. refl)
      (sign_then 58 marks.Colon refl refl (omega arith) (space_then (name_told b.to.text h.0.1)))))
    where
      form : (ts : List Tok) → Front (λ a. named a b.label.text)
          (Front (λ a. marked a marks.Colon) (λ us. (a : Place) × (us ≡ named a b.to.text ∷ []))) ts → Part SameBranch IsBranch b ts
      form ts (p, us, e, (a, vs, f, (q, g))) = (
        record { label = record { place = p; text = b.label.text }; to = record { place = q; text = b.to.text } },
        (refl, refl),
        (a, e ∙ on (f ∙ on g)),
      )

  target_told : (t : WTarget) → IsNamedTarget t → AllByRecursion Known (leads_to t)
      → Told NoName (Part SameTarget IsTarget t) (target_text states (target_meant names t))
  target_told (to_one n) h k = regroup k.0
      (convert (λ ts g. (to_one (record { place = g.0; text = n.text }), refl, g.1)) (name_told n.text h))
  target_told (by_label []) h k = absurd h
  target_told (by_label (b ∷ bs)) h k =
      let all = all_both IsNamedBranch Known (λ (d : WrittenBranch). d.to) (b ∷ bs) h k in
      convert form (sign_then 60 marks.Less refl refl (omega arith)
      (both (regroup (ap listed (map_map (branch_text states) (branch_meant names) (b ∷ bs)))
      (parts_told SameBranch IsBranch (λ d. branch_text states (branch_meant names d))
      (λ d. IsNamedBranch d × Known d.to) branch_told b bs all.0 all.1))
      (λ bytes o. refl) (sign_then 62 marks.Greater refl refl (omega arith) nothing)))
    where
      form : (ts : List Tok) → Front (λ a. marked a marks.Less)
          (Both (Parts SameBranch IsBranch (b ∷ bs)) (Front (λ a. marked a marks.Greater) (λ us. us ≡ []))) ts
          → Part SameTarget IsTarget (by_label (b ∷ bs)) ts
      form ts (a, us, e, (ws, vs, f, (ds, zip, parts), (c, zs, g, none))) =
          (by_label ds, zip, (a, c, ws, e ∙ on (f ∙ ap (λ z. ws ++ z) (g ∙ on none)), parts))

  -- ---- methods

  abbrev CanMethod : WMethod → Type 0
  CanMethod m = IsNamedMethod m × AllByRecursion Known (leads_to m.target)

  method_told : (m : WMethod) → CanMethod m → Told NoName (Part SameMethod IsMethod m) (method_text states (method_meant names m))
  method_told m (is, known) =
      regroup (assoc8 (codes "        ") (type_text m.result) (codes " ") m.name.text (codes "(") (listed (map type_text m.params))
      (codes "): ") (target_text states (target_meant names m.target)))
      (level_then (level_then (convert (method_form m is)
      (name_then (type_text m.result) is.result.0 (λ bytes o. refl) (space_then
      (name_then m.name.text is.name (λ bytes o. refl)
      (sign_then 40 marks.OpenParen refl refl (omega arith)
      (both (params_told m.params is.params) (λ bytes o. refl)
      (sign_then 41 marks.CloseParen refl refl (omega arith)
      (sign_then 58 marks.Colon refl refl (omega arith) (space_then (target_told m.target is.target known))))))))))))

  -- ---- entries

  abbrev CanEntry : WEntry → Type 0
  CanEntry (offer m) = CanMethod m
  CanEntry (drop_end place) = Unit {0}

  abbrev entry_text : WEntry → List ℕ
  entry_text (offer m) = method_text states (method_meant names m)
  entry_text (drop_end place) = codes "        drop: end"

  entry_told : (e : WEntry) → CanEntry e → Told NoName (Part LikeEntry IsEntry e) (entry_text e)
  entry_told (offer m) h = convert (λ ts g. (offer g.0, g.1, g.2)) (method_told m h)
  entry_told (drop_end place) h =
      level_then (level_then (convert form (name_then (codes "drop") drop_name (λ bytes o. refl)
      (sign_then 58 marks.Colon refl refl (omega arith) (space_then (name_told (codes "end") end_name))))))
    where
      form : (ts : List Tok) → Front (λ a. named a (codes "drop"))
          (Front (λ a. marked a marks.Colon) (λ us. (a : Place) × (us ≡ named a (codes "end") ∷ []))) ts →
          Part LikeEntry IsEntry (drop_end place) ts
      form ts (p, us, e, (a, vs, f, (q, g))) = (drop_end p, tt, (a, q, e ∙ on (f ∙ on g)))

  -- each on a line of its own
  lines_told : (e : WEntry) (es : List WEntry) → CanEntry e → AllByRecursion CanEntry es
      → Told Any (Parts LikeEntry IsEntry (e ∷ es)) (lines (map entry_text (e ∷ es)))
  lines_told e [] h hs = convert (alone LikeEntry IsEntry e) (line_end (entry_told e h))
  lines_told e (f ∷ es) h hs =
      regroup (assoc4 (entry_text e) (codes ",") line_feed (lines (map entry_text (f ∷ es))))
      (convert (before LikeEntry IsEntry e f es)
      (both (entry_told e h) (λ bytes o. refl)
      (sign_then 44 marks.Comma refl refl (omega arith) (line_then (lines_told f es hs.0 hs.1)))))

  entries_told : (es : List WEntry) → AllByRecursion CanEntry es → Told Any (Entries es) (lines (map entry_text es))
  entries_told [] h = convert (λ ts e. ([], tt, e)) nothing
  entries_told (e ∷ es) h = convert (entries_form e es) (lines_told e es h.0 h.1)

  -- the lines of a state are the texts of its entries
  lines_are : (ms : List WMethod) (p : Place) (b : Bool)
      → entry_lines states (map (method_meant names) ms) b ≡ map entry_text (map offer ms ++ drop_last p b)
  lines_are [] p true = refl
  lines_are [] p false = refl
  lines_are (m ∷ ms) p b = ap (λ (ls : List (List ℕ)). method_text states (method_meant names m) ∷ ls) (lines_are ms p b)

  -- ---- states

  abbrev CanState : WState → Type 0
  CanState s = IsNamedState s × AllByRecursion (λ (m : WMethod). AllByRecursion Known (leads_to m.target)) (methods_in s.entries)

  both_methods : (ms : List WMethod) (p : Place) (b : Bool) → AllByRecursion IsNamedMethod ms
      → AllByRecursion (λ (m : WMethod). AllByRecursion Known (leads_to m.target)) ms →
      AllByRecursion CanEntry (map offer ms ++ drop_last p b)
  both_methods [] p true h g = (tt, tt)
  both_methods [] p false h g = tt
  both_methods (m ∷ ms) p b h g = ((h.0, g.0), both_methods ms p b h.1 g.1)

  state_told : (s : WState) → CanState s → Told Any (Part SameState IsState s) (state_text states (state_meant names s))
  state_told s (is, known) =
      regroup (assoc7 (codes "    ") s.name.text (codes " = {") line_feed
      (lines (entry_lines states (map (method_meant names) (methods_in s.entries)) (has_drop s.entries))) (codes "    }") line_feed
      ∙ ap (λ (ls : List (List ℕ)). codes "    "
      ++ (s.name.text ++ (codes " = {" ++ (line_feed ++ (lines ls ++ (codes "    }" ++ line_feed))))))
      (lines_are (methods_in s.entries) s.name.place (has_drop s.entries)))
      (level_then (convert (state_form s)
      (name_then s.name.text is.name (λ bytes o. refl) (space_then
      (sign_then 61 marks.Equals refl refl (omega arith) (space_then
      (sign_then 123 marks.OpenBrace refl refl (omega arith) (line_then
      (both (entries_told (ordered s) (both_methods (methods_in s.entries) s.name.place (has_drop s.entries) is.methods known))
      (λ bytes o. tt)
      (level_then (sign_then 125 marks.CloseBrace refl refl (omega arith) (line_then nothing))))))))))))

  states_told : (ss : List WState) → AllByRecursion CanState ss
      → Told Any (States ss) (flat_map (state_text states) (map (state_meant names) ss))
  states_told [] h = convert (λ ts e. ([], tt, e)) nothing
  states_told (s ∷ ss) h = convert (states_form s ss) (both (state_told s h.0) (λ bytes o. tt) (states_told ss h.1))

-- ---- a target that is known is printed as it is named

-- the name of the state of this number
name_at : (names : List Name) (ss : List WState) (k : ℕ) (text : Name) → slice_get (texts (map (λ (s : WState). s.name) ss)) k ≡ Some text
    → name_of (slice_get (map (state_meant names) ss) k) ≡ text
name_at names ss k text e =
    let F : Option Naming → Option Name = option_map (λ n. n.text) in
    ap name_of (slice_get-map (state_meant names) ss k)
    ∙ go (slice_get ss k) (sym (ap F (slice_get-map (λ (s : WState). s.name) ss k))
    ∙ sym (slice_get-map (λ (n : Naming). n.text) (map (λ (s : WState). s.name) ss) k) ∙ e)
  where
    go : (o : Option WState) → option_map (λ (n : Naming). n.text) (option_map (λ (s : WState). s.name) o) ≡ Some text
        → name_of (option_map (state_meant names) o) ≡ text
    go None e = absurd cc
    go (Some s) e = some_is s.name.text text e

module _ (w : WFile) where
  abbrev names : List Name
  names = texts (state_names w)

  abbrev meant : List State
  meant = map (state_meant names) w.states

  known_text : (n : Naming) → ((c : Culprit) → IsUnknown (state_names w) n c → ⊥) → Known names meant n
  known_text n h = go (bytes_eq n.text (codes "end")) refl
    where
      there : (o : Option ℕ) → position (bytes_eq n.text) names ≡ o → (n.text ≡ codes "end" → ⊥) → to_text meant (state_numbered o) ≡ n.text
      there (Some k) e apart =
          let p = position-Some (bytes_eq n.text) names k [] e in
          name_at names w.states k n.text
          (slice_get-get_or names k [] p.0 ∙ ap (λ (x : Name). Some x) (sym ((bytes_eq-Decides n.text (get_or names k [])).0 p.1)))
      there None e apart =
          absurd (h (blamed n) (refl, apart, (λ c. let no : false ≡ true = sym (ap is_some e) ∙ contained_in names n.text c in cc)))

      go : (b : Bool) → bytes_eq n.text (codes "end") ≡ b
          → to_text meant (cond b tos.End (state_numbered (position (bytes_eq n.text) names))) ≡ n.text
      go true e = sym ((bytes_eq-Decides n.text (codes "end")).0 e)
      go false e = there (position (bytes_eq n.text) names) refl (λ same. true_false ((bytes_eq-Decides n.text (codes "end")).1 same) e)

  all_known : (ns : List Naming) → Clean (IsUnknown (state_names w)) ns → AllByRecursion (Known names meant) ns
  all_known [] h = tt
  all_known (n ∷ ns) h = (known_text n h.0, all_known ns h.1)

  both_states : (ss : List WState) → AllByRecursion IsNamedState ss
      → AllByRecursion (λ (s : WState). AllByRecursion
      (λ (m : WMethod). AllByRecursion (Known names meant) (leads_to m.target)) (methods_in s.entries)) ss
      → AllByRecursion (CanState names meant) ss
  both_states [] h g = tt
  both_states (s ∷ ss) h g = ((h.0, g.0), both_states ss h.1 g.1)

  can_print : IsNamedFile w → Clean (IsUnknown (state_names w)) (targets_of w) → AllByRecursion (CanState names meant) w.states
  can_print is h =
      let in_methods = all_flat (Known names meant) (λ (m : WMethod). leads_to m.target) (methods_of w) (all_known (targets_of w) h) in
      both_states w.states is.states (all_flat (λ (m : WMethod). AllByRecursion (Known names meant) (leads_to m.target))
      (λ (s : WState). methods_in s.entries) w.states in_methods)

  -- ---- the file

  abbrev FileParts : List Tok → Type 0
  FileParts =
      Front (λ a. marked a marks.Typestate) (Front (λ a. named a w.name) (Front (λ a. marked a marks.OpenBrace)
      (Both (States w.states) (Front (λ a. marked a marks.CloseBrace) (λ us. us ≡ [])))))

  file_told : IsName w.name → AllByRecursion (CanState names meant) w.states → Told Any FileParts (layout (typestate_of w))
  file_told name can =
      regroup (assoc7 (codes "typestate ") w.name (codes " {") line_feed (flat_map (state_text meant) meant) (codes "}") line_feed)
      (word_then (codes "typestate") (λ a. marked a marks.Typestate) typestate_word (λ bytes o. refl) (space_then
      (name_then w.name name (λ bytes o. refl) (space_then
      (sign_then 123 marks.OpenBrace refl refl (omega arith) (line_then
      (both (states_told names meant w.states can) (λ bytes o. tt)
      (sign_then 125 marks.CloseBrace refl refl (omega arith) (line_then nothing)))))))))

-- the file that a printed typestate spells
pub record Printed (file : ℕ) (w : WFile) : Type 0 where
  pub written : WFile
  pub name : w.name ≡ written.name
  pub states : Zip SameState w.states written.states
  pub tokens : List Tok
  pub cut : AreTokens file tokens (layout (typestate_of w))
  pub spelled : IsSpelled written tokens

file_back : (file : ℕ) (w : WFile) → Whole file (FileParts w) (layout (typestate_of w)) → Printed file w
file_back file w h = go h.tokens h.cut h.holds
  where
    go : (ts : List Tok) → AreTokens file ts (layout (typestate_of w)) → FileParts w ts → Printed file w
    go ts cut (a, r, e, (b, t, f, (c, u, g, (us, vs, h, (ss, zip, states), (d, x, i, none))))) = record {
      written = record { name = w.name; states = ss };
      name = refl;
      states = zip;
      tokens = ts;
      cut = cut;
      spelled = record {
        package_toks = [];
        import_toks = [];
        state_toks = us;
        imports = [];
        word_at = a;
        name_at = b;
        open_at = c;
        close_at = d;
        tokens = e ∙ on (f ∙ on (g ∙ on (h ∙ ap (λ z. us ++ z) (i ∙ on none))));
        packaged = inl refl;
        imported = refl;
        states = states;
      };
    }

pub printed : (file : ℕ) (w : WFile) → IsNamedFile w → Clean (IsUnknown (state_names w)) (targets_of w) → Printed file w
printed file w is known = file_back file w (whole file (file_told w is.name (can_print w is known)))
