-- What a client shows behind a judgement.
use Rattle.std.proofs.Common.{◌≡◌, ℕ, suc, List, [], ◌∷◌, ◌++◌, length, map, Bool, true, false, ◌&&◌}
use Rattle.std.proofs.Common.{◌||◌, not, Option, None, Some, refl, sym, ap, ◌∙◌}
use Rattle.std.proofs.Common.{subst, cond, drop, get_or, inl, inr, arith}
use Rattle.std.specs.Prelude.{◌⊎◌, ℤ, All, filter, unwrap_or, if◌then◌else◌}
use Rattle.std.specs.List.{flat_map}
use Rattle.std.specs.Str.{bytes_eq}
use Rattle.std.specs.declared.vec.Vec.{Vec}
use Rattle.std.specs.declared.alloc.Global.{Global}
use Rattle.std.proofs.lemmas.List.{length-map, map-append}
use Rattle.std.proofs.lemmas.List.Elements.{All-head, All-tail}
use Rattle.std.proofs.lemmas.Slice.Eq.{bytes_eq-Decides}
use Rattle.lsp_messages.specs.declared.outgoing.Diagnostic.{Diagnostic}
use Rattle.lsp_messages.specs.declared.outgoing.Outgoing.{Outgoing}
use Rattle.lsp_messages.specs.declared.outgoing.Outgoing.TheVariants.{Answered, Refused, Diagnosed}
use Rattle.lsp_folder.specs.declared.program.Member.{Member}
use Rattle.lsp_folder.specs.Names.{is_part}
use Rattle.lsp_folder.proofs.Parts.{are_parts}
use Rattle.mg_refusal.specs.Refusals.{Refusal}
use Rattle.lsp_notes.specs.Told.{AreToldFrom}
use Rattle.lsp_faults.specs.Diagnosed.{AreDiagnosed}
use Rattle.lsp_text.specs.declared.encoding.Encoding.{Encoding}
use Rattle.lsp_server.specs.Telling.{Telling, telling, cleared, tellings, lists_of}
use Rattle.lsp_server.specs.Showing.{is_among, left_over, others, shows, shown_by, showing}
use Rattle.lsp_server.specs.Laws.{Display, after_message, after_messages, Covers, NothingStays}

abbrev Shown : Type 0
Shown = List (List ℕ)

-- Bools.
or_left : (a b : Bool) → (a || b) ≡ false → a ≡ false
or_left true b e = e
or_left false b e = refl

or_right : (a b : Bool) → (a || b) ≡ false → b ≡ false
or_right true b e = absurd (let no : ⊥ = cc in no)
or_right false b e = e

or_of_right : (a b : Bool) → b ≡ true → (a || b) ≡ true
or_of_right true b e = refl
or_of_right false b e = e

and_of : (a b : Bool) → a ≡ true → b ≡ true → (a && b) ≡ true
and_of true b e h = h
and_of false b e h = e

-- Names among others.
among_join : (xs ys : Shown) (name : List ℕ) → is_among (xs ++ ys) name ≡ (is_among xs name || is_among ys name)
among_join [] ys name = refl
among_join (x ∷ xs) ys name = ap (λ (b : Bool). bytes_eq x name || b) (among_join xs ys name) ∙ sym (or_assoc (bytes_eq x name) _ _) where
  or_assoc : (a b c : Bool) → ((a || b) || c) ≡ (a || (b || c))
  or_assoc true b c = refl
  or_assoc false b c = refl

-- a name among others that pass, which passes, is among those that are kept
module _ (p : List ℕ → Bool) (name : List ℕ) (passes : p name ≡ true) where
  kept_by : (x : List ℕ) (xs : Shown) (b : Bool) → p x ≡ b → is_among xs name ≡ true → is_among (cond b (x ∷ xs) xs) name ≡ true
  kept_by x xs true e h = or_of_right (bytes_eq x name) _ h
  kept_by x xs false e h = h

  this_by : (x : List ℕ) (xs : Shown) (b : Bool) → p x ≡ b → bytes_eq x name ≡ true → is_among (cond b (x ∷ xs) xs) name ≡ true
  this_by x xs true e same = ap (λ (b : Bool). b || is_among xs name) same
  this_by x xs false e same =
      absurd (let is : x ≡ name = (bytes_eq-Decides x name).0 same in
      let no : true ≡ false = sym passes ∙ (sym (ap p is) ∙ e) in let never : ⊥ = cc in never)

  kept : (xs : Shown) → is_among xs name ≡ true → is_among (filter p xs) name ≡ true
  kept [] h = h
  kept (x ∷ xs) h = go (λ k. kept xs k) (bytes_eq x name) refl h where
    go : (is_among xs name ≡ true → is_among (filter p xs) name ≡ true) → (b : Bool) → bytes_eq x name ≡ b →
        (b || is_among xs name) ≡ true →
        is_among (cond (p x) (x ∷ filter p xs) (filter p xs)) name ≡ true
    go on true e h = this_by x (filter p xs) (p x) refl e
    go on false e h = kept_by x (filter p xs) (p x) refl (on h)

  not_kept : (xs : Shown) → is_among (filter p xs) name ≡ false → is_among xs name ≡ false
  not_kept xs h = go (is_among xs name) refl where
    go : (b : Bool) → is_among xs name ≡ b → is_among xs name ≡ false
    go true e = absurd (let no : true ≡ false = sym (kept xs e) ∙ h in let never : ⊥ = cc in never)
    go false e = e

-- What is told, one after the other.
abbrev after_telling : Display → Telling → Display
after_telling display t = λ name. if bytes_eq t.document name then t.diagnostics else display name

abbrev after_tellings : Display → List Telling → Display
after_tellings display [] = display
after_tellings display (t ∷ ts) = after_tellings (after_telling display t) ts

abbrev document_of : Telling → List ℕ
document_of t = t.document

abbrev shown_in : Telling → Shown
shown_in t = shows t.document t.diagnostics

same_message : (display : Display) (m : Outgoing) (t : Telling) → telling m ≡ Some t → after_message display m ≡ after_telling display t
same_message display (Answered id answer) t e = absurd (let no : ⊥ = cc in no)
same_message display (Refused id code) t e = absurd (let no : ⊥ = cc in no)
same_message display (Diagnosed document version diagnostics) t e =
    ap (λ (o : Option Telling). after_telling display (unwrap_or o t)) e

same_shown : (m : Outgoing) (t : Telling) → telling m ≡ Some t → shown_by m ≡ shown_in t
same_shown (Answered id answer) t e = absurd (let no : ⊥ = cc in no)
same_shown (Refused id code) t e = absurd (let no : ⊥ = cc in no)
same_shown (Diagnosed document version diagnostics) t e = ap (λ (o : Option Telling). shown_in (unwrap_or o t)) e

abbrev Same : List Outgoing → List Telling → Type 0
Same told ts = map telling told ≡ map (λ t. Some t) ts

first_same : (m : Outgoing) (told : List Outgoing) (t : Telling) (ts : List Telling) → Same (m ∷ told) (t ∷ ts) → telling m ≡ Some t
first_same m told t ts e = ap (λ (os : List (Option Telling)). get_or os 0 None) e

rest_same : (m : Outgoing) (told : List Outgoing) (t : Telling) (ts : List Telling) → Same (m ∷ told) (t ∷ ts) → Same told ts
rest_same m told t ts e = ap (λ (os : List (Option Telling)). drop 1 os) e

same_display : (told : List Outgoing) (ts : List Telling) (display : Display) → Same told ts →
    after_messages display told ≡ after_tellings display ts
same_display [] [] display e = refl
same_display [] (t ∷ ts) display e = absurd (let no : ⊥ = cc in no)
same_display (m ∷ told) [] display e = absurd (let no : ⊥ = cc in no)
same_display (m ∷ told) (t ∷ ts) display e =
    ap (λ (d : Display). after_messages d told) (same_message display m t (first_same m told t ts e))
    ∙ same_display told ts (after_telling display t) (rest_same m told t ts e)

all_shown : (told : List Outgoing) (ts : List Telling) → Same told ts → flat_map shown_by told ≡ flat_map shown_in ts
all_shown [] [] e = refl
all_shown [] (t ∷ ts) e = absurd (let no : ⊥ = cc in no)
all_shown (m ∷ told) [] e = absurd (let no : ⊥ = cc in no)
all_shown (m ∷ told) (t ∷ ts) e =
    ap (λ (names : Shown). names ++ flat_map shown_by told) (same_shown m t (first_same m told t ts e))
    ∙ ap (λ (names : Shown). shown_in t ++ names) (all_shown told ts (rest_same m told t ts e))

module _ (name : List ℕ) where
  -- what is told of others
  abbrev Away : List Telling → Type 0
  Away [] = Unit {0}
  Away (t ∷ ts) = (bytes_eq t.document name ≡ false) × Away ts

  away : (ts : List Telling) → is_among (map document_of ts) name ≡ false → Away ts
  away [] h = tt
  away (t ∷ ts) h = (or_left (bytes_eq t.document name) _ h, away ts (or_right (bytes_eq t.document name) _ h))

  untouched : (ts : List Telling) (display : Display) → Away ts → after_tellings display ts name ≡ display name
  untouched [] display a = refl
  untouched (t ∷ ts) display (e, a) =
      untouched ts (after_telling display t) a ∙ ap (λ (b : Bool). if b then t.diagnostics else display name) e

  -- nothing is wrong by what is told of the name
  abbrev AllEmpty : List Telling → Type 0
  AllEmpty [] = Unit {0}
  AllEmpty (t ∷ ts) = (bytes_eq t.document name ≡ true → t.diagnostics ≡ []) × AllEmpty ts

  empties : (ts : List Telling) (display : Display) → AllEmpty ts → (display name ≡ []) ⊎ (is_among (map document_of ts) name ≡ true) →
      after_tellings display ts name ≡ []
  empties [] display a (inl e) = e
  empties [] display a (inr h) = absurd (let no : ⊥ = cc in no)
  empties (t ∷ ts) display (is, a) h = go (λ d k. empties ts d a k) (bytes_eq t.document name) refl h where
    go : ((d : Display) → (d name ≡ []) ⊎ (is_among (map document_of ts) name ≡ true) → after_tellings d ts name ≡ []) →
        (b : Bool) → bytes_eq t.document name ≡ b → (display name ≡ []) ⊎ ((b || is_among (map document_of ts) name) ≡ true) →
        after_tellings (after_telling display t) ts name ≡ []
    go on true e h = on (after_telling display t)
        (inl (ap (λ (b : Bool). if b then t.diagnostics else display name) e ∙ is e))
    go on false e (inl h) = on (after_telling display t) (inl (ap (λ (b : Bool). if b then t.diagnostics else display name) e ∙ h))
    go on false e (inr h) = on (after_telling display t) (inr h)

  empty_of : (document : List ℕ) (ds : List Diagnostic) → is_among (shows document ds) name ≡ false → bytes_eq document name ≡ true →
      ds ≡ []
  empty_of document [] h e = refl
  empty_of document (d ∷ ds) h e =
      absurd (let no : true ≡ false = sym e ∙ or_left (bytes_eq document name) false h in let never : ⊥ = cc in never)

  all_empty : (ts : List Telling) → is_among (flat_map shown_in ts) name ≡ false → AllEmpty ts
  all_empty [] h = tt
  all_empty (t ∷ ts) h =
      let both : (is_among (shown_in t) name || is_among (flat_map shown_in ts) name) ≡ false =
      sym (among_join (shown_in t) (flat_map shown_in ts) name) ∙ h in (
        empty_of t.document t.diagnostics (or_left (is_among (shown_in t) name) _ both),
        all_empty ts (or_right (is_among (shown_in t) name) _ both),
      )

  all_cleared : (names : Shown) → AllEmpty (map cleared names)
  all_cleared [] = tt
  all_cleared (n ∷ ns) = (λ e. refl, all_cleared ns)

join_tellings : (xs ys : List Telling) (display : Display) → after_tellings display (xs ++ ys) ≡ after_tellings
    (after_tellings display xs) ys
join_tellings [] ys display = refl
join_tellings (x ∷ xs) ys display = join_tellings xs ys (after_telling display x)

names_cleared : (names : Shown) → map document_of (map cleared names) ≡ names
names_cleared [] = refl
names_cleared (n ∷ ns) = ap (λ (xs : Shown). n ∷ xs) (names_cleared ns)

-- Names inside and outside of a folder.
inside : (a b : Bool) → (a && b) ≡ true → a ≡ true
inside true b e = refl
inside false b e = absurd (let no : ⊥ = cc in no)

abbrev ArePart : List ℕ → Shown → Type 0
ArePart document [] = Unit {0}
ArePart document (n ∷ ns) = (is_part document n ≡ true) × ArePart document ns

apart : (document a b : List ℕ) → is_part document a ≡ true → is_part document b ≡ false → bytes_eq a b ≡ false
apart document a b p q = go (bytes_eq a b) refl where
  go : (t : Bool) → bytes_eq a b ≡ t → bytes_eq a b ≡ false
  go true e = absurd (let is : a ≡ b = (bytes_eq-Decides a b).0 e in
      let no : true ≡ false = sym p ∙ (ap (λ (n : List ℕ). is_part document n) is ∙ q) in let never : ⊥ = cc in never)
  go false e = e

none_among : (document name : List ℕ) (names : Shown) → ArePart document names → is_part document name ≡ false → is_among names name ≡ false
none_among document name [] a q = refl
none_among document name (n ∷ ns) (p, a) q =
    ap (λ (b : Bool). b || is_among ns name) (apart document n name p q) ∙ none_among document name ns a q

left_part : (document : List ℕ) (shown names : Shown) → ArePart document (left_over document shown names)
left_part document [] names = tt
left_part document (x ∷ xs) names = go (left_part document xs names) (is_part document x && not (is_among names x)) refl where
  go : ArePart document (left_over document xs names) → (b : Bool) → (is_part document x && not (is_among names x)) ≡ b →
      ArePart document (cond b (x ∷ left_over document xs names) (left_over document xs names))
  go rest true e = (inside _ _ e, rest)
  go rest false e = rest

told_names : (names : Shown) (versions : List (Option ℤ)) (lists : List (List Diagnostic)) → length versions ≡ length names →
    length lists ≡ length names → map document_of (tellings names versions lists) ≡ names
told_names [] versions lists v l = refl
told_names (n ∷ ns) [] lists v l = absurd (omega (arith, v))
told_names (n ∷ ns) (x ∷ versions) [] v l = absurd (omega (arith, l))
told_names (n ∷ ns) (x ∷ versions) (ds ∷ lists) v l =
    ap (λ (xs : Shown). n ∷ xs) (told_names ns versions lists (omega (arith, v)) (omega (arith, l)))

-- A judgement of a folder that has these sources.
module _ (document : List ℕ) (shown names : Shown) (versions : List (Option ℤ)) (lists : List (List Diagnostic)) (told : List Outgoing)
    (display : Display) (v : length versions ≡ length names) (l : length lists ≡ length names) (part : ArePart document names)
    (covers : Covers shown display) (same : Same told (map cleared (left_over document shown names) ++ tellings names versions lists)) where
  abbrev over : Shown
  over = left_over document shown names

  abbrev all : List Telling
  all = map cleared over ++ tellings names versions lists

  displays : (name : List ℕ) → after_messages display told name ≡ after_tellings (after_tellings display (map cleared over))
      (tellings names versions lists) name
  displays name = ap (λ (d : Display). d name)
      (same_display told all display same ∙ join_tellings (map cleared over) (tellings names versions lists) display)

  away_from_sources : (name : List ℕ) → is_among names name ≡ false → Away name (tellings names versions lists)
  away_from_sources name none = away name (tellings names versions lists) (ap (λ (ns : Shown). is_among ns name)
      (told_names names versions lists v l) ∙ none)

  away_from_over : (name : List ℕ) → is_among over name ≡ false → Away name (map cleared over)
  away_from_over name none = away name (map cleared over) (ap (λ (ns : Shown). is_among ns name) (names_cleared over) ∙ none)

  -- what was to be cleared is
  emptied : (name : List ℕ) → is_part document name ≡ true → is_among names name ≡ false →
      after_tellings display (map cleared over) name ≡ []
  emptied name p none = empties name (map cleared over) display (all_cleared name over) (go (is_among shown name) refl) where
    go : (b : Bool) → is_among shown name ≡ b → (display name ≡ []) ⊎ (is_among (map document_of (map cleared over)) name ≡ true)
    go false e = inl (covers name e)
    go true e = inr (ap (λ (ns : Shown). is_among ns name) (names_cleared over)
        ∙ kept (λ n. is_part document n && not (is_among names n)) name (and_of _ _ p (ap not none)) shown e)

  pub gone : (name : List ℕ) → is_part document name ≡ true → is_among names name ≡ false → after_messages display told name ≡ []
  gone name p none = displays name
      ∙ (untouched name (tellings names versions lists) (after_tellings display (map cleared over)) (away_from_sources name none)
      ∙ emptied name p none)

  pub outside : (name : List ℕ) → is_part document name ≡ false → after_messages display told name ≡ display name
  outside name q = displays name
      ∙ (untouched name (tellings names versions lists) (after_tellings display (map cleared over))
      (away_from_sources name (none_among document name names part q))
      ∙ untouched name (map cleared over) display (away_from_over name (none_among document name over (left_part document shown names) q)))

  pub covered : Covers (showing document shown told) (after_messages display told)
  covered name none = go (is_part document name) refl where
    both : (is_among (others document shown) name || is_among (flat_map shown_by told) name) ≡ false
    both = sym (among_join (others document shown) (flat_map shown_by told) name) ∙ none

    silent : is_among (flat_map shown_in all) name ≡ false
    silent = ap (λ (ns : Shown). is_among ns name) (sym (all_shown told all same)) ∙ or_right (is_among (others document shown) name) _ both

    among_sources : is_among names name ≡ true → is_among (map document_of all) name ≡ true
    among_sources yes_here =
        ap (λ (ns : Shown). is_among ns name) (map-append document_of (map cleared over) (tellings names versions lists))
        ∙ (among_join (map document_of (map cleared over)) (map document_of (tellings names versions lists)) name
        ∙ or_of_right _ _ (ap (λ (ns : Shown). is_among ns name) (told_names names versions lists v l) ∙ yes_here))

    within : is_part document name ≡ true → (b : Bool) → is_among names name ≡ b → after_messages display told name ≡ []
    within p false e = gone name p e
    within p true e = ap (λ (d : Display). d name) (same_display told all display same)
        ∙ empties name all display (all_empty name all silent) (inr (among_sources e))

    go : (b : Bool) → is_part document name ≡ b → after_messages display told name ≡ []
    go true p = within p (is_among names name) refl
    go false q = outside name q
        ∙ covers name (not_kept (λ n. not (is_part document n)) name (ap not q) shown (or_left _ (is_among
        (flat_map shown_by told) name) both))

-- each source has a list
each_from : (encoding : Encoding) (count file : ℕ) (rs : List Refusal) (contents : Shown) (lists : List (Vec Diagnostic Global)) →
    AreToldFrom encoding count file rs contents lists → length lists ≡ length contents
each_from encoding count file rs [] [] are = refl
each_from encoding count file rs [] (ds ∷ lists) are = absurd are
each_from encoding count file rs (bytes ∷ contents) [] are = absurd are
each_from encoding count file rs (bytes ∷ contents) (ds ∷ lists) (is, are) =
    ap (λ (n : ℕ). suc n) (each_from encoding count (suc file) rs contents lists are)

each_told : (encoding : Encoding) (names contents : Shown) (lists : List (Vec Diagnostic Global)) →
    AreDiagnosed encoding names contents lists → length contents ≡ length names → length (lists_of lists) ≡ length names
each_told encoding names contents lists are same =
    length-map lists (λ (v : Vec Diagnostic Global). v.items)
    ∙ (each_from encoding (length contents) 0 are.refusals contents lists are.told ∙ same)

parts_of : (document : List ℕ) (members : List Member) → All (λ (m : Member). is_part document m.name ≡ true) members →
    ArePart document (map (λ (m : Member). m.name) members)
parts_of document [] a = tt
parts_of document (m ∷ ms) a = (
  All-head (λ (n : Member). is_part document n.name ≡ true) m ms a,
  parts_of document ms (All-tail (λ (n : Member). is_part document n.name ≡ true) m ms a),
)

pub nothing_stays : NothingStays
nothing_stays server shown document files told display are covers =
    let is = are.is_program in
    let names : Shown = are.program.names.items in
    let same : length are.program.versions.items ≡ length names =
    ap length is.versions ∙ (length-map is.members _ ∙ sym (ap length is.names ∙ length-map is.members _)) in
    let texts : length are.program.contents.items ≡ length names =
    ap length is.contents ∙ (length-map is.members _ ∙ sym (ap length is.names ∙ length-map is.members _)) in
    let each : length (lists_of are.lists) ≡ length names =
    each_told server.encoding names are.program.contents.items are.lists are.diagnosed texts in
    let part : ArePart document names =
    subst (λ (ns : Shown). ArePart document ns) (sym is.names)
    (parts_of document is.members (are_parts server.documents document files is.members is.are)) in
    record {
      gone = gone document shown names are.program.versions.items (lists_of are.lists) told display same each part covers are.tell;
      others = outside document shown names are.program.versions.items (lists_of are.lists) told display same each part covers are.tell;
      covered = covered document shown names are.program.versions.items (lists_of are.lists) told display same each part covers are.tell;
    }
