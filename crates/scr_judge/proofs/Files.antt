-- What a file answers, from what its protocols answer one after another.
use Rattle.std.proofs.Common.{◌≡◌, ◌↔◌, ◌⊎◌, ⊎_elim, inl, inr, ℕ, Bool, true, false, ◌&&◌, IsTrue, List, [], ◌∷◌, ◌++◌, map, Contains}
use Rattle.std.proofs.Common.{Option, Some, None, refl, sym, ap, ap₂, subst, ◌∙◌, true≢false, append_assoc}
use Rattle.std.specs.List.{flat_map}
use Rattle.std.specs.Option.{option_or}
use Rattle.std.specs.Str.{bytes_eq}
use Rattle.std.proofs.lemmas.List.{map-append}
use Rattle.std.proofs.lemmas.Slice.Eq.{bytes_eq-Decides}
use Rattle.mg_text.specs.Call.{Name}
use Rattle.mg_read.specs.Culprit.{Culprit, culprit}
use Rattle.mg_read.specs.First.{Judged, clean, later, with_earlier}
use Rattle.mg_read.proofs.Judging.{judged-append, judged-found}
use Rattle.scr_tree.specs.Actions.{actions, all_actions, next}
use Rattle.scr_tree.specs.Going.{UnknownProtocol, DuplicateProtocol, heads, gives, told_in, RolesDiffer, NotLast, all_held}
use Rattle.scr_tree.specs.Listing.{declares, lists, listed, entries, DuplicateName, UnknownType, PayloadCount, declared, carried_by, typed}
use Rattle.scr_tree.specs.Listing.{all_carries}
use Rattle.scr_tree.specs.Spots.{spot, all_spots, Way}
use Rattle.scr_tree.specs.Tree.{Statements, Nothing, Says, Choice, Rec, Continue, Do}
use Rattle.scr_tree.specs.View.{statements}
use Rattle.scr_tree.specs.Written.{WrittenPart, part_written, parts_in, written_of, carries_of, arguments_of, me_in, name_in, body_of}
use Rattle.scr_tree.specs.declared.written.Arguments.{Arguments as Given}
use Rattle.scr_tree.specs.declared.written.Carries.{Carries as Kept}
use Rattle.scr_tree.specs.declared.written.Declaration.{Declaration}
use Rattle.scr_tree.specs.declared.written.Role.{Role}
use Rattle.scr_tree.specs.declared.syntax.Statement.{Statement}
use Rattle.scr_tree.specs.declared.written.Written.{Written}
use Rattle.scr_tree.specs.declared.written.WrittenPart.{WrittenPart as Part}
use Rattle.scr_judge.specs.declared.actions.Action.{Action as CodeAction}
use Rattle.scr_judge.specs.inner.Gone.{part_name, with_names, unknown_in, named_again, same_names, names_of_roles, same_header}
use Rattle.scr_judge.specs.inner.Gone.{arguments_differ, roles_differ, not_last_in_part}
use Rattle.scr_judge.specs.inner.Listed.{ListedTwice, alias_of, first_among, unsupported, undeclared_in, undeclared_by, many, many_by}
use Rattle.scr_judge.specs.inner.OnSpot.{asks_protocol, unknown_protocol, unless}
use Rattle.scr_judge.specs.inner.Own as own
use Rattle.scr_judge.specs.inner.Own.{FirstIn, all_parts}
use Rattle.scr_judge.specs.inner.Seen.{Names, none, with_name}
use Rattle.scr_judge.specs.inner.View.{act}
use Rattle.scr_judge.proofs.Asking.{unless_right}
use Rattle.scr_judge.proofs.Duplicates.{HasNames, has_none}
use Rattle.scr_judge.proofs.Earlier.{listed_alone}
use Rattle.scr_judge.proofs.Lasting.{last_exact}
use Rattle.scr_judge.proofs.Members.{Contains-nil}
use Rattle.scr_judge.proofs.Naming.{one_more, has_all, again_exact}
use Rattle.scr_judge.proofs.SpotWalk.{Answers, AsksRight, first_asked}
use Rattle.scr_judge.proofs.Tables.{row, unknown_type, payload_count}

-- ---- the first answer of a list

or_assoc : {C : Type 0} (a b d : Option C) → option_or (option_or a b) d ≡ option_or a (option_or b d)
or_assoc None b d = refl
or_assoc (Some c) b d = refl

module _ {C : Type 0} (o r : Option C) where
  pub or_here : (c : C) → o ≡ Some c → Some c ≡ option_or o r
  or_here c e = sym (ap (λ x. option_or x r) e)

  pub or_behind : (s : Option C) → o ≡ None → s ≡ r → s ≡ option_or o r
  or_behind s n e = e ∙ sym (ap (λ x. option_or x r) n)

module _ {X C : Type 0} (f : X → Option C) where
  among_append : (xs ys : List X) → first_among f (xs ++ ys) ≡ option_or (first_among f xs) (first_among f ys)
  among_append [] ys = refl
  among_append (x ∷ xs) ys = ap (option_or (f x)) (among_append xs ys) ∙ sym (or_assoc (f x) (first_among f xs) (first_among f ys))

-- ---- roles that are listed twice

pub listed_judged : {ps : List Part} {r : Option Culprit} → FirstIn (λ (p : Part). Judged ListedTwice (with_earlier p.roles.items)) ps r →
    Judged DuplicateName (listed (map part_written ps)) r
listed_judged own.none = clean
listed_judged (own.here {p = p} {ps = ps} a) = judged-found (listed (map part_written ps)) (listed_alone p.roles.items a)
listed_judged (own.later {p = p} a more) = judged-append (listed_alone p.roles.items a) (listed_judged more)

module _ (w : Written) (ds : List Declaration) (rs : List Role) (o : Option Culprit) (types : ds ≡ w.types.items)
    (roles : rs ≡ w.first.roles.items)
    (j : Judged DuplicateName (with_earlier (map declares ds ++ map lists rs)) o) where
  front : Judged DuplicateName (with_earlier (map declares w.types.items ++ map lists w.first.roles.items)) o
  front = subst (λ (xs : List Role). Judged DuplicateName (with_earlier (map declares w.types.items ++ map lists xs)) o) roles
      (subst (λ (xs : List Declaration). Judged DuplicateName (with_earlier (map declares xs ++ map lists rs)) o) types j)

  pub duplicate_here : (c : Culprit) → o ≡ Some c → Judged DuplicateName (entries (written_of 0 w)) (Some c)
  duplicate_here c e =
      judged-found (listed (map part_written w.others.items))
      (subst (Judged DuplicateName (with_earlier (map declares w.types.items ++ map lists w.first.roles.items))) e front)

  pub duplicate_behind : (ps : List Part) (r : Option Culprit) → o ≡ None → ps ≡ w.others.items →
      FirstIn (λ (p : Part). Judged ListedTwice (with_earlier p.roles.items)) ps r →
      Judged DuplicateName (entries (written_of 0 w)) r
  duplicate_behind ps r e same f =
      judged-append (subst (Judged DuplicateName (with_earlier (map declares w.types.items ++ map lists w.first.roles.items))) e front)
      (listed_judged (subst (λ (qs : List Part). FirstIn (λ (p : Part). Judged ListedTwice (with_earlier p.roles.items)) qs r) same f))

-- ---- what messages carry

module _ (f : Kept → Option Culprit) where
  among_kept : (ps : List Part) → first_among f (flat_map (λ (p : Part). p.carries.items) ps)
      ≡ first_among (λ (p : Part). first_among f p.carries.items) ps
  among_kept [] = refl
  among_kept (p ∷ ps) =
      among_append f p.carries.items (flat_map (λ (q : Part). q.carries.items) ps) ∙ ap (option_or (first_among f p.carries.items))
      (among_kept ps)

carries_kept : (ps : List Part) → flat_map (λ (p : WrittenPart). p.carries) (map part_written ps) ≡ map carries_of
    (flat_map (λ (p : Part). p.carries.items) ps)
carries_kept [] = refl
carries_kept (p ∷ ps) =
    ap (λ l. map carries_of p.carries.items ++ l) (carries_kept ps) ∙
    sym (map-append carries_of p.carries.items (flat_map (λ (q : Part). q.carries.items) ps))

pub file_unknown : (w : Written) (ds : List Declaration) (aliases : Names) → ds ≡ w.types.items →
    ((q : Name) → IsTrue (aliases q) ↔ Contains (map alias_of ds) q) →
    None ≡ first_among unsupported ds → (r : Option Culprit) → r ≡ first_among (undeclared_by aliases) (all_parts w) →
    Judged (UnknownType w.types.items) (typed (written_of 0 w)) r
file_unknown w ds aliases types h fine r e =
    subst (λ xs. Judged (UnknownType w.types.items) (map declared w.types.items ++ flat_map carried_by xs) r)
    (sym (carries_kept (all_parts w)))
    (subst (λ (xs : List Declaration). Judged (UnknownType xs)
    (map declared xs ++ flat_map carried_by (map carries_of (flat_map (λ (p : Part). p.carries.items) (all_parts w)))) r) types
    (unknown_type ds (flat_map (λ (p : Part). p.carries.items) (all_parts w)) aliases h r fine
    (e ∙ sym (among_kept (undeclared_in aliases) (all_parts w)))))

-- a declaration is at fault
pub file_unsupported : (w : Written) (ds : List Declaration) (c : Culprit) → ds ≡ w.types.items → Judged (UnknownType ds) (map declared ds)
    (Some c) →
    Judged (UnknownType w.types.items) (typed (written_of 0 w)) (Some c)
file_unsupported w ds c types j =
    judged-found (flat_map carried_by (all_carries (written_of 0 w)))
    (subst (λ (xs : List Declaration). Judged (UnknownType xs) (map declared xs) (Some c)) types j)

pub file_many : (w : Written) (r : Option Culprit) → r ≡ first_among many_by (all_parts w) →
    Judged PayloadCount (all_carries (written_of 0 w)) r
file_many w r e =
    subst (λ xs. Judged PayloadCount xs r) (sym (carries_kept (all_parts w)))
    (subst (Judged PayloadCount (map carries_of (flat_map (λ (p : Part). p.carries.items) (all_parts w))))
    (sym (e ∙ sym (among_kept many (all_parts w))))
    (payload_count (flat_map (λ (p : Part). p.carries.items) (all_parts w))))

-- ---- protocols by their names

protocol_answers : (names : List Name) (has : Names) → HasNames has names → (way : Way) (ss : Statements) →
    Answers (UnknownProtocol names (spot way ss)) (unknown_protocol has ss)
protocol_answers names has h way Nothing = λ c x. x
protocol_answers names has h way (Says m rest) = λ c x. x
protocol_answers names has h way (Choice p at bs rest) = λ c x. x
protocol_answers names has h way (Rec p name body rest) = λ c x. x
protocol_answers names has h way (Continue p name rest) = λ c x. x
protocol_answers names has h way (Do p name rest) = unless_right (Contains names name) (has name) (culprit p name) (h.each name).0
    (h.each name).1

protocol_right : (names : List Name) (has : Names) → HasNames has names → AsksRight (UnknownProtocol names) (asks_protocol has)
protocol_right names has h = record { asks = λ around way ss a. protocol_answers names has h way ss }

names_told : (ps : List Part) → map part_name ps ≡ map name_in (map part_written ps)
names_told [] = refl
names_told (p ∷ ps) = ap (λ (l : List Name). p.name ∷ l) (names_told ps)

file_names : (w : Written) (has : Names) → has ≡ with_names (map part_name (all_parts w)) none →
    HasNames has (map name_in (parts_in (written_of 0 w)))
file_names w has e =
    subst (λ h. HasNames h (map name_in (parts_in (written_of 0 w)))) (sym e)
    (subst (HasNames (with_names (map part_name (all_parts w)) none)) (names_told (all_parts w))
    (has_all none [] (map part_name (all_parts w)) (has_none none refl)))

unknown_all : (names : List Name) (has : Names) → HasNames has names → (ps : List Part) →
    Judged (UnknownProtocol names) (all_spots (map body_of (map part_written ps))) (first_among (unknown_in has) ps)
unknown_all names has h [] = clean
unknown_all names has h (p ∷ ps) =
    judged-append (first_asked (UnknownProtocol names) (asks_protocol has) (protocol_right names has h) (statements p.body.items) _ refl)
    (unknown_all names has h ps)

pub file_going : (w : Written) (has : Names) → has ≡ with_names (map part_name (all_parts w)) none → (r : Option Culprit) →
    r ≡ first_among (unknown_in has) (all_parts w) →
    Judged (UnknownProtocol (map name_in (parts_in (written_of 0 w)))) (all_spots (map body_of (parts_in (written_of 0 w)))) r
file_going w has e r f =
    subst (Judged (UnknownProtocol (map name_in (parts_in (written_of 0 w)))) (all_spots (map body_of (parts_in (written_of 0 w))))) (sym f)
    (unknown_all (map name_in (parts_in (written_of 0 w))) has (file_names w has e) (all_parts w))

pub file_again : (w : Written) (has : Names) → has ≡ with_name w.first.name none → (r : Option Culprit) → r ≡ named_again has w.others.items
    →
    Judged DuplicateProtocol (with_earlier (parts_in (written_of 0 w))) r
file_again w has e r f =
    later (λ c x. Contains-nil w.first.name x.1)
    (subst (Judged DuplicateProtocol _) (sym f)
    (again_exact (part_written w.first ∷ []) has w.others.items (subst (λ h. HasNames h (w.first.name ∷ [])) (sym e)
    (one_more none [] w.first.name (has_none none refl)))))

-- ---- roles

both_of : (a b : Bool) → (a && b) ≡ true → (a ≡ true) × (b ≡ true)
both_of true b e = (refl, e)
both_of false b e = absurd (true≢false (sym e))

both_so : (a b : Bool) → a ≡ true → b ≡ true → (a && b) ≡ true
both_so a b e f = ap (λ x. x && b) e ∙ f

names_to : (xs ys : List Name) → same_names xs ys ≡ true → xs ≡ ys
names_to [] [] e = refl
names_to [] (y ∷ ys) e = absurd (true≢false (sym e))
names_to (x ∷ xs) [] e = absurd (true≢false (sym e))
names_to (x ∷ xs) (y ∷ ys) e =
    let h = both_of (bytes_eq x y) (same_names xs ys) e in
    let first : x ≡ y = (bytes_eq-Decides x y).0 h.0 in
    let rest : xs ≡ ys = names_to xs ys h.1 in
    λ i. first i ∷ rest i

names_from : (xs : List Name) → same_names xs xs ≡ true
names_from [] = refl
names_from (x ∷ xs) = both_so (bytes_eq x x) (same_names xs xs) ((bytes_eq-Decides x x).1 refl) (names_from xs)

names_same : (xs ys : List Name) → xs ≡ ys → same_names xs ys ≡ true
names_same xs ys e = subst (λ l. same_names xs l ≡ true) e (names_from xs)

-- a test of two facts
differ : (A B : Type 0) (a b : Bool) (k : Culprit) → (a ≡ true → A) → (A → a ≡ true) → (b ≡ true → B) → (B → b ≡ true) →
    Answers (λ c. (c ≡ k) × ((A → ⊥) ⊎ (B → ⊥))) (unless (a && b) k)
differ A B true true k at af bt bf = λ c x. ⊎_elim (λ n. n (at refl)) (λ n. n (bt refl)) x.1
differ A B true false k at af bt bf = (refl, inr (λ h. true≢false (sym (bf h))))
differ A B false b k at af bt bf = (refl, inl (λ h. true≢false (sym (af h))))

module _ (first : Part) where
  abbrev wanted : List Name
  wanted = names_of_roles first

  header_row : (p : Part) → Answers (RolesDiffer (part_written first) (heads (part_written p)))
      (unless (same_header first p) (culprit p.place p.name))
  header_row p =
      differ (names_of_roles p ≡ wanted) (p.me.name ≡ first.me.name) (same_names (names_of_roles p) wanted)
      (bytes_eq p.me.name first.me.name) (culprit p.place p.name)
      (names_to (names_of_roles p) wanted) (names_same (names_of_roles p) wanted) (bytes_eq-Decides p.me.name first.me.name).0
      (bytes_eq-Decides p.me.name first.me.name).1

  given_row : (a : Given) → Answers (RolesDiffer (part_written first) (gives (arguments_of a))) (arguments_differ first a)
  given_row a = unless_right (a.roles.items ≡ wanted) (same_names a.roles.items wanted) (culprit a.place a.name)
      (names_to a.roles.items wanted) (names_same a.roles.items wanted)

  given_rows : (xs : List Given) → Judged (RolesDiffer (part_written first)) (map gives (map arguments_of xs))
      (first_among (arguments_differ first) xs)
  given_rows [] = clean
  given_rows (a ∷ xs) = row (RolesDiffer (part_written first)) (gives (arguments_of a)) _ (arguments_differ first a) _ (given_row a)
      (given_rows xs)

  told_part : (p : Part) → Judged (RolesDiffer (part_written first)) (told_in (part_written p)) (roles_differ first p)
  told_part p = row (RolesDiffer (part_written first)) (heads (part_written p)) _ (unless (same_header first p) (culprit p.place p.name)) _
      (header_row p) (given_rows p.arguments.items)

  told_all : (ps : List Part) → Judged (RolesDiffer (part_written first)) (flat_map told_in (map part_written ps))
      (first_among (roles_differ first) ps)
  told_all [] = clean
  told_all (p ∷ ps) = judged-append (told_part p) (told_all ps)

pub file_roles : (w : Written) (r : Option Culprit) → r ≡ first_among (roles_differ w.first) (all_parts w) →
    Judged (RolesDiffer (part_written w.first)) (flat_map told_in (parts_in (written_of 0 w))) r
file_roles w r e = subst (Judged (RolesDiffer (part_written w.first)) (flat_map told_in (parts_in (written_of 0 w)))) (sym e)
    (told_all w.first (all_parts w))

-- ---- what stands behind

held_all : (ps : List Part) → Judged NotLast (all_held (map body_of (map part_written ps))) (first_among not_last_in_part ps)
held_all [] = clean
held_all (p ∷ ps) = judged-append (last_exact false (statements p.body.items)) (held_all ps)

pub file_last : (w : Written) (r : Option Culprit) → r ≡ first_among not_last_in_part (all_parts w) →
    Judged NotLast (all_held (map body_of (parts_in (written_of 0 w)))) r
file_last w r e = subst (Judged NotLast (all_held (map body_of (parts_in (written_of 0 w))))) (sym e) (held_all (all_parts w))

-- ---- clashes

module _ (w : Written) (ss : List Statement) (ps : List Part) (front behind old : List CodeAction) (n : ℕ) where
  pub all_texts : ss ≡ w.first.body.items → ps ≡ w.others.items → map act front ≡ map act old ++ actions w.first.me.name 1 (statements ss) →
      n ≡ next w.first.me.name 1 (statements ss) → map act behind ≡ map act front ++ all_actions me_in body_of n (map part_written ps) →
      map act behind ≡ map act old ++ all_actions me_in body_of 1 (parts_in (written_of 0 w))
  all_texts body others first number rest =
      rest ∙ ap (λ l. l ++ all_actions me_in body_of n (map part_written ps)) first
      ∙ append_assoc (map act old) (actions w.first.me.name 1 (statements ss)) (all_actions me_in body_of n (map part_written ps))
      ∙ ap (λ k. map act old ++ (actions w.first.me.name 1 (statements ss) ++ all_actions me_in body_of k (map part_written ps))) number
      ∙ ap₂ (λ b o. map act old ++ (actions w.first.me.name 1 (statements b)
      ++ all_actions me_in body_of (next w.first.me.name 1 (statements b)) (map part_written o))) body others
