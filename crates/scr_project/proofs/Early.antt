-- What is left for a role meets the conditions that the global protocol meets for all.
use Rattle.std.proofs.Common.{◌≡◌, ◌≢◌, ◌⊎◌, ℕ, Bool, false, ◌||◌, List, [], ◌∷◌, ◌++◌, map, Option, Some, None, refl, sym, ap, subst, ◌∙◌}
use Rattle.std.proofs.Common.{⊎_elim, inl, inr}
use Rattle.std.specs.Prelude.{Contains}
use Rattle.std.specs.List.{flat_map}
use Rattle.mg_text.specs.Call.{Name}
use Rattle.mg_read.specs.Culprit.{Culprit, culprit}
use Rattle.mg_read.specs.First.{Judged, clean, here, later, FirstOf, none, this, next, Clean, with_earlier, behind}
use Rattle.mg_read.proofs.Judging.{clean-judged, no_both, judged-map}
use Rattle.scr_tree.specs.declared.condition.Condition.{Condition}
use Rattle.scr_tree.specs.declared.condition.Condition.TheVariants as conditions
use Rattle.scr_tree.specs.declared.written.Role.{Role}
use Rattle.scr_tree.specs.Conditions.{UnknownRole, PeerIsSelf, UnknownRec, DuplicateRec}
use Rattle.scr_tree.specs.Faults.{Of, by_number, IsFault}
use Rattle.scr_tree.specs.Going.{UnknownProtocol, DuplicateProtocol, RolesDiffer, told_in, NotLast, held, held_in, all_held}
use Rattle.scr_tree.specs.Going.{is_some_statement}
use Rattle.scr_tree.specs.Listing.{Entry, declares, lists, DuplicateName, entries, Mention, itself, within, mentions_in, mentions}
use Rattle.scr_tree.specs.Listing.{UnknownRole as UnknownMention}
use Rattle.scr_tree.specs.Spots.{Spot, spot, Past, Opens, Enters, Way, spots, branch_spots, all_spots, spots_of}
use Rattle.scr_tree.specs.Tree.{LocalTree, Statements, Nothing, Says, Choice, Rec, Continue, Do, Branches, NoBranch, Branch}
use Rattle.scr_tree.specs.Valid.{AreDistinct, AreWritten, AreWrittenIn, IsWritten, depth}
use Rattle.scr_tree.specs.Written.{WrittenPart, WrittenTree, parts_in, role_name, roles_in, me_in, name_in, body_of}
use Rattle.scr_read.specs.Parts.{listed, parts}
use Rattle.scr_read.proofs.Moved.{meant}
use Rattle.scr_global.proofs.Names.{first_or_later, none_contained, first_in, later_in}
use Rattle.scr_project.specs.Outcome.{open_conditions, IsOpenFault}
use Rattle.scr_project.proofs.Kept.{Keeps, KeepEach}

clean_append : {X C : Type 0} (At : X → C → Type 0) (xs ys : List X) → Clean At xs → Clean At ys → Clean At (xs ++ ys)
clean_append At [] ys h k = k
clean_append At (x ∷ xs) ys h k = (h.0, clean_append At xs ys h.1 k)

-- ---- the statements

pub record AreOnWay (names : List Name) (way : Way) : Type 0 where
  pub names_of : (name : Name) → Contains way (Opens name) → Contains names name
  pub opens_of : (name : Name) → Contains names name → Contains way (Opens name)

pub none_on_way : AreOnWay [] []
none_on_way = record { names_of = λ name c. absurd (none_contained (Opens name) c); opens_of = λ name c. absurd (none_contained name c) }

module _ {names : List Name} {way : Way} (a : AreOnWay names way) where
  past_way : (s : Statements) → AreOnWay names (Past s ∷ way)
  past_way s = record {
    names_of = λ name c. ⊎_elim (λ (e : Past s ≡ Opens name). cc e) (λ d. a.names_of name d) (first_or_later (Past s) way (Opens name) c);
    opens_of = λ name c. later_in (Past s) way (Opens name) (a.opens_of name c);
  }

  enters_way : (at : Name) (earlier : List Statements) → AreOnWay names (Enters at earlier ∷ way)
  enters_way at earlier = record {
    names_of = λ name c. ⊎_elim (λ (e : Enters at earlier ≡ Opens name). cc e) (λ d. a.names_of name d)
        (first_or_later (Enters at earlier) way (Opens name) c);
    opens_of = λ name c. later_in (Enters at earlier) way (Opens name) (a.opens_of name c);
  }

  opens_way : (other : Name) → AreOnWay (other ∷ names) (Opens other ∷ way)
  opens_way other = record {
    names_of = λ name c. ⊎_elim (λ (e : Opens other ≡ Opens name). let f : other ≡ name = cc e in first_in other names name f)
        (λ d. later_in other names name (a.names_of name d))
        (first_or_later (Opens other) way (Opens name) c);
    opens_of = λ name c. ⊎_elim (λ (e : other ≡ name). let f : Opens other ≡ Opens name = cc e in first_in (Opens other) way (Opens name) f)
        (λ d. later_in (Opens other) way (Opens name) (a.opens_of name d)) (first_or_later other names name c);
  }

module _ (roles : List Name) (me : Name) where
  -- none of the four conditions on roles and recs is at fault
  pub record AllClean (xs : List Spot) : Type 0 where
    pub listed : Clean (UnknownRole roles) xs
    pub apart : Clean (PeerIsSelf me) xs
    pub known : Clean UnknownRec xs
    pub differ : Clean DuplicateRec xs

  with_more : (xs ys : List Spot) → AllClean xs → AllClean ys → AllClean (xs ++ ys)
  with_more xs ys h k = record {
    listed = clean_append (UnknownRole roles) xs ys h.listed k.listed;
    apart = clean_append (PeerIsSelf me) xs ys h.apart k.apart;
    known = clean_append UnknownRec xs ys h.known k.known;
    differ = clean_append DuplicateRec xs ys h.differ k.differ;
  }

  with_one : (s : Spot) (xs : List Spot) → ((c : Culprit) → UnknownRole roles s c → ⊥) → ((c : Culprit) → PeerIsSelf me s c → ⊥) →
      ((c : Culprit) → UnknownRec s c → ⊥) →
      ((c : Culprit) → DuplicateRec s c → ⊥) → AllClean xs → AllClean (s ∷ xs)
  with_one s xs u p k d h = record { listed = (u, h.listed); apart = (p, h.apart); known = (k, h.known); differ = (d, h.differ) }

  mutual
    pub all_clean : (names : List Name) (way : Way) (s : Statements) → AreOnWay names way → Keeps roles me names s → AllClean (spots way s)
    all_clean names way Nothing a h = record { listed = tt; apart = tt; known = tt; differ = tt }
    all_clean names way (Says m rest) a h =
        with_one _ _ (λ c x. x.1 h.2) (λ c x. h.3 x.1) (λ c x. x) (λ c x. x) (all_clean names _ rest (past_way a (Says m Nothing)) h.4)
    all_clean names way (Choice place at branches rest) a h =
        with_one _ _ (λ c x. x.1 h.1) (λ c x. x) (λ c x. x) (λ c x. x)
        (with_more _ _ (each_clean names way at [] branches a h.3)
        (all_clean names _ rest (past_way a (Choice place at branches Nothing)) h.4))
    all_clean names way (Rec place name body rest) a h =
        with_one _ _ (λ c x. x) (λ c x. x) (λ c x. x) (λ c x. h.1 (a.names_of name x.1))
        (with_more _ _ (all_clean (name ∷ names) _ body (opens_way a name) h.2)
        (all_clean names _ rest (past_way a (Rec place name body Nothing)) h.3))
    all_clean names way (Continue place name rest) a h =
        with_one _ _ (λ c x. x) (λ c x. x) (λ c x. x.1 (a.opens_of name h.1)) (λ c x. x)
        (all_clean names _ rest (past_way a (Continue place name Nothing)) h.2)
    all_clean names way (Do place name rest) a h = absurd h

    each_clean : (names : List Name) (way : Way) (at : Name) (earlier : List Statements) (bs : Branches) → AreOnWay names way →
        KeepEach roles me names bs → AllClean (branch_spots way at earlier bs)
    each_clean names way at earlier NoBranch a h = record { listed = tt; apart = tt; known = tt; differ = tt }
    each_clean names way at earlier (Branch b more) a h = with_more _ _ (all_clean names _ b (enters_way a at earlier) h.0)
        (each_clean names way at (b ∷ earlier) more a h.1)

  mutual
    pub are_written : (names : List Name) (s : Statements) → Keeps roles me names s → AreWritten s
    are_written names Nothing h = tt
    are_written names (Says m rest) h = (h.0, h.1, are_written names rest h.4)
    are_written names (Choice place at branches rest) h = (h.0, h.2, each_written names branches h.3, are_written names rest h.4)
    are_written names (Rec place name body rest) h = (h.0, are_written (name ∷ names) body h.2, are_written names rest h.3)
    are_written names (Continue place name rest) h = (h.0, are_written names rest h.2)
    are_written names (Do place name rest) h = absurd h

    each_written : (names : List Name) (bs : Branches) → KeepEach roles me names bs → AreWrittenIn bs
    each_written names NoBranch h = tt
    each_written names (Branch b more) h = (are_written names b h.0, each_written names more h.1)

  -- nothing goes on as another protocol
  mutual
    pub none_unknown : (protocols names : List Name) (way : Way) (s : Statements) → Keeps roles me names s →
        Clean (UnknownProtocol protocols) (spots way s)
    none_unknown protocols names way Nothing h = tt
    none_unknown protocols names way (Says m rest) h = ((λ c x. x), none_unknown protocols names _ rest h.4)
    none_unknown protocols names way (Choice place at branches rest) h = (
      (λ c x. x),
      clean_append (UnknownProtocol protocols) (branch_spots way at [] branches) _
          (each_unknown protocols names way at [] branches h.3) (none_unknown protocols names _ rest h.4),
    )
    none_unknown protocols names way (Rec place name body rest) h = (
      (λ c x. x),
      clean_append (UnknownProtocol protocols) (spots (Opens name ∷ way) body) _
          (none_unknown protocols (name ∷ names) _ body h.2) (none_unknown protocols names _ rest h.3),
    )
    none_unknown protocols names way (Continue place name rest) h = ((λ c x. x), none_unknown protocols names _ rest h.2)
    none_unknown protocols names way (Do place name rest) h = absurd h

    each_unknown : (protocols names : List Name) (way : Way) (at : Name) (earlier : List Statements) (bs : Branches) →
        KeepEach roles me names bs →
        Clean (UnknownProtocol protocols) (branch_spots way at earlier bs)
    each_unknown protocols names way at earlier NoBranch h = tt
    each_unknown protocols names way at earlier (Branch b more) h =
        clean_append (UnknownProtocol protocols) (spots (Enters at earlier ∷ way) b) _ (none_unknown protocols names _ b h.0)
        (each_unknown protocols names way at (b ∷ earlier) more h.1)

  mutual
    pub none_held : (names : List Name) (followed : Bool) (s : Statements) → Keeps roles me names s → Clean NotLast (held followed s)
    none_held names followed Nothing h = tt
    none_held names followed (Says m rest) h = none_held names followed rest h.4
    none_held names followed (Choice place at branches rest) h =
        clean_append NotLast (held_in (followed || is_some_statement rest) branches) _
        (each_held names (followed || is_some_statement rest) branches h.3) (none_held names followed rest h.4)
    none_held names followed (Rec place name body rest) h =
        clean_append NotLast (held (followed || is_some_statement rest) body) _
        (none_held (name ∷ names) (followed || is_some_statement rest) body h.2) (none_held names followed rest h.3)
    none_held names followed (Continue place name rest) h = none_held names followed rest h.2
    none_held names followed (Do place name rest) h = absurd h

    each_held : (names : List Name) (followed : Bool) (bs : Branches) → KeepEach roles me names bs → Clean NotLast (held_in followed bs)
    each_held names followed NoBranch h = tt
    each_held names followed (Branch b more) h = clean_append NotLast (held followed b) _ (none_held names followed b h.0)
        (each_held names followed more h.1)

-- ---- roles that differ

in_push : (xs : List Entry) (y x : Entry) → Contains (xs ++ y ∷ []) x → Contains xs x ⊎ (y ≡ x)
in_push [] y x c = ⊎_elim (λ e. inr e) (λ k. absurd (none_contained x k)) (first_or_later y [] x c)
in_push (z ∷ xs) y x c = ⊎_elim (λ e. inl (first_in z xs x e)) (λ k. ⊎_elim (λ l. inl (later_in z xs x l)) (λ e. inr e) (in_push xs y x k))
    (first_or_later z (xs ++ y ∷ []) x c)

module _ (file : ℕ) where
  twice : (seen : List Entry) (before : List Name) (names : List Name) → ((r : Role) → Contains seen (lists r) → Contains before r.name) →
      ((name : Name) → Contains names name → Contains before name → ⊥) →
      AreDistinct names → Clean DuplicateName (behind seen (map lists (map (listed file) names)))
  twice seen before [] from apart d = tt
  twice seen before (name ∷ names) from apart d = (
    (λ c x. apart name (first_in name names name refl) (subst (Contains before) x.3 (from x.1 x.2))),
    twice (seen ++ lists (listed file name) ∷ []) (name ∷ before) names grown
        (λ other c k. ⊎_elim (λ (e : name ≡ other). d.0 (subst (Contains names) (sym e) c))
        (λ l. apart other (later_in name names other c) l) (first_or_later name before other k)) d.1,
  )
    where
      grown : (r : Role) → Contains (seen ++ lists (listed file name) ∷ []) (lists r) → Contains (name ∷ before) r.name
      grown r c = ⊎_elim (λ k. later_in name before r.name (from r k))
          (λ (e : lists (listed file name) ≡ lists r). let f : listed file name ≡ r = cc e in first_in name before r.name
          (ap (λ (q : Role). q.name) f))
          (in_push seen (lists (listed file name)) (lists r) c)

pub roles_clean : (file : ℕ) (names : List Name) → AreDistinct names →
    Clean DuplicateName (with_earlier (map lists (map (listed file) names)))
roles_clean file names d = twice file [] [] names (λ r c. absurd (none_contained (lists r) c)) (λ name c k. none_contained name k) d

-- ---- the conditions that needn't be asked

mentions_clean : (roles : List Name) (xs : List Spot) → Clean (UnknownRole roles) xs → Clean (UnknownMention roles) (map within xs)
mentions_clean roles [] h = tt
mentions_clean roles (x ∷ xs) h = (h.0, mentions_clean roles xs h.1)

-- of one protocol alone
alone_clean : {X C : Type 0} (At : X → C → Type 0) (xs : List X) → Clean At xs → Clean At (xs ++ [])
alone_clean At xs h = clean_append At xs [] h tt

paired_clean : {P X C : Type 0} (At : P → X → C → Type 0) (p : P) (xs : List X) → Clean (At p) xs →
    Clean (λ (q : P × X). At q.0 q.1) (map (λ x. (p, x)) xs)
paired_clean At p [] h = tt
paired_clean At p (x ∷ xs) h = (h.0, paired_clean At p xs h.1)

-- a condition that has no culprit is left out
left_out : {K C : Type 0} {Of : K → Option C → Type 0} {k : K} {ks : List K} {r : Option (K × C)} → ((c : C) → Of k (Some c) → ⊥) →
    FirstOf Of (k ∷ ks) r → FirstOf Of ks r
left_out {K} {C} {Of} {k} {ks} never p = go _ _ p refl
  where
    go : (ls : List K) (r : Option (K × C)) → FirstOf Of ls r → ls ≡ k ∷ ks → FirstOf Of ks r
    go ls r none e = let no : ⊥ = cc in absurd no
    go ls r (this {k = j} {c = c} a) e = let same : j ≡ k = cc in absurd (never c (subst (λ z. Of z (Some c)) same a))
    go ls r (next {ks = js} n q) e = let rest : js ≡ ks = cc in subst (λ zs. FirstOf Of zs r) rest q

never : {X C : Type 0} {At : X → C → Type 0} (xs : List X) → Clean At xs → (c : C) → Judged At xs (Some c) → ⊥
never xs h c j = no_both (clean-judged xs h) j

nothing_first : {K C : Type 0} {Of : K → Option C → Type 0} {ls : List K} {r : Option (K × C)} → FirstOf Of ls r → ls ≡ [] → r ≡ None
nothing_first none e = refl
nothing_first (this a) e = let no : ⊥ = cc in absurd no
nothing_first (next n q) e = let no : ⊥ = cc in absurd no

module _ {K C : Type 0} (Of : K → Option C → Type 0) (late : List K) where
  -- the conditions behind some have no culprit
  cut_off : ((r : Option (K × C)) → FirstOf Of late r → r ≡ None) → (ks : List K) (r : Option (K × C)) → FirstOf Of (ks ++ late) r →
      FirstOf Of ks r
  cut_off never [] r p = subst (FirstOf Of []) (sym (never r p)) none
  cut_off never (k ∷ ks) r p = go _ _ p refl (λ q f. cut_off never ks q f)
    where
      go : (ls : List K) (q : Option (K × C)) → FirstOf Of ls q → ls ≡ k ∷ (ks ++ late) → ((q : Option (K × C)) → FirstOf Of (ks ++ late) q
          → FirstOf Of ks q) → FirstOf Of (k ∷ ks) q
      go ls q none e again = let no : ⊥ = cc in absurd no
      go ls q (this {k = j} {c = c} a) e again =
          let same : j ≡ k = cc in subst (λ (z : K). FirstOf Of (k ∷ ks) (Some (z, c))) (sym same)
          (this (subst (λ z. Of z (Some c)) same a))
      go ls q (next {k = j} {ks = js} m more) e again =
          let same : j ≡ k = cc in let rest : js ≡ ks ++ late = cc in
          next (subst (λ z. Of z None) same m) (again q (subst (λ zs. FirstOf Of zs q) rest more))

  put_on : FirstOf Of late None → (ks : List K) (r : Option (K × C)) → FirstOf Of ks r → FirstOf Of (ks ++ late) r
  put_on never [] r p = subst (FirstOf Of late) (sym (nothing_first p refl)) never
  put_on never (k ∷ ks) r p = go _ _ p refl (λ q f. put_on never ks q f)
    where
      go : (ls : List K) (q : Option (K × C)) → FirstOf Of ls q → ls ≡ k ∷ ks →
          ((q : Option (K × C)) → FirstOf Of ks q → FirstOf Of (ks ++ late) q) → FirstOf Of (k ∷ (ks ++ late)) q
      go ls q none e again = let no : ⊥ = cc in absurd no
      go ls q (this {k = j} {c = c} a) e again =
          let same : j ≡ k = cc in subst (λ (z : K). FirstOf Of (k ∷ (ks ++ late)) (Some (z, c))) (sym same)
          (this (subst (λ z. Of z (Some c)) same a))
      go ls q (next {k = j} {ks = js} m more) e again =
          let same : j ≡ k = cc in let rest : js ≡ ks = cc in
          next (subst (λ z. Of z None) same m) (again q (subst (λ zs. FirstOf Of zs q) rest more))

pub record AreEarlyClean (t : LocalTree) : Type 0 where
  pub differ : AreDistinct t.roles
  pub me_listed : Contains t.roles t.me
  pub body : AllClean t.roles t.me (spots [] t.body)
  -- nothing goes on as another protocol, and there is none
  pub undone : (protocols : List Name) → Clean (UnknownProtocol protocols) (spots [] t.body)
  pub unheld : Clean NotLast (held false t.body)
  pub alone : t.others ≡ []

-- the conditions on protocols that go on as others
abbrev late_conditions : List Condition
late_conditions = conditions.UnknownProtocol ∷ conditions.DuplicateProtocol ∷ conditions.RolesDiffer ∷ conditions.NotLast ∷
    conditions.StartsWithDo ∷ []

module _ (t : LocalTree) (h : AreEarlyClean t) where
  abbrev first : WrittenPart
  first = (parts t).first

  duplicates : Clean DuplicateName (entries (parts t))
  duplicates = alone_clean DuplicateName (with_earlier (map lists (map (listed t.file) t.roles))) (roles_clean t.file t.roles h.differ)

  mentioned : Clean (λ (q : WrittenPart × Mention). UnknownMention (roles_in q.0) q.1) (mentions (parts t))
  mentioned =
      alone_clean (λ (q : WrittenPart × Mention). UnknownMention (roles_in q.0) q.1) (map (λ x. (first, x)) (mentions_in first))
      (paired_clean (λ (p : WrittenPart) (m : Mention) (c : Culprit). UnknownMention (roles_in p) m c) first (mentions_in first)
      (subst (λ (roles : List Name). Clean (UnknownMention roles) (mentions_in first))
      (sym (ap (λ (u : LocalTree). u.roles) (meant t h.alone)))
      ((λ c x. x.1 h.me_listed), mentions_clean t.roles (spots [] t.body) h.body.listed)))

  apart : Clean (λ (q : WrittenPart × Spot). PeerIsSelf (me_in q.0) q.1) (spots_of body_of (parts_in (parts t)))
  apart =
      alone_clean (λ (q : WrittenPart × Spot). PeerIsSelf (me_in q.0) q.1) (map (λ x. (first, x)) (spots [] t.body))
      (paired_clean (λ (p : WrittenPart) (s : Spot) (c : Culprit). PeerIsSelf (me_in p) s c) first (spots [] t.body) h.body.apart)

  known : Clean UnknownRec (all_spots (map body_of (parts_in (parts t))))
  known = alone_clean UnknownRec (spots [] t.body) h.body.known

  once : Clean DuplicateRec (all_spots (map body_of (parts_in (parts t))))
  once = alone_clean DuplicateRec (spots [] t.body) h.body.differ

  unknown : Clean (UnknownProtocol (map name_in (parts_in (parts t)))) (all_spots (map body_of (parts_in (parts t))))
  unknown = alone_clean (UnknownProtocol (map name_in (parts_in (parts t)))) (spots [] t.body) (h.undone (map name_in (parts_in (parts t))))

  named : Clean DuplicateProtocol (with_earlier (parts_in (parts t)))
  named = ((λ c x. none_contained t.name x.1), tt)

  told : Clean (RolesDiffer first) (flat_map told_in (parts_in (parts t)))
  told = ((λ c x. ⊎_elim (λ n. n refl) (λ n. n refl) x.1), tt)

  last : Clean NotLast (all_held (map body_of (parts_in (parts t))))
  last = alone_clean NotLast (held false t.body) h.unheld

  late_clean : FirstOf (Of (parts t)) late_conditions None
  late_clean = next (clean-judged _ unknown)
      (next (clean-judged _ named) (next (clean-judged _ told) (next (clean-judged _ last) (next clean none))))

  late_none : (r : Option (Condition × Culprit)) → FirstOf (Of (parts t)) late_conditions r → r ≡ None
  late_none r f =
      nothing_first
      (left_out {k = conditions.StartsWithDo} (never [] tt)
      (left_out {k = conditions.NotLast} (never (all_held (map body_of (parts_in (parts t)))) last)
      (left_out {k = conditions.RolesDiffer} (never (flat_map told_in (parts_in (parts t))) told)
      (left_out {k = conditions.DuplicateProtocol} (never (with_earlier (parts_in (parts t))) named)
      (left_out {k = conditions.UnknownProtocol} (never (all_spots (map body_of (parts_in (parts t)))) unknown) f))))) refl

  -- what all conditions answer is what those answer that are asked
  pub open_only : (r : Option (Condition × Culprit)) → IsFault (parts t) r → IsOpenFault t r
  open_only r f =
      cut_off (Of (parts t)) late_conditions late_none open_conditions r
      (left_out {k = conditions.DuplicateRec} (never (all_spots (map body_of (parts_in (parts t)))) once)
      (left_out {k = conditions.UnknownRec} (never (all_spots (map body_of (parts_in (parts t)))) known)
      (left_out {k = conditions.PayloadCount} (never [] tt)
      (left_out {k = conditions.UnknownType} (never [] tt)
      (left_out {k = conditions.PeerIsSelf} (never (spots_of body_of (parts_in (parts t))) apart)
      (left_out {k = conditions.UnknownRole} (never (mentions (parts t)) mentioned)
      (left_out {k = conditions.DuplicateName} (never (entries (parts t)) duplicates) f)))))))

  pub all_of_them : (r : Option (Condition × Culprit)) → IsOpenFault t r → IsFault (parts t) r
  all_of_them r f =
      next (clean-judged _ duplicates) (next (clean-judged (mentions (parts t)) mentioned)
      (next (clean-judged _ apart) (next clean (next clean
      (next (clean-judged _ known) (next (clean-judged _ once) (put_on (Of (parts t)) late_conditions late_clean open_conditions r f)))))))
