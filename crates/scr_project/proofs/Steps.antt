-- What the walk finds in a statement alone, and behind it.
use Rattle.std.proofs.Common.{◌≡◌, ℕ, ◌+◌, ◌-◌, ◌<◌, ◌≤◌, max, nat_le, length, get_or, drop, Bool, true, false, ◌&&◌, ◌||◌, not}
use Rattle.std.proofs.Common.{if◌then◌else◌, List, [], ◌∷◌, Option, Some, None, refl, sym, ap, ◌∙◌, arith}
use Rattle.std.specs.Option.{option_or}
use Rattle.std.specs.Prelude.{Result, Ok, Err, IfOk}
use Rattle.std.specs.Str.{bytes_eq}
use Rattle.std.proofs.lemmas.Grind.{common_steps}
use Rattle.mg_text.specs.Call.{Name}
use Rattle.mg_text.specs.Row.{Row}
use Rattle.mg_text.specs.declared.place.Place.{Place}
use Rattle.scr_tree.specs.declared.syntax.Payload.{Payload}
use Rattle.scr_tree.specs.declared.syntax.Statement.{Statement}
use Rattle.scr_tree.specs.Tree as local
use Rattle.scr_tree.specs.View.{statements as local_statements}
use Rattle.scr_tree.proofs.ViewLemmas as views
use Rattle.scr_global.specs.Tree.{Told, Statements, Nothing, Says, Choice, Rec, Continue, Branches, NoBranch, Branch, said, said_each}
use Rattle.scr_global.specs.Projecting.{both, mapped, is_named, are_named, is_nothing_to, is_closed, all_same, first_peer, tells_apart}
use Rattle.scr_global.specs.Texts.{spoken, spoken_each, behind, told_in, merged_text, projected, projected_each}
use Rattle.scr_global_tree.specs.declared.statement.GStatement.{GStatement}
use Rattle.scr_global_tree.specs.declared.statement.GStatement.TheVariants as kinds
use Rattle.scr_global_tree.specs.View.{front, statements, bodies, told}
use Rattle.scr_global_tree.proofs.Behind.{each_front, statements-step, statements-past, bodies-step, bodies-past}
use Rattle.scr_global_tree.proofs.ViewLemmas.{front-Message, front-Choice, front-Rec, front-Continue}
use Rattle.scr_project.specs.inner.Walk.{Found, FoundEach, far, reached, reached_in, unmerged, unmerged_in, found, found_each, nothing}
use Rattle.scr_project.specs.inner.Walk.{no_branch, followed, followed_each, as_branch, body_said, turned, chosen_says, chosen, passes}
use Rattle.scr_global_tree.proofs.Appends.{behind_nothing, beside}
use Rattle.scr_project.proofs.Behinds.{found_is, each_is, option_none, some_behind, followed_nothing, nothing_followed, followed_both}
use Rattle.scr_project.proofs.Behinds.{followed_none, none_followed, each_both}
use Rattle.scr_project.proofs.Closed.{rec_closed}

-- ---- small laws

or_three : (a b c : Bool) → (a || (b || c)) ≡ ((a || (b || false)) || c)
or_three true b c = refl
or_three false true c = refl
or_three false false c = refl

or_two : (a c : Bool) → (a || c) ≡ ((a || false) || c)
or_two true c = refl
or_two false c = refl

or_one : (a : Bool) → (a || false) ≡ a
or_one true = refl
or_one false = refl

max_two : (a c : ℕ) → max a c ≡ max (max a 0) c
max_two a c = omega arith

max_one : (a : ℕ) → max a 0 ≡ a
max_one a = omega arith

max_none : (c : ℕ) → c ≡ max 0 c
max_none c = omega arith

first_two : (a b c : Option Place) → option_or a (option_or b c) ≡ option_or (option_or a (option_or b None)) c
first_two None None c = refl
first_two None (Some b) c = refl
first_two (Some a) b c = refl

first_one : (b c : Option Place) → option_or b c ≡ option_or (option_or b None) c
first_one None c = refl
first_one (Some b) c = refl

-- ---- what is said

told_front : (b c : Bool) (m : Told) (o : Option local.Statements) → mapped (told_in b c m) o ≡ both some_behind
    (mapped (told_in b c m) (Some local.Nothing)) o
told_front b c m None = refl
told_front true c m (Some s) = refl
told_front false true m (Some s) = refl
told_front false false m (Some s) = refl

-- merging doesn't depend on what stands behind
merged_front : (me : Name) (place : Place) (bs : local.Branches) (r : local.Statements) → merged_text me place bs r ≡ both some_behind
    (merged_text me place bs local.Nothing) (Some r)
merged_front me place local.NoBranch r = refl
merged_front me place (local.Branch b more) r = go (all_same (spoken me b) (spoken_each me more))
    (tells_apart (first_peer (spoken me b)) (spoken_each me (local.Branch b more)))
  where
    go : (c d : Bool) →
        (if c then Some (behind b r) else (if d then Some (local.Choice place (first_peer (spoken me b)) (local.Branch b more) r) else
        None)) ≡
        both some_behind (if c then Some (behind b local.Nothing) else
        (if d then Some (local.Choice place (first_peer (spoken me b)) (local.Branch b more) local.Nothing) else None)) (Some r)
    go true d = ap (λ (z : local.Statements). Some (behind z r)) (sym (behind_nothing b))
    go false true = refl
    go false false = refl

both_none : {A B C : Type 0} (f : A → B → Option C) (o : Option A) → both f o None ≡ None
both_none f None = refl
both_none f (Some a) = refl

module _ (me : Name) where
  chosen_front : (place : Place) (at : Name) (b : Bool) (o : Option local.Branches) (q : Option local.Statements) →
      (if b then both (λ bs r. Some (local.Choice place at bs r)) o q else both (merged_text me place) o q) ≡
      both some_behind (if b then both (λ bs r. Some (local.Choice place at bs r)) o (Some local.Nothing) else both (merged_text me place) o
      (Some local.Nothing)) q
  chosen_front place at true None q = refl
  chosen_front place at true (Some bs) None = refl
  chosen_front place at true (Some bs) (Some r) = refl
  chosen_front place at false None q = refl
  chosen_front place at false (Some bs) None = sym (both_none some_behind (merged_text me place bs local.Nothing))
  chosen_front place at false (Some bs) (Some r) = merged_front me place bs r

  turned_front : (place : Place) (name : Name) (b : Bool) (o q : Option local.Statements) →
      (if b then q else both (λ b r. Some (local.Rec place name b r)) o q) ≡
      both some_behind (if b then Some local.Nothing else both (λ b r. Some (local.Rec place name b r)) o (Some local.Nothing)) q
  turned_front place name true o None = refl
  turned_front place name true o (Some r) = refl
  turned_front place name false None q = refl
  turned_front place name false (Some b) None = refl
  turned_front place name false (Some b) (Some r) = refl

  continued_front : (place : Place) (name : Name) (o : Option local.Statements) → mapped (local.Continue place name) o ≡ both some_behind
      (mapped (local.Continue place name) (Some local.Nothing)) o
  continued_front place name None = refl
  continued_front place name (Some s) = refl

  -- ---- a statement, and those behind it

  module _ (around : List Name) (rest : Statements) where
    abbrev Follows : (Statements → Statements) → Type 0
    Follows f = found me around (f rest) ≡ followed (found me around (f Nothing)) (found me around rest)

    pub found-front : (x : GStatement) → found me around (front x rest) ≡ followed (found me around (front x Nothing))
        (found me around rest)
    found-front x =
        each_front Follows
        (λ m. found_is (or_three (bytes_eq m.from me) (bytes_eq m.to me) (is_named me (said rest))) (max_none (reached around rest)) refl
        (told_front (bytes_eq m.from me) (bytes_eq m.to me) m (projected me rest)))
        (λ p at bs. found_is (or_two (are_named me (said_each bs)) (is_named me (said rest)))
        (max_two (reached_in around bs) (reached around rest)) (first_two _ (unmerged_in me bs) (unmerged me rest))
        (chosen_front p at (bytes_eq at me) (projected_each me bs) (projected me rest)))
        (λ p name body. found_is (or_two (is_named me (said body)) (is_named me (said rest)))
        (max_two (reached (name ∷ around) body - 1) (reached around rest)) (first_one (unmerged me body) (unmerged me rest))
        (turned_front p name (is_nothing_to me name (said body)) (projected me body) (projected me rest)))
        (λ p name. found_is refl (max_two (far name around) (reached around rest)) refl (continued_front p name (projected me rest))) x

  -- ---- messages of others

  passed_over : (b c : Bool) (m : Told) → not (b || c) ≡ true →
      record { named = b || (c || false); reach = 0; first = None; says = mapped (told_in b c m) (Some local.Nothing) } ≡ nothing
  passed_over true c m e = absurd (cc e)
  passed_over false true m e = absurd (cc e)
  passed_over false false m e = refl

  passed : (around : List Name) (x : GStatement) → passes me (front x Nothing) ≡ true → found me around (front x Nothing) ≡ nothing
  passed around x =
      each_front (λ f. passes me (f Nothing) ≡ true → found me around (f Nothing) ≡ nothing)
      (λ m e. passed_over (bytes_eq m.from me) (bytes_eq m.to me) m e)
      (λ p at bs e. absurd (cc e))
      (λ p name body e. absurd (cc e))
      (λ p name e. absurd (cc e)) x

  -- ---- turns of the loops

  module _ (around : List Name) where
    pub found_none : found me around (statements []) ≡ nothing
    found_none = refl

    module _ (ss : List GStatement) (i : ℕ) where
      pub found_past : (a : Found) → length ss ≤ i → followed a (found me around (statements (drop i ss))) ≡ a
      found_past a h = ap (λ (s : Statements). followed a (found me around s)) (statements-past ss i h) ∙ followed_nothing a

      pub found_later : (x : GStatement) → i < length ss → x ≡ get_or ss i x → (a b c : Found) → b ≡ found me around (front x Nothing) →
          c ≡ followed a b →
          followed a (found me around (statements (drop i ss))) ≡ followed c (found me around (statements (drop (i + 1) ss)))
      found_later x within is a b c e f =
          ap (λ (s : Statements). followed a (found me around s)) (statements-step ss i x within is)
          ∙ ap (followed a) (found-front around (statements (drop (i + 1) ss)) x)
          ∙ sym (followed_both a (found me around (front x Nothing)) (found me around (statements (drop (i + 1) ss))))
          ∙ ap (λ (z : Found). followed (followed a z) (found me around (statements (drop (i + 1) ss)))) (sym e)
          ∙ ap (λ (z : Found). followed z (found me around (statements (drop (i + 1) ss)))) (sym f)

      pub found_passed : (x : GStatement) → i < length ss → x ≡ get_or ss i x → passes me (front x Nothing) ≡ true → (a : Found) →
          followed a (found me around (statements (drop i ss))) ≡ followed a (found me around (statements (drop (i + 1) ss)))
      found_passed x within is e a =
          found_later x within is a (found me around (front x Nothing)) a refl
          (sym (ap (followed a) (passed around x e) ∙ followed_nothing a))

    module _ (bs : List (Row GStatement)) (i : ℕ) where
      pub each_past : (a : FoundEach) → length bs ≤ i → followed_each a (found_each me around (bodies (drop i bs))) ≡ a
      each_past a h = ap (λ (s : Branches). followed_each a (found_each me around s)) (bodies-past bs i h) ∙ followed_none a

      each-front : (b : Statements) (more : Branches) → found_each me around (Branch b more) ≡ followed_each (as_branch (found me around b))
          (found_each me around more)
      each-front b more = each_is refl refl refl (go (projected me b) (projected_each me more))
        where
          go : (o : Option local.Statements) (q : Option local.Branches) → both (λ b bs. Some (local.Branch b bs)) o q ≡
              both (λ s t. Some (beside s t)) (mapped (λ b. local.Branch b local.NoBranch) o) q
          go None q = refl
          go (Some s) None = refl
          go (Some s) (Some t) = refl

      pub each_later : (x : Row GStatement) → i < length bs → x ≡ get_or bs i x → (a : FoundEach) (b : Found) (c : FoundEach) →
          b ≡ found me around (statements x.items) → c ≡ followed_each a (as_branch b) →
          followed_each a (found_each me around (bodies (drop i bs))) ≡ followed_each c (found_each me around (bodies (drop (i + 1) bs)))
      each_later x within is a b c e f =
          ap (λ (s : Branches). followed_each a (found_each me around s)) (bodies-step bs i x within is)
          ∙ ap (followed_each a) (each-front (statements x.items) (bodies (drop (i + 1) bs)))
          ∙ sym (each_both a (as_branch (found me around (statements x.items))) (found_each me around (bodies (drop (i + 1) bs))))
          ∙ ap (λ (z : Found). followed_each (followed_each a (as_branch z)) (found_each me around (bodies (drop (i + 1) bs)))) (sym e)
          ∙ ap (λ (z : FoundEach). followed_each z (found_each me around (bodies (drop (i + 1) bs)))) (sym f)

    -- ---- a statement alone

    pub found-Message : (place : Place) (from to label : Name) (payload : Payload) →
        found me around (front (kinds.Message place from to label payload) Nothing) ≡
        record {
          named = bytes_eq from me || bytes_eq to me;
          reach = 0;
          first = None;
          says =
              Some (told_in (bytes_eq from me) (bytes_eq to me) (told place from to label payload) local.Nothing);
        }
    found-Message place from to label payload =
        ap (λ (f : Statements → Statements). found me around (f Nothing)) (front-Message place from to label payload)
        ∙ found_is (ap (λ (b : Bool). bytes_eq from me || b) (or_one (bytes_eq to me))) refl refl refl

    here_says : (place : Place) (at : Name) (b : Bool) (o : Option local.Branches) →
        (if b then both (λ bs r. Some (local.Choice place at bs r)) o (Some local.Nothing) else both (merged_text me place) o
        (Some local.Nothing)) ≡
        (if b then mapped (λ bs. local.Choice place at bs local.Nothing) o else both (merged_text me place) o (Some local.Nothing))
    here_says place at true None = refl
    here_says place at true (Some bs) = refl
    here_says place at false o = refl

    pub found-Choice : (place : Place) (at : Name) (bs : Row (Row GStatement)) → found me around (front (kinds.Choice place at bs) Nothing)
        ≡ chosen me place at (found_each me around (bodies bs.items))
    found-Choice place at bs =
        ap (λ (f : Statements → Statements). found me around (f Nothing)) (front-Choice place at bs)
        ∙ found_is (or_one (are_named me (said_each (bodies bs.items)))) (max_one (reached_in around (bodies bs.items)))
        (ap (option_or _) (option_none (unmerged_in me (bodies bs.items))))
        (here_says place at (bytes_eq at me) (projected_each me (bodies bs.items)))

    turns : (place : Place) (name : Name) (n c d : Bool) (o : Option local.Statements) → c ≡ d →
        (if not n && c then Some local.Nothing else both (λ b r. Some (local.Rec place name b r)) o (Some local.Nothing)) ≡
        (if not n && d then Some local.Nothing else mapped (λ b. local.Rec place name b local.Nothing) o)
    turns place name n c d o e = ap (λ (z : Bool). if not n && z then Some local.Nothing else both (λ b r. Some (local.Rec place name b r))
        o (Some local.Nothing)) e ∙ go (not n && d) o
      where
        go : (b : Bool) (o : Option local.Statements) →
            (if b then Some local.Nothing else both (λ b r. Some (local.Rec place name b r)) o (Some local.Nothing)) ≡
            (if b then Some local.Nothing else mapped (λ b. local.Rec place name b local.Nothing) o)
        go true o = refl
        go false None = refl
        go false (Some b) = refl

    pub found-Rec : (place : Place) (name : Name) (body : Row GStatement) → found me around (front (kinds.Rec place name body) Nothing) ≡
        turned place name (found me (name ∷ around) (statements body.items))
    found-Rec place name body =
        let b = statements body.items in
        ap (λ (f : Statements → Statements). found me around (f Nothing)) (front-Rec place name body)
        ∙ found_is (or_one (is_named me (said b))) (max_one (reached (name ∷ around) b - 1)) (option_none (unmerged me b))
        (turns place name (is_named me (said b)) (is_closed (name ∷ []) (said b)) (nat_le (reached (name ∷ around) b) 1) (projected me b)
        (rec_closed name around b))

    pub found-Continue : (place : Place) (name : Name) → found me around (front (kinds.Continue place name) Nothing) ≡
        record { named = false; reach = far name around; first = None; says = Some (local.Continue place name local.Nothing) }
    found-Continue place name =
        ap (λ (f : Statements → Statements). found me around (f Nothing)) (front-Continue place name)
        ∙ found_is refl (max_one (far name around)) refl refl

pub ruleset all_steps = (common_steps, found_later, found_past, nothing_followed)

pub ruleset passing = (common_steps, front-Message, front-Choice, front-Rec, front-Continue)

pub ruleset in_steps = (common_steps, each_later, each_past, none_followed)

pub ruleset alone = (common_steps, found-Message, found-Choice, found-Rec, found-Continue)

-- a statement alone, where it is handed on
pub one_says : {E : Type 0} (r : Result (Row Statement) E) (x : Statement) (s : local.Statements) → IfOk r (λ l. l.items ≡ x ∷ []) →
    local_statements (x ∷ []) ≡ s → IfOk r (λ l. local_statements l.items ≡ s)
one_says (Ok l) x s e f = ap local_statements e ∙ f
one_says (Err e) x s p f = tt

pub ruleset saying = (common_steps, one_says, views.front-Message, views.front-Choice, views.front-Rec, views.front-Continue)

pub ruleset choosing = (common_steps, views.front-Message, views.front-Choice, views.front-Rec, views.front-Continue)
