-- What plays a statement alone, and with those behind it; where it ends.
use Rattle.std.proofs.Common.{◌≡◌, ℕ, ◌+◌, ◌<◌, ◌≤◌, get_or, drop, length, map, Bool, true, false, List, [], ◌∷◌, ◌++◌, refl, sym, ap, ◌∙◌}
use Rattle.std.proofs.Common.{append_assoc, if◌then◌else◌, Some, None}
use Rattle.std.specs.Prelude.{◌&&◌, ◌||◌}
use Rattle.std.specs.Str.{bytes_eq}
use Rattle.std.proofs.lemmas.List.{append-nil, at_drop_more, at_drop_all, map_push}
use Rattle.std.proofs.lemmas.Grind.{common_steps}
use Rattle.mg_text.specs.Call.{Name}
use Rattle.mg_text.specs.Row.{Row}
use Rattle.mg_text.specs.declared.place.Place.{Place}
use Rattle.scr_tree.specs.declared.syntax.Message.{Message}
use Rattle.scr_tree.specs.declared.syntax.Part.{Part}
use Rattle.scr_tree.specs.declared.syntax.Statement.{Statement}
use Rattle.scr_tree.specs.declared.syntax.Statement.TheVariants as kinds
use Rattle.scr_tree.specs.Tree.{Statements, Nothing, Branches, other}
use Rattle.scr_tree.specs.Control.{falls, some_falls}
use Rattle.scr_tree.specs.View.{front, statements, bodies, part_of}
use Rattle.scr_tree.specs.Meaning.{message_of}
use Rattle.scr_tree.proofs.ViewLemmas.{front-Message, front-Choice, front-Rec, front-Continue, front-Do}
use Rattle.scr_tree.proofs.Behind.{each_front, statements-step, statements-past, bodies-step, bodies-past}
use Rattle.jv_tree.specs.Source.{Stmt, Eval, Return, Continue}
use Rattle.jv_tree.specs.View.{OneGroup, stmt_kind_of}
use Rattle.jv_tree.specs.declared.tree.StmtKind.TheVariants as S
use Rattle.jv_tree.proofs.ViewLaws.{kind-Continue, kind-Return}
use Rattle.stm_client.specs.declared.points.End.{End}
use Rattle.stm_client.specs.declared.points.Numbers.{Numbers}
use Rattle.stm_client.specs.Counting.{opened, behind, behind_in}
use Rattle.stm_client.specs.Client.{Making, Loop, plays, block, blocks, group, groups, passing, own_choice, other_choice, looping, ended}
use Rattle.stm_client.specs.Client.{with_loop, label_for, label_in, part_call, part_method, part_methods}
use Rattle.stm_client.specs.View.{end_of, end_of_branches, past, either}

-- ---- truth values

and-true : (b : Bool) → (b && true) ≡ b
and-true true = refl
and-true false = refl

and-assoc : (a b c : Bool) → ((a && b) && c) ≡ (a && (b && c))
and-assoc true b c = refl
and-assoc false b c = refl

or-false : (b : Bool) → (b || false) ≡ b
or-false true = refl
or-false false = refl

or-assoc : (a b c : Bool) → ((a || b) || c) ≡ (a || (b || c))
or-assoc true b c = refl
or-assoc false b c = refl

-- ---- lists to which something was appended

module _ {A B : Type 0} (f : A → B) where
  pub pushed : (old new : List A) (x : A) (y : B) → new ≡ old ++ x ∷ [] → f x ≡ y → map f new ≡ map f old ++ y ∷ []
  pushed old new x y e so = ap (map f) e ∙ map_push f old x ∙ ap (λ z. map f old ++ z ∷ []) so

  pub from-nothing : (old : List A) (all more : List B) → old ≡ [] → all ≡ map f old ++ more → all ≡ more
  from-nothing old all more none e = e ∙ ap (λ l. map f l ++ more) none

behind-nil : (l more : List Stmt) → l ++ more ≡ (l ++ []) ++ more
behind-nil l more = ap (λ x. x ++ more) (sym (append-nil l))

-- ---- the end of a statement, and of those behind it

falls-front : (s : Statement) (rest : Statements) → falls (front s rest) ≡ (falls (front s Nothing) && falls rest)
falls-front s rest =
    each_front (λ f. falls (f rest) ≡ (falls (f Nothing) && falls rest)) (λ m. refl)
    (λ p by bs. ap (λ b. b && falls rest) (sym (and-true (some_falls bs))))
    (λ p name body. ap (λ b. b && falls rest) (sym (and-true (falls body)))) (λ p name. refl) (λ p name. refl) s

behind-front : (me : Name) (at : Numbers) (s : Statement) (rest : Statements) →
    behind me at (front s rest) ≡ behind me (behind me at (front s Nothing)) rest
behind-front me at s rest = each_front (λ f. behind me at (f rest) ≡ behind me (behind me at (f Nothing)) rest) (λ m. refl)
    (λ p by bs. refl) (λ p name body. refl) (λ p name. refl) (λ p name. refl) s

end-front : (me : Name) (e : End) (s : Statement) (rest : Statements) →
    past e (end_of me e.numbers (front s rest))
    ≡ past (past e (end_of me e.numbers (front s Nothing))) (end_of me (behind me e.numbers (front s Nothing)) rest)
end-front me e s rest = λ k. record {
  numbers = behind-front me e.numbers s rest k;
  falls = (ap (λ b. e.falls && b) (falls-front s rest) ∙ sym (and-assoc e.falls (falls (front s Nothing)) (falls rest))) k;
}

-- before the first statement
pub end-first : (me : Name) (at : Numbers) (body : Statements) →
    end_of me at body ≡ past (record { numbers = at; falls = true }) (end_of me at body)
end-first me at body = refl

pub end-past : (me : Name) (e : End) (ss : List Statement) (i : ℕ) → length ss ≤ i →
    past e (end_of me e.numbers (statements (drop i ss))) ≡ e
end-past me e ss i h =
    ap (λ r. past e (end_of me e.numbers r)) (statements-past ss i h)
    ∙ (λ k. record { numbers = e.numbers; falls = and-true e.falls k })

-- before the first branch
pub either-first : (me : Name) (at : Numbers) (branches : Branches) →
    end_of_branches me at branches ≡ either (record { numbers = at; falls = false }) (end_of_branches me at branches)
either-first me at branches = refl

pub either-past : (me : Name) (e : End) (bs : List (Row Statement)) (i : ℕ) → length bs ≤ i →
    either e (end_of_branches me e.numbers (bodies (drop i bs))) ≡ e
either-past me e bs i h =
    ap (λ r. either e (end_of_branches me e.numbers r)) (bodies-past bs i h)
    ∙ (λ k. record { numbers = e.numbers; falls = or-false e.falls k })

-- ---- where a statement alone ends

module _ (me : Name) (at : Numbers) where
  pub end-Message : (m : Message) → end_of me at (front (kinds.Message m) Nothing) ≡ record { numbers = at; falls = true }
  end-Message m = ap (λ f. end_of me at (f Nothing)) (front-Message m)

  pub end-Choice : (p : _) (by : Name) (bs : Row (Row Statement)) (own : Bool) → bytes_eq by me ≡ own →
      end_of me at (front (kinds.Choice p by bs) Nothing) ≡ end_of_branches me (opened own at) (bodies bs.items)
  end-Choice p by bs own e = ap (λ f. end_of me at (f Nothing)) (front-Choice p by bs)
      ∙ (λ k. record { numbers = behind_in me (opened (e k) at) (bodies bs.items); falls = and-true (some_falls (bodies bs.items)) k })

  pub end-Rec : (p : _) (name : Name) (body : Row Statement) →
      end_of me at (front (kinds.Rec p name body) Nothing) ≡ end_of me at (statements body.items)
  end-Rec p name body = ap (λ f. end_of me at (f Nothing)) (front-Rec p name body)
      ∙ (λ k. record { numbers = behind me at (statements body.items); falls = and-true (falls (statements body.items)) k })

  pub end-Continue : (p : _) (name : Name) → end_of me at (front (kinds.Continue p name) Nothing) ≡ record { numbers = at; falls = false }
  end-Continue p name = ap (λ f. end_of me at (f Nothing)) (front-Continue p name)

  pub end-Do : (p : _) (name : Name) → end_of me at (front (kinds.Do p name) Nothing) ≡ record { numbers = at; falls = false }
  end-Do p name = ap (λ f. end_of me at (f Nothing)) (front-Do p name)

-- ---- what plays a statement alone, and with those behind it

module _ (w : Making) (loops : List Loop) (at : Numbers) where
  plays-front : (s : Statement) (rest : Statements) → plays w loops at (front s rest) ≡ plays w loops at (front s Nothing)
      ++ plays w loops (behind w.me at (front s Nothing)) rest
  plays-front s rest =
      each_front (λ f. plays w loops at (f rest) ≡ plays w loops at (f Nothing) ++ plays w loops (behind w.me at (f Nothing)) rest)
      (λ m. refl) (λ p by bs. behind-nil (if bytes_eq by w.me then own_choice w.place at.own (blocks w loops (opened true at) bs)
      else (other_choice w at.there bs (groups w loops (opened false at) bs) ∷ []))
      (plays w loops (behind_in w.me (opened (bytes_eq by w.me) at) bs) rest)) (λ p name body. refl) (λ p name. refl) (λ p name. refl) s

  pub plays-Message : (m : Message) → plays w loops at (front (kinds.Message m) Nothing) ≡ passing w.place (message_of m) ∷ []
  plays-Message m = ap (λ f. plays w loops at (f Nothing)) (front-Message m)

  pub plays-own : (p : _) (by : Name) (bs : Row (Row Statement)) → bytes_eq by w.me ≡ true →
      plays w loops at (front (kinds.Choice p by bs) Nothing) ≡ own_choice w.place at.own (blocks w loops (opened true at) (bodies bs.items))
  plays-own p by bs e =
      ap (λ f. plays w loops at (f Nothing)) (front-Choice p by bs)
      ∙ ap (λ b. (if b then own_choice w.place at.own (blocks w loops (opened true at) (bodies bs.items))
      else (other_choice w at.there (bodies bs.items) (groups w loops (opened false at) (bodies bs.items)) ∷ [])) ++ []) e
      ∙ append-nil _

  pub plays-other : (p : _) (by : Name) (bs : Row (Row Statement)) → bytes_eq by w.me ≡ false →
      plays w loops at (front (kinds.Choice p by bs) Nothing)
      ≡ other_choice w at.there (bodies bs.items) (groups w loops (opened false at) (bodies bs.items)) ∷ []
  plays-other p by bs e =
      ap (λ f. plays w loops at (f Nothing)) (front-Choice p by bs)
      ∙ ap (λ b. (if b then own_choice w.place at.own (blocks w loops (opened true at) (bodies bs.items))
      else (other_choice w at.there (bodies bs.items) (groups w loops (opened false at) (bodies bs.items)) ∷ [])) ++ []) e

  pub plays-Rec : (p : _) (name : Name) (body : Row Statement) → plays w loops at (front (kinds.Rec p name body) Nothing)
      ≡ looping w.place (label_for loops name) (plays w (with_loop loops name) at (statements body.items)
      ++ ended w.place (Some (label_for loops name)) (falls (statements body.items))) ∷ []
  plays-Rec p name body = ap (λ f. plays w loops at (f Nothing)) (front-Rec p name body)

  pub plays-Continue : (p : _) (name : Name) → plays w loops at (front (kinds.Continue p name) Nothing)
      ≡ Continue w.place (Some (label_in loops name)) ∷ []
  plays-Continue p name = ap (λ f. plays w loops at (f Nothing)) (front-Continue p name)

  pub plays-Do : (p : _) (name : Name) → plays w loops at (front (kinds.Do p name) Nothing)
      ≡ Eval w.place (part_call w name) ∷ Return w.place None ∷ []
  plays-Do p name = ap (λ f. plays w loops at (f Nothing)) (front-Do p name)

-- ---- what was appended plays the statement

module _ (w : Making) (loops : List Loop) (at : Numbers) (s : Statement) (old new : List Stmt) where
  pub chosen_there : (p : Place) (by : Name) (bs : Row (Row Statement)) (me : Name) (branches : List (Row Statement)) →
      s ≡ kinds.Choice p by bs → me ≡ w.me → bytes_eq by me ≡ false → branches ≡ bs.items →
      new ≡ old ++ other_choice w at.there (bodies branches) (groups w loops (opened false at) (bodies branches)) ∷ [] →
      new ≡ old ++ plays w loops at (front s Nothing)
  chosen_there p by bs me branches is mine there here put =
      put ∙ ap (λ l. old ++ other_choice w at.there (bodies l) (groups w loops (opened false at) (bodies l)) ∷ []) here
      ∙ ap (λ l. old ++ l) (sym (plays-other w loops at p by bs (ap (bytes_eq by) (sym mine) ∙ there)))
      ∙ ap (λ z. old ++ plays w loops at (front z Nothing)) (sym is)

  pub continued : (p : Place) (name label : Name) → s ≡ kinds.Continue p name → label ≡ label_in loops name →
      new ≡ old ++ stmt_kind_of (S.Continue (Some label)) w.place ∷ [] → new ≡ old ++ plays w loops at (front s Nothing)
  continued p name label is named put =
      put ∙ ap (λ x. old ++ x ∷ []) (kind-Continue (Some label) w.place ∙ ap (λ n. Continue w.place (Some n)) named)
      ∙ ap (λ l. old ++ l) (sym (plays-Continue w loops at p name)) ∙ ap (λ z. old ++ plays w loops at (front z Nothing)) (sym is)

  pub gone_on : (p : Place) (name : Name) (between : List Stmt) → s ≡ kinds.Do p name →
      between ≡ old ++ Eval w.place (part_call w name) ∷ [] → new ≡ between ++ stmt_kind_of (S.Return None) w.place ∷ [] →
      new ≡ old ++ plays w loops at (front s Nothing)
  gone_on p name between is called put =
      put ∙ (λ k. called k ++ kind-Return None w.place k ∷ [])
      ∙ append_assoc old (Eval w.place (part_call w name) ∷ []) (Return w.place None ∷ [])
      ∙ ap (λ l. old ++ l) (sym (plays-Do w loops at p name)) ∙ ap (λ z. old ++ plays w loops at (front z Nothing)) (sym is)

-- ---- the statement at an index: so far the end is e, the statement ends so, and with it the end is new

module _ (e last new : End) (ss : List Statement) (i : ℕ) (x : Statement) (within : i < length ss) (is : x ≡ get_or ss i x)
    (added : new ≡ past e last) where
  pub end-step : (me : Name) → last ≡ end_of me e.numbers (front x Nothing) →
      past e (end_of me e.numbers (statements (drop i ss))) ≡ past new (end_of me new.numbers (statements (drop (i + 1) ss)))
  end-step me so =
      ap (λ r. past e (end_of me e.numbers r)) (statements-step ss i x within is)
      ∙ end-front me e x (statements (drop (i + 1) ss))
      ∙ ap (λ (n : End). past n (end_of me n.numbers (statements (drop (i + 1) ss)))) (sym (added ∙ ap (past e) so))

  pub plays-step : (w : Making) (loops : List Loop) (old out : List Stmt) → last ≡ end_of w.me e.numbers (front x Nothing) →
      out ≡ old ++ plays w loops e.numbers (front x Nothing) →
      old ++ plays w loops e.numbers (statements (drop i ss)) ≡ out ++ plays w loops new.numbers (statements (drop (i + 1) ss))
  plays-step w loops old out so put =
      let n : new.numbers ≡ behind w.me e.numbers (front x Nothing) = ap (λ (z : End). z.numbers) (added ∙ ap (past e) so) in
      ap (λ l. old ++ l) (ap (plays w loops e.numbers) (statements-step ss i x within is)
      ∙ plays-front w loops e.numbers x (statements (drop (i + 1) ss)))
      ∙ sym (append_assoc old (plays w loops e.numbers (front x Nothing)) _)
      ∙ (λ k. sym put k ++ plays w loops (sym n k) (statements (drop (i + 1) ss)))

-- ---- and the branch at an index

module _ (e last new : End) (bs : List (Row Statement)) (i : ℕ) (x : Row Statement) (within : i < length bs) (is : x ≡ get_or bs i x)
    (added : new ≡ either e last) where
  pub either-step : (me : Name) → last ≡ end_of me e.numbers (statements x.items) →
      either e (end_of_branches me e.numbers (bodies (drop i bs))) ≡ either new
      (end_of_branches me new.numbers (bodies (drop (i + 1) bs)))
  either-step me so =
      let rest : Branches = bodies (drop (i + 1) bs) in
      ap (λ r. either e (end_of_branches me e.numbers r)) (bodies-step bs i x within is)
      ∙ (λ k. record {
        numbers = behind_in me (behind me e.numbers (statements x.items)) rest;
        falls = sym (or-assoc e.falls (falls (statements x.items)) (some_falls rest)) k;
      })
      ∙ ap (λ (n : End). either n (end_of_branches me n.numbers rest)) (sym (added ∙ ap (either e) so))

  module _ (w : Making) (loops : List Loop) (body : List Stmt) (so : last ≡ end_of w.me e.numbers (statements x.items))
      (made : body ≡ plays w loops e.numbers (statements x.items)) where
    numbers-new : new.numbers ≡ behind w.me e.numbers (statements x.items)
    numbers-new = ap (λ (z : End). z.numbers) (added ∙ ap (either e) so)

    pub blocks-step : (old out : List Stmt) → out ≡ old ++ block w.place body ∷ [] →
        old ++ blocks w loops e.numbers (bodies (drop i bs)) ≡ out ++ blocks w loops new.numbers (bodies (drop (i + 1) bs))
    blocks-step old out put =
        ap (λ r. old ++ blocks w loops e.numbers r) (bodies-step bs i x within is)
        ∙ sym (append_assoc old (block w.place (plays w loops e.numbers (statements x.items)) ∷ []) _)
        ∙ (λ k. sym (put ∙ ap (λ b. old ++ block w.place b ∷ []) made) k
        ++ blocks w loops (sym numbers-new k) (bodies (drop (i + 1) bs)))

    pub groups-step : (old out : List OneGroup) → out ≡ old ++ group w.place (statements x.items)
        (body ++ ended w.place None last.falls) ∷ [] →
        old ++ groups w loops e.numbers (bodies (drop i bs)) ≡ out ++ groups w loops new.numbers (bodies (drop (i + 1) bs))
    groups-step old out put =
        let b : Statements = statements x.items in
        ap (λ r. old ++ groups w loops e.numbers r) (bodies-step bs i x within is)
        ∙ sym (append_assoc old (group w.place b (plays w loops e.numbers b ++ ended w.place None (falls b)) ∷ []) _)
        ∙ (λ k. sym (put ∙ (λ j. old ++ group w.place b (made j ++ ended w.place None (so j).falls) ∷ [])) k
        ++ groups w loops (sym numbers-new k) (bodies (drop (i + 1) bs)))

-- the protocol at an index, and those behind it
pub part-step : (w : Making) (at : Numbers) (ps : List Part) (i : ℕ) (x : Part) → i < length ps → x ≡ get_or ps i x →
    part_methods w at (map other (map part_of (drop i ps)))
    ≡ part_method w x.name (plays w [] at (statements x.body.items))
    ∷ part_methods w (behind w.me at (statements x.body.items)) (map other (map part_of (drop (i + 1) ps)))
part-step w at ps i x within is =
    at_drop_more (λ qs. part_methods w at (map other (map part_of qs))) ps i x within
    ∙ ap (λ (y : Part). part_method w y.name (plays w [] at (statements y.body.items))
    ∷ part_methods w (behind w.me at (statements y.body.items)) (map other (map part_of (drop (i + 1) ps)))) (sym is)

pub part-past : (w : Making) (at : Numbers) (ps : List Part) (i : ℕ) → length ps ≤ i →
    part_methods w at (map other (map part_of (drop i ps))) ≡ []
part-past w at ps i h = at_drop_all (λ qs. part_methods w at (map other (map part_of qs))) ps i h

pub ruleset part_steps = (common_steps, part-step, part-past, append_assoc, append-nil)

pub ruleset all_steps = (common_steps, end-first, end-past, statements-past, append_assoc, append-nil)

pub ruleset alone = (
  common_steps,
  end-Message,
  plays-Message,
  end-Choice,
  plays-own,
  plays-other,
  end-Rec,
  plays-Rec,
  end-Continue,
  plays-Continue,
  end-Do,
  plays-Do,
  append_assoc,
  append-nil,
)

pub ruleset branch_steps = (common_steps, either-first, either-past, bodies-past, append_assoc, append-nil)
