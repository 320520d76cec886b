-- The lines of a statement alone, and behind it.
use Rattle.std.proofs.Common.{◌≡◌, ℕ, ◌+◌, ◌<◌, ◌≤◌, get_or, drop, length, List, [], ◌∷◌, ◌++◌, map, refl, sym, ap, ◌∙◌, append_assoc}
use Rattle.std.proofs.Common.{codes}
use Rattle.std.proofs.lemmas.List.{append-nil, at_drop_more, at_drop_all}
use Rattle.std.proofs.lemmas.Grind.{common_steps}
use Rattle.mg_text.specs.Call.{Name}
use Rattle.mg_text.specs.Row.{Row}
use Rattle.mg_text.specs.declared.place.Place.{Place}
use Rattle.scr_tree.specs.declared.syntax.Message.{Message}
use Rattle.scr_tree.specs.declared.syntax.Statement.{Statement}
use Rattle.scr_tree.specs.declared.syntax.Statement.TheVariants as kinds
use Rattle.scr_tree.specs.declared.syntax.Part.{Part}
use Rattle.scr_tree.specs.Tree.{Statements, Nothing, other}
use Rattle.scr_tree.specs.View.{front, statements, bodies, part_of}
use Rattle.scr_tree.proofs.ViewLemmas.{front-Message, front-Choice, front-Rec, front-Continue, front-Do}
use Rattle.scr_tree.proofs.Behind.{each_front, statements-step, statements-past, bodies-step, bodies-past}
use Rattle.scr_read.specs.Layout.{indent, message_text, do_text, argument_list, part_text, part_texts, block, lines, branch_lines}
use Rattle.scr_read.specs.Layout.{role_list}

-- the end of a line, taken into the brackets
two : (a n r : List ℕ) → a ++ (n ++ r) ≡ (a ++ n) ++ r
two a n r = sym (append_assoc a n r)

three : (a b n r : List ℕ) → a ++ (b ++ (n ++ r)) ≡ (a ++ (b ++ n)) ++ r
three a b n r = ap (λ x. a ++ x) (two b n r) ∙ two a (b ++ n) r

four : (a b c n r : List ℕ) → a ++ (b ++ (c ++ (n ++ r))) ≡ (a ++ (b ++ (c ++ n))) ++ r
four a b c n r = ap (λ x. a ++ x) (three b c n r) ∙ two a (b ++ (c ++ n)) r

five : (a b c d n r : List ℕ) → a ++ (b ++ (c ++ (d ++ (n ++ r)))) ≡ (a ++ (b ++ (c ++ (d ++ n)))) ++ r
five a b c d n r = ap (λ x. a ++ x) (four b c d n r) ∙ two a (b ++ (c ++ (d ++ n))) r

six : (a b c d e n r : List ℕ) → a ++ (b ++ (c ++ (d ++ (e ++ (n ++ r))))) ≡ (a ++ (b ++ (c ++ (d ++ (e ++ n))))) ++ r
six a b c d e n r = ap (λ x. a ++ x) (five b c d e n r) ∙ two a (b ++ (c ++ (d ++ (e ++ n)))) r

module _ (roles : List Name) (level : ℕ) where
  pub lines-front : (s : Statement) (rest : Statements) → lines roles level (front s rest) ≡ lines roles level (front s Nothing)
      ++ lines roles level rest
  lines-front s rest =
      each_front (λ f. lines roles level (f rest) ≡ lines roles level (f Nothing) ++ lines roles level rest)
      (λ m. three (indent level) (message_text m) (codes "\n") (lines roles level rest))
      (λ p at bs. six (indent level) (codes "choice at ") at (codes " ") (branch_lines roles [] level bs) (codes "\n")
      (lines roles level rest))
      (λ p name body. six (indent level) (codes "rec ") name (codes " ") (block roles level body) (codes "\n") (lines roles level rest))
      (λ p name. four (indent level) (codes "continue ") name (codes ";\n") (lines roles level rest))
      (λ p name. three (indent level) (do_text roles name) (codes "\n") (lines roles level rest)) s

  pub lines-step : (ss : List Statement) (i : ℕ) (x : Statement) → i < length ss → x ≡ get_or ss i x →
      lines roles level (statements (drop i ss)) ≡ lines roles level (front x Nothing) ++ lines roles level (statements (drop (i + 1) ss))
  lines-step ss i x within is = ap (lines roles level) (statements-step ss i x within is) ∙ lines-front x _

  pub lines-Message : (m : Message) → lines roles level (front (kinds.Message m) Nothing) ≡ indent level ++ (message_text m ++ codes "\n")
  lines-Message m = ap (λ f. lines roles level (f Nothing)) (front-Message m)

  pub lines-Choice : (p : Place) (at : Name) (bs : Row (Row Statement)) → lines roles level (front (kinds.Choice p at bs) Nothing) ≡
      indent level ++ (codes "choice at " ++ (at ++ (codes " " ++ (branch_lines roles [] level (bodies bs.items) ++ codes "\n"))))
  lines-Choice p at bs = ap (λ f. lines roles level (f Nothing)) (front-Choice p at bs)

  pub lines-Rec : (p : Place) (name : Name) (body : Row Statement) → lines roles level (front (kinds.Rec p name body) Nothing) ≡
      indent level ++ (codes "rec " ++ (name ++ (codes " " ++ (block roles level (statements body.items) ++ codes "\n"))))
  lines-Rec p name body = ap (λ f. lines roles level (f Nothing)) (front-Rec p name body)

  pub lines-Continue : (p : Place) (name : Name) → lines roles level (front (kinds.Continue p name) Nothing) ≡ indent level
      ++ (codes "continue " ++ (name ++ codes ";\n"))
  lines-Continue p name = ap (λ f. lines roles level (f Nothing)) (front-Continue p name)

  pub lines-Do : (p : Place) (name : Name) → lines roles level (front (kinds.Do p name) Nothing) ≡ indent level
      ++ (do_text roles name ++ codes "\n")
  lines-Do p name = ap (λ f. lines roles level (f Nothing)) (front-Do p name)

-- the branch at an index, and those behind it
pub branches-step : (roles : List Name) (before : List ℕ) (level : ℕ) (bs : List (Row Statement)) (i : ℕ) (x : Row Statement) →
    i < length bs → x ≡ get_or bs i x →
    branch_lines roles before level (bodies (drop i bs)) ≡ before ++ (block roles level (statements x.items) ++ branch_lines roles
    (codes " or ") level (bodies (drop (i + 1) bs)))
branches-step roles before level bs i x within is = ap (branch_lines roles before level) (bodies-step bs i x within is)

-- the role at an index, and those behind it
pub roles-step : (before : List ℕ) (rs : List Name) (i : ℕ) (x : Name) → i < length rs → x ≡ get_or rs i x →
    role_list before (drop i rs) ≡ before ++ (codes "role " ++ (x ++ role_list (codes ", ") (drop (i + 1) rs)))
roles-step before rs i x within is =
    at_drop_more (role_list before) rs i x within ∙ ap (λ y. before ++ (codes "role " ++ (y ++ role_list (codes ", ") (drop (i + 1) rs))))
    (sym is)

pub roles-past : (before : List ℕ) (rs : List Name) (i : ℕ) → length rs ≤ i → role_list before (drop i rs) ≡ []
roles-past before rs i h = at_drop_all (role_list before) rs i h

-- one more role is written
pub role_more : (out new before : List ℕ) (rs : List Name) (i : ℕ) (x y : Name) → i < length rs → x ≡ get_or rs i x → y ≡ x →
    new ≡ out ++ (before ++ (codes "role " ++ (y ++ []))) →
    out ++ role_list before (drop i rs) ≡ new ++ role_list (codes ", ") (drop (i + 1) rs)
role_more out new before rs i x y within is same e =
    ap (λ z. out ++ z) (roles-step before rs i x within is) ∙ four out before (codes "role ") x (role_list (codes ", ") (drop (i + 1) rs))
    ∙ ap (λ z. (out ++ (before ++ (codes "role " ++ z))) ++ role_list (codes ", ") (drop (i + 1) rs)) (sym (append-nil y ∙ same))
    ∙ ap (λ z. z ++ role_list (codes ", ") (drop (i + 1) rs)) (sym e)

-- the argument at an index, and those behind it
pub arguments-step : (before : List ℕ) (rs : List Name) (i : ℕ) (x : Name) → i < length rs → x ≡ get_or rs i x →
    argument_list before (drop i rs) ≡ before ++ (x ++ argument_list (codes ", ") (drop (i + 1) rs))
arguments-step before rs i x within is =
    at_drop_more (argument_list before) rs i x within ∙ ap (λ y. before ++ (y ++ argument_list (codes ", ") (drop (i + 1) rs))) (sym is)

pub arguments-past : (before : List ℕ) (rs : List Name) (i : ℕ) → length rs ≤ i → argument_list before (drop i rs) ≡ []
arguments-past before rs i h = at_drop_all (argument_list before) rs i h

-- one more argument is written
pub argument_more : (out new before : List ℕ) (rs : List Name) (i : ℕ) (x y : Name) → i < length rs → x ≡ get_or rs i x → y ≡ x →
    new ≡ out ++ (before ++ (y ++ [])) →
    out ++ argument_list before (drop i rs) ≡ new ++ argument_list (codes ", ") (drop (i + 1) rs)
argument_more out new before rs i x y within is same e =
    ap (λ z. out ++ z) (arguments-step before rs i x within is) ∙ three out before x (argument_list (codes ", ") (drop (i + 1) rs))
    ∙ ap (λ z. (out ++ (before ++ z)) ++ argument_list (codes ", ") (drop (i + 1) rs)) (sym (append-nil y ∙ same))
    ∙ ap (λ z. z ++ argument_list (codes ", ") (drop (i + 1) rs)) (sym e)

-- the protocol at an index, and those behind it
abbrev pub texts_of : Name → List Name → List Part → List ℕ
texts_of me roles ps = part_texts me roles (map other (map part_of ps))

pub parts-step : (me : Name) (roles : List Name) (ps : List Part) (i : ℕ) (x : Part) → i < length ps → x ≡ get_or ps i x →
    texts_of me roles (drop i ps) ≡ part_text me roles (other (part_of x)) ++ texts_of me roles (drop (i + 1) ps)
parts-step me roles ps i x within is =
    at_drop_more (texts_of me roles) ps i x within ∙ ap (λ y. part_text me roles (other (part_of y)) ++ texts_of me roles (drop (i + 1) ps))
    (sym is)

pub parts-past : (me : Name) (roles : List Name) (ps : List Part) (i : ℕ) → length ps ≤ i → texts_of me roles (drop i ps) ≡ []
parts-past me roles ps i h = at_drop_all (texts_of me roles) ps i h

pub ruleset laid = (common_steps, lines-Message, lines-Choice, lines-Rec, lines-Continue, lines-Do, append_assoc, append-nil)

pub ruleset all_steps = (common_steps, lines-step, statements-past, append_assoc, append-nil)

pub ruleset in_steps = (common_steps, branches-step, bodies-past, append_assoc, append-nil)

pub ruleset role_steps = (common_steps, roles-step, roles-past, append_assoc, append-nil)

pub ruleset argument_steps = (common_steps, arguments-step, arguments-past, append_assoc, append-nil)

pub ruleset part_steps = (common_steps, parts-step, parts-past, append_assoc, append-nil)
