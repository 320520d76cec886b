-- The turns of the loops that read statements.
use Rattle.std.proofs.Common.{◌≡◌, ℕ, ◌<◌, List, [], ◌∷◌, length, Option, Some, refl}
use Rattle.std.specs.Prelude.{codes}
use Rattle.mg_text.specs.declared.place.Place.{Place}
use Rattle.mg_read.specs.Reader.{Reader, ◌>>=◌, all_of}
use Rattle.mg_read.proofs.Loop.{Left, Left-start, Left-init, with_front}
use Rattle.mg_text.specs.Call.{Name}
use Rattle.jv_tree.specs.declared.token.Sign.TheVariants as signs
use Rattle.jv_tree.specs.declared.token.Token.{Token}
use Rattle.jv_tree.specs.Source.{Stmt}
use Rattle.jv_tree.specs.View.{OneGroup}
use Rattle.jv_grammar.specs.Base.{sign_at, word_at}
use Rattle.jv_grammar.specs.Stmts.{is_case, goes_on, case_at, cases_at, cond_at, stmt_at, item_with, items_with, group_with, groups_with}
use Rattle.jv_grammar.specs.Stmts.{while_with, do_with}
use Rattle.jv_grammar.proofs.Nested.{stmt_exact, item_shorter, group_shorter}
use Rattle.jv_parse.specs.declared.halt.Halt.{Halt}
use Rattle.jv_parse.specs.declared.halt.Halt.TheVariants as halts
use Rattle.jv_parse.specs.inner.Gives.{Fails}
use Rattle.jv_parse.specs.inner.Loops.{while_at, while_from, do_at, do_from}
use Rattle.jv_parse.proofs.Walks.{in_front}

pub cases_start : (ts : List Token) (x : Option Name) (us : List Token) → case_at ts ≡ Some (x, us) →
    Left is_case case_at (x ∷ []) us (cases_at ts)
unfolding cases_at
cases_start ts x us h = rw h (Left-start is_case case_at (x ∷ []) us (with_front (x ∷ []) (all_of is_case case_at us)) refl)

pub cases_fail : (e : Halt) (ts : List Token) → Fails e (case_at ts) → Fails e (cases_at ts)
unfolding cases_at
cases_fail halts.Memory ts h = tt
cases_fail (halts.Syntax left) ts h = rw h refl

pub items_start : (d : ℕ) (ts : List Token) → Left goes_on (item_with d (stmt_at d)) [] ts (items_with d (stmt_at d) ts)
unfolding items_with
items_start d ts = Left-init goes_on (item_with d (stmt_at d)) ts

pub groups_start : (d : ℕ) (ts : List Token) → Left is_case (group_with d (stmt_at d)) [] ts (groups_with d (stmt_at d) ts)
unfolding groups_with
groups_start d ts = Left-init is_case (group_with d (stmt_at d)) ts

pub item_at_shorter : (d : ℕ) (ts : List Token) (x : Stmt) (us : List Token) → item_with d (stmt_at d) ts ≡ Some (x, us) →
    length us < length ts
item_at_shorter d ts x us h = item_shorter d (stmt_at d) (stmt_exact d) ts (x, us) h

pub group_at_shorter : (d : ℕ) (ts : List Token) (x : OneGroup) (us : List Token) → group_with d (stmt_at d) ts ≡ Some (x, us) →
    length us < length ts
group_at_shorter d ts x us h = group_shorter d (stmt_at d) (stmt_exact d) ts (x, us) h

-- ---- loops without their labels

pub while_is : (d : ℕ) (f : Reader Token Stmt) (l : Option (Place × Name)) (ts : List Token) →
    while_with d f l ts ≡ (while_at d f ts >>= while_from l)
unfolding while_with while_at
while_is d f l ts =
    let g = while_from l in
    in_front (word_at (codes "while") ts) _ _ g (λ a. in_front (cond_at d a.1) _ _ g (λ c. in_front (f c.1) _ _ g (λ b. refl)))

pub do_is : (d : ℕ) (f : Reader Token Stmt) (l : Option (Place × Name)) (ts : List Token) → do_with d f l ts ≡ (do_at d f ts >>= do_from l)
unfolding do_with do_at
do_is d f l ts =
    let g = do_from l in
    in_front (word_at (codes "do") ts) _ _ g (λ a. in_front (f a.1) _ _ g (λ b. in_front (word_at (codes "while") b.1) _ _ g (λ w.
    in_front (cond_at d w.1) _ _ g (λ c. in_front (sign_at signs.Semicolon c.1) _ _ g (λ e. refl)))))
