-- A statement that holds no `return` completes otherwise, or ends the run.
use Rattle.std.proofs.Common.{ℕ, zero, suc, Bool, true, false, ◌∷◌, Option, Some, None}
use Rattle.std.specs.Prelude.{if◌then◌else◌}
use Rattle.mg_text.specs.Call.{Name}
use Rattle.jv_tree.specs.Source.{Expr, This, Variable, Member}
use Rattle.jv_tree.specs.Source.{Stmt, Block, Empty, Local, Assign, If, IfElse, While, Do, Switch, Break, Continue, Return, Print, Eval}
use Rattle.jv_tree.specs.Source.{Stmts, NoStmt, Then, Groups, NoGroup, Group}
use Rattle.jv_values.specs.Values.{Value, Row, Lives, Here, Inputs, Wrong, put}
use Rattle.jv_values.specs.Doing.{Outcome, Gives, Ends, Run, and_then, ◌>>=◌, give, stop, found, valued, constant, within, declared, uncovered}
use Rattle.jv_values.specs.Statements.{Completion, Normal, Breaks, Continues, Returns, Does, next_do, assigned, Mine, after_body}
use Rattle.jv_values.specs.Statements.{is_default, any_label, after_switch}
use Rattle.jv_values.specs.Budget.{below}
use Rattle.std.specs.Str.{bytes_eq}
use Rattle.jv_meaning.specs.Program.{Sources, enum_named}
use Rattle.jv_meaning.specs.Meaning.{Lower, write_own, write_member, write, mine, case_label, has_group}
use Rattle.jv_meaning.specs.Meaning.{eval, exec, exec_all, exec_from, exec_groups, language}
use Rattle.stm_acts.specs.Calm.{NoReturn, NoReturnIn, NoReturnInGroups}

-- it completes otherwise
abbrev pub IsNoReturn : Completion Name → Type 0
IsNoReturn (Returns v) = ⊥
IsNoReturn _ = Unit {0}

abbrev pub GoesOn : Outcome (Lives Name) (Completion Name) → Type 0
GoesOn (Gives c s) = IsNoReturn c
GoesOn (Ends f events) = Unit {0}

-- whatever is as it begins
pub record Straight (m : Does Name) : Type 0 where
  pub on : (s : Lives Name) → GoesOn (m s)

gives : (c : Completion Name) → IsNoReturn c → Straight (give c)
gives c h = record { on = λ s. h }

either : (b : Bool) {m n : Does Name} → Straight m → Straight n → Straight (if b then m else n)
either true h k = h
either false h k = k

-- behind a part that completes nothing
behind : {A : Type 0} (m : Run (Lives Name) A) {f : A → Does Name} → ((a : A) → Straight (f a)) → Straight (m >>= f)
behind {A} m {f} h = record { on = λ s. go (m s) }
  where
    go : (x : Outcome (Lives Name) A) → GoesOn (and_then x f)
    go (Gives a s) = (h a).on s
    go (Ends e es) = tt

-- behind a statement
after : {m : Does Name} {f : Completion Name → Does Name} → Straight m → ((c : Completion Name) → IsNoReturn c → Straight (f c)) → Straight (m >>= f)
after {m} {f} h k = record { on = λ s. go (m s) (h.on s) }
  where
    go : (x : Outcome (Lives Name) (Completion Name)) → GoesOn x → GoesOn (and_then x f)
    go (Gives c s) n = (k c n).on s
    go (Ends e es) n = tt

next : {m : Does Name} → Straight m → (c : Completion Name) → IsNoReturn c → Straight (next_do m c)
next h Normal n = h
next h (Breaks l) n = gives (Breaks l) tt
next h (Continues l) n = gives (Continues l) tt
next h (Returns v) n = absurd n

switched : (c : Completion Name) → IsNoReturn c → Straight (after_switch c)
switched Normal n = gives Normal tt
switched (Breaks l) n = either (is_default l) (gives Normal tt) (gives (Breaks l) tt)
switched (Continues l) n = gives (Continues l) tt
switched (Returns v) n = absurd n

turned : (b c : Mine Name) {again : Does Name} → Straight again → (x : Completion Name) → IsNoReturn x → Straight (after_body b c again x)
turned b c h Normal n = h
turned b c h (Breaks l) n = either (b l) (gives Normal tt) (gives (Breaks l) tt)
turned b c h (Continues l) n = either (c l) h (gives (Continues l) tt)
turned b c h (Returns v) n = absurd n

local_there : (x : Name) (v : Value) {m : Does Name} → Straight m → Straight (declared x v m)
local_there x v {m} h = record { on = λ s. go _ (h.on (record { locals = (x, v) ∷ s.locals; shared = s.shared })) }
  where
    go : (y : Outcome (Lives Name) (Completion Name)) → GoesOn y → GoesOn (uncovered y)
    go (Gives c t) n = n
    go (Ends f es) n = tt

own_written : (here : Here Name) (f : Name) (v : Value) → Straight (write_own here f v)
own_written here f v = behind _ (λ u. gives Normal tt)

wrong : Straight (within (λ locals. stop Wrong))
wrong = record { on = λ s. tt }

member_written : (here : Here Name) (e : Expr) (f : Name) (v : Value) → Straight (write_member here e f v)
member_written here (This p) f v = own_written here f v
member_written here _ f v = wrong

written : (here : Here Name) (e : Expr) (v : Value) → Straight (write here e v)
written here (Variable p x) v = record { on = λ s. (assigning (put bytes_eq x v s.locals)).on s }
  where
    assigning : (r : Option (Row Name)) → Straight (assigned r (write_own here x v))
    assigning None = own_written here x v
    assigning (Some r) = record { on = λ s. tt }
written here (Member p e f) v = member_written here e f v
written here _ v = wrong

module _ (j : Sources) (inputs : Inputs) where
  -- what is meant with one less
  pub record Turns (low : Lower) : Type 0 where
    pub turn : (here : Here Name) (t : Stmt) → NoReturn t → Straight (low.turn here t)

  module _ (low : Lower) (turns : Turns low) (here : Here Name) where
    mutual
      pub straight : (s : Stmt) → NoReturn s → Straight (exec j inputs low here s)
      straight (Block p body end) h = all_straight body h
      straight (Empty p) h = gives Normal tt
      straight (Local p ty x e) h = behind _ (λ v. local_there x v (gives Normal tt))
      straight (Assign p target e) h = behind _ (λ v. written here target v)
      straight (If p e s) h = behind _ (λ t. either t (straight s h) (gives Normal tt))
      straight (IfElse p e s r) h = behind _ (λ t. either t (straight s h.0) (straight r h.1))
      straight (While p l e s) h =
          behind _ (λ t. either t (after (straight s h) (turned (mine l) (mine l) (turns.turn here (While p l e s) h))) (gives Normal tt))
      straight (Do p l s e) h =
          after (straight s h) (turned (mine l) (mine l)
          (behind _ (λ t. either t (turns.turn here (Do p l s e) h) (gives Normal tt))))
      straight (Switch p e groups end) h =
          behind (within (λ locals. valued (eval j inputs low here locals e) >>= constant)) (λ v.
          behind (within (λ locals. found (enum_named j v.0))) (λ k.
          after (either (has_group (case_label k v.1) groups) (from_straight (case_label k v.1) groups h) (from_straight is_default groups h))
          switched))
      straight (Break p l) h = gives (Breaks l) tt
      straight (Continue p l) h = gives (Continues l) tt
      straight (Return p e) h = absurd h
      straight (Print p e) h = behind _ (λ u. gives Normal tt)
      straight (Eval p e) h = behind _ (λ v. gives Normal tt)

      pub all_straight : (ss : Stmts) → NoReturnIn ss → Straight (exec_all j inputs low here ss)
      all_straight NoStmt h = gives Normal tt
      all_straight (Then (Local p ty x e) rest) h = behind _ (λ v. local_there x v (all_straight rest h.1))
      all_straight (Then s rest) h = after (straight s h.0) (next (all_straight rest h.1))

      from_straight : (wanted : Option Name → Bool) (gs : Groups) → NoReturnInGroups gs → Straight (exec_from j inputs low here wanted gs)
      from_straight wanted NoGroup h = gives Normal tt
      from_straight wanted (Group labels body end rest) h =
          either (any_label wanted labels) (after (all_straight body h.0) (next (groups_straight rest h.1))) (from_straight wanted rest h.1)

      groups_straight : (gs : Groups) → NoReturnInGroups gs → Straight (exec_groups j inputs low here gs)
      groups_straight NoGroup h = gives Normal tt
      groups_straight (Group labels body end rest) h = after (all_straight body h.0) (next (groups_straight rest h.1))

  pub turns_straight : (n : ℕ) → Turns (below (language j inputs) n)
  turns_straight zero = record { turn = λ here t h. record { on = λ s. tt } }
  turns_straight (suc n) = record { turn = λ here t h. straight (below (language j inputs) n) (turns_straight n) here t h }
