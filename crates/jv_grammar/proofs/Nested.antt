-- Statements are read exactly, those that hold others too.
use Rattle.std.proofs.Common.{◌≡◌, ℕ, zero, suc, ◌+◌, ◌-◌, ◌<◌, ◌≤◌, List, [], ◌∷◌, ◌++◌, length, Bool, true, false, Option, Some, None}
use Rattle.std.proofs.Common.{refl, sym, ap, ◌∙◌, subst, append_assoc, append-nil, length-append, arith, inl, inr, ◌⊎◌, true≢false}
use Rattle.std.specs.Prelude.{◌||◌, codes, if◌then◌else◌}
use Rattle.mg_text.specs.Call.{Name}
use Rattle.mg_text.specs.declared.place.Place.{Place}
use Rattle.mg_read.specs.Reader.{Reader, all_of}
use Rattle.mg_read.proofs.Steps.{bind_some, some_is, none_is_not, chosen, Takes}
use Rattle.mg_read.proofs.Lists.{Each, IsExact, Starts, all_sound, all_complete}
use Rattle.jv_tree.specs.declared.token.Sign.TheVariants as signs
use Rattle.jv_tree.specs.declared.token.Token.{Token}
use Rattle.jv_tree.specs.Source.{Expr}
use Rattle.jv_tree.specs.Source.{Stmt, Block, Empty, Local, Assign, If, IfElse, While, Do, Switch, Break, Continue, Return, Print, Eval}
use Rattle.jv_tree.specs.Source.{Stmts, NoStmt, Then, Groups, NoGroup, Group}
use Rattle.jv_tree.specs.Depth.{depth, depth_of_stmt, depth_of_stmts, depth_of_groups}
use Rattle.jv_tree.specs.Tokens.{word, sign, IsName, first_place}
use Rattle.jv_grammar.specs.Base.{sign_at, is_sign, word_at, is_word, name_at}
use Rattle.mg_read.specs.Reader.{many}
use Rattle.jv_tree.specs.Sugar.{takes_else, is_one_group}
use Rattle.jv_tree.specs.Statements.{IsCondition, IsLabel, IsLocal, AreCases, IsStmt, AreItems, AreGroups}
use Rattle.jv_tree.specs.View.{stmts_of, OneGroup, groups_of}
use Rattle.jv_grammar.specs.Stmts.{case_at, cond_at, is_decl, is_case, goes_on, cases_at, place_ahead}
use Rattle.jv_grammar.specs.Stmts.{assign_at, is_assign, is_label, evaluation_at, item_with, items_with}
use Rattle.jv_grammar.specs.Stmts.{block_with, else_with, if_with, loop_place, loop_label, while_with, do_with, loop_with, labelled_with}
use Rattle.jv_grammar.specs.Stmts.{group_with, groups_with, switch_with, simple_with, stmt_with, stmt_at}
use Rattle.jv_grammar.proofs.Steps.{after, glue, sign_is, word_is, name_is, name_is_not}
use Rattle.jv_grammar.proofs.Primaries.{depth_pos}
use Rattle.jv_grammar.proofs.StmtParts.{cond_exact, local_sound, local_complete, cases_exact, cases_go, cases_some}
use Rattle.jv_grammar.proofs.StmtParts.{DeepStmt, break_sound, break_complete, continue_sound}
use Rattle.jv_grammar.proofs.StmtParts.{continue_complete, return_sound, return_complete, empty_sound, empty_complete}
use Rattle.jv_grammar.proofs.Assigns.{assign_sound, assign_complete}
use Rattle.jv_grammar.proofs.Assigns.{free_call, printed_call, evaluation_sound, print_complete, eval_complete}
use Rattle.jv_grammar.proofs.Leads.{Starting, starting_more, starting_some, starting_no_else, starting_goes, starting_no_case, stmt_starts}
use Rattle.jv_grammar.proofs.Leads.{local_starts, local_decl, no_name_if, no_name_while, no_name_do}
use Rattle.jv_grammar.proofs.Leads.{no_name_switch, no_name_break, no_name_continue, no_name_return}
use Rattle.jv_grammar.proofs.Following.{assign_simple, evaluated_led, stmt_undeclared, Simple}
use Rattle.jv_grammar.proofs.Closings as closings

abbrev pub NotElse : List Token → Type 0
NotElse ts = is_word (codes "else") ts ≡ false

-- f reads statements that are at most so deep, with each `else` that belongs to them
pub record StmtExact (f : Reader Token Stmt) (d : ℕ) : Type 0 where
  pub sound : (ts : List Token) (x : Stmt × List Token) → f ts ≡ Some x → Takes (DeepStmt d x.0) ts x.1
  pub greedy : (ts : List Token) (x : Stmt × List Token) → f ts ≡ Some x → is_word (codes "else") x.1 ≡ true → takes_else x.0 ≡ false
  pub complete : (s : Stmt) (ts rest : List Token) → (takes_else s ≡ true → NotElse rest) → DeepStmt d s ts →
      f (ts ++ rest) ≡ Some (s, rest)

-- ---- lists of statements

abbrev pub list_of : Stmts → List Stmt
list_of NoStmt = []
list_of (Then s more) = s ∷ list_of more

pub stmts-list_of : (ss : Stmts) → stmts_of (list_of ss) ≡ ss
stmts-list_of NoStmt = refl
stmts-list_of (Then s more) = ap (Then s) (stmts-list_of more)

-- an item, at most so deep
abbrev pub Item : ℕ → Stmt → List Token → Type 0
Item d s us = (IsLocal s us ⊎ IsStmt s us) × (depth_of_stmt s ≤ d)

pub each_items : (d : ℕ) (xs : List Stmt) (us : List Token) → Each (Item d) xs us → AreItems (stmts_of xs) us
    × (depth_of_stmts (stmts_of xs) ≤ d)
each_items d [] us h = (h, omega arith)
each_items d (x ∷ xs) us (a, b, parts, first, more) =
    let r = each_items d xs b more in ((a, b, parts, first.0, r.0), omega (arith, r.1, first.1))

pub items_each : (d : ℕ) (ss : Stmts) (us : List Token) → AreItems ss us → depth_of_stmts ss ≤ d → Each (Item d) (list_of ss) us
items_each d NoStmt us h le = h
items_each d (Then s more) us (a, b, parts, first, others) le =
    (a, b, parts, (first, omega arith), items_each d more b others (omega arith))

item_starts : (d : ℕ) (s : Stmt) (us : List Token) → Item d s us → Starting us
item_starts d s us (inl h, le) = local_starts s us h
item_starts d s us (inr h, le) = stmt_starts s us h

local_depth : (s : Stmt) (us : List Token) → IsLocal s us → 2 ≤ depth_of_stmt s
local_depth (Block p body end) us h = absurd h
local_depth (Empty p) us h = absurd h
local_depth (Local p ty n e) us h = omega (arith, depth_pos e)
local_depth (Assign p t e) us h = absurd h
local_depth (If p c s) us h = absurd h
local_depth (IfElse p c s r) us h = absurd h
local_depth (While p l c s) us h = absurd h
local_depth (Do p l s c) us h = absurd h
local_depth (Switch p e gs end) us h = absurd h
local_depth (Break p l) us h = absurd h
local_depth (Continue p l) us h = absurd h
local_depth (Return p e) us h = absurd h
local_depth (Print p e) us h = absurd h
local_depth (Eval p e) us h = absurd h

-- where a loop stops its test says no
pub many_stops : {A : Type 0} (go : List Token → Bool) (g : Reader Token A) (n : ℕ) (ts : List Token) (x : List A × List Token) →
    many go g n ts ≡ Some x → go x.1 ≡ false
unfolding many
many_stops {A = A} go g zero ts x e = absurd (none_is_not x e)
many_stops {A = A} go g (suc n) ts x e =
    elim (chosen (go ts) _ _ (Some x) e) [
      | inl t ↦
          let y = bind_some (g ts) _ x t.1 in
          let ys = bind_some (many go g n y.0.1) _ x y.2 in
          let stops = many_stops go g n y.0.1 ys.0 ys.1 in
          subst (λ (z : List A × List Token). go z.1 ≡ false) (some_is (y.0.0 ∷ ys.0.0, ys.0.1) x ys.2) stops
      | inr h ↦ subst (λ (z : List A × List Token). go z.1 ≡ false) (some_is ([], ts) x h.1) h.0
    ]

module _ (d : ℕ) (f : Reader Token Stmt) (exact : StmtExact f d) where
  item_exact : IsExact (item_with d f) (Item d) NotElse
  unfolding item_with
  item_exact = record { sound = sound; complete = complete } where
    sound : (ts : List Token) (x : Stmt × List Token) → item_with d f ts ≡ Some x → Takes (Item d x.0) ts x.1
    sound ts x e =
        elim (chosen (is_decl ts) _ _ (Some x) e) [
          | inl t ↦
              let one = local_sound (d - 1) ts x t.1 in
              record {
                front = one.front;
                parts = one.parts;
                holds =
                    (inl one.holds.0, omega (arith, one.holds.1, local_depth x.0 one.front one.holds.0));
              }
          | inr t ↦
              let one = exact.sound ts x t.1 in
              record { front = one.front; parts = one.parts; holds = (inr one.holds.0, one.holds.1) }
        ]

    complete : (s : Stmt) (ts rest : List Token) → NotElse rest → Item d s ts → item_with d f (ts ++ rest) ≡ Some (s, rest)
    complete s ts rest fine (inl h, le) = rw (local_decl s ts rest h) (local_complete (d - 1) s ts rest (h, omega arith))
    complete s ts rest fine (inr h, le) = rw (stmt_undeclared s ts rest h) (exact.complete s ts rest (λ open_if. fine) (h, le))

  item_starting : Starts goes_on (Item d) NotElse
  item_starting = record {
    follows = λ s ts rest h. starting_no_else (ts ++ rest) (starting_more ts rest (item_starts d s ts h));
    goes = λ s ts rest h. starting_goes (ts ++ rest) (starting_more ts rest (item_starts d s ts h));
    nonempty = λ s ts h. starting_some ts (item_starts d s ts h);
  }

  pub item_shorter : (ts : List Token) (x : Stmt × List Token) → item_with d f ts ≡ Some x → length x.1 < length ts
  item_shorter ts x e =
      let t = item_exact.sound ts x e in
      omega (arith, ap length t.parts, length-append t.front x.1, starting_some t.front (item_starts d x.0 t.front t.holds))

  Items : List Stmt → List Token → Type 0
  Items xs us = AreItems (stmts_of xs) us × (depth_of_stmts (stmts_of xs) ≤ d)

  pub items_sound : (ts : List Token) (x : List Stmt × List Token) → items_with d f ts ≡ Some x →
      Takes (λ us. AreItems (stmts_of x.0) us × (depth_of_stmts (stmts_of x.0) ≤ d)) ts x.1
  unfolding items_with
  items_sound ts x e =
      let one = all_sound goes_on (item_with d f) (Item d) NotElse item_exact ts x e in
      record { front = one.front; parts = one.parts; holds = each_items d x.0 one.front one.holds }

  pub items_complete : (ss : Stmts) (ts rest : List Token) → NotElse rest → goes_on rest ≡ false → AreItems ss ts → depth_of_stmts ss ≤ d →
      items_with d f (ts ++ rest) ≡ Some (list_of ss, rest)
  unfolding items_with
  items_complete ss ts rest fine stops h le = all_complete goes_on (item_with d f) (Item d) NotElse item_exact item_starting (list_of ss) ts
      rest fine stops (items_each d ss ts h le)

  items_start : (s : Stmt) (more : Stmts) (ts rest : List Token) → AreItems (Then s more) ts → Starting (ts ++ rest)
  items_start s more ts rest (us, vs, parts, h, others) =
      subst Starting (sym (ap (λ (z : List Token). z ++ rest) parts ∙ append_assoc us vs rest))
      (starting_more us (vs ++ rest) (item_starts (depth_of_stmt s) s us (h, omega arith)))

  abbrev Deeper : (Stmt × List Token) → List Token → Type 0
  Deeper x ts = Takes (DeepStmt (suc d) x.0) ts x.1

  block_sound : (ts : List Token) (x : Stmt × List Token) → block_with d f ts ≡ Some x → Deeper x ts × (takes_else x.0 ≡ false)
  unfolding block_with
  block_sound ts x e =
      let a = bind_some (sign_at signs.OpenBrace ts) _ x e in
      let b = bind_some (items_with d f a.0.1) _ x a.2 in
      let c = bind_some (sign_at signs.CloseBrace b.0.1) _ x b.2 in
      let one = items_sound a.0.1 b.0 b.1 in
      let end : List Token = sign c.0.0 signs.CloseBrace ∷ [] in
      subst (λ (y : Stmt × List Token). Deeper y ts × (takes_else y.0 ≡ false)) (some_is (Block a.0.0 (stmts_of b.0.0) c.0.0, c.0.1) x c.2) (
        record {
          front = sign a.0.0 signs.OpenBrace ∷ (one.front ++ end);
          parts = after (sign_is signs.OpenBrace ts a.0 a.1) (glue one.front end c.0.1 one.parts (sign_is signs.CloseBrace b.0.1 c.0 c.1));
          holds = ((one.front, refl, one.holds.0), omega (arith, one.holds.1));
        },
        refl,
      )

  block_complete : (p end : Place) (body : Stmts) (us rest : List Token) → AreItems body us → depth_of_stmts body ≤ d
      → block_with d f (sign p signs.OpenBrace ∷ (us ++ sign end signs.CloseBrace ∷ rest)) ≡ Some (Block p body end, rest)
  unfolding block_with
  block_complete p end body us rest h le = rw (items_complete body us (sign end signs.CloseBrace ∷ rest) refl refl h le, stmts-list_of body)
      refl

  -- ---- branches

  else_sound : (p : Place) (c : Expr) (s : Stmt) (us vs ts : List Token) (x : Stmt × List Token) → IsCondition c us → depth c ≤ d →
      IsStmt s vs → depth_of_stmt s ≤ d
      → (is_word (codes "else") ts ≡ true → takes_else s ≡ false) → else_with d f p c s ts ≡ Some x
      → Takes (λ ws. DeepStmt (suc d) x.0 (word p (codes "if") ∷ (us ++ (vs ++ ws)))) ts x.1 × (is_word (codes "else") x.1 ≡ true →
      takes_else x.0 ≡ false)
  unfolding else_with
  else_sound p c s us vs ts x cond lc h ls greedy e =
      elim (chosen (is_word (codes "else") ts) _ _ (Some x) e) [
        | inl t ↦
            let a = bind_some (word_at (codes "else") ts) _ x t.1 in
            let r = bind_some (f a.0.1) _ x a.2 in
            let one = exact.sound a.0.1 r.0 r.1 in
            subst (λ (y : Stmt × List Token). Takes (λ ws. DeepStmt (suc d) y.0 (word p (codes "if") ∷ (us ++ (vs ++ ws)))) ts y.1
            × (is_word (codes "else") y.1 ≡ true → takes_else y.0 ≡ false))
            (some_is (IfElse p c s r.0.0, r.0.1) x r.2) (
              record {
                front = word a.0.0 (codes "else") ∷ one.front;
                parts = after (word_is (codes "else") ts a.0 a.1) one.parts;
                holds = ((a.0.0, us, vs, one.front, refl, cond, h, greedy t.0, one.holds.0), omega (arith, lc, ls, one.holds.1));
              },
              exact.greedy a.0.1 r.0 r.1,
            )
        | inr t ↦
            subst (λ (y : Stmt × List Token). Takes (λ ws. DeepStmt (suc d) y.0 (word p (codes "if") ∷ (us ++ (vs ++ ws)))) ts y.1
            × (is_word (codes "else") y.1 ≡ true → takes_else y.0 ≡ false))
            (some_is (If p c s, ts) x t.1) (
              record {
                front = [];
                parts = refl;
                holds = (
                  (us, vs, ap (λ (z : List Token). word p (codes "if") ∷ (us ++ z)) (append-nil vs), cond, h),
                  omega (arith, lc, ls),
                );
              },
              λ comes. absurd (true≢false (sym comes ∙ t.0)),
            )
      ]

  if_sound : (ts : List Token) (x : Stmt × List Token) → if_with d f ts ≡ Some x → Deeper x ts × (is_word (codes "else") x.1 ≡ true →
      takes_else x.0 ≡ false)
  unfolding if_with
  if_sound ts x e =
      let a = bind_some (word_at (codes "if") ts) _ x e in
      let c = bind_some (cond_at d a.0.1) _ x a.2 in
      let s = bind_some (f c.0.1) _ x c.2 in
      let cond = (cond_exact d).sound a.0.1 c.0 c.1 in
      let body = exact.sound c.0.1 s.0 s.1 in
      let more = else_sound a.0.0 c.0.0 s.0.0 cond.front body.front s.0.1 x cond.holds.0 cond.holds.1 body.holds.0 body.holds.1
      (exact.greedy c.0.1 s.0 s.1) s.2 in (
        record {
          front = word a.0.0 (codes "if") ∷ (cond.front ++ (body.front ++ more.0.front));
          parts = after (word_is (codes "if") ts a.0 a.1) (glue cond.front (body.front ++ more.0.front) x.1 cond.parts
              (glue body.front more.0.front x.1 body.parts more.0.parts));
          holds = more.0.holds;
        },
        more.1,
      )

  if_complete : (p : Place) (c : Expr) (s : Stmt) (us vs rest : List Token) → NotElse rest → IsCondition c us → depth c ≤ d → IsStmt s vs →
      depth_of_stmt s ≤ d
      → if_with d f (word p (codes "if") ∷ ((us ++ vs) ++ rest)) ≡ Some (If p c s, rest)
  unfolding if_with else_with
  if_complete p c s us vs rest fine cond lc h ls =
      rw (append_assoc, (cond_exact d).complete c us (vs ++ rest) tt (cond, lc), exact.complete s vs rest (λ open_if. fine) (h, ls), fine)
      refl

  if_else_complete : (p a : Place) (c : Expr) (s r : Stmt) (us vs ws rest : List Token) → (takes_else r ≡ true → NotElse rest) →
      IsCondition c us → depth c ≤ d → IsStmt s vs → depth_of_stmt s ≤ d
      → takes_else s ≡ false → IsStmt r ws → depth_of_stmt r ≤ d →
      if_with d f (word p (codes "if") ∷ ((us ++ (vs ++ word a (codes "else") ∷ ws)) ++ rest)) ≡ Some (IfElse p c s r, rest)
  unfolding if_with else_with
  if_else_complete p a c s r us vs ws rest fine cond lc h ls closed g lr =
      let behind : List Token = word a (codes "else") ∷ (ws ++ rest) in
      let first = exact.complete s vs behind (λ open_if. absurd (true≢false (sym open_if ∙ closed))) (h, ls) in
      rw (
        append_assoc,
        append_assoc,
        (cond_exact d).complete c us (vs ++ behind) tt (cond, lc),
        first,
        exact.complete r ws rest fine
            (g, lr),
      ) refl

  -- ---- loops

  -- a loop behind its label
  abbrev Looped : Option (Place × Name) → Stmt → List Token → Type 0
  Looped l s ws = (us : List Token) → ((a : Place) → IsLabel (loop_place a l) a (loop_label l) us) → DeepStmt (suc d) s (us ++ ws)

  while_sound : (l : Option (Place × Name)) (ts : List Token) (x : Stmt × List Token) → while_with d f l ts ≡ Some x →
      Takes (Looped l x.0) ts x.1 × (is_word (codes "else") x.1 ≡ true → takes_else x.0 ≡ false)
  unfolding while_with
  while_sound l ts x e =
      let a = bind_some (word_at (codes "while") ts) _ x e in
      let c = bind_some (cond_at d a.0.1) _ x a.2 in
      let s = bind_some (f c.0.1) _ x c.2 in
      let cond = (cond_exact d).sound a.0.1 c.0 c.1 in
      let body = exact.sound c.0.1 s.0 s.1 in
      subst (λ (y : Stmt × List Token). Takes (Looped l y.0) ts y.1 × (is_word (codes "else") y.1 ≡ true → takes_else y.0 ≡ false))
      (some_is (While (loop_place a.0.0 l) (loop_label l) c.0.0 s.0.0, s.0.1) x s.2) (
        record {
          front = word a.0.0 (codes "while") ∷ (cond.front ++ body.front);
          parts = after (word_is (codes "while") ts a.0 a.1) (glue cond.front body.front s.0.1 cond.parts body.parts);
          holds = λ us label. (
            (a.0.0, us, cond.front, body.front, refl, label a.0.0, cond.holds.0, body.holds.0),
            omega (arith, cond.holds.1, body.holds.1),
          );
        },
        exact.greedy c.0.1 s.0 s.1,
      )

  do_sound : (l : Option (Place × Name)) (ts : List Token) (x : Stmt × List Token) → do_with d f l ts ≡ Some x → Takes (Looped l x.0) ts x.1
      × (is_word (codes "else") x.1 ≡ true → takes_else x.0 ≡ false)
  unfolding do_with
  do_sound l ts x e =
      let a = bind_some (word_at (codes "do") ts) _ x e in
      let s = bind_some (f a.0.1) _ x a.2 in
      let b = bind_some (word_at (codes "while") s.0.1) _ x s.2 in
      let c = bind_some (cond_at d b.0.1) _ x b.2 in
      let g = bind_some (sign_at signs.Semicolon c.0.1) _ x c.2 in
      let body = exact.sound a.0.1 s.0 s.1 in
      let cond = (cond_exact d).sound b.0.1 c.0 c.1 in
      let end : List Token = sign g.0.0 signs.Semicolon ∷ [] in
      let behind : s.0.1 ≡ (word b.0.0 (codes "while") ∷ (cond.front ++ end)) ++ g.0.1 =
      after (word_is (codes "while") s.0.1 b.0 b.1) (glue cond.front end g.0.1 cond.parts (sign_is signs.Semicolon c.0.1 g.0 g.1)) in
      subst (λ (y : Stmt × List Token). Takes (Looped l y.0) ts y.1 × (is_word (codes "else") y.1 ≡ true → takes_else y.0 ≡ false))
      (some_is (Do (loop_place a.0.0 l) (loop_label l) s.0.0 c.0.0, g.0.1) x g.2) (
        record {
          front = word a.0.0 (codes "do") ∷ (body.front ++ word b.0.0 (codes "while") ∷ (cond.front ++ end));
          parts = after (word_is (codes "do") ts a.0 a.1) (glue body.front (word b.0.0 (codes "while") ∷ (cond.front ++ end)) g.0.1
              body.parts behind);
          holds = λ us label. (
            (a.0.0, b.0.0, g.0.0, us, body.front, cond.front, refl, label a.0.0, body.holds.0, cond.holds.0),
            omega (arith, cond.holds.1, body.holds.1),
          );
        },
        λ comes. refl,
      )

  loop_sound : (l : Option (Place × Name)) (ts : List Token) (x : Stmt × List Token) → loop_with d f l ts ≡ Some x →
      Takes (Looped l x.0) ts x.1 × (is_word (codes "else") x.1 ≡ true → takes_else x.0 ≡ false)
  unfolding loop_with
  loop_sound l ts x e =
      elim (chosen (is_word (codes "while") ts) _ _ (Some x) e) [
        | inl t ↦ while_sound l ts x t.1
        | inr t ↦ do_sound l ts x t.1
      ]

  unlabelled_sound : (ts : List Token) (x : Stmt × List Token) → loop_with d f None ts ≡ Some x →
      Deeper x ts × (is_word (codes "else") x.1 ≡ true → takes_else x.0 ≡ false)
  unlabelled_sound ts x e =
      let one = loop_sound None ts x e in
      (record { front = one.0.front; parts = one.0.parts; holds = one.0.holds [] (λ a. (refl, refl)) }, one.1)

  labelled_sound : (ts : List Token) (x : Stmt × List Token) → labelled_with d f ts ≡ Some x →
      Deeper x ts × (is_word (codes "else") x.1 ≡ true → takes_else x.0 ≡ false)
  unfolding labelled_with
  labelled_sound ts x e =
      let n = bind_some (name_at ts) _ x e in
      let c = bind_some (sign_at signs.Colon n.0.1) _ x n.2 in
      let name = name_is ts n.0 n.1 in
      let one = loop_sound (Some n.0.0) c.0.1 x c.2 in
      let label : List Token = word n.0.0.0 n.0.0.1 ∷ sign c.0.0 signs.Colon ∷ [] in (
        record {
          front = label ++ one.0.front;
          parts = after name.0 (after (sign_is signs.Colon n.0.1 c.0 c.1) one.0.parts);
          holds = one.0.holds label (λ a. (name.1, c.0.0, refl));
        },
        one.1,
      )

  while_complete : (a : Place) (l : Option (Place × Name)) (c : Expr) (s : Stmt) (us vs rest : List Token) →
      (takes_else s ≡ true → NotElse rest) → IsCondition c us → depth c ≤ d → IsStmt s vs → depth_of_stmt s ≤ d
      → loop_with d f l (word a (codes "while") ∷ ((us ++ vs) ++ rest)) ≡ Some (While (loop_place a l) (loop_label l) c s, rest)
  unfolding loop_with while_with
  while_complete a l c s us vs rest fine cond lc h ls =
      rw (append_assoc, (cond_exact d).complete c us (vs ++ rest) tt (cond, lc), exact.complete s vs rest fine (h, ls)) refl

  do_complete : (a b g : Place) (l : Option (Place × Name)) (c : Expr) (s : Stmt) (us vs rest : List Token) → IsStmt s us →
      depth_of_stmt s ≤ d → IsCondition c vs → depth c ≤ d
      → loop_with d f l (word a (codes "do") ∷ ((us ++ word b (codes "while") ∷ (vs ++ sign g signs.Semicolon ∷ [])) ++ rest)) ≡ Some
      (Do (loop_place a l) (loop_label l) s c, rest)
  unfolding loop_with do_with
  do_complete a b g l c s us vs rest h ls cond lc =
      let behind : List Token = word b (codes "while") ∷ ((vs ++ sign g signs.Semicolon ∷ []) ++ rest) in
      rw (
        append_assoc,
        exact.complete s us behind (λ open_if. refl) (h, ls),
        append_assoc,
        (cond_exact d).complete c vs
            (sign g signs.Semicolon ∷ rest) tt (cond, lc),
      ) refl

  -- ---- groups

  cases_stop : (ts : List Token) (x : List (Option Name) × List Token) → cases_at ts ≡ Some x → is_case x.1 ≡ false
  unfolding cases_at all_of
  cases_stop ts x e =
      let s = bind_some (case_at ts) _ x e in
      let b = bind_some (all_of is_case case_at s.0.1) _ x s.2 in
      let stops = many_stops is_case case_at (suc (length s.0.1)) s.0.1 b.0 b.1 in
      subst (λ (z : List (Option Name) × List Token). is_case z.1 ≡ false) (some_is (s.0.0 ∷ b.0.0, b.0.1) x b.2) stops

  -- one group, in front of the token whose place it ends with
  record OneTaken (ts : List Token) (x : OneGroup × List Token) : Type 0 where
    labels : List Token
    body : List Token
    parts : ts ≡ (labels ++ body) ++ x.1
    cases : AreCases x.0.labels labels
    items : AreItems x.0.body body
    less : depth_of_stmts x.0.body ≤ d
    ends : place_ahead x.1 ≡ Some x.0.end
    -- without statements no label comes next
    alone : x.0.body ≡ NoStmt → is_case x.1 ≡ false

  group_sound : (ts : List Token) (x : OneGroup × List Token) → group_with d f ts ≡ Some x → OneTaken ts x
  unfolding group_with
  group_sound ts x e =
      let l = bind_some (cases_at ts) _ x e in
      let b = bind_some (items_with d f l.0.1) _ x l.2 in
      let p = bind_some (place_ahead b.0.1) _ x b.2 in
      let labels = cases_exact.sound ts l.0 l.1 in
      let body = items_sound l.0.1 b.0 b.1 in
      subst (OneTaken ts) (some_is (record { labels = l.0.0; body = stmts_of b.0.0; end = p.0 }, b.0.1) x p.2)
      (record {
        labels = labels.front;
        body = body.front;
        parts = glue labels.front body.front b.0.1 labels.parts body.parts;
        cases = labels.holds;
        items = body.holds.0;
        less = body.holds.1;
        ends = p.1;
        alone = λ none. stays l.0.1 b.0.1 b.0.0 none body.front body.holds.0 body.parts (cases_stop ts l.0 l.1);
      }) where
        stays : (us vs : List Token) (xs : List Stmt) → stmts_of xs ≡ NoStmt → (ws : List Token) → AreItems (stmts_of xs) ws → us ≡ ws ++ vs
            → is_case us ≡ false → is_case vs ≡ false
        stays us vs xs none ws h parts stop =
            let empty : ws ≡ [] = subst (λ (z : Stmts). AreItems z ws) none h in
            let same : us ≡ vs = parts ∙ ap (λ (z : List Token). z ++ vs) empty in
            ap is_case (sym same) ∙ stop

  pub group_shorter : (ts : List Token) (x : OneGroup × List Token) → group_with d f ts ≡ Some x → length x.1 < length ts
  group_shorter ts x e =
      let one = group_sound ts x e in
      omega (
        arith,
        ap length one.parts,
        length-append (one.labels ++ one.body) x.1,
        length-append one.labels one.body,
        cases_some x.0.labels one.labels one.cases,
      )

  -- groups, in front of a token at this place
  abbrev GroupsOf : Place → List OneGroup → List Token → Type 0
  GroupsOf close gs us = AreGroups close (groups_of gs) us × (depth_of_groups (groups_of gs) ≤ d)

  head_place : (us : List Token) (close p : Place) (rest : List Token) → place_ahead (us ++ rest) ≡ Some p → place_ahead rest ≡ Some close →
      p ≡ first_place us close
  head_place [] close p rest h k = some_is p close (sym h ∙ k)
  head_place (t ∷ us) close p rest h k = sym (some_is t.place p h)

  groups_sound : (n : ℕ) (ts : List Token) (x : List OneGroup × List Token) (close : Place) → place_ahead x.1 ≡ Some close →
      many is_case (group_with d f) n ts ≡ Some x
      → Takes (GroupsOf close x.0) ts x.1 × ((x.0 ≡ []) ⊎ (is_case ts ≡ true))
  unfolding many
  groups_sound zero ts x close at e = absurd (none_is_not x e)
  groups_sound (suc n) ts x close at e =
      elim (chosen (is_case ts) _ _ (Some x) e) [
        | inl t ↦
            let g = bind_some (group_with d f ts) _ x t.1 in
            let gs = bind_some (many is_case (group_with d f) n g.0.1) _ x g.2 in
            let same = some_is (g.0.0 ∷ gs.0.0, gs.0.1) x gs.2 in
            let at_rest : place_ahead gs.0.1 ≡ Some close = ap (λ (z : List OneGroup × List Token). place_ahead z.1) same ∙ at in
            let one = group_sound ts g.0 g.1 in
            let more = groups_sound n g.0.1 gs.0 close at_rest gs.1 in (
              subst (λ (z : List OneGroup × List Token). Takes (GroupsOf close z.0) ts z.1) same
                  (record {
                    front = one.labels ++ (one.body ++ more.0.front);
                    parts = one.parts ∙ append_assoc one.labels one.body g.0.1 ∙ ap (λ (r : List Token). one.labels ++ (one.body ++ r))
                        more.0.parts
                        ∙ ap (λ (r : List Token). one.labels ++ r) (sym (append_assoc one.body more.0.front gs.0.1)) ∙
                        sym (append_assoc one.labels (one.body ++ more.0.front) gs.0.1);
                    holds = (
                      (
                        one.labels,
                        one.body,
                        more.0.front,
                        refl,
                        one.cases,
                        one.items,
                        more.0.holds.0,
                        head_place more.0.front close g.0.0.end gs.0.1 (ap place_ahead (sym more.0.parts) ∙ one.ends) at_rest,
                        apart g.0.1 g.0.0.body gs.0.0 one.alone more.1,
                      ),
                      omega (arith, one.less, more.0.holds.1),
                    );
                  }),
              inr t.0,
            )
        | inr h ↦
            let same = some_is ([], ts) x h.1 in (
              subst (λ (z : List OneGroup × List Token). Takes (GroupsOf close z.0) ts z.1) same
                  (record { front = []; parts = refl; holds = (refl, omega arith) }),
              inl (sym (ap (λ (z : List OneGroup × List Token). z.0) same)),
            )
      ] where
        apart : (us : List Token) (body : Stmts) (gs : List OneGroup) → (body ≡ NoStmt → is_case us ≡ false) →
            (gs ≡ []) ⊎ (is_case us ≡ true) → is_one_group body (groups_of gs) ≡ false
        apart us NoStmt [] alone h = refl
        apart us NoStmt (g ∷ gs) alone (inl h) = absurd cc
        apart us NoStmt (g ∷ gs) alone (inr h) = absurd (true≢false (sym h ∙ alone refl))
        apart us (Then s more) gs alone h = refl

  abbrev list_groups : Groups → List OneGroup
  list_groups NoGroup = []
  list_groups (Group labels body end more) = record { labels = labels; body = body; end = end } ∷ list_groups more

  groups-list : (gs : Groups) → groups_of (list_groups gs) ≡ gs
  groups-list NoGroup = refl
  groups-list (Group labels body end more) = ap (Group labels body end) (groups-list more)

  -- what comes behind a group
  groups_ahead : (close : Place) (gs : Groups) (us rest : List Token) → AreGroups close gs us
      → (goes_on (us ++ sign close signs.CloseBrace ∷ rest) ≡ false) × (NotElse (us ++ sign close signs.CloseBrace ∷ rest))
      × (place_ahead (us ++ sign close signs.CloseBrace ∷ rest) ≡ Some (first_place us close))
  groups_ahead close NoGroup us rest h = rw h (refl, refl, refl)
  groups_ahead close (Group [] body end more) us rest (ls_tokens, bs, cs, parts, cases, items, others, ends, apart) = absurd cases
  groups_ahead close (Group (None ∷ ls) body end more) us rest (
    ls_tokens,
    bs,
    cs,
    parts,
    (ps, qs, first, (a, b, one), more_cases),
    items,
    others,
    ends,
    apart,
  ) = rw (parts, first, one) (refl, refl, refl)
  groups_ahead close (Group (Some n ∷ ls) body end more) us rest
      (ls_tokens, bs, cs, parts, (ps, qs, first, (name, a, b, c, one), more_cases), items, others, ends, apart) =
      rw (parts, first, one) (refl, refl, refl)

  groups_complete : (close : Place) (gs : Groups) (n : ℕ) (us rest : List Token) → length us < n → AreGroups close gs us →
      depth_of_groups gs ≤ d
      → many is_case (group_with d f) n (us ++ sign close signs.CloseBrace ∷ rest) ≡ Some
      (list_groups gs, sign close signs.CloseBrace ∷ rest)
  unfolding many group_with
  groups_complete close gs zero us rest enough h le = absurd (omega arith)
  groups_complete close NoGroup (suc n) us rest enough h le = rw h refl
  groups_complete close (Group labels body end more) (suc n) us rest enough (ls_tokens, bs, cs, parts, cases, items, others, ends, apart)
      le =
      let behind : List Token = sign close signs.CloseBrace ∷ rest in
      let ahead = groups_ahead close more cs rest others in
      let goes = cases_go labels ls_tokens (bs ++ (cs ++ behind)) cases in
      let stops : is_case (bs ++ (cs ++ behind)) ≡ false = quiet body more bs cs items others apart in
      let first = cases_exact.complete labels ls_tokens (bs ++ (cs ++ behind)) stops cases in
      let second = items_complete body bs (cs ++ behind) ahead.1 ahead.0 items (omega arith) in
      let shorter : length cs < n = omega (
        arith,
        cases_some labels ls_tokens cases,
        ap length parts,
        length-append ls_tokens (bs ++ cs),
        length-append bs cs,
      ) in
      let third = groups_complete close more n cs rest shorter others (omega arith) in
      rw (parts, append_assoc, append_assoc, goes, first, second, ahead.2, third, stmts-list_of body, ← ends) refl where
        quiet : (body : Stmts) (more : Groups) (bs cs : List Token) → AreItems body bs → AreGroups close more cs →
            is_one_group body more ≡ false → is_case (bs ++ (cs ++ sign close signs.CloseBrace ∷ rest)) ≡ false
        quiet NoStmt NoGroup bs cs items others apart = rw (items, others) refl
        quiet NoStmt (Group labels body end more) bs cs items others apart = absurd cc
        quiet (Then s more_stmts) more bs cs items others apart = starting_no_case (bs ++ (cs ++ sign close signs.CloseBrace ∷ rest))
            (items_start s more_stmts bs (cs ++ sign close signs.CloseBrace ∷ rest) items)

  switch_sound : (ts : List Token) (x : Stmt × List Token) → switch_with d f ts ≡ Some x → Deeper x ts × (takes_else x.0 ≡ false)
  unfolding switch_with groups_with all_of
  switch_sound ts x e =
      let a = bind_some (word_at (codes "switch") ts) _ x e in
      let v = bind_some (cond_at d a.0.1) _ x a.2 in
      let b = bind_some (sign_at signs.OpenBrace v.0.1) _ x v.2 in
      let g = bind_some (groups_with d f b.0.1) _ x b.2 in
      let c = bind_some (sign_at signs.CloseBrace g.0.1) _ x g.2 in
      let value = (cond_exact d).sound a.0.1 v.0 v.1 in
      let close = sign_is signs.CloseBrace g.0.1 c.0 c.1 in
      let one = (groups_sound (suc (length b.0.1)) b.0.1 g.0 c.0.0 (ap place_ahead close) g.1).0 in
      let end : List Token = sign c.0.0 signs.CloseBrace ∷ [] in
      let behind : v.0.1 ≡ (sign b.0.0 signs.OpenBrace ∷ (one.front ++ end)) ++ c.0.1 = after (sign_is signs.OpenBrace v.0.1 b.0 b.1)
      (glue one.front end c.0.1 one.parts close) in
      subst (λ (y : Stmt × List Token). Deeper y ts × (takes_else y.0 ≡ false)) (some_is (Switch a.0.0 v.0.0 (groups_of g.0.0) c.0.0, c.0.1)
      x c.2) (
        record {
          front = word a.0.0 (codes "switch") ∷ (value.front ++ sign b.0.0 signs.OpenBrace ∷ (one.front ++ end));
          parts = after (word_is (codes "switch") ts a.0 a.1) (glue value.front (sign b.0.0 signs.OpenBrace ∷ (one.front ++ end)) c.0.1
              value.parts behind);
          holds = ((b.0.0, value.front, one.front, refl, value.holds.0, one.holds.0), omega (arith, value.holds.1, one.holds.1));
        },
        refl,
      )

  switch_complete : (p a end : Place) (e : Expr) (gs : Groups) (us vs rest : List Token) → IsCondition e us → depth e ≤ d →
      AreGroups end gs vs → depth_of_groups gs ≤ d
      → switch_with d f (word p (codes "switch") ∷ ((us ++ sign a signs.OpenBrace ∷ (vs ++ sign end signs.CloseBrace ∷ [])) ++ rest)) ≡ Some
      (Switch p e gs end, rest)
  unfolding switch_with groups_with all_of
  switch_complete p a end e gs us vs rest cond lc h lg =
      let behind : List Token = sign a signs.OpenBrace ∷ ((vs ++ sign end signs.CloseBrace ∷ []) ++ rest) in
      let enough : length vs < suc (length (vs ++ sign end signs.CloseBrace ∷ rest)) =
      omega (arith, length-append vs (sign end signs.CloseBrace ∷ rest)) in
      rw (
        append_assoc,
        (cond_exact d).complete e us behind tt (cond, lc),
        append_assoc,
        groups_complete end gs
            (suc (length (vs ++ sign end signs.CloseBrace ∷ rest))) vs rest enough h lg,
        groups-list gs,
      ) refl

  -- ---- all of them

  -- what is read, with each `else` that belongs to it
  abbrev Result : (Stmt × List Token) → List Token → Type 0
  Result x ts = Deeper x ts × (is_word (codes "else") x.1 ≡ true → takes_else x.0 ≡ false)

  closed : (x : Stmt × List Token) (ts : List Token) → Deeper x ts → takes_else x.0 ≡ false → Result x ts
  closed x ts h k = (h, λ comes. k)

  simple_sound : (ts : List Token) (x : Stmt × List Token) → simple_with d f ts ≡ Some x → Result x ts
  unfolding simple_with
  simple_sound ts x e =
      elim (chosen (is_word (codes "break") ts) _ _ (Some x) e) [
        | inl h ↦ closed x ts (break_sound d ts x h.1) (closings.break_closed d ts x h.1)
        | inr g ↦ elim (chosen (is_word (codes "continue") ts) _ _ (Some x) g.1) [
          | inl h ↦ closed x ts (continue_sound d ts x h.1) (closings.continue_closed d ts x h.1)
          | inr g ↦ elim (chosen (is_word (codes "return") ts) _ _ (Some x) g.1) [
            | inl h ↦ closed x ts (return_sound d ts x h.1) (closings.return_closed d ts x h.1)
            | inr g ↦ elim (chosen (is_assign ts) _ _ (Some x) g.1) [
              | inl h ↦ closed x ts (assign_sound d ts x h.1) (closings.assign_closed d ts x h.1)
              | inr h ↦ closed x ts (evaluation_sound d ts x h.1) (closings.evaluation_closed d ts x h.1)
            ]
          ]
        ]
      ]

  stmt_with_sound : (ts : List Token) (x : Stmt × List Token) → stmt_with d f ts ≡ Some x → Result x ts
  unfolding stmt_with
  stmt_with_sound ts x e =
      elim (chosen (is_sign signs.OpenBrace ts) _ _ (Some x) e) [
        | inl h ↦ let one = block_sound ts x h.1 in closed x ts one.0 one.1
        | inr g ↦ elim (chosen (is_sign signs.Semicolon ts) _ _ (Some x) g.1) [
          | inl h ↦ closed x ts (empty_sound d ts x h.1) (closings.empty_closed d ts x h.1)
          | inr g ↦ elim (chosen (is_word (codes "if") ts) _ _ (Some x) g.1) [
            | inl h ↦ if_sound ts x h.1
            | inr g ↦ elim (chosen (is_word (codes "while") ts || is_word (codes "do") ts) _ _ (Some x) g.1) [
              | inl h ↦ unlabelled_sound ts x h.1
              | inr g ↦ elim (chosen (is_word (codes "switch") ts) _ _ (Some x) g.1) [
                | inl h ↦ let one = switch_sound ts x h.1 in closed x ts one.0 one.1
                | inr g ↦ elim (chosen (is_label ts) _ _ (Some x) g.1) [
                  | inl h ↦ labelled_sound ts x h.1
                  | inr h ↦ simple_sound ts x h.1
                ]
              ]
            ]
          ]
        ]
      ]

  by_simple : (ts : List Token) → Simple ts → stmt_with d f ts ≡ (if is_assign ts then assign_at d ts else evaluation_at d ts)
  unfolding stmt_with simple_with
  by_simple ts s = rw (s.brace, s.semicolon, s.no_if, s.no_while, s.no_do, s.no_switch, s.no_label, s.no_break, s.no_continue, s.no_return)
      refl

  -- a name in front of ":"
  by_label : (p a : Place) (n : Name) (ts : List Token) → IsName n → stmt_with d f (word p n ∷ sign a signs.Colon ∷ ts) ≡ loop_with d f
      (Some (p, n)) ts
  unfolding stmt_with labelled_with
  by_label p a n ts name =
      rw (
        name_is_not n (codes "if") name no_name_if,
        name_is_not n (codes "while") name no_name_while,
        name_is_not n (codes "do") name
            no_name_do,
        name_is_not n (codes "switch") name no_name_switch,
        name,
      ) refl

  by_while : (a : Place) (ts : List Token) → stmt_with d f (word a (codes "while") ∷ ts) ≡ loop_with d f None (word a (codes "while") ∷ ts)
  unfolding stmt_with
  by_while a ts = refl

  by_do : (a : Place) (ts : List Token) → stmt_with d f (word a (codes "do") ∷ ts) ≡ loop_with d f None (word a (codes "do") ∷ ts)
  unfolding stmt_with
  by_do a ts = refl

  stmt_with_complete : (s : Stmt) (ts rest : List Token) → (takes_else s ≡ true → NotElse rest) → DeepStmt (suc d) s ts →
      stmt_with d f (ts ++ rest) ≡ Some (s, rest)
  unfolding stmt_with simple_with
  stmt_with_complete (Block p body end) ts rest fine ((us, parts, h), le) =
      rw (parts, append_assoc) (block_complete p end body us rest h (omega arith))
  stmt_with_complete (Empty p) ts rest fine (parts, le) = let whole = empty_complete p ts rest parts in rw parts (rw parts at whole)
  stmt_with_complete (Local p ty n e) ts rest fine (h, le) = absurd h
  stmt_with_complete (Assign p t v) ts rest fine (h, le) =
      let led = assign_simple p t v ts rest h in
      by_simple (ts ++ rest) led.0 ∙ rw led.1 (assign_complete d p t v ts rest (h, le))
  stmt_with_complete (If p c s) ts rest fine ((us, vs, parts, cond, h), le) =
      rw parts (if_complete p c s us vs rest (fine refl) cond (omega arith) h (omega arith))
  stmt_with_complete (IfElse p c s r) ts rest fine ((a, us, vs, ws, parts, cond, h, closed_if, g), le) =
      rw parts (if_else_complete p a c s r us vs ws rest fine cond (omega arith) h (omega arith) closed_if g (omega arith))
  stmt_with_complete (While p None c s) ts rest fine ((a, us, vs, ws, parts, (same, none), cond, h), le) =
      rw (parts, none) (by_while a ((vs ++ ws) ++ rest) ∙ while_complete a None c s vs ws rest fine cond (omega arith) h (omega arith) ∙
      ap (λ (q : Place). Some (While q None c s, rest)) (sym same))
  stmt_with_complete (While p (Some n) c s) ts rest fine ((a, us, vs, ws, parts, (name, b, label), cond, h), le) =
      rw (parts, label) (by_label p b n (word a (codes "while") ∷ ((vs ++ ws) ++ rest)) name ∙ while_complete a (Some (p, n)) c s vs ws rest
      fine cond (omega arith) h (omega arith))
  stmt_with_complete (Do p None s c) ts rest fine ((a, b, g, us, vs, ws, parts, (same, none), h, cond), le) =
      rw (parts, none) (by_do a ((vs ++ word b (codes "while") ∷ (ws ++ sign g signs.Semicolon ∷ [])) ++ rest) ∙ do_complete a b g None c s
      vs ws rest h (omega arith) cond (omega arith)
      ∙ ap (λ (q : Place). Some (Do q None s c, rest)) (sym same))
  stmt_with_complete (Do p (Some n) s c) ts rest fine ((a, b, g, us, vs, ws, parts, (name, k, label), h, cond), le) =
      rw (parts, label) (by_label p k n (word a (codes "do") ∷ ((vs ++ word b (codes "while") ∷ (ws ++ sign g signs.Semicolon ∷ []))
      ++ rest)) name
      ∙ do_complete a b g (Some (p, n)) c s vs ws rest h (omega arith) cond (omega arith))
  stmt_with_complete (Switch p e gs end) ts rest fine ((a, us, vs, parts, cond, h), le) =
      rw parts (switch_complete p a end e gs us vs rest cond (omega arith) h (omega arith))
  stmt_with_complete (Break p l) ts rest fine ((a, us, parts, h), le) =
      let whole = break_complete p l ts rest (a, us, parts, h) in
      rw (parts, no_name_break) (rw parts at whole)
  stmt_with_complete (Continue p l) ts rest fine ((a, us, parts, h), le) =
      let whole = continue_complete p l ts rest (a, us, parts, h) in
      rw (parts, no_name_continue) (rw parts at whole)
  stmt_with_complete (Return p e) ts rest fine ((a, us, parts, h), le) =
      let whole = return_complete d p e ts rest ((a, us, parts, h), le) in
      rw (parts, no_name_return) (rw parts at whole)
  stmt_with_complete (Print p e) ts rest fine ((begins, c, a, us, parts, free, is), le) =
      let together : ts ++ rest ≡ us ++ sign a signs.Semicolon ∷ rest = ap (λ (z : List Token). z ++ rest) parts ∙
      append_assoc us (sign a signs.Semicolon ∷ []) rest in
      let led = evaluated_led c us a rest (free_call c us (printed_call c e is) free) in
      let simple : Simple (ts ++ rest) = subst Simple (sym together) led.0 in
      let other : is_assign (ts ++ rest) ≡ false = ap is_assign together ∙ led.1 in
      by_simple (ts ++ rest) simple ∙ rw other (print_complete d p e ts rest ((begins, c, a, us, parts, free, is), le))
  stmt_with_complete (Eval p e) ts rest fine ((begins, c, a, us, parts, free, is), le) =
      let together : ts ++ rest ≡ us ++ sign a signs.Semicolon ∷ rest = ap (λ (z : List Token). z ++ rest) parts ∙
      append_assoc us (sign a signs.Semicolon ∷ []) rest in
      let led = evaluated_led c us a rest (free_call c us is.1 free) in
      let simple : Simple (ts ++ rest) = subst Simple (sym together) led.0 in
      let other : is_assign (ts ++ rest) ≡ false = ap is_assign together ∙ led.1 in
      by_simple (ts ++ rest) simple ∙ rw other (eval_complete d p e ts rest ((begins, c, a, us, parts, free, is), le))

stmt_deep : (s : Stmt) → 0 < depth_of_stmt s
stmt_deep (Block p body end) = omega arith
stmt_deep (Empty p) = omega arith
stmt_deep (Local p ty n e) = omega arith
stmt_deep (Assign p t e) = omega arith
stmt_deep (If p c s) = omega arith
stmt_deep (IfElse p c s r) = omega arith
stmt_deep (While p l c s) = omega arith
stmt_deep (Do p l s c) = omega arith
stmt_deep (Switch p e gs end) = omega arith
stmt_deep (Break p l) = omega arith
stmt_deep (Continue p l) = omega arith
stmt_deep (Return p e) = omega arith
stmt_deep (Print p e) = omega arith
stmt_deep (Eval p e) = omega arith

pub stmt_exact : (d : ℕ) → StmtExact (stmt_at d) d
unfolding stmt_at
stmt_exact zero = record {
  sound = λ ts x e. absurd (none_is_not x e);
  greedy = λ ts x e comes. absurd (none_is_not x e);
  complete = λ s ts rest fine h. absurd (omega (arith, stmt_deep s, h.1));
}
stmt_exact (suc d) = record {
  sound = λ ts x e. (stmt_with_sound d (stmt_at d) (stmt_exact d) ts x e).0;
  greedy = λ ts x e. (stmt_with_sound d (stmt_at d) (stmt_exact d) ts x e).1;
  complete = stmt_with_complete d (stmt_at d) (stmt_exact d);
}
