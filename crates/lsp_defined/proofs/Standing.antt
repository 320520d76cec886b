-- The calls of a protocol's text are those of the class that is made of the protocol.
use Rattle.std.proofs.Common.{◌≡◌, ℕ, Bool, true, false, List, [], ◌∷◌, ◌++◌, map, refl, sym, ap, ◌∙◌}
use Rattle.std.specs.Str.{bytes_eq}
use Rattle.std.proofs.lemmas.List.{map-append}
use Rattle.mg_text.specs.Call.{Name}
use Rattle.mg_text.specs.declared.place.Place.{Place}
use Rattle.scr_tree.specs.Tree.{PartTree, Statements, Nothing, Says, Choice, Rec, Continue, Do, Branches, NoBranch, Branch, body_in, other}
use Rattle.scr_tree.specs.Meaning.{message_of}
use Rattle.scr_tree.specs.CallNames.{message_call}
use Rattle.scr_tree.specs.Actions.{Action, actions, actions_in, all_actions, looked_unless, next, next_in, opened, peer_in}
use Rattle.stm_api.specs.Doings.{Doing, call_of}
use Rattle.stm_api.specs.inner.Does as api
use Rattle.stm_api.proofs.Laws.{all_done}
use Rattle.lsp_defined.specs.Called.{role_in}
use Rattle.lsp_defined.specs.Laws.{called, EachCallStands}

module _ (me : Name) where
  joined : (a b : List Action) (x y : List Doing) → map called a ≡ map (call_of me) x → map called b ≡ map (call_of me) y →
      map called (a ++ b) ≡ map (call_of me) (x ++ y)
  joined a b x y e h =
      map-append called a b
      ∙ ap (λ (r : List Name). r ++ map called b) e
      ∙ ap (λ (r : List Name). map (call_of me) x ++ r) h
      ∙ sym (map-append (call_of me) x y)

  look_same : (self : Bool) (n : ℕ) (p : Place) (bs : Branches) →
      map called (looked_unless self me n p (peer_in bs)) ≡ map (call_of me) (api.look_unless self n bs)
  look_same true n p bs = refl
  look_same false n p NoBranch = refl
  look_same false n p (Branch Nothing more) = refl
  look_same false n p (Branch (Says m rest) more) = refl
  look_same false n p (Branch (Choice q at bs rest) more) = refl
  look_same false n p (Branch (Rec q name body rest) more) = refl
  look_same false n p (Branch (Continue q name rest) more) = refl
  look_same false n p (Branch (Do q name rest) more) = refl

  mutual
    calls_same : (t : Statements) (n : ℕ) → map called (actions me n t) ≡ map (call_of me) (api.does me n t)
    calls_same Nothing n = refl
    calls_same (Says m rest) n = ap (λ (r : List Name). message_call (message_of m) ∷ r) (calls_same rest n)
    calls_same (Choice p at bs rest) n =
        let self = bytes_eq at me in
        let k = opened self n in
        joined (looked_unless self me n p (peer_in bs)) (actions_in me k bs ++ actions me (next_in me k bs) rest)
        (api.look_unless self n bs) (api.does_in me k bs ++ api.does me (next_in me k bs) rest) (look_same self n p bs)
        (joined (actions_in me k bs) (actions me (next_in me k bs) rest) (api.does_in me k bs) (api.does me (next_in me k bs) rest)
        (calls_in_same bs k) (calls_same rest (next_in me k bs)))
    calls_same (Rec p name body rest) n =
        joined (actions me n body) (actions me (next me n body) rest) (api.does me n body) (api.does me (next me n body) rest)
        (calls_same body n) (calls_same rest (next me n body))
    calls_same (Continue p name rest) n = calls_same rest n
    calls_same (Do p name rest) n = calls_same rest n

    calls_in_same : (bs : Branches) (n : ℕ) → map called (actions_in me n bs) ≡ map (call_of me) (api.does_in me n bs)
    calls_in_same NoBranch n = refl
    calls_in_same (Branch b more) n =
        joined (actions me n b) (actions_in me (next me n b) more) (api.does me n b) (api.does_in me (next me n b) more)
        (calls_same b n) (calls_in_same more (next me n b))

  parts_same : (ps : List PartTree) (n : ℕ) →
      map called (all_actions (role_in me) body_in n (map other ps)) ≡ map (call_of me) (api.all_does me n (map api.part_body ps))
  parts_same [] n = refl
  parts_same (p ∷ ps) n =
      joined (actions me n p.body) (all_actions (role_in me) body_in (next me n p.body) (map other ps)) (api.does me n p.body)
      (api.all_does me (next me n p.body) (map api.part_body ps)) (calls_same p.body n) (parts_same ps (next me n p.body))

pub each_stands : EachCallStands
each_stands local =
    let me = local.me in
    let behind = next me 1 local.body in
    let front = api.does me 1 local.body in
    let whole = front ++ api.all_does me behind (map api.part_body local.others) in
    joined me (actions me 1 local.body) (all_actions (role_in me) body_in behind (map other local.others)) front
    (api.all_does me behind (map api.part_body local.others)) (calls_same me local.body 1) (parts_same me local.others behind)
    ∙ ap (map (call_of me)) (all_done local whole front [] me behind local.body local.others refl refl refl refl refl refl refl)
