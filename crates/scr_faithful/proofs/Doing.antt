-- What roles have done on a path is what is kept of them.
use Rattle.std.proofs.Common.{◌≡◌, ℕ, suc, ◌+◌, List, [], ◌∷◌, ◌++◌, refl, sym, ap, ◌∙◌, subst, Bool, true, false, arith}
use Rattle.std.proofs.lemmas.List.{append-nil}
use Rattle.std.specs.Prelude.{Contains}
use Rattle.std.specs.Str.{bytes_eq}
use Rattle.mg_text.specs.Call.{Name}
use Rattle.scr_tree.specs.Protocol.{Message, Send, Take, Protocol}
use Rattle.scr_tree.specs.Steps.{Act, Moves, Looks}
use Rattle.scr_global.specs.Global.{Global}
use Rattle.scr_global.specs.Systems.{System, Moved, sends, takes, looks, Reaches, here, after, initial, if_same, put}
use Rattle.scr_global.specs.Laws.{messages_of}
use Rattle.scr_global.proofs.Premises.{Projections}
use Rattle.scr_global.proofs.Names.{is_same}
use Rattle.scr_global.proofs.Stepping.{step_moves}
use Rattle.scr_global.proofs.Holding.{Holds, at_start, holds_on}
use Rattle.scr_faithful.specs.Faithful.{acts_on}

pub messages_both : (xs ys : List Act) → messages_of (xs ++ ys) ≡ messages_of xs ++ messages_of ys
messages_both [] ys = refl
messages_both (Moves m ∷ xs) ys = ap (λ ms. m ∷ ms) (messages_both xs ys)
messages_both (Looks number peer label ∷ xs) ys = messages_both xs ys

-- the branches that a role picks by an act
abbrev pub picks_in : {me : Name} {c d : System} {act : Act} → Moved me c act d → List ℕ
picks_in (sends step) = (step_moves step).0
picks_in (takes step found) = (step_moves step).0
picks_in (looks step found) = []

-- the branches that each role has picked on a path
abbrev pub picks_on : {roles : List Name} {c d : System} → Reaches roles c d → Name → List ℕ
picks_on here = λ me. []
picks_on (after {me = me} path listed moved) = put me (picks_on path me ++ picks_in moved) (picks_on path)

put_nothing : {X : Type 0} (me : Name) (made : Name → List X) (q : Name) → made q ≡ put me (made me ++ []) made q
put_nothing me made q = go (bytes_eq q me) refl
  where
    go : (b : Bool) → bytes_eq q me ≡ b → made q ≡ if_same b (made me ++ []) (made q)
    go true e = ap made (is_same e) ∙ sym (append-nil (made me))
    go false e = refl

put_same : {X : Type 0} (me : Name) (xs : List X) (made others : Name → List X) → ((q : Name) → made q ≡ others q) → (q : Name) →
    put me (made me ++ xs) made q ≡ put me (others me ++ xs) others q
put_same me xs made others h q = go (bytes_eq q me)
  where
    go : (b : Bool) → if_same b (made me ++ xs) (made q) ≡ if_same b (others me ++ xs) (others q)
    go true = ap (λ ys. ys ++ xs) (h me)
    go false = h q

module _ (roles : List Name) (g : Global) (protocols : Name → Protocol) (are : Projections roles g protocols) where
  -- what each role has done and picked is what is kept of it
  abbrev pub Kept : ℕ → ℕ → System → (Name → List Act) → (Name → List ℕ) → Type 0
  Kept most n c acts picks =
      (h : Holds roles g protocols are most n c) × ((q : Name) → h.done q ≡ messages_of (acts q)) × ((q : Name) → h.made q ≡ picks q)

  moved_on : (acts : Name → List Act) (me : Name) (m : Message) (done : Name → List Message) → ((q : Name) → done q ≡ messages_of (acts q)) →
      (q : Name) → put me (done me ++ m ∷ []) done q ≡ messages_of (put me (acts me ++ Moves m ∷ []) acts q)
  moved_on acts me m done k q = go (bytes_eq q me)
    where
      go : (b : Bool) → if_same b (done me ++ m ∷ []) (done q) ≡ messages_of (if_same b (acts me ++ Moves m ∷ []) (acts q))
      go true = ap (λ ms. ms ++ m ∷ []) (k me) ∙ sym (messages_both (acts me) (Moves m ∷ []))
      go false = k q

  looked_on : (acts : Name → List Act) (me peer label : Name) (number : ℕ) (done : Name → List Message) →
      ((q : Name) → done q ≡ messages_of (acts q)) →
      (q : Name) → done q ≡ messages_of (put me (acts me ++ Looks number peer label ∷ []) acts q)
  looked_on acts me peer label number done k q = go (bytes_eq q me) refl
    where
      go : (b : Bool) → bytes_eq q me ≡ b → done q ≡ messages_of (if_same b (acts me ++ Looks number peer label ∷ []) (acts q))
      go true e =
          k q ∙ ap (λ x. messages_of (acts x)) (is_same e) ∙ sym (append-nil (messages_of (acts me)))
          ∙ sym (messages_both (acts me) (Looks number peer label ∷ []))
      go false e = k q

  kept_on : (most n : ℕ) (c : System) (me : Name) (act : Act) (d : System) (l : Contains roles me) (acts : Name → List Act)
      (picks : Name → List ℕ) → Kept most (suc n) c acts picks → (m : Moved me c act d) →
      Kept most n d (put me (acts me ++ act ∷ []) acts) (put me (picks me ++ picks_in m) picks)
  unfolding holds_on
  kept_on most n c me act d l acts picks k (sends {peer = peer} {label = label} {kind = kind} step) = (
    holds_on roles g protocols are most n c me act d l k.0 (sends step),
    moved_on acts me (Send peer label kind) k.0.done k.1,
    put_same me (step_moves step).0 k.0.made picks k.2,
  )
  kept_on most n c me act d l acts picks k (takes {peer = peer} {label = label} {kind = kind} step found) = (
    holds_on roles g protocols are most n c me act d l k.0 (takes step found),
    moved_on acts me (Take peer label kind) k.0.done k.1,
    put_same me (step_moves step).0 k.0.made picks k.2,
  )
  kept_on most n c me act d l acts picks k (looks {number = number} {peer = peer} {label = label} step found) = (
    holds_on roles g protocols are most n c me act d l k.0 (looks step found),
    looked_on acts me peer label number k.0.done k.1,
    λ q. k.2 q ∙ put_nothing me picks q,
  )

  first : (most : ℕ) → Kept most most (initial protocols) (λ q. []) (λ q. [])
  unfolding at_start
  first most = (at_start roles g protocols are most, (λ q. refl), (λ q. refl))

  -- where so many steps were done, it holds at each later moment, if recs turn often enough
  pub kept : {b c : System} (path : Reaches roles b c) → b ≡ initial protocols →
      (s : ℕ) × ((most n : ℕ) → most ≡ s + n → Kept most n c (acts_on path) (picks_on path))
  kept {b} here e = (
    0,
    λ most n f. let same_most : most ≡ n = omega arith in
        subst (λ k. Kept most k b (λ q. []) (λ q. [])) same_most (subst (λ x. Kept most most x (λ q. []) (λ q. [])) (sym e) (first most)),
  )
  kept (after {d = d} {e = c} {me = me} {act = act} path l m) e =
      let ih = kept path e in
      (suc ih.0, λ most n f. kept_on most n d me act c l (acts_on path) (picks_on path) (ih.1 most (suc n) (omega arith)) m)
