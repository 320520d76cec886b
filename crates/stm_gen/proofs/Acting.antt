-- Each step of a state is one of the actions of the text, and methods of one name have one signature.
use Rattle.std.proofs.Common.{◌≡◌, ◌≢◌, ℕ, zero, suc, ◌+◌, List, [], ◌∷◌, ◌++◌, get_or, Some, refl, sym, ap, ◌∙◌, subst, inl, inr, ⊎_elim}
use Rattle.std.proofs.Common.{Bool, true, false, if◌then◌else◌, arith, add-one, eqb}
use Rattle.std.specs.Prelude.{Contains, slice_get}
use Rattle.std.specs.Str.{bytes_eq}
use Rattle.std.proofs.Math.Logic.{∥∥₁_elim}
use Rattle.std.proofs.lemmas.Bool.Decides.{Decides-eqb}
use Rattle.mg_text.specs.Call.{Name}
use Rattle.mg_read.specs.Culprit.{culprit}
use Rattle.mg_read.specs.First.{Clean, behind, with_earlier}
use Rattle.scr_tree.specs.declared.syntax.Payload.{Payload}
use Rattle.scr_tree.specs.declared.syntax.Payload.TheVariants as payloads
use Rattle.scr_tree.specs.declared.syntax.Message.{Message as Said}
use Rattle.scr_tree.specs.Tree.{LocalTree, Titled, titled, body_in, Statements, Nothing, Says, Choice, Rec, Continue, Do, NoBranch, Branch}
use Rattle.scr_tree.specs.Tree as tree
use Rattle.scr_tree.specs.Actions.{Action, Deed, said, peer_in, looked, opened, looked_unless, next, next_in, actions, actions_in}
use Rattle.scr_tree.specs.Actions.{all_actions, NameClash}
use Rattle.scr_tree.specs.Actions as deeds
use Rattle.scr_tree.specs.CallNames.{message_call, label_call, call_of}
use Rattle.scr_tree.specs.Meaning.{choices, choices_in, numbered, numbered_in, numbered_parts, message_of, protocol_of}
use Rattle.scr_tree.specs.Protocol.{Message, Send, Take, peer_of, label_of, Protocol, ChoiceHere, ChoiceThere}
use Rattle.scr_tree.specs.Steps.{Act, Moves, Looks, Part, Plain, BodyOf, Left, Position}
use Rattle.scr_tree.specs.Valid.{IsValid, names_in}
use Rattle.scr_trace.specs.Positions.{states_in, states_here, states_there, state_positions}
use Rattle.scr_trace.specs.Onward.{Onward, sends, looks, steps_at}
use Rattle.scr_trace.specs.Graph.{Edge, AreStates}
use Rattle.scr_trace.specs.inner.Goes.{Among}
use Rattle.scr_trace.proofs.Parts
use Rattle.scr_trace.proofs.Matching.{peer_is}
use Rattle.scr_trace.proofs.Valid.{AllSound, clean_once, first_or_later, none_contained, valid_sound}
use Rattle.scr_trace.proofs.Rules.{Sound, SoundIn, SoundFirst}
use Rattle.scr_trace.proofs.Telling.{AllLook, OneChoice, moving, looking, AllTold}
use Rattle.scr_trace.proofs.Following.{position_there, step_of_edge}
use Rattle.ts_tree.specs.declared.parts.TypeName.{TypeName}
use Rattle.ts_tree.specs.declared.parts.TypeName.TheVariants as types
use Rattle.ts_tree.specs.Typestate.{Method, State}
use Rattle.ts_tree.specs.Proper.{IsOffered}
use Rattle.stm_gen.specs.Laid.{result_of, params_of, method_of, branches_of, label_method, methods_by, methods_of, choice_enum, state_name}
use Rattle.stm_gen.specs.inner.States.{states_from}
use Rattle.stm_gen.proofs.Proper.{HaveOneSignature}

-- ---- the numbers of choices

opening : (self : Bool) (n a b : ℕ) → (opened self n + a) + b ≡ n + ((if self then 0 else 1) + a + b)
opening true n a b = omega arith
opening false n a b = omega arith

mutual
  pub next_is : (me : Name) (t : Statements) (n : ℕ) → next me n t ≡ n + choices me t
  next_is me Nothing n = omega arith
  next_is me (Says m rest) n = next_is me rest n
  next_is me (Choice place at bs rest) n =
      next_is me rest (next_in me (opened (bytes_eq at me) n) bs)
      ∙ ap (λ k. k + choices me rest) (next_in_is me bs (opened (bytes_eq at me) n))
      ∙ opening (bytes_eq at me) n (choices_in me bs) (choices me rest)
  next_is me (Rec place name body rest) n = next_is me rest (next me n body) ∙ ap (λ k. k + choices me rest) (next_is me body n) ∙
      (let e : (n + choices me body) + choices me rest ≡ n + (choices me body + choices me rest) = omega arith in e)
  next_is me (Continue place name rest) n = next_is me rest n
  next_is me (Do place name rest) n = next_is me rest n

  pub next_in_is : (me : Name) (bs : tree.Branches) (n : ℕ) → next_in me n bs ≡ n + choices_in me bs
  next_in_is me NoBranch n = omega arith
  next_in_is me (Branch b more) n = next_in_is me more (next me n b) ∙ ap (λ k. k + choices_in me more) (next_is me b n) ∙
      (let e : (n + choices me b) + choices_in me more ≡ n + (choices me b + choices_in me more) = omega arith in e)

-- ---- the actions of steps

-- the deed that is done by a step
abbrev IsDeed : Act → Deed → Type 0
IsDeed (Moves m) d = d ≡ deeds.Moves m
IsDeed (Looks n peer label) d = d ≡ deeds.Looks n

record Acted (me : Name) (all : List Action) (act : Act) : Type 0 where
  action : Action
  among : Among all action
  named : action.call ≡ (call_of me act).method
  deed : IsDeed act action.deed

abbrev AllActed : Name → List Action → List Onward → Type 0
AllActed me all [] = Unit {0}
AllActed me all (s ∷ ss) = Acted me all s.act × AllActed me all ss

abbrev StatesActed : Name → List Action → List Position → Type 0
StatesActed me all [] = Unit {0}
StatesActed me all (p ∷ ps) = AllActed me all (steps_at p) × StatesActed me all ps

acted_both : (me : Name) (all : List Action) (ps qs : List Position) → StatesActed me all ps → StatesActed me all qs →
    StatesActed me all (ps ++ qs)
acted_both me all [] qs a b = b
acted_both me all (p ∷ ps) qs a b = (a.0, acted_both me all ps qs a.1 b)

-- these are among all
abbrev Within : List Action → List Action → Type 0
Within all xs = (a : Action) → Among xs a → Among all a

among_front : {A : Type 0} (xs ys : List A) (x : A) → Among xs x → Among (xs ++ ys) x
among_front [] ys x a = absurd a
among_front (z ∷ xs) ys x a = ⊎_elim (λ e. inl e) (λ b. inr (among_front xs ys x b)) a

among_behind : {A : Type 0} (xs ys : List A) (x : A) → Among ys x → Among (xs ++ ys) x
among_behind [] ys x a = a
among_behind (z ∷ xs) ys x a = inr (among_behind xs ys x a)

within_front : (all xs ys : List Action) → Within all (xs ++ ys) → Within all xs
within_front all xs ys h a among = h a (among_front xs ys a among)

within_behind : (all xs ys : List Action) → Within all (xs ++ ys) → Within all ys
within_behind all xs ys h a among = h a (among_behind xs ys a among)

module _ (me : Name) (protocols : List Name) (all : List Action) where
  message_acted : (m : Said) (xs : List Action) → Within all (said m ∷ xs) → Acted me all (Moves (message_of m))
  message_acted m xs h = record { action = said m; among = h (said m) (inl refl); named = refl; deed = refl }

  -- the first messages of the branches
  sends_acted : (bs : tree.Branches) (names : List Name) → SoundIn protocols names bs → (n m : ℕ) (around : Position) →
      Within all (actions_in me n bs) → AllActed me all (sends around (numbered_in me m bs))
  sends_acted NoBranch names h n m around w = tt
  sends_acted (Branch (Says q rest) more) names h n m around w = (
    message_acted q _ w,
    sends_acted more names h.1 (next me n rest) (m + choices me rest) around
        (within_behind all (actions me n (Says q rest)) _ w),
  )
  sends_acted (Branch Nothing more) names h n m around w = absurd h.0
  sends_acted (Branch (Choice place at bs rest) more) names h n m around w = absurd h.0
  sends_acted (Branch (Rec place name body rest) more) names h n m around w = absurd h.0
  sends_acted (Branch (Continue place name rest) more) names h n m around w = absurd h.0
  sends_acted (Branch (Do place name rest) more) names h n m around w = absurd h.0

  -- the looks at a choice, which are at one peer
  looks_acted : (steps : List Onward) (n : ℕ) (peer : Name) → AllLook n peer steps → (a : Action) → Among all a →
      a.call ≡ label_call me n peer → a.deed ≡ deeds.Looks n → AllActed me all steps
  looks_acted [] n peer h a among named deed = tt
  looks_acted (s ∷ ss) n peer h a among named deed = (
    subst (Acted me all) (sym h.0.1) (record { action = a; among = among; named = named; deed = deed }),
    looks_acted ss n peer h.1 a
        among named deed,
  )

  look_here : (bs : tree.Branches) (names : List Name) → SoundIn protocols names bs → (place : _) (n m : ℕ) (around : Position)
      (xs : List Action) → OneChoice (looks n around (numbered_in me m bs)) → Within all (looked me n place (peer_in bs) ++ xs) →
      AllActed me all (looks n around (numbered_in me m bs))
  look_here NoBranch names h place n m around xs one w = tt
  look_here (Branch (Says q rest) more) names h place n m around xs one w = by one
    where
      look_parts : (a b : ℕ) (p r l k : Name) → Looks a p l ≡ Looks b r k → (a ≡ b) × (p ≡ r)
      look_parts a b p r l k e = (cc, cc)

      by : OneChoice (looks n around (numbered_in me m (Branch (Says q rest) more))) →
          AllActed me all (looks n around (numbered_in me m (Branch (Says q rest) more)))
      by (moving g) = let e = g.0.1 in cc
      by (looking k peer g) =
          let e = look_parts n k (peer_of (message_of q)) peer (label_of (message_of q)) g.0.0 g.0.1 in
          looks_acted (looks n around (numbered_in me m (Branch (Says q rest) more))) k peer g
          (record { place = place; call = label_call me n q.peer; deed = deeds.Looks n })
          (w _ (inl refl)) (λ i. label_call me (e.0 i) ((sym (peer_is q) ∙ e.1) i)) (ap deeds.Looks e.0)
  look_here (Branch Nothing more) names h place n m around xs one w = absurd h.0
  look_here (Branch (Choice p at bs rest) more) names h place n m around xs one w = absurd h.0
  look_here (Branch (Rec p name body rest) more) names h place n m around xs one w = absurd h.0
  look_here (Branch (Continue p name rest) more) names h place n m around xs one w = absurd h.0
  look_here (Branch (Do p name rest) more) names h place n m around xs one w = absurd h.0

  told_front : (ps qs : List Position) → AllTold me (ps ++ qs) → AllTold me ps
  told_front [] qs t = tt
  told_front (p ∷ ps) qs t = (t.0, told_front ps qs t.1)

  told_behind : (ps qs : List Position) → AllTold me (ps ++ qs) → AllTold me qs
  told_behind [] qs t = t
  told_behind (p ∷ ps) qs t = told_behind ps qs t.1

  shift : (P Q : ℕ → Type 0) (m n : ℕ) → m ≡ n → (P n → Q n) → P m → Q m
  shift P Q m n e f = subst (λ k. P k → Q k) (sym e) f

  choice_acted : (self : Bool) (place : _) (n : ℕ) (part : Part) (around : Position) (bs : tree.Branches) (rest : Statements)
      (names : List Name) → SoundIn protocols names bs →
      Within all (looked_unless self me n place (peer_in bs)
      ++ (actions_in me (opened self n) bs ++ actions me (next_in me (opened self n) bs) rest)) →
      ((m : ℕ) (out : Position) → m ≡ opened self n → AllTold me (Parts.within self out (numbered_in me m bs)) →
      StatesActed me all (Parts.within self out (numbered_in me m bs))) →
      ((m : ℕ) → m ≡ next_in me (opened self n) bs → AllTold me (states_in part around (numbered me m rest)) →
      StatesActed me all (states_in part around (numbered me m rest))) →
      AllTold me (states_in part around (if self then ChoiceHere (numbered_in me n bs) (numbered me (n + choices_in me bs) rest) else
      ChoiceThere n (numbered_in me (suc n) bs) (numbered me (suc n + choices_in me bs) rest))) →
      StatesActed me all (states_in part around (if self then ChoiceHere (numbered_in me n bs) (numbered me (n + choices_in me bs) rest)
      else ChoiceThere n (numbered_in me (suc n) bs) (numbered me (suc n + choices_in me bs) rest)))
  choice_acted true place n part around bs rest names h w inside behind told =
      let r : Protocol = numbered me (n + choices_in me bs) rest in
      let out : Position = Left r part ∷ around in (
        sends_acted bs names h n n out (within_front all (actions_in me n bs) _ w),
        acted_both me all (states_here out (numbered_in me n bs)) (states_in part around r)
            (inside n out refl (told_front (states_here out (numbered_in me n bs)) _ told.1))
            (behind (n + choices_in me bs) (sym (next_in_is me bs n)) (told_behind (states_here out (numbered_in me n bs)) _ told.1)),
      )
  choice_acted false place n part around bs rest names h w inside behind told =
      let r : Protocol = numbered me (suc n + choices_in me bs) rest in
      let out : Position = Left r part ∷ around in (
        look_here bs names h place n (suc n) out _ told.0.one w,
        acted_both me all (states_there out (numbered_in me (suc n) bs)) (states_in part around r)
            (inside (suc n) out (sym (add-one n)) (told_front (states_there out (numbered_in me (suc n) bs)) _ told.1))
            (behind (suc n + choices_in me bs) (ap (λ k. k + choices_in me bs) (sym (add-one n)) ∙ sym (next_in_is me bs (n + 1)))
            (told_behind (states_there out (numbered_in me (suc n) bs)) _ told.1)),
      )

  none_acted : (ps : List Position) → ps ≡ [] → StatesActed me all ps
  none_acted ps e = subst (StatesActed me all) (sym e) tt

  mutual
    acted : (t : Statements) (names : List Name) → Sound protocols names t → (n : ℕ) (part : Part) (around : Position) →
        Within all (actions me n t) → AllTold me (states_in part around (numbered me n t)) →
        StatesActed me all (states_in part around (numbered me n t))
    acted Nothing names h n part around w told = tt
    acted (Says m rest) names h n part around w told =
        ((message_acted m _ w, tt), acted rest names h n part around (λ a b. w a (inr b)) told.1)
    acted (Choice place at bs rest) names h n part around w told =
        let self : Bool = bytes_eq at me in
        let both = within_behind all (looked_unless self me n place (peer_in bs)) (actions_in me (opened self n) bs
        ++ actions me (next_in me (opened self n) bs) rest) w in
        choice_acted self place n part around bs rest names h.0 w
        (λ m out e. shift (λ k. AllTold me (Parts.within self out (numbered_in me k bs)))
        (λ k. StatesActed me all (Parts.within self out (numbered_in me k bs))) m (opened self n) e
        (acted_in bs names h.0 self (opened self n) out (within_front all (actions_in me (opened self n) bs) _ both)))
        (λ m e. shift (λ k. AllTold me (states_in part around (numbered me k rest)))
        (λ k. StatesActed me all (states_in part around (numbered me k rest))) m (next_in me (opened self n) bs) e
        (acted rest names h.1 (next_in me (opened self n) bs) part around (within_behind all (actions_in me (opened self n) bs) _ both)))
        told
    acted (Rec place name body rest) names h n part around w told =
        let p : Protocol = numbered me n body in
        let r : Protocol = numbered me (n + choices me body) rest in
        acted_both me all (states_in (BodyOf name p) (Left r part ∷ around) p) (states_in part around r)
        (acted body (name ∷ names) h.1 n (BodyOf name p) (Left r part ∷ around) (within_front all (actions me n body) _ w)
        (told_front (states_in (BodyOf name p) (Left r part ∷ around) p) _ told))
        (shift (λ k. AllTold me (states_in part around (numbered me k rest)))
        (λ k. StatesActed me all (states_in part around (numbered me k rest))) (n + choices me body) (next me n body)
        (sym (next_is me body n))
        (acted rest names h.3 (next me n body) part around (within_behind all (actions me n body) _ w))
        (told_behind (states_in (BodyOf name p) (Left r part ∷ around) p) _ told))
    acted (Continue place name rest) names h n part around w told =
        none_acted _ (ap (λ (t : Statements). states_in part around (numbered me n t)) h.1)
    acted (Do place name rest) names h n part around w told =
        none_acted _ (ap (λ (t : Statements). states_in part around (numbered me n t)) h.1)

    acted_in : (bs : tree.Branches) (names : List Name) → SoundIn protocols names bs → (self : Bool) (n : ℕ) (out : Position) →
        Within all (actions_in me n bs) → AllTold me (Parts.within self out (numbered_in me n bs)) →
        StatesActed me all (Parts.within self out (numbered_in me n bs))
    acted_in NoBranch names h self n out w told = none_acted _ (Parts.within-NoMore self out)
    acted_in (Branch b more) names h self n out w told =
        let told' = subst (AllTold me) (Parts.within-Branch self out (numbered me n b) (numbered_in me (n + choices me b) more)) told in
        subst (StatesActed me all) (sym (Parts.within-Branch self out (numbered me n b) (numbered_in me (n + choices me b) more)))
        (acted_both me all (Parts.first_in self out (numbered me n b)) _
        (acted_first b names h.0 self n out (within_front all (actions me n b) _ w)
        (told_front (Parts.first_in self out (numbered me n b)) _ told'))
        (shift (λ k. AllTold me (Parts.within self out (numbered_in me k more)))
        (λ k. StatesActed me all (Parts.within self out (numbered_in me k more))) (n + choices me b) (next me n b)
        (sym (next_is me b n))
        (acted_in more names h.1 self (next me n b) out (within_behind all (actions me n b) _ w))
        (told_behind (Parts.first_in self out (numbered me n b)) _ told')))

    acted_first : (b : Statements) (names : List Name) → SoundFirst protocols names b → (self : Bool) (n : ℕ) (out : Position) →
        Within all (actions me n b) → AllTold me (Parts.first_in self out (numbered me n b)) →
        StatesActed me all (Parts.first_in self out (numbered me n b))
    acted_first (Says q rest) names h true n out w told = acted rest names h n Plain out (λ a b. w a (inr b)) told
    acted_first (Says q rest) names h false n out w told =
        ((message_acted q _ w, tt), acted rest names h n Plain out (λ a b. w a (inr b)) told.1)
    acted_first Nothing names h self n out w told = absurd h
    acted_first (Choice place at bs rest) names h self n out w told = absurd h
    acted_first (Rec place name body rest) names h self n out w told = absurd h
    acted_first (Continue place name rest) names h self n out w told = absurd h
    acted_first (Do place name rest) names h self n out w told = absurd h

  -- parts, one after another
  parts_acted : (ts : List Titled) → AllSound protocols ts → (n : ℕ) → Within all (all_actions (λ (t : Titled). me) body_in n ts) →
      AllTold me (state_positions (numbered_parts me n ts)) →
      StatesActed me all (state_positions (numbered_parts me n ts))
  parts_acted [] h n w told = tt
  parts_acted (t ∷ ts) h n w told =
      let own : List Position = states_in Plain [] (numbered me n t.body) in
      acted_both me all own (state_positions (numbered_parts me (n + choices me t.body) ts))
      (acted t.body [] h.0 n Plain [] (within_front all (actions me n t.body) _ w) (told_front own _ told))
      (shift (λ k. AllTold me (state_positions (numbered_parts me k ts)))
      (λ k. StatesActed me all (state_positions (numbered_parts me k ts))) (n + choices me t.body) (next me n t.body)
      (sym (next_is me t.body n)) (parts_acted ts h.1 (next me n t.body) (within_behind all (actions me n t.body) _ w))
      (told_behind own _ told))

-- ---- no two actions of one name

contains_more : {X : Type 0} (xs ys : List X) (x : X) → Contains xs x → Contains (xs ++ ys) x
contains_more {X} [] ys x c = absurd (none_contained x c)
contains_more {X} (z ∷ xs) ys x c =
    ⊎_elim (λ e. (0, omega arith, e)) (λ b. let r = contains_more xs ys x b in (suc r.0, omega (arith, r.1), r.2)) (first_or_later z xs x c)

contains_last : {X : Type 0} (xs : List X) (x : X) → Contains (xs ++ x ∷ []) x
contains_last [] x = (0, omega arith, refl)
contains_last (z ∷ xs) x = let r = contains_last xs x in (suc r.0, omega (arith, r.1), r.2)

earlier_same : (seen xs : List Action) → Clean NameClash (behind seen xs) → (x y : Action) → Among xs x → Contains seen y → y.call ≡ x.call
    → (y.deed ≢ x.deed) → ⊥
earlier_same seen [] h x y a c e d = a
earlier_same seen (z ∷ zs) h x y a c e d =
    ⊎_elim
    (λ f. h.0 (culprit z.place z.call) (refl, y, c, e ∙ ap (λ (q : Action). q.call) (sym f), λ g. d (g ∙ ap (λ (q : Action). q.deed) f)))
    (λ b. earlier_same (seen ++ z ∷ []) zs h.1 x y b (contains_more seen (z ∷ []) y c) e d) a

pairs_same : (seen xs : List Action) → Clean NameClash (behind seen xs) → (x y : Action) → Among xs x → Among xs y → x.call ≡ y.call →
    (x.deed ≢ y.deed) → ⊥
pairs_same seen [] h x y a b e d = a
pairs_same seen (z ∷ zs) h x y a b e d =
    ⊎_elim
    (λ f. ⊎_elim (λ g. d (ap (λ (q : Action). q.deed) (sym f ∙ g)))
    (λ g. earlier_same (seen ++ z ∷ []) zs h.1 y x g (subst (Contains (seen ++ z ∷ [])) f (contains_last seen z)) e d) b)
    (λ f. ⊎_elim (λ g. earlier_same (seen ++ z ∷ []) zs h.1 x y f (subst (Contains (seen ++ z ∷ [])) g (contains_last seen z)) (sym e)
    (λ k. d (sym k)))
    (λ g. pairs_same (seen ++ z ∷ []) zs h.1 x y f g e d) b)
    a

-- ---- signatures

abbrev payload_number : Payload → ℕ
payload_number payloads.Nothing = 0
payload_number payloads.Int = 1
payload_number payloads.Boolean = 2
payload_number payloads.Text = 3

-- the number of a message's signature
abbrev shape : Message → ℕ
shape (Send peer label kind) = payload_number kind
shape (Take peer label kind) = suc (suc (suc (suc (payload_number kind))))

abbrev results : List TypeName
results = types.Void ∷ types.Void ∷ types.Void ∷ types.Void ∷ types.Void ∷ types.Int ∷ types.Boolean ∷ types.Text ∷ []

abbrev params : List (List TypeName)
params = [] ∷ (types.Int ∷ []) ∷ (types.Boolean ∷ []) ∷ (types.Text ∷ []) ∷ []

shape_result : (m : Message) → get_or results (shape m) types.Void ≡ result_of m
shape_result (Send peer label payloads.Nothing) = refl
shape_result (Send peer label payloads.Int) = refl
shape_result (Send peer label payloads.Boolean) = refl
shape_result (Send peer label payloads.Text) = refl
shape_result (Take peer label payloads.Nothing) = refl
shape_result (Take peer label payloads.Int) = refl
shape_result (Take peer label payloads.Boolean) = refl
shape_result (Take peer label payloads.Text) = refl

shape_params : (m : Message) → get_or params (shape m) [] ≡ params_of m
shape_params (Send peer label payloads.Nothing) = refl
shape_params (Send peer label payloads.Int) = refl
shape_params (Send peer label payloads.Boolean) = refl
shape_params (Send peer label payloads.Text) = refl
shape_params (Take peer label payloads.Nothing) = refl
shape_params (Take peer label payloads.Int) = refl
shape_params (Take peer label payloads.Boolean) = refl
shape_params (Take peer label payloads.Text) = refl

same_number : (a b : ℕ) → ((a ≢ b) → ⊥) → a ≡ b
same_number a b h = go (eqb a b) refl
  where
    go : (t : Bool) → eqb a b ≡ t → a ≡ b
    go true e = (Decides-eqb a b).0 e
    go false e = absurd (h (λ f. let g = (Decides-eqb a b).1 f in cc))

-- what a state offers: the method of a message, or of looks
data Signed (me : Name) (act : Act) (m : Method) : Type 0 where
  of_message : (msg : Message) → act ≡ Moves msg → m.name ≡ message_call msg → m.result ≡ result_of msg → m.params ≡ params_of msg →
      Signed me act m
  of_looks : (n : ℕ) (peer label : Name) → act ≡ Looks n peer label → m.name ≡ label_call me n peer →
      m.result ≡ types.Named (choice_enum me n) → m.params ≡ [] → Signed me act m

abbrev Offering : Name → List Edge → Method → Type 0
Offering me edges m = (e : Edge) × Among edges e × Signed me e.act m

offering_of : (me : Name) (edges : List Edge) (m : Method) → Contains (methods_of me edges) m → Offering me edges m
offering_of me [] m c = absurd (none_contained m c)
offering_of me (e ∷ es) m c = go e.act refl (λ d. offering_of me es m d) c
  where
    go : (a : Act) → e.act ≡ a → (Contains (methods_of me es) m → Offering me es m) →
        Contains (methods_by me a e.to (methods_of me es) (branches_of (e ∷ es))) m → Offering me (e ∷ es) m
    go (Moves msg) is more c =
        ⊎_elim
        (λ f. (
          e,
          inl refl,
          of_message msg is (ap (λ (x : Method). x.name) (sym f)) (ap (λ (x : Method). x.result) (sym f))
              (ap (λ (x : Method). x.params) (sym f)),
        ))
        (λ later. let r = more later in (r.0, inr r.1, r.2))
        (first_or_later (method_of msg e.to) (methods_of me es) m c)
    go (Looks n peer label) is more c =
        ⊎_elim
        (λ f. (
          e,
          inl refl,
          of_looks n peer label is (ap (λ (x : Method). x.name) (sym f)) (ap (λ (x : Method). x.result) (sym f))
              (ap (λ (x : Method). x.params) (sym f)),
        ))
        (λ later. absurd (none_contained m later))
        (first_or_later (label_method me n peer (branches_of (e ∷ es))) [] m c)

state_offering : (me : Name) (k : ℕ) (gs : List (List Edge)) (m : Method) → IsOffered (states_from me k gs) m →
    (edges : List Edge) × (j : ℕ) × (slice_get gs j ≡ Some edges) × Offering me edges m
state_offering me k [] m o = absurd (none_contained o.0 o.1)
state_offering me k (g ∷ gs) m o =
    ⊎_elim
    (λ f. (g, 0, refl, offering_of me g m (subst (λ (s : State). Contains s.methods m) (sym f) o.2)))
    (λ later. let r = state_offering me (suc k) gs m (o.0, later, o.2) in (r.0, suc r.1, r.2, r.3))
    (first_or_later (record { name = state_name k; methods = methods_of me g; drops = false }) (states_from me (suc k) gs) o.0 o.1)

acted_at : (me : Name) (all : List Action) (ps : List Position) → StatesActed me all ps → (k : ℕ) (p : Position) → slice_get ps k ≡ Some p →
    AllActed me all (steps_at p)
acted_at me all [] h k p e = cc
acted_at me all (x ∷ ps) h zero p e = let f : x ≡ p = cc e in subst (λ y. AllActed me all (steps_at y)) f h.0
acted_at me all (x ∷ ps) h (suc k) p e = acted_at me all ps h.1 k p e

acted_step : (me : Name) (all : List Action) (ss : List Onward) → AllActed me all ss → (s : Onward) → Among ss s → Acted me all s.act
acted_step me all [] h s a = absurd a
acted_step me all (x ∷ ss) h s a = ⊎_elim (λ e. subst (λ (y : Onward). Acted me all y.act) e h.0) (λ b. acted_step me all ss h.1 s b) a

deed_of_message : (act : Act) (m : Message) (d : Deed) → act ≡ Moves m → IsDeed act d → d ≡ deeds.Moves m
deed_of_message act m d e h = subst (λ a. IsDeed a d) e h

deed_of_looks : (act : Act) (n : ℕ) (peer label : Name) (d : Deed) → act ≡ Looks n peer label → IsDeed act d → d ≡ deeds.Looks n
deed_of_looks act n peer label d e h = subst (λ a. IsDeed a d) e h

-- two methods of one name, whose actions are one
same_signature : (me : Name) (all : List Action) → Clean NameClash (with_earlier all) → (a b : Act) (m n : Method) → Acted me all a →
    Acted me all b → Signed me a m → Signed me b n → m.name ≡ n.name → (m.result ≡ n.result) × (m.params ≡ n.params)
same_signature me all clean a b m n x y (of_message p ap' pn pr pp) (of_message q aq qn qr qp) e =
    let calls : x.action.call ≡ y.action.call = x.named ∙ ap (λ c. (call_of me c).method) ap' ∙ sym pn ∙ e ∙ qn ∙
    sym (ap (λ c. (call_of me c).method) aq) ∙ sym y.named in
    let s : shape p ≡ shape q = same_number (shape p) (shape q) (λ d. pairs_same [] all clean x.action y.action x.among y.among calls
    (λ f. d (message_shape p q (sym (deed_of_message a p x.action.deed ap' x.deed) ∙ f ∙ deed_of_message b q y.action.deed aq y.deed)))) in (
      pr ∙ sym (shape_result p) ∙ ap (λ k. get_or results k types.Void) s ∙ shape_result q ∙ sym qr,
      pp ∙ sym (shape_params p) ∙ ap (λ k. get_or params k []) s ∙ shape_params q ∙ sym qp,
    )
  where
    message_shape : (p q : Message) → deeds.Moves p ≡ deeds.Moves q → shape p ≡ shape q
    message_shape p q e = let f : p ≡ q = cc e in ap shape f
same_signature me all clean a b m n x y (of_message p ap' pn pr pp) (of_looks k peer label aq qn qr qp) e =
    let calls : x.action.call ≡ y.action.call = x.named ∙ ap (λ c. (call_of me c).method) ap' ∙ sym pn ∙ e ∙ qn ∙
    sym (ap (λ c. (call_of me c).method) aq) ∙ sym y.named in
    absurd (pairs_same [] all clean x.action y.action x.among y.among calls
    (λ f. let g : deeds.Moves p ≡ deeds.Looks k = sym (deed_of_message a p x.action.deed ap' x.deed) ∙ f ∙
    deed_of_looks b k peer label y.action.deed aq y.deed in cc g))
same_signature me all clean a b m n x y (of_looks k peer label ap' pn pr pp) (of_message q aq qn qr qp) e =
    let calls : x.action.call ≡ y.action.call = x.named ∙ ap (λ c. (call_of me c).method) ap' ∙ sym pn ∙ e ∙ qn ∙
    sym (ap (λ c. (call_of me c).method) aq) ∙ sym y.named in
    absurd (pairs_same [] all clean x.action y.action x.among y.among calls
    (λ f. let g : deeds.Looks k ≡ deeds.Moves q = sym (deed_of_looks a k peer label x.action.deed ap' x.deed) ∙ f ∙
    deed_of_message b q y.action.deed aq y.deed in cc g))
same_signature me all clean a b m n x y (of_looks k peer label ap' pn pr pp) (of_looks l other mark aq qn qr qp) e =
    let calls : x.action.call ≡ y.action.call = x.named ∙ ap (λ c. (call_of me c).method) ap' ∙ sym pn ∙ e ∙ qn ∙
    sym (ap (λ c. (call_of me c).method) aq) ∙ sym y.named in
    let s : k ≡ l = same_number k l (λ d. pairs_same [] all clean x.action y.action x.among y.among calls
    (λ f. d (looks_number k l (sym (deed_of_looks a k peer label x.action.deed ap' x.deed) ∙ f ∙ deed_of_looks b l other mark y.action.deed
    aq y.deed)))) in
    (pr ∙ ap (λ j. types.Named (choice_enum me j)) s ∙ sym qr, pp ∙ sym qp)
  where
    looks_number : (k l : ℕ) → deeds.Looks k ≡ deeds.Looks l → k ≡ l
    looks_number k l e = cc

-- the methods of a valid protocol
pub one_signature : (local : LocalTree) → ∥ IsValid local ∥₁ → AllTold local.me (state_positions (protocol_of local)) →
    (gs : List (List Edge)) →
    AreStates (protocol_of local) (state_positions (protocol_of local)) (state_positions (protocol_of local)) gs →
    HaveOneSignature local.me (states_from local.me 0 gs)
one_signature local v told gs h m n om on e =
    let all : List Action = all_actions (λ (t : Titled). local.me) body_in 1 (titled local) in
    let clean = ∥∥₁_elim v (clean_once NameClash (with_earlier all)) (λ i. i.one_action) in
    let facts = parts_acted local.me (names_in local) all (titled local) (valid_sound local v) 1 (λ a b. b) told in
    let a = state_offering local.me 0 gs m om in
    let b = state_offering local.me 0 gs n on in
    same_signature local.me all clean a.3.0.act b.3.0.act m n (action a.0 a.1 a.2 a.3.0 a.3.1 facts) (action b.0 b.1 b.2 b.3.0 b.3.1 facts)
    a.3.2 b.3.2 e
  where
    action : (edges : List Edge) (j : ℕ) → slice_get gs j ≡ Some edges → (x : Edge) → Among edges x →
        StatesActed local.me (all_actions (λ (t : Titled). local.me) body_in 1 (titled local)) (state_positions (protocol_of local)) →
        Acted local.me (all_actions (λ (t : Titled). local.me) body_in 1 (titled local)) x.act
    action edges j there x among facts =
        let parts = protocol_of local in
        let all = state_positions (protocol_of local) in
        let actions = all_actions (λ (t : Titled). local.me) body_in 1 (titled local) in
        let p = position_there parts all all gs h j edges there in
        let s = step_of_edge parts all (steps_at p.0) edges p.2 x among in
        subst (Acted local.me actions) (sym s.2.act)
        (acted_step local.me actions (steps_at p.0) (acted_at local.me actions all facts j p.0 p.1) s.0 s.1)
