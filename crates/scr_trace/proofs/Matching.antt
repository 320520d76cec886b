-- Each state is laid out with the steps of its position, which lead where they are laid out to lead.
use Rattle.std.proofs.Common.{◌≡◌, ℕ, suc, ◌+◌, ◌-◌, ◌<◌, ◌≤◌, List, [], ◌∷◌, ◌++◌, length, get_or, map, Some, None, refl, sym, ap, ◌∙◌}
use Rattle.std.proofs.Common.{subst, inr, ⊎_elim, Bool, true, false, if◌then◌else◌, arith}
use Rattle.std.specs.Prelude.{slice_set, Option, Contains}
use Rattle.std.specs.Str.{bytes_eq}
use Rattle.std.proofs.lemmas.List.{get_or-set_same, length-set}
use Rattle.std.proofs.lemmas.Slice.Eq.{bytes_eq-Decides}
use Rattle.mg_text.specs.Call.{Name}
use Rattle.scr_tree.specs.declared.syntax.Direction.TheVariants as directions
use Rattle.scr_tree.specs.declared.syntax.Message.{Message as Said}
use Rattle.scr_tree.specs.Tree.{Statements, Nothing, Says, Choice, Rec, Continue, Do, NoBranch, Branch}
use Rattle.scr_tree.specs.Tree as tree
use Rattle.scr_tree.specs.Meaning.{choices, choices_in, numbered, numbered_in, message_of, towards}
use Rattle.scr_tree.specs.Protocol.{Message, peer_of, label_of, Protocol, Done, Does, ChoiceHere, ChoiceThere, Branches, Parts as Protocols}
use Rattle.scr_tree.specs.Steps.{Act, Moves, Looks, Part, Plain, BodyOf, Left, Position}
use Rattle.scr_trace.specs.declared.arrow.Hop.{Hop}
use Rattle.scr_trace.specs.declared.arrow.Hop.TheVariants as hops
use Rattle.scr_trace.specs.Positions.{states_in, states_here, states_there, ComesTo}
use Rattle.scr_trace.specs.Onward.{Onward, sends, looks, steps_at}
use Rattle.scr_trace.specs.Graph.{IsStep, AreSteps, AreStates}
use Rattle.scr_trace.specs.inner.Laying.{Cell, Work, Known, Gathered, lay, lay_in, branch_laid, turned, said, opened, closed, chosen}
use Rattle.scr_trace.specs.inner.Laying.{joined, gathering}
use Rattle.scr_trace.specs.inner.View.{standing_of, act_of, edge_of, edges_of}
use Rattle.scr_trace.proofs.Parts
use Rattle.scr_trace.proofs.Growing.{Keeps, keeps_all, keeps_more, keeps, keeps_in, keeps_branch, keeps_chosen, keeps_rec, number_within}
use Rattle.scr_trace.proofs.Growing.{final_behind}
use Rattle.scr_trace.proofs.Counting.{counted, counted_in, numbers, numbers_in}
use Rattle.scr_trace.proofs.Rules.{is_among, Opens, Sound, SoundIn, SoundFirst, opens_known}
use Rattle.scr_trace.proofs.Begins.{Begins, at_first, through, back, begins}
use Rattle.scr_trace.proofs.Leading.{Entered, Lies, lies_behind, lies_before, lies_rest, comes_first, Back, back_past, back_in, Returns}
use Rattle.scr_trace.proofs.Leading.{returns_in, leads, again_here, hop_here, true_or_false, among_rest}

-- what is seen of the first message of a branch
abbrev pub seen : Bool → ℕ → Message → Act
seen true n m = Moves m
seen false n m = Looks n (peer_of m) (label_of m)

-- the steps into the branches of a choice
abbrev pub into : Bool → ℕ → Position → Branches → List Onward
into true n around bs = sends around bs
into false n around bs = looks n around bs

abbrev pub number_of : Bool → ℕ → Option ℕ
number_of self n = if self then None else Some n

pub peer_is : (m : Said) → peer_of (message_of m) ≡ m.peer
peer_is m = go m.direction
  where
    go : (d : _) → peer_of (towards d m.peer m.label m.payload) ≡ m.peer
    go directions.To = refl
    go directions.From = refl

pub label_is : (m : Said) → label_of (message_of m) ≡ m.label
label_is m = go m.direction
  where
    go : (d : _) → label_of (towards d m.peer m.label m.payload) ≡ m.label
    go directions.To = refl
    go directions.From = refl

module _ (parts : Protocols) (me : Name) (entry : Name → Option ℕ) (protocols : List Name) (total : Work) (all : List Position)
    (as_many : length all ≡ length total.cells)
    (enters : (z : Name) → Contains protocols z → Entered parts me entry protocols total all as_many z) where
  -- the `do`s that stand at once in statements
  opens : (t : Statements) (names : List Name) → Sound protocols names t → (z : Name) → Opens z t →
      Entered parts me entry protocols total all as_many z
  opens t names h z o = enters z (opens_known protocols t names h z o)

  -- these states are the first of cs, and ds are behind them
  abbrev pub Fit : List Position → List Cell → List Cell → Type 0
  Fit [] cs ds = cs ≡ ds
  Fit (p ∷ ps) [] ds = ⊥
  Fit (p ∷ ps) (c ∷ cs) ds = AreSteps parts all (steps_at p) (edges_of total c) × Fit ps cs ds

  pub fit_both : (ps qs : List Position) (cs ds es : List Cell) → Fit ps cs ds → Fit qs ds es → Fit (ps ++ qs) cs es
  fit_both [] qs cs ds es a b = subst (λ xs. Fit qs xs es) (sym a) b
  fit_both (p ∷ ps) qs [] ds es a b = absurd a
  fit_both (p ∷ ps) qs (c ∷ cs) ds es a b = (a.0, fit_both ps qs cs ds es a.1 b)

  pub fit_all : (ps : List Position) (cs : List Cell) → Fit ps cs [] → AreStates parts all ps (map (edges_of total) cs)
  fit_all [] cs a = subst (λ xs. AreStates parts all [] (map (edges_of total) xs)) (sym a) tt
  fit_all (p ∷ ps) [] a = absurd a
  fit_all (p ∷ ps) (c ∷ cs) a = (a.0, fit_all ps cs a.1)

  -- the numbers of recs that are laid out from v to u stay
  unfoldable pub Final : Work → Work → Type 0
  Final v u = (j : ℕ) → length v.loops ≤ j → j < length u.loops → get_or total.loops j 0 ≡ get_or u.loops j 0

  final_first : (v x u : Work) → Keeps v.loops x.loops → Keeps x.loops u.loops → Final v u → Final v x
  unfolding Final
  final_first v x u a b f j l h = f j l (let m = b.longer in omega arith) ∙ b.same j h

  final_last : (v x u y : Work) → Keeps v.loops x.loops → u.loops ≡ y.loops → Final v u → Final x y
  unfolding Final
  final_last v x u y a e f j l h = f j (let m = a.longer in omega arith) (omega (arith, ap length e)) ∙ ap (λ ls. get_or ls j 0) e

  -- where every `continue` leads
  abbrev pub AllReturn : List Name → List Known → Part → Position → Type 0
  AllReturn names known part around = (name : Name) → is_among name names ≡ true →
      Back parts me entry protocols total all as_many name known part around

  returns : (names : List Name) (t : Statements) (known : List Known) (part : Part) (around : Position) → AllReturn names known part around
      → Returns parts me entry protocols total all as_many names t known part around
  returns names t known part around h z among = inr (h z among)

  one_step : (act : Act) (number : Option ℕ) (m : Said) (hop : Hop) (to : Position) → act_of total number m ≡ act →
      ComesTo parts all to (standing_of total hop) →
      IsStep parts all (record { act = act; to = to }) (edge_of total number (record { message = m; to = hop }))
  one_step act number m hop to e c = record { act = e; to = c }

  -- the branches of a choice, laid out
  record Branched (self : Bool) (n : ℕ) (number : Option ℕ) (around : Position) (bs : Branches) (g h : Gathered) : Type 0 where
    states : Fit (Parts.within self around bs) h.work.cells g.work.cells
    steps : AreSteps parts all (into self n around bs) (map (edge_of total number) h.drafts)

  said_fit : (m : Said) (v : Work) (p : Position) (ps : List Position) (ds : List Cell) →
      AreSteps parts all (steps_at p) (edge_of total None (record { message = m; to = v.next }) ∷ []) → Fit ps v.cells ds →
      Fit (p ∷ ps) (said m v).cells ds
  said_fit m v p ps ds a b = subst (λ cs. Fit (p ∷ ps) cs ds) (sym (Parts.said_cells m v)) (a, b)

  choice_fit : (self : Bool) (n : ℕ) (part : Part) (around : Position) (bs : tree.Branches) (rest : Statements) (v w : Work) (g : Gathered)
      →
      ((m : ℕ) → m ≡ (if self then n else suc n) → Branched self n (number_of self g.work.choices)
      (Left (numbered me (m + choices_in me bs) rest) part ∷ around) (numbered_in me m bs) (gathering v) g) →
      ((m : ℕ) → m ≡ (if self then n else suc n) → Fit (states_in part around (numbered me (m + choices_in me bs) rest)) v.cells w.cells) →
      Fit (states_in part around (if self then ChoiceHere (numbered_in me n bs) (numbered me (n + choices_in me bs) rest) else ChoiceThere n
      (numbered_in me (suc n) bs) (numbered me (suc n + choices_in me bs) rest)))
      (chosen self g).cells w.cells
  choice_fit true n part around bs rest v w g inside behind =
      let r : Protocol = numbered me (n + choices_in me bs) rest in
      let i = inside n refl in
      subst (λ cs. Fit (states_in part around (ChoiceHere (numbered_in me n bs) r)) cs w.cells) (sym (Parts.chosen_cells true g)) (
        i.steps,
        fit_both (states_here (Left r part ∷ around) (numbered_in me n bs)) (states_in part around r) g.work.cells v.cells w.cells
            i.states (behind n refl),
      )
  choice_fit false n part around bs rest v w g inside behind =
      let r : Protocol = numbered me (suc n + choices_in me bs) rest in
      let i = inside (suc n) refl in
      subst (λ cs. Fit (states_in part around (ChoiceThere n (numbered_in me (suc n) bs) r)) cs w.cells) (sym (Parts.chosen_cells false g)) (
        i.steps,
        fit_both (states_there (Left r part ∷ around) (numbered_in me (suc n) bs)) (states_in part around r) g.work.cells v.cells
            w.cells i.states (behind (suc n) refl),
      )

  -- the states in the branches and behind the choice lie behind its own
  choice_lies : (self : Bool) (n : ℕ) (part : Part) (around : Position) (bs : tree.Branches) (rest : Statements) (w : Work) →
      Lies parts me entry protocols total all as_many w
      (states_in part around (if self then ChoiceHere (numbered_in me n bs) (numbered me (n + choices_in me bs) rest) else ChoiceThere n
      (numbered_in me (suc n) bs) (numbered me (suc n + choices_in me bs) rest))) →
      (m : ℕ) → m ≡ (if self then n else suc n) →
      Lies parts me entry protocols total all as_many w (Parts.within self (Left (numbered me (m + choices_in me bs) rest) part ∷ around)
      (numbered_in me m bs) ++ states_in part around (numbered me (m + choices_in me bs) rest))
  choice_lies true n part around bs rest w lies m e =
      subst (λ k. Lies parts me entry protocols total all as_many w
      (states_here (Left (numbered me (k + choices_in me bs) rest) part ∷ around) (numbered_in me k bs) ++ states_in part around
      (numbered me (k + choices_in me bs) rest))) (sym e)
      (lies_rest parts me entry protocols total all as_many w
      (Left (ChoiceHere (numbered_in me n bs) (numbered me (n + choices_in me bs) rest)) part ∷ around) _ lies)
  choice_lies false n part around bs rest w lies m e =
      subst (λ k. Lies parts me entry protocols total all as_many w
      (states_there (Left (numbered me (k + choices_in me bs) rest) part ∷ around) (numbered_in me k bs) ++ states_in part around
      (numbered me (k + choices_in me bs) rest))) (sym e)
      (lies_rest parts me entry protocols total all as_many w
      (Left (ChoiceThere n (numbered_in me (suc n) bs) (numbered me (suc n + choices_in me bs) rest)) part ∷ around) _ lies)

  choice_numbers : (self : Bool) (n m a b c t : ℕ) → m ≡ (if self then n else suc n) → n + ((if self then 0 else 1) + a + b) + c ≡ suc t →
      m + a + (c + b) ≡ suc t
  choice_numbers true n m a b c t e f = omega arith
  choice_numbers false n m a b c t e f = omega arith

  -- the first messages of a choice are seen as its steps
  act_is : (self : Bool) (n a b c g : ℕ) → n + ((if self then 0 else 1) + a + b) + c ≡ suc total.choices → g ≡ (c + b) + a → (q : Said) →
      act_of total (number_of self g) q ≡ seen self n (message_of q)
  act_is true n a b c g e f q = refl
  act_is false n a b c g e f q =
      let k : total.choices - g ≡ n = omega arith in
      λ i. Looks (k i) (sym (peer_is q) i) (sym (label_is q) i)

  no_branches : (self : Bool) (n : ℕ) (number : Option ℕ) (around : Position) (g : Gathered) → g.drafts ≡ [] →
      Branched self n number around Rattle.scr_tree.specs.Protocol.NoMore g g
  no_branches true n number around g e = record {
    states = refl;
    steps = subst (λ ds. AreSteps parts all [] (map (edge_of total number) ds))
        (sym e) tt;
  }
  no_branches false n number around g e =
      record { states = refl; steps = subst (λ ds. AreSteps parts all [] (map (edge_of total number) ds)) (sym e) tt }

  -- a branch that is laid out in front of others
  record Joins (self : Bool) (n : ℕ) (number : Option ℕ) (around : Position) (b : Protocol) (g h : Gathered) : Type 0 where
    states : Fit (Parts.first_in self around b) h.work.cells g.work.cells
    steps : (more : Branches) → AreSteps parts all (into self n around more) (map (edge_of total number) g.drafts) →
        AreSteps parts all (into self n around (Rattle.scr_tree.specs.Protocol.Branch b more)) (map (edge_of total number) h.drafts)

  one_more : (self : Bool) (n : ℕ) (number : Option ℕ) (around : Position) (b : Protocol) (more : Branches) (g h t u : Gathered) →
      t.work.cells ≡ h.work.cells → t.drafts ≡ h.drafts → Branched self n number around more g h → Joins self n number around b t u →
      Branched self n number around (Rattle.scr_tree.specs.Protocol.Branch b more) g u
  one_more self n number around b more g h t u cells drafts a j = record {
    states = subst (λ ps. Fit ps u.work.cells g.work.cells) (sym (Parts.within-Branch self around b more))
        (fit_both (Parts.first_in self around b) (Parts.within self around more) u.work.cells t.work.cells g.work.cells j.states
        (subst (λ cs. Fit (Parts.within self around more) cs g.work.cells) (sym cells) a.states));
    steps = j.steps more (subst (λ ds. AreSteps parts all (into self n around more) (map (edge_of total number) ds)) (sym drafts) a.steps);
  }

  -- where a rec begins again
  rec_back : (name : Name) (v x u w : Work) (known : List Known) (p r : Protocol) (part : Part) (around : Position) →
      u.loops ≡ slice_set x.loops (length v.loops) (length x.cells) → length v.loops < length x.loops → length w.loops ≤ length v.loops →
      Final w u → x.next ≡ hops.State (length x.cells) →
      ComesTo parts all (Left p (BodyOf name p) ∷ Left r part ∷ around) (standing_of total x.next) →
      Back parts me entry protocols total all as_many name (record { name = name; number = length v.loops } ∷ known) (BodyOf name p)
      (Left r part ∷ around)
  unfolding Final
  rec_back name v x u w known p r part around loops within longer final first comes =
      let l : length u.loops ≡ length x.loops = ap length loops ∙ length-set x.loops (length v.loops) (length x.cells) in
      let e : get_or total.loops (length v.loops) 0 ≡ length x.cells =
      final (length v.loops) longer (omega arith) ∙ ap (λ ls. get_or ls (length v.loops) 0) loops ∙ get_or-set_same x.loops (length v.loops)
      (length x.cells) 0 within in
      record {
        to = Left p (BodyOf name p) ∷ Left r part ∷ around;
        there = again_here name Done p (Left r part ∷ around);
        comes = subst (λ s. ComesTo parts all (Left p (BodyOf name p) ∷ Left r part ∷ around) s)
            (ap (standing_of total) first ∙ ap (λ k. Rattle.scr_trace.specs.declared.standing.Standing.TheVariants.State
            (length total.cells - k)) (sym e) ∙ ap (standing_of total) (sym (hop_here name (length v.loops) known)))
            comes;
      }

  final_body : (v o x u w : Work) → o.loops ≡ v.loops ++ 0 ∷ [] → u.loops ≡ slice_set x.loops (length v.loops) (length x.cells) →
      length w.loops ≤ length v.loops → Final w u → Final o x
  unfolding Final
  final_body v o x u w opens loops longer =
      final_behind total.loops v.loops o.loops x.loops u.loops (length x.cells) (length w.loops) opens loops longer

  all_return_in : (names : List Name) (name : Name) (number : ℕ) (known : List Known) (p r : Protocol) (part : Part) (around : Position) →
      AllReturn names known part around →
      Back parts me entry protocols total all as_many name (record { name = name; number = number } ∷ known) (BodyOf name p)
      (Left r part ∷ around) →
      AllReturn (name ∷ names) (record { name = name; number = number } ∷ known) (BodyOf name p) (Left r part ∷ around)
  all_return_in names name number known p r part around h b z among =
      ⊎_elim
      (λ e. subst (λ x. Back parts me entry protocols total all as_many x (record { name = name; number = number } ∷ known) (BodyOf name p)
      (Left r part ∷ around)) (sym ((bytes_eq-Decides z name).0 e)) b)
      (λ e. back_past parts me entry protocols total all as_many z name number known p r part around e
      (h z (among_rest z name names e among)))
      (true_or_false (bytes_eq z name))

  no_fit : (ps : List Position) (cs ds : List Cell) → ps ≡ [] → cs ≡ ds → Fit ps cs ds
  no_fit ps cs ds e f = subst (λ qs. Fit qs cs ds) (sym e) f

  -- a body with its outcome
  body_fit : (t : Statements) (n : ℕ) (part : Part) (around : Position) (o x : Work) → Begins me entry t o x →
      (x.next ≡ hops.State (length x.cells) → Fit (states_in part around (numbered me n t)) x.cells o.cells) →
      Fit (states_in part around (numbered me n t)) x.cells o.cells
  body_fit t n part around o x (at_first e) f = f e
  body_fit t n part around o x (through none c d) f = no_fit _ _ _ (none n part around) c
  body_fit t n part around o x (back none c d) f = no_fit _ _ _ (none n part around) c

  mutual
    pub matches : (t : Statements) (names : List Name) → Sound protocols names t → (known : List Known) (w : Work) (n : ℕ) (part : Part)
        (around : Position) →
        Lies parts me entry protocols total all as_many w (states_in part around (numbered me n t)) → Final w (lay me entry known w t) →
        n + choices me t + w.choices ≡ suc total.choices →
        ComesTo parts all around (standing_of total w.next) → AllReturn names known part around →
        Fit (states_in part around (numbered me n t)) (lay me entry known w t).cells w.cells
    matches Nothing names h known w n part around lies final nums follow rets = refl
    matches (Says m rest) names h known w n part around lies final nums follow rets =
        let v = lay me entry known w rest in
        let r : Protocol = numbered me n rest in
        let lies' = lies_rest parts me entry protocols total all as_many w (Left (Does (message_of m) r) part ∷ around)
        (states_in part around r) lies in
        said_fit m v (Left (Does (message_of m) r) part ∷ around) (states_in part around r) w.cells (
          one_step (Moves (message_of m)) None m v.next (Left r part ∷ around) refl
              (leads parts me entry protocols total all as_many rest names h (opens rest names h) known w n part around lies' (λ e. follow)
              (returns names rest known part around rets)),
          tt,
        )
        (matches rest names h known w n part around lies' (final_last w w (said m v) v (keeps_all w.loops) (Parts.said_loops m v) final)
        nums follow rets)
    matches (Choice place at bs rest) names h known w n part around lies final nums follow rets =
        let self : Bool = bytes_eq at me in
        let v = lay me entry known w rest in
        let g = lay_in me entry known self v.next (gathering v) bs in
        let behind_v : Keeps w.loops v.loops = keeps me entry known w rest in
        let inside_v : Keeps v.loops (chosen self g).loops = keeps_more _ _ _ (keeps_in me entry known self v.next (gathering v) bs)
        (keeps_chosen self g) in
        let v_numbers = numbers me entry protocols rest names h.1 known w in
        let g_numbers = numbers_in me entry protocols bs names h.0 known self v.next (gathering v) in
        choice_fit self n part around bs rest v w g
        (λ m e.
        let r : Protocol = numbered me (m + choices_in me bs) rest in
        let both = choice_lies self n part around bs rest w lies m e in
        let q = choice_numbers self n m (choices_in me bs) (choices me rest) w.choices total.choices e nums in
        matches_in bs names h.0 known self v.next (gathering v) m n (number_of self g.work.choices) (Left r part ∷ around)
        (lies_before parts me entry protocols total all as_many w v (Parts.within self (Left r part ∷ around) (numbered_in me m bs))
        (states_in part around r) (counted me entry rest known w (m + choices_in me bs) part around) both)
        (final_last w v (chosen self g) g.work behind_v (Parts.chosen_loops self g) final) (omega arith)
        (leads parts me entry protocols total all as_many rest names h.1 (opens rest names h.1) known w (m + choices_in me bs) part around
        (lies_behind parts me entry protocols total all as_many w (Parts.within self (Left r part ∷ around) (numbered_in me m bs))
        (states_in part around r) both) (λ e. follow) (returns names rest known part around rets))
        (λ z among. back_in parts me entry protocols total all as_many z known r part around (rets z among))
        (act_is self n (choices_in me bs) (choices me rest) w.choices g.work.choices nums
        (g_numbers ∙ ap (λ k. k + choices_in me bs) v_numbers)) refl)
        (λ m e.
        let r : Protocol = numbered me (m + choices_in me bs) rest in
        let q = choice_numbers self n m (choices_in me bs) (choices me rest) w.choices total.choices e nums in
        matches rest names h.1 known w (m + choices_in me bs) part around
        (lies_behind parts me entry protocols total all as_many w (Parts.within self (Left r part ∷ around) (numbered_in me m bs))
        (states_in part around r) (choice_lies self n part around bs rest w lies m e))
        (final_first w v (chosen self g) behind_v inside_v final) (omega arith) follow rets)
    matches (Rec place name body rest) names h known w n part around lies final nums follow rets =
        let v = lay me entry known w rest in
        let inside : List Known = record { name = name; number = length v.loops } ∷ known in
        let o = opened v in
        let x = lay me entry inside o body in
        let u = closed (length v.loops) x in
        let p : Protocol = numbered me n body in
        let r : Protocol = numbered me (n + choices me body) rest in
        let behind_v : Keeps w.loops v.loops = keeps me entry known w rest in
        let rest_lies = lies_behind parts me entry protocols total all as_many w (states_in (BodyOf name p) (Left r part ∷ around) p)
        (states_in part around r) lies in
        let body_lies = lies_before parts me entry protocols total all as_many w o (states_in (BodyOf name p) (Left r part ∷ around) p)
        (states_in part around r)
        (ap length (Parts.opened_cells v) ∙ counted me entry rest known w (n + choices me body) part around) lies in
        let rest_comes : ComesTo parts all (Left r part ∷ around) (standing_of total o.next) =
        subst (λ hop. ComesTo parts all (Left r part ∷ around) (standing_of total hop)) (sym (Parts.opened_next v))
        (leads parts me entry protocols total all as_many rest names h.3 (opens rest names h.3) known w (n + choices me body) part around
        rest_lies (λ e. follow) (returns names rest known part around rets)) in
        let body_comes = leads parts me entry protocols total all as_many body (name ∷ names) h.1 (opens body (name ∷ names) h.1) inside o n
        (BodyOf name p) (Left r part ∷ around) body_lies (λ e. rest_comes)
        (returns_in parts me entry protocols total all as_many names place name body rest known (length v.loops) p r part around h.0
        (returns names (Rec place name body rest) known part around rets)) in
        let v_numbers = numbers me entry protocols rest names h.3 known w in
        let o_numbers = Parts.opened_choices v in
        subst (λ cs. Fit (states_in (BodyOf name p) (Left r part ∷ around) p ++ states_in part around r) cs w.cells)
        (sym (Parts.closed_cells (length v.loops) x))
        (fit_both (states_in (BodyOf name p) (Left r part ∷ around) p) (states_in part around r) x.cells o.cells w.cells
        (body_fit body n (BodyOf name p) (Left r part ∷ around) o x (begins me entry protocols body (name ∷ names) h.1 inside o)
        (λ first. matches body (name ∷ names) h.1 inside o n (BodyOf name p) (Left r part ∷ around) body_lies
        (final_body v o x u w (Parts.opened_loops v) (Parts.closed_loops (length v.loops) x) behind_v.longer final) (omega arith) rest_comes
        (all_return_in names name (length v.loops) known p r part around rets
        (rec_back name v x u w known p r part around (Parts.closed_loops (length v.loops) x) (number_within me entry inside v body)
        behind_v.longer final first body_comes))))
        (subst (λ cs. Fit (states_in part around r) cs w.cells) (sym (Parts.opened_cells v))
        (matches rest names h.3 known w (n + choices me body) part around rest_lies
        (final_first w v u behind_v (keeps_rec v x (keeps me entry inside o body)) final) (omega arith) follow rets)))
    matches (Continue place name rest) names h known w n part around lies final nums follow rets =
        no_fit _ _ _ (ap (λ (t : Statements). states_in part around (numbered me n t)) h.1)
        (ap (λ (t : Statements). (lay me entry known w t).cells) h.1)
    matches (Do place name rest) names h known w n part around lies final nums follow rets =
        no_fit _ _ _ (ap (λ (t : Statements). states_in part around (numbered me n t)) h.1)
        (ap (λ (t : Statements). (lay me entry known w t).cells) h.1)

    matches_in : (bs : tree.Branches) (names : List Name) → SoundIn protocols names bs → (known : List Known) (self : Bool) (behind : Hop)
        (g : Gathered) (m n : ℕ) (number : Option ℕ) (around : Position) →
        Lies parts me entry protocols total all as_many g.work (Parts.within self around (numbered_in me m bs)) →
        Final g.work (lay_in me entry known self behind g bs).work → m + choices_in me bs + g.work.choices ≡ suc total.choices →
        ComesTo parts all around (standing_of total behind) → AllReturn names known Plain around →
        ((q : Said) → act_of total number q ≡ seen self n (message_of q)) → g.drafts ≡ [] →
        Branched self n number around (numbered_in me m bs) g (lay_in me entry known self behind g bs)
    matches_in NoBranch names h known self behind g m n number around lies final nums comes rets acts none =
        no_branches self n number around g none
    matches_in (Branch b more) names h known self behind g m n number around lies final nums comes rets acts none =
        let before = lay_in me entry known self behind g more in
        let p : Protocol = numbered me m b in
        let qs : Branches = numbered_in me (m + choices me b) more in
        let more_lies = subst (Lies parts me entry protocols total all as_many g.work) (Parts.within-Branch self around p qs) lies in
        let b_numbers = numbers_in me entry protocols more names h.1 known self behind g in
        one_more self n number around p qs g before (turned behind before) (branch_laid me entry self known b (turned behind before)) refl
        refl
        (matches_in more names h.1 known self behind g (m + choices me b) n number around
        (lies_behind parts me entry protocols total all as_many g.work (Parts.first_in self around p) (Parts.within self around qs)
        more_lies)
        (final_first g.work before.work (branch_laid me entry self known b (turned behind before)).work
        (keeps_in me entry known self behind g more) (keeps_branch me entry known self b (turned behind before)) final)
        (omega arith) comes rets acts none)
        (matches_first b names h.0 known self (turned behind before) m n number around
        (lies_before parts me entry protocols total all as_many g.work (turned behind before).work (Parts.first_in self around p)
        (Parts.within self around qs) (counted_in me entry more known self behind g (m + choices me b) around) more_lies)
        (final_last g.work (turned behind before).work (branch_laid me entry self known b (turned behind before)).work
        (branch_laid me entry self known b (turned behind before)).work (keeps_in me entry known self behind g more) refl final)
        (omega arith) comes rets acts)

    matches_first : (b : Statements) (names : List Name) → SoundFirst protocols names b → (known : List Known) (self : Bool) (g : Gathered)
        (m n : ℕ) (number : Option ℕ) (around : Position) →
        Lies parts me entry protocols total all as_many g.work (Parts.first_in self around (numbered me m b)) →
        Final g.work (branch_laid me entry self known b g).work → m + choices me b + g.work.choices ≡ suc total.choices →
        ComesTo parts all around (standing_of total g.work.next) → AllReturn names known Plain around →
        ((q : Said) → act_of total number q ≡ seen self n (message_of q)) →
        Joins self n number around (numbered me m b) g (branch_laid me entry self known b g)
    matches_first Nothing names h known self g m n number around lies final nums comes rets acts = absurd h
    matches_first (Choice place at bs rest) names h known self g m n number around lies final nums comes rets acts = absurd h
    matches_first (Rec place name body rest) names h known self g m n number around lies final nums comes rets acts = absurd h
    matches_first (Continue place name rest) names h known self g m n number around lies final nums comes rets acts = absurd h
    matches_first (Do place name rest) names h known self g m n number around lies final nums comes rets acts = absurd h
    matches_first (Says q rest) names h known true g m n number around lies final nums comes rets acts =
        let x = lay me entry known g.work rest in
        let r : Protocol = numbered me m rest in
        subst (λ u. Joins true n number around (Does (message_of q) r) g u)
        (sym (Parts.joined_here q (record { work = x; drafts = g.drafts })))
        (record {
          states = matches rest names h known g.work m Plain around lies
              (final_last g.work g.work (joined true q (record { work = x; drafts = g.drafts })).work x (keeps_all g.work.loops)
              (ap (λ (j : Gathered). j.work.loops) (Parts.joined_here q (record { work = x; drafts = g.drafts }))) final) nums comes
              rets;
          steps = λ more a. (
            one_step (Moves (message_of q)) number q x.next (Left r Plain ∷ around) (acts q)
                (leads parts me entry protocols total all as_many rest names h (opens rest names h) known g.work m Plain around lies
                (λ e. comes) (returns names rest known Plain around rets)),
            a,
          );
        })
    matches_first (Says q rest) names h known false g m n number around lies final nums comes rets acts =
        let x = lay me entry known g.work rest in
        let r : Protocol = numbered me m rest in
        let here : Position = Left (Does (message_of q) r) Plain ∷ around in
        let lies' = lies_rest parts me entry protocols total all as_many g.work here (states_in Plain around r) lies in
        let c = counted me entry rest known g.work m Plain around in
        subst (λ u. Joins false n number around (Does (message_of q) r) g u)
        (sym (Parts.joined_there q (record { work = x; drafts = g.drafts })))
        (record {
          states = said_fit q x here (states_in Plain around r) g.work.cells (
            one_step (Moves (message_of q)) None q x.next (Left r Plain ∷ around) refl
                (leads parts me entry protocols total all as_many rest names h (opens rest names h) known g.work m Plain around lies'
                (λ e. comes) (returns names rest known Plain around rets)),
            tt,
          )
              (matches rest names h known g.work m Plain around lies'
              (final_last g.work g.work (joined false q (record { work = x; drafts = g.drafts })).work x (keeps_all g.work.loops)
              (ap (λ (j : Gathered). j.work.loops) (Parts.joined_there q (record { work = x; drafts = g.drafts })) ∙
              Parts.said_loops q x) final) nums comes rets);
          steps = λ more a. (
            one_step (Looks n (peer_of (message_of q)) (label_of (message_of q))) number q (hops.State (suc (length x.cells))) here (acts q)
                (comes_first parts me entry protocols total all as_many g.work here (states_in Plain around r) (suc (length x.cells)) lies
                (omega (arith, c))),
            a,
          );
        })
