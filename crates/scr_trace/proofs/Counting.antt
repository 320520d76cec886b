-- How many states and choices are laid out.
use Rattle.std.proofs.Common.{◌≡◌, ℕ, suc, ◌+◌, List, [], ◌∷◌, length, ap, ◌∙◌, Bool, true, false, if◌then◌else◌, Option, arith}
use Rattle.std.specs.Str.{bytes_eq}
use Rattle.std.proofs.lemmas.List.{length-append}
use Rattle.mg_text.specs.Call.{Name}
use Rattle.scr_tree.specs.Tree.{Statements, Nothing, Says, Choice, Rec, Continue, Do, NoBranch}
use Rattle.scr_tree.specs.Tree as tree
use Rattle.scr_tree.specs.Meaning.{choices, choices_in, numbered, numbered_in}
use Rattle.scr_tree.specs.Protocol.{Protocol, ChoiceHere, ChoiceThere}
use Rattle.scr_tree.specs.Steps.{Part, Plain, BodyOf, Left, Position}
use Rattle.scr_trace.specs.declared.arrow.Hop.{Hop}
use Rattle.scr_trace.specs.Positions.{states_in}
use Rattle.scr_trace.specs.inner.Laying.{Work, Known, Gathered, lay, lay_in, branch_laid, turned, opened, chosen, joined, gathering}
use Rattle.scr_trace.proofs.Parts
use Rattle.scr_trace.proofs.Rules.{Sound, SoundIn, SoundFirst}

joined_cells : (self : Bool) (m : _) (g : Gathered) → length (joined self m g).work.cells
    ≡ (if self then length g.work.cells else suc (length g.work.cells))
joined_cells true m g = ap (λ (x : Gathered). length x.work.cells) (Parts.joined_here m g)
joined_cells false m g = ap (λ (x : Gathered). length x.work.cells) (Parts.joined_there m g) ∙ ap length (Parts.said_cells m g.work)

joined_choices : (self : Bool) (m : _) (g : Gathered) → (joined self m g).work.choices ≡ g.work.choices
joined_choices true m g = ap (λ (x : Gathered). x.work.choices) (Parts.joined_here m g)
joined_choices false m g = ap (λ (x : Gathered). x.work.choices) (Parts.joined_there m g) ∙ Parts.said_choices m g.work

module _ (me : Name) (entry : Name → Option ℕ) where
  choice_counted : (self : Bool) (n : ℕ) (part : Part) (around : Position) (bs : tree.Branches) (rest : Statements) (v w : Work)
      (g : Gathered) →
      ((m : ℕ) (out : Position) → length g.work.cells ≡ length (Parts.within self out (numbered_in me m bs)) + length v.cells) →
      ((m : ℕ) → length v.cells ≡ length (states_in part around (numbered me m rest)) + length w.cells) →
      length (chosen self g).cells ≡
      length (states_in part around (if self then ChoiceHere (numbered_in me n bs) (numbered me (n + choices_in me bs) rest) else
      ChoiceThere n (numbered_in me (suc n) bs) (numbered me (suc n + choices_in me bs) rest))) + length w.cells
  choice_counted true n part around bs rest v w g inside behind =
      let r : Protocol = numbered me (n + choices_in me bs) rest in
      let a = inside n (Left r part ∷ around) in
      let b = behind (n + choices_in me bs) in
      let c = length-append (Parts.within true (Left r part ∷ around) (numbered_in me n bs)) (states_in part around r) in
      ap length (Parts.chosen_cells true g) ∙ omega arith
  choice_counted false n part around bs rest v w g inside behind =
      let r : Protocol = numbered me (suc n + choices_in me bs) rest in
      let a = inside (suc n) (Left r part ∷ around) in
      let b = behind (suc n + choices_in me bs) in
      let c = length-append (Parts.within false (Left r part ∷ around) (numbered_in me (suc n) bs)) (states_in part around r) in
      ap length (Parts.chosen_cells false g) ∙ omega arith

  no_states : (self : Bool) (around : Position) (b : Protocol) (g : Gathered) → Parts.first_in self around b ≡ [] →
      length g.work.cells ≡ length (Parts.first_in self around b) + length g.work.cells
  no_states self around b g e = let f : length (Parts.first_in self around b) ≡ 0 = ap length e in omega arith

  mutual
    pub counted : (t : Statements) (known : List Known) (w : Work) (n : ℕ) (part : Part) (around : Position) →
        length (lay me entry known w t).cells ≡ length (states_in part around (numbered me n t)) + length w.cells
    counted Nothing known w n part around = omega arith
    counted (Says m rest) known w n part around =
        let a = counted rest known w n part around in
        ap length (Parts.said_cells m (lay me entry known w rest)) ∙ omega arith
    counted (Choice place at bs rest) known w n part around =
        let v = lay me entry known w rest in
        choice_counted (bytes_eq at me) n part around bs rest v w (lay_in me entry known (bytes_eq at me) v.next (gathering v) bs)
        (λ m out. counted_in bs known (bytes_eq at me) v.next (gathering v) m out) (λ m. counted rest known w m part around)
    counted (Rec place name body rest) known w n part around =
        let v = lay me entry known w rest in
        let r : Protocol = numbered me (n + choices me body) rest in
        let p : Protocol = numbered me n body in
        let a = counted body (record { name = name; number = length v.loops } ∷ known) (opened v) n (BodyOf name p) (Left r part ∷ around)
        in
        let b = counted rest known w (n + choices me body) part around in
        let c = ap length (Parts.opened_cells v) in
        let d = length-append (states_in (BodyOf name p) (Left r part ∷ around) p) (states_in part around r) in
        ap length (Parts.closed_cells (length v.loops) (lay me entry (record { name = name; number = length v.loops } ∷ known)
        (opened v) body)) ∙ omega arith
    counted (Continue place name rest) known w n part around = counted rest known w n part around
    counted (Do place name rest) known w n part around = counted rest known w n part around

    pub counted_in : (bs : tree.Branches) (known : List Known) (self : Bool) (behind : Hop) (g : Gathered) (n : ℕ) (around : Position) →
        length (lay_in me entry known self behind g bs).work.cells ≡ length (Parts.within self around (numbered_in me n bs)) + length
        g.work.cells
    counted_in NoBranch known self behind g n around = let e = ap length (Parts.within-NoMore self around) in omega arith
    counted_in (tree.Branch b more) known self behind g n around =
        let h = lay_in me entry known self behind g more in
        let a = counted_in more known self behind g (n + choices me b) around in
        let c = counted_first b known self (turned behind h) n around in
        let d = ap length (Parts.within-Branch self around (numbered me n b) (numbered_in me (n + choices me b) more)) in
        let e = length-append (Parts.first_in self around (numbered me n b))
        (Parts.within self around (numbered_in me (n + choices me b) more)) in
        omega arith

    pub counted_first : (b : Statements) (known : List Known) (self : Bool) (g : Gathered) (n : ℕ) (around : Position) →
        length (branch_laid me entry self known b g).work.cells ≡ length (Parts.first_in self around (numbered me n b)) + length
        g.work.cells
    counted_first Nothing known self g n around = no_states self around _ g (Parts.first-done self around)
    counted_first (Says m rest) known true g n around =
        joined_cells true m (record { work = lay me entry known g.work rest; drafts = g.drafts }) ∙ counted rest known g.work n Plain around
    counted_first (Says m rest) known false g n around =
        joined_cells false m (record { work = lay me entry known g.work rest; drafts = g.drafts }) ∙
        ap suc (counted rest known g.work n Plain around) ∙ omega arith
    counted_first (Choice place at bs rest) known self g n around =
        no_states self around _ g (Parts.first-choice self (bytes_eq at me) around _ _ _ _ n)
    counted_first (Rec place name body rest) known self g n around = no_states self around _ g (Parts.first-rec self around name _ _)
    counted_first (Continue place name rest) known self g n around = no_states self around _ g (Parts.first-continue self around name _)
    counted_first (Do place name rest) known self g n around = no_states self around _ g (Parts.first-do self around name _)

  choice_chosen : (self : Bool) (bs : tree.Branches) (rest : Statements) (v w : Work) (g : Gathered) →
      g.work.choices ≡ v.choices + choices_in me bs → v.choices ≡ w.choices + choices me rest →
      (chosen self g).choices ≡ w.choices + ((if self then 0 else 1) + choices_in me bs + choices me rest)
  choice_chosen true bs rest v w g a b = Parts.chosen_choices true g ∙ omega arith
  choice_chosen false bs rest v w g a b = Parts.chosen_choices false g ∙ omega arith

  -- `protocols` are the names of the protocols of the file
  module _ (protocols : List Name) where
    mutual
      pub numbers : (t : Statements) (names : List Name) → Sound protocols names t → (known : List Known) (w : Work) →
          (lay me entry known w t).choices ≡ w.choices + choices me t
      numbers Nothing names h known w = omega arith
      numbers (Says m rest) names h known w = Parts.said_choices m (lay me entry known w rest) ∙ numbers rest names h known w
      numbers (Choice place at bs rest) names h known w =
          let v = lay me entry known w rest in
          choice_chosen (bytes_eq at me) bs rest v w _ (numbers_in bs names h.0 known (bytes_eq at me) v.next (gathering v))
          (numbers rest names h.1 known w)
      numbers (Rec place name body rest) names h known w =
          let v = lay me entry known w rest in
          let a = numbers body (name ∷ names) h.1 (record { name = name; number = length v.loops } ∷ known) (opened v) in
          let b = numbers rest names h.3 known w in
          let c = Parts.opened_choices v in
          Parts.closed_choices (length v.loops) (lay me entry (record { name = name; number = length v.loops } ∷ known) (opened v) body) ∙
          omega arith
      numbers (Continue place name rest) names h known w =
          ap (λ (t : Statements). (lay me entry known w t).choices) h.1 ∙ omega (arith, ap (λ (t : Statements). choices me t) h.1)
      numbers (Do place name rest) names h known w =
          ap (λ (t : Statements). (lay me entry known w t).choices) h.1 ∙ omega (arith, ap (λ (t : Statements). choices me t) h.1)

      pub numbers_in : (bs : tree.Branches) (names : List Name) → SoundIn protocols names bs →
          (known : List Known) (self : Bool) (behind : Hop) (g : Gathered) → (lay_in me entry known self behind g bs).work.choices
          ≡ g.work.choices + choices_in me bs
      numbers_in NoBranch names h known self behind g = omega arith
      numbers_in (tree.Branch b more) names h known self behind g =
          let a = numbers_in more names h.1 known self behind g in
          let c = numbers_first b names h.0 known self (turned behind (lay_in me entry known self behind g more)) in
          omega arith

      pub numbers_first : (b : Statements) (names : List Name) → SoundFirst protocols names b →
          (known : List Known) (self : Bool) (g : Gathered) → (branch_laid me entry self known b g).work.choices
          ≡ g.work.choices + choices me b
      numbers_first (Says m rest) names h known self g =
          joined_choices self m (record { work = lay me entry known g.work rest; drafts = g.drafts }) ∙ numbers rest names h known g.work
      numbers_first Nothing names h known self g = absurd h
      numbers_first (Choice place at bs rest) names h known self g = absurd h
      numbers_first (Rec place name body rest) names h known self g = absurd h
      numbers_first (Continue place name rest) names h known self g = absurd h
      numbers_first (Do place name rest) names h known self g = absurd h
