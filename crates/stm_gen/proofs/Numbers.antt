-- How many states are numbered: as many as there are positions, and as are laid out.
use Rattle.std.proofs.Common.{◌≡◌, ℕ, suc, ◌+◌, List, [], ◌∷◌, length, refl, ap, ◌∙◌, Bool, true, false, Option, arith}
use Rattle.std.proofs.lemmas.List.{length-append}
use Rattle.mg_text.specs.Call.{Name}
use Rattle.scr_tree.specs.Tree.{Statements}
use Rattle.scr_tree.specs.Tree as tree
use Rattle.scr_tree.specs.Meaning.{numbered, numbered_in}
use Rattle.scr_tree.specs.Protocol.{Protocol, Done, Does, ChoiceHere, ChoiceThere, Rec, Continue, Do, Branches, NoMore, Branch}
use Rattle.scr_tree.specs.Steps.{Part, Plain, BodyOf, Left, Position}
use Rattle.scr_trace.specs.declared.standing.Standing.{Standing}
use Rattle.scr_trace.specs.declared.arrow.Hop.{Hop}
use Rattle.scr_trace.specs.Positions.{states_in, states_here as positions_here, states_behind as positions_behind}
use Rattle.scr_trace.specs.Positions.{states_there as positions_there, states_from as positions_from}
use Rattle.scr_trace.specs.inner.Laying.{Work, Known, Gathered, lay, lay_in}
use Rattle.scr_trace.proofs.Parts
use Rattle.scr_trace.proofs.Counting.{counted, counted_in}
use Rattle.scr_trace.proofs.Begins.{HasNone}
use Rattle.stm_gen.specs.Numbered.{after, after_here, after_behind, after_there, after_from, Start, first, states, states_here}
use Rattle.stm_gen.specs.Numbered.{states_behind, states_there, states_from}

-- ---- positions

mutual
  pub after_is : (p : Protocol) (n : ℕ) (part : Part) (around : Position) → after n p ≡ n + length (states_in part around p)
  after_is Done n part around = omega arith
  after_is (Does m rest) n part around = let a = after_is rest (suc n) part around in omega arith
  after_is (ChoiceHere bs rest) n part around =
      let a = here_is bs (suc n) (Left rest part ∷ around) in
      let b = after_is rest (after_here (suc n) bs) part around in
      let c = length-append (positions_here (Left rest part ∷ around) bs) (states_in part around rest) in
      omega arith
  after_is (ChoiceThere number bs rest) n part around =
      let a = there_is bs (suc n) (Left rest part ∷ around) in
      let b = after_is rest (after_there (suc n) bs) part around in
      let c = length-append (positions_there (Left rest part ∷ around) bs) (states_in part around rest) in
      omega arith
  after_is (Rec name body rest) n part around =
      let a = after_is body n (BodyOf name body) (Left rest part ∷ around) in
      let b = after_is rest (after n body) part around in
      let c = length-append (states_in (BodyOf name body) (Left rest part ∷ around) body) (states_in part around rest) in
      omega arith
  after_is (Continue name rest) n part around = after_is rest n part around
  after_is (Do name rest) n part around = after_is rest n part around

  here_is : (bs : Branches) (n : ℕ) (around : Position) → after_here n bs ≡ n + length (positions_here around bs)
  here_is NoMore n around = omega arith
  here_is (Branch b more) n around =
      let a = behind_is b n around in
      let c = here_is more (after_behind n b) around in
      let d = length-append (positions_behind around b) (positions_here around more) in
      omega arith

  behind_is : (b : Protocol) (n : ℕ) (around : Position) → after_behind n b ≡ n + length (positions_behind around b)
  behind_is (Does m rest) n around = after_is rest n Plain around
  behind_is Done n around = omega arith
  behind_is (ChoiceHere bs rest) n around = omega arith
  behind_is (ChoiceThere number bs rest) n around = omega arith
  behind_is (Rec name body rest) n around = omega arith
  behind_is (Continue name rest) n around = omega arith
  behind_is (Do name rest) n around = omega arith

  there_is : (bs : Branches) (n : ℕ) (around : Position) → after_there n bs ≡ n + length (positions_there around bs)
  there_is NoMore n around = omega arith
  there_is (Branch b more) n around =
      let a = from_is b n around in
      let c = there_is more (after_from n b) around in
      let d = length-append (positions_from around b) (positions_there around more) in
      omega arith

  from_is : (b : Protocol) (n : ℕ) (around : Position) → after_from n b ≡ n + length (positions_from around b)
  from_is (Does m rest) n around = let a = after_is rest (suc n) Plain around in omega arith
  from_is Done n around = omega arith
  from_is (ChoiceHere bs rest) n around = omega arith
  from_is (ChoiceThere number bs rest) n around = omega arith
  from_is (Rec name body rest) n around = omega arith
  from_is (Continue name rest) n around = omega arith
  from_is (Do name rest) n around = omega arith

module _ (me : Name) (entry : Name → Standing) where
  mutual
    pub as_many : (p : Protocol) (n : ℕ) (follow : Standing) (starts : List Start) (part : Part) (around : Position) →
        length (states entry me n follow starts p) ≡ length (states_in part around p)
    as_many Done n follow starts part around = refl
    as_many (Does m rest) n follow starts part around = ap suc (as_many rest (suc n) follow starts part around)
    as_many (ChoiceHere bs rest) n follow starts part around =
        let k = after_here (suc n) bs in
        let next = first entry k follow starts rest in
        let a = here_many bs (suc n) next starts (Left rest part ∷ around) in
        let b = as_many rest k follow starts part around in
        let c = length-append (positions_here (Left rest part ∷ around) bs) (states_in part around rest) in
        let d = length-append (states_here entry me (suc n) next starts bs) (states entry me k follow starts rest) in
        omega arith
    as_many (ChoiceThere number bs rest) n follow starts part around =
        let k = after_there (suc n) bs in
        let next = first entry k follow starts rest in
        let a = there_many bs (suc n) next starts (Left rest part ∷ around) in
        let b = as_many rest k follow starts part around in
        let c = length-append (positions_there (Left rest part ∷ around) bs) (states_in part around rest) in
        let d = length-append (states_there entry me (suc n) next starts bs) (states entry me k follow starts rest) in
        omega arith
    as_many (Rec name body rest) n follow starts part around =
        let k = after n body in
        let next = first entry k follow starts rest in
        let inside : List Start = record { name = name; to = first entry n next starts body } ∷ starts in
        let a = as_many body n next inside (BodyOf name body) (Left rest part ∷ around) in
        let b = as_many rest k follow starts part around in
        let c = length-append (states_in (BodyOf name body) (Left rest part ∷ around) body) (states_in part around rest) in
        let d = length-append (states entry me n next inside body) (states entry me k follow starts rest) in
        omega arith
    as_many (Continue name rest) n follow starts part around = as_many rest n follow starts part around
    as_many (Do name rest) n follow starts part around = as_many rest n follow starts part around

    here_many : (bs : Branches) (n : ℕ) (follow : Standing) (starts : List Start) (around : Position) →
        length (states_here entry me n follow starts bs) ≡ length (positions_here around bs)
    here_many NoMore n follow starts around = refl
    here_many (Branch b more) n follow starts around =
        let a = behind_many b n follow starts around in
        let c = here_many more (after_behind n b) follow starts around in
        let d = length-append (positions_behind around b) (positions_here around more) in
        let e = length-append (states_behind entry me n follow starts b) (states_here entry me (after_behind n b) follow starts more) in
        omega arith

    behind_many : (b : Protocol) (n : ℕ) (follow : Standing) (starts : List Start) (around : Position) →
        length (states_behind entry me n follow starts b) ≡ length (positions_behind around b)
    behind_many (Does m rest) n follow starts around = as_many rest n follow starts Plain around
    behind_many Done n follow starts around = refl
    behind_many (ChoiceHere bs rest) n follow starts around = refl
    behind_many (ChoiceThere number bs rest) n follow starts around = refl
    behind_many (Rec name body rest) n follow starts around = refl
    behind_many (Continue name rest) n follow starts around = refl
    behind_many (Do name rest) n follow starts around = refl

    there_many : (bs : Branches) (n : ℕ) (follow : Standing) (starts : List Start) (around : Position) →
        length (states_there entry me n follow starts bs) ≡ length (positions_there around bs)
    there_many NoMore n follow starts around = refl
    there_many (Branch b more) n follow starts around =
        let a = from_many b n follow starts around in
        let c = there_many more (after_from n b) follow starts around in
        let d = length-append (positions_from around b) (positions_there around more) in
        let e = length-append (states_from entry me n follow starts b) (states_there entry me (after_from n b) follow starts more) in
        omega arith

    from_many : (b : Protocol) (n : ℕ) (follow : Standing) (starts : List Start) (around : Position) →
        length (states_from entry me n follow starts b) ≡ length (positions_from around b)
    from_many (Does m rest) n follow starts around = ap suc (as_many rest (suc n) follow starts Plain around)
    from_many Done n follow starts around = refl
    from_many (ChoiceHere bs rest) n follow starts around = refl
    from_many (ChoiceThere number bs rest) n follow starts around = refl
    from_many (Rec name body rest) n follow starts around = refl
    from_many (Continue name rest) n follow starts around = refl
    from_many (Do name rest) n follow starts around = refl

-- ---- the branches of a choice, at self or elsewhere

abbrev pub after_in : Bool → ℕ → Branches → ℕ
after_in true n bs = after_here n bs
after_in false n bs = after_there n bs

abbrev pub after_one : Bool → ℕ → Protocol → ℕ
after_one true n b = after_behind n b
after_one false n b = after_from n b

pub after-Branch : (self : Bool) (n : ℕ) (b : Protocol) (more : Branches) → after_in self n (Branch b more)
    ≡ after_in self (after_one self n b) more
after-Branch true n b more = refl
after-Branch false n b more = refl

pub after-NoMore : (self : Bool) (n : ℕ) → after_in self n NoMore ≡ n
after-NoMore true n = refl
after-NoMore false n = refl

in_is : (self : Bool) (bs : Branches) (n : ℕ) (around : Position) → after_in self n bs ≡ n + length (Parts.within self around bs)
in_is true bs n around = here_is bs n around
in_is false bs n around = there_is bs n around

-- ---- what is laid out

-- `parts` gives the numbers of the protocols
module _ (me : Name) (parts : Name → Option ℕ) where
  -- the number before the first state and those that are laid out from there on are as many as the number behind, and those behind
  pub laid_count : (t : Statements) (known : List Known) (w : Work) (n c : ℕ) → after n (numbered me c t) + length w.cells
      ≡ n + length (lay me parts known w t).cells
  laid_count t known w n c =
      let a = after_is (numbered me c t) n Plain [] in
      let b = counted me parts t known w c Plain [] in
      omega arith

  pub gathered_count : (bs : tree.Branches) (known : List Known) (self : Bool) (behind : Hop) (g : Gathered) (n c : ℕ) →
      after_in self n (numbered_in me c bs) + length g.work.cells ≡ n + length (lay_in me parts known self behind g bs).work.cells
  gathered_count bs known self behind g n c =
      let a = in_is self (numbered_in me c bs) n [] in
      let b = counted_in me parts bs known self behind g c [] in
      omega arith

  -- statements without states
  none_left : {A : Type 0} (xs : List A) → length xs ≡ 0 → xs ≡ []
  none_left [] e = refl
  none_left (x ∷ xs) e = cc

  pub none_numbered : (entry : Name → Standing) (t : Statements) (n c : ℕ) (follow : Standing) (starts : List Start) → HasNone me parts t →
      states entry me n follow starts (numbered me c t) ≡ []
  none_numbered entry t n c follow starts none = none_left _ (as_many me entry (numbered me c t) n follow starts Plain [] ∙
      ap length (none c Plain []))

  pub none_after : (t : Statements) (n c : ℕ) → HasNone me parts t → after n (numbered me c t) ≡ n
  none_after t n c none = let a = after_is (numbered me c t) n Plain [] in let b : length (states_in Plain [] (numbered me c t)) ≡ 0 =
      ap length (none c Plain []) in omega arith
