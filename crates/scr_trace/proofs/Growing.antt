-- Laying out keeps the numbers of the recs that are there.
use Rattle.std.proofs.Common.{◌≡◌, ℕ, ◌<◌, ◌≤◌, length, get_or, Bool, true, false, List, [], ◌∷◌, ◌++◌, refl, ap, ◌∙◌, arith}
use Rattle.std.proofs.Common.{get_or-set_other}
use Rattle.std.specs.Prelude.{slice_set, Option}
use Rattle.std.specs.Str.{bytes_eq}
use Rattle.std.proofs.lemmas.List.{length-append, get_or_append_left}
use Rattle.std.proofs.Math.ListN.{length-set}
use Rattle.mg_text.specs.Call.{Name}
use Rattle.scr_tree.specs.declared.syntax.Message.{Message as Said}
use Rattle.scr_tree.specs.Tree.{Statements, Nothing, Says, Choice, Rec, Continue, Do, Branches, NoBranch, Branch}
use Rattle.scr_trace.specs.inner.Laying.{Work, Known, Gathered, lay, lay_in, branch_laid, turned, said, opened, closed, chosen, gathering}
use Rattle.scr_trace.specs.inner.Laying.{joined}

-- a list is kept: the other has its elements, and perhaps more
pub record Keeps (xs ys : List ℕ) : Type 0 where
  pub longer : length xs ≤ length ys
  pub same : (j : ℕ) → j < length xs → get_or ys j 0 ≡ get_or xs j 0

pub keeps_all : (xs : List ℕ) → Keeps xs xs
keeps_all xs = record { longer = omega arith; same = λ j h. refl }

pub keeps_more : (xs ys zs : List ℕ) → Keeps xs ys → Keeps ys zs → Keeps xs zs
keeps_more xs ys zs a b = record {
  longer = let l = a.longer in let m = b.longer in omega arith;
  same = λ j h. b.same j (let l = a.longer in omega arith) ∙ a.same j h;
}

-- what is final from the first entry on is final behind it, when the first entry is set
pub final_behind : (total v o x u : List ℕ) (c first : ℕ) → o ≡ v ++ 0 ∷ [] → u ≡ slice_set x (length v) c → first ≤ length v →
    ((j : ℕ) → first ≤ j → j < length u → get_or total j 0 ≡ get_or u j 0) → (j : ℕ) → length o ≤ j → j < length x →
    get_or total j 0 ≡ get_or x j 0
final_behind total v o x u c first opens sets longer final j l h =
    let n = ap length opens ∙ length-append v (0 ∷ []) in
    let m : length u ≡ length x = ap length sets ∙ length-set x (length v) c in
    final j (omega arith) (omega arith) ∙ ap (λ ls. get_or ls j 0) sets ∙ get_or-set_other x (length v) j c 0
    (λ e. let z : ⊥ = omega arith in z)

keeps_set : (xs ys : List ℕ) (x : ℕ) → Keeps (xs ++ 0 ∷ []) ys → Keeps xs (slice_set ys (length xs) x)
keeps_set xs ys x k =
    let l = k.longer in
    let n = length-append xs (0 ∷ []) in
    let m = length-set ys (length xs) x in
    record {
      longer = omega arith;
      same = λ j h.
          get_or-set_other ys (length xs) j x 0 (λ e. let z : ⊥ = omega arith in z)
          ∙ k.same j (omega arith) ∙ get_or_append_left xs (0 ∷ []) 0 j h;
    }

pub keeps_said : (m : Said) (w : Work) → Keeps w.loops (said m w).loops
unfolding said
keeps_said m w = keeps_all w.loops

pub keeps_chosen : (self : Bool) (g : Gathered) → Keeps g.work.loops (chosen self g).loops
unfolding chosen
keeps_chosen self g = keeps_all g.work.loops

pub keeps_joined : (self : Bool) (m : Said) (g : Gathered) → Keeps g.work.loops (joined self m g).work.loops
unfolding joined
keeps_joined true m g = keeps_all g.work.loops
keeps_joined false m g = keeps_said m g.work

pub keeps_rec : (w u : Work) → Keeps (opened w).loops u.loops → Keeps w.loops (closed (length w.loops) u).loops
unfolding opened closed
keeps_rec w u k = keeps_set w.loops u.loops (length u.cells) k

mutual
  pub keeps : (me : Name) (entry : Name → Option ℕ) (around : List Known) (w : Work) (t : Statements) →
      Keeps w.loops (lay me entry around w t).loops
  keeps me entry around w Nothing = keeps_all w.loops
  keeps me entry around w (Says m rest) = keeps_more _ _ _ (keeps me entry around w rest) (keeps_said m _)
  keeps me entry around w (Choice place at branches rest) =
      let v = lay me entry around w rest in
      keeps_more _ _ _ (keeps me entry around w rest)
      (keeps_more _ _ _ (keeps_in me entry around (bytes_eq at me) v.next (gathering v) branches) (keeps_chosen _ _))
  keeps me entry around w (Rec place name body rest) =
      let v = lay me entry around w rest in
      keeps_more _ _ _ (keeps me entry around w rest) (keeps_rec v _ (keeps me entry _ (opened v) body))
  keeps me entry around w (Continue place name rest) = keeps me entry around w rest
  keeps me entry around w (Do place name rest) = keeps me entry around w rest

  pub keeps_in : (me : Name) (entry : Name → Option ℕ) (around : List Known) (self : Bool) (behind : _) (g : Gathered) (bs : Branches) →
      Keeps g.work.loops (lay_in me entry around self behind g bs).work.loops
  keeps_in me entry around self behind g NoBranch = keeps_all g.work.loops
  keeps_in me entry around self behind g (Branch b more) =
      keeps_more _ _ _ (keeps_in me entry around self behind g more)
      (keeps_branch me entry around self b (turned behind (lay_in me entry around self behind g more)))

  pub keeps_branch : (me : Name) (entry : Name → Option ℕ) (around : List Known) (self : Bool) (b : Statements) (g : Gathered) →
      Keeps g.work.loops (branch_laid me entry self around b g).work.loops
  keeps_branch me entry around self (Says m rest) g =
      keeps_more _ _ _ (keeps me entry around g.work rest) (keeps_joined self m _)
  keeps_branch me entry around self Nothing g = keeps_all g.work.loops
  keeps_branch me entry around self (Choice place at branches rest) g = keeps_all g.work.loops
  keeps_branch me entry around self (Rec place name body rest) g = keeps_all g.work.loops
  keeps_branch me entry around self (Continue place name rest) g = keeps_all g.work.loops
  keeps_branch me entry around self (Do place name rest) g = keeps_all g.work.loops

-- the number of a rec whose body is laid out stands for one
pub number_within : (me : Name) (entry : Name → Option ℕ) (around : List Known) (w : Work) (t : Statements) →
    length w.loops < length (lay me entry around (opened w) t).loops
unfolding opened
number_within me entry around w t =
    let l = (keeps me entry around (opened w) t).longer in
    let n = length-append w.loops (0 ∷ []) in
    omega arith

pub closes : (me : Name) (entry : Name → Option ℕ) (around : List Known) (w o u : Work) (t : Statements) (number : ℕ) →
    number ≡ length w.loops → o ≡ opened w → u ≡ lay me entry around o t → number < length u.loops
closes me entry around w o u t number is opens laid =
    let e : length u.loops ≡ length (lay me entry around (opened w) t).loops = ap (λ (x : Work). length x.loops) laid ∙
    ap (λ (x : Work). length (lay me entry around x t).loops) opens in
    let h = number_within me entry around w t in
    omega arith
