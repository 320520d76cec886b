-- Statements are laid out to begin where the numbers say.
use Rattle.std.proofs.Common.{◌≡◌, ℕ, suc, ◌+◌, ◌-◌, List, ◌∷◌, length, Option, Contains, refl, sym, ap, ◌∙◌, subst, inl, inr, ◌⊎◌, ⊎_elim}
use Rattle.std.proofs.Common.{Bool, true, false, ◌&&◌, if◌then◌else◌, arith}
use Rattle.std.specs.Str.{bytes_eq}
use Rattle.std.proofs.lemmas.Slice.Eq.{bytes_eq-Decides}
use Rattle.mg_text.specs.Call.{Name}
use Rattle.scr_tree.specs.Tree.{Statements, Nothing, Says, Choice, Rec, Continue, Do}
use Rattle.scr_tree.specs.Meaning.{choices, choices_in, numbered, numbered_in}
use Rattle.scr_tree.specs.Protocol.{Protocol, ChoiceHere, ChoiceThere, Branches}
use Rattle.scr_trace.specs.declared.standing.Standing.{Standing}
use Rattle.scr_trace.specs.declared.standing.Standing.TheVariants as standings
use Rattle.scr_trace.specs.declared.arrow.Hop.TheVariants as hops
use Rattle.scr_trace.specs.inner.Laying.{Work, Known, lay, lay_in, opened, chosen, gathering, hop_named, hop_to}
use Rattle.scr_trace.specs.inner.View.{standing_of}
use Rattle.scr_trace.proofs.Parts
use Rattle.scr_trace.proofs.Leading.{true_or_false, among_rest}
use Rattle.scr_trace.proofs.Rules.{passes, Guards, is_among, Sound}
use Rattle.stm_gen.specs.Numbered.{after, Start, start_of, first}
use Rattle.stm_gen.proofs.Numbers.{laid_count}

both_true : (a b : Bool) → a ≡ true → b ≡ true → (a && b) ≡ true
both_true true b e f = f
both_true false b e f = cc

-- ---- where recs of these names begin

pub start_here : (name : Name) (to : Standing) (starts : List Start) → start_of name (record { name = name; to = to } ∷ starts) ≡ to
start_here name to starts = ap (λ b. if b then to else start_of name starts) ((bytes_eq-Decides name name).1 refl)

pub start_past : (name : Name) (start : Start) (starts : List Start) → bytes_eq name start.name ≡ false → start_of name (start ∷ starts)
    ≡ start_of name starts
start_past name start starts e = ap (λ b. if b then start.to else start_of name starts) e

pub hop_past : (name : Name) (k : Known) (known : List Known) → bytes_eq name k.name ≡ false → hop_named name (k ∷ known)
    ≡ hop_named name known
hop_past name k known e = ap (λ b. if b then hops.Loop k.number else hop_named name known) e

-- where a part is laid out to begin, by its name
abbrev pub entered : (Name → Option ℕ) → Work → Name → Standing
entered parts total name = standing_of total (hop_to (parts name))

-- a choice begins at its own state
first_chosen : (begins : Name → Standing) (self : Bool) (n c : ℕ) (follow : Standing) (starts : List Start) (x y : Branches)
    (r s : Protocol) → first begins n follow starts (if self then ChoiceHere x r else ChoiceThere c y s) ≡ standings.State n
first_chosen begins true n c follow starts x y r s = refl
first_chosen begins false n c follow starts x y r s = refl

module _ (me : Name) (parts : Name → Option ℕ) (protocols : List Name) (total : Work) where
  -- the number of a state, counted from the end
  at_number : (n k : ℕ) → n + k ≡ length total.cells → standings.State n ≡ standing_of total (hops.State k)
  at_number n k e = let f : n ≡ length total.cells - k = omega arith in ap standings.State f

  -- where each `continue` leads that no message guards
  abbrev pub Returns : List Name → Statements → List Known → List Start → Type 0
  Returns names t known starts = (name : Name) → is_among name names ≡ true →
      Guards name t ⊎ (start_of name starts ≡ standing_of total (hop_named name known))

  pub returns_in : (names : List Name) (place : _) (name : Name) (body rest : Statements) (known : List Known) (number : ℕ)
      (starts : List Start) → Guards name body →
      Returns names (Rec place name body rest) known starts → Returns (name ∷ names) body (record { name = name; number = number } ∷ known)
      starts
  returns_in names place name body rest known number starts g h z among =
      ⊎_elim
      (λ e. inl (subst (λ x. Guards x body) (sym ((bytes_eq-Decides z name).0 e)) g))
      (λ e. ⊎_elim (λ (q : Guards z (Rec place name body rest)). inl q.0)
      (λ b. inr (b ∙ ap (standing_of total) (sym (hop_past z (record { name = name; number = number }) known e))))
      (h z (among_rest z name names e among)))
      (true_or_false (bytes_eq z name))

  returns_behind : (names : List Name) (place : _) (name : Name) (body rest : Statements) (known : List Known) (starts : List Start) →
      passes body ≡ true →
      Returns names (Rec place name body rest) known starts → Returns names rest known starts
  returns_behind names place name body rest known starts e h z among = ⊎_elim (λ (q : Guards z (Rec place name body rest)). inl (q.1 e))
      (λ b. inr b) (h z among)

  -- `begins` says where the parts begin
  module _ (begins : Name → Standing) (enters : (name : Name) → Contains protocols name → begins name ≡ entered parts total name) where
    pub begins_at : (t : Statements) (names : List Name) → Sound protocols names t → (known : List Known) (w : Work) (n c : ℕ)
        (follow : Standing) (starts : List Start) →
        after n (numbered me c t) + length w.cells ≡ length total.cells → (passes t ≡ true → follow ≡ standing_of total w.next) →
        Returns names t known starts →
        first begins n follow starts (numbered me c t) ≡ standing_of total (lay me parts known w t).next
    begins_at Nothing names h known w n c follow starts nums f r = f refl
    begins_at (Says m rest) names h known w n c follow starts nums f r =
        let v = lay me parts known w rest in
        let k = laid_count me parts rest known w (suc n) c in
        at_number n (suc (length v.cells)) (omega arith) ∙ ap (standing_of total) (sym (Parts.said_next m v))
    begins_at (Choice place at bs rest) names h known w n c follow starts nums f r =
        let v = lay me parts known w rest in
        let g = lay_in me parts known (bytes_eq at me) v.next (gathering v) bs in
        let k = laid_count me parts (Choice place at bs rest) known w n c in
        let l : length (chosen (bytes_eq at me) g).cells ≡ suc (length g.work.cells) = ap length (Parts.chosen_cells (bytes_eq at me) g) in
        first_chosen begins (bytes_eq at me) n c follow starts (numbered_in me c bs) (numbered_in me (suc c) bs)
        (numbered me (c + choices_in me bs) rest) (numbered me (suc c + choices_in me bs) rest)
        ∙ at_number n (suc (length g.work.cells)) (omega arith) ∙ ap (standing_of total) (sym (Parts.chosen_next (bytes_eq at me) g))
    begins_at (Rec place name body rest) names h known w n c follow starts nums f r =
        let v = lay me parts known w rest in
        let inside : List Known = record { name = name; number = length v.loops } ∷ known in
        let x = lay me parts inside (opened v) body in
        let p : Protocol = numbered me c body in
        let q : Protocol = numbered me (c + choices me body) rest in
        let k = laid_count me parts rest known w (after n p) (c + choices me body) in
        let l : length (opened v).cells ≡ length v.cells = ap length (Parts.opened_cells v) in
        begins_at body (name ∷ names) h.1 inside (opened v) n c (first begins (after n p) follow starts q) starts (omega arith)
        (λ e.
        begins_at rest names h.3 known w (after n p) (c + choices me body) follow starts nums
        (λ g. f (both_true (passes body) (passes rest) e g)) (returns_behind names place name body rest known starts e r)
        ∙ ap (standing_of total) (sym (Parts.opened_next v)))
        (returns_in names place name body rest known (length v.loops) starts h.0 r)
        ∙ ap (standing_of total) (sym (Parts.closed_next (length v.loops) x))
    begins_at (Continue place name rest) names h known w n c follow starts nums f r =
        ⊎_elim (λ (g : bytes_eq name name ≡ false). let e = (bytes_eq-Decides name name).1 refl in cc) (λ b. b) (r name h.0)
    begins_at (Do place name rest) names h known w n c follow starts nums f r = enters name h.0
