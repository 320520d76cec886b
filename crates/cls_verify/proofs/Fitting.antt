-- Where a method has a typing, what fits it meets its rows, and leads to what fits it.
use Rattle.std.proofs.Common.{◌≡◌, ℕ, ◌+◌, ◌≤◌, ◌⊎◌, inl, inr, List, [], ◌++◌, length, refl, sym, ap, ap₂, subst, ◌∙◌, arith}
use Rattle.std.specs.Prelude.{Contains}
use Rattle.std.proofs.lemmas.List.{length-append}
use Rattle.vm_model.specs.Program.{Program, MethodOf}
use Rattle.vm_model.specs.Actions.{Action, action, Push, Load, Store, Pop, Double, Swap, Compute, Negate, Increase, IfZero, IfBoth, IfNull}
use Rattle.vm_model.specs.Actions.{Go, Switch, Return, Read, Write, Make, Call, Use}
use Rattle.cls_verify.specs.Kinds.{Kind}
use Rattle.cls_verify.specs.Rows.{leads, gives}
use Rattle.cls_verify.specs.Typing.{Kinds, asks, LeadsTo, IsTyped, Typing}
use Rattle.cls_verify.specs.Search.{left_by}
use Rattle.cls_verify.proofs.OfKinds.{all_fit_many}
use Rattle.cls_verify.proofs.Searching.{row_met}
use Rattle.cls_verify.specs.BlockRows.{RowAt}
use Rattle.cls_verify.specs.Laws.{RowsAreMet, WaysFit}
use Rattle.cls_verify.proofs.Searching.{pass_many, same_split}
use Rattle.cls_verify.proofs.Splits.{each_of}

-- an instruction goes on behind itself, or pushes nothing
goes_or_gives_none : (p : Program) (a : Action) (place : ℕ) (locals taken : List Kind) →
    Contains (leads a place) (place + 1) ⊎ (gives p a locals taken ≡ [])
goes_or_gives_none p (IfZero comparison target) place locals taken = inl (1, omega arith, refl)
goes_or_gives_none p (IfBoth comparison target) place locals taken = inl (1, omega arith, refl)
goes_or_gives_none p (IfNull wanted target) place locals taken = inl (1, omega arith, refl)
goes_or_gives_none p (Go target) place locals taken = inr refl
goes_or_gives_none p (Switch default low targets) place locals taken = inr refl
goes_or_gives_none p (Return sort) place locals taken = inr refl
goes_or_gives_none p (Push v) place locals taken = inl (0, omega arith, refl)
goes_or_gives_none p (Load sort local) place locals taken = inl (0, omega arith, refl)
goes_or_gives_none p (Store sort local) place locals taken = inl (0, omega arith, refl)
goes_or_gives_none p Pop place locals taken = inl (0, omega arith, refl)
goes_or_gives_none p Double place locals taken = inl (0, omega arith, refl)
goes_or_gives_none p Swap place locals taken = inl (0, omega arith, refl)
goes_or_gives_none p (Compute operation) place locals taken = inl (0, omega arith, refl)
goes_or_gives_none p Negate place locals taken = inl (0, omega arith, refl)
goes_or_gives_none p (Increase local value) place locals taken = inl (0, omega arith, refl)
goes_or_gives_none p (Read class field) place locals taken = inl (0, omega arith, refl)
goes_or_gives_none p (Write class field) place locals taken = inl (0, omega arith, refl)
goes_or_gives_none p (Make class) place locals taken = inl (0, omega arith, refl)
goes_or_gives_none p (Call _ class method) place locals taken = inl (0, omega arith, refl)
goes_or_gives_none p (Use b) place locals taken = inl (0, omega arith, refl)

module _ (p : Program) (class method : ℕ) (m : MethodOf) (typing : Typing p class method m) where
  room_behind : (place : ℕ) (k : Kinds) → LeadsTo typing.at k place → (t : IsTyped p class method m.code typing.at place k) →
      length (left_by p t.action_is k.locals t.below t.taken).operands ≤ m.max_stack
  room_behind place k l t = go (goes_or_gives_none p t.action_is place k.locals t.taken)
    where
      left : Kinds
      left = left_by p t.action_is k.locals t.below t.taken

      go : Contains (leads t.action_is place) (place + 1) ⊎ (gives p t.action_is k.locals t.taken ≡ []) →
          length (left_by p t.action_is k.locals t.below t.taken).operands ≤ m.max_stack
      go (inl c) =
          let h = each_of (LeadsTo typing.at (left_by p t.action_is k.locals t.below t.taken)) (leads t.action_is place)
          (place + 1) t.leads_on c in
          let many : length (left_by p t.action_is k.locals t.below t.taken).operands ≡ length h.kinds.operands =
          all_fit_many (left_by p t.action_is k.locals t.below t.taken).operands h.kinds.operands h.operands in
          let r = typing.room (place + 1) h.kinds h.typed in
          omega (arith, many, r)
      go (inr e) =
          let a : length (t.below ++ gives p t.action_is k.locals t.taken) ≡ length t.below + length
          (gives p t.action_is k.locals t.taken) =
          length-append t.below (gives p t.action_is k.locals t.taken) in
          let z : length (gives p t.action_is k.locals t.taken) ≡ 0 = ap length e in
          let s : length k.operands ≡ length t.below + length t.taken = ap length t.split ∙ length-append t.below t.taken in
          let many : length k.operands ≡ length l.kinds.operands = all_fit_many k.operands l.kinds.operands l.operands in
          let r = typing.room place l.kinds l.typed in
          omega (arith, a, z, s, many, r)

  pub met_here : (place : ℕ) (k : Kinds) → LeadsTo typing.at k place → (left : Kinds) × RowAt p class method m place k left
  met_here place k l =
      let t = row_met p class method m typing place k l in (
        left_by p t.action_is k.locals t.below t.taken,
        record {
          instr = t.instr;
          there = t.there;
          action_is = t.action_is;
          acts = t.acts;
          row = record {
            below = t.below;
            taken = t.taken;
            split = t.split;
            meets = t.meets;
            names = t.names;
            left_is = refl;
            room = room_behind place k l t;
          };
        },
      )

  pub fit_there : (place next : ℕ) (k left : Kinds) → LeadsTo typing.at k place → (r : RowAt p class method m place k left) →
      Contains (leads r.action_is place) next → LeadsTo typing.at left next
  fit_there place next k left l r c =
      let t = row_met p class method m typing place k l in
      let instr : r.instr ≡ t.instr = cc (sym r.there ∙ t.there) in
      let act : r.action_is ≡ t.action_is = cc (sym r.acts ∙ ap (λ i. action i.op i.args) instr ∙ t.acts) in
      let count : length r.row.taken ≡ length t.taken =
      sym (pass_many (asks p class method k r.action_is).takes r.row.taken r.row.meets.takes)
      ∙ ap (λ a. length (asks p class method k a).takes) act ∙ pass_many (asks p class method k t.action_is).takes t.taken t.meets.takes in
      let parts : (r.row.below ≡ t.below) × (r.row.taken ≡ t.taken) =
      same_split r.row.below r.row.taken t.below t.taken (sym r.row.split ∙ t.split) count in
      let left_is : left ≡ left_by p t.action_is k.locals t.below t.taken =
      r.row.left_is ∙ ap (λ a. left_by p a k.locals r.row.below r.row.taken) act ∙ ap₂ (left_by p t.action_is k.locals) parts.0 parts.1 in
      subst (λ x. LeadsTo typing.at x next) (sym left_is)
      (each_of (LeadsTo typing.at (left_by p t.action_is k.locals t.below t.taken)) (leads t.action_is place) next t.leads_on
      (subst (λ a. Contains (leads a place) next) act c))

pub rows_are_met : RowsAreMet
rows_are_met p class method m typing place k l = met_here p class method m typing place k l

pub ways_fit : WaysFit
ways_fit p class method m typing place next k left l r c = fit_there p class method m typing place next k left l r c
