-- An instruction that takes operands and gives some: its row is met exactly where it can settle so.
use Rattle.std.proofs.Common.{◌≡◌, ℕ, ◌+◌, ◌≤◌, true, List, ◌++◌, length, None, sym, ap, ap₂, subst, ◌∙◌, arith}
use Rattle.std.proofs.lemmas.List.{length-append, length-map, map-append}
use Rattle.mg_text.specs.Call.{Name}
use Rattle.vm_model.specs.Program.{Program, MethodOf}
use Rattle.vm_model.specs.Actions.{Action}
use Rattle.vm_model.specs.Tests.{Needs}
use Rattle.vm_model.specs.Tests as tests
use Rattle.cls_verify.specs.Kinds.{AllPass}
use Rattle.cls_verify.specs.Kinds as model
use Rattle.cls_verify.specs.Rows.{Names, gives, locals_after}
use Rattle.cls_verify.specs.Typing.{Kinds, asks, ReadsOf}
use Rattle.cls_verify.specs.BlockRows.{Row}
use Rattle.cls_verify.proofs.Searching.{pass_many}
use Rattle.cls_kinds.specs.declared.kind.Kind.{Kind}
use Rattle.cls_kinds.specs.Stacks.{stack_at}
use Rattle.cls_kinds.specs.Named.{kind_of, kinds_of}
use Rattle.cls_rows.specs.declared.frame.Frame.{Frame}
use Rattle.cls_rows.specs.declared.want.Want.{Want}
use Rattle.cls_rows.specs.Wants.{all_pass}
use Rattle.cls_rows.specs.Settling.{Settles, CanSettle}
use Rattle.cls_rows.specs.Frames.{kinds_at}
use Rattle.cls_rows.proofs.Alike.{kinds_with, AllAlike, all_alike, split_kinds}

-- What an instruction does that takes these operands and gives these kinds, whatever it finds.
pub record IsPlain (names : List Name) (p : Program) (class method : ℕ) (m : MethodOf) (a : Action) (ws : List Want)
    (given : List Kind) : Type 0 where
  pub takes : List tests.Want
  pub takes_are : (k : Kinds) → (asks p class method k a).takes ≡ takes
  pub alike : AllAlike names ws takes
  pub reads : (k : Kinds) → (asks p class method k a).reads ≡ None
  pub locals : (k : Kinds) → (asks p class method k a).locals ≤ (asks p class method k a).of_locals
  pub returns : (k : Kinds) → (asks p class method k a).returns ≡ true
  pub room : (k : Kinds) (below : ℕ) → length k.operands ≡ below + length takes → below + length given ≤ m.max_stack →
      (asks p class method k a).operands ≤ (asks p class method k a).max_stack
  pub names_are : Names p a
  pub gives_are : (locals taken : List model.Kind) → gives p a locals taken ≡ kinds_of names given
  pub stays : (locals taken : List model.Kind) → locals_after a locals taken ≡ locals

module _ (names : List Name) (rest : List model.Kind) (p : Program) (class method : ℕ) (m : MethodOf) (a : Action) (ws : List Want)
    (given : List Kind)
    (i : IsPlain names p class method m a ws given) where
  pub settled_row : (old new : List (List Kind)) (f g : Frame) → Settles old new m.max_stack ws given f g →
      Row p class method m (kinds_at names rest old f) a (kinds_at names rest new g)
  settled_row old new f g s =
      let k : Kinds = kinds_at names rest old f in
      let split : kinds_of names (stack_at old f.operands) ≡ kinds_of names s.below ++ kinds_of names s.takes.taken =
      ap (kinds_of names) s.takes.split ∙ map-append (kind_of names) s.below s.takes.taken in
      let pass : AllPass i.takes (kinds_of names s.takes.taken) = (all_alike names ws i.takes i.alike s.takes.taken).0 s.takes.pass in
      let many : length i.takes ≡ length (kinds_of names s.takes.taken) = pass_many i.takes (kinds_of names s.takes.taken) pass in
      let left : kinds_of names (stack_at new g.operands) ≡ kinds_of names s.below ++ kinds_of names given =
      ap (kinds_of names) s.left ∙ map-append (kind_of names) s.below given in
      let whole : length (kinds_of names (stack_at old f.operands)) ≡ length (kinds_of names s.below) + length
      (kinds_of names s.takes.taken) =
      ap length split ∙ length-append (kinds_of names s.below) (kinds_of names s.takes.taken) in
      let low = length-map s.below (kind_of names) in
      let both = length-append s.below given in
      let deep = length-map (stack_at new g.operands) (kind_of names) in
      let news : length (stack_at new g.operands) ≡ length (s.below ++ given) = ap length s.left in
      let limit = s.room in
      record {
        below = kinds_of names s.below;
        taken = kinds_of names s.takes.taken;
        split = split;
        meets = record {
          takes = subst (λ vs. AllPass vs (kinds_of names s.takes.taken)) (sym (i.takes_are (kinds_at names rest old f))) pass;
          reads = subst (λ r. ReadsOf r (kinds_at names rest old f).locals) (sym (i.reads (kinds_at names rest old f))) tt;
          locals_there = i.locals (kinds_at names rest old f);
          returns = i.returns (kinds_at names rest old f);
          room = i.room (kinds_at names rest old f) (length s.below) (omega (arith, whole, low, many)) (omega (arith, both, limit));
        };
        names = i.names_are;
        left_is = ap₂ kinds_with
            (ap (λ ks. kinds_of names ks ++ rest) s.locals
            ∙ sym (i.stays (kinds_at names rest old f).locals (kinds_of names s.takes.taken)))
            (left ∙ ap (λ ks. kinds_of names s.below ++ ks)
            (sym (i.gives_are (kinds_at names rest old f).locals (kinds_of names s.takes.taken))));
        room = omega (arith, deep, news, limit);
      }

  pub row_settles : (old : List (List Kind)) (f : Frame) (left : Kinds) → Row p class method m (kinds_at names rest old f) a left →
      CanSettle old m.max_stack ws given f
  row_settles old f left r =
      let (b, (t, (s, (low, top)))) = split_kinds names (stack_at old f.operands) r.below r.taken r.split in
      let pass : AllPass i.takes r.taken = subst (λ vs. AllPass vs r.taken) (i.takes_are (kinds_at names rest old f)) r.meets.takes in
      let here : all_pass ws t ≡ true = (all_alike names ws i.takes i.alike t).1 (subst (AllPass i.takes) (sym top) pass) in
      let lefts : length left.operands ≡ length (r.below ++ gives p a (kinds_at names rest old f).locals r.taken) =
      ap (λ (x : Kinds). length x.operands) r.left_is in
      let sum = length-append r.below (gives p a (kinds_at names rest old f).locals r.taken) in
      let given_many : length (gives p a (kinds_at names rest old f).locals r.taken) ≡ length (kinds_of names given) =
      ap length (i.gives_are (kinds_at names rest old f).locals r.taken) in
      let given_long = length-map given (kind_of names) in
      let low_long : length r.below ≡ length b = sym (ap length low) ∙ length-map b (kind_of names) in
      let both = length-append b given in
      let limit = r.room in
      (b, (record { taken = t; split = s; pass = here }, omega (arith, lefts, sum, given_many, given_long, low_long, both, limit)))
