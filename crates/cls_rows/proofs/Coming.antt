-- What instructions come to, by what their operands are taken and left by.
use Rattle.std.proofs.Common.{◌≡◌, ℕ, zero, suc, ◌<◌, ◌≤◌, Bool, true, false, ◌&&◌, List, [], ◌∷◌, ◌++◌, length, Option, Some, None, refl}
use Rattle.std.proofs.Common.{sym, ap, subst, ◌∙◌, arith}
use Rattle.std.specs.Prelude.{Result, Ok, Err, IfOk, MatchOption, ℤ, slice_set}
use Rattle.std.proofs.lemmas.List.{append-nil, length-append}
use Rattle.mg_text.specs.declared.memory.Memory.{Memory}
use Rattle.vm_model.specs.Program.{Program, MethodOf}
use Rattle.vm_model.specs.Actions.{Action, Double, Swap, Load, Store, Increase, Go}
use Rattle.vm_actions.specs.declared.action.Sort.{Sort}
use Rattle.vm_actions.specs.declared.action.Sort.TheVariants as sorts
use Rattle.vm_actions.specs.Table.{sort_of}
use Rattle.cls_kinds.specs.declared.kind.Kind.{Kind}
use Rattle.cls_kinds.specs.Stacks.{stack_at}
use Rattle.cls_rows.specs.declared.frame.Frame.{Frame}
use Rattle.cls_rows.specs.declared.frame.Scene.{Scene}
use Rattle.cls_rows.specs.declared.want.Want.{Want}
use Rattle.cls_rows.specs.Wants.{all_pass, IsTaken}
use Rattle.cls_rows.specs.Settling.{Settles, CanSettle, GoesOn}
use Rattle.cls_rows.specs.Frames.{IsScene}
use Rattle.cls_rows.specs.Changes.{locals_of, CanDouble, Doubles, CanSwap, Swaps, CanRead, CanLoad, Loads, CanStore, Stores}
use Rattle.cls_rows.specs.Coming.{Comes}
use Rattle.cls_rows.proofs.Settled.{IsPlain, settled_row, row_settles}
use Rattle.cls_rows.proofs.Others.{double_row, row_doubles, swap_row, row_swaps, load_row, row_loads, store_row, row_stores, increase_row}
use Rattle.cls_rows.proofs.Others.{row_increases, go_row}

-- as many are taken as are wanted
taken_many : (ws : List Want) (ks : List Kind) → all_pass ws ks ≡ true → length ks ≡ length ws
taken_many [] [] e = refl
taken_many [] (k ∷ ks) e = absurd (cc e)
taken_many (w ∷ ws) [] e = absurd (cc e)
taken_many (w ∷ ws) (k ∷ ks) e = ap suc (taken_many ws ks (later _ _ e))
  where
    later : (a b : Bool) → (a && b) ≡ true → b ≡ true
    later true b f = f
    later false b f = absurd (cc f)

-- operands are taken, and the instruction goes on with what is left and given
pub went_settles : (old new : List (List Kind)) (limit : ℕ) (ws : List Want) (given : List Kind) (f : Frame) (below : ℕ) (o : Option Frame)
    →
    IsTaken ws (stack_at old f.operands) (stack_at old below) →
    MatchOption o (length (stack_at old below ++ given) ≤ limit → ⊥) (λ g. GoesOn old new limit below given f g) →
    MatchOption o (CanSettle old limit ws given f → ⊥) (λ g. Settles old new limit ws given f g)
went_settles old new limit ws given f below None t h = λ can.
    let (b, (i, room)) = can in
    let x = taken_many ws t.taken t.pass in
    let y = taken_many ws i.taken i.pass in
    let s = ap length t.split in
    let r = ap length i.split in
    let sl = length-append (stack_at old below) t.taken in
    let rl = length-append b i.taken in
    let gl = length-append (stack_at old below) given in
    let hl = length-append b given in
    h (omega (arith, x, y, s, r, sl, rl, gl, hl, room))
went_settles old new limit ws given f below (Some g) t h = record {
  below = stack_at old below;
  takes = t;
  left = h.left;
  locals = h.locals;
  room = h.room;
  there = h.there;
}

-- nothing is taken and nothing given
pub stays_settled : (stacks : List (List Kind)) (limit : ℕ) (f : Frame) → f.operands < length stacks →
    length (stack_at stacks f.operands) ≤ limit →
    Settles stacks stacks limit [] [] f f
stays_settled stacks limit f there fits = record {
  below = stack_at stacks f.operands;
  takes = record { taken = []; split = sym (append-nil (stack_at stacks f.operands)); pass = refl };
  left = sym (append-nil (stack_at stacks f.operands));
  locals = refl;
  room = let l = length-append (stack_at stacks f.operands) [] in omega (arith, l, fits);
  there = there;
}

module _ (s : Scene) (old new : List (List Kind)) (f : Frame) where
  pub settled_comes : (a : Action) (ws : List Want) (given : List Kind) (o : Option Frame) →
      ((p : Program) (class method : ℕ) (m : MethodOf) → IsScene p class method m s →
      IsPlain s.program.now.names p class method m a ws given) →
      MatchOption o (CanSettle old s.max_stack ws given f → ⊥) (λ g. Settles old new s.max_stack ws given f g) → Comes s old new f a o
  settled_comes a ws given None plain h = λ p class method m rest b left r.
      h (subst (λ n. CanSettle old n ws given f) (sym b.scene.max_stack)
      (row_settles s.program.now.names rest p class method m a ws given (plain p class method m b.scene) old f left r))
  settled_comes a ws given (Some g) plain h = λ p class method m rest b. record {
    row = settled_row s.program.now.names rest p class method m a ws given (plain p class method m b.scene) old new f g
        (subst (λ n. Settles old new n ws given f g) b.scene.max_stack h);
    there = h.there;
    width = ap length h.locals;
  }

  pub settles_come : (a : Action) (ws : List Want) (given : List Kind) (r : Result (Option Frame) Memory) →
      ((p : Program) (class method : ℕ) (m : MethodOf) → IsScene p class method m s →
      IsPlain s.program.now.names p class method m a ws given) →
      IfOk r (λ o. MatchOption o (CanSettle old s.max_stack ws given f → ⊥) (λ g. Settles old new s.max_stack ws given f g)) →
      IfOk r (λ o. Comes s old new f a o)
  settles_come a ws given (Ok o) plain h = settled_comes a ws given o plain h
  settles_come a ws given (Err e) plain h = tt

  -- an instruction by what it is
  pub comes_as : (a b : Action) (r : Result (Option Frame) Memory) → b ≡ a → IfOk r (λ o. Comes s old new f b o) →
      IfOk r (λ o. Comes s old new f a o)
  comes_as a b r e h = subst (λ x. IfOk r (λ o. Comes s old new f x o)) e h

  pub doubled_comes : (r : Result (Option Frame) Memory) →
      IfOk r (λ o. MatchOption o (CanDouble old s.max_stack f → ⊥) (λ g. Doubles old new s.max_stack f g)) →
      IfOk r (λ o. Comes s old new f Double o)
  doubled_comes (Err e) h = tt
  doubled_comes (Ok None) h = λ p class method m rest b left r.
      h (subst (λ n. CanDouble old n f) (sym b.scene.max_stack) (row_doubles s.program.now.names rest p class method m b.scene.there old f
      left r))
  doubled_comes (Ok (Some g)) h = λ p class method m rest b. record {
    row = double_row s.program.now.names rest p class method m b.scene.there old new f g
        (subst (λ n. Doubles old new n f g) b.scene.max_stack h);
    there = h.there;
    width = ap length h.locals;
  }

  pub swapped_comes : (r : Result (Option Frame) Memory) → length (stack_at old f.operands) ≤ s.max_stack →
      IfOk r (λ o. MatchOption o (CanSwap old f → ⊥) (λ g. Swaps old new f g)) → IfOk r (λ o. Comes s old new f Swap o)
  swapped_comes (Err e) fits h = tt
  swapped_comes (Ok None) fits h =
      λ p class method m rest b left r. h (row_swaps s.program.now.names rest p class method m b.scene.there old f left r)
  swapped_comes (Ok (Some g)) fits h = λ p class method m rest b. record {
    row = swap_row s.program.now.names rest p class method m b.scene.there old new f g
        (subst (λ n. length (stack_at old f.operands) ≤ n) b.scene.max_stack fits) h;
    there = h.there;
    width = ap length h.locals;
  }

  pub loaded_comes : (sort : Sort) (local : ℕ) (r : Result (Option Frame) Memory) → local < 256 →
      IfOk r (λ o. MatchOption o (CanLoad old s.max_stack sort local f → ⊥) (λ g. Loads old new s.max_stack sort local f g)) →
      IfOk r (λ o. Comes s old new f (Load (sort_of sort) local) o)
  loaded_comes sort local (Err e) small h = tt
  loaded_comes sort local (Ok None) small h = λ p class method m rest b left r.
      h (subst (λ n. CanLoad old n sort local f) (sym b.scene.max_stack)
      (row_loads s.program.now.names rest p class method m b.scene.there old sort local f left b.keeps small r))
  loaded_comes sort local (Ok (Some g)) small h = λ p class method m rest b. record {
    row = load_row s.program.now.names rest p class method m b.scene.there old new sort local f g b.keeps small b.whole
        (subst (λ n. Loads old new n sort local f g) b.scene.max_stack h);
    there = h.there;
    width = ap length h.locals;
  }

set_many : {A : Type 0} (xs : List A) (i : ℕ) (a : A) → length (slice_set xs i a) ≡ length xs
set_many [] i a = refl
set_many (x ∷ xs) zero a = refl
set_many (x ∷ xs) (suc i) a = ap suc (set_many xs i a)

module _ (s : Scene) (stacks : List (List Kind)) (f : Frame) (fits : length (stack_at stacks f.operands) ≤ s.max_stack) where
  within : (p : Program) (class method : ℕ) (m : MethodOf) → IsScene p class method m s → length (stack_at stacks f.operands) ≤ m.max_stack
  within p class method m i = subst (λ n. length (stack_at stacks f.operands) ≤ n) i.max_stack fits

  pub stored_comes : (sort : Sort) (local : ℕ) (r : Result (Option Frame) Memory) → local < 256 →
      IfOk r (λ o. MatchOption o (CanStore stacks sort local f → ⊥) (λ g. Stores stacks sort local f g)) →
      IfOk r (λ o. Comes s stacks stacks f (Store (sort_of sort) local) o)
  stored_comes sort local (Err e) small h = tt
  stored_comes sort local (Ok None) small h = λ p class method m rest b left r.
      h (row_stores s.program.now.names rest p class method m b.scene.there stacks sort local f left b.keeps small r)
  stored_comes sort local (Ok (Some g)) small h = λ p class method m rest b. record {
    row = store_row s.program.now.names rest p class method m b.scene.there stacks sort local f g (within p class method m b.scene) h;
    there = h.there;
    width = ap length h.locals ∙ set_many (locals_of f) local h.can.kind;
  }

  pub increased_comes : (local : ℕ) (value : ℤ) (o : Option Frame) → f.operands < length stacks → local < 256 →
      MatchOption o (CanRead sorts.Number local f → ⊥) (λ g. (g ≡ f) × CanRead sorts.Number local f) →
      Comes s stacks stacks f (Increase local value) o
  increased_comes local value None there small h = λ p class method m rest b left r.
      h (row_increases s.program.now.names rest p class method m b.scene.there stacks local value f left b.keeps small r)
  increased_comes local value (Some g) there small h = subst (λ x. Comes s stacks stacks f (Increase local value) (Some x)) (sym h.0)
      (λ p class method m rest b. record {
        row = increase_row s.program.now.names rest p class method m b.scene.there stacks local value f b.keeps small
            (within p class method m b.scene) h.1;
        there = there;
        width = refl;
      })

  pub gone_comes : (target : ℕ) → f.operands < length stacks → Comes s stacks stacks f (Go target) (Some f)
  gone_comes target there = λ p class method m rest b. record {
    row = go_row s.program.now.names rest p class method m b.scene.there stacks target f (within p class method m b.scene);
    there = there;
    width = refl;
  }
