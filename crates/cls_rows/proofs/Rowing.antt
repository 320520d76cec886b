-- What an instruction comes to that takes operands and gives a kind, or uses a member of a built-in class.
use Rattle.std.proofs.Common.{◌≡◌, ℕ, List, Option, subst}
use Rattle.std.specs.Prelude.{Result, IfOk, MatchOption}
use Rattle.mg_text.specs.declared.memory.Memory.{Memory}
use Rattle.vm_model.specs.declared.linked.Built.{Built}
use Rattle.vm_model.specs.Program.{Program, MethodOf}
use Rattle.vm_model.specs.Actions.{Action, Use}
use Rattle.vm_actions.specs.declared.action.Plain.{Plain}
use Rattle.vm_actions.specs.Table.{plain_of}
use Rattle.cls_kinds.specs.declared.kind.Kind.{Kind}
use Rattle.cls_rows.specs.declared.frame.Frame.{Frame}
use Rattle.cls_rows.specs.declared.frame.Scene.{Scene}
use Rattle.cls_rows.specs.declared.want.Want.{Want}
use Rattle.cls_rows.specs.Settling.{Settles, CanSettle}
use Rattle.cls_rows.specs.Frames.{IsScene}
use Rattle.cls_rows.specs.Coming.{Comes}
use Rattle.cls_rows.specs.Trades.{built_wants, built_kinds, plain_wants, plain_kinds, IsTrade}
use Rattle.cls_rows.proofs.Settled.{IsPlain}
use Rattle.cls_rows.proofs.Coming.{settles_come}
use Rattle.cls_rows.proofs.Plainly.{trade_plain, built_plain}

module _ (s : Scene) (old new : List (List Kind)) (f : Frame) where
  -- what an instruction comes to that takes these operands and gives these kinds
  abbrev pub SettlesTo : List Want → List Kind → Result (Option Frame) Memory → Type 0
  SettlesTo ws given r = IfOk r (λ o. MatchOption o (CanSettle old s.max_stack ws given f → ⊥)
      (λ g. Settles old new s.max_stack ws given f g))

  abbrev pub ComesAs : Action → Result (Option Frame) Memory → Type 0
  ComesAs a r = IfOk r (λ o. Comes s old new f a o)

  -- the wants and kinds are those of the instruction
  pub trade_comes : (i : Plain) (ws : List Want) (given : List Kind) (r : Result (Option Frame) Memory) → plain_wants i ≡ ws →
      plain_kinds i ≡ given → IsTrade i →
      SettlesTo ws given r → ComesAs (plain_of i) r
  trade_comes i ws given r e g t h = settles_come s old new f (plain_of i) ws given r plain h
    where
      plain : (p : Program) (c n : ℕ) (m : MethodOf) → IsScene p c n m s → IsPlain s.program.now.names p c n m (plain_of i) ws given
      plain p c n m z = subst (λ x. IsPlain s.program.now.names p c n m (plain_of i) x given) e
          (subst (λ y. IsPlain s.program.now.names p c n m (plain_of i) (plain_wants i) y) g
          (trade_plain s.program.now.names z.kinds.names p c n m z.there i t))

  -- the wants and kinds are those of the member
  pub built_comes : (b : Built) (ws : List Want) (given : List Kind) (r : Result (Option Frame) Memory) → built_wants b ≡ ws →
      built_kinds b ≡ given →
      SettlesTo ws given r → ComesAs (Use b) r
  built_comes b ws given r e g h = settles_come s old new f (Use b) ws given r plain h
    where
      plain : (p : Program) (c i : ℕ) (m : MethodOf) → IsScene p c i m s → IsPlain s.program.now.names p c i m (Use b) ws given
      plain p c i m z = subst (λ x. IsPlain s.program.now.names p c i m (Use b) x given) e
          (subst (λ y. IsPlain s.program.now.names p c i m (Use b) (built_wants b) y) g
          (built_plain s.program.now.names z.kinds.names p c i m z.there b))
