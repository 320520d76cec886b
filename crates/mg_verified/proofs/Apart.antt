-- Class files have one line that tells their methods, and files that are refused have none.
use Rattle.std.proofs.Common.{◌≡◌, ℕ, List, Result, Ok, Err, sym, ap, ◌∙◌, subst}
use Rattle.std.specs.Prelude.{IfOk, OnOk}
use Rattle.mg_text.specs.Call.{Name}
use Rattle.vm_model.specs.Program.{Program}
use Rattle.cls_verify.specs.Typing.{AllTypable}
use Rattle.cls_search.specs.Verified.{FirstUntypable}
use Rattle.mg_refusal.specs.Refusals.{Refusal}
use Rattle.mg_refusal.specs.Order.{Answers, AnswersOnly}
use Rattle.mg_refusal.specs.declared.stop.Stop.{Stop}
use Rattle.mg_refusal.proofs.Orders.{then_never, unless_refused, never_ok}
use Rattle.mg_sources.specs.Files.{Source}
use Rattle.mg_exec.proofs.Apart.{one_program, program_not_refused}
use Rattle.world_typed_law.proofs.Suiting.{worlds_never_bad}
use Rattle.mg_verified.specs.Sound.{NeverEndBadly}
use Rattle.mg_verified.specs.Verified.{AreVerified, FirstRefusal, methods_of, verified_line}

-- the first method without a typing isn't among methods that all have typings
none_untypable : (p : Program) (class method : Name) → AllTypable p → FirstUntypable p class method → ⊥
none_untypable p class method all u = u.first.untypable (all u.class u.method u.first.found u.first.there)

pub not_refused : (files : List Source) (line : List ℕ) (r : Refusal) → AreVerified files line → FirstRefusal files r → ⊥
not_refused files line r h = then_never (program_not_refused files h.program h.linked) (λ program is r l.
    let same : h.program ≡ program = one_program files h.program program h.linked is in
    none_untypable program l.member.class l.member.method (subst AllTypable same h.typable) l.first) r

-- one line is told of files
pub one_line : (files : List Source) (line other : List ℕ) → AreVerified files line → AreVerified files other → line ≡ other
one_line files line other h k =
    h.told ∙ ap (λ p. verified_line (methods_of p)) (one_program files h.program k.program h.linked k.linked) ∙ sym k.told

module _ (files : List Source) (result : Result (List ℕ) Stop) (h : Answers (AreVerified files) (FirstRefusal files) result) where
  pub only_line : (line : List ℕ) → AreVerified files line → AnswersOnly (λ told. told ≡ line) result
  only_line line v =
      unless_refused (AreVerified files) (FirstRefusal files) (λ told. told ≡ line) result h (λ told is. one_line files told line is v)
      (λ r first. not_refused files line r v first)

  pub refused_line : (r : Refusal) → FirstRefusal files r → OnOk result ⊥
  refused_line r first =
      never_ok (AreVerified files) (FirstRefusal files) result h (λ told is. not_refused files told r is first)

-- no role of a world of such files ends badly
pub never_badly : (files : List Source) (result : Result (List ℕ) Stop) → Answers (AreVerified files) (FirstRefusal files) result →
    IfOk result (λ line. NeverEndBadly files)
never_badly files (Ok told) h = λ program is mains first begun picks r role at kind bad.
    worlds_never_bad program (subst AllTypable (one_program files h.program program h.linked is) h.typable) mains first begun picks r role
    at
    kind bad
never_badly files (Err stop) h = tt
