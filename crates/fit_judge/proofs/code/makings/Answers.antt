use Rattle.std.proofs.Common.{◌≡◌, ℕ, drop, ◌∙◌, ◌-◌, ap, arith}
use Rattle.std.proofs.lemmas.Grind.{common_steps}
use Rattle.std.specs.HashMap.{get_by_text}
use Rattle.std.specs.String.{string_bytes}
use Rattle.stm_acts.specs.Played.{role_class}
use Rattle.jv_core.specs.Lookup.{class_numbered}
use Rattle.fit_judge.specs.inner.Making.{made_by}
use Rattle.fit_judge.proofs.Tables.{made_more}
use Rattle.fit_judge.proofs.code.makings.Goals as goal

pub loop-i-init : goal.loop-i-init
loop-i-init c = grind (arith, common_steps)

pub loop-i-preserved : goal.loop-i-preserved
loop-i-preserved c = record {
  within = omega arith;
  made = made_more c.args.core.now c.args.mains.now (c.loop-i.i - 1) c.loop-i.i c.index-mains-i.result (get_by_text c.loop-i.makes)
      (get_by_text c.write_making.new.makes) (string_bytes c.in_ok-class.class) c.copied.result (omega arith) (omega arith)
      c.index-mains-i.is c.loop-i.invariant.made (c.in_ok-class.ensures.ok ∙ c.as_str.ensures)
      (c.copied.ensures ∙ c.get.ensures.value ∙ c.in_ok-numbers.ensures c.as_str-in-loop-i-2.result.now
      ∙ ap (class_numbered c.args.core.now) (c.as_str-in-loop-i-2.ensures.value ∙ c.in_ok-made.ensures ∙ ap role_class c.as_str-in-loop-i.ensures))
      c.in_ok-write_making.ensures;
}

pub returns : goal.returns
returns c =
    let z : c.loop-i.i ≡ 0 = omega arith in λ q. c.loop-i.invariant.made q
    ∙ ap (λ (k : ℕ). made_by c.args.core.now (drop k c.args.mains.now) q) z
